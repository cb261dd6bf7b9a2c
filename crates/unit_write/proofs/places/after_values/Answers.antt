use Rattle.std.proofs.Common.{◌≡◌, ◌<◌, ◌+◌, ◌⊎◌, ℕ, List, length, inl, inr, refl, arith}
use Rattle.fixed_width.specs.InitialLengths.{least_reserved}
use Rattle.unit_write.proofs.Sizing.{summed_next, summed_below, summed_all}
use Rattle.unit_write.proofs.places.after_values.Goals as goal

pub overflow_add-to : goal.overflow_add-to
overflow_add-to c =
    let s = c.in-Some.ensures.steps in
    let below : c.loop-column.to + c.written_size-to.result < least_reserved = summed_below c.args.columns.now c.args.values.now c.args.lens.now c.args.at c.in-Some.column.now c.in-Some.value.now c.in-Some.len.now _ c.next.new.self.a.a.rest.now _ c.next.new.self.a.b.rest.now _ c.next.new.self.b.rest.now c.loop-column.to c.written_size-to.result c.loop-column.invariant s.0.0 s.0.1 s.1 c.written_size-to.ensures in
    omega arith

pub loop-column-preserved : goal.loop-column-preserved
loop-column-preserved c =
    let s = c.in-Some.ensures.steps in
    summed_next c.args.columns.now c.args.values.now c.args.lens.now c.args.at c.in-Some.column.now c.in-Some.value.now c.in-Some.len.now _ c.next.new.self.a.a.rest.now _ c.next.new.self.a.b.rest.now _ c.next.new.self.b.rest.now c.loop-column.to c.written_size-to.result _ c.loop-column.invariant s.0.0 s.0.1 s.1 c.written_size-to.ensures refl

pub returns : goal.returns
returns c =
    let columns = c.loop-column.column-iterator.a.a.rest.now in
    let values = c.loop-column.column-iterator.a.b.rest.now in
    let lens : List ℕ = c.loop-column.column-iterator.b.rest.now in
    let none : (length columns ≡ 0) ⊎ ((length values ≡ 0) ⊎ (length lens ≡ 0)) = elim (c.in-None.ensures.steps) [ inl x ↦ elim (x.1) [ inl y ↦ inl y.1.0 | inr y ↦ inr (inl y.1.0) ] | inr x ↦ inr (inr x.1.0) ] in
    summed_all c.args.columns.now c.args.values.now c.args.lens.now c.args.at columns values lens c.loop-column.to c.loop-column.invariant none
