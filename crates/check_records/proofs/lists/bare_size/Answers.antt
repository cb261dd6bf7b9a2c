use Rattle.std.proofs.Common.{◌+◌, ◌-◌, ◌∙◌, List, get_or, sym, subst, refl, arith}
use Rattle.list_model.specs.declared.entry.RawEntry.{RawEntry}
use Rattle.check_records.specs.inside.Bare.{AreCounted, HasBareSize}
use Rattle.check_records.proofs.BareSizes.{counting_starts, next_ends, next_small, counting_goes_on, all_counted}
use Rattle.check_records.proofs.lists.bare_size.Goals as goal

pub loop-raw-init : goal.loop-raw-init
loop-raw-init c = counting_starts c.args.kind c.args.section.now c.args.list.now.raw c.requires

pub operands_end-requires : goal.operands_end-requires
operands_end-requires c =
    let counted = subst (λ (z : List RawEntry). AreCounted c.args.kind c.args.section.now z c.loop-raw.raw-index c.loop-raw.size) (sym (c.deref-raw-items.ensures.value ∙ c.entries.ensures)) c.loop-raw.invariant in
    next_ends c.args.kind c.args.section.now c.deref-raw-items.result.now c.loop-raw.raw-index c.loop-raw.size counted c.loop-raw-test.true (record { at = 0; code = 0; a = 0; b = 0; expr = record { at = 0; len = 0 } })

pub loop-raw-preserved : goal.loop-raw-preserved
loop-raw-preserved c =
    let counted = subst (λ (z : List RawEntry). AreCounted c.args.kind c.args.section.now z c.loop-raw.raw-index c.loop-raw.size) (sym (c.deref-raw-items.ensures.value ∙ c.entries.ensures)) c.loop-raw.invariant in
    subst (λ (z : List RawEntry). AreCounted c.args.kind c.args.section.now z (c.loop-raw.raw-index + 1) (c.loop-raw.size + (c.operands_end.result - (get_or c.deref-raw-items.result.now c.loop-raw.raw-index (record { at = 0; code = 0; a = 0; b = 0; expr = record { at = 0; len = 0 } })).at))) (c.deref-raw-items.ensures.value ∙ c.entries.ensures)
    (counting_goes_on c.args.kind c.args.section.now c.deref-raw-items.result.now c.loop-raw.raw-index c.loop-raw.size counted c.loop-raw-test.true (record { at = 0; code = 0; a = 0; b = 0; expr = record { at = 0; len = 0 } }) c.operands_end.result c.operands_end.ensures _ refl)

pub overflow_add-size : goal.overflow_add-size
overflow_add-size c =
    let counted = subst (λ (z : List RawEntry). AreCounted c.args.kind c.args.section.now z c.loop-raw.raw-index c.loop-raw.size) (sym (c.deref-raw-items.ensures.value ∙ c.entries.ensures)) c.loop-raw.invariant in
    let small = next_small c.args.kind c.args.section.now c.deref-raw-items.result.now c.loop-raw.raw-index c.loop-raw.size counted c.loop-raw-test.true (record { at = 0; code = 0; a = 0; b = 0; expr = record { at = 0; len = 0 } }) c.operands_end.result c.operands_end.ensures in
    omega (arith, small)

pub returns : goal.returns
returns c =
    let counted = subst (λ (z : List RawEntry). AreCounted c.args.kind c.args.section.now z c.loop-raw.raw-index c.loop-raw.size) (sym (c.deref-raw-items.ensures.value ∙ c.entries.ensures)) c.loop-raw.invariant in
    subst (λ (z : List RawEntry). HasBareSize c.args.kind c.args.section.now z c.loop-raw.size) (c.deref-raw-items.ensures.value ∙ c.entries.ensures)
    (all_counted c.args.kind c.args.section.now c.deref-raw-items.result.now c.loop-raw.raw-index c.loop-raw.size counted (omega arith))
