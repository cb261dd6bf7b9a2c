use Rattle.std.proofs.Common.{rules, ◌≡◌, ◌≤◌, ◌<◌, ◌+◌, ◌∙◌, ℕ, List, length, get_or, map, sym, subst, arith}
use Rattle.std.proofs.lemmas.List.{get_or_default}
use Rattle.fixed_width.specs.InitialLengths.{least_reserved}
use Rattle.unit_write.specs.Moved.{IsPlacedAt}
use Rattle.unit_write.proofs.NumbersSet.{all_set}
use Rattle.unit_write.proofs.Placed.{entries_inside, ends_inside, unit_moved}
use Rattle.unit_write.proofs.places.Places.moved_to.Goals as goal

pub overflow_add-index_mut : goal.overflow_add-index_mut
overflow_add-index_mut c =
    let old : List ℕ = c.args.self.entries.items in
    let new : List ℕ = c.loop-id.entries.items in
    let k : ℕ = c.loop-id.id in
    let inside : k < length old = search rules in
    let long = c.loop-id.invariant.count in
    let read : c.index_mut.result.now ≡ get_or old k 0 = c.index_mut.ensures.value ∙ get_or_default new k c.index_mut.result.now 0 (omega (arith, inside, long)) ∙ c.loop-id.invariant.left k (omega arith) in
    let (unit, table, columns, numbers, lens, placed) = c.requires.placed in
    let below : get_or old k 0 ≤ c.args.self.end = entries_inside unit table columns numbers lens 0 old c.args.self.ends.items c.args.self.end k placed inside in
    let room : c.args.start + c.args.self.end < least_reserved = c.requires.room in
    omega arith

pub overflow_add-index_mut-in-loop-number : goal.overflow_add-index_mut-in-loop-number
overflow_add-index_mut-in-loop-number c =
    let old : List ℕ = c.args.self.ends.items in
    let new : List ℕ = c.loop-number.ends.items in
    let k : ℕ = c.loop-number.number in
    let inside : k < length old = search rules in
    let long = c.loop-number.invariant.count in
    let read : c.index_mut-in-loop-number.result.now ≡ get_or old k 0 = c.index_mut-in-loop-number.ensures.value ∙ get_or_default new k c.index_mut-in-loop-number.result.now 0 (omega (arith, inside, long)) ∙ c.loop-number.invariant.left k (omega arith) in
    let (unit, table, columns, numbers, lens, placed) = c.requires.placed in
    let below : get_or old k 0 ≤ c.args.self.end = ends_inside unit table columns numbers lens 0 c.args.self.entries.items old c.args.self.end k placed inside in
    let room : c.args.start + c.args.self.end < least_reserved = c.requires.room in
    omega arith

pub returns-clause-entries : goal.returns-clause-entries
returns-clause-entries c =
    let all : length c.args.self.entries.items ≤ c.loop-id.id = search rules in
    all_set (λ (place : ℕ). place + c.args.start) c.args.self.entries.items c.loop-id.id c.loop-id.entries.items all c.loop-id.invariant

pub returns-clause-ends : goal.returns-clause-ends
returns-clause-ends c =
    let all : length c.args.self.ends.items ≤ c.loop-number.number = search rules in
    all_set (λ (place : ℕ). place + c.args.start) c.args.self.ends.items c.loop-number.number c.loop-number.ends.items all c.loop-number.invariant

pub returns-clause-placed : goal.returns-clause-placed
returns-clause-placed c = λ unit table columns numbers lens placed.
    let start : ℕ = c.args.start in
    let all_entries : length c.args.self.entries.items ≤ c.loop-id.id = search rules in
    let all_ends : length c.args.self.ends.items ≤ c.loop-number.number = search rules in
    let entries : c.loop-id.entries.items ≡ map (λ (place : ℕ). place + start) c.args.self.entries.items = all_set (λ (place : ℕ). place + start) c.args.self.entries.items c.loop-id.id c.loop-id.entries.items all_entries c.loop-id.invariant in
    let ends : c.loop-number.ends.items ≡ map (λ (place : ℕ). place + start) c.args.self.ends.items = all_set (λ (place : ℕ). place + start) c.args.self.ends.items c.loop-number.number c.loop-number.ends.items all_ends c.loop-number.invariant in
    let moved = unit_moved unit table columns numbers lens start c.args.self.entries.items c.args.self.ends.items c.args.self.end placed in
    let first = subst (λ (z : List ℕ). IsPlacedAt unit table columns numbers lens start z (map (λ (place : ℕ). place + start) c.args.self.ends.items) (start + c.args.self.end)) (sym entries) moved in
    subst (λ (z : List ℕ). IsPlacedAt unit table columns numbers lens start c.loop-id.entries.items z (start + c.args.self.end)) (sym ends) first
