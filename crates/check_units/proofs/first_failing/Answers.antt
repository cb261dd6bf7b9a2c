use Rattle.std.proofs.Common.{◌≡◌, ℕ, List, length, min, sym, subst, ◌∙◌, arith}
use Rattle.leb_codec.specs.Layout.{AcceptsSlot, ranks_by_slot}
use Rattle.slot_layout.specs.Rows.{rows_of}
use Rattle.slot_layout.proofs.GrowLaws.{count_rows}
use Rattle.check_units.specs.declared.steps.Step.{Step}
use Rattle.check_units.specs.inside.Checks.{IsFirstWithout}
use Rattle.check_units.specs.inside.Dealing.{AreInOrder}
use Rattle.check_units.specs.inside.Growing.{AreSteps}
use Rattle.check_units.proofs.DealLaws.{by_slot_length, pieces_are, dealt_cuts}
use Rattle.check_units.proofs.GrowthLaws.{steps_are}
use Rattle.check_units.proofs.Verdicts.{first_of_parts}
use Rattle.check_units.proofs.first_failing.Goals as goal
use Rattle.check_units.proofs.first_failing.Goals.{After-deref}

pub ordered_steps-requires-clause-cuts : goal.ordered_steps-requires-clause-cuts
ordered_steps-requires-clause-cuts c =
    dealt_cuts (rows_of c.args.slots.now) c.args.sizes.now c.args.ranks.now c.args.starts.now c.requires.checked.each_slot c.requires.dealt c.requires.checked.sized (λ i lt. (c.type_inv.sizes i).fits)

-- the steps have the ranks of all slots
order : (c : After-deref) → AreInOrder (ranks_by_slot (rows_of c.args.slots.now) c.args.sizes.now c.args.ranks.now) c.deref.result.now
order c =
    let rows = rows_of c.args.slots.now in
    let lists = subst (λ (l : List (List ℕ)). AreInOrder l c.in_ok-steps.steps.items) (pieces_are rows c.args.sizes.now c.args.ranks.now c.args.starts.now c.requires.checked.each_slot c.requires.dealt) c.in_ok-steps.ensures in
    subst (λ (s : List Step). AreInOrder (ranks_by_slot rows c.args.sizes.now c.args.ranks.now) s) (sym c.deref.ensures.value) lists

lists_count : (c : After-deref) → length (ranks_by_slot (rows_of c.args.slots.now) c.args.sizes.now c.args.ranks.now) ≡ length (rows_of c.args.slots.now)
lists_count c = by_slot_length (rows_of c.args.slots.now) c.args.sizes.now c.args.ranks.now c.requires.checked.each_slot

pub first_unneeded-unneeded-requires-clause-steps :
    goal.first_unneeded-unneeded-requires-clause-steps
first_unneeded-unneeded-requires-clause-steps c =
    let d = (goal.at.first_unneeded-unneeded-requires-clause-steps c).After-deref in
    let slots = c.args.slots.now in
    let lists = ranks_by_slot (rows_of slots) c.args.sizes.now c.args.ranks.now in
    let steps = steps_are (rows_of slots) lists c.deref.result.now (lists_count d) (order d) in
    subst (λ (n : ℕ). AreSteps n c.deref.result.now) (count_rows slots) steps

pub returns : goal.returns
returns c =
    let d = (goal.at.returns c).After-deref in
    let slots = c.args.slots.now in
    let sizes = c.args.sizes.now in
    let ranks = c.args.ranks.now in
    let rows = rows_of slots in
    let needed = c.first_unneeded-unneeded.ensures (ranks_by_slot rows sizes ranks) (lists_count d ∙ count_rows slots) (order d) in
    let first = first_of_parts rows sizes ranks (length slots) c.first_misdealt-misdealt.result c.first_unneeded-unneeded.result c.first_unheld-unheld.result c.first_misdealt-misdealt.ensures needed c.first_unheld-unheld.ensures in
    let e : c.min-2.result ≡ min (min c.first_misdealt-misdealt.result c.first_unneeded-unneeded.result) c.first_unheld-unheld.result = omega (arith, c.min-2.ensures, c.min.ensures) in
    subst (IsFirstWithout (AcceptsSlot rows sizes ranks) (length slots)) (sym e) first
