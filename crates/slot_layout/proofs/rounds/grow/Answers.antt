use Rattle.std.proofs.Common.{◌≡◌, ◌<◌, ℕ, List, length, get_or, arith, ap, ◌∙◌, sym}
use Rattle.leb_codec.specs.Layout.{row_at, steps_to}
use Rattle.slot_layout.specs.Rows.{rows_of, form_of}
use Rattle.slot_layout.proofs.SizeLaws.{steps_few}
use Rattle.slot_layout.proofs.RoundLaws.{need_below_five}
use Rattle.slot_layout.proofs.GrowLaws.{no_slot, row_is, count_rows, slot_from, slot_to, slot_fixed, starts_rise, needed, halfway_keep, halfway_raise}
use Rattle.slot_layout.specs.declared.slots.Slot.{Slot}
use Rattle.slot_layout.proofs.rounds.grow.Goals.{then-need-size, else-need-size}
use Rattle.slot_layout.proofs.rounds.grow.Goals as goal

pub number-requires-clause-from : goal.number-requires-clause-from
number-requires-clause-from c =
    let slots = c.args.slots.now in
    omega (arith, slot_from slots c.requires.slots c.loop-i.i c.loop-i-test.true, slot_to slots c.requires.slots c.loop-i.i c.loop-i-test.true, c.sum_sizes.ensures.one_more, c.requires.sizes)

pub number-requires-clause-to : goal.number-requires-clause-to
number-requires-clause-to c =
    let slots = c.args.slots.now in
    omega (arith, slot_to slots c.requires.slots c.loop-i.i c.loop-i-test.true, c.sum_sizes.ensures.one_more, c.requires.sizes)

pub number-requires-clause-rising : goal.number-requires-clause-rising
number-requires-clause-rising c =
    let slots = c.args.slots.now in
    let within = slot_to slots c.requires.slots c.loop-i.i c.loop-i-test.true in
    starts_rise c.args.sizes.now c.sum_sizes.new.starts c.sum_sizes.ensures _ _ (slot_from slots c.requires.slots c.loop-i.i c.loop-i-test.true) (omega (arith, within, c.requires.sizes))

pub number-requires-clause-fixed : goal.number-requires-clause-fixed
number-requires-clause-fixed c = slot_fixed c.args.slots.now c.requires.slots c.loop-i.i c.loop-i-test.true

-- the form of a slot's row
form_is : (slots : List Slot) (i : ℕ) → i < length slots → (row_at (rows_of slots) i).form ≡ form_of (get_or slots i no_slot).kind
form_is slots i inside = ap (λ row. row.form) (row_is slots i inside)

pub note-requires : goal.note-requires
note-requires c =
    let slots = c.args.slots.now in
    let i = c.loop-i.i in
    let inside = c.loop-i-test.true in
    let row_inside : i < length (rows_of slots) = omega (arith, count_rows slots, inside) in
    let is = needed slots c.requires.slots c.args.sizes.now c.sum_sizes.new.starts c.sum_sizes.ensures c.requires.sizes i inside c.number.result c.need-need.result c.number.ensures c.need-need.ensures.need in
    let five = need_below_five c.least_lens.ensures.u (rows_of slots) c.requires.slots c.args.sizes.now c.requires.small (c.requires.sizes ∙ sym (count_rows slots)) i row_inside in
    let few = steps_few (form_of (get_or slots i no_slot).kind) c.need-need.result (omega (arith, is, five)) in
    omega (arith, c.steps-then-need-size.ensures, few)

pub loop-i-preserved : goal.loop-i-preserved
loop-i-preserved c =
    let slots = c.args.slots.now in
    let i = c.loop-i.i in
    let inside = c.loop-i-test.true in
    let is = needed slots c.requires.slots c.args.sizes.now c.sum_sizes.new.starts c.sum_sizes.ensures c.requires.sizes i inside c.number.result c.need-need.result c.number.ensures c.need-need.ensures.need in
    elim c.if-need-size.branch [
      | then-need-size w ↦
          let form = form_is slots i inside in
          rw (w.sizes-is, w.ranks-is, w.is_raised-is)
          (record {
            starts = c.sum_sizes.ensures;
            halfway = halfway_raise (rows_of slots) c.args.rank c.args.sizes.now c.args.ranks.now i c.loop-i.sizes c.loop-i.ranks c.loop-i.is_raised c.need-need.result w.steps.result w.steps-then-need-size.result _ w.note.result c.loop-i.invariant.halfway (omega (arith, c.requires.sizes, inside)) (omega (arith, c.requires.ranks, inside)) is w.if-need-size.true (w.steps.ensures ∙ ap (λ f. steps_to f (get_or c.loop-i.sizes i 0)) (sym form)) (w.steps-then-need-size.ensures ∙ ap (λ f. steps_to f c.need-need.result) (sym form)) w.note.ensures;
          })
      | else-need-size w ↦
          rw (w.sizes-is, w.ranks-is, w.is_raised-is)
          (record {
            starts = c.sum_sizes.ensures;
            halfway = halfway_keep (rows_of slots) c.args.rank c.args.sizes.now c.args.ranks.now i c.loop-i.sizes c.loop-i.ranks c.loop-i.is_raised c.loop-i.invariant.halfway (omega (arith, is, w.if-need-size.false));
          })
    ]
