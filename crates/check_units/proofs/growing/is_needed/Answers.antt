use Rattle.std.proofs.Common.{◌+◌, ◌/◌, ℕ, length, get_or, ap, ◌∙◌, arith}
use Rattle.std.proofs.lemmas.List.{length-drop}
use Rattle.leb_codec.specs.Layout.{need, size_after}
use Rattle.slot_layout.specs.Rows.{form_of}
use Rattle.slot_layout.proofs.GrowLaws.{no_slot}
use Rattle.check_units.specs.inside.Sums.{numbers_of}
use Rattle.check_units.proofs.HoldLaws.{slot_from, slot_to, needed_is}
use Rattle.check_units.proofs.growing.is_needed.Goals as goal

pub between-counted-requires : goal.between-counted-requires
between-counted-requires c =
    let slots = c.args.slots.now in
    let cells = c.args.sums.now.cells.items in
    record {
      sums = c.requires.sums;
      order = slot_from slots c.requires.slots c.args.step.slot c.requires.inside;
      inside = omega (arith, slot_to slots c.requires.slots c.args.step.slot c.requires.inside, length-drop (length cells / 2) cells, c.requires.sums.even, c.requires.long);
      room = c.requires.room;
    }

pub returns : goal.returns
returns c =
    let slots = c.args.slots.now in
    let slot = get_or slots c.args.step.slot no_slot in
    needed_is slots c.args.step c.requires.inside (numbers_of c.args.sums.now.cells.items) c.size_after.result c.from-2.result
    (c.size_after.ensures ∙ ap (λ (k : ℕ). size_after (form_of slot.kind) (k + 1)) c.from.ensures)
    (c.from-2.ensures ∙ c.need-needed.ensures ∙ ap (λ (n : ℕ). need (form_of slot.kind) (slot.fixed + n)) c.between-counted.ensures)
