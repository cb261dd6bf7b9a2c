use Rattle.std.proofs.Common.{◌≡◌, ◌<◌, ◌+◌, ◌-◌, ℕ, length, get_or, set, ap, ◌∙◌, arith}
use Rattle.leb_codec.specs.Layout.{SlotRow, row_at}
use Rattle.slot_layout.specs.Rows.{rows_of}
use Rattle.slot_layout.proofs.GrowLaws.{row_is, count_rows}
use Rattle.check_units.specs.inside.Dealing.{step_at}
use Rattle.check_units.specs.inside.Sums.{numbers_of}
use Rattle.check_units.proofs.GrowthLaws.{growth, take_next}
use Rattle.check_units.proofs.growing.take_step.Goals as goal

pub returns : goal.returns
returns c =
    let slots = c.args.slots.now in
    let steps = c.args.steps.now in
    let slot = (step_at steps c.args.next).slot in
    let numbers = numbers_of c.args.sums.now.cells.items in
    let inside : slot < length slots = c.requires.steps.slots c.args.next c.requires.next in
    let form = ap (λ (row : SlotRow). growth row.form) (row_is slots slot inside) in
    let more : c.size_after.result - c.size_after-2.result ≡ growth (row_at (rows_of slots) slot).form = omega (arith, c.size_after.ensures, c.size_after-2.ensures, form) in
    take_next (rows_of slots) steps c.args.next c.args.sums.now.cells.items c.requires.taken c.requires.next (omega (arith, inside, count_rows slots)) c.add.new.self.cells.items c.add.ensures.sums
    (c.add.ensures.added ∙ ap (λ (m : ℕ). set numbers slot (get_or numbers slot 0 + m)) more)
