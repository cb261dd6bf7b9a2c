use Rattle.std.proofs.Common.{List, ℕ, sym, subst}
use Rattle.slot_layout.specs.declared.slots.Slot.{Slot}
use Rattle.slot_layout.specs.Rows.{rows_of}
use Rattle.unit_slots.specs.Standing.{HasStandingSlots}
use Rattle.value_links.specs.Reading.{Reading}
use Rattle.check_records.proofs.Verdicts.{unit_verdict}
use Rattle.check_records.proofs.units.judge_unit.Goals as goal

pub returns : goal.returns
returns c =
    unit_verdict c.args.written.now.image c.args.unit (rows_of c.deref.result.now) c.deref-2.result.now c.args.ranks.now
    (λ (s : Reading) read. subst (λ (z : List Slot). HasStandingSlots s c.args.unit (rows_of z) c.deref-2.result.now) (sym c.deref.ensures.value) (subst (λ (z : List ℕ). HasStandingSlots s c.args.unit (rows_of c.in_ok-standing.standing.slots.items) z) (sym c.deref-2.ensures.value) (c.in_ok-standing.ensures.stand s read)))
    c.accept_layout.result c.accept_layout.ensures.accepted c.accept_layout.ensures.first
