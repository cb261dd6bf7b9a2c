use Rattle.std.proofs.Common.{◌≡◌, ◌≤◌, ◌<◌, ◌+◌, ◌^◌, ◌∙◌, ℕ, suc, List, take, sym, ap, subst, arith}
use Rattle.leb_codec.specs.Layout.{uleb}
use Rattle.slot_layout.specs.Rows.{row_of}
use Rattle.expr_ops.specs.Expressions.{Operation}
use Rattle.expr_ops.specs.Ops.{meant, all_meant}
use Rattle.expr_ops.specs.Shortest.{fixed_length}
use Rattle.expr_ops.specs.Slots.{Aim, slots_among}
use Rattle.unit_slots.specs.inside.Rows.{IsRowFor}
use Rattle.unit_slots.proofs.RowAims.{fixed_take, slots_take, meant_take, take_least, aim_length}
use Rattle.unit_slots.proofs.RowLaws.{length_row}
use Rattle.unit_slots.proofs.rows.op_slot.Goals as goal

pub length_slot-requires-clause-fits : goal.length_slot-requires-clause-fits
length_slot-requires-clause-fits c =
    let os : List Operation = all_meant c.args.bytes.now c.args.behind.now in
    let part : fixed_length (all_meant c.args.bytes.now (take c.min-count.result c.args.behind.now)) ≡ fixed_length (take c.min-count.result os) = ap fixed_length (meant_take c.args.bytes.now c.args.behind.now c.min-count.result) in
    let less : fixed_length (take c.min-count.result os) ≤ fixed_length os = fixed_take c.min-count.result os in
    let fits : fixed_length os < 2 ^ 34 = c.requires.fits in
    omega arith

pub length_slot-requires-clause-few : goal.length_slot-requires-clause-few
length_slot-requires-clause-few c =
    let os : List Operation = all_meant c.args.bytes.now c.args.behind.now in
    let part : slots_among (all_meant c.args.bytes.now (take c.min-count.result c.args.behind.now)) ≡ slots_among (take c.min-count.result os) = ap slots_among (meant_take c.args.bytes.now c.args.behind.now c.min-count.result) in
    let less : slots_among (take c.min-count.result os) ≤ slots_among os = slots_take c.min-count.result os in
    let few : suc c.args.number + slots_among os < 2 ^ 32 = c.requires.few in
    omega arith

pub returns-then-op : goal.returns-then-op
returns-then-op c = λ ops own spots.
    let bytes : List ℕ = c.args.bytes.now in
    let os : List Operation = all_meant bytes c.args.behind.now in
    let held : List Operation = take c.args.op.now.inner os in
    let same : all_meant bytes (take c.min-count.result c.args.behind.now) ≡ held = ap (all_meant bytes) (take_least c.args.behind.now c.args.op.now.inner c.min-count.result c.min-count.ensures) ∙ meant_take bytes c.args.behind.now c.args.op.now.inner in
    let row : row_of c.length_slot.result ≡ record { form = uleb; fixed = fixed_length held; from = suc c.args.number; to = suc c.args.number + slots_among held } = subst (λ (z : List Operation). row_of c.length_slot.result ≡ record { form = uleb; fixed = fixed_length z; from = suc c.args.number; to = suc c.args.number + slots_among z }) same c.length_slot.ensures in
    let less : fixed_length held ≤ fixed_length os = fixed_take c.args.op.now.inner os in
    let fits : fixed_length os < 2 ^ 34 = c.requires.fits in
    subst (λ (z : Aim). IsRowFor c.args.unit.now ops own c.args.number z c.length_slot.result) (sym (aim_length (meant bytes c.args.op.now) os c.if-op.true)) (length_row c.args.unit.now ops own c.args.number held c.length_slot.result row (omega arith))
