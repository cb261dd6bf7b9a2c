use Rattle.std.proofs.Common.{◌≡◌, ℕ, List, length, add-one, sym, ap, subst, arith}
use Rattle.slot_layout.specs.Rows.{most_slots}
use Rattle.expr_ops.specs.Expressions.{Operation}
use Rattle.entry_arena.specs.Arena.{Arena}
use Rattle.entry_read.specs.Slots.{aims_before, meaning_at, operations_in}
use Rattle.unit_slots.specs.inside.Rows.{NamesThere, AreRows}
use Rattle.unit_slots.proofs.RowLaws.{no_rows}
use Rattle.unit_slots.proofs.RowValues.{value_few, value_named}
use Rattle.unit_slots.proofs.rows.own_slots.Goals as goal

pub loop-number-init : goal.loop-number-init
loop-number-init c = λ own spots. no_rows c.args.unit.now (operations_in c.args.unit.now.forest c.args.operations.now) own c.new-slots.result.items c.new-slots.ensures.items

pub push_value_slots-requires-clause-named : goal.push_value_slots-requires-clause-named
push_value_slots-requires-clause-named c =
    let f : Arena = c.args.unit.now.forest in
    let many : length c.forest.result.now.values ≡ length f.values = ap (λ (z : Arena). length z.values) c.forest.ensures in
    value_named f (operations_in f c.args.operations.now) c.loop-number.number (omega arith) (NamesThere c.args.unit.now) c.requires.named

pub push_value_slots-requires-clause-few : goal.push_value_slots-requires-clause-few
push_value_slots-requires-clause-few c =
    let f : Arena = c.args.unit.now.forest in
    let many : length c.forest.result.now.values ≡ length f.values = ap (λ (z : Arena). length z.values) c.forest.ensures in
    let (own, spots) = c.requires.spots in
    value_few f (operations_in f c.args.operations.now) c.loop-number.number (omega arith) most_slots (length c.loop-number.slots.items) c.requires.few (c.loop-number.invariant own spots).counted

pub loop-number-preserved : goal.loop-number-preserved
loop-number-preserved c = λ own spots.
    let f : Arena = c.args.unit.now.forest in
    let ops : ℕ → List Operation = operations_in f c.args.operations.now in
    subst (λ (z : ℕ). AreRows c.args.unit.now ops own (aims_before (meaning_at f) ops z) c.push_value_slots.new.slots.items) (sym (add-one c.loop-number.number)) (c.in_ok-push_value_slots.ensures own spots (c.loop-number.invariant own spots))

pub returns : goal.returns
returns c = λ own spots.
    let f : Arena = c.args.unit.now.forest in
    let ops : ℕ → List Operation = operations_in f c.args.operations.now in
    let many : length c.forest.result.now.values ≡ length f.values = ap (λ (z : Arena). length z.values) c.forest.ensures in
    let all : c.loop-number.number ≡ length f.values = omega arith in
    subst (λ (z : ℕ). AreRows c.args.unit.now ops own (aims_before (meaning_at f) ops z) c.loop-number.slots.items) all (c.loop-number.invariant own spots)
