use Rattle.std.proofs.Common.{◌≡◌, ◌≤◌, ◌<◌, ◌+◌, ◌∙◌, ℕ, List, length, subst, sym, ap, arith, inl, inr, below_more}
use Rattle.std.specs.Prelude.{true, false, OnOk, Result, Ok, Err}
use Rattle.std.proofs.lemmas.Result.{IfErr-weaker}
use Rattle.dw_base.specs.declared.fault.Fault.{Fault}
use Rattle.dw_base.specs.declared.fault.Kind.TheVariants.{Target as NoTarget}
use Rattle.dw_base.specs.declared.fault.Reach.{Reach}
use Rattle.entry_arena.specs.Order.{IsInOrder}
use Rattle.entry_read.specs.declared.head.UnitHead.{UnitHead}
use Rattle.entry_read.specs.Units.{HeadAndForest}
use Rattle.value_links.specs.declared.units.Units.{Units}
use Rattle.value_links.specs.Reading.{Linkable, unit_at}
use Rattle.value_links.specs.Values.{entry_of}
use Rattle.value_links.specs.Links.{held_at}
use Rattle.value_links.specs.Parts.{HoldsParts}
use Rattle.value_links.specs.LinkFaults.{FaultType, FaultLow}
use Rattle.value_links.specs.inside.Checks.{AreSomeUnits, table_held, IsTyped, AreColumnsLinked, InEach, IsUnitFault}
use Rattle.value_links.proofs.TabledUnits.{some_with_table, in_order, type_inside}
use Rattle.value_links.proofs.PartValues.{entry_linked, unit_linked, type_fault}
use Rattle.value_links.proofs.check.check_unit.Goals as goal

pub loop-id-preserved : goal.loop-id-preserved
loop-id-preserved c = λ (file : List ℕ) (r : Linkable) (holds : HoldsParts file r c.args.parts.now).
    let all : c.len-id-end.result ≡ length (held_at c.args.parts.now.units.units.items c.args.number).forest.entries = c.len-id-end.ensures ∙ ap (λ z. length z.entries) (c.forest.ensures ∙ ap (λ z. z.forest) c.unit_of-unit.ensures) in
    let known : c.loop-id.id < length (held_at c.args.parts.now.units.units.items c.args.number).forest.entries = subst (λ (z : ℕ). c.loop-id.id < z) all c.loop-id-test.true in
    let here = entry_linked file r c.args.parts.now holds c.args.number c.requires.number c.loop-id.id known (c.in_ok-check_entry.ensures.linked file r holds) in
    below_more (λ (id : ℕ). AreColumnsLinked r c.args.number id (entry_of (unit_at r c.args.number) id).count) c.loop-id.id (c.loop-id.invariant file r holds) here

-- what is known of the unit where it isn't typed
record IsUntyped (unit : HeadAndForest) (head : UnitHead) : Type 0 where
  typed : IsTyped unit false
  at : head.at ≡ unit.head.at
  inside : unit.head.at + 20 ≤ length unit.forest.section

untyped : (held : Units) (u : ℕ) (unit : HeadAndForest) (head : UnitHead) → AreSomeUnits held → u < length held.units.items → unit ≡ held_at held.units.items u → head ≡ unit.head → (IsInOrder unit.forest → IsTyped unit false) → IsUntyped (held_at held.units.items u) head
untyped held u unit head some inside e h is =
    let table = some_with_table held some u inside in
    let order : IsInOrder unit.forest = subst (λ (z : HeadAndForest). IsInOrder z.forest) (sym e) (in_order (held_at held.units.items u) (table_held held u) table) in
    let typed : IsTyped (held_at held.units.items u) false = subst (λ (z : HeadAndForest). IsTyped z false) e (is order) in
    record { typed = typed; at = ap (λ (z : UnitHead). z.at) (h ∙ ap (λ (z : HeadAndForest). z.head) e); inside = type_inside (held_at held.units.items u) (table_held held u) table typed.0 }

pub overflow_add-result : goal.overflow_add-result
overflow_add-result c =
    let is = untyped c.args.parts.now.units c.args.number c.unit_of-unit.result.now c.head.result c.requires.held c.requires.number c.unit_of-unit.ensures c.head.ensures c.if-not-is_typed.ensures in
    let room = c.requires.room in
    omega (arith, is.at, is.inside, room)

pub returns-then-not-is_typed-clause-fault : goal.returns-then-not-is_typed-clause-fault
returns-then-not-is_typed-clause-fault c = λ (file : List ℕ) (r : Linkable) (holds : HoldsParts file r c.args.parts.now) (reach : Reach).
    let is = untyped c.args.parts.now.units c.args.number c.unit_of-unit.result.now c.head.result c.requires.held c.requires.number c.unit_of-unit.ensures c.head.ensures c.if-not-is_typed.ensures in
    inr (inl (subst (λ (z : ℕ). FaultType r c.args.number NoTarget (z + 20)) (sym is.at) (type_fault file r c.args.parts.now holds c.args.number c.requires.number is.typed)))

pub returns-then-not-is_typed-clause-inside : goal.returns-then-not-is_typed-clause-inside
returns-then-not-is_typed-clause-inside c =
    let is = untyped c.args.parts.now.units c.args.number c.unit_of-unit.result.now c.head.result c.requires.held c.requires.number c.unit_of-unit.ensures c.head.ensures c.if-not-is_typed.ensures in
    omega (arith, is.at, is.inside)

-- what holds of a value holds where more follows from it
on_ok : {T E : Type 0} {P Q : Type 0} (result : Result T E) → (P → Q) → OnOk result P → OnOk result Q
on_ok (Ok x) more p = more p
on_ok (Err y) more p = p

pub returns-clause-linked : goal.returns-clause-linked
returns-clause-linked c = on_ok c.check_first_base.result (λ based. (λ (file : List ℕ) (r : Linkable) (holds : HoldsParts file r c.args.parts.now).
    let table = some_with_table c.args.parts.now.units c.requires.held c.args.number c.requires.number in
    let order : IsInOrder c.unit_of-unit.result.now.forest = subst (λ (z : HeadAndForest). IsInOrder z.forest) (sym c.unit_of-unit.ensures) (in_order (held_at c.args.parts.now.units.units.items c.args.number) (table_held c.args.parts.now.units c.args.number) table) in
    let typed : IsTyped (held_at c.args.parts.now.units.units.items c.args.number) true = subst (λ (z : HeadAndForest). IsTyped z true) c.unit_of-unit.ensures (c.if-not-is_typed.ensures order) in
    let all : c.len-id-end.result ≡ length (held_at c.args.parts.now.units.units.items c.args.number).forest.entries = c.len-id-end.ensures ∙ ap (λ z. length z.entries) (c.forest.ensures ∙ ap (λ z. z.forest) c.unit_of-unit.ensures) in
    unit_linked file r c.args.parts.now holds c.args.number c.requires.number c.loop-id.id (omega (arith, all, c.loop-id-test.false, c.loop-id.auto.id-end)) (c.loop-id.invariant file r holds) typed (based file r holds))) c.check_first_base.ensures.found

pub returns-clause-fault : goal.returns-clause-fault
returns-clause-fault c = IfErr-weaker c.check_first_base.result (λ (fault : Fault). InEach c.args.parts.now (λ (r : Linkable). FaultLow r c.args.number fault.kind fault.place)) (λ (fault : Fault). InEach c.args.parts.now (IsUnitFault c.args.number fault)) (λ fault low file r holds reach. inr (inr (inl (low file r holds)))) c.check_first_base.ensures.fault
