use Rattle.std.proofs.Common.{◌<◌, ◌^◌, ◌∙◌, ℕ, List, length, sym, subst, refl, arith, true≢false, below_more}
use Rattle.entry_read.specs.Units.{HeadAndForest}
use Rattle.value_links.specs.Reading.{Linkable}
use Rattle.value_links.specs.Whole.{HasAddrBase}
use Rattle.value_links.specs.Links.{held_at}
use Rattle.value_links.specs.Parts.{HoldsParts}
use Rattle.value_links.specs.inside.Checks.{table_held, HasSomeAddrBase}
use Rattle.value_links.proofs.TabledUnits.{some_few}
use Rattle.value_links.proofs.NamedAddresses.{named_by_unit, some_unit}
use Rattle.value_links.proofs.roots.names_addresses.Goals as goal

pub overflow_cast-number-end : goal.overflow_cast-number-end
overflow_cast-number-end c =
    let few : length c.args.parts.now.units.units.items < 2 ^ 32 = some_few c.args.parts.now.units c.requires.held in
    omega (arith, few, c.len-number-end.ensures)

pub returns-then-unit_names_addresses : goal.returns-then-unit_names_addresses
returns-then-unit_names_addresses c = λ (file : List ℕ) (r : Linkable) (holds : HoldsParts file r c.args.parts.now).
    let units = c.args.parts.now.units in
    let number = c.loop-number.number in
    let inside : number < length units.units.items = omega (arith, c.len-number-end.ensures) in
    let by_unit : HasSomeAddrBase (held_at units.units.items number) c.table_of.result.now = subst (λ (z : HeadAndForest). HasSomeAddrBase z c.table_of.result.now) c.unit_of.ensures (c.unit_names_addresses.ensures.0 c.if-unit_names_addresses.true) in
    let some : HasSomeAddrBase (held_at units.units.items number) (table_held units number) = subst (HasSomeAddrBase (held_at units.units.items number)) c.table_of.ensures.table by_unit in
    (λ yes. named_by_unit file r c.args.parts.now holds number inside some, λ has. refl)

pub loop-number-preserved : goal.loop-number-preserved
loop-number-preserved c =
    let units = c.args.parts.now.units in
    let number = c.loop-number.number in
    let none : ¬ HasSomeAddrBase (held_at units.units.items number) (table_held units number) = λ some.
    let by_table : HasSomeAddrBase (held_at units.units.items number) c.table_of.result.now = subst (HasSomeAddrBase (held_at units.units.items number)) (sym c.table_of.ensures.table) some in
    let by_unit : HasSomeAddrBase c.unit_of.result.now c.table_of.result.now = subst (λ (z : HeadAndForest). HasSomeAddrBase z c.table_of.result.now) (sym c.unit_of.ensures) by_table in
    true≢false (sym (c.unit_names_addresses.ensures.1 by_unit) ∙ c.if-unit_names_addresses.false) in
    below_more (λ (u : ℕ). ¬ HasSomeAddrBase (held_at units.units.items u) (table_held units u)) number c.loop-number.invariant none

pub returns : goal.returns
returns c = λ (file : List ℕ) (r : Linkable) (holds : HoldsParts file r c.args.parts.now). (
  λ no. absurd (true≢false (sym no)),
  λ (has : HasAddrBase r.units).
      let some = some_unit file r c.args.parts.now holds has in
      let less : some.0 < length c.args.parts.now.units.units.items = some.1 in
      absurd (c.loop-number.invariant some.0 (omega (arith, less, c.len-number-end.ensures, c.loop-number-test.false)) some.2),
)
