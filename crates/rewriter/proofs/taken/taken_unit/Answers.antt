use Rattle.std.proofs.Common.{◌≡◌, ◌<◌, ◌∙◌, ℕ, List, false, length, slice_index, sym, ap, subst, arith}
use Rattle.std.proofs.lemmas.Grind.{common_steps}
use Rattle.form_codec.specs.declared.value.Value.{Value}
use Rattle.abbrev_tables.specs.declared.decl.Spec.{Spec}
use Rattle.abbrev_tables.specs.Listings.{spec_at}
use Rattle.entry_arena.specs.Order.{LendAlike}
use Rattle.entry_read.specs.Units.{HeadAndForest, declarations_of, unit_with, IsTable, IsUnitHeld}
use Rattle.value_links.specs.declared.units.NamedTable.{NamedTable}
use Rattle.value_links.specs.World.{table_at}
use Rattle.rewriter.specs.inside.Held.{table_for}
use Rattle.rewriter.specs.inside.Placed.{unit_in}
use Rattle.rewriter.specs.inside.Tables.{TableAnew, new_table_at}
use Rattle.rewriter.specs.inside.Taken.{is_taken, taken_values}
use Rattle.rewriter.proofs.Final.{named_is, new_table_is}
use Rattle.rewriter.proofs.Links.{own_is}
use Rattle.rewriter.proofs.PlacedUnits.{has_tables}
use Rattle.rewriter.proofs.TakenUnits.{table_stands, unit_held, renewed, lend_alike, none_taken, values_same}
use Rattle.rewriter.proofs.UnitExpressions.{number_read}
use Rattle.rewriter.proofs.taken.taken_unit.Goals as goal

pub index-requires-3 : goal.index-requires-3
index-requires-3 c =
    let has = has_tables c.args.world.now c.args.tables.now.items c.args.number c.requires.world c.requires.writable c.requires.known in
    let at = number_read c.args.world.now c.args.number c.table_numbers.result.now.items c.index.result.now has.numbered c.table_numbers.ensures c.index.ensures in
    let inside : slice_index c.args.world.now.table_of c.args.number < length c.args.tables.now.items = has.new in
    grind (arith, common_steps, at, inside)

pub some_taken-requires : goal.some_taken-requires
some_taken-requires c =
    let has = has_tables c.args.world.now c.args.tables.now.items c.args.number c.requires.world c.requires.writable c.requires.known in
    let old = named_is c.args.world.now c.args.number c.tables.result.now.items c.table_numbers.result.now.items c.index.result.now c.index-2.result.now has.numbered has.old c.tables.ensures c.table_numbers.ensures c.index.ensures c.index-2.ensures in
    let new = new_table_is c.args.world.now c.args.tables.now.items c.args.number c.table_numbers.result.now.items c.index.result.now c.index-3.result.now has c.table_numbers.ensures c.index.ensures c.index-3.ensures in
    ap length (c.deref.ensures.value ∙ ap (λ (t : TableAnew). t.columns) new)
    ∙ renewed c.args.world.now c.args.tables.now.items c.args.number c.requires.world c.requires.writable c.requires.known
    ∙ sym (ap length (c.specs.ensures ∙ ap (λ (t : NamedTable). t.table.specs) old))

pub returns-then-not-some_taken : goal.returns-then-not-some_taken
returns-then-not-some_taken c =
    let world = c.args.world.now in
    let has = has_tables c.args.world.now c.args.tables.now.items c.args.number c.requires.world c.requires.writable c.requires.known in
    let old = named_is c.args.world.now c.args.number c.tables.result.now.items c.table_numbers.result.now.items c.index.result.now c.index-2.result.now has.numbered has.old c.tables.ensures c.table_numbers.ensures c.index.ensures c.index-2.ensures in
    let new = new_table_is c.args.world.now c.args.tables.now.items c.args.number c.table_numbers.result.now.items c.index.result.now c.index-3.result.now has c.table_numbers.ensures c.index.ensures c.index-3.ensures in
    let olds : c.specs.result.now ≡ (table_for world c.args.number).specs = c.specs.ensures ∙ ap (λ (t : NamedTable). t.table.specs) old in
    let news : c.deref.result.now ≡ (new_table_at c.args.tables.now.items (slice_index world.table_of c.args.number)).columns = c.deref.ensures.value ∙ ap (λ (t : TableAnew). t.columns) new in
    let none = c.some_taken.ensures c.if-not-some_taken.true in
    let by_new = subst (λ (cs : List Spec). (k : ℕ) → k < length c.specs.result.now → is_taken (spec_at c.specs.result.now k) (spec_at cs k) ≡ false) news none in
    let by_both = subst (λ (cs : List Spec). (k : ℕ) → k < length cs → is_taken (spec_at cs k) (spec_at (new_table_at c.args.tables.now.items (slice_index world.table_of c.args.number)).columns k) ≡ false) olds by_new in
    none_taken c.args.world.now c.args.tables.now.items c.args.number c.requires.world c.requires.writable c.requires.known by_both

pub values_of-requires-clause-table : goal.values_of-requires-clause-table
values_of-requires-clause-table c =
    let has = has_tables c.args.world.now c.args.tables.now.items c.args.number c.requires.world c.requires.writable c.requires.known in
    let old = named_is c.args.world.now c.args.number c.tables.result.now.items c.table_numbers.result.now.items c.index.result.now c.index-2.result.now has.numbered has.old c.tables.ensures c.table_numbers.ensures c.index.ensures c.index-2.ensures in
    subst (λ (t : NamedTable). IsTable t.table) (sym old) (table_stands c.args.world.now c.args.tables.now.items c.args.number c.requires.world c.requires.writable c.requires.known)

pub values_of-requires-clause-unit : goal.values_of-requires-clause-unit
values_of-requires-clause-unit c =
    let world = c.args.world.now in
    let own = own_is c.args.world.now c.args.number c.units.result.now.items c.index-unit.result.now c.requires.known c.units.ensures c.index-unit.ensures in
    let has = has_tables c.args.world.now c.args.tables.now.items c.args.number c.requires.world c.requires.writable c.requires.known in
    let old = named_is c.args.world.now c.args.number c.tables.result.now.items c.table_numbers.result.now.items c.index.result.now c.index-2.result.now has.numbered has.old c.tables.ensures c.table_numbers.ensures c.index.ensures c.index-2.ensures in
    let held = unit_held c.args.world.now c.args.tables.now.items c.args.number c.requires.world c.requires.writable c.requires.known in
    let by_table = subst (λ (t : NamedTable). IsUnitHeld (unit_in world.units c.args.number).forest.section (unit_in world.units c.args.number).head (declarations_of t.table) (unit_in world.units c.args.number).forest) (sym old) held in
    subst (λ (h : HeadAndForest). IsUnitHeld h.forest.section h.head (declarations_of c.index-2.result.now.table) h.forest) (sym own) by_table

pub values_of-requires-clause-renewed : goal.values_of-requires-clause-renewed
values_of-requires-clause-renewed c =
    let has = has_tables c.args.world.now c.args.tables.now.items c.args.number c.requires.world c.requires.writable c.requires.known in
    let old = named_is c.args.world.now c.args.number c.tables.result.now.items c.table_numbers.result.now.items c.index.result.now c.index-2.result.now has.numbered has.old c.tables.ensures c.table_numbers.ensures c.index.ensures c.index-2.ensures in
    let new = new_table_is c.args.world.now c.args.tables.now.items c.args.number c.table_numbers.result.now.items c.index.result.now c.index-3.result.now has c.table_numbers.ensures c.index.ensures c.index-3.ensures in
    ap length (c.deref-2.ensures.value ∙ ap (λ (t : TableAnew). t.columns) new)
    ∙ renewed c.args.world.now c.args.tables.now.items c.args.number c.requires.world c.requires.writable c.requires.known
    ∙ sym (ap (λ (t : NamedTable). length t.table.specs) old)

pub with_values-requires : goal.with_values-requires
with_values-requires c =
    let world = c.args.world.now in
    let number : ℕ = c.args.number in
    let own = own_is c.args.world.now c.args.number c.units.result.now.items c.index-unit.result.now c.requires.known c.units.ensures c.index-unit.ensures in
    let has = has_tables c.args.world.now c.args.tables.now.items c.args.number c.requires.world c.requires.writable c.requires.known in
    let old = named_is c.args.world.now c.args.number c.tables.result.now.items c.table_numbers.result.now.items c.index.result.now c.index-2.result.now has.numbered has.old c.tables.ensures c.table_numbers.ensures c.index.ensures c.index-2.ensures in
    let new = new_table_is c.args.world.now c.args.tables.now.items c.args.number c.table_numbers.result.now.items c.index.result.now c.index-3.result.now has c.table_numbers.ensures c.index.ensures c.index-3.ensures in
    let columns : List Spec = (new_table_at c.args.tables.now.items (slice_index world.table_of number)).columns in
    let values : c.deref-3.result.now ≡ taken_values (table_for world number) columns (unit_in world.units number) = c.deref-3.ensures.value ∙ c.in_ok-values.ensures ∙ values_same c.index-2.result.now c.deref-2.result.now c.index-unit.result.now (table_at world.tables (slice_index world.table_of number)) columns (unit_in world.units number) old (c.deref-2.ensures.value ∙ ap (λ (t : TableAnew). t.columns) new) own in
    let alike = lend_alike c.args.world.now c.args.tables.now.items c.args.number c.requires.world c.requires.writable c.requires.known in
    subst (λ (h : HeadAndForest). LendAlike h.forest.values c.deref-3.result.now) (sym own) (subst (LendAlike (unit_in world.units number).forest.values) (sym values) alike)

pub returns : goal.returns
returns c =
    let world = c.args.world.now in
    let number : ℕ = c.args.number in
    let own = own_is c.args.world.now c.args.number c.units.result.now.items c.index-unit.result.now c.requires.known c.units.ensures c.index-unit.ensures in
    let has = has_tables c.args.world.now c.args.tables.now.items c.args.number c.requires.world c.requires.writable c.requires.known in
    let old = named_is c.args.world.now c.args.number c.tables.result.now.items c.table_numbers.result.now.items c.index.result.now c.index-2.result.now has.numbered has.old c.tables.ensures c.table_numbers.ensures c.index.ensures c.index-2.ensures in
    let new = new_table_is c.args.world.now c.args.tables.now.items c.args.number c.table_numbers.result.now.items c.index.result.now c.index-3.result.now has c.table_numbers.ensures c.index.ensures c.index-3.ensures in
    let columns : List Spec = (new_table_at c.args.tables.now.items (slice_index world.table_of number)).columns in
    let values : c.deref-3.result.now ≡ taken_values (table_for world number) columns (unit_in world.units number) = c.deref-3.ensures.value ∙ c.in_ok-values.ensures ∙ values_same c.index-2.result.now c.deref-2.result.now c.index-unit.result.now (table_at world.tables (slice_index world.table_of number)) columns (unit_in world.units number) old (c.deref-2.ensures.value ∙ ap (λ (t : TableAnew). t.columns) new) own in
    c.in_ok-with_values.ensures
    ∙ ap (λ (h : HeadAndForest). unit_with h c.deref-3.result.now) own
    ∙ ap (λ (vs : List Value). unit_with (unit_in world.units number) vs) values
