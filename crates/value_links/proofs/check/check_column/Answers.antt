use Rattle.std.proofs.Common.{◌≡◌, ◌≤◌, ◌<◌, ◌+◌, ◌∙◌, inl, ℕ, List, length, take, drop, refl, subst, sym, ap, arith}
use Rattle.std.specs.Prelude.{Option, None, Some}
use Rattle.std.proofs.lemmas.Result.{on_ok_weaker}
use Rattle.dw_base.specs.declared.fault.Kind.{Kind}
use Rattle.form_codec.specs.declared.value.Value.{Value}
use Rattle.form_codec.specs.Values.{meant_in}
use Rattle.abbrev_tables.specs.Tables.{Declared}
use Rattle.abbrev_tables.specs.Listings.{Listing}
use Rattle.entry_arena.specs.declared.entry.Entry.{Entry}
use Rattle.entry_arena.specs.Arena.{Arena, entry_at, value_at}
use Rattle.entry_arena.specs.Trees.{declared_at}
use Rattle.entry_arena.proofs.StepLaws.{values_inside}
use Rattle.entry_read.specs.Units.{HeadAndForest, declarations_of}
use Rattle.entry_read.specs.Places.{StandsAtColumn}
use Rattle.entry_read.specs.Expressions.{IsExprAt}
use Rattle.value_links.specs.Reading.{Linkable, unit_at}
use Rattle.value_links.specs.Links.{held_at}
use Rattle.value_links.specs.Parts.{HoldsParts}
use Rattle.value_links.specs.inside.Checks.{table_held, name_at, IsUnitWithTable, IsChecked, IsExprLinked, InEach}
use Rattle.value_links.proofs.TabledUnits.{some_with_table, entry_inside}
use Rattle.value_links.proofs.ExprLinks.{no_expr}
use Rattle.value_links.proofs.PartValues.{checked_column, column_fault, expr_column}
use Rattle.value_links.proofs.check.check_column.Goals as goal

-- the name and the value of a column, as they are looked up
record IsColumn (unit : HeadAndForest) (ds : List Declared) (id k name : ℕ) (v : Value) : Type 0 where
  named : name ≡ name_at ds (entry_at unit.forest.entries id) k
  valued : v ≡ value_at unit.forest.values ((entry_at unit.forest.entries id).first + k)

-- what is checked of it
checked_value : (r : Linkable) (u id name : ℕ) (unit : HeadAndForest) (ds : List Declared) (k : ℕ) (v : Value) (found : Option Kind) → IsColumn unit ds id k name v → IsChecked r u id name (meant_in (unit_at r u).forest.section v) found → IsChecked r u id name (meant_in (unit_at r u).forest.section (value_at unit.forest.values ((entry_at unit.forest.entries id).first + k))) found
checked_value r u id name unit ds k v found column is = subst (λ (z : Value). IsChecked r u id name (meant_in (unit_at r u).forest.section z) found) column.valued is

pub fault_of-requires-clause-plain : goal.fault_of-requires-clause-plain
fault_of-requires-clause-plain c = no_expr c.attribute_of-name.result.1 c.in_default.not-Expr

pub returns-in-Some-clause-fault : goal.returns-in-Some-clause-fault
returns-in-Some-clause-fault c = λ (file : List ℕ) (r : Linkable) (holds : HoldsParts file r c.args.parts.now).
    let unit = held_at c.args.parts.now.units.units.items c.args.number in
    let e = c.unit_of-unit.ensures in
    let table = c.table_of-table.result.now in
    let id = c.args.id in
    let k = c.args.column in
    let named = c.attribute_of-name.result in
    let column : IsColumn unit (declarations_of table) id k named.0 named.1 = subst (λ (z : HeadAndForest). IsColumn z (declarations_of table) id k named.0 named.1) e (record { named = c.attribute_of-name.ensures.name; valued = c.attribute_of-name.ensures.value }) in
    let stands = subst (λ (z : HeadAndForest). StandsAtColumn z.forest.section (declarations_of table) z.forest.values (entry_at z.forest.entries id) k c.place_of_value-place.result) e c.place_of_value-place.ensures in
    λ reach. inl (column_fault file r c.args.parts.now holds c.args.number c.requires.number id c.requires.id table c.table_of-table.ensures.table (entry_at unit.forest.entries id) refl unit.forest.values refl k named.0 c.in-Some.kind c.place_of_value-place.result column.named c.requires.column stands (checked_value r c.args.number id named.0 unit (declarations_of table) k named.1 (Some c.in-Some.kind) column (c.in-Some.ensures file r holds)))

pub returns-in-Some-clause-inside : goal.returns-in-Some-clause-inside
returns-in-Some-clause-inside c =
    let u = c.unit_of-unit.result.now in
    let k = c.args.column in
    let at = c.place_of_value-place.ensures in
    let entry : Entry = entry_at u.forest.entries c.args.id in
    let inside : c.place_of_value-place.result ≤ length u.forest.section = values_inside u.forest.section (take k (declared_at (declarations_of c.table_of-table.result.now) entry.decl).columns) (take k (take entry.count (drop entry.first u.forest.values))) at.values_at c.place_of_value-place.result at.coded.inside at.valued in
    subst (λ (z : HeadAndForest). c.place_of_value-place.result ≤ length z.forest.section) c.unit_of-unit.ensures inside

pub returns-in-None-clause-linked : goal.returns-in-None-clause-linked
returns-in-None-clause-linked c = λ (file : List ℕ) (r : Linkable) (holds : HoldsParts file r c.args.parts.now).
    let unit = held_at c.args.parts.now.units.units.items c.args.number in
    let table = c.table_of-table.result.now in
    let id = c.args.id in
    let k = c.args.column in
    let named = c.attribute_of-name.result in
    let column : IsColumn unit (declarations_of table) id k named.0 named.1 = subst (λ (z : HeadAndForest). IsColumn z (declarations_of table) id k named.0 named.1) c.unit_of-unit.ensures (record { named = c.attribute_of-name.ensures.name; valued = c.attribute_of-name.ensures.value }) in
    checked_column file r c.args.parts.now holds c.args.number c.requires.number id c.requires.id table c.table_of-table.ensures.table (entry_at unit.forest.entries id) refl unit.forest.values refl k named.0 None column.named (checked_value r c.args.number id named.0 unit (declarations_of table) k named.1 None column (c.in-None.ensures file r holds))

-- an expression

column_inside : (unit : HeadAndForest) (table : Listing) → IsUnitWithTable unit table → (id k : ℕ) → id < length unit.forest.entries → k < (entry_at unit.forest.entries id).count → (entry_at unit.forest.entries id).first + k < length unit.forest.values
column_inside unit table is id k known less =
    let whole : (entry_at unit.forest.entries id).first + (entry_at unit.forest.entries id).count ≤ length unit.forest.values = entry_inside unit table is unit.forest refl id known (entry_at unit.forest.entries id) refl in
    omega arith

pub value_number-own-requires-clause-id : goal.value_number-own-requires-clause-id
value_number-own-requires-clause-id c = subst (λ (z : Arena). c.args.id < length z.entries) (sym (c.forest.ensures ∙ ap (λ (z : HeadAndForest). z.forest) c.unit_of-unit.ensures)) c.requires.id

pub value_number-own-requires-clause-inside : goal.value_number-own-requires-clause-inside
value_number-own-requires-clause-inside c =
    let inside = column_inside (held_at c.args.parts.now.units.units.items c.args.number) (table_held c.args.parts.now.units c.args.number) (some_with_table c.args.parts.now.units c.requires.held c.args.number c.requires.number) c.args.id c.args.column c.requires.id c.requires.column in
    subst (λ (z : Arena). (entry_at z.entries c.args.id).first + c.args.column < length z.values) (sym (c.forest.ensures ∙ ap (λ (z : HeadAndForest). z.forest) c.unit_of-unit.ensures)) inside

-- the number of its value
number_is : (unit : HeadAndForest) (forest : Arena) (id k number : ℕ) (held : HeadAndForest) → unit ≡ held → forest ≡ unit.forest → number ≡ (entry_at forest.entries id).first + k → number ≡ (entry_at held.forest.entries id).first + k
number_is unit forest id k number held e f n = n ∙ ap (λ (z : Arena). (entry_at z.entries id).first + k) (f ∙ ap (λ (z : HeadAndForest). z.forest) e)

pub check_expression-requires-clause-stands : goal.check_expression-requires-clause-stands
check_expression-requires-clause-stands c =
    let held = held_at c.args.parts.now.units.units.items c.args.number in
    let e = c.unit_of-unit.ensures in
    let own : ℕ = c.value_number-own.result in
    let is = number_is c.unit_of-unit.result.now c.forest.result.now c.args.id c.args.column own held e c.forest.ensures c.value_number-own.ensures in
    let inside = column_inside held (table_held c.args.parts.now.units c.args.number) (some_with_table c.args.parts.now.units c.requires.held c.args.number c.requires.number) c.args.id c.args.column c.requires.id c.requires.column in
    let valued = subst (λ (z : HeadAndForest). c.attribute_of-name.result.1 ≡ value_at z.forest.values ((entry_at z.forest.entries c.args.id).first + c.args.column)) e c.attribute_of-name.ensures.value in
    subst (λ (z : ℕ). IsExprAt held.forest z c.in-Expr.span) (sym is) (record { inside = inside; is = sym valued ∙ c.in-Expr.is })

pub returns-in-Expr-clause-linked : goal.returns-in-Expr-clause-linked
returns-in-Expr-clause-linked c =
    let held = held_at c.args.parts.now.units.units.items c.args.number in
    let e = c.unit_of-unit.ensures in
    let own : ℕ = c.value_number-own.result in
    let is = number_is c.unit_of-unit.result.now c.forest.result.now c.args.id c.args.column own held e c.forest.ensures c.value_number-own.ensures in
    let inside = column_inside held (table_held c.args.parts.now.units c.args.number) (some_with_table c.args.parts.now.units c.requires.held c.args.number c.requires.number) c.args.id c.args.column c.requires.id c.requires.column in
    let valued = subst (λ (z : HeadAndForest). c.attribute_of-name.result.1 ≡ value_at z.forest.values ((entry_at z.forest.entries c.args.id).first + c.args.column)) e c.attribute_of-name.ensures.value in
    on_ok_weaker c.check_expression.result (λ (linked : InEach c.args.parts.now (λ (r : Linkable). IsExprLinked r c.args.number own)) (file : List ℕ) (r : Linkable) (holds : HoldsParts file r c.args.parts.now).
    expr_column file r c.args.parts.now holds c.args.number c.requires.number c.args.id c.requires.id c.table_of-table.result.now c.table_of-table.ensures.table (entry_at held.forest.entries c.args.id) refl held.forest.values refl c.args.column c.in-Expr.span (sym valued ∙ c.in-Expr.is) inside (subst (λ (z : ℕ). IsExprLinked r c.args.number z) is (linked file r holds))) c.check_expression.ensures.linked
