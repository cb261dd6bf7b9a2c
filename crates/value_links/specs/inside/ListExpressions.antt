-- The expressions of location lists, as they are read one by one.
-- Inner functions and proofs alone need what stands here.
use Rattle.std.specs.Prelude.{◌≡◌, ◌≢◌, ◌+◌, ◌⊎◌, ◌↔◌, ℕ, List, Option, Some, None, Bool, true}
use Rattle.std.specs.List.{All, Contains}
use Rattle.dw_base.specs.declared.fault.Kind.{Kind}
use Rattle.dw_base.specs.declared.fault.Kind.TheVariants.{ListShared}
use Rattle.dw_base.specs.declared.fault.Reach.{Reach}
use Rattle.expr_ops.specs.declared.op.Op.{Op}
use Rattle.expr_ops.specs.Names.{named_by}
use Rattle.form_codec.specs.Values.{bytes_in}
use Rattle.list_model.specs.declared.entry.ListKind.{ListKind}
use Rattle.list_model.specs.declared.entry.ListKind.TheVariants.{Ranges, Locations}
use Rattle.list_model.specs.declared.entry.RawEntry.{RawEntry}
use Rattle.loc_lists.specs.Locations.{items_among}
use Rattle.value_links.specs.Reading.{Linkable}
use Rattle.value_links.specs.Operations.{IsSomeExpression, LinkedOperation, LinksExpression}
use Rattle.value_links.specs.Lists.{owner_unit, expressions_in, CountsInUnit, HasUnitOffset}
use Rattle.value_links.specs.ListFaults.{FaultListOperations}
use Rattle.value_links.specs.inside.Namings.{slot_number, first_naming}

-- THE UNITS OF A LIST

-- the unit that owns a list: the first one of its namings, which is none where a slot stands first
abbrev pub IsOwnerBy : List (ℕ × ℕ) → Option ℕ → Type 0
IsOwnerBy named (Some u) = ((first_naming named).1 ≡ u) × (u ≢ slot_number)
IsOwnerBy named None = (first_naming named).1 ≡ slot_number

-- no unit names the list, or another one than the first
abbrev pub IsTorn : List (ℕ × ℕ) → Type 0
IsTorn named = ((first_naming named).1 ≡ slot_number) ⊎ ((y : ℕ × ℕ) × Contains named y × (y.1 ≢ slot_number) × (y.1 ≢ (first_naming named).1))

-- ONE EXPRESSION

-- what an operation names counts from the first byte of its unit
abbrev pub OpCounts : Op → Type 0
OpCounts op = CountsInUnit (named_by op.code) op.code op.a

-- the operations of an expression name what they may, and none counts in a unit where the list is torn
abbrev pub IsExprRead : Linkable → Option ℕ → Bool → Reach → List ℕ → Type 0
IsExprRead r owner torn reach bytes =
    IsSomeExpression reach bytes × ((linked : List LinkedOperation) × LinksExpression r (owner_unit r owner) bytes linked) × (torn ≡ true → ¬ HasUnitOffset bytes)

-- An expression of a list has a fault, which stands in it, or at the list. Places count from the first byte of the section.
abbrev pub FaultExprBy : Linkable → Option ℕ → Bool → Reach → List ℕ → ℕ → ℕ → Kind → ℕ → Type 0
FaultExprBy r owner torn reach bytes from list kind place =
    ((kind ≡ ListShared) × (torn ≡ true) × HasUnitOffset bytes × (place ≡ list))
    ⊎ ((inner : ℕ) × FaultListOperations r owner reach bytes kind inner × (place ≡ from + inner))

-- ALL EXPRESSIONS OF A LIST

-- the first of the entries, with an expression, are read
abbrev pub AreExprsRead : ListKind → List ℕ → Linkable → Option ℕ → Bool → Reach → List RawEntry → Type 0
AreExprsRead of section r owner torn reach raws = All (IsExprRead r owner torn reach) (expressions_in of section raws)

-- one of the expressions of the list that these name has a fault
abbrev pub FaultExpressionsBy : ListKind → List ℕ → List (ℕ × ℕ) → Reach → List RawEntry → Linkable → Kind → ℕ → Type 0
FaultExpressionsBy Ranges section named reach raws r kind place = ⊥
FaultExpressionsBy Locations section named reach raws r kind place =
    (owner : Option ℕ) × (torn : Bool) × (raw : RawEntry) × IsOwnerBy named owner × ((torn ≡ true) ↔ IsTorn named) × Contains (items_among raws) raw
    × FaultExprBy r owner torn reach (bytes_in section raw.expr) raw.expr.at (first_naming named).0 kind place
