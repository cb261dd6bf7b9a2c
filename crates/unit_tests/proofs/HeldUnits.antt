-- Units as they are read.
use Rattle.std.proofs.Common.{◌≡◌, ℕ, List, [], ◌∷◌, refl, sym, subst, inl}
use Rattle.std.specs.List.{AllZip}
use Rattle.form_codec.specs.declared.value.Value.{Value}
use Rattle.form_codec.specs.declared.value.Value.TheVariants as value
use Rattle.abbrev_tables.specs.Listings.{Listing}
use Rattle.abbrev_tables.specs.Tables.{Declared}
use Rattle.entry_read.specs.declared.head.UnitHead.{UnitHead}
use Rattle.entry_read.specs.Units.{HeadAndForest, declarations_of, IsUnitHeld}
use Rattle.unit_write.specs.Taken.{StandsFor, IsHeldFor}

stands_for_itself : (head : UnitHead) (v : Value) → StandsFor head v v
stands_for_itself head (value.SectionRef n) = inl refl
stands_for_itself head v = refl

stand_for_themselves : (head : UnitHead) (vs : List Value) → AllZip (StandsFor head) vs vs
stand_for_themselves head [] = tt
stand_for_themselves head (v ∷ vs) = (stands_for_itself head v, stand_for_themselves head vs)

-- what was read is written in place of itself
pub held_as_read : (unit : HeadAndForest) (table : Listing) → IsUnitHeld unit.forest.section unit.head (declarations_of table) unit.forest → IsHeldFor unit table
held_as_read unit table held = record { values = unit.forest.values; taken = stand_for_themselves unit.head unit.forest.values; held = held }

-- a unit that was read is held of its own section, by its own head
pub held_by_itself : (info : List ℕ) (head : UnitHead) (ds : List Declared) (u : HeadAndForest) → IsUnitHeld info head ds u.forest → u.head ≡ head → u.forest.section ≡ info → IsUnitHeld u.forest.section u.head ds u.forest
held_by_itself info head ds u held same_head same_info =
    subst (λ (z : List ℕ). IsUnitHeld z u.head ds u.forest) (sym same_info) (subst (λ (z : UnitHead). IsUnitHeld info z ds u.forest) (sym same_head) held)
