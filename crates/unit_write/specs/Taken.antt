-- A unit some of whose references are taken as references within it: a DW_FORM_ref_addr counts from the section's first byte, and where its
-- target stands in its own unit it names the same as a reference that counts from the first byte of that unit (DWARF 5 section 7.5.5).
use Rattle.std.specs.Prelude.{◌≡◌, ◌<◌, ◌+◌, ◌⊎◌, ℕ, List}
use Rattle.std.specs.List.{AllZip}
use Rattle.abbrev_tables.specs.Listings.{Listing}
use Rattle.form_codec.specs.declared.value.Value.{Value}
use Rattle.form_codec.specs.declared.value.Value.TheVariants as value
use Rattle.entry_arena.specs.Arena.{with_values}
use Rattle.entry_read.specs.declared.head.UnitHead.{UnitHead}
use Rattle.entry_read.specs.Units.{HeadAndForest, declarations_of, IsUnitHeld}

-- A value of the unit with this header, and what may be written for it: itself, or for a reference that counts from the section's first
-- byte and names a place in the unit the one to the same place that counts from the unit's.
abbrev pub StandsFor : UnitHead → Value → Value → Type 0
StandsFor head (value.SectionRef n) new = (new ≡ value.SectionRef n) ⊎ ((m : ℕ) × (n ≡ head.at + m) × (m < head.len) × (new ≡ value.LocalRef m))
StandsFor head old new = new ≡ old

-- With values for which its own stand, the unit is held of its section, by the declarations of a table.
pub record IsHeldFor (unit : HeadAndForest) (table : Listing) : Type 0 where
  pub values : List Value
  pub taken : AllZip (StandsFor unit.head) values unit.forest.values
  pub held : IsUnitHeld unit.forest.section unit.head (declarations_of table) (with_values unit.forest values)
