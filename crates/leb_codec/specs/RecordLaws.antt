-- What holds of all record files.
use Rattle.std.specs.Prelude.{◌≡◌, ℕ, List}
use Rattle.spelled.specs.Spelled.{HasUniqueFronts}
use Rattle.dw_base.specs.declared.classes.Classes.{Classes}
use Rattle.leb_codec.specs.Records.{Record, SpellsRecord, SpellsFile, IsBroken}

-- bytes are a record file in one way
abbrev pub OneReading : Type 0
OneReading = (classes : Classes) (bytes : List ℕ) (records others : List Record) → SpellsFile classes records bytes → SpellsFile classes others bytes → records ≡ others

-- records have one record file
abbrev pub OneSpelling : Type 0
OneSpelling = (classes : Classes) (records : List Record) (bytes others : List ℕ) → SpellsFile classes records bytes → SpellsFile classes records others → bytes ≡ others

-- a record file breaks its form nowhere
abbrev pub NeverBroken : Type 0
NeverBroken = (classes : Classes) (bytes : List ℕ) (records : List Record) (place : ℕ) → SpellsFile classes records bytes → IsBroken classes bytes place → ⊥

-- bytes break the form at one place
abbrev pub OneBreak : Type 0
OneBreak = (classes : Classes) (bytes : List ℕ) (place other : ℕ) → IsBroken classes bytes place → IsBroken classes bytes other → place ≡ other

-- a record ends by itself
abbrev pub RecordsEnd : Type 0
RecordsEnd = HasUniqueFronts SpellsRecord
