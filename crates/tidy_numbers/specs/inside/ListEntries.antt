-- Entries of lists as they stand in their section, and lists that are held.
use Rattle.std.specs.Prelude.{◌≡◌, ◌≤◌, ◌+◌, ◌⊎◌, ℕ, List, length, drop, Bool, true, false, None, Some}
use Rattle.std.specs.List.{All, Contains}
use Rattle.dw_base.specs.declared.classes.Classes.{Classes}
use Rattle.dw_base.specs.declared.fault.Reach.TheVariants.{Wide}
use Rattle.spelled.specs.Spelled.{Then}
use Rattle.leb_codec.specs.Leb.{Uleb}
use Rattle.list_model.specs.declared.entry.EntryKind.{EntryKind}
use Rattle.list_model.specs.declared.entry.ListKind.{ListKind}
use Rattle.list_model.specs.declared.entry.ListKind.TheVariants.{Locations}
use Rattle.list_model.specs.declared.entry.RawEntry.{RawEntry}
use Rattle.list_model.specs.declared.item.Meaning.TheVariants.{Dead}
use Rattle.list_model.specs.Entries.{code_of, SpellsOperands}
use Rattle.list_model.specs.Items.{sets_base}
use Rattle.loc_lists.specs.Locations.{is_item, bytes_in}
use Rattle.list_arena.specs.Held.{HeldList}
use Rattle.value_links.specs.Operations.{IsSomeExpression}
use Rattle.tidy_numbers.specs.LongLists.{AreLongOperandsOf, IsLongLength, HoldsBehindCode, is_owned}
use Rattle.tidy_numbers.specs.inside.Expressions.{IsLongAt}
use Rattle.tidy_numbers.specs.inside.Operands.{Begins}

-- the operands of an entry stand behind its code
pub record EntryStands (list : ListKind) (section : List ℕ) (raw : RawEntry) : Type 0 where
  pub kind : EntryKind
  pub known : code_of list kind ≡ Some raw.code
  pub inside : raw.at + 1 ≤ length section
  pub operands : Begins (SpellsOperands kind) (drop (raw.at + 1) section)

-- behind those of an entry of a location list that sets no base the length of its expression stands
abbrev pub LengthStands : List ℕ → RawEntry → Type 0
LengthStands section raw =
    (kind : EntryKind) → code_of Locations kind ≡ Some raw.code → sets_base kind ≡ false → Begins (Then (SpellsOperands kind) (λ operands. Uleb)) (drop (raw.at + 1) section)

-- the expression of an entry of a location list that is an item stands at its span
abbrev pub ExpressionStands : List ℕ → RawEntry → Type 0
ExpressionStands section raw = is_item raw ≡ true → (raw.expr.at + raw.expr.len ≤ length section) × IsSomeExpression Wide (bytes_in section raw.expr)

-- the entries of a list that is held stand in its section, those of a location list with their expressions
pub record ListStands (kind : ListKind) (section : List ℕ) (list : HeldList) : Type 0 where
  pub entries : All (EntryStands kind section) list.raw
  pub lengths : kind ≡ Locations → All (LengthStands section) list.raw
  pub expressions : kind ≡ Locations → All (ExpressionStands section) list.raw

-- something holds of one of some entries at a place
abbrev pub HoldsAmong : (RawEntry → ℕ → Type 0) → List RawEntry → ℕ → Type 0
HoldsAmong Holds raws p = (raw : RawEntry) × Contains raws raw × Holds raw p

-- a number in the expression of an entry that is an item
abbrev pub IsLongInItem : Bool → List ℕ → RawEntry → ℕ → Type 0
IsLongInItem owned section raw p = (is_item raw ≡ true) × IsLongAt owned section raw.expr p

-- an operand of a list that the classes keep, or that is held as frozen
abbrev pub IsLongInOperands : Classes → ListKind → List ℕ → HeldList → ℕ → Type 0
IsLongInOperands classes kind section list p = ((classes.lists ≡ false) ⊎ (list.meaning ≡ Dead)) × HoldsAmong (HoldsBehindCode AreLongOperandsOf kind section) list.raw p

-- the length of an expression of a location list that is held as one that no entry names
abbrev pub IsLongInUnnamed : List ℕ → HeldList → ℕ → Type 0
IsLongInUnnamed section list p = (list.owner ≡ None) × HoldsAmong (HoldsBehindCode IsLongLength Locations section) list.raw p

-- such a length, or a number in an expression
abbrev pub IsLongInLocations : List ℕ → HeldList → ℕ → Type 0
IsLongInLocations section list p = IsLongInUnnamed section list p ⊎ HoldsAmong (IsLongInItem (is_owned list.owner) section) list.raw p

-- a number of a list that is held
abbrev pub IsLongInHeld : Classes → ListKind → List ℕ → HeldList → ℕ → Type 0
IsLongInHeld classes kind section list p = IsLongInOperands classes kind section list p ⊎ ((kind ≡ Locations) × IsLongInLocations section list p)
