-- The numbers of lists that have a byte too many (DWARF 5 sections 2.6.2, 2.17.3, 7.7.3, 7.25 and 7.28 to 7.29): operands of lists that are kept,
-- lengths of expressions of lists that no entry names, and view pairs. A list that isn't kept is judged as a whole, and the lengths of
-- expressions of a list that a unit owns are slots of that unit. Places count from the first byte of the section.
use Rattle.std.specs.Prelude.{◌≡◌, ◌<◌, ◌+◌, ◌⊎◌, ◌++◌, ◌∷◌, ℕ, List, length, drop, Bool, true, false, Option, Some, None}
use Rattle.std.specs.List.{Contains}
use Rattle.dw_base.specs.declared.classes.Classes.{Classes}
use Rattle.leb_codec.specs.Leb.{Uleb}
use Rattle.spelled.specs.Spelled.{Joined}
use Rattle.list_model.specs.declared.entry.EntryKind.{EntryKind}
use Rattle.list_model.specs.declared.entry.ListKind.{ListKind}
use Rattle.list_model.specs.declared.entry.ListKind.TheVariants.{Locations}
use Rattle.list_model.specs.declared.entry.Operand.{Operand}
use Rattle.list_model.specs.declared.entry.Operand.TheVariants.{Number}
use Rattle.list_model.specs.declared.entry.RawEntry.{RawEntry}
use Rattle.list_model.specs.Entries.{code_of, first_operand, second_operand, SpellsOperand, SpellsOperands}
use Rattle.list_model.specs.Items.{sets_base}
use Rattle.loc_lists.specs.Locations.{items_among, bytes_in}
use Rattle.loc_lists.specs.Views.{SpellsPair}
use Rattle.loc_lists.specs.declared.views.ViewPair.{ViewPair}
use Rattle.value_links.specs.Lists.{IsOwner}
use Rattle.value_links.specs.Reading.{ListRead, ViewRead, Linkable, Reading, of_kind, lists_of, list_at, view_at}
use Rattle.written_files.specs.Kept.{IsKept}
use Rattle.tidy_numbers.specs.Fronts.{IsLong, Behind}
use Rattle.tidy_numbers.specs.LongOperations.{IsLongInExpression}

-- an operand
abbrev pub IsLongOperandOf : Operand → ℕ → List ℕ → Type 0
IsLongOperandOf Number at bytes = IsLong at bytes
IsLongOperandOf other at bytes = ⊥

-- an operand of an entry of a list; the bytes are those behind its code
abbrev pub AreLongOperandsOf : EntryKind → ℕ → List ℕ → Type 0
AreLongOperandsOf kind at bytes = IsLongOperandOf (first_operand kind) at bytes ⊎ Behind (SpellsOperand (first_operand kind)) (λ first. IsLongOperandOf (second_operand kind)) at bytes

-- something holds at a place behind the code of an entry, whose kind is the one of that code
pub record HoldsBehindCode (Holds : EntryKind → ℕ → List ℕ → Type 0) (list : ListKind) (section : List ℕ) (raw : RawEntry) (p : ℕ) : Type 0 where
  pub kind : EntryKind
  pub known : code_of list kind ≡ Some raw.code
  pub inner : ℕ
  pub holds : Holds kind inner (drop (raw.at + 1) section)
  pub place : p ≡ raw.at + 1 + inner

-- the length of the expression behind the operands of an entry, which has one if it sets no base
abbrev pub IsLongLength : EntryKind → ℕ → List ℕ → Type 0
IsLongLength kind at bytes = (sets_base kind ≡ false) × Behind (SpellsOperands kind) (λ operands. IsLong) at bytes

-- an operand of a list that is kept
abbrev pub IsLongInKept : Classes → Linkable → ListKind → ListRead → ℕ → Type 0
IsLongInKept classes s kind list p = IsKept classes s kind list × ((raw : RawEntry) × Contains list.raws raw × HoldsBehindCode AreLongOperandsOf kind (of_kind s kind).section raw p)

-- the length of an expression of a location list that no entry names
abbrev pub IsLongUnowned : Linkable → ListRead → ℕ → Type 0
IsLongUnowned s list p = IsOwner s Locations list.at None × ((raw : RawEntry) × Contains list.raws raw × HoldsBehindCode IsLongLength Locations s.locations.section raw p)

-- whether a unit owns a list
abbrev pub is_owned : Option ℕ → Bool
is_owned (Some u) = true
is_owned None = false

-- a number in an expression of a location list
pub record IsLongInList (s : Linkable) (list : ListRead) (p : ℕ) : Type 0 where
  pub owner : Option ℕ
  pub owned : IsOwner s Locations list.at owner
  pub raw : RawEntry
  pub among : Contains (items_among list.raws) raw
  pub inner : ℕ
  pub long : IsLongInExpression (is_owned owner) (bytes_in s.locations.section raw.expr) inner
  pub place : p ≡ raw.expr.at + inner

-- a number of view pairs
pub record IsLongInRun (section : List ℕ) (run : ViewRead) (p : ℕ) : Type 0 where
  pub before : List ViewPair
  pub pair : ViewPair
  pub after : List ViewPair
  pub pairs : run.pairs ≡ before ++ pair ∷ after
  pub front : List ℕ
  pub rest : List ℕ
  pub spelled : Joined SpellsPair before front
  pub inner : ℕ
  pub long : IsLong inner rest ⊎ Behind Uleb (λ first. IsLong) inner rest
  pub whole : drop run.at section ≡ front ++ rest
  pub place : p ≡ run.at + length front + inner

-- a number of the lists of a kind and, of location lists, of their expressions
abbrev pub IsLongInLists : Classes → Reading → ListKind → ℕ → Type 0
IsLongInLists classes s kind p =
    (k : ℕ) × (k < length (lists_of s kind)) × (IsLongInKept classes s.links kind (list_at (lists_of s kind) k) p ⊎ ((kind ≡ Locations) × (IsLongUnowned s.links (list_at (lists_of s kind) k) p ⊎ IsLongInList s.links (list_at (lists_of s kind) k) p)))

-- a number of view pairs of location lists
abbrev pub IsLongInViews : Reading → ℕ → Type 0
IsLongInViews s p = (k : ℕ) × (k < length s.views) × IsLongInRun s.links.locations.section (view_at s.views k) p
