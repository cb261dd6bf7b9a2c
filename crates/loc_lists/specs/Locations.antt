-- Location lists in .debug_loclists (DWARF 5 sections 2.6.2 and 7.7.3).
use Rattle.std.specs.Prelude.{◌≡◌, ◌<◌, ◌+◌, ◌⊎◌, ℕ, List, [], ◌∷◌, ◌++◌, length, take, drop, map, filter, Option, Some, None, Bool, false, not, ◌||◌, nat_eq}
use Rattle.std.specs.List.{All}
use Rattle.spelled.specs.Spelled.{Then, IsAbsent, UntilEnd, FaultThen}
use Rattle.leb_codec.specs.Leb.{Uleb, IsShort, IsWideUnsigned}
use Rattle.dw_base.specs.declared.fault.Span.{Span}
use Rattle.dw_base.specs.declared.fault.Kind.{Kind}
use Rattle.dw_base.specs.declared.fault.Kind.TheVariants.{Short, LebWide}
use Rattle.dw_base.specs.declared.fault.Reach.{Reach}
use Rattle.list_model.specs.declared.context.Context.{Context}
use Rattle.list_model.specs.declared.contribution.Contribution.{Contribution}
use Rattle.list_model.specs.declared.entry.EntryKind.{EntryKind}
use Rattle.list_model.specs.declared.entry.EntryKind.TheVariants.{BaseAddressx, BaseAddress}
use Rattle.list_model.specs.declared.entry.ListKind.TheVariants.{Locations}
use Rattle.list_model.specs.declared.entry.RawEntry.{RawEntry}
use Rattle.list_model.specs.declared.item.Item.{Item}
use Rattle.list_model.specs.declared.item.Meaning.{Meaning}
use Rattle.list_model.specs.declared.item.Meaning.TheVariants.{Live, Dead}
use Rattle.list_model.specs.Contributions.{bytes_from}
use Rattle.list_model.specs.Entries.{code_of, Entry, SpellsEntry, IsListEnd, FaultEntry, Says, AreSaid, no_expr}
use Rattle.list_model.specs.Reading.{IsListRead, FaultList}
use Rattle.list_model.specs.Items.{Bounds, Give, Fits, IsDead, item_of, sets_base}

-- ---- the expression behind an entry

-- its length as a ULEB128, with padding or without, and then as many bytes, which are the expression
pub record SpellsExpression (expression bytes : List ℕ) : Type 0 where
  pub head : List ℕ
  pub count : Uleb (length expression) head
  pub whole : bytes ≡ head ++ expression

-- a length that fits, and fewer bytes behind it
pub record IsCutOff (bytes : List ℕ) : Type 0 where
  pub head : List ℕ
  pub body : List ℕ
  pub size : ℕ
  pub count : Uleb size head
  pub whole : bytes ≡ head ++ body
  pub short : length body < size

-- The bytes, which go on to the end of the contribution, don't begin with a length and an expression. Places count from the first
-- of them, which is that of the length.
abbrev pub FaultExpression : Kind → ℕ → List ℕ → Type 0
FaultExpression Short place bytes = (place ≡ 0) × (IsShort bytes ⊎ IsCutOff bytes)
FaultExpression LebWide place bytes = (place ≡ 0) × IsWideUnsigned bytes
FaultExpression kind place bytes = ⊥

-- An entry of each kind has an expression behind its operands, but for those that set the base.
abbrev pub SpellsBehind : EntryKind → List ℕ → List ℕ → Type 0
SpellsBehind BaseAddressx expression bytes = IsAbsent [] expression bytes
SpellsBehind BaseAddress expression bytes = IsAbsent [] expression bytes
SpellsBehind kind expression bytes = SpellsExpression expression bytes

abbrev pub FaultBehind : EntryKind → Kind → ℕ → List ℕ → Type 0
FaultBehind BaseAddressx kind place bytes = ⊥
FaultBehind BaseAddress kind place bytes = ⊥
FaultBehind entry kind place bytes = FaultExpression kind place bytes

-- ---- the bytes of a list

-- an entry, and the bytes of its expression, of which there are none where it sets the base
abbrev pub SpellsLocation : Entry × List ℕ → List ℕ → Type 0
SpellsLocation = Then (SpellsEntry Locations) (λ (entry : Entry). SpellsBehind entry.kind)

-- The bytes, which go on to the end of the contribution, begin neither with an entry and its expression nor with the end of a
-- list. Places count from the first of them.
abbrev pub FaultLocation : Kind → ℕ → List ℕ → Type 0
FaultLocation = FaultThen (SpellsEntry Locations) (FaultEntry Locations) (λ (entry : Entry). FaultBehind entry.kind)

-- the bytes are entries with their expressions, one after the other, and the end of the list
abbrev pub SpellsLocationList : List (Entry × List ℕ) → List ℕ → Type 0
SpellsLocationList = UntilEnd SpellsLocation IsListEnd

-- where the expression of an entry of a kind lies, which has these bytes and ends at a place
abbrev pub IsExpressionSpan : EntryKind → Span → List ℕ → ℕ → Type 0
IsExpressionSpan BaseAddressx span expression end = span ≡ no_expr
IsExpressionSpan BaseAddress span expression end = span ≡ no_expr
IsExpressionSpan kind span expression end = (span.len ≡ length expression) × (span.at + span.len ≡ end)

-- what is read of an entry with its expression that stands at a place, by its bytes
pub record IsRead (at : ℕ) (raw : RawEntry) (location : Entry × List ℕ) (bytes : List ℕ) : Type 0 where
  pub place : raw.at ≡ at
  pub says : Says Locations raw location.0
  pub expression : IsExpressionSpan location.0.kind raw.expr location.1 (at + length bytes)
  pub spelled : SpellsLocation location bytes

-- This is what is read of a location list at a place of the contribution.
abbrev pub IsLocationList : List ℕ → Contribution → ℕ → List RawEntry → Type 0
IsLocationList = IsListRead IsRead

-- The bytes, which go on to the end of the contribution, have a fault as a location list. Places count from the first of them.
abbrev pub FaultLocations : Reach → Kind → ℕ → List ℕ → Type 0
FaultLocations = FaultList SpellsLocation FaultLocation

-- The location list at a place of the contribution has a fault. Places count from the section's first byte.
abbrev pub FaultLocationList : List ℕ → Contribution → ℕ → Reach → Kind → ℕ → Type 0
FaultLocationList section part at reach kind place = (inner : ℕ) × (place ≡ at + inner) × FaultLocations reach kind inner (bytes_from section part at)

-- ---- the entries that are items

-- a code is the one of a kind of entry, if it has one
abbrev pub is_code : Option ℕ → ℕ → Bool
is_code (Some known) code = nat_eq known code
is_code None code = false

-- whether what is read of an entry is an item: its code is of neither kind that sets the base
abbrev pub is_item : RawEntry → Bool
is_item raw = not (is_code (code_of Locations BaseAddressx) raw.code || is_code (code_of Locations BaseAddress) raw.code)

-- those of some entries that are items
abbrev pub items_among : List RawEntry → List RawEntry
items_among raws = filter is_item raws

-- the bytes of a span
abbrev pub bytes_in : List ℕ → Span → List ℕ
bytes_in bytes span = take span.len (drop span.at bytes)

-- the expressions of the items, whose places count from the section's first byte
abbrev pub expressions_of : List ℕ → List RawEntry → List (List ℕ)
expressions_of section raws = map (λ (raw : RawEntry). bytes_in section raw.expr) (items_among raws)

-- the entries, without their expressions
abbrev pub entries_of : List (Entry × List ℕ) → List Entry
entries_of locations = map (λ (location : Entry × List ℕ). location.0) locations

-- the expressions of those that are items
abbrev pub item_expressions : List (Entry × List ℕ) → List (List ℕ)
item_expressions locations = map (λ (location : Entry × List ℕ). location.1) (filter (λ (location : Entry × List ℕ). not (sets_base location.0.kind)) locations)

-- ---- what a list says

-- what is read of some entries of location lists
abbrev pub AreLocationEntries : List RawEntry → Type 0
AreLocationEntries raws = (entries : List Entry) × AreSaid Locations raws entries

-- these are the items of some entries, one by one, each with the bounds and the expression of its entry
abbrev pub AreItems : List RawEntry → List Bounds → List Item → Type 0
AreItems [] [] [] = Unit {0}
AreItems (raw ∷ raws) (bounds ∷ others) (item ∷ items) = (item ≡ item_of raw.expr bounds) × AreItems raws others items
AreItems _ _ _ = ⊥

-- a list with these entries and bounds has these items, or is dead
abbrev pub Means : List RawEntry → List Bounds → Meaning → Type 0
Means raws bounds (Live items) = All Fits bounds × AreItems (items_among raws) bounds items
Means raws bounds Dead = IsDead bounds

-- This is what the location list says in the context, where `addr` are the bytes of .debug_addr.
pub record IsMeaning (addr : List ℕ) (context : Context) (raws : List RawEntry) (meaning : Meaning) : Type 0 where
  pub entries : List Entry
  pub bounds : List Bounds
  pub said : AreSaid Locations raws entries
  pub gives : Give addr context entries bounds
  pub means : Means raws bounds meaning
