-- Range lists in .debug_rnglists (DWARF 5 sections 2.17.3 and 7.25).
use Rattle.std.specs.Prelude.{◌≡◌, ◌+◌, ℕ, List, map}
use Rattle.std.specs.List.{All}
use Rattle.dw_base.specs.declared.fault.Kind.{Kind}
use Rattle.dw_base.specs.declared.fault.Reach.{Reach}
use Rattle.list_model.specs.declared.context.Context.{Context}
use Rattle.list_model.specs.declared.contribution.Contribution.{Contribution}
use Rattle.list_model.specs.declared.entry.ListKind.TheVariants.{Ranges}
use Rattle.list_model.specs.declared.entry.RawEntry.{RawEntry}
use Rattle.list_model.specs.declared.item.Meaning.{Meaning}
use Rattle.list_model.specs.declared.item.Meaning.TheVariants.{Live, Dead}
use Rattle.list_model.specs.Contributions.{bytes_from}
use Rattle.list_model.specs.Entries.{Entry, SpellsEntry, FaultEntry, Says, AreSaid, no_expr}
use Rattle.list_model.specs.Reading.{IsListRead, FaultList}
use Rattle.list_model.specs.Items.{Bounds, Give, Fits, IsDead, item_of}

-- ---- the bytes of a list

-- what is read of an entry that stands at a place, by its bytes
pub record IsRead (at : ℕ) (raw : RawEntry) (entry : Entry) (bytes : List ℕ) : Type 0 where
  pub place : raw.at ≡ at
  pub says : Says Ranges raw entry
  pub without : raw.expr ≡ no_expr
  pub spelled : SpellsEntry Ranges entry bytes

-- This is what is read of a range list at a place of the contribution.
abbrev pub IsRangeList : List ℕ → Contribution → ℕ → List RawEntry → Type 0
IsRangeList = IsListRead IsRead

-- The bytes, which go on to the end of the contribution, have a fault as a range list. Places count from the first of them.
abbrev pub FaultRanges : Reach → Kind → ℕ → List ℕ → Type 0
FaultRanges = FaultList (SpellsEntry Ranges) (FaultEntry Ranges)

-- The range list at a place of the contribution has a fault. Places count from the section's first byte.
abbrev pub FaultRangeList : List ℕ → Contribution → ℕ → Reach → Kind → ℕ → Type 0
FaultRangeList section part at reach kind place = (inner : ℕ) × (place ≡ at + inner) × FaultRanges reach kind inner (bytes_from section part at)

-- ---- what a list says

-- what is read of some entries of range lists
abbrev pub AreRangeEntries : List RawEntry → Type 0
AreRangeEntries raws = (entries : List Entry) × AreSaid Ranges raws entries

-- a list with these bounds has these items, or is dead
abbrev pub Means : List Bounds → Meaning → Type 0
Means bounds (Live items) = All Fits bounds × (items ≡ map (item_of no_expr) bounds)
Means bounds Dead = IsDead bounds

-- This is what the range list says in the context, where `addr` are the bytes of .debug_addr.
pub record IsMeaning (addr : List ℕ) (context : Context) (raws : List RawEntry) (meaning : Meaning) : Type 0 where
  pub entries : List Entry
  pub bounds : List Bounds
  pub said : AreSaid Ranges raws entries
  pub gives : Give addr context entries bounds
  pub means : Means bounds meaning
