-- The lists of a file that aren't kept, as they are pushed one after the other.
-- Inner functions and proofs alone need what stands here.
use Rattle.std.specs.Prelude.{◌≡◌, ◌++◌, ℕ, List, length, map, slice_index_or, true}
use Rattle.dw_base.specs.declared.classes.Classes.{Classes}
use Rattle.list_model.specs.declared.entry.ListKind.{ListKind}
use Rattle.list_model.specs.declared.item.Meaning.TheVariants.{Dead}
use Rattle.list_arena.specs.Held.{HeldList}
use Rattle.written_files.specs.Layouts.{AreNumbersOf}
use Rattle.value_links.specs.World.{World, lists_held}
use Rattle.check_records.specs.declared.parts.Part.{Part as HeldPart}
use Rattle.check_records.specs.declared.parts.Part.TheVariants as held

-- the list with a number isn't held as a dead one
abbrev pub IsLive : World → ListKind → ℕ → Type 0
IsLive world kind k = (d : HeldList) → ¬ ((slice_index_or (lists_held world kind) k d).meaning ≡ Dead)

-- it isn't kept: the classes have other entries, and it isn't held as a dead one
abbrev pub IsSearched : Classes → World → ListKind → ℕ → Type 0
IsSearched classes world kind k = (classes.lists ≡ true) × IsLive world kind k

-- new is old with those of the first so many lists that aren't kept
pub record AddsLists (classes : Classes) (world : World) (kind : ListKind) (count : ℕ) (old new : List HeldPart) : Type 0 where
  pub numbers : List ℕ
  pub searched : AreNumbersOf (IsSearched classes world kind) count numbers
  pub whole : new ≡ old ++ map (held.List kind) numbers

-- those of all
abbrev pub AddsAllLists : Classes → World → ListKind → List HeldPart → List HeldPart → Type 0
AddsAllLists classes world kind old new = AddsLists classes world kind (length (lists_held world kind)) old new
