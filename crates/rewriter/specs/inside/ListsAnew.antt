-- What is read of the lists of a kind that were written anew.
use Rattle.std.specs.Prelude.{◌≡◌, ◌≤◌, ◌<◌, ◌*◌, ◌++◌, ℕ, List, length}
use Rattle.dw_base.specs.declared.classes.Classes.{Classes}
use Rattle.list_model.specs.declared.entry.ListKind.{ListKind}
use Rattle.list_model.specs.Contributions.{bytes_from, ContributionsTile}
use Rattle.list_model.specs.Entries.{Entry, AreSaid}
use Rattle.unit_write.specs.declared.places.Places.{Places}
use Rattle.list_write.specs.Written.{moved_at}
use Rattle.value_links.specs.Reading.{ListSection, ListRead, Reading, of_kind, lists_of, part_at, list_at}
use Rattle.value_links.specs.ListPlaces.{IsListPlace, SlotNames}
use Rattle.value_links.specs.Lists.{IsListOf, expressions_in}
use Rattle.written_files.specs.Classes.{AreBare, AreLeastBytes}
use Rattle.written_files.specs.TidyLists.{IsWhole}
use Rattle.rewriter.specs.declared.new_places.ListPlaces.{ListPlaces}
use Rattle.rewriter.specs.inside.Lists.{MeanTheSame, AreNewExpressions}

-- A list is read in the new section, in its contribution, and means what the old one means: its entries do, and the expressions of its
-- items are the old ones with new references. Its bytes are the shortest of its class, but for these expressions.
pub record IsListAnew (classes : Classes) (r : Reading) (places : List Places) (kind : ListKind) (section : ListSection) (old new : ListRead) : Type 0 where
  pub part : new.part ≡ old.part
  pub begins : IsListPlace section new.part new.at
  pub read : IsListOf kind section.section (part_at section new.part) new.at new.raws
  pub entries : List Entry
  pub said : AreSaid kind new.raws entries
  pub few : length new.raws ≤ 2 * length old.raws
  pub same : (before : List Entry) → AreSaid kind old.raws before → MeanTheSame classes r kind old before entries
  pub expressions : AreNewExpressions r.links places kind old (expressions_in kind section.section new.raws)
  pub bytes : List ℕ
  pub rest : List ℕ
  pub stands : bytes_from section.section (part_at section new.part) new.at ≡ bytes ++ rest
  pub whole : IsWhole kind new.raws bytes
  pub bare : List ℕ
  pub without : AreBare kind bytes bare
  pub least : AreLeastBytes classes r.links kind old bare

-- The contributions are those of the old section, with as many slots, and the lists those that something names, in their order. A
-- slot names where its list stands now.
pub record AreListsAnew (classes : Classes) (r : Reading) (places : List Places) (kind : ListKind) (section : ListSection) (lists : List ListRead) (moved : ListPlaces) : Type 0 where
  pub tiled : ContributionsTile section.section section.parts
  pub parts_are : section.parts ≡ moved.parts.items
  pub parts : length section.parts ≡ length (of_kind r.links kind).parts
  pub slots : (p : ℕ) → p < length (of_kind r.links kind).parts → (part_at section p).slots ≡ (part_at (of_kind r.links kind) p).slots
  pub count : length lists ≡ length (lists_of r kind)
  pub moves : length moved.lists.items ≡ length (lists_of r kind)
  pub from : (k : ℕ) → k < length (lists_of r kind) → (moved_at moved.lists.items k).old ≡ (list_at (lists_of r kind) k).at
  pub to : (k : ℕ) → k < length (lists_of r kind) → (moved_at moved.lists.items k).new ≡ (list_at lists k).at
  pub rising : (j k : ℕ) → j < k → k < length lists → (list_at lists j).at < (list_at lists k).at
  pub each : (k : ℕ) → k < length (lists_of r kind) → IsListAnew classes r places kind section (list_at (lists_of r kind) k) (list_at lists k)
  pub named : (p i k : ℕ) → k < length (lists_of r kind) → SlotNames (of_kind r.links kind) p i (list_at (lists_of r kind) k).at → SlotNames section p i (list_at lists k).at
