-- The lists of a kind of a file written anew.
use Rattle.std.specs.Prelude.{◌≡◌, ◌≤◌, ◌<◌, ◌+◌, ◌*◌, ℕ, List, length, map, Option, Some}
use Rattle.std.specs.List.{AllZip}
use Rattle.dw_base.specs.declared.classes.Classes.{Classes}
use Rattle.spelled.specs.Spelled.{Joined}
use Rattle.leb_codec.specs.Records.{OfList, SpellsRecord}
use Rattle.unit_write.specs.declared.places.Places.{Places}
use Rattle.list_model.specs.declared.contribution.Contribution.{Contribution}
use Rattle.list_model.specs.declared.entry.ListKind.{ListKind}
use Rattle.list_model.specs.Entries.{Entry, AreSaid}
use Rattle.list_model.specs.Items.{Bounds, Give}
use Rattle.list_model.specs.Potentials.{AcceptsList, AreGreatest}
use Rattle.list_least.specs.Plans.{entries_bytes, ArePicks}
use Rattle.list_least.specs.Shortest.{ShortestList}
use Rattle.list_write.specs.declared.image.Moved.{Moved}
use Rattle.list_write.specs.Written.{ToWrite, all_runs, runs_before, AreWritten}
use Rattle.list_write.specs.Written.{list_at as written_at}
use Rattle.value_links.specs.Reading.{ListRead, Linkable, Reading, of_kind, lists_of, list_at, view_at, context_at}
use Rattle.value_links.specs.Lists.{IsOwner, IsFrozen, owner_unit, expressions_at}
use Rattle.written_files.specs.Kept.{IsKept}
use Rattle.written_files.specs.Classes.{AreLeastBytes}
use Rattle.written_files.specs.Layouts.{AreNumbersOf}
use Rattle.rewriter.specs.inside.Numbers.{IsNewExpression}
use Rattle.rewriter.specs.inside.Runs.{views_among, run_for}

-- The entries of a list that isn't frozen give what the old ones give in the context of its owner, and those of one that is kept are its own.
pub record MeanTheSame (classes : Classes) (r : Reading) (kind : ListKind) (list : ListRead) (old new : List Entry) : Type 0 where
  pub live : (¬ IsFrozen r.links kind list) → (u : ℕ) (bounds : List Bounds) → IsOwner r.links kind list.at (Some u) → Give r.links.addresses (context_at r.links u) old bounds → Give r.links.addresses (context_at r.links u) new bounds
  pub kept : IsKept classes r.links kind list → new ≡ old

-- A list is to be written in its contribution, with entries that mean the same, and whose shortest bytes are least in the class of the
-- list. There are at most twice as many entries as before.
pub record IsPlannedFor (classes : Classes) (r : Reading) (kind : ListKind) (list : ListRead) (written : ToWrite) : Type 0 where
  pub part : written.part ≡ list.part
  pub at : written.at ≡ list.at
  pub entries : List Entry
  pub picked : ArePicks kind written.picks entries
  pub size : written.size ≡ entries_bytes entries + 1
  pub few : length entries ≤ 2 * length list.raws
  pub same : (old : List Entry) → AreSaid kind list.raws old → MeanTheSame classes r kind list old entries
  pub least : (bytes : List ℕ) → ShortestList kind entries bytes → AreLeastBytes classes r.links kind list bytes

-- The potentials of a list that isn't kept are accepted for what its entries give in the context of its owner, and for its size, and each is
-- the greatest that is. The size is that of the shortest bytes of its class.
pub record IsRecordedFor (classes : Classes) (r : Reading) (kind : ListKind) (list : ListRead) (potentials : List ℕ) : Type 0 where
  pub size : ℕ
  pub accepted : (u : ℕ) (old : List Entry) (bounds : List Bounds) → IsOwner r.links kind list.at (Some u) → AreSaid kind list.raws old → Give r.links.addresses (context_at r.links u) old bounds → AcceptsList r.links.addresses (context_at r.links u) bounds potentials size × AreGreatest r.links.addresses (context_at r.links u) bounds potentials
  pub sized : (bytes : List ℕ) → AreLeastBytes classes r.links kind list bytes → length bytes ≡ size

-- The records have the potentials of the lists of a kind that aren't kept, one after the other.
pub record AreListsRecorded (classes : Classes) (r : Reading) (kind : ListKind) (records : List ℕ) : Type 0 where
  pub numbers : List ℕ
  pub live : AreNumbersOf (λ (k : ℕ). ¬ IsKept classes r.links kind (list_at (lists_of r kind) k)) (length (lists_of r kind)) numbers
  pub potentials : List (List ℕ)
  pub recorded : AllZip (λ (k : ℕ) (each : List ℕ). IsRecordedFor classes r kind (list_at (lists_of r kind) k) each) numbers potentials
  pub spelled : Joined SpellsRecord (map OfList potentials) records

-- The expressions of a list's items are to be written with their operations, each reference at the new place of what it names.
pub record AreNewExpressions (r : Linkable) (places : List Places) (kind : ListKind) (list : ListRead) (made : List (List ℕ)) : Type 0 where
  pub owner : Option ℕ
  pub owned : IsOwner r kind list.at owner
  pub each : AllZip (IsNewExpression r places (owner_unit r owner)) (expressions_at r kind list) made

-- The section holds the lists that something names, each as it is planned with its expressions and its view pairs, and nothing else.
-- `places` are those of all units.
pub record AreListsWritten (classes : Classes) (r : Reading) (places : List Places) (kind : ListKind) (section : List ℕ) (parts : List Contribution) (moved views : List Moved) : Type 0 where
  pub lists : List ToWrite
  pub count : length lists ≡ length (lists_of r kind)
  pub each : (k : ℕ) → k < length (lists_of r kind) → IsPlannedFor classes r kind (list_at (lists_of r kind) k) (written_at lists k)
  pub expressions : (k : ℕ) → k < length (lists_of r kind) → AreNewExpressions r.links places kind (list_at (lists_of r kind) k) (written_at lists k).expressions
  pub runs : all_runs lists ≡ map run_for (views_among kind r.views)
  pub own : (k i : ℕ) → k < length (lists_of r kind) → i < length (written_at lists k).views → (view_at (views_among kind r.views) (runs_before lists k + i)).list ≡ (list_at (lists_of r kind) k).at
  pub written : AreWritten kind (of_kind r.links kind).section (of_kind r.links kind).parts lists section parts moved views
