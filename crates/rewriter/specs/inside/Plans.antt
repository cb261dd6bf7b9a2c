-- The plans of the lists of a file, and their new expressions.
use Rattle.std.specs.Prelude.{◌≡◌, ◌≢◌, ◌≤◌, ◌<◌, ◌+◌, ◌*◌, ℕ, List, length, map, take, slice_index_or, true}
use Rattle.std.specs.List.{AllZip}
use Rattle.dw_base.specs.declared.classes.Classes.{Classes}
use Rattle.spelled.specs.Spelled.{Joined}
use Rattle.leb_codec.specs.Records.{OfList, SpellsRecord}
use Rattle.list_model.specs.declared.entry.ListKind.{ListKind}
use Rattle.list_model.specs.declared.item.Meaning.TheVariants.{Dead}
use Rattle.list_least.specs.declared.plan.Plan.{Plan}
use Rattle.list_write.specs.declared.named.NamedList.{NamedList}
use Rattle.list_write.specs.declared.named.NewExpressions.{NewExpressions}
use Rattle.list_write.specs.Written.{AreEnds, Piece, IsPieceOf, pieces, to_write, all_runs, runs_before, list_at}
use Rattle.unit_write.specs.declared.places.Places.{Places}
use Rattle.list_arena.specs.Held.{HeldList, HeldViews}
use Rattle.value_links.specs.Reading.{ListRead, Reading}
use Rattle.written_files.specs.Layouts.{AreNumbersOf}
use Rattle.value_links.specs.ListFaults.{expression_bytes}
use Rattle.value_links.specs.World.{World, lists_held, Holds, HoldsList}
use Rattle.rewriter.specs.inside.Lists.{IsPlannedFor, IsRecordedFor, AreNewExpressions}
use Rattle.rewriter.specs.inside.Runs.{run_held, views_held}

-- PLANS

-- a list with its plan; the expressions of its items and its view pairs are those of another
abbrev pub with_plan : HeldList → Plan → NamedList → NamedList
with_plan list plan other = record { part = list.part; at = list.at; plan = plan; expressions = other.expressions; views = other.views }

-- A list of a kind that is held is to be written by a plan, whatever reading holds it.
abbrev pub IsPlanOf : Classes → World → ListKind → HeldList → Plan → Type 0
IsPlanOf classes world kind list plan =
    (r : Reading) (old : ListRead) (other : NamedList) → Holds world.image world r → HoldsList r.links kind old list → IsPlannedFor classes r kind old (to_write (with_plan list plan other))

-- The potentials are those of a list that is held and isn't kept, whatever reading holds it.
abbrev pub ArePotentialsOf : Classes → World → ListKind → HeldList → List ℕ → Type 0
ArePotentialsOf classes world kind list potentials = (r : Reading) (old : ListRead) → Holds world.image world r → HoldsList r.links kind old list → IsRecordedFor classes r kind old potentials

-- The records have the potentials of those among the first so many lists that are held by their items, unless the classes keep all lists.
pub record AreRecordedTo (classes : Classes) (world : World) (kind : ListKind) (count : ℕ) (records : List ℕ) : Type 0 where
  pub numbers : List ℕ
  pub live : AreNumbersOf (λ (k : ℕ). (classes.lists ≡ true) × ((d : HeldList) → (slice_index_or (lists_held world kind) k d).meaning ≢ Dead)) count numbers
  pub potentials : List (List ℕ)
  pub recorded : AllZip (λ (k : ℕ) (each : List ℕ). (d : HeldList) → ArePotentialsOf classes world kind (slice_index_or (lists_held world kind) k d) each) numbers potentials
  pub spelled : Joined SpellsRecord (map OfList potentials) records

-- Its items are to have these expressions, which stand one after the other and have at most three times the bytes of the old ones.
pub record AreExpressionsFor (world : World) (places : List Places) (kind : ListKind) (list : HeldList) (new : NewExpressions) : Type 0 where
  pub ends : AreEnds new
  pub few : length new.bytes.items ≤ 3 * expression_bytes list.raw
  pub are : (r : Reading) (old : ListRead) → Holds world.image world r → HoldsList r.links kind old list → AreNewExpressions r.links places kind old (pieces 0 new.ends.items new.bytes.items)

-- this is a list with such a plan and such expressions
pub record IsPlannedAs (classes : Classes) (world : World) (places : List Places) (kind : ListKind) (list : HeldList) (named : NamedList) : Type 0 where
  pub is : named ≡ with_plan list named.plan named
  pub plan : IsPlanOf classes world kind list named.plan
  pub expressions : AreExpressionsFor world places kind list named.expressions

-- The view pairs of the first lists are the first of all; those of each go with it, and those that are left with lists behind.
pub record AreViewsUpTo (lists : List HeldList) (views : List HeldViews) (named : List NamedList) (next : ℕ) : Type 0 where
  pub inside : next ≤ length views
  pub are : all_runs (map to_write named) ≡ map run_held (take next views)
  pub own : (k i : ℕ) (d : HeldList) (e : HeldViews) → k < length named → i < length (list_at (map to_write named) k).views → (slice_index_or views (runs_before (map to_write named) k + i) e).list ≡ (slice_index_or lists k d).at
  pub later : (k m : ℕ) (d : HeldList) (e : HeldViews) → k < length named → next ≤ m → m < length views → (slice_index_or lists k d).at < (slice_index_or views m e).list

-- the first lists, each with a plan, expressions and view pairs
pub record ArePlannedTo (classes : Classes) (world : World) (places : List Places) (kind : ListKind) (n : ℕ) (named : List NamedList) : Type 0 where
  pub count : length named ≡ n
  pub each : (k : ℕ) (d : HeldList) (e : NamedList) → k < n → IsPlannedAs classes world places kind (slice_index_or (lists_held world kind) k d) (slice_index_or named k e)

-- The first lists are written, each by a plan, with expressions and behind its view pairs, which are so many of the first of all.
pub record ArePiecesPlanned (classes : Classes) (world : World) (places : List Places) (kind : ListKind) (n next : ℕ) (those : List Piece) : Type 0 where
  pub named : List NamedList
  pub planned : ArePlannedTo classes world places kind n named
  pub viewed : AreViewsUpTo (lists_held world kind) (views_held world kind) named next
  pub written : AllZip (IsPieceOf kind) (map to_write named) those
