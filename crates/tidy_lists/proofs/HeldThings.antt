-- Lists and runs of view pairs as they are held, and as they were read.
use Rattle.std.proofs.Common.{◌≡◌, ◌≤◌, ◌<◌, ◌∙◌, ℕ, List, [], ◌∷◌, length, get_or, map, sym, ap, refl, arith}
use Rattle.std.specs.Prelude.{slice_index_or}
use Rattle.std.proofs.lemmas.List.{length-map, get_or-map}
use Rattle.dw_base.specs.declared.fault.Reach.{Reach}
use Rattle.list_model.specs.declared.contribution.Contribution.{Contribution}
use Rattle.list_model.specs.declared.entry.ListKind.{ListKind}
use Rattle.list_model.specs.declared.entry.ListKind.TheVariants.{Ranges, Locations}
use Rattle.list_arena.specs.Held.{HeldList, HeldViews}
use Rattle.value_links.specs.Reading.{ViewRead, Reading, of_kind, lists_of, part_at, list_at, view_at}
use Rattle.value_links.specs.Whole.{IsReading}
use Rattle.value_links.specs.World.{World, contributions_held, contribution_at, lists_held, Holds, IsWorldOf}
use Rattle.value_links.specs.Same.{Same}
use Rattle.value_links.proofs.ReadingOnce.{reading_once}
use Rattle.tidy_lists.specs.inside.Compared.{OfBoth}
use Rattle.tidy_lists.specs.inside.DuePlaces.{runs_of, runs_held, part_of, AreRunsHeld, AreRunsOf, IsPartOfList}
use Rattle.tidy_lists.proofs.OldOrder.{list_begins, run_list}

-- the world is that of some valid file
abbrev pub IsSomeWorld : World → Type 0
IsSomeWorld world = (reach : Reach) × IsWorldOf world.image reach world

module _ (world : World) (r : Reading) (holds : Holds world.image world r) (kind : ListKind) where
  pub list_count : length (lists_held world kind) ≡ length (lists_of r kind)
  list_count = (holds.lists kind).count

  pub held_part : (k : ℕ) (d : HeldList) → k < length (lists_held world kind) → (get_or (lists_held world kind) k d).part ≡ part_of r kind k
  held_part k d inside = ((holds.lists kind).each k d (omega (arith, inside, list_count))).part

  pub held_at : (k : ℕ) (d : HeldList) → k < length (lists_held world kind) → (get_or (lists_held world kind) k d).at ≡ (list_at (lists_of r kind) k).at
  held_at k d inside = ((holds.lists kind).each k d (omega (arith, inside, list_count))).at

  pub part_count : length (contributions_held world kind) ≡ length (of_kind r.links kind).parts
  part_count = ap (λ (z : List Contribution). length z) (holds.contributions kind)

  pub held_contribution : (p : ℕ) → contribution_at world kind p ≡ part_at (of_kind r.links kind) p
  held_contribution p = ap (λ (z : List Contribution). get_or z p (record { at = 0; len = 0; slots = 0 })) (holds.contributions kind)

pub run_count : (world : World) (r : Reading) → Holds world.image world r → (kind : ListKind) → length (runs_held world kind) ≡ length (runs_of r kind)
run_count world r holds Ranges = refl
run_count world r holds Locations =
    sym (ap (λ (z : List ViewRead). length z) holds.views ∙ length-map world.views (λ (run : HeldViews). record { list = run.list; at = run.at; pairs = run.pairs }))

-- a kind that has runs has all that are held
pub runs_all : (world : World) (kind : ListKind) (n : ℕ) → n < length (runs_held world kind) → world.views ≡ runs_held world kind
runs_all world Ranges n inside = absurd (omega (arith, inside))
runs_all world Locations n inside = refl

pub held_run : (world : World) (r : Reading) → Holds world.image world r → (kind : ListKind) (j : ℕ) (d : HeldViews) → j < length (runs_held world kind) → (get_or (runs_held world kind) j d).list ≡ (view_at (runs_of r kind) j).list
held_run world r holds Ranges j d inside = absurd (omega (arith, inside))
held_run world r holds Locations j d inside =
    let there : view_at (map (λ (run : HeldViews). record { list = run.list; at = run.at; pairs = run.pairs }) world.views) j ≡ record { list = (get_or world.views j d).list; at = (get_or world.views j d).at; pairs = (get_or world.views j d).pairs } = get_or-map (λ (run : HeldViews). record { list = run.list; at = run.at; pairs = run.pairs }) world.views j d (record { list = 0; at = 0; pairs = [] }) inside in
    sym (ap (λ (z : List ViewRead). (view_at z j).list) holds.views ∙ ap (λ (z : ViewRead). z.list) there)

pub held_run_at : (world : World) (r : Reading) → Holds world.image world r → (j : ℕ) (d : HeldViews) → j < length world.views → (get_or world.views j d).at ≡ (view_at r.views j).at
held_run_at world r holds j d inside =
    let there : view_at (map (λ (run : HeldViews). record { list = run.list; at = run.at; pairs = run.pairs }) world.views) j ≡ record { list = (get_or world.views j d).list; at = (get_or world.views j d).at; pairs = (get_or world.views j d).pairs } = get_or-map (λ (run : HeldViews). record { list = run.list; at = run.at; pairs = run.pairs }) world.views j d (record { list = 0; at = 0; pairs = [] }) inside in
    sym (ap (λ (z : List ViewRead). (view_at z j).at) holds.views ∙ ap (λ (z : ViewRead). z.at) there)

-- LISTS BY THEIR PLACES

-- a list at a place, and the number of its contribution
pub part_found : (world : World) (kind : ListKind) (k at part : ℕ) (d : HeldList) → k < length (lists_held world kind) → (get_or (lists_held world kind) k d).at ≡ at → part ≡ (get_or (lists_held world kind) k d).part → OfBoth world world (λ r s. IsPartOfList kind s at part)
part_found world kind k at part d inside here is = λ r s read holds again held. record {
  k = k;
  inside = omega (arith, inside, list_count world s held kind);
  list = sym (held_at world s held kind k d inside) ∙ here;
  part_is = sym (is ∙ held_part world s held kind k d inside);
}

-- the list with which a run goes
pub list_of_run : (world : World) → IsSomeWorld world → (kind : ListKind) (n at : ℕ) (run : HeldViews) → n < length (runs_held world kind) → at ≡ (get_or (runs_held world kind) n run).list → (k : ℕ) × (k < length (lists_held world kind)) × ((list : HeldList) → (get_or (lists_held world kind) k list).at ≡ at)
list_of_run world (reach, is) kind n at run inside e =
    let (k, known, with) = run_list world.image is.r is.read kind n (omega (arith, inside, run_count world is.r is.holds kind)) in
    let there : k < length (lists_held world kind) = omega (arith, known, list_count world is.r is.holds kind) in
    (k, there, λ list. held_at world is.r is.holds kind k list there ∙ sym with ∙ sym (held_run world is.r is.holds kind n run inside) ∙ sym e)

-- TWO FILES THAT MEAN THE SAME

-- have as many contributions
pub same_parts : (a b : World) (r s : Reading) → IsReading a.image r → IsReading b.image s → Same a.image b.image → (kind : ListKind) → length (of_kind s.links kind).parts ≡ length (of_kind r.links kind).parts
same_parts a b r s read again same kind =
    let (debug, means, other) = same.debug in
    let (p, p_read, p_means) = means in
    let (q, q_read, q_means) = other in
    let first : length (of_kind r.links kind).parts ≡ length (of_kind p.links kind).parts = ap (λ (z : Reading). length (of_kind z.links kind).parts) (reading_once a.image r p read p_read) in
    let second : length (of_kind s.links kind).parts ≡ length (of_kind q.links kind).parts = ap (λ (z : Reading). length (of_kind z.links kind).parts) (reading_once b.image s q again q_read) in
    second ∙ sym (q_means.lists kind).count ∙ (p_means.lists kind).count ∙ sym first

-- the contribution of an old list is one of the written file too
pub part_known : (a b : World) → IsSomeWorld a → IsSomeWorld b → Same a.image b.image → (kind : ListKind) (k : ℕ) (d : HeldList) → k < length (lists_held a kind) → (get_or (lists_held a kind) k d).part < length (contributions_held b kind)
part_known a b (reach, is) (range, was) same kind k d inside =
    let begins = list_begins a.image is.r is.read kind k (omega (arith, inside, list_count a is.r is.holds kind)) in
    let known : part_of is.r kind k < length (of_kind is.r.links kind).parts = begins.0 in
    omega (arith, known, held_part a is.r is.holds kind k d inside, same_parts a b is.r was.r is.read was.read same kind, part_count b was.r was.holds kind)

-- and of its own file
pub part_inside : (a : World) → IsSomeWorld a → (kind : ListKind) (k : ℕ) (d : HeldList) → k < length (lists_held a kind) → (get_or (lists_held a kind) k d).part < length (contributions_held a kind)
part_inside a (reach, is) kind k d inside =
    let begins = list_begins a.image is.r is.read kind k (omega (arith, inside, list_count a is.r is.holds kind)) in
    let known : part_of is.r kind k < length (of_kind is.r.links kind).parts = begins.0 in
    omega (arith, known, held_part a is.r is.holds kind k d inside, part_count a is.r is.holds kind)

-- RUNS THAT ARE SWEPT

-- the runs from a number up to another are those of a list
pub record AreRunsSwept (world : World) (kind : ListKind) (k from to : ℕ) : Type 0 where
  pub more : from ≤ to
  pub inside : to ≤ length (runs_held world kind)
  pub own : (j : ℕ) (list : HeldList) (run : HeldViews) → from ≤ j → j < to → (slice_index_or (runs_held world kind) j run).list ≡ (slice_index_or (lists_held world kind) k list).at

-- something that a list has
pub some_element : {X : Type 0} (xs : List X) (k : ℕ) → k < length xs → X
some_element [] k inside = absurd (omega (arith, inside))
some_element (x ∷ xs) k inside = x

pub runs_swept : (world : World) (r : Reading) → Holds world.image world r → (kind : ListKind) (k from to : ℕ) → k < length (lists_held world kind) → AreRunsHeld world kind k from to → AreRunsOf kind r k from to
runs_swept world r holds kind k from to inside held =
    let list : HeldList = some_element (lists_held world kind) k inside in
    record {
      inside = let most = held.inside in let count = run_count world r holds kind in omega arith;
      own = λ j past less.
          let there : j < length (runs_held world kind) = (let most = held.inside in omega (arith, less, most)) in
          let run : HeldViews = some_element (runs_held world kind) j there in
          sym (held_run world r holds kind j run there) ∙ held.own j list run past less ∙ held_at world r holds kind k list inside;
      other = λ less same.
          let there : to < length (runs_held world kind) = (let count = run_count world r holds kind in omega (arith, less, count)) in
          let run : HeldViews = some_element (runs_held world kind) to there in
          held.other list run there (held_run world r holds kind to run there ∙ same ∙ sym (held_at world r holds kind k list inside));
    }
