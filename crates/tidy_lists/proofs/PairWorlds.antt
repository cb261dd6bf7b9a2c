-- Pairs of old and written things, of files that are held.
use Rattle.std.proofs.Common.{◌≡◌, ◌<◌, ◌∙◌, ℕ, List, length, map, sym, subst, arith}
use Rattle.std.specs.Prelude.{Option, slice_index, IfOk, Result}
use Rattle.std.specs.List.{Contains}
use Rattle.list_model.specs.declared.entry.ListKind.{ListKind}
use Rattle.list_model.specs.declared.entry.ListKind.TheVariants.{Ranges, Locations}
use Rattle.value_links.specs.Reading.{Reading, lists_of, view_at}
use Rattle.value_links.specs.World.{World, lists_held}
use Rattle.tidy_places.specs.Firsts.{IsLeastFound}
use Rattle.tidy_lists.specs.declared.due.Place.{Place}
use Rattle.tidy_lists.specs.declared.followers.Follower.{Follower}
use Rattle.tidy_lists.specs.Due.{IsListElsewhere, IsElsewhere}
use Rattle.tidy_lists.specs.inside.Compared.{OfBoth}
use Rattle.tidy_lists.specs.inside.Pairs.{AreListPairs, AreRunPairs}
use Rattle.tidy_lists.specs.inside.DuePlaces.{runs_of, runs_held, standing, AreKindRunPairs, KindRunFollows, IsKindRunElsewhere, AreFirstLists, AreFirstRuns, AreListsDue, AreRunsDue, StandRuns}
use Rattle.tidy_lists.specs.inside.LeastPlaces.{lesser_of, AreInside, IsDisplaced, IsFirstOf}
use Rattle.tidy_lists.proofs.HeldThings.{IsSomeWorld, list_count, run_count}
use Rattle.tidy_lists.proofs.SectionSizes.{section_short, run_inside}
use Rattle.tidy_lists.proofs.StandingLaws.{lists_stand}
use Rattle.tidy_lists.proofs.ElsewhereLaws.{first_lists, first_runs, list_elsewhere, kind_run_elsewhere, both_elsewhere}

-- a kind of lists that has runs is that of locations
pub location_runs : {E : Type 0} (a b : World) (kind : ListKind) → kind ≡ Locations → {V : Type 0} (items : V → List Follower) (pairs : Result V E) → IfOk pairs (λ v. OfBoth a b (λ r s. AreRunPairs r s (items v))) → IfOk pairs (λ v. OfBoth a b (λ r s. AreKindRunPairs kind r s (items v)))
location_runs {E} a b kind is {V} items pairs are = subst (λ (z : ListKind). IfOk pairs (λ v. OfBoth a b (λ r s. AreKindRunPairs z r s (items v)))) (sym is) are

run_known : (kind : ListKind) (r s : Reading) (j n : ℕ) → KindRunFollows kind r s j n → (j < length (runs_of r kind)) × (n < length (runs_of s kind))
run_known Ranges r s j n none = absurd none
run_known Locations r s j n follows = (follows.known, follows.inside)

module _ (a b : World) (some : IsSomeWorld a) (other : IsSomeWorld b) (kind : ListKind) where
  -- the things of pairs are among those of the files
  pub lists_inside : (pairs : List Follower) → OfBoth a b (λ r s. AreListPairs kind r s pairs) → AreInside (length (lists_held a kind)) (length (lists_held b kind)) pairs
  lists_inside pairs are k m there =
      let (reach, is) = some in
      let (range, was) = other in
      let follows = ((are is.r was.r is.read is.holds was.read was.holds).those k m).0 there in
      let known : k < length (lists_of is.r kind) = follows.known in
      let inside : m < length (lists_of was.r kind) = follows.inside in
      (omega (arith, known, list_count a is.r is.holds kind), omega (arith, inside, list_count b was.r was.holds kind))

  pub runs_inside : (pairs : List Follower) → OfBoth a b (λ r s. AreKindRunPairs kind r s pairs) → AreInside (length (runs_held a kind)) (length (runs_held b kind)) pairs
  runs_inside pairs are k m there =
      let (reach, is) = some in
      let (range, was) = other in
      let follows = ((are is.r was.r is.read is.holds was.read was.holds).those k m).0 there in
      let (known, inside) = run_known kind is.r was.r k m follows in
      (omega (arith, known, run_count a is.r is.holds kind), omega (arith, inside, run_count b was.r was.holds kind))

  -- the first ones
  pub lists_first : (pairs : List Follower) (firsts : List ℕ) → OfBoth a b (λ r s. AreListPairs kind r s pairs) → ((k m : ℕ) → Contains pairs (record { old = k; new = m }) → IsFirstOf pairs k (slice_index firsts k)) → OfBoth a b (λ r s. AreFirstLists kind r s firsts)
  lists_first pairs firsts are first = λ r s read holds again held. first_lists kind r s pairs firsts (are r s read holds again held) first

  pub runs_first : (pairs : List Follower) (firsts : List ℕ) → OfBoth a b (λ r s. AreKindRunPairs kind r s pairs) → ((k m : ℕ) → Contains pairs (record { old = k; new = m }) → IsFirstOf pairs k (slice_index firsts k)) → OfBoth a b (λ r s. AreFirstRuns kind r s firsts)
  runs_first pairs firsts are first = λ r s read holds again held. first_runs kind r s pairs firsts (are r s read holds again held) first

  -- the first that stand elsewhere
  pub lists_elsewhere :
      (pairs : List Follower) (stands due : List Place) (found : Option ℕ) → OfBoth a b (λ r s. AreListPairs kind r s pairs) → stands ≡ map standing (lists_held b kind) → OfBoth a b (λ r s. AreListsDue kind r s (length (lists_of r kind)) due) → IsLeastFound (IsDisplaced (length pairs) pairs stands due) found →
      OfBoth a b (λ r s. IsLeastFound (IsListElsewhere kind r s) found)
  lists_elsewhere pairs stands due found are stand is least = λ r s read holds again held.
      list_elsewhere a.image b.image r s read again kind (section_short b other s held kind) pairs stands due (are r s read holds again held) (lists_stand b s held kind stands stand) (is r s read holds again held) found least

  pub runs_elsewhere :
      (pairs : List Follower) (stands due : List Place) (found : Option ℕ) → OfBoth a b (λ r s. AreKindRunPairs kind r s pairs) → length stands ≡ length (runs_held b kind) → OfBoth b b (λ r s. StandRuns kind s (length stands) stands) → OfBoth a b (λ r s. AreRunsDue kind r s (length (runs_of r kind)) due) →
      IsLeastFound (IsDisplaced (length pairs) pairs stands due) found → OfBoth a b (λ r s. IsLeastFound (IsKindRunElsewhere kind r s) found)
  runs_elsewhere pairs stands due found are long stand is least = λ r s read holds again held.
      let count : length stands ≡ length (runs_of s kind) = long ∙ run_count b s held kind in
      let all : StandRuns kind s (length (runs_of s kind)) stands = subst (λ (z : ℕ). StandRuns kind s z stands) count (stand s s again held again held) in
      kind_run_elsewhere a.image b.image r s read again kind (λ n inside. (let place : (view_at s.views n).at < length s.links.locations.section = run_inside b.image s again n inside in omega (arith, place, section_short b other s held Locations))) pairs stands due
      (are r s read holds again held) all (is r s read holds again held) found least

  pub least_elsewhere : (lists runs found : Option ℕ) → found ≡ lesser_of lists runs → OfBoth a b (λ r s. IsLeastFound (IsListElsewhere kind r s) lists) → OfBoth a b (λ r s. IsLeastFound (IsKindRunElsewhere kind r s) runs) → OfBoth a b (λ r s. IsLeastFound (IsElsewhere kind r s) found)
  least_elsewhere lists runs found is one two = λ r s read holds again held.
      subst (IsLeastFound (IsElsewhere kind r s)) (sym is) (both_elsewhere kind r s lists runs (one r s read holds again held) (two r s read holds again held))
