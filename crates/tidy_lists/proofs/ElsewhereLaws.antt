-- A list or a run of view pairs stands elsewhere exactly where a pair says so.
use Rattle.std.proofs.Common.{◌≡◌, ◌≢◌, ◌≤◌, ◌<◌, ◌-◌, ◌^◌, ◌∙◌, ◌⊎◌, inl, inr, ℕ, List, length, sym, ap, subst, refl, arith}
use Rattle.std.specs.Prelude.{Option, slice_index}
use Rattle.std.specs.List.{Contains}
use Rattle.std.proofs.lemmas.Bool.{cases_eq}
use Rattle.list_model.specs.declared.entry.ListKind.{ListKind}
use Rattle.list_model.specs.declared.entry.ListKind.TheVariants.{Ranges, Locations}
use Rattle.value_links.specs.Reading.{Reading, of_kind, lists_of, list_at, view_at}
use Rattle.value_links.specs.Whole.{IsReading}
use Rattle.tidy_places.specs.Firsts.{IsLeastFound}
use Rattle.tidy_lists.specs.declared.due.Place.{Place}
use Rattle.tidy_lists.specs.declared.followers.Follower.{Follower}
use Rattle.tidy_lists.specs.Followers.{Follows, RunFollows, IsPartOfRun}
use Rattle.tidy_lists.specs.Due.{IsDue, IsListElsewhere, IsRunElsewhere, IsElsewhere}
use Rattle.tidy_lists.specs.Due.Piece.{ARun}
use Rattle.tidy_lists.specs.inside.Pairs.{AreListPairs}
use Rattle.tidy_lists.specs.inside.DuePlaces.{place_at, held_place, runs_of, part_of, AreKindRunPairs, IsKindRunElsewhere, AreFirstLists, AreFirstRuns, IsListDue, IsRunDue, AreListsDue, AreRunsDue, IsPartOfList, StandsList, StandsRun, StandLists, StandRuns}
use Rattle.tidy_lists.specs.inside.LeastPlaces.{lesser_of, pair_at, IsDisplaced, IsFirstOf}
use Rattle.tidy_lists.proofs.OldOrder.{list_inside}
use Rattle.tidy_lists.proofs.OneLength.{part_once}
use Rattle.tidy_lists.proofs.DueLaws.{list_due, list_due_once, run_due, run_due_once}
use Rattle.tidy_lists.proofs.FirstLaws.{itself, numbered}
use Rattle.tidy_lists.proofs.DisplacedLaws.{same_place}
use Rattle.tidy_lists.proofs.LeastLaws.{least_same, least_either}

-- a place that is held is the last number only where it is past it
held_once : (at end : ℕ) → at < 2 ^ 64 - 1 → at ≡ held_place end → end ≡ at
held_once at end less e = omega (arith, less, e)

-- WHICH ARE THE FIRST

pub first_lists : (kind : ListKind) (r s : Reading) (pairs : List Follower) (firsts : List ℕ) → AreListPairs kind r s pairs → ((k m : ℕ) → Contains pairs (record { old = k; new = m }) → IsFirstOf pairs k (slice_index firsts k)) → AreFirstLists kind r s firsts
first_lists kind r s pairs firsts are first k inside =
    let (m, holds) = are.each k inside in
    let is = first k m ((are.those k m).1 holds) in
    record {
      follows = (are.those k (slice_index firsts k)).0 is.among;
      first = λ earlier less follows. (let least = is.least earlier ((are.those k earlier).1 follows) in omega (arith, least, less));
    }

pub first_runs : (kind : ListKind) (r s : Reading) (pairs : List Follower) (firsts : List ℕ) → AreKindRunPairs kind r s pairs → ((k m : ℕ) → Contains pairs (record { old = k; new = m }) → IsFirstOf pairs k (slice_index firsts k)) → AreFirstRuns kind r s firsts
first_runs Ranges r s pairs firsts are first j inside = absurd (omega (arith, inside))
first_runs Locations r s pairs firsts are first j inside =
    let (m, holds) = are.each j inside in
    let is = first j m ((are.those j m).1 holds) in
    record {
      follows = (are.those j (slice_index firsts j)).0 is.among;
      first = λ earlier less follows. (let least = is.least earlier ((are.those j earlier).1 follows) in omega (arith, least, less));
    }

-- WHICH STAND ELSEWHERE

module _ (file other : List ℕ) (r s : Reading) (read : IsReading file r) (again : IsReading other s) (kind : ListKind) (small : length (of_kind s.links kind).section ≤ 2 ^ 35) (pairs : List Follower) (stands due : List Place) where
  module _ (are : AreListPairs kind r s pairs) (stand : StandLists kind s (length (lists_of s kind)) stands) (is_due : AreListsDue kind r s (length (lists_of r kind)) due) where
    displaced_list_is : (p : ℕ) → IsDisplaced (length pairs) pairs stands due p → IsListElsewhere kind r s p
    displaced_list_is p is =
        let k : ℕ = (pair_at pairs is.i).old in
        let m : ℕ = (pair_at pairs is.i).new in
        let follows : Follows kind r s k m = (are.those k m).0 (itself pairs is.i is.inside) in
        let own : StandsList kind s m (place_at stands m) = stand m follows.inside in
        let there : IsListDue kind r s k (place_at due k) = is_due k follows.known in
        let near : (list_at (lists_of s kind) m).at < length (of_kind s.links kind).section = list_inside other s again kind m follows.inside in
        record {
          k = k;
          m = m;
          follows = follows;
          due = there.end;
          is_due = list_due file other r s read again kind k (place_at due k) follows.known there;
          place = is.place ∙ own.at;
          elsewhere = elim (cases_eq (part_of s kind m) (part_of r kind k)) [
            | inr apart ↦ inr apart
            | inl same ↦ inl (λ e.
                let at : p ≡ (list_at (lists_of s kind) m).at = is.place ∙ own.at in
                let held : (place_at stands m).at ≡ (place_at due k).at = (let d : (place_at due k).at ≡ held_place there.end = there.at in let o : (place_at stands m).at ≡ (list_at (lists_of s kind) m).at = own.at in omega (arith, d, o, at, e, near, small)) in
                is.elsewhere (same_place (place_at stands m) (place_at due k) (own.part ∙ same ∙ sym there.part) held))
          ];
        }

    list_is_displaced : (p : ℕ) → IsListElsewhere kind r s p → IsDisplaced (length pairs) pairs stands due p
    list_is_displaced p h =
        let (i, inside, old, new) = numbered pairs h.k h.m ((are.those h.k h.m).1 h.follows) in
        let own : StandsList kind s h.m (place_at stands h.m) = stand h.m h.follows.inside in
        let there : IsListDue kind r s h.k (place_at due h.k) = is_due h.k h.follows.known in
        let near : (list_at (lists_of s kind) h.m).at < length (of_kind s.links kind).section = list_inside other s again kind h.m h.follows.inside in
        let held : (place_at due h.k).at ≡ held_place h.due = list_due_once file other r s read again kind h.k (place_at due h.k) h.follows.known there h.due h.is_due in
        let differ : place_at stands h.m ≢ place_at due h.k = λ same. elim h.elsewhere [
          | inl apart ↦
              let at : (place_at stands h.m).at ≡ p = own.at ∙ sym h.place in
              let equal : (place_at stands h.m).at ≡ held_place h.due = ap (λ (z : Place). z.at) same ∙ held in
              let place : p ≡ (list_at (lists_of s kind) h.m).at = h.place in
              apart (sym (held_once p h.due (omega (arith, place, near, small)) (sym at ∙ equal)))
          | inr apart ↦ apart (sym own.part ∙ ap (λ (z : Place). z.part) same ∙ there.part)
        ] in
        record {
          i = i;
          inside = inside;
          place = h.place ∙ sym own.at ∙ ap (λ (z : ℕ). (place_at stands z).at) (sym new);
          elsewhere = subst (λ (z : ℕ). place_at stands z ≢ place_at due (pair_at pairs i).old) (sym new) (subst (λ (z : ℕ). place_at stands h.m ≢ place_at due z) (sym old) differ);
        }

    pub list_elsewhere : (found : Option ℕ) → IsLeastFound (IsDisplaced (length pairs) pairs stands due) found → IsLeastFound (IsListElsewhere kind r s) found
    list_elsewhere = least_same (IsDisplaced (length pairs) pairs stands due) (IsListElsewhere kind r s) displaced_list_is list_is_displaced

module _ (file other : List ℕ) (r s : Reading) (read : IsReading file r) (again : IsReading other s) (pairs : List Follower) (stands due : List Place) where
  part_of_run : (s : Reading) (n p : ℕ) → IsPartOfList Locations s (view_at s.views n).list p → IsPartOfRun s (view_at s.views n) p
  part_of_run s n p is = record { k = is.k; inside = is.inside; list = is.list; part = is.part_is }

  -- runs stand in their section too
  module _ (near : (n : ℕ) → n < length s.views → (view_at s.views n).at < 2 ^ 64 - 1) (are : AreKindRunPairs Locations r s pairs) (stand : StandRuns Locations s (length s.views) stands) (is_due : AreRunsDue Locations r s (length r.views) due) where
    module _ (j : ℕ) (there : IsRunDue Locations r s j (place_at due j)) where
      due_part : IsPartOfRun r (view_at r.views j) (part_of r Locations there.k)
      due_part = record { k = there.k; inside = there.inside; list = sym there.with; part = refl }

    displaced_run_is : (p : ℕ) → IsDisplaced (length pairs) pairs stands due p → IsRunElsewhere r s p
    displaced_run_is p is =
        let j : ℕ = (pair_at pairs is.i).old in
        let n : ℕ = (pair_at pairs is.i).new in
        let follows : RunFollows r s j n = (are.those j n).0 (itself pairs is.i is.inside) in
        let own : StandsRun Locations s n (place_at stands n) = stand n follows.inside in
        let there : IsRunDue Locations r s j (place_at due j) = is_due j follows.known in
        let q : ℕ = part_of r Locations there.k in
        let less : (view_at s.views n).at < 2 ^ 64 - 1 = near n follows.inside in
        record {
          j = j;
          n = n;
          follows = follows;
          p = q;
          part = due_part j there;
          due = there.due.end;
          is_due = run_due file other r s read again Locations j (place_at due j) follows.known there;
          place = is.place ∙ own.at;
          elsewhere = elim (cases_eq (place_at stands n).part q) [
            | inr apart ↦ inr (λ part. apart (part_once other s again (view_at s.views n) (place_at stands n).part q (part_of_run s n (place_at stands n).part own.part) part))
            | inl same ↦ inl (λ e.
                let at : p ≡ (view_at s.views n).at = is.place ∙ own.at in
                let held : (place_at stands n).at ≡ (place_at due j).at = (let d : (place_at due j).at ≡ held_place there.due.end = there.due.at in let o : (place_at stands n).at ≡ (view_at s.views n).at = own.at in omega (arith, d, o, at, e, less)) in
                is.elsewhere (same_place (place_at stands n) (place_at due j) (same ∙ sym there.due.part) held))
          ];
        }

    run_is_displaced : (p : ℕ) → IsRunElsewhere r s p → IsDisplaced (length pairs) pairs stands due p
    run_is_displaced p h =
        let (i, inside, old, new) = numbered pairs h.j h.n ((are.those h.j h.n).1 h.follows) in
        let own : StandsRun Locations s h.n (place_at stands h.n) = stand h.n h.follows.inside in
        let there : IsRunDue Locations r s h.j (place_at due h.j) = is_due h.j h.follows.known in
        let q : ℕ = part_of r Locations there.k in
        let part : h.p ≡ q = part_once file r read (view_at r.views h.j) h.p q h.part (due_part h.j there) in
        let less : (view_at s.views h.n).at < 2 ^ 64 - 1 = near h.n h.follows.inside in
        let held : (place_at due h.j).at ≡ held_place h.due = run_due_once file other r s read again Locations h.j (place_at due h.j) h.follows.known there h.due (subst (λ (z : ℕ). IsDue Locations r s z (ARun h.j) h.due) part h.is_due) in
        let differ : place_at stands h.n ≢ place_at due h.j = λ same. elim h.elsewhere [
          | inl apart ↦
              let at : (place_at stands h.n).at ≡ p = own.at ∙ sym h.place in
              let equal : (place_at stands h.n).at ≡ held_place h.due = ap (λ (z : Place). z.at) same ∙ held in
              let place : p ≡ (view_at s.views h.n).at = h.place in
              apart (sym (held_once p h.due (omega (arith, place, less)) (sym at ∙ equal)))
          | inr apart ↦
              let parts : (place_at stands h.n).part ≡ h.p = ap (λ (z : Place). z.part) same ∙ there.due.part ∙ sym part in
              apart (subst (IsPartOfRun s (view_at s.views h.n)) parts (part_of_run s h.n (place_at stands h.n).part own.part))
        ] in
        record {
          i = i;
          inside = inside;
          place = h.place ∙ sym own.at ∙ ap (λ (z : ℕ). (place_at stands z).at) (sym new);
          elsewhere = subst (λ (z : ℕ). place_at stands z ≢ place_at due (pair_at pairs i).old) (sym new) (subst (λ (z : ℕ). place_at stands h.n ≢ place_at due z) (sym old) differ);
        }

    pub run_elsewhere : (found : Option ℕ) → IsLeastFound (IsDisplaced (length pairs) pairs stands due) found → IsLeastFound (IsRunElsewhere r s) found
    run_elsewhere = least_same (IsDisplaced (length pairs) pairs stands due) (IsRunElsewhere r s) displaced_run_is run_is_displaced

-- ranges have no runs
no_runs : (r s : Reading) (pairs : List Follower) (stands due : List Place) → AreKindRunPairs Ranges r s pairs → (p : ℕ) → IsDisplaced (length pairs) pairs stands due p → ⊥
no_runs r s pairs stands due are p is = (are.those (pair_at pairs is.i).old (pair_at pairs is.i).new).0 (itself pairs is.i is.inside)

pub kind_run_elsewhere :
    (file other : List ℕ) (r s : Reading) → IsReading file r → IsReading other s → (kind : ListKind) → ((n : ℕ) → n < length s.views → (view_at s.views n).at < 2 ^ 64 - 1) → (pairs : List Follower) (stands due : List Place) → AreKindRunPairs kind r s pairs → StandRuns kind s (length (runs_of s kind)) stands → AreRunsDue kind r s (length (runs_of r kind)) due →
    (found : Option ℕ) → IsLeastFound (IsDisplaced (length pairs) pairs stands due) found → IsLeastFound (IsKindRunElsewhere kind r s) found
kind_run_elsewhere file other r s read again Ranges near pairs stands due are stand is_due found least =
    least_same (IsDisplaced (length pairs) pairs stands due) (IsKindRunElsewhere Ranges r s) (λ p is. absurd (no_runs r s pairs stands due are p is)) (λ p none. absurd none) found least
kind_run_elsewhere file other r s read again Locations near pairs stands due are stand is_due found least = run_elsewhere file other r s read again pairs stands due near are stand is_due found least

-- both together
pub both_elsewhere : (kind : ListKind) (r s : Reading) (lists runs : Option ℕ) → IsLeastFound (IsListElsewhere kind r s) lists → IsLeastFound (IsKindRunElsewhere kind r s) runs → IsLeastFound (IsElsewhere kind r s) (lesser_of lists runs)
both_elsewhere Ranges r s lists runs one two =
    least_same (λ (p : ℕ). IsListElsewhere Ranges r s p ⊎ IsKindRunElsewhere Ranges r s p) (IsElsewhere Ranges r s) (λ p either. elim either [ inl list ↦ list | inr none ↦ absurd none ]) (λ p list. inl list) (lesser_of lists runs)
    (least_either (IsListElsewhere Ranges r s) (IsKindRunElsewhere Ranges r s) lists runs one two)
both_elsewhere Locations r s lists runs one two = least_either (IsListElsewhere Locations r s) (IsRunElsewhere r s) lists runs one two
