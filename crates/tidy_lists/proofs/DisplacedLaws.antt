-- The least place at which a written thing stands that isn't where an old one is due.
use Rattle.std.proofs.Common.{◌≡◌, ◌≢◌, ◌+◌, ◌∙◌, ◌⊎◌, inl, inr, ℕ, List, Bool, true, false, ◌&&◌, not, eqb, sym, ap, subst, arith}
use Rattle.std.specs.Prelude.{Option, Some}
use Rattle.std.proofs.lemmas.Bool.{cases_lt, true≢false, not-true, not-false, and_parts, and_from, eqb-true, eq-eqb}
use Rattle.tidy_places.specs.Firsts.{IsLeastFound}
use Rattle.tidy_lists.specs.declared.due.Place.{Place}
use Rattle.tidy_lists.specs.declared.followers.Follower.{Follower}
use Rattle.tidy_lists.specs.inside.DuePlaces.{place_at}
use Rattle.tidy_lists.specs.inside.LeastPlaces.{lesser_of, pair_at, IsDisplaced}
use Rattle.tidy_lists.proofs.LeastLaws.{least_same, least_either, least_one}

pub same_place : (p q : Place) → p.part ≡ q.part → p.at ≡ q.at → p ≡ q
same_place p q part at = ap (λ (z : ℕ). record { part = z; at = p.at }) part ∙ ap (λ (z : ℕ). record { part = q.part; at = z }) at

pub places_differ : (p q : Place) (b : Bool) → b ≡ not (eqb p.part q.part && eqb p.at q.at) → b ≡ true → p ≢ q
places_differ p q b is passes same =
    let fails : (eqb p.part q.part && eqb p.at q.at) ≡ false = not-true (eqb p.part q.part && eqb p.at q.at) (sym is ∙ passes) in
    let both : (eqb p.part q.part && eqb p.at q.at) ≡ true = and_from (eqb p.part q.part) (eqb p.at q.at) (eq-eqb p.part q.part (ap (λ (z : Place). z.part) same)) (eq-eqb p.at q.at (ap (λ (z : Place). z.at) same)) in
    true≢false (sym both ∙ fails)

pub places_same : (p q : Place) (b : Bool) → b ≡ not (eqb p.part q.part && eqb p.at q.at) → b ≡ false → p ≡ q
places_same p q b is fails =
    let both = and_parts (eqb p.part q.part) (eqb p.at q.at) (not-false (eqb p.part q.part && eqb p.at q.at) (sym is ∙ fails)) in
    same_place p q (eqb-true p.part q.part both.0) (eqb-true p.at q.at both.1)

module _ (pairs : List Follower) (stands due : List Place) where
  abbrev stood : ℕ → Place
  stood i = place_at stands (pair_at pairs i).new

  abbrev wanted : ℕ → Place
  wanted i = place_at due (pair_at pairs i).old

  longer : (i p : ℕ) → IsDisplaced i pairs stands due p → IsDisplaced (i + 1) pairs stands due p
  longer i p is = record { i = is.i; inside = (let less = is.inside in omega (arith, less)); place = is.place; elsewhere = is.elsewhere }

  split : (i p : ℕ) → IsDisplaced (i + 1) pairs stands due p → IsDisplaced i pairs stands due p ⊎ ((p ≡ (stood i).at) × (stood i ≢ wanted i))
  split i p is = elim (cases_lt is.i i) [
    | inl less ↦ inl (record { i = is.i; inside = less; place = is.place; elsewhere = is.elsewhere })
    | inr rest ↦
        let e : is.i ≡ i = (let less = is.inside in omega (arith, rest, less)) in
        inr (is.place ∙ ap (λ (z : ℕ). (stood z).at) e, subst (λ (z : ℕ). stood z ≢ wanted z) e is.elsewhere)
  ]

  pub displaced_more : (i : ℕ) (least : Option ℕ) → stood i ≢ wanted i → IsLeastFound (IsDisplaced i pairs stands due) least → IsLeastFound (IsDisplaced (i + 1) pairs stands due) (lesser_of least (Some (stood i).at))
  displaced_more i least apart found =
      least_same (λ (p : ℕ). IsDisplaced i pairs stands due p ⊎ (p ≡ (stood i).at)) (IsDisplaced (i + 1) pairs stands due)
      (λ p either. elim either [ inl before ↦ longer i p before | inr here ↦ record { i = i; inside = omega arith; place = here; elsewhere = apart } ])
      (λ p is. elim (split i p is) [ inl before ↦ inl before | inr here ↦ inr here.0 ])
      (lesser_of least (Some (stood i).at)) (least_either (IsDisplaced i pairs stands due) (λ (p : ℕ). p ≡ (stood i).at) least (Some (stood i).at) found (least_one (stood i).at))

  pub displaced_not : (i : ℕ) (least : Option ℕ) → stood i ≡ wanted i → IsLeastFound (IsDisplaced i pairs stands due) least → IsLeastFound (IsDisplaced (i + 1) pairs stands due) least
  displaced_not i least same found =
      least_same (IsDisplaced i pairs stands due) (IsDisplaced (i + 1) pairs stands due) (λ p before. longer i p before)
      (λ p is. elim (split i p is) [ inl before ↦ before | inr here ↦ absurd (here.1 same) ]) least found
