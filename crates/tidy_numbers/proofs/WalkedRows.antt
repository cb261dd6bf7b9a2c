-- Things of one kind that stand one behind the other, and their end.
use Rattle.std.proofs.Common.{◌≡◌, ◌≤◌, ◌<◌, ◌+◌, ◌⊎◌, ℕ, List, length, get_or, drop, Option, Some, sym, subst, inl, inr}
use Rattle.std.proofs.lemmas.List.{drop_more, drop_all}
use Rattle.spelled.specs.Spelled.{HasUniqueFronts, EndsApart, UntilEnd, Then}
use Rattle.entry_arena.specs.Trees.{SpellsBetween}
use Rattle.tidy_numbers.specs.Fronts.{Behind, BehindSome}
use Rattle.tidy_numbers.specs.inside.NumberWalks.{EndsFrom, HoldsFrom, IsFoundFrom, IsFoundBut}
use Rattle.tidy_numbers.proofs.WalkedPlaces.{found_more, found_last}
use Rattle.tidy_numbers.proofs.WalkedBehind.{TwoFrom, then_parts, until_parts, until_last, behind_to, behind_from, some_to, some_next, some_here, some_last}

-- TWO THINGS

two_at : (First Second : List ℕ → Type 0) (bytes : List ℕ) (start end here : ℕ) → TwoFrom First Second bytes start end → EndsFrom First bytes start here → SpellsBetween First bytes start here × SpellsBetween Second bytes here end
two_at First Second bytes start end here two ends =
    let same : two.mid ≡ here = sym (ends two.mid two.first) in
    (subst (λ (z : ℕ). SpellsBetween First bytes start z) same two.first, subst (λ (z : ℕ). SpellsBetween Second bytes z end) same two.second)

-- where the first of two ends the second stands
pub then_at : {V W : Type 0} (S : V → List ℕ → Type 0) (T : V → W → List ℕ → Type 0) (v : V) (w : W) (bytes : List ℕ) (start end here : ℕ) → SpellsBetween (Then S T (v, w)) bytes start end → EndsFrom (S v) bytes start here → SpellsBetween (S v) bytes start here × SpellsBetween (T v w) bytes here end
then_at S T v w bytes start end here stands ends = two_at (S v) (T v w) bytes start end here (then_parts S T v w bytes start end stands) ends

-- the places that are left behind a thing that was looked at
pub found_past : {V : Type 0} (S : V → List ℕ → Type 0) → HasUniqueFronts S → (v : V) (bytes : List ℕ) (start end : ℕ) → SpellsBetween (S v) bytes start end → (All : ℕ → Type 0) (X : ℕ → List ℕ → Type 0) (H : V → ℕ → List ℕ → Type 0) (found more : Option ℕ) → IsFoundBut All (HoldsFrom (λ i rest. X i rest ⊎ Behind S H i rest) bytes start) found → IsFoundFrom found X bytes start more → IsFoundBut All (HoldsFrom (H v) bytes end) more
found_past S unique v bytes start end stands All X H found more f least =
    found_more All (HoldsFrom (λ i rest. X i rest ⊎ Behind S H i rest) bytes start) (HoldsFrom X bytes start) (HoldsFrom (H v) bytes end) found more f
    (λ p left. elim left.1 [
      | inl here ↦ inl (left.0, here, left.2)
      | inr behind ↦ inr (behind_to S unique v bytes start end stands H p (left.0, behind, left.2))
    ])
    (λ p here. (here.0, inl here.1, here.2))
    (λ p there. let behind = behind_from S unique v bytes start end stands H p there in (behind.0, inr behind.1, behind.2))
    least

-- the places that are left, told in another way
pub found_left : (All Left Others : ℕ → Type 0) (found : Option ℕ) → IsFoundBut All Left found → ((p : ℕ) → Left p → Others p) → ((p : ℕ) → Others p → Left p) → IsFoundBut All Others found
found_left All Left Others found f to from = record {
  sound = f.sound;
  left = λ p there. f.left p (from p there);
  full = λ p holds. elim (f.full p holds) [
    | inl left ↦ inl (to p left)
    | inr earlier ↦ inr earlier
  ];
}

-- MANY THINGS

-- Of things that stand up to an end some have been looked at, up to a place.
pub record IsWalked {V : Type 0} (S : V → List ℕ → Type 0) (E : List ℕ → Type 0) (H : ℕ → List ℕ → Type 0) (bytes : List ℕ) (vs : List V) (start : ℕ) (before : Option ℕ) (i here : ℕ) (found : Option ℕ) : Type 0 where
  pub stands : (end : ℕ) → SpellsBetween (UntilEnd S E vs) bytes start end → SpellsBetween (UntilEnd S E (drop i vs)) bytes here end
  pub but : IsFoundBut (λ p. (before ≡ Some p) ⊎ HoldsFrom (BehindSome S H) bytes start p) (HoldsFrom (BehindSome S H) bytes here) found

module _ {V : Type 0} (S : V → List ℕ → Type 0) (E : List ℕ → Type 0) (H : ℕ → List ℕ → Type 0) (bytes : List ℕ) (vs : List V) (start : ℕ) (before : Option ℕ) where
  module _ (end : ℕ) (all : SpellsBetween (UntilEnd S E vs) bytes start end) (i here : ℕ) (found : Option ℕ) (w : IsWalked S E H bytes vs start before i here found) where
    -- one more stands there
    pub walked_next : (d : V) → i < length vs → (mid : ℕ) × SpellsBetween (S (get_or vs i d)) bytes here mid
    walked_next d inside =
        let rest = subst (λ (z : List V). SpellsBetween (UntilEnd S E z) bytes here end) (drop_more vs i d inside) (w.stands end all) in
        let two = until_parts S E (get_or vs i d) (drop (i + 1) vs) bytes here end rest in
        (two.mid, two.first)

    -- it is looked at
    pub walked_more : HasUniqueFronts S → (d : V) → i < length vs → (next : ℕ) (more : Option ℕ) → EndsFrom (S (get_or vs i d)) bytes here next → IsFoundFrom found H bytes here more → IsWalked S E H bytes vs start before (i + 1) next more
    walked_more unique d inside next more ends least =
        let v : V = get_or vs i d in
        let one = walked_next d inside in
        let stands : SpellsBetween (S v) bytes here next = subst (λ (z : ℕ). SpellsBetween (S v) bytes here z) (sym (ends one.0 one.1)) one.1 in
        record {
          stands = λ last there.
              let rest = subst (λ (z : List V). SpellsBetween (UntilEnd S E z) bytes here last) (drop_more vs i d inside) (w.stands last there) in
              (two_at (S v) (UntilEnd S E (drop (i + 1) vs)) bytes here last next (until_parts S E v (drop (i + 1) vs) bytes here last rest) ends).1;
          but = found_more (λ p. (before ≡ Some p) ⊎ HoldsFrom (BehindSome S H) bytes start p) (HoldsFrom (BehindSome S H) bytes here) (HoldsFrom H bytes here) (HoldsFrom (BehindSome S H) bytes next) found more w.but (some_to S unique v bytes here next stands H) (some_here S bytes here H) (some_next S unique v bytes here next stands H) least;
        }

    -- all have been looked at: their end stands there
    pub walked_last : length vs ≤ i → (last : ℕ) → SpellsBetween (UntilEnd S E vs) bytes start last → SpellsBetween E bytes here last
    walked_last none last there = until_last S E bytes here last (subst (λ (z : List V). SpellsBetween (UntilEnd S E z) bytes here last) (drop_all i vs none) (w.stands last there))

    pub walked_found : EndsApart S E → length vs ≤ i → (last : Option ℕ) → IsFoundFrom found H bytes here last → IsFoundFrom before (BehindSome S H) bytes start last
    walked_found apart none last least =
        found_last (λ p. (before ≡ Some p) ⊎ HoldsFrom (BehindSome S H) bytes start p) (HoldsFrom (BehindSome S H) bytes here) (HoldsFrom H bytes here) found last w.but (some_last S E apart bytes here end (walked_last none end all) H) (some_here S bytes here H) least
