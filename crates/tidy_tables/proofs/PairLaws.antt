-- Declarations that are paired one to one.
use Rattle.std.proofs.Common.{◌≡◌, ◌<◌, ◌+◌, inl, inr, ◌∙◌, ℕ, List, length, sym, ap, subst, refl, arith, true≢false}
use Rattle.std.specs.Prelude.{true, false, Option, Some, None, is_some}
use Rattle.std.proofs.lemmas.Bool.{cases_lt}
use Rattle.entry_arena.specs.declared.entry.Entry.{Entry}
use Rattle.entry_arena.specs.Arena.{entry_at}
use Rattle.tidy_tables.specs.declared.pairings.Pairings.{Pairings}
use Rattle.tidy_tables.specs.inside.Pairings.{partner_of, IsPair, AreOneToOne, AreApart, IsAdded, IsPairUpTo, AreAdded, IsFirstApart}

-- pairs of what is held one to one are not apart
pub alike : (pairings : Pairings) → AreOneToOne pairings → (k w l x : ℕ) → IsPair pairings k w → IsPair pairings l x → AreApart k w l x → ⊥
alike pairings one k w l x first second (inl (same, other)) =
    let both : Some w ≡ Some x = sym first ∙ ap (partner_of pairings.written_of.items) same ∙ second in
    other (cc)
alike pairings one k w l x first second (inr (other, same)) =
    let both : Some k ≡ Some l = sym ((one k w).0 first) ∙ ap (partner_of pairings.old_of.items) same ∙ (one l x).0 second in
    other (cc)

-- A PAIR THAT IS APART FROM ANOTHER

module _ (before : Pairings) (one : AreOneToOne before) (old written : ℕ) where
  -- the written declaration has a pair, and the old one none
  pub written_apart : (found : Option ℕ) → partner_of before.written_of.items old ≡ None → found ≡ partner_of before.old_of.items written → is_some found ≡ true → IsAdded before before old written false
  written_apart None none is some = absurd (true≢false (sym some))
  written_apart (Some other) none is some =
      let pair : IsPair before other written = (one other written).1 (sym is) in
      (other, written, pair, inr (λ same. let both : None ≡ Some written = sym none ∙ ap (partner_of before.written_of.items) (sym same) ∙ pair in (cc), refl))

-- THE PAIRS OF A UNIT

module _ (before : Pairings) (old written : List Entry) where
  pub none_added : AreOneToOne before → AreAdded before before old written 0
  none_added one = record {
    one = one;
    pairs = λ k w. (λ pair. inl pair, λ either. still k w either);
  }
    where
      still : (k w : ℕ) → IsPairUpTo before old written 0 k w → IsPair before k w
      still k w (inl pair) = pair
      still k w (inr (id, less, k_is, w_is)) = absurd (omega arith)

  module _ (now : Pairings) (id : ℕ) (are : AreAdded before now old written id) (first second : ℕ) (first_is : first ≡ (entry_at old id).decl) (second_is : second ≡ (entry_at written id).decl) where
    pub added_more : (after : Pairings) → IsAdded now after first second true → AreAdded before after old written (id + 1)
    added_more after (one, adds) = record { one = one; pairs = λ k w. (forward k w, back k w) }
      where
        widen : (k w : ℕ) → IsPairUpTo before old written id k w → IsPairUpTo before old written (id + 1) k w
        widen k w (inl pair) = inl pair
        widen k w (inr (i, less, k_is, w_is)) = inr (i, omega arith, k_is, w_is)

        forward : (k w : ℕ) → IsPair after k w → IsPairUpTo before old written (id + 1) k w
        forward k w pair = elim ((adds k w).0 pair) [
          | inl known ↦ widen k w ((are.pairs k w).0 known)
          | inr (k_is, w_is) ↦ inr (id, omega arith, sym (k_is ∙ first_is), sym (w_is ∙ second_is))
        ]

        back : (k w : ℕ) → IsPairUpTo before old written (id + 1) k w → IsPair after k w
        back k w (inl pair) = (adds k w).1 (inl ((are.pairs k w).1 (inl pair)))
        back k w (inr (i, less, k_is, w_is)) = elim (cases_lt i id) [
          | inl earlier ↦ (adds k w).1 (inl ((are.pairs k w).1 (inr (i, earlier, k_is, w_is))))
          | inr past ↦
              let here : i ≡ id = omega arith in
              let k_there : (entry_at old id).decl ≡ k = subst (λ (z : ℕ). (entry_at old z).decl ≡ k) here k_is in
              let w_there : (entry_at written id).decl ≡ w = subst (λ (z : ℕ). (entry_at written z).decl ≡ w) here w_is in
              (adds k w).1 (inr (sym (first_is ∙ k_there), sym (second_is ∙ w_there)))
        ]

    pub first_apart : (after : Pairings) (place : ℕ) → id < length written → place ≡ (entry_at written id).at → IsAdded now after first second false → IsFirstApart before old written place
    first_apart after place inside here (k, w, pair, apart) = record {
      id = id;
      inside = inside;
      here = here;
      alike = λ i x j y one other. alike now are.one i x j y ((are.pairs i x).1 one) ((are.pairs j y).1 other);
      k = k;
      w = w;
      earlier = (are.pairs k w).0 pair;
      apart = subst (λ (z : ℕ). AreApart k w z ((entry_at written id).decl)) first_is (subst (λ (z : ℕ). AreApart k w first z) second_is apart);
    }
