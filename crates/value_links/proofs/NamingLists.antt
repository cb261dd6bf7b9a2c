-- Lists of namings to which others are added.
use Rattle.std.proofs.Common.{◌≡◌, ◌<◌, ◌+◌, ◌++◌, ◌⊎◌, inl, inr, ℕ, List, [], ◌∷◌, ap, sym, subst, refl, arith, ◌∙◌}
use Rattle.std.specs.List.{All, Contains}
use Rattle.std.proofs.lemmas.Bool.{cases_lt}
use Rattle.std.specs.Prelude.{Some}
use Rattle.std.proofs.lemmas.List.Elements.{All-push, Contains-append_left, Contains-push, Contains-push_cases}
use Rattle.form_codec.specs.Forms.{Meaning}
use Rattle.list_model.specs.declared.entry.ListKind.{ListKind}
use Rattle.value_links.specs.Reading.{ListSection, Linkable}
use Rattle.value_links.specs.ListPlaces.{IsListPlace}
use Rattle.value_links.specs.inside.Namings.{AreJoined, ValueNames, IsPlaceNamed, IsSomeNaming}

-- nothing is added
pub joined_none : (xs : List (ℕ × ℕ)) (P : ℕ × ℕ → Type 0) → ((y : ℕ × ℕ) → ¬ P y) → AreJoined xs xs P
joined_none xs P none = record { from = λ y has. inl has; kept = λ y has. has; added = λ y is. absurd (none y is) }

-- one is added
pub joined_push : (xs ys : List (ℕ × ℕ)) (x : ℕ × ℕ) (P : ℕ × ℕ → Type 0) → ys ≡ xs ++ x ∷ [] → P x → ((y : ℕ × ℕ) → P y → y ≡ x) → AreJoined xs ys P
joined_push xs ys x P e is only = subst (λ (z : List (ℕ × ℕ)). AreJoined xs z P) (sym e) (record {
  from = λ y has. elim (Contains-push_cases xs x y has) [ inl old ↦ inl old | inr same ↦ inr (subst P same is) ];
  kept = λ y has. Contains-append_left xs (x ∷ []) y has;
  added = λ y here. subst (Contains (xs ++ x ∷ [])) (sym (only y here)) (Contains-push xs x);
})

-- some are added, and then others
pub joined_both : (a b c : List (ℕ × ℕ)) (P Q R : ℕ × ℕ → Type 0) → AreJoined a b P → AreJoined b c Q → ((y : ℕ × ℕ) → P y → R y) → ((y : ℕ × ℕ) → Q y → R y) → ((y : ℕ × ℕ) → R y → P y ⊎ Q y) → AreJoined a c R
joined_both a b c P Q R p q first second either = record {
  from = λ y has. elim (q.from y has) [
    | inl old ↦ elim (p.from y old) [ inl older ↦ inl older | inr is ↦ inr (first y is) ]
    | inr is ↦ inr (second y is)
  ];
  kept = λ y has. q.kept y (p.kept y has);
  added = λ y is. elim (either y is) [ inl one ↦ q.kept y (p.added y one) | inr other ↦ q.added y other ];
}

-- those of numbers below a bound, which rises by one
module _ (Q : ℕ → ℕ × ℕ → Type 0) where
  abbrev Below : ℕ → ℕ × ℕ → Type 0
  Below n y = (k : ℕ) × (k < n) × Q k y

  pub below_none : (xs : List (ℕ × ℕ)) → AreJoined xs xs (λ y. (k : ℕ) × (k < 0) × Q k y)
  below_none xs = joined_none xs (Below 0) (λ y (k, less, is). absurd (omega arith))

  pub below_next : (a b c : List (ℕ × ℕ)) (n : ℕ) → AreJoined a b (λ y. (k : ℕ) × (k < n) × Q k y) → AreJoined b c (Q n) → AreJoined a c (λ y. (k : ℕ) × (k < n + 1) × Q k y)
  below_next a b c n p q = joined_both a b c (Below n) (Q n) (Below (n + 1)) p q first (λ y is. (n, omega arith, is)) either
    where
      first : (y : ℕ × ℕ) → Below n y → Below (n + 1) y
      first y (k, less, is) = (k, omega arith, is)

      either : (y : ℕ × ℕ) → Below (n + 1) y → Below n y ⊎ Q n y
      either y (k, less, is) = elim (cases_lt k n) [
        | inl under ↦ inl (k, under, is)
        | inr over ↦ let same : k ≡ n = omega arith in inr (subst (λ (z : ℕ). Q z y) same is)
      ]

-- a pair is told by its numbers
pub pair_is : (y : ℕ × ℕ) (a b : ℕ) → y.0 ≡ a → y.1 ≡ b → y ≡ (a, b)
pair_is (m, n) a b e f = ap (λ (z : ℕ). (z, n)) e ∙ ap (λ (z : ℕ). (a, z)) f

-- what one value names is added
pub joined_value : (r : Linkable) (kind : ListKind) (u id name : ℕ) (meaning : Meaning) (xs ys : List (ℕ × ℕ)) (at : ℕ) → ys ≡ xs ++ (at, u) ∷ [] → IsPlaceNamed r kind u id name meaning (Some at) → AreJoined xs ys (λ y. ValueNames r kind u id name meaning y.0 × (y.1 ≡ u))
joined_value r kind u id name meaning xs ys at e (names, only) = joined_push xs ys (at, u) (λ y. ValueNames r kind u id name meaning y.0 × (y.1 ≡ u)) e (names, refl) (λ y (there, of). pair_is y at u (only y.0 there) of)

-- a list can begin at its place, and it is of a unit
pub known_push : (section : ListSection) (units : ℕ) (xs ys : List (ℕ × ℕ)) (at u : ℕ) → ys ≡ xs ++ (at, u) ∷ [] → All (IsSomeNaming section units) xs → ((p : ℕ) × IsListPlace section p at) → u < units → All (IsSomeNaming section units) ys
known_push section units xs ys at u e known begins inside =
    subst (All (IsSomeNaming section units)) (sym e) (All-push (IsSomeNaming section units) xs (at, u) known (record { begins = begins; numbered = inl inside }))
