-- The first attribute that passes a test.
use Rattle.std.proofs.Common.{◌≡◌, ◌≤◌, ◌<◌, ◌+◌, ◌++◌, ◌∙◌, ◌⊎◌, inl, inr, Bool, true, false, true≢false, take, drop, ℕ, suc, List, [], ◌∷◌, length, get_or, sym, ap, refl}
use Rattle.std.specs.Prelude.{filter, if◌then◌else◌}
use Rattle.std.proofs.lemmas.List.{drop_more, take_more, take_all, take-append-drop}
use Rattle.std.proofs.lemmas.List.Elements.{filter-append}
use Rattle.form_codec.specs.Forms.{Meaning}
use Rattle.value_links.specs.inside.Checks.{IsAttributeAt}

-- an attribute with a number stands between those before it and those behind it
pub split_at : (attributes : List (ℕ × Meaning)) (k : ℕ) (a : ℕ × Meaning) → IsAttributeAt attributes k a → attributes ≡ take k attributes ++ a ∷ drop (k + 1) attributes
split_at attributes k a at = sym (take-append-drop k attributes) ∙ ap (λ z. take k attributes ++ z) at

-- what a test keeps of a list, by its answer for the first
abbrev pub kept : Bool → ℕ × Meaning → List (ℕ × Meaning) → List (ℕ × Meaning)
kept b a rest = if b then a ∷ rest else rest

none_kept : (b : Bool) (a : ℕ × Meaning) (rest : List (ℕ × Meaning)) → kept b a rest ≡ [] → (b ≡ false) × (rest ≡ [])
none_kept true a rest e = absurd (cc)
none_kept false a rest e = (refl, e)

yes_or_no : (b : Bool) → (b ≡ true) ⊎ (b ≡ false)
yes_or_no true = inl refl
yes_or_no false = inr refl

-- an attribute of some that passes, none before which does
pub record FirstThat (test : ℕ × Meaning → Bool) (attributes : List (ℕ × Meaning)) : Type 0 where
  pub before : List (ℕ × Meaning)
  pub attribute : ℕ × Meaning
  pub after : List (ℕ × Meaning)
  pub parts : attributes ≡ before ++ attribute ∷ after
  pub first : filter test before ≡ []
  pub passes : test attribute ≡ true

module _ (test : ℕ × Meaning → Bool) where
  none_later : (a : ℕ × Meaning) (rest : List (ℕ × Meaning)) → filter test (a ∷ rest) ≡ [] → (test a ≡ false) × (filter test rest ≡ [])
  none_later a rest none = none_kept (test a) a (filter test rest) none

  none_more : (a : ℕ × Meaning) (rest : List (ℕ × Meaning)) → test a ≡ false → filter test rest ≡ [] → filter test (a ∷ rest) ≡ []
  none_more a rest fails none = ap (λ (b : Bool). kept b a (filter test rest)) fails ∙ none

  none_passes : (before : List (ℕ × Meaning)) (b : ℕ × Meaning) (after : List (ℕ × Meaning)) → filter test (before ++ b ∷ after) ≡ [] → test b ≡ false
  none_passes [] b after none = (none_later b after none).0
  none_passes (x ∷ before) b after none = none_passes before b after (none_later x (before ++ b ∷ after) none).1

  -- so an attribute that passes stands among none of those that don't
  pub none_among : (attributes before : List (ℕ × Meaning)) (b : ℕ × Meaning) (after : List (ℕ × Meaning)) → filter test attributes ≡ [] → attributes ≡ before ++ b ∷ after → test b ≡ true → ⊥
  none_among attributes before b after none parts is = true≢false (sym is ∙ none_passes before b after (ap (filter test) (sym parts) ∙ none))

  -- the first that passes is one
  pub first_once : (before : List (ℕ × Meaning)) (a : ℕ × Meaning) (after other : List (ℕ × Meaning)) (b : ℕ × Meaning) (rest : List (ℕ × Meaning)) → before ++ a ∷ after ≡ other ++ b ∷ rest → filter test before ≡ [] → filter test other ≡ [] → test a ≡ true → test b ≡ true → (length before ≡ length other) × (a ≡ b)
  first_once [] a after [] b rest e none_a none_b is_a is_b = (refl, cc)
  first_once [] a after (y ∷ other) b rest e none_a none_b is_a is_b =
      let here : a ≡ y = cc in
      absurd (true≢false (sym is_a ∙ (ap test here ∙ (none_later y other none_b).0)))
  first_once (x ∷ before) a after [] b rest e none_a none_b is_a is_b =
      let here : b ≡ x = cc in
      absurd (true≢false (sym is_b ∙ (ap test here ∙ (none_later x before none_a).0)))
  first_once (x ∷ before) a after (y ∷ other) b rest e none_a none_b is_a is_b =
      let later : before ++ a ∷ after ≡ other ++ b ∷ rest = cc in
      let found = first_once before a after other b rest later (none_later x before none_a).1 (none_later y other none_b).1 is_a is_b in
      (ap suc found.0, found.1)

  -- some attribute passes, or none does
  pub first_that : (attributes : List (ℕ × Meaning)) → FirstThat test attributes ⊎ (filter test attributes ≡ [])
  first_that [] = inr refl
  first_that (a ∷ attributes) = elim (yes_or_no (test a)) [
    | inl passes ↦ inl (record { before = []; attribute = a; after = attributes; parts = refl; first = refl; passes = passes })
    | inr fails ↦ elim (first_that attributes) [
      | inl found ↦ inl (record { before = a ∷ found.before; attribute = found.attribute; after = found.after; parts = ap (λ z. a ∷ z) found.parts; first = none_more a found.before fails found.first; passes = found.passes })
      | inr none ↦ inr (none_more a attributes fails none)
    ]
  ]

  -- behind an attribute that doesn't pass none has either
  pub none_further : (attributes : List (ℕ × Meaning)) (k : ℕ) (a : ℕ × Meaning) → IsAttributeAt attributes k a → filter test (take k attributes) ≡ [] → k < length attributes → test a ≡ false → filter test (take (k + 1) attributes) ≡ []
  none_further attributes k a at none inside fails =
      let same : get_or attributes k a ∷ drop (k + 1) attributes ≡ a ∷ drop (k + 1) attributes = sym (drop_more attributes k a inside) ∙ at in
      let here : get_or attributes k a ≡ a = cc in
      let more : take (k + 1) attributes ≡ take k attributes ++ a ∷ [] = take_more attributes k a inside ∙ ap (λ (z : ℕ × Meaning). take k attributes ++ z ∷ []) here in
      ap (filter test) more ∙ (filter-append test (take k attributes) (a ∷ []) ∙ (ap (λ (z : List (ℕ × Meaning)). z ++ filter test (a ∷ [])) none ∙ ap (λ (b : Bool). kept b a []) fails))

  -- so none of all does
  pub none_whole : (attributes : List (ℕ × Meaning)) (k : ℕ) → filter test (take k attributes) ≡ [] → length attributes ≤ k → filter test attributes ≡ []
  none_whole attributes k none end = ap (filter test) (sym (take_all k attributes end)) ∙ none
