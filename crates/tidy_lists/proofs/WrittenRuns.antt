-- Old numbers go with new ones in their order: each old one has one new one, all new ones are had, and where two old ones that follow each
-- other have the same new one, the first of them stands for nothing.
use Rattle.std.proofs.Common.{◌≡◌, ◌≤◌, ◌<◌, ◌+◌, ◌∙◌, ◌⊎◌, inl, inr, ℕ, zero, suc, List, [], ◌∷◌, Bool, true, false, cond, sym, ap, subst, refl, arith}
use Rattle.std.specs.Prelude.{filter}
use Rattle.std.specs.List.{range_with_len}
use Rattle.std.proofs.lemmas.Bool.{cases_lt, cases_order}
use Rattle.tidy_lists.proofs.FilterLaws.{IsOneOf}

-- each old number below a bound has a new one below another, by rising numbers, and all new ones are had
pub record AreNumbered (number : ℕ → ℕ) (IsEmpty : ℕ → Type 0) (old new : ℕ) : Type 0 where
  pub inside : (k : ℕ) → k < old → number k < new
  pub order : (j k : ℕ) → j < k → k < old → (number j < number k) ⊎ ((number j ≡ number k) × IsEmpty j)
  pub all : (n : ℕ) → n < new → (k : ℕ) × (k < old) × (number k ≡ n)

module _ (number : ℕ → ℕ) (IsEmpty : ℕ → Type 0) where
  -- old numbers walk along new ones: one that is empty may share its new one with the next
  abbrev pub IsWalk : List ℕ → List ℕ → Type 0
  IsWalk [] ns = ns ≡ []
  IsWalk (j ∷ js) ns = (others : List ℕ) × (ns ≡ number j ∷ others) × (IsWalk js others ⊎ (IsEmpty j × IsWalk js ns))

  -- WHAT IS KEPT OF BOTH

  kept_step : (b : Bool) (j : ℕ) (js ns others : List ℕ) → ns ≡ cond b (number j ∷ others) others →
      IsWalk js others ⊎ (IsEmpty j × IsWalk js ns) → IsWalk (cond b (j ∷ js) js) ns
  kept_step true j js ns others is more = (others, is, more)
  kept_step false j js ns others is (inl walk) = subst (λ (z : List ℕ). IsWalk js z) (sym is) walk
  kept_step false j js ns others is (inr (empty, walk)) = walk

  -- where a test of old numbers agrees with one of new ones, what is kept of both walks along
  pub filter_walk : (p q : ℕ → Bool) (js ns : List ℕ) → ((j : ℕ) → IsOneOf j js → p j ≡ q (number j)) → IsWalk js ns →
      IsWalk (filter p js) (filter q ns)
  filter_walk p q [] ns agree is = ap (filter q) is
  filter_walk p q (j ∷ js) ns agree (others, is, more) =
      let rest : List ℕ = filter q others in
      let kept : filter q ns ≡ cond (p j) (number j ∷ rest) rest =
      ap (filter q) is ∙ ap (λ (b : Bool). cond b (number j ∷ rest) rest) (sym (agree j (inl refl))) in
      kept_step (p j) j (filter p js) (filter q ns) rest kept (elim more [
        | inl walk ↦ inl (filter_walk p q js others (λ i one. agree i (inr one)) walk)
        | inr (empty, walk) ↦ inr (empty, filter_walk p q js ns (λ i one. agree i (inr one)) walk)
      ])

  -- ALL OF THEM

  module _ (old new : ℕ) (are : AreNumbered number IsEmpty old new) where
    rises : (j k : ℕ) → j ≤ k → k < old → number j ≤ number k
    rises j k within known = elim (cases_order j k) [
      | inl e ↦ (let same : number j ≡ number k = ap number e in omega (arith, same))
      | inr (inl less) ↦ elim (are.order j k less known) [
        | inl below ↦ omega (arith, below)
        | inr (same, empty) ↦ omega (arith, same)
      ]
      | inr (inr more) ↦ absurd (omega (arith, more, within))
    ]

    -- the first has the first, if there is one
    first_number : 0 < old → number 0 ≡ 0
    first_number some =
        let few : number 0 < new = are.inside 0 some in
        let (k, known, is) = are.all 0 (omega (arith, few)) in
        let low : number 0 ≤ number k = rises 0 k (omega arith) known in
        omega (arith, low, is)

    no_number : 0 ≡ old → 0 ≡ new
    no_number none = elim (cases_lt 0 new) [
      | inl some ↦ (let (k, known, is) = are.all 0 some in absurd (omega (arith, known, none)))
      | inr past ↦ omega (arith, past)
    ]

    -- a later number is the next one
    next_number : (i n : ℕ) → i + 1 < old → number i ≡ n → number i < number (i + 1) → number (i + 1) ≡ n + 1
    next_number i n known here less =
        let few : number (i + 1) < new = are.inside (i + 1) known in
        let (k, k_known, is) = are.all (n + 1) (omega (arith, few, less, here)) in
        elim (cases_lt k (i + 1)) [
          | inl before ↦
              let low : number k ≤ number i = rises k i (omega (arith, before)) (omega (arith, known)) in
              absurd (omega (arith, low, is, here))
          | inr behind ↦ (let low : number (i + 1) ≤ number k = rises (i + 1) k behind k_known in omega (arith, low, is, less, here))
        ]

    -- the last has the last
    last_number : (i n : ℕ) → i + 1 ≡ old → number i ≡ n → n + 1 ≡ new
    last_number i n last here =
        let few : number i < new = are.inside i (omega (arith, last)) in
        elim (cases_lt (n + 1) new) [
          | inl more ↦
              let (k, known, is) = are.all (n + 1) more in
              let low : number k ≤ number i = rises k i (omega (arith, known, last)) (omega (arith, last)) in
              absurd (omega (arith, low, is, here))
          | inr past ↦ omega (arith, past, few, here)
        ]

    walk_from : (c i n d : ℕ) → i + c ≡ old → n + d ≡ new → (i < old → number i ≡ n) → (i ≡ old → n ≡ new) →
        IsWalk (range_with_len i c) (range_with_len n d)
    walk_from zero i n d left more here end =
        let last : n ≡ new = end (omega (arith, left)) in
        let none : d ≡ 0 = omega (arith, last, more) in
        ap (range_with_len n) none
    walk_from (suc c) i n zero left more here end =
        let known : i < old = omega (arith, left) in
        let few : number i < new = are.inside i known in
        let is : number i ≡ n = here known in
        absurd (omega (arith, few, is, more))
    walk_from (suc c) i n (suc d) left more here end =
        let known : i < old = omega (arith, left) in
        let is : number i ≡ n = here known in
        let on : i + 1 + c ≡ old = omega (arith, left) in
        let on_new : n + 1 + d ≡ new = omega (arith, more) in
        let onward : (i + 1 < old → number (i + 1) ≡ n + 1) → IsWalk (range_with_len (i + 1) c) (range_with_len (n + 1) d) =
        λ next. walk_from c (i + 1) (n + 1) d on on_new next (λ last. last_number i n last is) in (
          range_with_len (n + 1) d,
          ap (λ (z : ℕ). z ∷ range_with_len (n + 1) d) (sym is),
          elim (cases_lt (i + 1) old) [
            | inl further ↦ elim (are.order i (i + 1) (omega arith) further) [
              | inl less ↦ inl (onward (λ again. next_number i n further is less))
              | inr (same, empty) ↦
                  let more_left = walk_from c (i + 1) n (suc d) on more (λ again. sym same ∙ is) (λ last. absurd (omega (arith, last, further))) in
                  inr (empty, more_left)
            ]
            | inr past ↦ inl (onward (λ further. absurd (omega (arith, further, past))))
          ],
        )

    -- all old numbers walk along all new ones
    pub whole_walk : IsWalk (range_with_len 0 old) (range_with_len 0 new)
    whole_walk = walk_from old 0 0 new (omega arith) (omega arith) first_number no_number
