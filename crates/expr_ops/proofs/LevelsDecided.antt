-- Bytes are an expression or have a fault.
use Rattle.std.proofs.Common.{◌≡◌, ◌≤◌, ◌<◌, ◌+◌, ◌⊎◌, ℕ, zero, suc, List, [], ◌∷◌, ◌++◌, length, get_or, take, drop, ◌∙◌, sym, ap, refl, subst, arith, inl, inr, Bool, true, false, Decides, true≢false}
use Rattle.std.proofs.lemmas.List.{append_assoc, length-append, take-append-drop, take_at, get_or_append_left, get_or-append-add}
use Rattle.std.proofs.lemmas.Bool.{cases_lt, cases_eq}
use Rattle.std.proofs.lemmas.Bool.Decides.{Decides-int_eq}
use Rattle.std.specs.Prelude.{pos, ◌+ℤ◌}
use Rattle.std.specs.Ordering.{int_eq}
use Rattle.spelled.specs.Spelled.{AreBytes, HasUniqueFronts, Joined, FaultUntilEnd}
use Rattle.spelled.specs.inside.Spelled.{HasBytes}
use Rattle.spelled.proofs.Joins.{joined_split}
use Rattle.spelled.proofs.Parts.{bytes_after}
use Rattle.dw_base.specs.declared.fault.Kind.{Kind}
use Rattle.dw_base.specs.declared.fault.Kind.TheVariants as kind
use Rattle.dw_base.specs.declared.fault.Reach.{Reach}
use Rattle.expr_ops.specs.Expressions.{Operation, Segment, IsBranch, EndsAt, Arrives, IsJump, IsLevel, IsExpression, SpellsSegment, branch_limit, head_at, flat, count_of}
use Rattle.expr_ops.specs.ExpressionFaults.{FaultLevel, FaultSegment, FaultExpression}
use Rattle.expr_ops.specs.inside.Levels.{none_sent}
use Rattle.expr_ops.proofs.HeadsDecided.{Decided, head_decided}
use Rattle.expr_ops.proofs.Levels.{ends_once, segment_once, segment_filled}
use Rattle.expr_ops.proofs.Segments.{entry_shape}
use Rattle.expr_ops.proofs.Sents.{none_long, none_there}

-- ONE OF SOME NUMBERS, OR NONE

some_below : (P Q : ℕ → Type 0) (n : ℕ) → ((k : ℕ) → k < n → P k ⊎ Q k) → ((k : ℕ) × (k < n) × P k) ⊎ ((k : ℕ) → k < n → Q k)
some_below P Q zero each = inr (λ k lt. absurd (omega arith))
some_below P Q (suc n) each = elim (each n (omega arith)) [
  | inl p ↦ inl (n, omega arith, p)
  | inr q ↦
      elim (some_below P Q n (λ k lt. each k (omega arith))) [
        | inl (k, lt, p) ↦ inl (k, omega arith, p)
        | inr all ↦
            inr (λ k lt. elim (cases_lt k n) [
              | inl less ↦ all k less
              | inr at ↦ let same : n ≡ k = omega arith in subst (λ (z : ℕ). Q z) same q
            ])
      ]
]

-- a number for each makes a list
chosen : (Q : ℕ → ℕ → Type 0) (n : ℕ) → ((k : ℕ) → k < n → (j : ℕ) × Q k j) → (js : List ℕ) × (length js ≡ n) × ((k : ℕ) → k < n → Q k (get_or js k 0))
chosen Q zero each = ([], refl, λ k lt. absurd (omega arith))
chosen Q (suc n) each =
    let (js, long, all) = chosen Q n (λ k lt. each k (omega arith)) in
    let (j, q) = each n (omega arith) in
    let size : length (js ++ j ∷ []) ≡ length js + 1 = length-append js (j ∷ []) in
    let end : length js + 0 ≡ n = omega arith in
    let last : get_or (js ++ j ∷ []) n 0 ≡ j = ap (λ z. get_or (js ++ j ∷ []) z 0) (sym end) ∙ get_or-append-add js (j ∷ []) 0 0 in (
      js ++ j ∷ [],
      omega arith,
      λ k lt. elim (cases_lt k n) [
        | inl less ↦ subst (λ (z : ℕ). Q k z) (sym (get_or_append_left js (j ∷ []) 0 k (omega arith))) (all k less)
        | inr at ↦ let same : n ≡ k = omega arith in subst (λ (z : ℕ). Q z (get_or (js ++ j ∷ []) z 0)) same (subst (λ (z : ℕ). Q n z) (sym last) q)
      ],
    )

decided : (r : Bool) (P : Type 0) → Decides r P → P ⊎ (P → ⊥)
decided true P d = inl (d.0 refl)
decided false P d = inr (λ p. true≢false (sym (d.1 p)))

branch_decided : (code : ℕ) → IsBranch code ⊎ (¬ IsBranch code)
branch_decided code = elim (cases_eq code 40) [
  | inl bra ↦ inl (inl bra)
  | inr no_bra ↦
      elim (cases_eq code 47) [
        | inl skip ↦ inl (inr skip)
        | inr no_skip ↦
            inr (λ b. elim b [
              | inl e ↦ no_bra e
              | inr e ↦ no_skip e
            ])
      ]
]

-- LEVELS

-- S and F say what spells an operation with those that it holds, and what faults it has
module _ (most : ℕ) (S : Segment → List ℕ → Type 0) (F : Kind → ℕ → List ℕ → Type 0) (u : HasUniqueFronts S) (some : HasBytes S) where
  -- the place at which some segments end
  place_of : (gs : List Segment) (bytes : List ℕ) → Joined S gs bytes → (m : ℕ) → m ≤ length gs → (place : ℕ) × EndsAt S gs bytes m place
  place_of gs bytes joined m inside =
      let (a, b, first, second, whole) = joined_split S (take m gs) (drop m gs) bytes (subst (λ (z : List Segment). Joined S z bytes) (sym (take-append-drop m gs)) joined) in
      let front : take (length a) bytes ≡ a = ap (take (length a)) whole ∙ take_at a b (length a) refl in
      let size : length bytes ≡ length a + length b = ap (λ z. length z) whole ∙ length-append a b in
      (length a, (inside, omega arith, subst (λ (z : List ℕ). Joined S (take m gs) z) (sym front) first))

  module _ (gs : List Segment) (bytes : List ℕ) (joined : Joined S gs bytes) (k : ℕ) (inside : k < length gs) where
    arrives_decided : (m : ℕ) → m ≤ length gs → Arrives S gs bytes k m ⊎ (Arrives S gs bytes k m → ⊥)
    arrives_decided m there =
        let (from, behind) = place_of gs bytes joined (k + 1) (omega arith) in
        let (to, at) = place_of gs bytes joined m there in
        let s = (head_at gs k).s in
        elim (decided (int_eq (pos to) (pos from +ℤ s)) (pos to ≡ pos from +ℤ s) (Decides-int_eq (pos to) (pos from +ℤ s))) [
          | inl e ↦ inl (record { from = from; to = to; behind = behind; there = at; distance = e })
          | inr no_way ↦
              inr (λ a.
              let same_to : a.to ≡ to = ends_once most S u some gs bytes m a.to to a.there at in
              let same_from : a.from ≡ from = ends_once most S u some gs bytes (k + 1) a.from from a.behind behind in
              no_way (ap pos (sym same_to) ∙ a.distance ∙ ap (λ z. pos z +ℤ s) same_from))
        ]

    jump_decided : (IsBranch (head_at gs k).code × ((m : ℕ) → Arrives S gs bytes k m → ⊥)) ⊎ ((j : ℕ) × IsJump S gs bytes k j)
    jump_decided = elim (branch_decided (head_at gs k).code) [
      | inr plain ↦ inr (0, inr (plain, refl))
      | inl branch ↦
          elim (some_below (λ m. Arrives S gs bytes k m) (λ m. Arrives S gs bytes k m → ⊥) (suc (length gs)) (λ m lt. arrives_decided m (omega arith))) [
            | inl (m, lt, a) ↦ inr (count_of (take m gs), inl (branch, (m, a, refl)))
            | inr none ↦ inl (branch, λ m a. none m (let few = a.there.0 in omega arith) a)
          ]
    ]

  -- the faults of an expression of which all operations are there
  branches_decided : (gs : List Segment) (bytes : List ℕ) → Joined S gs bytes → ((o : List Operation) × IsLevel most S o bytes) ⊎ ((k : Kind) × (at : ℕ) × FaultLevel most S F k at bytes)
  branches_decided gs bytes joined = elim (some_below (λ k. IsBranch (head_at gs k).code) (λ k. ¬ IsBranch (head_at gs k).code) (length gs) (λ k lt. branch_decided (head_at gs k).code)) [
    | inr none ↦ inl (
      flat (none_sent gs) gs,
      record {
        segments = gs;
        jumps = none_sent gs;
        spelled = joined;
        each = none_long gs;
        listed = refl;
        jumping = λ k lt. inr (none k lt, none_there gs k lt);
        few = λ has. absurd (none has.0 has.1 has.2);
      },
    )
    | inl some_branch ↦
        elim (cases_lt most (length bytes)) [
          | inl long ↦ inr (kind.Limit, 0, inr (inr (refl, refl, record { segments = gs; spelled = joined; branch = some_branch; long = long })))
          | inr few ↦
              elim (some_below (λ k. IsBranch (head_at gs k).code × ((m : ℕ) → Arrives S gs bytes k m → ⊥)) (λ k. (j : ℕ) × IsJump S gs bytes k j) (length gs) (λ k lt. jump_decided gs bytes joined k lt)) [
                | inl (k, lt, (branch, astray)) ↦
                    let (at, here) = place_of gs bytes joined k (omega arith) in
                    inr (kind.Branch, at, inr (inl (refl, record { segments = gs; spelled = joined; k = k; inside = lt; branch = branch; here = here; astray = astray })))
                | inr all ↦
                    let (jumps, long, jumping) = chosen (λ k j. IsJump S gs bytes k j) (length gs) all in
                    inl (flat jumps gs, record { segments = gs; jumps = jumps; spelled = joined; each = long; listed = refl; jumping = jumping; few = λ _. few })
              ]
        ]
  ]

  module _ (decide : (code : ℕ) (tail : List ℕ) → AreBytes (code ∷ tail) → Decided S F (code ∷ tail)) where
    all_decided : (n : ℕ) (bytes : List ℕ) → length bytes ≤ n → AreBytes bytes → ((gs : List Segment) × Joined S gs bytes) ⊎ ((k : Kind) × (at : ℕ) × FaultUntilEnd S F k at bytes)
    all_decided n [] few small = inl ([], refl)
    all_decided zero (code ∷ tail) few small = absurd (omega arith)
    all_decided (suc n) (code ∷ tail) few small = elim (decide code tail small) [
      | inr (k, at, f) ↦ inr (k, at, record { before = []; front = []; rest = code ∷ tail; inner = at; spelled = refl; fault = f; whole = refl; place = omega arith })
      | inl (g, front, rest, s, whole) ↦
          let one = some g front s in
          let size : length (code ∷ tail) ≡ length front + length rest = ap (λ z. length z) whole ∙ length-append front rest in
          elim (all_decided n rest (omega arith) (bytes_after front rest (subst (λ (z : List ℕ). AreBytes z) whole small))) [
            | inl (gs, joined) ↦ inl (g ∷ gs, (front, rest, s, joined, whole))
            | inr (k, at, f) ↦
                let long : length (front ++ f.front) ≡ length front + length f.front = length-append front f.front in
                let place = f.place in inr (
                  k,
                  length front + at,
                  record {
                    before = g ∷ f.before;
                    front = front ++ f.front;
                    rest = f.rest;
                    inner = f.inner;
                    spelled = (front, f.front, s, f.spelled, refl);
                    fault = f.fault;
                    whole = whole ∙ ap (λ z. front ++ z) f.whole ∙ sym (append_assoc front f.front f.rest);
                    place = omega arith;
                  },
                )
          ]
    ]

    pub level_decided : (bytes : List ℕ) → AreBytes bytes → ((o : List Operation) × IsLevel most S o bytes) ⊎ ((k : Kind) × (at : ℕ) × FaultLevel most S F k at bytes)
    level_decided bytes small = elim (all_decided (length bytes) bytes (omega arith) small) [
      | inl (gs, joined) ↦ branches_decided gs bytes joined
      | inr (k, at, f) ↦ inr (k, at, inl f)
    ]

segment_decided : (most deep : ℕ) (code : ℕ) (tail : List ℕ) → AreBytes (code ∷ tail) → Decided (SpellsSegment most deep) (FaultSegment most deep) (code ∷ tail)
segment_decided most zero code tail small = elim (head_decided code tail small) [
  | inr (k, at, f) ↦ inr (k, at, inl f)
  | inl (head, front, rest, s, whole) ↦
      elim (cases_eq head.code 163) [
        | inl enters ↦ inr (kind.Limit, 0, inr (head, front, rest, record { spelled = s; enters = enters; whole = whole }, refl, refl))
        | inr plain ↦ inl (record { head = head; inner = [] }, front, rest, (s, plain, refl), whole)
      ]
]
segment_decided most (suc deep) code tail small = elim (head_decided code tail small) [
  | inr (k, at, f) ↦ inr (k, at, inl f)
  | inl (head, front, rest, s, whole) ↦
      elim (cases_eq head.code 163) [
        | inr plain ↦ inl (record { head = head; inner = [] }, front, rest, (s, inr (plain, refl)), whole)
        | inl enters ↦
            let (lead, shape) = entry_shape head front s enters in
            let bytes : AreBytes head.block = bytes_after lead head.block (subst (λ (z : List ℕ). AreBytes z) shape s.small) in
            let size : length front ≡ length lead + length head.block = ap (λ z. length z) shape ∙ length-append lead head.block in
            elim (level_decided most (SpellsSegment most deep) (FaultSegment most deep) (segment_once most deep) (segment_filled most deep) (segment_decided most deep) head.block bytes) [
              | inl (o, level) ↦ inl (record { head = head; inner = o }, front, rest, (s, inl (enters, level)), whole)
              | inr (k, at, f) ↦ inr (k, length lead + at, inr (head, front, rest, at, record { spelled = s; enters = enters; whole = whole }, f, omega arith))
            ]
      ]
]

-- bytes that are no expression have a fault
pub expression_decided : (reach : Reach) (bytes : List ℕ) → AreBytes bytes → ((o : List Operation) × IsExpression reach o bytes) ⊎ ((k : Kind) × (at : ℕ) × FaultExpression reach k at bytes)
expression_decided reach bytes small =
    let most = branch_limit reach in
    level_decided most (SpellsSegment most 8) (FaultSegment most 8) (segment_once most 8) (segment_filled most 8) (segment_decided most 8) bytes small
