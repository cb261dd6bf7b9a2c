-- Spans that are appended step by step, and the first byte that none has.
use Rattle.std.proofs.Common.{◌≡◌, ◌≤◌, ◌<◌, ◌+◌, ◌⊎◌, ◌++◌, ◌∙◌, inl, inr, ℕ, List, [], ◌∷◌, length, get_or, sym, ap, subst, arith}
use Rattle.std.specs.Prelude.{◌↔◌}
use Rattle.std.specs.List.Sorted.{IsPermutation, IsSorted}
use Rattle.std.specs.Ordering.{nat_cmp, ordering_then}
use Rattle.std.proofs.lemmas.Bool.{cases_lt}
use Rattle.std.proofs.lemmas.List.{get_or_default}
use Rattle.std.proofs.lemmas.List.Elements.{All-push, Contains-push, Contains-append_left, Contains-push_cases, Contains-get_or}
use Rattle.std.proofs.lemmas.List.Sorted.{All-permutation, Contains-permutation, IsPermutation-sym}
use Rattle.value_links.proofs.NamingOrder.{sorted_namings}
use Rattle.tidy_places.specs.Firsts.{IsLeastPlace}
use Rattle.tidy_lists.specs.inside.LooseBytes.{IsByteOf, IsCovered, EndBy, AreRising, IsGap, AddsBytes, AddsSpan, BytesBelow, SomeBytes}

abbrev Spans : Type 0
Spans = List (ℕ × ℕ)

-- WHAT IS ADDED

-- a span that is pushed is added
pub span_added : (start len : ℕ) (spans : Spans) → AddsSpan start len spans (spans ++ (start, len) ∷ [])
span_added start len spans = λ end fits. record {
  those = λ x. (
    λ (span, has, here). elim (Contains-push_cases spans (start, len) span has) [
      | inl earlier ↦ inl (span, earlier, here)
      | inr same ↦ inr (subst (λ (z : ℕ × ℕ). IsByteOf z.0 z.1 x) (sym same) here)
    ],
    λ either. elim either [
      | inl (span, has, here) ↦ (span, Contains-append_left spans ((start, len) ∷ []) span has, here)
      | inr here ↦ ((start, len), Contains-push spans (start, len), here)
    ],
  );
  within = λ before. All-push (λ (span : ℕ × ℕ). span.0 + span.1 ≤ end) spans (start, len) before fits;
}

-- nothing is added where nothing holds
pub bytes_none : (end : ℕ) (HasByte : ℕ → Type 0) (spans : Spans) → ((x : ℕ) → HasByte x → ⊥) → AddsBytes end HasByte spans spans
bytes_none end HasByte spans none = record {
  those = λ x. (λ has. inl has, λ either. elim either [ inl has ↦ has | inr holds ↦ absurd (none x holds) ]);
  within = λ before. before;
}

-- what is added in two steps
pub bytes_both : (end : ℕ) (First Second : ℕ → Type 0) (before mid after : Spans) → AddsBytes end First before mid → AddsBytes end Second mid after → AddsBytes end (λ (x : ℕ). First x ⊎ Second x) before after
bytes_both end First Second before mid after one two = record {
  those = λ x. (
    λ has. elim ((two.those x).0 has) [
      | inl some ↦ (elim ((one.those x).0 some) [
        | inl earlier ↦ inl earlier
        | inr first ↦ inr (inl first)
      ])
      | inr second ↦ inr (inr second)
    ],
    λ either. (two.those x).1 (elim either [
      | inl earlier ↦ inl ((one.those x).1 (inl earlier))
      | inr (inl first) ↦ inl ((one.those x).1 (inr first))
      | inr (inr second) ↦ inr second
    ]),
  );
  within = λ inside. two.within (one.within inside);
}

-- what has the same bytes is added as well
pub bytes_same : (end : ℕ) (First Second : ℕ → Type 0) (before after : Spans) → ((x : ℕ) → First x ↔ Second x) → AddsBytes end First before after → AddsBytes end Second before after
bytes_same end First Second before after same adds = record {
  those = λ x. (
    λ has. elim ((adds.those x).0 has) [ inl earlier ↦ inl earlier | inr holds ↦ inr ((same x).0 holds) ],
    λ either. (adds.those x).1 (elim either [ inl earlier ↦ inl earlier | inr holds ↦ inr ((same x).1 holds) ]),
  );
  within = adds.within;
}

-- WHAT IS ADDED NUMBER BY NUMBER

pub bytes_below_none : (end : ℕ) (HasByteAt : ℕ → ℕ → Type 0) (spans : Spans) → AddsBytes end (BytesBelow HasByteAt 0) spans spans
bytes_below_none end HasByteAt spans = bytes_none end (BytesBelow HasByteAt 0) spans (λ x (i, less, holds). omega (arith, less))

below_more : (HasByteAt : ℕ → ℕ → Type 0) (n x : ℕ) → (BytesBelow HasByteAt n x ⊎ HasByteAt n x) ↔ BytesBelow HasByteAt (n + 1) x
below_more HasByteAt n x = (
  λ either. elim either [
    | inl (i, less, holds) ↦ (i, omega (arith, less), holds)
    | inr holds ↦ (n, omega arith, holds)
  ],
  λ (i, less, holds). elim (cases_lt i n) [
    | inl below ↦ inl (i, below, holds)
    | inr past ↦ (let same : i ≡ n = omega (arith, less, past) in inr (subst (λ (z : ℕ). HasByteAt z x) same holds))
  ],
)

pub bytes_below_next : (end : ℕ) (HasByteAt : ℕ → ℕ → Type 0) (n : ℕ) (before mid after : Spans) → AddsBytes end (BytesBelow HasByteAt n) before mid → AddsBytes end (HasByteAt n) mid after → AddsBytes end (BytesBelow HasByteAt (n + 1)) before after
bytes_below_next end HasByteAt n before mid after one two =
    bytes_same end (λ (x : ℕ). BytesBelow HasByteAt n x ⊎ HasByteAt n x) (BytesBelow HasByteAt (n + 1)) before after (below_more HasByteAt n) (bytes_both end (BytesBelow HasByteAt n) (HasByteAt n) before mid after one two)

pub bytes_below_all : (end : ℕ) (HasByteAt : ℕ → ℕ → Type 0) (n : ℕ) (before after : Spans) → ((i x : ℕ) → HasByteAt i x → i < n) → AddsBytes end (BytesBelow HasByteAt n) before after → AddsBytes end (SomeBytes HasByteAt) before after
bytes_below_all end HasByteAt n before after inside =
    bytes_same end (BytesBelow HasByteAt n) (SomeBytes HasByteAt) before after (λ x. (λ (i, less, holds). (i, holds), λ (i, holds). (i, inside i x holds, holds)))

-- WHAT IS SORTED

-- a sort puts spans by rising place
pub sorted_rise : (spans : Spans) → IsSorted (λ (a b : ℕ × ℕ). ordering_then (nat_cmp a.0 b.0) (nat_cmp a.1 b.1)) spans → AreRising spans
sorted_rise spans sorted i j d less inside = elim (sorted_namings spans sorted i j d less inside) [
  | inl under ↦ omega (arith, under)
  | inr (same, further) ↦ omega (arith, same)
]

-- and they have the same bytes
pub covered_moved : (spans moved : Spans) → IsPermutation spans moved → (x : ℕ) → IsCovered moved x ↔ IsCovered spans x
covered_moved spans moved permutes x = (
  λ (span, has, here). (span, Contains-permutation moved spans span (IsPermutation-sym spans moved permutes) has, here),
  λ (span, has, here). (span, Contains-permutation spans moved span permutes has, here),
)

pub end_moved : (end : ℕ) (spans moved : Spans) → IsPermutation spans moved → EndBy end spans → EndBy end moved
end_moved end spans moved permutes = All-permutation (λ (span : ℕ × ℕ). span.0 + span.1 ≤ end) spans moved permutes

-- THE FIRST GAP

-- the spans below a number have all bytes before a place, and none goes past it
pub record AreWalked (spans : Spans) (n covered : ℕ) : Type 0 where
  pub before : (x : ℕ) → x < covered → IsCovered spans x
  pub passed : (k : ℕ) (d : ℕ × ℕ) → k < n → (get_or spans k d).0 + (get_or spans k d).1 ≤ covered

-- the next span begins no later than that place
pub walked_next : (spans : Spans) (n covered next : ℕ) (d : ℕ × ℕ) → AreWalked spans n covered → n < length spans → (get_or spans n d).0 ≤ covered → covered ≤ next → (get_or spans n d).0 + (get_or spans n d).1 ≤ next → (next ≤ covered) ⊎ (next ≤ (get_or spans n d).0 + (get_or spans n d).1) → AreWalked spans (n + 1) next
walked_next spans n covered next d walked inside begins more past least = record {
  before = λ x less. elim (cases_lt x covered) [
    | inl below ↦ walked.before x below
    | inr beyond ↦ elim least [
      | inl same ↦ absurd (omega (arith, same, less, beyond))
      | inr same ↦ (get_or spans n d, Contains-get_or spans n d inside, (omega (arith, begins, beyond), omega (arith, less, same)))
    ]
  ];
  passed = λ k e less. elim (cases_lt k n) [
    | inl below ↦ (let earlier = walked.passed k e below in omega (arith, earlier, more))
    | inr beyond ↦
        let same : k ≡ n = omega (arith, less, beyond) in
        let one : get_or spans k e ≡ get_or spans n d = ap (λ (z : ℕ). get_or spans z e) same ∙ get_or_default spans n e d inside in
        subst (λ (z : ℕ × ℕ). z.0 + z.1 ≤ next) (sym one) past
  ];
}

module _ (spans : Spans) (end n covered : ℕ) (d : ℕ × ℕ) (walked : AreWalked spans n covered) where
  -- a place at which all spans before a number end, and from which on the others begin, is no span's
  not_covered : ((k : ℕ) → n ≤ k → k < length spans → covered < (get_or spans k d).0) → IsCovered spans covered → ⊥
  not_covered later (span, (k, inside, is), (begins, ends)) = elim (cases_lt k n) [
    | inl below ↦ (let past = subst (λ (z : ℕ × ℕ). z.0 + z.1 ≤ covered) is (walked.passed k span below) in omega (arith, past, ends))
    | inr beyond ↦ (let behind = subst (λ (z : ℕ × ℕ). covered < z.0) (get_or_default spans k d span inside ∙ is) (later k beyond inside) in omega (arith, behind, begins))
  ]

  none_before : (q : ℕ) → q < covered → IsGap spans end q → ⊥
  none_before q less gap = gap.1 (walked.before q less)

  -- the next span begins behind it
  pub gap_between : AreRising spans → EndBy end spans → n < length spans → covered < (get_or spans n d).0 → IsLeastPlace (IsGap spans end) covered
  gap_between rising within inside less =
      let ends : (get_or spans n d).0 + (get_or spans n d).1 ≤ end = within n d inside in
      let later : (k : ℕ) → n ≤ k → k < length spans → covered < (get_or spans k d).0 = λ k from known. elim (cases_lt n k) [
        | inl more ↦ (let rise = rising n k d more known in omega (arith, rise, less))
        | inr same ↦ (let one : n ≡ k = omega (arith, from, same) in subst (λ (z : ℕ). covered < (get_or spans z d).0) one less)
      ] in
      ((omega (arith, less, ends), not_covered later), none_before)
