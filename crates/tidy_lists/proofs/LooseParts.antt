-- Contributions fill their section, so that a loose byte is one that no span has of all that has bytes.
use Rattle.std.proofs.Common.{◌≡◌, ◌≤◌, ◌<◌, ◌+◌, ◌*◌, ◌⊎◌, ◌∙◌, inl, inr, ℕ, suc, List, [], ◌∷◌, length, get_or, ap, subst, arith}
use Rattle.std.specs.Prelude.{Option, Some, None}
use Rattle.std.specs.List.Sorted.{IsPermutation}
use Rattle.std.proofs.lemmas.Bool.{cases_lt}
use Rattle.std.proofs.lemmas.List.{get_or_default}
use Rattle.list_model.specs.declared.contribution.Contribution.{Contribution}
use Rattle.list_model.specs.declared.entry.ListKind.{ListKind}
use Rattle.list_model.specs.Contributions.{lists_at, part_end, IsContribution, ContributionsFollow, ContributionsTile}
use Rattle.list_model.proofs.Tiling.{part_inside}
use Rattle.value_links.specs.Reading.{Reading, of_kind, part_at}
use Rattle.value_links.specs.Whole.{IsReading}
use Rattle.value_links.proofs.PartPlaces.{part_stands, parts_apart}
use Rattle.tidy_places.specs.Firsts.{IsLeastFound}
use Rattle.tidy_lists.specs.Due.{IsLoose}
use Rattle.tidy_lists.specs.inside.LooseBytes.{IsByteOf, IsGap, AddsBytes, AddsSpan, SomeBytes, section_end, HasHeadByteAt, HasListByteAt, HasRunByteIn, IsTaken, AreTaken}
use Rattle.tidy_lists.proofs.LooseSpans.{bytes_same, bytes_both, covered_moved, end_moved}

-- PLACES IN CONTRIBUTIONS

-- a place of the section is one of a contribution
place_found : (section : List ℕ) (parts : List Contribution) (d : Contribution) (a end x : ℕ) → ContributionsFollow section parts a end → a ≤ x → x < end → (p : ℕ) × (p < length parts) × ((get_or parts p d).at ≤ x) × (x < part_end (get_or parts p d))
place_found section [] d a end x same from to = let here : a ≡ end = same in absurd (omega (arith, here, from, to))
place_found section (part ∷ parts) d a end x (here, stands, rest) from to = elim (cases_lt x (part_end part)) [
  | inl less ↦ (0, omega arith, omega (arith, here, from), less)
  | inr past ↦ (let (p, inside, begins, ends) = place_found section parts d (part_end part) end x rest past to in (suc p, omega (arith, inside), begins, ends))
]

abbrev no_part : Contribution
no_part = record { at = 0; len = 0; slots = 0 }

module _ (file : List ℕ) (s : Reading) (read : IsReading file s) (kind : ListKind) where
  abbrev section : List ℕ
  section = (of_kind s.links kind).section

  abbrev parts : List Contribution
  parts = (of_kind s.links kind).parts

  tiled : ContributionsTile section parts
  tiled = (read.links.lists kind).tiled

  -- the span of a header with its offsets has their bytes
  pub head_added : (held : List Contribution) (p slots : ℕ) (d : Contribution) (before after : List (ℕ × ℕ)) → held ≡ parts → p < length held → slots ≡ (get_or held p d).slots → AddsSpan (get_or held p d).at (12 + 4 * slots) before after → AddsBytes (section_end kind s) (HasHeadByteAt kind s p) before after
  head_added held p slots d before after same known counted adds =
      let part : Contribution = part_at (of_kind s.links kind) p in
      let inside : p < length parts = subst (λ (z : List Contribution). p < length z) same known in
      let here : get_or held p d ≡ part = ap (λ (z : List Contribution). get_or z p d) same ∙ get_or_default parts p d no_part inside in
      let moved : AddsSpan part.at (12 + 4 * part.slots) before after = subst (λ (z : Contribution). AddsSpan z.at (12 + 4 * z.slots) before after) here (subst (λ (z : ℕ). AddsSpan (get_or held p d).at (12 + 4 * z) before after) counted adds) in
      let stands : IsContribution section part = part_stands section parts tiled p inside in
      let fits : part.at + 12 + 4 * part.slots ≤ part_end part = stands.fits in
      let ends : part_end part ≤ length section = (part_inside section part stands).1 in
      bytes_same (section_end kind s) (IsByteOf part.at (12 + 4 * part.slots)) (HasHeadByteAt kind s p) before after (λ x. (
        λ (from, to). (inside, from, omega (arith, to)),
        λ (known, from, to). (from, omega (arith, to)),
      )) (moved (section_end kind s) (omega (arith, fits, ends)))

  -- WHAT IS LOOSE

  -- a header with its offsets has no byte behind the offsets of a contribution
  head_apart : (p q x : ℕ) → p < length parts → lists_at (part_at (of_kind s.links kind) p) ≤ x → x < part_end (part_at (of_kind s.links kind) p) → HasHeadByteAt kind s q x → ⊥
  head_apart p q x inside from to (known, begins, ends) =
      let part : Contribution = part_at (of_kind s.links kind) p in
      let other : Contribution = part_at (of_kind s.links kind) q in
      let fits : lists_at other ≤ part_end other = (part_stands section parts tiled q known).fits in
      elim (cases_lt p q) [
        | inl less ↦ (let apart : part_end part ≤ other.at = parts_apart section parts tiled p q less known in omega (arith, apart, begins, to))
        | inr past ↦ elim (cases_lt q p) [
          | inl more ↦ (let apart : part_end other ≤ part.at = parts_apart section parts tiled q p more inside in
              let behind : part.at + 12 + 4 * part.slots ≤ x = from in
              omega (arith, apart, ends, fits, behind))
          | inr rest ↦
              let same : p ≡ q = omega (arith, past, rest) in
              let again : lists_at other ≤ x = subst (λ (z : ℕ). lists_at (part_at (of_kind s.links kind) z) ≤ x) same from in
              omega (arith, again, ends)
        ]
      ]

  module _ (spans : List (ℕ × ℕ)) (taken : AreTaken kind s spans) where
    pub loose_is_gap : (x : ℕ) → IsLoose kind s x → IsGap spans (section_end kind s) x
    loose_is_gap x loose =
        let part : Contribution = part_at (of_kind s.links kind) loose.p in
        let ends : part_end part ≤ length section = (part_inside section part (part_stands section parts tiled loose.p loose.known)).1 in
        let to : x < part_end part = loose.to in (
          omega (arith, to, ends),
          λ covered. elim ((taken.those x).0 covered) [
            | inl (q, head) ↦ head_apart loose.p q x loose.known loose.from loose.to head
            | inr (inl (m, (len, inside, has, (from, to)))) ↦ loose.no_list (m, len, inside, has, from, to)
            | inr (inr (is, (n, (len, inside, has, (from, to))))) ↦ loose.no_run is (n, len, inside, has, from, to)
          ],
        )

    pub gap_is_loose : (x : ℕ) → IsGap spans (section_end kind s) x → IsLoose kind s x
    gap_is_loose x (less, gap) =
        let (p, known, begins, to) = place_found section parts no_part 0 (length section) x tiled (omega arith) less in
        record {
          p = p;
          known = known;
          from = elim (cases_lt x (lists_at (part_at (of_kind s.links kind) p))) [
            | inl head ↦ absurd (gap ((taken.those x).1 (inl (p, (known, begins, head)))))
            | inr behind ↦ behind
          ];
          to = to;
          no_list = λ (m, len, inside, has, from, to). gap ((taken.those x).1 (inr (inl (m, (len, inside, has, (from, to))))));
          no_run = λ is (n, len, inside, has, from, to). gap ((taken.those x).1 (inr (inr (is, (n, (len, inside, has, (from, to)))))));
        }

    -- so the first gap is the first loose byte
    pub first_loose : (found : Option ℕ) → IsLeastFound (IsGap spans (section_end kind s)) found → IsLeastFound (IsLoose kind s) found
    first_loose None none = λ x loose. none x (loose_is_gap x loose)
    first_loose (Some x) (gap, first) = (gap_is_loose x gap, λ q less loose. first q less (loose_is_gap q loose))

  -- the spans that were appended one after the other and then sorted are those of all that has bytes
  pub all_taken : (heads lists runs sorted : List (ℕ × ℕ)) → AddsBytes (section_end kind s) (SomeBytes (HasHeadByteAt kind s)) [] heads → AddsBytes (section_end kind s) (SomeBytes (HasListByteAt kind s)) heads lists → AddsBytes (section_end kind s) (HasRunByteIn kind s) lists runs → IsPermutation runs sorted → AreTaken kind s sorted
  all_taken heads lists runs sorted one two three permutes =
      let end : ℕ = section_end kind s in
      let both = bytes_both end (SomeBytes (HasListByteAt kind s)) (HasRunByteIn kind s) heads lists runs two three in
      let all : AddsBytes end (IsTaken kind s) [] runs = bytes_both end (SomeBytes (HasHeadByteAt kind s)) (λ (x : ℕ). SomeBytes (HasListByteAt kind s) x ⊎ HasRunByteIn kind s x) [] heads runs one both in
      record {
        those = λ x. (
          λ has. elim ((all.those x).0 ((covered_moved runs sorted permutes x).0 has)) [
            | inl (span, (k, inside, is), here) ↦ absurd (omega (arith, inside))
            | inr is ↦ is
          ],
          λ is. (covered_moved runs sorted permutes x).1 ((all.those x).1 (inr is)),
        );
        within = end_moved end runs sorted permutes (all.within (λ k d inside. absurd (omega (arith, inside))));
      }
