-- The fields of sets of address ranges, which stand one behind the other.
use Rattle.std.proofs.Common.{◌≡◌, ◌≢◌, ◌≤◌, ◌<◌, ◌+◌, ◌⊎◌, inl, inr, ℕ, List, [], ◌∷◌, length, drop, sym, subst, arith}
use Rattle.std.specs.Prelude.{slice_index, slice_range, slice_index_or}
use Rattle.std.specs.List.{All}
use Rattle.std.proofs.lemmas.Bool.{cases_lt}
use Rattle.std.proofs.lemmas.List.{drop_more, drop_all}
use Rattle.std.proofs.lemmas.List.Elements.{All-nil, All-cons, All-weaker, All-get_or}
use Rattle.fixed_width.specs.InitialLengths.{unit_end}
use Rattle.companions.specs.declared.set.ArangeSet.{ArangeSet}
use Rattle.companions.specs.Aranges.{SetsFollow, SetsTile, IsOutside}
use Rattle.same_meaning.specs.inside.Parts.{DifferOutsideFields, AreSameUpTo}
use Rattle.same_meaning.proofs.ByteParts.{same_part, other_part, same_dropped, other_dropped}

-- a place is beside the field of a set
abbrev IsBeside : ℕ → ArangeSet → Type 0
IsBeside k set = (k < set.at + 6) ⊎ (set.at + 10 ≤ k)

behind : (section starts : List ℕ) (sets : List ArangeSet) (at end : ℕ) → SetsFollow section starts sets at end → All (λ (s : ArangeSet). at ≤ s.at) sets
behind section starts [] at end follow = All-nil (λ (s : ArangeSet). at ≤ s.at)
behind section starts (set ∷ sets) at end (is, stands, rest) =
    let later = behind section starts sets (unit_end section set.at) end rest in
    let fits = stands.fits in
    All-cons (λ (s : ArangeSet). at ≤ s.at) set sets (omega arith) (All-weaker (λ (s : ArangeSet). unit_end section set.at ≤ s.at) (λ (s : ArangeSet). at ≤ s.at) (λ s h. omega arith) sets later)

pub start : (before after : List ℕ) (sets : List ArangeSet) (starts : List ℕ) → SetsTile before starts sets → AreSameUpTo before after sets 0 0
start before after sets starts tile = record {
  starts = starts;
  place = 0;
  follow = tile;
  reached = omega arith;
  same = λ k low outside. absurd (omega arith);
  ahead = λ k high outside. outside;
}

module _ (before after : List ℕ) (sets : List ArangeSet) (from i : ℕ) (d : ArangeSet) (are : AreSameUpTo before after sets from i) (more : i < length sets) where
  abbrev next : ArangeSet
  next = slice_index_or sets i d

  abbrev rest : List ArangeSet
  rest = drop (i + 1) sets

  follows : SetsFollow before are.starts (next ∷ rest) are.place (length before)
  follows = subst (λ (z : List ArangeSet). SetsFollow before are.starts z are.place (length before)) (drop_more sets i d more) are.follow

  pub bounds : (from ≤ next.at + 6) × (next.at + 10 ≤ length before)
  bounds =
      let (is, stands, follow) = follows in
      let fits = stands.fits in
      let inside = stands.whole.inside in
      let reached = are.reached in
      (omega arith, omega arith)

  -- the places up to the field are beside all fields
  up_to : (k : ℕ) → from ≤ k → k < next.at + 6 → IsOutside sets k
  up_to k high low =
      let (is, stands, follow) = follows in
      let fits = stands.fits in
      let later = behind before are.starts rest (unit_end before next.at) (length before) follow in
      let ahead : IsOutside (next ∷ rest) k = All-cons (IsBeside k) next rest (inl low) (All-weaker (λ (s : ArangeSet). unit_end before next.at ≤ s.at) (IsBeside k) (λ s h. inl (omega arith)) rest later) in
      are.ahead k high (subst (λ (z : List ArangeSet). IsOutside z k) (sym (drop_more sets i d more)) ahead)

  -- the places from one up to the field are the same where these parts are
  same_here : (k : ℕ) → slice_range before from (next.at + 6) ≡ slice_range after from (next.at + 6) → IsOutside sets k → k < next.at + 10 → slice_index after k ≡ slice_index before k
  same_here k alike outside low = elim (cases_lt k from) [
    | inl under ↦ are.same k under outside
    | inr high ↦ elim (cases_lt k (next.at + 6)) [
      | inl inside ↦ sym (same_part before after from (next.at + 6) k alike high inside)
      | inr past ↦ absurd (elim (All-get_or (IsBeside k) sets i d more outside) [ inl under ↦ omega arith | inr above ↦ omega arith ])
    ]
  ]

  pub further : slice_range before from (next.at + 6) ≡ slice_range after from (next.at + 6) → AreSameUpTo before after sets (next.at + 6 + 4) (i + 1)
  further alike =
      let (is, stands, follow) = follows in
      let fits = stands.fits in
      let reached = are.reached in
      record {
        starts = are.starts;
        place = unit_end before next.at;
        follow = follow;
        reached = omega arith;
        same = λ k low outside. same_here k alike outside (omega arith);
        ahead = λ k high outside. are.ahead k (omega arith) (subst (λ (z : List ArangeSet). IsOutside z k) (sym (drop_more sets i d more)) (All-cons (IsBeside k) next rest (inr (omega arith)) outside));
      }

  pub parts_differ : length after ≡ length before → slice_range before from (next.at + 6) ≢ slice_range after from (next.at + 6) → DifferOutsideFields before after sets
  parts_differ size differ =
      let (k, high, low, other) = other_part before after from (next.at + 6) (sym size) differ in
      inr (k, up_to k high low, λ same. other (sym same))

-- behind the last set all is the same where the rest is
module _ (before after : List ℕ) (sets : List ArangeSet) (from i : ℕ) (are : AreSameUpTo before after sets from i) (none : length sets ≤ i) where
  rest_outside : (k : ℕ) → from ≤ k → IsOutside sets k
  rest_outside k high = are.ahead k high (subst (λ (z : List ArangeSet). IsOutside z k) (sym (drop_all i sets none)) (All-nil (IsBeside k)))

  rest_same : drop from before ≡ drop from after → (k : ℕ) → IsOutside sets k → slice_index after k ≡ slice_index before k
  rest_same alike k outside = elim (cases_lt k from) [
    | inl under ↦ are.same k under outside
    | inr high ↦ sym (same_dropped before after from k alike high)
  ]

  pub rest_differs : length after ≡ length before → drop from before ≢ drop from after → DifferOutsideFields before after sets
  rest_differs size differ =
      let (k, high, low, other) = other_dropped before after from (sym size) differ in
      inr (k, rest_outside k high, λ same. other (sym same))

  pub none_differs : length after ≡ length before → drop from before ≡ drop from after → DifferOutsideFields before after sets → ⊥
  none_differs size alike (inl other) = other size
  none_differs size alike (inr (k, outside, other)) = other (rest_same alike k outside)
