-- Places under sizes of slots are those without slots and the sizes of the slots before.
use Rattle.std.proofs.Common.{◌≡◌, ◌≤◌, ◌<◌, ◌+◌, ℕ, zero, suc, List, [], ◌∷◌, length, get_or, ◌∙◌, ap, refl, arith, add-zero}
use Rattle.leb_codec.specs.Leb.{least_unsigned_len}
use Rattle.leb_codec.proofs.Lens.{least_unsigned}
use Rattle.std.specs.Prelude.{slice_index}
use Rattle.abbrev_tables.specs.declared.decl.Spec.{Spec}
use Rattle.abbrev_tables.specs.Listings.{Listing}
use Rattle.entry_arena.specs.Arena.{Arena, entry_at}
use Rattle.entry_arena.specs.Order.{HaveValues}
use Rattle.entry_arena.specs.Walks.{Item}
use Rattle.entry_arena.specs.Walks.Item.{AnEntry, AnEnd}
use Rattle.expr_ops.specs.Expressions.{Operation}
use Rattle.unit_write.specs.Values.{OneSize}
use Rattle.unit_write.specs.Placing.{EntrySize, ArePlaced}
use Rattle.unit_write.specs.inside.Marks.{values_before, EndsFollow}
use Rattle.unit_write.proofs.SlotSizes.{AreAdded, weight, entry_weights}

-- places are others behind a base, each with a weight more
pub record AreShifted (base : ℕ) (weights : ℕ → ℕ) (fixed places : List ℕ) : Type 0 where
  pub many : length fixed ≡ length places
  pub each : (k : ℕ) → k < length places → get_or places k 0 ≡ base + get_or fixed k 0 + weights k

nothing_shifted : (base : ℕ) (weights : ℕ → ℕ) → AreShifted base weights [] []
nothing_shifted base weights = record { many = refl; each = λ k lt. absurd (omega arith) }

one_shifted : (base : ℕ) (weights more : ℕ → ℕ) (x y : ℕ) (fixed places : List ℕ) → y ≡ base + x + weights 0 → ((k : ℕ) → more k ≡ weights (suc k)) → AreShifted base more fixed places → AreShifted base weights (x ∷ fixed) (y ∷ places)
one_shifted base weights more x y fixed places here later h = record { many = ap suc h.many; each = at }
  where
    at : (k : ℕ) → k < length (y ∷ places) → get_or (y ∷ places) k 0 ≡ base + get_or (x ∷ fixed) k 0 + weights k
    at zero lt = here
    at (suc k) lt = h.each k (omega arith) ∙ ap (λ (z : ℕ). base + get_or fixed k 0 + z) (later k)

module _ (one : OneSize) (table : Listing) (columns : List Spec) (numbers : List ℕ) (f : Arena) (valued : HaveValues f.entries (length f.values)) (ops : ℕ → List Operation) (bare sizes lens : List ℕ) (added : AreAdded f ops sizes bare lens) (base : ℕ) where
  abbrev Bare : ℕ → List Item → ℕ → List ℕ → List ℕ → ℕ → Type 0
  Bare id items at es ds to = ArePlaced (EntrySize table columns numbers f bare) id items at es ds to

  abbrev Full : ℕ → List Item → ℕ → List ℕ → List ℕ → ℕ → Type 0
  Full id items at xs ys to = ArePlaced (EntrySize table columns numbers f lens) id items at xs ys to

  -- the sizes of the slots of so many entries
  abbrev weight_to : ℕ → ℕ
  weight_to id = weight f ops sizes (values_before f id)

  -- entries and codes 0 are shifted by the slots before them, where `counts` has how many entries stand before each code 0
  abbrev Both : ℕ → List ℕ → List ℕ → List ℕ → List ℕ → List ℕ → Type 0
  Both id counts es ds xs ys = AreShifted base (λ k. weight_to (id + k)) es xs × AreShifted base (λ k. weight_to (get_or counts k 0)) ds ys

  pub shifted : (id at up : ℕ) (items : List Item) (counts es ds xs ys : List ℕ) (to too : ℕ) → EndsFollow id items counts → Bare id items at es ds to → Full id items up xs ys too → id + length es ≡ length f.entries → up ≡ base + at + weight_to id → Both id counts es ds xs ys
  shifted id at up [] counts [] [] [] [] to too follow p q all here = (nothing_shifted base _, nothing_shifted base _)
  shifted id at up [] counts (e ∷ es) ds xs ys to too follow p q all here = absurd p
  shifted id at up [] counts [] (d ∷ ds) xs ys to too follow p q all here = absurd p
  shifted id at up [] counts [] [] (x ∷ xs) ys to too follow p q all here = absurd q
  shifted id at up [] counts [] [] [] (y ∷ ys) to too follow p q all here = absurd q
  shifted id at up (AnEntry k ∷ items) counts [] ds xs ys to too follow p q all here = absurd p
  shifted id at up (AnEntry k ∷ items) counts (e ∷ es) ds [] ys to too follow p q all here = absurd q
  shifted id at up (AnEntry k ∷ items) counts (e ∷ es) ds (x ∷ xs) ys to too follow (pe, (ps, psized, pmore)) (qe, (qs, qsized, qmore)) all here =
      let inside : id < length f.entries = omega arith in
      let own : qs + weight_to id ≡ ps + weight_to (suc id) = entry_weights f valued ops bare sizes lens added one table columns numbers id ps qs inside psized qsized in
      let next : up + qs ≡ base + (at + ps) + weight_to (suc id) = omega arith in
      let r = shifted (suc id) (at + ps) (up + qs) items counts es ds xs ys to too follow pmore qmore (omega arith) next in
      let same : weight_to (id + 0) ≡ weight_to id = ap weight_to (add-zero id) in
      let place : x ≡ base + e + weight_to (id + 0) = omega arith in
      (one_shifted base _ (λ j. weight_to (suc id + j)) e x es xs place (λ j. ap weight_to (let same : suc id + j ≡ id + suc j = omega arith in same)) r.0, r.1)
  shifted id at up (AnEnd ∷ items) [] es ds xs ys to too follow p q all here = absurd follow
  shifted id at up (AnEnd ∷ items) (n ∷ counts) es [] xs ys to too follow p q all here = absurd p
  shifted id at up (AnEnd ∷ items) (n ∷ counts) es (d ∷ ds) xs [] to too follow p q all here = absurd q
  shifted id at up (AnEnd ∷ items) (n ∷ counts) es (d ∷ ds) xs (y ∷ ys) to too (count, follow) (pe, pmore) (qe, qmore) all here =
      let next : up + 1 ≡ base + (at + 1) + weight_to id = omega arith in
      let r = shifted id (at + 1) (up + 1) items counts es ds xs ys to too follow pmore qmore all next in
      let same : weight_to n ≡ weight_to id = ap weight_to count in
      let place : y ≡ base + d + weight_to n = omega arith in
      (r.0, one_shifted base _ (λ j. weight_to (get_or counts j 0)) d y ds ys place (λ j. refl) r.1)

  -- shifted places without the first one
  rest_shifted : (weights more : ℕ → ℕ) (x y : ℕ) (fixed places : List ℕ) → ((k : ℕ) → weights (suc k) ≡ more k) → AreShifted base weights (x ∷ fixed) (y ∷ places) → AreShifted base more fixed places
  rest_shifted weights more x y fixed places later h = record {
    many = let many : length (x ∷ fixed) ≡ length (y ∷ places) = h.many in omega arith;
    each = λ k lt. h.each (suc k) (omega arith) ∙ ap (λ (z : ℕ). base + get_or fixed k 0 + z) (later k);
  }

  -- so places that are shifted are those under these sizes
  pub placed_shifted : ((id : ℕ) → id < length f.entries → (size : ℕ) × EntrySize table columns numbers f lens id size) → (id at up : ℕ) (items : List Item) (counts es ds xs ys : List ℕ) (to too : ℕ) → EndsFollow id items counts → Bare id items at es ds to → Both id counts es ds xs ys → id + length es ≡ length f.entries → up ≡ base + at + weight_to id → too ≡ base + to + weight_to (length f.entries) → Full id items up xs ys too
  placed_shifted sized id at up [] counts [] [] [] [] to too follow p both all here end =
      let same : weight_to id ≡ weight_to (length f.entries) = ap weight_to (let e : id ≡ length f.entries = omega arith in e) in
      omega (arith, p, same)
  placed_shifted sized id at up [] counts (e ∷ es) ds xs ys to too follow p both all here end = absurd p
  placed_shifted sized id at up [] counts [] (d ∷ ds) xs ys to too follow p both all here end = absurd p
  placed_shifted sized id at up [] counts [] [] (x ∷ xs) ys to too follow p both all here end = absurd (let many : 0 ≡ suc (length xs) = both.0.many in omega arith)
  placed_shifted sized id at up [] counts [] [] [] (y ∷ ys) to too follow p both all here end = absurd (let many : 0 ≡ suc (length ys) = both.1.many in omega arith)
  placed_shifted sized id at up (AnEntry k ∷ items) counts [] ds xs ys to too follow p both all here end = absurd p
  placed_shifted sized id at up (AnEntry k ∷ items) counts (e ∷ es) ds [] ys to too follow p both all here end = absurd (let many : suc (length es) ≡ 0 = both.0.many in omega arith)
  placed_shifted sized id at up (AnEntry k ∷ items) counts (e ∷ es) ds (x ∷ xs) ys to too follow (pe, (ps, psized, pmore)) both all here end =
      let inside : id < length f.entries = omega arith in
      let (qs, qsized) = sized id inside in
      let own : qs + weight_to id ≡ ps + weight_to (suc id) = entry_weights f valued ops bare sizes lens added one table columns numbers id ps qs inside psized qsized in
      let next : up + qs ≡ base + (at + ps) + weight_to (suc id) = omega arith in
      let same : weight_to (id + 0) ≡ weight_to id = ap weight_to (add-zero id) in
      let first : x ≡ base + e + weight_to (id + 0) = both.0.each 0 (omega arith) in
      let rest = rest_shifted (λ j. weight_to (id + j)) (λ j. weight_to (suc id + j)) e x es xs (λ j. ap weight_to (let same : id + suc j ≡ suc id + j = omega arith in same)) both.0 in
      (omega (arith, pe), (qs, qsized, placed_shifted sized (suc id) (at + ps) (up + qs) items counts es ds xs ys to too follow pmore (rest, both.1) (omega arith) next end))
  placed_shifted sized id at up (AnEnd ∷ items) [] es ds xs ys to too follow p both all here end = absurd follow
  placed_shifted sized id at up (AnEnd ∷ items) (n ∷ counts) es [] xs ys to too follow p both all here end = absurd p
  placed_shifted sized id at up (AnEnd ∷ items) (n ∷ counts) es (d ∷ ds) xs [] to too follow p both all here end = absurd (let many : suc (length ds) ≡ 0 = both.1.many in omega arith)
  placed_shifted sized id at up (AnEnd ∷ items) (n ∷ counts) es (d ∷ ds) xs (y ∷ ys) to too (count, follow) (pe, pmore) both all here end =
      let next : up + 1 ≡ base + (at + 1) + weight_to id = omega arith in
      let same : weight_to n ≡ weight_to id = ap weight_to count in
      let first : y ≡ base + d + weight_to n = both.1.each 0 (omega arith) in
      let rest = rest_shifted (λ j. weight_to (get_or (n ∷ counts) j 0)) (λ j. weight_to (get_or counts j 0)) d y ds ys (λ j. refl) both.1 in
      (omega (arith, pe), placed_shifted sized id (at + 1) (up + 1) items counts es ds xs ys to too follow pmore (both.0, rest) all next end)

-- a code takes a byte
pub entry_some : (table : Listing) (columns : List Spec) (numbers : List ℕ) (f : Arena) (lens : List ℕ) (id size : ℕ) → EntrySize table columns numbers f lens id size → 1 ≤ size
entry_some table columns numbers f lens id size (rest, sized, is) =
    let some : 1 ≤ least_unsigned_len (slice_index numbers (entry_at f.entries id).decl) = (least_unsigned (slice_index numbers (entry_at f.entries id).decl)).enough.some in
    omega (arith, is, some)

-- Places rise from a first one to a last, of entries and codes 0; `counts` has how many entries stand before each code 0.
pub record Rises (id at : ℕ) (counts es ds : List ℕ) (to : ℕ) : Type 0 where
  pub order : at ≤ to
  pub lowest : (k : ℕ) → k < length es → at ≤ get_or es k 0
  pub highest : (k : ℕ) → k < length es → get_or es k 0 ≤ to
  pub rising : (j k : ℕ) → j < k → k < length es → get_or es j 0 < get_or es k 0
  pub counted : length counts ≡ length ds
  pub lowest_end : (n : ℕ) → n < length ds → at ≤ get_or ds n 0
  pub highest_end : (n : ℕ) → n < length ds → get_or ds n 0 ≤ to
  pub from : (n : ℕ) → n < length ds → id ≤ get_or counts n 0
  pub within : (n : ℕ) → n < length ds → get_or counts n 0 ≤ id + length es
  pub before : (n k : ℕ) → n < length ds → k < length es → id + k < get_or counts n 0 → get_or es k 0 < get_or ds n 0
  pub behind : (n k : ℕ) → n < length ds → k < length es → get_or counts n 0 ≤ id + k → get_or ds n 0 < get_or es k 0

none_rise : (id at to : ℕ) → at ≡ to → Rises id at [] [] [] to
none_rise id at to e = record {
  order = omega (arith, e);
  lowest = λ k lt. absurd (omega arith);
  highest = λ k lt. absurd (omega arith);
  rising = λ j k lt inside. absurd (omega arith);
  counted = refl;
  lowest_end = λ k lt. absurd (omega arith);
  highest_end = λ k lt. absurd (omega arith);
  from = λ k lt. absurd (omega arith);
  within = λ k lt. absurd (omega arith);
  before = λ n k lt inside less. absurd (omega arith);
  behind = λ n k lt inside less. absurd (omega arith);
}

entry_rise : (id at size e : ℕ) (counts es ds : List ℕ) (to : ℕ) → 1 ≤ size → e ≡ at → Rises (suc id) (at + size) counts es ds to → Rises id at counts (e ∷ es) ds to
entry_rise id at size e counts es ds to some is h = record {
  order = let order : at + size ≤ to = h.order in omega arith;
  lowest = lowest;
  highest = highest;
  rising = rising;
  counted = h.counted;
  lowest_end = λ n lt. let low : at + size ≤ get_or ds n 0 = h.lowest_end n lt in omega arith;
  highest_end = h.highest_end;
  from = λ n lt. let low : suc id ≤ get_or counts n 0 = h.from n lt in omega arith;
  within = λ n lt. let high : get_or counts n 0 ≤ suc id + length es = h.within n lt in omega arith;
  before = before;
  behind = behind;
}
  where
    lowest : (k : ℕ) → k < length (e ∷ es) → at ≤ get_or (e ∷ es) k 0
    lowest zero lt = omega (arith, is)
    lowest (suc k) lt = let low : at + size ≤ get_or es k 0 = h.lowest k (omega arith) in omega arith

    highest : (k : ℕ) → k < length (e ∷ es) → get_or (e ∷ es) k 0 ≤ to
    highest zero lt = let order : at + size ≤ to = h.order in omega (arith, is)
    highest (suc k) lt = h.highest k (omega arith)

    rising : (j k : ℕ) → j < k → k < length (e ∷ es) → get_or (e ∷ es) j 0 < get_or (e ∷ es) k 0
    rising j zero less lt = absurd (omega arith)
    rising zero (suc k) less lt = let low : at + size ≤ get_or es k 0 = h.lowest k (omega arith) in omega arith
    rising (suc j) (suc k) less lt = h.rising j k (omega arith) (omega arith)

    before : (n k : ℕ) → n < length ds → k < length (e ∷ es) → id + k < get_or counts n 0 → get_or (e ∷ es) k 0 < get_or ds n 0
    before n zero lt inside less = let low : at + size ≤ get_or ds n 0 = h.lowest_end n lt in omega arith
    before n (suc k) lt inside less = h.before n k lt (omega arith) (omega arith)

    behind : (n k : ℕ) → n < length ds → k < length (e ∷ es) → get_or counts n 0 ≤ id + k → get_or ds n 0 < get_or (e ∷ es) k 0
    behind n zero lt inside less = absurd (let low : suc id ≤ get_or counts n 0 = h.from n lt in omega arith)
    behind n (suc k) lt inside less = h.behind n k lt (omega arith) (omega arith)

end_rise : (id at n d : ℕ) (counts es ds : List ℕ) (to : ℕ) → n ≡ id → d ≡ at → Rises id (at + 1) counts es ds to → Rises id at (n ∷ counts) es (d ∷ ds) to
end_rise id at n d counts es ds to count is h = record {
  order = let order : at + 1 ≤ to = h.order in omega arith;
  lowest = λ k lt. let low : at + 1 ≤ get_or es k 0 = h.lowest k lt in omega arith;
  highest = h.highest;
  rising = h.rising;
  counted = ap suc h.counted;
  lowest_end = lowest_end;
  highest_end = highest_end;
  from = from;
  within = within;
  before = before;
  behind = behind;
}
  where
    lowest_end : (m : ℕ) → m < length (d ∷ ds) → at ≤ get_or (d ∷ ds) m 0
    lowest_end zero lt = omega (arith, is)
    lowest_end (suc m) lt = let low : at + 1 ≤ get_or ds m 0 = h.lowest_end m (omega arith) in omega arith

    highest_end : (m : ℕ) → m < length (d ∷ ds) → get_or (d ∷ ds) m 0 ≤ to
    highest_end zero lt = let order : at + 1 ≤ to = h.order in omega (arith, is)
    highest_end (suc m) lt = h.highest_end m (omega arith)

    from : (m : ℕ) → m < length (d ∷ ds) → id ≤ get_or (n ∷ counts) m 0
    from zero lt = omega (arith, count)
    from (suc m) lt = h.from m (omega arith)

    within : (m : ℕ) → m < length (d ∷ ds) → get_or (n ∷ counts) m 0 ≤ id + length es
    within zero lt = omega (arith, count)
    within (suc m) lt = h.within m (omega arith)

    before : (m k : ℕ) → m < length (d ∷ ds) → k < length es → id + k < get_or (n ∷ counts) m 0 → get_or es k 0 < get_or (d ∷ ds) m 0
    before zero k lt inside less = absurd (omega (arith, count))
    before (suc m) k lt inside less = h.before m k (omega arith) inside less

    behind : (m k : ℕ) → m < length (d ∷ ds) → k < length es → get_or (n ∷ counts) m 0 ≤ id + k → get_or (d ∷ ds) m 0 < get_or es k 0
    behind zero k lt inside less = let low : at + 1 ≤ get_or es k 0 = h.lowest k inside in omega (arith, is)
    behind (suc m) k lt inside less = h.behind m k (omega arith) inside less

pub places_rise : (Size : ℕ → ℕ → Type 0) → ((id size : ℕ) → Size id size → 1 ≤ size) → (id at : ℕ) (items : List Item) (counts es ds : List ℕ) (to : ℕ) → EndsFollow id items counts → ArePlaced Size id items at es ds to → Rises id at counts es ds to
places_rise Size some id at [] [] [] [] to follow p = none_rise id at to p
places_rise Size some id at [] (n ∷ counts) es ds to follow p = absurd follow
places_rise Size some id at [] [] (e ∷ es) ds to follow p = absurd p
places_rise Size some id at [] [] [] (d ∷ ds) to follow p = absurd p
places_rise Size some id at (AnEntry k ∷ items) counts [] ds to follow p = absurd p
places_rise Size some id at (AnEntry k ∷ items) counts (e ∷ es) ds to follow (here, (size, sized, more)) =
    entry_rise id at size e counts es ds to (some id size sized) here (places_rise Size some (suc id) (at + size) items counts es ds to follow more)
places_rise Size some id at (AnEnd ∷ items) [] es ds to follow p = absurd follow
places_rise Size some id at (AnEnd ∷ items) (n ∷ counts) es [] to follow p = absurd p
places_rise Size some id at (AnEnd ∷ items) (n ∷ counts) es (d ∷ ds) to (count, follow) (here, more) =
    end_rise id at n d counts es ds to count here (places_rise Size some id (at + 1) items counts es ds to follow more)
