-- Two files have the same image exactly where nothing that is kept of it differs.
use Rattle.std.proofs.Common.{◌≡◌, ◌≢◌, ◌≤◌, ◌<◌, ◌+◌, ◌-◌, ◌∙◌, ◌⊎◌, inl, inr, ℕ, zero, suc, List, length, Bool, true, false, not, ◌||◌, ◌&&◌, eqb, leb, sym, ap, subst, refl, arith}
use Rattle.std.specs.Prelude.{Some, slice_index, slice_range, slice_get, if◌then◌else◌}
use Rattle.std.proofs.lemmas.Bool.{cases_lt, and_cases, and_right, or_parts, lt-leb, not-false, both_ways}
use Rattle.std.proofs.lemmas.Option.{slice_get-get_or, slice_get_within, get_or_from_slice_get}
use Rattle.dw_base.specs.declared.fault.Span.{Span}
use Rattle.dw_base.specs.declared.fault.Reach.TheVariants.{Wide}
use Rattle.elf_sections.specs.Elf.{section_count, names_index, header_at, kind_of, offset_of, size_of, has_bytes, is_loaded, body_of, body_span, is_movable, fixed_end_of, section_end}
use Rattle.elf_sections.specs.Names.{name_of, is_written}
use Rattle.elf_sections.specs.Faults.{IsRead}
use Rattle.elf_sections.specs.inside.Faults.{HasTables}
use Rattle.elf_sections.proofs.FixedEnd.{fixed_end-within, fixed_end-header}
use Rattle.elf_place.specs.Same.{KeepsLoaded, KeepsHeaders, SameImage}
use Rattle.elf_place.proofs.NumberLaws.{number_at-shift}
use Rattle.same_meaning.specs.Kept.{IsLoadedByte, HasByte, DiffersOutside, HasOtherField, HasOtherPlace, HasOtherBody}
use Rattle.same_meaning.proofs.Stable.{stable_nat, stable_list, stable_option}
use Rattle.same_meaning.proofs.ByteParts.{same_part}

-- one of the first sections has a byte, or none has it
some_section : (file : List ℕ) (k n : ℕ) → ((i : ℕ) × (i < n) × HasByte file i k) ⊎ ((i : ℕ) → i < n → HasByte file i k → ⊥)
some_section file k zero = inr (λ i below has. absurd (omega arith))
some_section file k (suc n) = elim (some_section file k n) [
  | inl (i, below, has) ↦ inl (i, omega arith, has)
  | inr none ↦ last (cases_lt k (body_span file n).at) (cases_lt k ((body_span file n).at + (body_span file n).len)) none
]
  where
    all : ((i : ℕ) → i < n → HasByte file i k → ⊥) → (HasByte file n k → ⊥) → (i : ℕ) → i < suc n → HasByte file i k → ⊥
    all none here i below has = elim (cases_lt i n) [
      | inl under ↦ none i under has
      | inr at ↦ let e : i ≡ n = omega arith in here (subst (λ (j : ℕ). HasByte file j k) e has)
    ]

    last : (k < (body_span file n).at) ⊎ ((body_span file n).at ≤ k) → (k < (body_span file n).at + (body_span file n).len) ⊎ ((body_span file n).at + (body_span file n).len ≤ k) → ((i : ℕ) → i < n → HasByte file i k → ⊥) → ((i : ℕ) × (i < suc n) × HasByte file i k) ⊎ ((i : ℕ) → i < suc n → HasByte file i k → ⊥)
    last (inl before) end none = inr (all none (λ has. let high = has.0 in absurd (omega arith)))
    last (inr high) (inl low) none = inl (n, omega arith, (high, low))
    last (inr high) (inr behind) none = inr (all none (λ has. let low = has.1 in absurd (omega arith)))

tables : (file : List ℕ) → IsRead file Wide → HasTables file
tables file read = record { header = read.elf.0; small = read.small; whole = read.whole }

-- the body of a section that has a byte is a part of the file
abbrev span_by : Bool → ℕ → ℕ → Span
span_by bytes offset size = if bytes then record { at = offset; len = size } else record { at = 0; len = 0 }

has_some : (bytes : Bool) (offset size k : ℕ) → (span_by bytes offset size).at ≤ k → k < (span_by bytes offset size).at + (span_by bytes offset size).len → (bytes ≡ true) × (offset ≤ k) × (k < offset + size)
has_some true offset size k high low = (refl, high, low)
has_some false offset size k high low = absurd (omega arith)

module _ (file : List ℕ) (read : IsRead file Wide) (i k : ℕ) (inside : i < section_count file) (has : HasByte file i k) where
  held : (has_bytes file i ≡ true) × (offset_of file i ≤ k) × (k < offset_of file i + size_of file i)
  held = has_some (has_bytes file i) (offset_of file i) (size_of file i) k has.0 has.1

  -- what begins below the fixed end isn't movable
  stays : k < fixed_end_of file → is_movable file i ≡ false
  stays below =
      let high = held.1 in
      and_right (has_bytes file i && not (is_loaded file i)) (leb (fixed_end_of file) (offset_of file i)) (lt-leb (fixed_end_of file) (offset_of file i) (omega arith))

  -- and so isn't written anew
  kept : k < fixed_end_of file → is_written (name_of file i) ≡ false
  kept below = elim (and_cases (is_written (name_of file i)) (not (is_movable file i) || eqb i (names_index file)) (read.sound.sections i inside).placed) [
    | inl other ↦ other
    | inr placed ↦
        let moves = not-false (is_movable file i) (or_parts (not (is_movable file i)) (eqb i (names_index file)) placed).0 in
        absurd (both_ways (is_movable file i) (stays below) moves)
  ]

-- the body of a section with bytes, as a part of the file
body_is : (file : List ℕ) (i : ℕ) → has_bytes file i ≡ true → body_of file i ≡ slice_range file (offset_of file i) (offset_of file i + size_of file i)
body_is file i has = rw has refl

end_is : (file : List ℕ) (i : ℕ) → has_bytes file i ≡ true → section_end file i ≡ offset_of file i + size_of file i
end_is file i has = rw has refl

-- a byte of the header of a section that isn't of its offset or its size
abbrev pub IsField : ℕ → Type 0
IsField k = (k < 24) ⊎ (40 ≤ k)

module _ (a b : List ℕ) (ra : IsRead a Wide) (rb : IsRead b Wide) (count : section_count b ≡ section_count a) where
  section : (i : ℕ) → i < section_count a → i < section_count b
  section i inside = omega arith

  -- the bytes of a section of which nothing differs
  module _ (i : ℕ) (inside : i < section_count a) (field : HasOtherField a b i → ⊥) (place : HasOtherPlace a b i → ⊥) (body : HasOtherBody a b i → ⊥) where
    pub field_same : (k : ℕ) → IsField k → k < 64 → slice_index b (header_at b i + k) ≡ slice_index a (header_at a i + k)
    field_same k is low = stable_nat _ _ (λ differ. field (record { k = k; inside = low; field = is; other = differ }))

    pub offset_same : is_movable a i ≡ false → offset_of b i ≡ offset_of a i
    offset_same stay = stable_nat _ _ (λ differ. place (stay, inl differ))

    pub size_same : is_movable a i ≡ false → size_of b i ≡ size_of a i
    size_same stay = stable_nat _ _ (λ differ. place (stay, inr differ))

    pub body_same : is_written (name_of a i) ≡ false → body_of b i ≡ body_of a i
    body_same keep = stable_list stable_nat _ _ (λ differ. body (keep, differ))

    kind_same : kind_of b i ≡ kind_of a i
    kind_same = number_at-shift 4 (header_at b i + 4) (header_at a i + 4) b a (λ k low.
        let e : header_at b i + 4 + k ≡ header_at b i + (4 + k) = omega arith in
        let f : header_at a i + (4 + k) ≡ header_at a i + 4 + k = omega arith in
        ap (slice_index b) e ∙ field_same (4 + k) (inl (omega arith)) (omega arith) ∙ ap (slice_index a) f)

    has_same : has_bytes b i ≡ has_bytes a i
    has_same = ap (λ (z : ℕ). not (eqb z 0) && not (eqb z 8)) kind_same

    byte_same : (k : ℕ) → k < fixed_end_of a → HasByte a i k → (slice_index b k ≡ slice_index a k) × (k < length b)
    byte_same k below has =
        let (full, high, low) = held a ra i k inside has in
        let stay = stays a ra i k inside has below in
        let offset = offset_same stay in
        let size = size_same stay in
        let there : has_bytes b i ≡ true = has_same ∙ full in
        let end = rb.whole.sections i (section i inside) in
        let is = end_is b i there in
        let parts : slice_range a (offset_of a i) (offset_of a i + size_of a i) ≡ slice_range b (offset_of a i) (offset_of a i + size_of a i) =
        sym (body_is a i full) ∙ sym (body_same (kept a ra i k inside has below)) ∙ body_is b i there ∙ ap (λ (z : ℕ). slice_range b z (z + size_of b i)) offset ∙ ap (λ (z : ℕ). slice_range b (offset_of a i) (offset_of a i + z)) size in
        (sym (same_part a b (offset_of a i) (offset_of a i + size_of a i) k parts high low), omega arith)

  -- NOTHING DIFFERS

  module _ (outside : DiffersOutside a b → ⊥) (names : (i : ℕ) → i < section_count a → name_of b i ≢ name_of a i → ⊥) (fields : (i : ℕ) → i < section_count a → HasOtherField a b i → ⊥) (places : (i : ℕ) → i < section_count a → HasOtherPlace a b i → ⊥) (bodies : (i : ℕ) → i < section_count a → HasOtherBody a b i → ⊥) where
    byte_loaded : (k : ℕ) → IsLoadedByte a k → (slice_index b k ≡ slice_index a k) × (k < length b)
    byte_loaded k loaded = elim (some_section a k (section_count a)) [
      | inl (i, inside, has) ↦ byte_same i inside (fields i inside) (places i inside) (bodies i inside) k loaded.0 has
      | inr none ↦
          let same : slice_get b k ≡ slice_get a k = stable_option stable_nat (slice_get b k) (slice_get a k) (λ differ. outside (record { k = k; loaded = loaded; outside = none; other = differ })) in
          let within = fixed_end-within a (tables a ra) in
          let below = loaded.0 in
          let there : slice_get b k ≡ Some (slice_index a k) = same ∙ slice_get-get_or a k 0 (omega arith) in
          (get_or_from_slice_get b k (slice_index a k) 0 there, slice_get_within b k (slice_index a k) there)
    ]

    keeps_loaded : KeepsLoaded a b
    keeps_loaded =
        let least = fixed_end-header a (tables a ra) in
        let last : fixed_end_of a - 1 < length b = (byte_loaded (fixed_end_of a - 1) (omega arith, inr (omega arith))).1 in
        record { inside = omega arith; bytes = λ k below is. (byte_loaded k (below, is)).0 }

    keeps_headers : KeepsHeaders a b
    keeps_headers = record {
      count = count;
      inside = λ some. subst (λ (n : ℕ). header_at b n ≤ length b) count (rb.whole.section_table.inside (λ none. some (sym count ∙ none)));
      fields = λ i k inside is low. field_same i inside (fields i inside) (places i inside) (bodies i inside) k is low;
      offsets = λ i inside stay. offset_same i inside (fields i inside) (places i inside) (bodies i inside) stay;
      sizes = λ i inside stay. size_same i inside (fields i inside) (places i inside) (bodies i inside) stay;
    }

    pub image_same : SameImage (λ (i : ℕ). is_written (name_of a i)) a b
    image_same = record {
      loaded = keeps_loaded;
      headers = keeps_headers;
      names = λ i inside. stable_list stable_nat _ _ (names i inside);
      bodies = λ i inside keep. body_same i inside (fields i inside) (places i inside) (bodies i inside) keep;
    }

-- THE SAME IMAGE

module _ (a b : List ℕ) (ra : IsRead a Wide) (same : SameImage (λ (i : ℕ). is_written (name_of a i)) a b) where
  pub none_outside : DiffersOutside a b → ⊥
  none_outside d =
      let within = fixed_end-within a (tables a ra) in
      let below = d.loaded.0 in
      let inside = same.loaded.inside in
      d.other (slice_get-get_or b d.k 0 (omega arith) ∙ ap Some (same.loaded.bytes d.k below d.loaded.1) ∙ sym (slice_get-get_or a d.k 0 (omega arith)))

  pub none_field : (i : ℕ) → i < section_count a → HasOtherField a b i → ⊥
  none_field i inside d = d.other (same.headers.fields i d.k inside d.field d.inside)

  pub none_place : (i : ℕ) → i < section_count a → HasOtherPlace a b i → ⊥
  none_place i inside (stay, inl differ) = differ (same.headers.offsets i inside stay)
  none_place i inside (stay, inr differ) = differ (same.headers.sizes i inside stay)

  pub none_body : (i : ℕ) → i < section_count a → HasOtherBody a b i → ⊥
  none_body i inside (keep, differ) = differ (same.bodies i inside keep)
