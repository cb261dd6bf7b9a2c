-- Fields of the header of a section, as they stand in its 64 bytes and in the file.
use Rattle.std.proofs.Common.{◌≡◌, ◌≢◌, ◌≤◌, ◌<◌, ◌+◌, ◌∙◌, inl, inr, ℕ, List, length, take, drop, get_or, sym, ap, arith}
use Rattle.std.specs.Prelude.{slice_index, slice_range}
use Rattle.std.proofs.lemmas.List.{get_or-drop}
use Rattle.fixed_width.specs.Numbers.{number}
use Rattle.elf_sections.specs.Numbers.{number_at}
use Rattle.elf_sections.specs.Elf.{header_at, header_of}
use Rattle.elf_sections.proofs.HeaderLaws.{little_from-same}
use Rattle.same_meaning.specs.Kept.{HasOtherField}
use Rattle.same_meaning.proofs.ByteParts.{byte_in, same_taken, other_taken, same_dropped, other_dropped}

-- a number in a part of a file
pub number_in : (file : List ℕ) (at size n p : ℕ) → p + n ≤ size → number n (drop p (slice_range file at (at + size))) ≡ number_at n (at + p) file
unfolding number number_at
number_in file at size n p inside =
    little_from-same 0 n (drop p (slice_range file at (at + size))) (drop (at + p) file) (λ k low high.
    let e : at + (p + k) ≡ at + p + k = omega arith in
    get_or-drop p (slice_range file at (at + size)) k 0
    ∙ byte_in file at size (p + k) (omega arith)
    ∙ ap (λ (j : ℕ). get_or file j 0) e
    ∙ sym (get_or-drop (at + p) file k 0))

-- the headers of a section in two files
module _ (a b : List ℕ) (i : ℕ) (before after : List ℕ) (first : before ≡ header_of a i) (size : length before ≡ 64) (second : after ≡ header_of b i) (count : length after ≡ 64) where
  old_byte : (k : ℕ) → k < 64 → slice_index before k ≡ slice_index a (header_at a i + k)
  old_byte k inside = ap (λ (z : List ℕ). slice_index z k) first ∙ byte_in a (header_at a i) 64 k inside

  new_byte : (k : ℕ) → k < 64 → slice_index after k ≡ slice_index b (header_at b i + k)
  new_byte k inside = ap (λ (z : List ℕ). slice_index z k) second ∙ byte_in b (header_at b i) 64 k inside

  abbrev OtherAt : ℕ → Type 0
  OtherAt k = slice_index b (header_at b i + k) ≢ slice_index a (header_at a i + k)

  other_at : (k : ℕ) → k < 64 → slice_index before k ≢ slice_index after k → OtherAt k
  other_at k inside differs same = differs (old_byte k inside ∙ sym same ∙ sym (new_byte k inside))

  same_at : (k : ℕ) → k < 64 → slice_index before k ≡ slice_index after k → OtherAt k → ⊥
  same_at k inside same other = other (sym (new_byte k inside) ∙ sym same ∙ old_byte k inside)

  pub front_differs : take 24 before ≢ take 24 after → HasOtherField a b i
  front_differs differs =
      let (k, low, other) = other_taken before after 24 (size ∙ sym count) differs in
      let inside : k < 64 = omega arith in
      record { k = k; inside = inside; field = inl low; other = other_at k inside other }

  pub back_differs : drop 40 before ≢ drop 40 after → HasOtherField a b i
  back_differs differs =
      let (k, high, low, other) = other_dropped before after 40 (size ∙ sym count) differs in
      let inside : k < 64 = omega arith in
      record { k = k; inside = inside; field = inr high; other = other_at k inside other }

  pub field_differs : take 24 before ≡ take 24 after → drop 40 before ≡ drop 40 after → HasOtherField a b i → ⊥
  field_differs front back d = elim d.field [
    | inl low ↦ same_at d.k d.inside (same_taken before after 24 d.k front low) d.other
    | inr high ↦ same_at d.k d.inside (same_dropped before after 40 d.k back high) d.other
  ]
