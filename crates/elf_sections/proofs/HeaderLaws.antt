-- Fields that are read back from the bytes that spell them.
use Rattle.std.proofs.Common.{◌≡◌, ◌≤◌, ◌<◌, ◌+◌, ◌-◌, ◌^◌, ℕ, zero, suc, List, [], ◌∷◌, take, drop, get_or, length, slice_range, refl, sym, ◌∙◌, ap, arith}
use Rattle.std.specs.Prelude.{slice_index}
use Rattle.std.specs.Int.{bytes_low_first}
use Rattle.std.proofs.lemmas.List.{get_or-drop, get_or-take, drop_at, drop-drop}
use Rattle.byteorder.specs.Endian.{little_from}
use Rattle.byteorder.specs.Numbers.{little_number-reads_back, length-bytes_low_first}
use Rattle.elf_sections.specs.Numbers.{number_at}
use Rattle.elf_sections.specs.Elf.{segment_at, header_at}
use Rattle.elf_sections.specs.Headers.{Field, DoFit, spelled, file_fields, segment_fields, section_fields, ReadsFileHeaders, ReadsSegmentHeaders, ReadsSectionHeaders}

-- the same bytes are the same number
pub little_from-same : (i n : ℕ) (xs ys : List ℕ) → ((k : ℕ) → i ≤ k → k < i + n → slice_index xs k ≡ slice_index ys k) → little_from i n xs ≡ little_from i n ys
little_from-same i zero xs ys same = refl
little_from-same i (suc n) xs ys same =
    let here : slice_index xs i ≡ slice_index ys i = same i (omega arith) (omega arith) in
    let rest : little_from (suc i) n xs ≡ little_from (suc i) n ys = little_from-same (suc i) n xs ys (λ k low high. same k (omega arith) (omega arith)) in
    rw (here, rest) refl

-- a number in a part of a file
number_at-range : (n p from to : ℕ) (xs : List ℕ) → from + p + n ≤ to → number_at n p (slice_range xs from to) ≡ number_at n (from + p) xs
unfolding number_at
number_at-range n p from to xs inside =
    little_from-same 0 n (drop p (slice_range xs from to)) (drop (from + p) xs) (λ k low high.
    let e : from + (p + k) ≡ from + p + k = omega arith in
    get_or-drop p (slice_range xs from to) k 0
    ∙ get_or-take (to - from) (drop from xs) (p + k) 0 (omega arith)
    ∙ get_or-drop from xs (p + k) 0
    ∙ ap (λ (j : ℕ). get_or xs j 0) e
    ∙ sym (get_or-drop (from + p) xs k 0))

-- the first field is read back, and a later one where it stands
first : (f : Field) (fs : List Field) → f.1 < 256 ^ f.0 → number_at f.0 0 (spelled (f ∷ fs)) ≡ f.1
unfolding number_at
first f fs fits = little_number-reads_back f.0 f.1 (spelled fs) fits

later : (f : Field) (fs : List Field) (n p : ℕ) → number_at n (f.0 + p) (spelled (f ∷ fs)) ≡ number_at n p (spelled fs)
unfolding number_at
later f fs n p =
    ap (little_from 0 n) (sym (drop-drop p f.0 (spelled (f ∷ fs))) ∙ ap (drop p) (drop_at (bytes_low_first 0 f.0 f.1) (spelled fs) f.0 (length-bytes_low_first 0 f.0 f.1)))

-- the bytes of all of these fields
abbrev pub width : List Field → ℕ
width [] = 0
width (f ∷ fs) = f.0 + width fs

-- a field of a list
abbrev pub field : List Field → ℕ → Field
field fs k = get_or fs k (0, 0)

field_is : (k : ℕ) (fs : List Field) → DoFit fs → k < length fs → number_at (field fs k).0 (width (take k fs)) (spelled fs) ≡ (field fs k).1
field_is k [] f h = absurd (omega arith)
field_is zero (x ∷ fs) f h = first x fs f.0
field_is (suc k) (x ∷ fs) f h =
    later x fs (field fs k).0 (width (take k fs)) ∙ field_is k fs f.1 (omega arith)

-- the fields of bytes that stand in a file
module _ (file : List ℕ) (from to : ℕ) (fs : List Field) (fit : DoFit fs) (there : slice_range file from to ≡ spelled fs) where
  held : (k q : ℕ) → k < length fs → q ≡ from + width (take k fs) → from + width (take k fs) + (field fs k).0 ≤ to → number_at (field fs k).0 q file ≡ (field fs k).1
  held k q below place inside =
      rw place (sym (number_at-range (field fs k).0 (width (take k fs)) from to file inside) ∙ ap (number_at (field fs k).0 (width (take k fs))) there ∙ field_is k fs fit below)

pub file_headers : ReadsFileHeaders
file_headers file h fit there =
    let get = held file 16 64 (file_fields h) fit there in
    record {
      type_is = get 0 16 (omega arith) (omega arith) (omega arith);
      segments_are = get 4 32 (omega arith) refl (omega arith);
      sections_are = get 5 40 (omega arith) refl (omega arith);
      segment_size_is = get 8 54 (omega arith) refl (omega arith);
      segment_count_is = get 9 56 (omega arith) refl (omega arith);
      section_size_is = get 10 58 (omega arith) refl (omega arith);
      section_count_is = get 11 60 (omega arith) refl (omega arith);
      names_are = get 12 62 (omega arith) refl (omega arith);
    }

pub segment_headers : ReadsSegmentHeaders
segment_headers file i h fit there =
    let at = segment_at file i in
    let get = held file at (at + 56) (segment_fields h) fit there in
    let offset : number_at 8 (at + 8) file ≡ h.p_offset = get 2 (at + 8) (omega arith) refl (omega arith) in
    let size : number_at 8 (at + 32) file ≡ h.p_filesz = get 5 (at + 32) (omega arith) refl (omega arith) in
    rw (offset, size) refl

pub section_headers : ReadsSectionHeaders
section_headers file i h fit there =
    let at = header_at file i in
    let get = held file at (at + 64) (section_fields h) fit there in
    record {
      name_is = get 0 at (omega arith) (omega arith) (omega arith);
      kind_is = get 1 (at + 4) (omega arith) refl (omega arith);
      flags_are = get 2 (at + 8) (omega arith) refl (omega arith);
      offset_is = get 4 (at + 24) (omega arith) refl (omega arith);
      size_is = get 5 (at + 32) (omega arith) refl (omega arith);
      link_is = get 6 (at + 40) (omega arith) refl (omega arith);
      info_is = get 7 (at + 44) (omega arith) refl (omega arith);
      align_is = get 8 (at + 48) (omega arith) refl (omega arith);
    }
