-- Parts of lists, byte by byte.
use Rattle.std.proofs.Common.{◌≡◌, ◌≤◌, ◌<◌, ◌+◌, ◌-◌, ◌*◌, ◌++◌, ℕ, zero, suc, List, [], length, take, drop, refl, sym, ◌∙◌, ap, arith, inl, inr, replicate}
use Rattle.std.specs.Prelude.{slice_index, slice_range}
use Rattle.std.proofs.lemmas.Bool.{cases_lt}
use Rattle.std.proofs.lemmas.List.{length-append, length-replicate, get_or-take, get_or-drop, get_or-replicate, get_or_append_left, get_or-append_right, ext_get_or, drop_all, append-nil, take_all}
use Rattle.elf_sections.specs.Elf.{header_at, header_of}
use Rattle.elf_sections.proofs.TextLaws.{length_range}
use Rattle.elf_place.specs.inside.Spots.{filled, headers_of}

pub get_or-range : (xs : List ℕ) (from to k : ℕ) → k < to - from → slice_index (slice_range xs from to) k ≡ slice_index xs (from + k)
get_or-range xs from to k lt = get_or-take (to - from) (drop from xs) k 0 lt ∙ get_or-drop from xs k 0

-- the same part of two lists
pub same_ranges : (xs ys : List ℕ) (from to : ℕ) → from ≤ to → to ≤ length xs → to ≤ length ys → ((k : ℕ) → from ≤ k → k < to → slice_index xs k ≡ slice_index ys k) → slice_range xs from to ≡ slice_range ys from to
same_ranges xs ys from to order first second same =
    let of_x : length (slice_range xs from to) ≡ to - from = length_range xs from to order first in
    let of_y : length (slice_range ys from to) ≡ to - from = length_range ys from to order second in
    ext_get_or 0 (slice_range xs from to) (slice_range ys from to) (of_x ∙ sym of_y) (λ k lt.
    get_or-range xs from to k (omega arith) ∙ same (from + k) (omega arith) (omega arith) ∙ sym (get_or-range ys from to k (omega arith)))

-- a list that stands in another
pub range-is : (xs part : List ℕ) (from : ℕ) → from + length part ≤ length xs → ((k : ℕ) → k < length part → slice_index xs (from + k) ≡ slice_index part k) → slice_range xs from (from + length part) ≡ part
range-is xs part from within same =
    let e : from + length part - from ≡ length part = omega arith in
    let size : length (slice_range xs from (from + length part)) ≡ length part = length_range xs from (from + length part) (omega arith) within ∙ e in
    ext_get_or 0 (slice_range xs from (from + length part)) part size (λ k lt.
    get_or-range xs from (from + length part) k (omega arith) ∙ same k (omega arith))

-- zeros up to a place
pub length-filled : (out : List ℕ) (at : ℕ) → length out ≤ at → length (filled out at) ≡ at
length-filled out at le = rw (length-append, length-replicate) (omega arith)

pub filled-front : (out : List ℕ) (at k : ℕ) → k < length out → slice_index (filled out at) k ≡ slice_index out k
filled-front out at k lt = get_or_append_left out (replicate (at - length out) 0) 0 k lt

pub filled-gap : (out : List ℕ) (at k : ℕ) → length out ≤ k → k < at → slice_index (filled out at) k ≡ 0
filled-gap out at k le lt =
    get_or-append_right out (replicate (at - length out) 0) (length out) k 0 refl le ∙ get_or-replicate (at - length out) (k - length out) 0 0 (omega arith)

-- the table of the headers
pub length-headers_of : (file : List ℕ) (n : ℕ) → header_at file n ≤ length file → length (headers_of file n) ≡ 64 * n
length-headers_of file zero within = refl
length-headers_of file (suc n) within =
    let before = length-headers_of file n (omega arith) in
    let one : length (header_of file n) ≡ header_at file n + 64 - header_at file n = length_range file (header_at file n) (header_at file n + 64) (omega arith) (omega arith) in
    rw length-append (omega arith)

pub get_or-headers_of : (file : List ℕ) (n i k : ℕ) → header_at file n ≤ length file → i < n → k < 64 → slice_index (headers_of file n) (64 * i + k) ≡ slice_index file (header_at file i + k)
get_or-headers_of file zero i k within lt low = absurd (omega arith)
get_or-headers_of file (suc n) i k within lt low =
    let size : length (headers_of file n) ≡ 64 * n = length-headers_of file n (omega arith) in
    elim (cases_lt i n) [
      | inl before ↦
          get_or_append_left (headers_of file n) (header_of file n) 0 (64 * i + k) (omega arith) ∙ get_or-headers_of file n i k (omega arith) before low
      | inr last ↦
          let e : i ≡ n = omega arith in
          let place : 64 * n + k - 64 * n ≡ k = omega arith in
          rw e (get_or-append_right (headers_of file n) (header_of file n) (64 * n) (64 * n + k) 0 size (omega arith) ∙ ap (slice_index (header_of file n)) place ∙ get_or-range file (header_at file n) (header_at file n + 64) k (omega arith))
    ]

-- a Vec whose items were written as a slice
pub written_whole : (len : ℕ) (ys items : List ℕ) → length ys ≡ length items → len ≡ length items → take len (ys ++ drop (length ys) items) ≡ ys
written_whole len ys items same full =
    let none : drop (length ys) items ≡ [] = drop_all (length ys) items (omega arith) in
    ap (λ zs. take len (ys ++ zs)) none ∙ ap (take len) (append-nil ys) ∙ take_all len ys (omega arith)
