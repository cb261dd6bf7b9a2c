-- Where the fixed end stands, and what ends at it or before it.
use Rattle.std.proofs.Common.{◌≡◌, ◌≢◌, ◌≤◌, ◌<◌, ℕ, zero, suc, max, List, Bool, true, false, ◌==◌, if◌then◌else◌, length, inl, inr, arith, zero-le}
use Rattle.std.proofs.lemmas.Bool.{cases_lt}
use Rattle.elf_sections.specs.Elf.{section_count, segment_count, segment_at, segments_end, segment_end, section_end, loaded_end, is_loaded, greatest, fixed_end_of, has_no_sections}
use Rattle.elf_sections.specs.inside.Faults.{HasTables}

pub greatest-within : (f : ℕ → ℕ) (most n : ℕ) → ((k : ℕ) → k < n → f k ≤ most) → greatest f n ≤ most
greatest-within f most zero all = zero-le
greatest-within f most (suc n) all =
    let before : greatest f n ≤ most = greatest-within f most n (λ k below. all k (omega arith)) in
    let last : f n ≤ most = all n (omega arith) in
    omega arith

pub greatest-above : (f : ℕ → ℕ) (n k : ℕ) → k < n → f k ≤ greatest f n
greatest-above f zero k below = absurd (omega arith)
greatest-above f (suc n) k below =
    elim (cases_lt k n) [
      | inl before ↦ let known : f k ≤ greatest f n = greatest-above f n k before in omega arith
      | inr rest ↦ let e : k ≡ n = omega arith in rw e (omega arith)
    ]

-- by whether the file has no sections
chosen-within : (none : Bool) (len end most : ℕ) → len ≤ most → end ≤ most → (if none then len else end) ≤ most
chosen-within true len end most a b = a
chosen-within false len end most a b = b

chosen-above : (none : Bool) (len end least : ℕ) → least ≤ len → least ≤ end → least ≤ (if none then len else end)
chosen-above true len end least a b = a
chosen-above false len end least a b = b

-- the table of the segments, where there is one, ends in the file
segments_end-within : (file : List ℕ) → HasTables file → segments_end file ≤ length file
segments_end-within file t = elim (cases_lt 0 (segment_count file)) [
  | inl some ↦
      let there : segment_count file ≢ 0 = λ e. absurd (omega arith) in
      let inside = t.whole.segment_table.inside there in
      chosen-within (segment_count file == 0) 0 (segment_at file (segment_count file)) (length file) zero-le inside
  | inr none ↦ let e : segment_count file ≡ 0 = omega arith in rw e zero-le
]

loaded_end-within : (file : List ℕ) → HasTables file → (i : ℕ) → i < section_count file → loaded_end file i ≤ length file
loaded_end-within file t i below =
    chosen-within (is_loaded file i) (section_end file i) 0 (length file) (t.whole.sections i below) zero-le

pub fixed_end-within : (file : List ℕ) → HasTables file → fixed_end_of file ≤ length file
fixed_end-within file t =
    let header = t.header in
    let table = segments_end-within file t in
    let segments = greatest-within (segment_end file) (length file) (segment_count file) t.whole.segments in
    let loaded = greatest-within (loaded_end file) (length file) (section_count file) (loaded_end-within file t) in
    chosen-within (has_no_sections file) (length file) (max (max 64 (segments_end file)) (max (greatest (segment_end file) (segment_count file)) (greatest (loaded_end file) (section_count file)))) (length file) (omega arith) (omega arith)

-- what is below the length and below the greatest of the ends is below the fixed end
above : (file : List ℕ) (least : ℕ) → least ≤ length file → least ≤ max (max 64 (segments_end file)) (max (greatest (segment_end file) (segment_count file)) (greatest (loaded_end file) (section_count file))) → least ≤ fixed_end_of file
above file least a b =
    chosen-above (has_no_sections file) (length file) (max (max 64 (segments_end file)) (max (greatest (segment_end file) (segment_count file)) (greatest (loaded_end file) (section_count file)))) least a b

pub fixed_end-header : (file : List ℕ) → HasTables file → 64 ≤ fixed_end_of file
fixed_end-header file t = above file 64 t.header (omega arith)

pub fixed_end-table : (file : List ℕ) → HasTables file → segments_end file ≤ fixed_end_of file
fixed_end-table file t = above file (segments_end file) (segments_end-within file t) (omega arith)

pub fixed_end-segment : (file : List ℕ) → HasTables file → (i : ℕ) → i < segment_count file → segment_end file i ≤ fixed_end_of file
fixed_end-segment file t i below =
    let known = greatest-above (segment_end file) (segment_count file) i below in
    above file (segment_end file i) (t.whole.segments i below) (omega arith)

pub fixed_end-loaded : (file : List ℕ) → HasTables file → (i : ℕ) → i < section_count file → loaded_end file i ≤ fixed_end_of file
fixed_end-loaded file t i below =
    let known = greatest-above (loaded_end file) (section_count file) i below in
    above file (loaded_end file i) (loaded_end-within file t i below) (omega arith)
