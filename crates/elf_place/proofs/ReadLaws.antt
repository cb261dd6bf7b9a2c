-- What holds of a file that was read.
use Rattle.std.proofs.Common.{◌≡◌, ◌≢◌, ◌≤◌, ◌<◌, ◌+◌, ◌⊎◌, ℕ, zero, suc, min, max, List, [], ◌∷◌, Bool, true, false, cond, ◌&&◌, eqb, ltb, leb, length, refl, arith, inl, inr}
use Rattle.std.specs.Prelude.{IsTrue, IsFalse}
use Rattle.std.proofs.lemmas.Bool.{cases_Bool, cases_lt, ne_eqb, and_cases, or_parts, leb-false, eqb-false, ltb-false, lt-ltb, both_ways, and_left}
use Rattle.std.proofs.lemmas.List.{length-take, length-drop}
use Rattle.std.proofs.lemmas.List.Sums.{sum_by-cons}
use Rattle.dw_base.specs.declared.fault.Reach.TheVariants.{Wide}
use Rattle.elf_sections.specs.Elf.{section_count, segment_count, segments_at, segments_end, segment_end, section_end, loaded_end, greatest, has_no_sections, fixed_end_of, offset_of, size_of, align_of, has_bytes, is_loaded, is_movable, body_of}
use Rattle.elf_sections.specs.Faults.{IsRead, holds_e_shoff}
use Rattle.elf_sections.proofs.FixedEnd.{greatest-above, greatest-within}
use Rattle.elf_place.specs.declared.bodies.NewBody.{NewBody}
use Rattle.elf_place.specs.Bodies.{body_after, bytes_of}

-- the fixed end of a file with sections
pub fixed_end_of-some : (file : List ℕ) → section_count file ≢ 0 → fixed_end_of file ≡ max (max 64 (segments_end file)) (max (greatest (segment_end file) (segment_count file)) (greatest (loaded_end file) (section_count file)))
fixed_end_of-some file some =
    let none : has_no_sections file ≡ false = and_left (eqb (section_count file) 0) _ (ne_eqb (section_count file) 0 some) in
    rw none refl

pub greatest-same : (f g : ℕ → ℕ) (n : ℕ) → ((i : ℕ) → i < n → f i ≡ g i) → greatest f n ≡ greatest g n
greatest-same f g zero same = refl
greatest-same f g (suc n) same =
    let before : greatest f n ≡ greatest g n = greatest-same f g n (λ i lt. same i (omega arith)) in
    let last : f n ≡ g n = same n (omega arith) in
    rw (before, last) refl

loaded_below : (file : List ℕ) (i : ℕ) (loaded : Bool) → section_end file i ≤ length file → cond loaded (section_end file i) 0 ≤ length file
loaded_below file i true h = h
loaded_below file i false h = omega arith

module _ (file : List ℕ) (read : IsRead file Wide) (some : section_count file ≢ 0) where
  segments_end-within : segments_end file ≤ length file
  segments_end-within =
      elim (cases_Bool (eqb (segment_count file) 0)) [
        | inl none ↦ rw none (omega arith)
        | inr present ↦ rw present (read.whole.segment_table.inside (eqb-false (segment_count file) 0 present))
      ]

  -- the fixed end lies in the file
  pub fixed_end-within : (64 ≤ fixed_end_of file) × (fixed_end_of file ≤ length file)
  fixed_end-within =
      let segments = greatest-within (segment_end file) (length file) (segment_count file) read.whole.segments in
      let sections = greatest-within (loaded_end file) (length file) (section_count file) (λ i lt. loaded_below file i (is_loaded file i) (read.whole.sections i lt)) in
      rw (fixed_end_of-some file some) (omega arith, omega (arith, segments, sections, segments_end-within, read.elf.0))

  pub segments_end-below : segments_end file ≤ fixed_end_of file
  segments_end-below = rw (fixed_end_of-some file some) (omega arith)

  pub segment_end-below : (i : ℕ) → i < segment_count file → segment_end file i ≤ fixed_end_of file
  segment_end-below i lt =
      let above : segment_end file i ≤ greatest (segment_end file) (segment_count file) = greatest-above (segment_end file) (segment_count file) i lt in
      rw (fixed_end_of-some file some) (omega (arith, above))

  -- a movable section is aligned to few bytes
  pub aligned : (i : ℕ) → i < section_count file → IsTrue (is_movable file i) → align_of file i ≤ 4096
  aligned i lt moves =
      let over = (read.sound.sections i lt).aligned in
      elim (and_cases (is_movable file i) (ltb 4096 (align_of file i)) over) [
        | inl stays ↦ absurd (both_ways (is_movable file i) stays moves)
        | inr small ↦ ltb-false 4096 (align_of file i) small
      ]

  -- a section with bytes that isn't movable ends at the fixed end or before it, and holds no byte of e_shoff
  loaded-inside : (i : ℕ) → i < section_count file → IsTrue (has_bytes file i) → is_loaded file i ≡ true → offset_of file i + size_of file i ≤ fixed_end_of file
  loaded-inside i lt full loaded =
      let above : loaded_end file i ≤ greatest (loaded_end file) (section_count file) = greatest-above (loaded_end file) (section_count file) i lt in
      let is : loaded_end file i ≡ offset_of file i + size_of file i = rw (loaded, full) refl in
      rw (fixed_end_of-some file some) (omega (arith, above, is))

  pub fixed-inside : (i : ℕ) → i < section_count file → IsTrue (has_bytes file i) → IsFalse (is_movable file i) → offset_of file i + size_of file i ≤ fixed_end_of file
  fixed-inside i lt full stays =
      elim (cases_Bool (is_loaded file i)) [
        | inl loaded ↦ loaded-inside i lt full loaded
        | inr unloaded ↦
            let low : leb (fixed_end_of file) (offset_of file i) ≡ false = rw (full, unloaded) at stays in
            let before : offset_of file i < fixed_end_of file = leb-false (fixed_end_of file) (offset_of file i) low in
            let apart = rw full at (read.sound.sections i lt).apart in
            let parts = or_parts (ltb (offset_of file i) (fixed_end_of file) && ltb (fixed_end_of file) (offset_of file i + size_of file i)) (holds_e_shoff (offset_of file i) (offset_of file i + size_of file i)) apart in
            elim (and_cases (ltb (offset_of file i) (fixed_end_of file)) (ltb (fixed_end_of file) (offset_of file i + size_of file i)) parts.0) [
              | inl wrong ↦ absurd (both_ways (ltb (offset_of file i) (fixed_end_of file)) wrong (lt-ltb (offset_of file i) (fixed_end_of file) before))
              | inr right ↦ ltb-false (fixed_end_of file) (offset_of file i + size_of file i) right
            ]
      ]

  pub fixed-apart : (i k : ℕ) → i < section_count file → IsTrue (has_bytes file i) → offset_of file i ≤ k → k < offset_of file i + size_of file i → (k < 40) ⊎ (48 ≤ k)
  fixed-apart i k lt full from to =
      let apart = rw full at (read.sound.sections i lt).apart in
      let parts = or_parts (ltb (offset_of file i) (fixed_end_of file) && ltb (fixed_end_of file) (offset_of file i + size_of file i)) (holds_e_shoff (offset_of file i) (offset_of file i + size_of file i)) apart in
      let clear : min (offset_of file i + size_of file i) 48 ≤ max (offset_of file i) 40 = ltb-false (max (offset_of file i) 40) (min (offset_of file i + size_of file i) 48) parts.1 in
      elim (cases_lt k 40) [
        | inl low ↦ inl low
        | inr middle ↦ elim (cases_lt k 48) [ inl inside ↦ absurd (omega arith) | inr high ↦ inr high ]
      ]

  -- the table of the segments holds no byte of e_shoff
  pub segments-apart : (k : ℕ) → segment_count file ≢ 0 → segments_at file ≤ k → k < segments_end file → (k < 40) ⊎ (48 ≤ k)
  segments-apart k present from to =
      elim (cases_Bool (holds_e_shoff (segments_at file) (segments_end file))) [
        | inl holds ↦ absurd (read.sound.apart (present, holds))
        | inr clear ↦
            let clear_of : min (segments_end file) 48 ≤ max (segments_at file) 40 = ltb-false (max (segments_at file) 40) (min (segments_end file) 48) clear in
            elim (cases_lt k 40) [
              | inl low ↦ inl low
              | inr middle ↦ elim (cases_lt k 48) [ inl inside ↦ absurd (omega arith) | inr high ↦ inr high ]
            ]
      ]

-- the body of a section is no longer than the file
pub length-body_of : (file : List ℕ) (i : ℕ) → length (body_of file i) ≤ length file
length-body_of file i = simp (length-take, length-drop) (omega arith)

pub length-body_after : (file : List ℕ) (bodies : List NewBody) (i limit : ℕ) → length file ≤ limit → bytes_of bodies ≤ limit → length (body_after file bodies i) ≤ limit
length-body_after file [] i limit old new = omega (arith, length-body_of file i)
length-body_after file (body ∷ bodies) i limit old new =
    let split : bytes_of (body ∷ bodies) ≡ length body.bytes.items + bytes_of bodies = sum_by-cons (λ (new : NewBody). length new.bytes.items) body bodies in
    elim (cases_Bool (eqb body.section i)) [
      | inl is ↦ rw is (omega (arith, split))
      | inr isnt ↦ rw isnt (length-body_after file bodies i limit old (omega (arith, split)))
    ]
