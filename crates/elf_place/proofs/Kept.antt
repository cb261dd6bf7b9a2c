-- What is the same in two files that have the same loaded bytes and the same headers.
use Rattle.std.proofs.Common.{◌≡◌, ◌≢◌, ◌≤◌, ◌<◌, ◌+◌, ◌*◌, ◌⊎◌, ℕ, max, List, Bool, true, false, cond, not, ◌&&◌, eqb, leb, refl, sym, ◌∙◌, ap, arith, inl, inr}
use Rattle.std.specs.Prelude.{IsFalse, slice_index, bit_and}
use Rattle.std.proofs.lemmas.Bool.{cases_Bool, and_left, and_right, ne_eqb}
use Rattle.dw_base.specs.declared.fault.Reach.TheVariants.{Wide}
use Rattle.elf_sections.specs.Numbers.{number_at}
use Rattle.elf_sections.specs.Elf.{section_count, header_at, segment_count, segments_at, segment_at, segments_end, segment_end, section_end, loaded_end, greatest, fixed_end_of, name_offset, kind_of, flags_of, info_of, offset_of, size_of, align_of, has_bytes, is_loaded, is_movable}
use Rattle.elf_sections.specs.Faults.{IsRead}
use Rattle.elf_place.specs.Same.{KeepsLoaded, KeepsHeaders}
use Rattle.elf_place.proofs.NumberLaws.{number_at-same, number_at-shift}
use Rattle.elf_place.proofs.ReadLaws.{fixed_end_of-some, segments_end-below, segments-apart, greatest-same}

-- the fields of a section's header
module _ (file new : List ℕ) (headers : KeepsHeaders file new) where
  number-kept : (n i p : ℕ) → i < section_count file → (p + n ≤ 24) ⊎ (40 ≤ p) → p + n ≤ 64 → number_at n (header_at new i + p) new ≡ number_at n (header_at file i + p) file
  number-kept n i p lt place low =
      number_at-shift n (header_at new i + p) (header_at file i + p) new file (λ k inside.
      let first : header_at new i + p + k ≡ header_at new i + (p + k) = omega arith in
      let second : header_at file i + (p + k) ≡ header_at file i + p + k = omega arith in
      let field = headers.fields i (p + k) lt (elim place [ inl below ↦ inl (omega arith) | inr above ↦ inr (omega arith) ]) (omega arith) in
      ap (slice_index new) first ∙ field ∙ ap (slice_index file) second)

  pub name_offset-kept : (i : ℕ) → i < section_count file → name_offset new i ≡ name_offset file i
  name_offset-kept i lt =
      let zero_place : (f : List ℕ) → header_at f i + 0 ≡ header_at f i = λ f. omega arith in
      ap (λ (n : ℕ). number_at 4 n new) (sym (zero_place new)) ∙ number-kept 4 i 0 lt (inl (omega arith)) (omega arith) ∙ ap (λ (n : ℕ). number_at 4 n file) (zero_place file)

  pub kind-kept : (i : ℕ) → i < section_count file → kind_of new i ≡ kind_of file i
  kind-kept i lt = number-kept 4 i 4 lt (inl (omega arith)) (omega arith)

  pub flags-kept : (i : ℕ) → i < section_count file → flags_of new i ≡ flags_of file i
  flags-kept i lt = number-kept 8 i 8 lt (inl (omega arith)) (omega arith)

  pub info-kept : (i : ℕ) → i < section_count file → info_of new i ≡ info_of file i
  info-kept i lt = number-kept 4 i 44 lt (inr (omega arith)) (omega arith)

  pub align-kept : (i : ℕ) → i < section_count file → align_of new i ≡ align_of file i
  align-kept i lt = number-kept 8 i 48 lt (inr (omega arith)) (omega arith)

  pub has_bytes-kept : (i : ℕ) → i < section_count file → has_bytes new i ≡ has_bytes file i
  has_bytes-kept i lt = ap (λ (kind : ℕ). not (eqb kind 0) && not (eqb kind 8)) (kind-kept i lt)

  pub is_loaded-kept : (i : ℕ) → i < section_count file → is_loaded new i ≡ is_loaded file i
  is_loaded-kept i lt = ap (λ (flags : ℕ). not (eqb (bit_and flags 2) 0)) (flags-kept i lt)

  -- where a section ends that isn't movable
  pub section_end-kept : (i : ℕ) → i < section_count file → IsFalse (is_movable file i) → section_end new i ≡ section_end file i
  section_end-kept i lt stays =
      let sum : offset_of new i + size_of new i ≡ offset_of file i + size_of file i = omega (arith, headers.offsets i lt stays, headers.sizes i lt stays) in
      ap (λ (b : Bool). cond b (offset_of new i + size_of new i) 0) (has_bytes-kept i lt) ∙ ap (λ (n : ℕ). cond (has_bytes file i) n 0) sum

  loaded_end-kept : (i : ℕ) → i < section_count file → loaded_end new i ≡ loaded_end file i
  loaded_end-kept i lt =
      elim (cases_Bool (is_loaded file i)) [
        | inl loaded ↦
            let stays : is_movable file i ≡ false = and_left (has_bytes file i && not (is_loaded file i)) (leb (fixed_end_of file) (offset_of file i)) (and_right (has_bytes file i) (not (is_loaded file i)) (ap not loaded)) in
            let loaded_new : is_loaded new i ≡ true = is_loaded-kept i lt ∙ loaded in
            rw (loaded_new, loaded) (section_end-kept i lt stays)
        | inr unloaded ↦
            let unloaded_new : is_loaded new i ≡ false = is_loaded-kept i lt ∙ unloaded in
            rw (unloaded_new, unloaded) refl
      ]

-- the fields of the file's header, and the other numbers below the fixed end
module _ (file new : List ℕ) (loaded : KeepsLoaded file new) where
  pub front-number : (n p : ℕ) → p + n ≤ fixed_end_of file → (p + n ≤ 40) ⊎ (48 ≤ p) → number_at n p new ≡ number_at n p file
  front-number n p inside place =
      number_at-same n p new file (λ k from to. loaded.bytes k (omega arith) (elim place [ inl below ↦ inl (omega arith) | inr above ↦ inr (omega arith) ]))

  pub segment_count-kept : 64 ≤ fixed_end_of file → segment_count new ≡ segment_count file
  segment_count-kept large = front-number 2 56 (omega arith) (inr (omega arith))

  pub segments_at-kept : 64 ≤ fixed_end_of file → segments_at new ≡ segments_at file
  segments_at-kept large = front-number 8 32 (omega arith) (inl (omega arith))

  pub segments_end-kept : 64 ≤ fixed_end_of file → segments_end new ≡ segments_end file
  segments_end-kept large =
      ap (λ (c : ℕ). cond (eqb c 0) 0 (segments_at new + 56 * c)) (segment_count-kept large)
      ∙ ap (λ (a : ℕ). cond (eqb (segment_count file) 0) 0 (a + 56 * segment_count file)) (segments_at-kept large)

-- where the segments and the loaded sections end
module _ (file new : List ℕ) (read : IsRead file Wide) (some : section_count file ≢ 0) (loaded : KeepsLoaded file new) (headers : KeepsHeaders file new) where
  large : 64 ≤ fixed_end_of file
  large = rw (fixed_end_of-some file some) (omega arith)

  segment-number : (i p : ℕ) → i < segment_count file → p + 8 ≤ 56 → number_at 8 (segment_at new i + p) new ≡ number_at 8 (segment_at file i + p) file
  segment-number i p lt low =
      let present : segment_count file ≢ 0 = λ e. omega arith in
      let is : segments_end file ≡ segment_at file (segment_count file) = rw (ne_eqb (segment_count file) 0 present) refl in
      let below = segments_end-below file read some in
      let at = segments_at-kept file new loaded large in
      number_at-shift 8 (segment_at new i + p) (segment_at file i + p) new file (λ k inside.
      let e : segment_at new i + p + k ≡ segment_at file i + p + k = omega (arith, at) in
      ap (slice_index new) e ∙ loaded.bytes (segment_at file i + p + k) (omega (arith, is, below)) (segments-apart file read some (segment_at file i + p + k) present (omega arith) (omega (arith, is))))

  pub segment_end-kept : (i : ℕ) → i < segment_count file → segment_end new i ≡ segment_end file i
  segment_end-kept i lt =
      let offset = segment-number i 8 lt (omega arith) in
      let size = segment-number i 32 lt (omega arith) in
      ap (λ (n : ℕ). n + number_at 8 (segment_at new i + 32) new) offset ∙ ap (λ (n : ℕ). number_at 8 (segment_at file i + 8) file + n) size

  pub fixed_end_of-kept : fixed_end_of new ≡ fixed_end_of file
  fixed_end_of-kept =
      let some_new : section_count new ≢ 0 = λ e. some (sym headers.count ∙ e) in
      let ends : segments_end new ≡ segments_end file = segments_end-kept file new loaded large in
      let segments : greatest (segment_end new) (segment_count new) ≡ greatest (segment_end file) (segment_count file) =
      ap (greatest (segment_end new)) (segment_count-kept file new loaded large) ∙ greatest-same (segment_end new) (segment_end file) (segment_count file) segment_end-kept in
      let sections : greatest (loaded_end new) (section_count new) ≡ greatest (loaded_end file) (section_count file) =
      ap (greatest (loaded_end new)) headers.count ∙ greatest-same (loaded_end new) (loaded_end file) (section_count file) (loaded_end-kept file new headers) in
      fixed_end_of-some new some_new
      ∙ ap (λ (n : ℕ). max (max 64 n) (max (greatest (segment_end new) (segment_count new)) (greatest (loaded_end new) (section_count new)))) ends
      ∙ ap (λ (n : ℕ). max (max 64 (segments_end file)) (max n (greatest (loaded_end new) (section_count new)))) segments
      ∙ ap (λ (n : ℕ). max (max 64 (segments_end file)) (max (greatest (segment_end file) (segment_count file)) n)) sections
      ∙ sym (fixed_end_of-some file some)
