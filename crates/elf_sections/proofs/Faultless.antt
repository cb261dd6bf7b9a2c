-- A file that was read has no fault.
use Rattle.std.proofs.Common.{◌≡◌, ◌≤◌, ◌<◌, ℕ, zero, suc, List, Bool, false, inl, inr, arith}
use Rattle.std.proofs.lemmas.Bool.{cases_lt}
use Rattle.dw_base.specs.declared.fault.Kind.{Kind}
use Rattle.dw_base.specs.declared.fault.Kind.TheVariants.{NotElf64, FileType, Torn, Overlap, Compressed, Relocated, TwoSections, Placed, Companion, Limit}
use Rattle.dw_base.specs.declared.fault.Reach.{Reach}
use Rattle.dw_base.specs.declared.fault.Refusal.{Refusal}
use Rattle.dw_base.specs.declared.fault.Refusal.TheVariants.{Refused, NoMemory}
use Rattle.dw_base.specs.Refusals.{IsRefusedFor}
use Rattle.elf_sections.specs.Elf.{IsElf64, section_count}
use Rattle.elf_sections.specs.Faults.{movable_bytes, is_overlapping, is_compressed, is_debug_relocation, is_misplaced, is_companion, is_too_long, is_overaligned, SomeSection, IsHeaderTorn, IsTorn, IsOverlap, IsSecondOfName, IsHeaderTooLarge, IsLimit, ImageFault, ElfFault, HasNoElfFault, HasNoNameFault, HasKnownSections, IsHeaderSmall, IsWhole, IsRead, ImagesAreWhole}
use Rattle.elf_sections.specs.inside.Faults.{NamesElfFault, HasFault, HasFaultAnyway, IsArranged, IsElfSound}

movable-step : (file : List ℕ) (m k : ℕ) → m ≤ k → movable_bytes file m ≤ movable_bytes file k
movable-step file m zero h = let e : m ≡ 0 = omega arith in rw e (omega arith)
movable-step file m (suc k) h =
    elim (cases_lt m (suc k)) [
      | inl below ↦ let before : movable_bytes file m ≤ movable_bytes file k = movable-step file m k (omega arith) in omega arith
      | inr rest ↦ let e : m ≡ suc k = omega arith in rw e (omega arith)
    ]

no_section : (file : List ℕ) (test : ℕ → Bool) (place : ℕ) → ((i : ℕ) → i < section_count file → test i ≡ false) → SomeSection file test place → ⊥
no_section file test place none h =
    let no = none h.0 h.1.0 in
    let yes = h.3 in
    cc

not_header_torn : (file : List ℕ) → IsWhole file → IsHeaderTorn file → ⊥
not_header_torn file w t =
    elim t [
      | inl sizes ↦ elim sizes [ inl h ↦ h.1 (w.section_table.sizes h.0) | inr h ↦ h.1 (w.segment_table.sizes h.0) ]
      | inr more ↦ elim more [
        | inl leaves ↦ elim leaves [
          | inl h ↦ let fits = w.section_table.inside h.0 in let past = h.1 in omega arith
          | inr h ↦ let fits = w.segment_table.inside h.0 in let past = h.1 in omega arith
        ]
        | inr h ↦ let below = w.section_table.names h.0 in let above = h.1 in omega arith
      ]
    ]

not_torn : (file : List ℕ) (place : ℕ) → IsWhole file → IsTorn file place → ⊥
not_torn file place w t =
    elim t [
      | inl h ↦ not_header_torn file w h.1
      | inr more ↦ elim more [
        | inl h ↦ let fits = w.segments h.0 h.1.0 in let past = h.3 in omega arith
        | inr h ↦ elim h.3 [
          | inl past ↦ let fits = w.sections h.0 h.1.0 in omega arith
          | inr unnamed ↦ unnamed (w.named h.0 h.1.0)
        ]
      ]
    ]

not_overlap : (file : List ℕ) (reach : Reach) (place : ℕ) → IsArranged file reach → IsOverlap file place → ⊥
not_overlap file reach place s t =
    elim t [
      | inl h ↦ s.apart h.1
      | inr h ↦ no_section file (is_overlapping file) place (λ i below. (s.sections i below).apart) h
    ]

not_second : (file : List ℕ) (reach : Reach) (place : ℕ) → IsArranged file reach → IsSecondOfName file place → ⊥
not_second file reach place s h = s.distinct h.0 h.1 h.2 h.3.0 h.5 h.6

not_header_large : (file : List ℕ) (reach : Reach) → IsHeaderSmall file reach → IsHeaderTooLarge file reach → ⊥
not_header_large file reach s t =
    elim t [
      | inl h ↦ let small = s.bytes in omega arith
      | inr t1 ↦ elim t1 [
        | inl h ↦ let small = s.sections in omega arith
        | inr t2 ↦ elim t2 [
          | inl h ↦ let small = s.segments in omega arith
          | inr t3 ↦ elim t3 [ inl h ↦ s.names h | inr h ↦ h.1 (s.none h.0) ]
        ]
      ]
    ]

not_limit : (file : List ℕ) (reach : Reach) (place : ℕ) → IsElfSound file reach → IsLimit file reach place → ⊥
not_limit file reach place r t =
    elim t [
      | inl h ↦ not_header_large file reach r.small h.1
      | inr t1 ↦ elim t1 [
        | inl h ↦ no_section file (is_too_long file reach) place (λ i below. (r.arranged.sections i below).short) h
        | inr t2 ↦ elim t2 [
          | inl h ↦ no_section file (is_overaligned file) place (λ i below. (r.arranged.sections i below).aligned) h
          | inr h ↦
              let within = r.arranged.movable in
              let past = h.3.1 in
              let rises = movable-step file (suc h.0) (section_count file) h.1.0 in
              omega arith
        ]
      ]
    ]

no_row : (file : List ℕ) (reach : Reach) → IsElfSound file reach → (kind : Kind) (place : ℕ) → ImageFault file reach kind place → ⊥
no_row file reach r FileType place h = elim r.linked [ inl e ↦ h.1 e | inr e ↦ h.2 e ]
no_row file reach r Torn place h = not_torn file place r.whole h
no_row file reach r Overlap place h = not_overlap file reach place r.arranged h
no_row file reach r Compressed place h = no_section file (is_compressed file) place (λ i below. (r.arranged.sections i below).plain) h
no_row file reach r Relocated place h = no_section file (is_debug_relocation file) place (λ i below. (r.arranged.sections i below).resolved) h
no_row file reach r TwoSections place h = not_second file reach place r.arranged h
no_row file reach r Placed place h = no_section file (is_misplaced file) place (λ i below. (r.arranged.sections i below).placed) h
no_row file reach r Limit place h = not_limit file reach place r h
no_row file reach r kind place h = h

pub elf_whole : (file : List ℕ) (reach : Reach) → IsElfSound file reach → HasNoElfFault file reach
elf_whole file reach r NotElf64 place h = h.1 r.elf
elf_whole file reach r Limit place h = elim h [
  | inl long ↦ let past = long.1 in let small = r.small.bytes in omega arith
  | inr other ↦ no_row file reach r Limit place other.1
]
elf_whole file reach r kind place h = no_row file reach r kind place h.1

pub names_whole : (file : List ℕ) → HasKnownSections file → HasNoNameFault file
names_whole file known Companion place h = no_section file (is_companion file) place known h.1
names_whole file known kind place h = h

-- what was read is sound but for names
sound_read : (file : List ℕ) (reach : Reach) → IsRead file reach → IsElfSound file reach
sound_read file reach r = record {
  elf = r.elf;
  linked = r.linked;
  small = r.small;
  whole = r.whole;
  arranged = record { apart = r.sound.apart; sections = r.sound.sections; distinct = r.sound.distinct; movable = r.sound.movable };
}

pub images_whole : ImagesAreWhole
images_whole file reach r = (elf_whole file reach (sound_read file reach r), names_whole file r.sound.known)

-- the same the other way: a sound file whose sections are known is read
pub read_sound : (file : List ℕ) (reach : Reach) → IsElfSound file reach → HasKnownSections file → IsRead file reach
read_sound file reach s known = record {
  elf = s.elf;
  linked = s.linked;
  small = s.small;
  whole = s.whole;
  sound = record { apart = s.arranged.apart; sections = s.arranged.sections; known = known; distinct = s.arranged.distinct; movable = s.arranged.movable };
}

-- a row of an ELF-64 file is a fault of the first pass
pub row_counts : (file : List ℕ) (reach : Reach) (kind : Kind) (place : ℕ) → IsElf64 file → ImageFault file reach kind place → ElfFault file reach kind place
row_counts file reach NotElf64 place elf h = absurd h
row_counts file reach Limit place elf h = inr (elf, h)
row_counts file reach kind place elf h = (elf, h)

pub rows_count : (file : List ℕ) (reach : Reach) (refusal : Refusal) → IsElf64 file → IsRefusedFor (HasFault file reach) refusal → NamesElfFault file reach refusal
rows_count file reach (Refused fault) elf h = row_counts file reach fault.kind fault.place elf h
rows_count file reach NoMemory elf h = h

pub rows_count_anyway : (file : List ℕ) (reach : Reach) (refusal : Refusal) → IsElf64 file → IsRefusedFor (HasFaultAnyway file) refusal → NamesElfFault file reach refusal
rows_count_anyway file reach (Refused fault) elf h = row_counts file reach fault.kind fault.place elf (h reach)
rows_count_anyway file reach NoMemory elf h = h
