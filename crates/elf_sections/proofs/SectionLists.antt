-- The first sections of a file, as a list.
use Rattle.std.proofs.Common.{◌≡◌, ◌<◌, ℕ, zero, suc, List, [], ◌∷◌, length, get_or, ◌∙◌, arith, inl, inr}
use Rattle.std.proofs.lemmas.List.{length_push, get_or_push, get_or_append_left}
use Rattle.std.proofs.lemmas.Bool.{cases_lt}
use Rattle.elf_sections.specs.declared.section.Section.{Section}
use Rattle.elf_sections.specs.Sections.{section_of}
use Rattle.elf_sections.specs.inside.Sections.{first_sections}

pub length-first_sections : (file : List ℕ) (n : ℕ) → length (first_sections file n) ≡ n
length-first_sections file zero = omega arith
length-first_sections file (suc n) =
    length_push (first_sections file n) (section_of file n) ∙ omega (arith, length-first_sections file n)

pub at-first_sections : (file : List ℕ) (n i : ℕ) (d : Section) → i < n → get_or (first_sections file n) i d ≡ section_of file i
at-first_sections file zero i d h = absurd (omega arith)
at-first_sections file (suc n) i d h =
    let size = length-first_sections file n in
    elim (cases_lt i n) [
      | inl below ↦
          get_or_append_left (first_sections file n) (section_of file n ∷ []) d i (omega arith) ∙ at-first_sections file n i d below
      | inr here ↦
          let e : i ≡ n = omega arith in
          rw e (get_or_push (first_sections file n) (section_of file n) d n size)
    ]
