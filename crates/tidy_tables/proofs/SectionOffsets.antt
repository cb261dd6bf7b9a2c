-- Offsets in a file of places in its sections.
use Rattle.std.proofs.Common.{◌≡◌, ◌≤◌, ◌<◌, ◌+◌, ◌^◌, ◌∙◌, ℕ, List, length, sym, ap, subst, arith}
use Rattle.dw_base.specs.declared.fault.Reach.TheVariants.{Wide}
use Rattle.elf_sections.specs.Elf.{offset_of, body_of}
use Rattle.elf_sections.specs.Sections.{IsFirstNamed, HasNone}
use Rattle.elf_sections.specs.Faults.{IsRead}
use Rattle.value_links.specs.Sections.{body_named, offset_named}
use Rattle.value_links.proofs.SectionBytes.{none_named, first_named, body_room}

module _ (file image name : List ℕ) (same : image ≡ file) (place : ℕ) (within : place ≤ length (body_named file name)) where
  pub place_alone : HasNone image name → place ≡ offset_named file name + place
  place_alone none =
      let at_zero : offset_named file name ≡ 0 = (none_named file name (subst (λ (z : List ℕ). HasNone z name) same none)).1 in
      omega arith

  module _ (i : ℕ) (found : IsFirstNamed image name i) (offset : ℕ) (is : offset ≡ offset_of image i) where
    first : IsFirstNamed file name i
    first = subst (λ (z : List ℕ). IsFirstNamed z name i) same found

    offset_is : offset ≡ offset_named file name
    offset_is = is ∙ ap (λ (z : List ℕ). offset_of z i) same ∙ sym (first_named file name i first).1

    pub place_fits : IsRead image Wide → offset < 2 ^ 64 → offset + place < 2 ^ 64
    place_fits read fits =
        let here : offset ≡ offset_of file i = is ∙ ap (λ (z : List ℕ). offset_of z i) same in
        let room : offset_of file i + length (body_of file i) < 2 ^ 64 = body_room file i (subst (λ (z : List ℕ). IsRead z Wide) same read) first.inside (omega arith) in
        let size : length (body_named file name) ≡ length (body_of file i) = ap (λ (z : List ℕ). length z) (first_named file name i first).0 in
        omega arith

    pub place_found : offset + place ≡ offset_named file name + place
    place_found = ap (λ (z : ℕ). z + place) offset_is
