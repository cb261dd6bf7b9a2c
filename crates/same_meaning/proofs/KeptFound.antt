-- The first section by which what is kept differs, by what is found of sections.
use Rattle.std.proofs.Common.{◌≡◌, ◌<◌, ◌⊎◌, inl, inr, ℕ, List, subst}
use Rattle.std.specs.Prelude.{Option, Some, None}
use Rattle.elf_sections.specs.Elf.{section_count}
use Rattle.same_meaning.specs.Kept.{DiffersOutside, HasOtherAranges, SectionDiffers, KeptDiffers}
use Rattle.same_meaning.specs.inside.Compared.{IsFirstFound}
use Rattle.same_meaning.specs.inside.Parts.{HasOtherParts}

pub differs_in : (a b : List ℕ) (i : ℕ) → HasOtherParts a b i ⊎ HasOtherAranges a b i → SectionDiffers a b i
differs_in a b i (inl (inl name)) = inl name
differs_in a b i (inl (inr (inl field))) = inr (inl field)
differs_in a b i (inl (inr (inr (inl place)))) = inr (inr (inl place))
differs_in a b i (inl (inr (inr (inr body)))) = inr (inr (inr (inl body)))
differs_in a b i (inr aranges) = inr (inr (inr (inr aranges)))

pub differs_by : (a b : List ℕ) (i : ℕ) → SectionDiffers a b i → HasOtherParts a b i ⊎ HasOtherAranges a b i
differs_by a b i (inl name) = inl (inl name)
differs_by a b i (inr (inl field)) = inl (inr (inl field))
differs_by a b i (inr (inr (inl place))) = inl (inr (inr (inl place)))
differs_by a b i (inr (inr (inr (inl body)))) = inl (inr (inr (inr body)))
differs_by a b i (inr (inr (inr (inr aranges)))) = inr aranges

-- of the same files
pub parts_in : (x y a b : List ℕ) (i : ℕ) → x ≡ a → y ≡ b → HasOtherParts x y i → HasOtherParts a b i
parts_in x y a b i e f parts = subst (λ (z : List ℕ). HasOtherParts a z i) f (subst (λ (z : List ℕ). HasOtherParts z y i) e parts)

module _ (a b : List ℕ) (count : section_count b ≡ section_count a) (none : DiffersOutside a b → ⊥) where
  abbrev SectionFound : ℕ → Type 0
  SectionFound i = (i < section_count a) × SectionDiffers a b i

  of_section : (s : ℕ) → KeptDiffers a b s → SectionFound s
  of_section s (inl (differ, here)) = absurd (differ count)
  of_section s (inr (same, inl (here, outside))) = absurd (none outside)
  of_section s (inr (same, inr section)) = section

  pub kept_found : (found : Option ℕ) → IsFirstFound SectionFound found → IsFirstFound (KeptDiffers a b) found
  kept_found None nowhere = λ s kept. nowhere s (of_section s kept)
  kept_found (Some s) (is, before) = (inr (count, inr is), λ j less kept. before j less (of_section j kept))
