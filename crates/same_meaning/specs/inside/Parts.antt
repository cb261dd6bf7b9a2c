-- Parts of what is kept of a file, which are compared one by one.
use Rattle.std.specs.Prelude.{◌≡◌, ◌≢◌, ◌≤◌, ◌<◌, ◌⊎◌, ℕ, List, length, drop, slice_index}
use Rattle.elf_sections.specs.Names.{name_of}
use Rattle.companions.specs.declared.set.ArangeSet.{ArangeSet}
use Rattle.companions.specs.Aranges.{SetsFollow, IsOutside}
use Rattle.same_meaning.specs.Kept.{HasOtherField, HasOtherPlace, HasOtherBody}

-- a section differs from the one with its number in the new file, sets of address ranges aside
abbrev pub HasOtherParts : List ℕ → List ℕ → ℕ → Type 0
HasOtherParts a b i = (name_of b i ≢ name_of a i) ⊎ (HasOtherField a b i ⊎ (HasOtherPlace a b i ⊎ HasOtherBody a b i))

-- Two bodies of .debug_aranges have other lengths, or another byte outside the debug_info_offset of the sets of the first.
abbrev pub DifferOutsideFields : List ℕ → List ℕ → List ArangeSet → Type 0
DifferOutsideFields before after sets = (length after ≢ length before) ⊎ ((k : ℕ) × IsOutside sets k × (slice_index after k ≢ slice_index before k))

-- They are the same up to a place, outside these fields of the first sets, which end there or before it.
pub record AreSameUpTo (before after : List ℕ) (sets : List ArangeSet) (from i : ℕ) : Type 0 where
  pub starts : List ℕ
  pub place : ℕ
  pub follow : SetsFollow before starts (drop i sets) place (length before)
  pub reached : from ≤ place
  pub same : (k : ℕ) → k < from → IsOutside sets k → slice_index after k ≡ slice_index before k
  pub ahead : (k : ℕ) → from ≤ k → IsOutside (drop i sets) k → IsOutside sets k
