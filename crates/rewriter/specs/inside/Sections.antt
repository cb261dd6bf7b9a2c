-- The sections of a file that are written anew, and a file that has them.
use Rattle.std.specs.Prelude.{◌≡◌, ◌<◌, ◌-◌, ◌^◌, ℕ, List, [], length}
use Rattle.std.specs.List.{All}
use Rattle.dw_base.specs.declared.fault.Reach.TheVariants.{Wide}
use Rattle.elf_sections.specs.Names.{name_of, is_written}
use Rattle.elf_sections.specs.Sections.{HasNone}
use Rattle.elf_place.specs.Same.{SameImage}
use Rattle.value_links.specs.Sections.{body_named}
use Rattle.value_links.specs.Laws.{IsImageInOrder}
use Rattle.written_files.specs.Placed.{IsPlaced}
use Rattle.rewriter.specs.declared.sections.NewSections.{NewSections}
use Rattle.rewriter.specs.inside.Bodies.{NewBytes, new_bytes}

-- a section that a file lacks has no new bytes
abbrev pub IsFor : List ℕ → List ℕ → List ℕ → Type 0
IsFor file name bytes = HasNone file name → bytes ≡ []

-- the new sections are for those that the file has, and each fits the 32-bit format
pub record AreFor (file : List ℕ) (new : NewSections) : Type 0 where
  pub each : All (λ (n : NewBytes). IsFor file n.name n.bytes) (new_bytes new)
  pub fit : All (λ (n : NewBytes). length n.bytes < 2 ^ 32 - 1) (new_bytes new)

-- The written file has the new sections in place of the old ones, and all else as it was.
pub record HasSections (file : List ℕ) (new : NewSections) (written : List ℕ) : Type 0 where
  pub sections : All (λ (n : NewBytes). body_named written n.name ≡ n.bytes) (new_bytes new)
  pub image : SameImage (λ (i : ℕ). is_written (name_of file i)) file written
  pub order : IsImageInOrder written Wide
  pub placed : IsPlaced file written
