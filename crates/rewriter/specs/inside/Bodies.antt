-- The bodies that are made of new sections: one for each section that the file has.
use Rattle.std.specs.Prelude.{◌≡◌, ◌⊎◌, ℕ, List, [], ◌∷◌, ◌++◌}
use Rattle.elf_sections.specs.Sections.{IsFirstNamed, HasNone}
use Rattle.elf_place.specs.declared.bodies.NewBody.{NewBody}
use Rattle.value_links.specs.Sections.{info_name, abbrev_name, line_name, rnglists_name, loclists_name, aranges_name}
use Rattle.rewriter.specs.declared.sections.NewSections.{NewSections}

-- the new bytes of a section, by its name
pub record NewBytes : Type 0 where
  pub name : List ℕ
  pub bytes : List ℕ

-- all of them
abbrev pub new_bytes : NewSections → List NewBytes
new_bytes new =
    record { name = info_name; bytes = new.info.items } ∷ record { name = abbrev_name; bytes = new.abbrevs.items } ∷ record { name = line_name; bytes = new.lines.items } ∷ record { name = rnglists_name; bytes = new.ranges.items } ∷ record { name = loclists_name; bytes = new.locations.items } ∷ record { name = aranges_name; bytes = new.aranges.items } ∷ []

-- the body has the new bytes for the section of their name
pub record IsBodyWith (file : List ℕ) (new : NewBytes) (body : NewBody) : Type 0 where
  pub first : IsFirstNamed file new.name body.section
  pub holds : body.bytes.items ≡ new.bytes

-- a body with the new bytes is added behind others, where the file has a section of their name
abbrev pub AddsBody : List ℕ → NewBytes → List NewBody → List NewBody → Type 0
AddsBody file new before after =
    (HasNone file new.name × (after ≡ before)) ⊎ ((body : NewBody) × IsBodyWith file new body × (after ≡ before ++ body ∷ []))

-- the bodies are those with these new bytes, in their order
abbrev pub AreBodiesWith : List ℕ → List NewBytes → List NewBody → Type 0
AreBodiesWith file [] bodies = bodies ≡ []
AreBodiesWith file (new ∷ news) bodies =
    (HasNone file new.name × AreBodiesWith file news bodies) ⊎ ((body : NewBody) × ((rest : List NewBody) × IsBodyWith file new body × (bodies ≡ body ∷ rest) × AreBodiesWith file news rest))
