-- Sections of lists as they are held.
-- Inner functions and proofs alone need what stands here.
use Rattle.std.specs.Prelude.{◌≡◌, ◌<◌, ◌^◌, ℕ, List, length, slice_index_or, Option, Some, None}
use Rattle.form_codec.specs.Forms.{Meaning}
use Rattle.list_model.specs.declared.contribution.Contribution.{Contribution}
use Rattle.list_model.specs.Contributions.{ContributionsTile}
use Rattle.entry_read.specs.Units.{declarations_of}
use Rattle.value_links.specs.declared.list_places.Contributions.{Contributions}
use Rattle.value_links.specs.declared.units.Units.{Units}
use Rattle.value_links.specs.Reading.{ListSection}
use Rattle.value_links.specs.ListPlaces.{NamesPart}
use Rattle.value_links.specs.Links.{held_at}
use Rattle.value_links.specs.inside.Links.{IsLastOf}
use Rattle.value_links.specs.inside.Checks.{table_held, root_attributes}

-- contributions that fill their section, and that numbers of 32 bits name
pub record AreContributions (held : Contributions) : Type 0 where
  pub tiled : ContributionsTile held.section.now held.parts.items
  pub few : length held.parts.items < 2 ^ 32

-- the last contribution that begins at a place or before it
abbrev pub IsLastPart : List Contribution → ℕ → Option ℕ → Type 0
IsLastPart parts place found = IsLastOf (λ (p : Contribution). p.at) (record { at = 0; len = 0; slots = 0 }) parts place found

-- the contribution that attributes name as a base, or none
abbrev pub IsPartFound : ListSection → List (ℕ × Meaning) → ℕ → Option ℕ → Type 0
IsPartFound section attributes name (Some p) = NamesPart section attributes name p
IsPartFound section attributes name None = (p : ℕ) → ¬ NamesPart section attributes name p

-- of each unit that is held the one that its root names
pub record AreBasesHeld (section : ListSection) (name : ℕ) (held : Units) (bases : List (Option ℕ)) : Type 0 where
  pub count : length bases ≡ length held.units.items
  pub each : (u : ℕ) → u < length held.units.items → IsPartFound section (root_attributes (held_at held.units.items u).forest (declarations_of (table_held held u))) name (slice_index_or bases u None)
