-- Places at which lists begin, and what tells them (DWARF 5 sections 7.28 and 7.29).
use Rattle.std.specs.Prelude.{◌≡◌, ◌<◌, ◌+◌, ℕ, List, length}
use Rattle.fixed_width.specs.Numbers.{number_at}
use Rattle.form_codec.specs.Forms.{Meaning}
use Rattle.list_model.specs.declared.entry.ListKind.{ListKind}
use Rattle.list_model.specs.declared.entry.ListKind.TheVariants.{Ranges, Locations}
use Rattle.list_model.specs.Contributions.{offsets_at, offset_place, HoldsList}
use Rattle.value_links.specs.Attributes.{rnglists_base, loclists_base}
use Rattle.value_links.specs.Reading.{ListSection, Linkable, unit_at, of_kind, part_at}
use Rattle.value_links.specs.Values.{IsFirstBase, root_of}

-- a list can begin at a place: that of a byte past the table of offsets of the contribution with a number
abbrev pub IsListPlace : ListSection → ℕ → ℕ → Type 0
IsListPlace section p at = (p < length section.parts) × HoldsList (part_at section p) at

-- the offsets of the contribution with a number begin at a place
abbrev pub IsOffsetsAt : ListSection → ℕ → ℕ → Type 0
IsOffsetsAt section at p = (p < length section.parts) × (offsets_at (part_at section p).at ≡ at)

-- The contribution has a slot, an offset that counts from the first offset's place, and this is the place that the slot tells.
pub record IsSlot (section : ListSection) (p i at : ℕ) : Type 0 where
  pub known : p < length section.parts
  pub counted : i < (part_at section p).slots
  pub tells : at ≡ offsets_at (part_at section p).at + number_at 4 (offset_place (part_at section p).at i) section.section

-- a slot names the list at a place
abbrev pub SlotNames : ListSection → ℕ → ℕ → ℕ → Type 0
SlotNames section p i at = IsSlot section p i at × ((q : ℕ) × IsListPlace section q at)

-- the attribute by which a root gives the base of the indexes of a kind
abbrev pub base_of : ListKind → ℕ
base_of Ranges = rnglists_base
base_of Locations = loclists_base

-- the first attribute with this name that is a base names the offsets of the contribution with a number
abbrev pub NamesPart : ListSection → List (ℕ × Meaning) → ℕ → ℕ → Type 0
NamesPart section attributes name p = (n : ℕ) × IsFirstBase attributes name n × IsOffsetsAt section n p

-- so does the root of a unit
abbrev pub IsBaseOf : Linkable → ℕ → ListKind → ℕ → Type 0
IsBaseOf r u kind p = NamesPart (of_kind r kind) (root_of (unit_at r u)).attributes (base_of kind) p
