-- A file that is held with what is read of it, as callers see it.
-- Inner functions and proofs alone need what stands here.
use Rattle.std.specs.Prelude.{ℕ, List, slice_index}
use Rattle.dw_base.specs.declared.fault.Reach.{Reach}
use Rattle.abbrev_tables.specs.Listings.{Listing}
use Rattle.value_links.specs.declared.parts.Parts.{Parts}
use Rattle.value_links.specs.Parts.{HoldsParts}
use Rattle.value_links.specs.World.{World, table_at, IsWorldOf}

-- the table of the unit with a number
abbrev pub own_table : World → ℕ → Listing
own_table world u = (table_at world.tables (slice_index world.table_of u)).table

-- the world is that of a valid file, and these parts are what is read of it up to links
pub record IsHeldIn (image : List ℕ) (parts : Parts) (world : World) : Type 0 where
  pub reach : Reach
  pub is : IsWorldOf image reach world
  pub parts_are : HoldsParts image is.r.links parts
