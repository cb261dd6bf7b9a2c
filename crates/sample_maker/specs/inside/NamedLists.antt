-- What is read of a generated file, by what is read of it beside its lists, and which entries name the lists.
use Rattle.std.specs.Prelude.{◌≡◌, ℕ, List}
use Rattle.std.specs.List.{Contains}
use Rattle.companions.specs.declared.set.ArangeSet.{ArangeSet}
use Rattle.list_model.specs.declared.context.Context.{Context}
use Rattle.list_model.specs.declared.entry.ListKind.TheVariants.{Ranges, Locations}
use Rattle.value_links.specs.Reading.{ProgramRead, UnitRead, Linkable, Reading}
use Rattle.value_links.specs.Lists.{IsNamedIn, AreViewsNamed}
use Rattle.sample_maker.specs.Drawn.{UnitDrawn}
use Rattle.sample_maker.specs.inside.Files.{locations_bytes, ranges_bytes}
use Rattle.sample_maker.specs.inside.ReadLists.{section_read, BlockPlaced, unit_blocks, range_lists_read, ParameterPlaced, located_at, unit_parameters, location_lists_read, views_read}

-- what values refer to, with these programs, units as they are read, addresses and contexts
abbrev pub links_with : List ProgramRead → List UnitRead → List ℕ → List Context → List UnitDrawn → Linkable
links_with programs reads addresses contexts units = record {
  programs = programs;
  units = reads;
  addresses = addresses;
  contexts = contexts;
  ranges = section_read (ranges_bytes 0 units);
  locations = section_read (locations_bytes units);
}

-- and all, with these sets of address ranges
abbrev pub reading_with : List ProgramRead → List UnitRead → List ℕ → List Context → List UnitDrawn → List ArangeSet → Reading
reading_with programs reads addresses contexts units sets = record {
  links = links_with programs reads addresses contexts units;
  range_lists = range_lists_read units;
  location_lists = location_lists_read units;
  views = views_read units;
  sets = sets;
}

-- The list of each block and of each parameter, and the view pairs of the latter, are named by an entry of its unit, and entries name no
-- others.
pub record AreListsNamed (r : Linkable) (units : List UnitDrawn) : Type 0 where
  pub blocks : (b : BlockPlaced) → Contains (unit_blocks 0 0 units) b → IsNamedIn r Ranges b.at b.unit
  pub only_blocks : (at u : ℕ) → IsNamedIn r Ranges at u → (b : BlockPlaced) × Contains (unit_blocks 0 0 units) b × (b.at ≡ at) × (b.unit ≡ u)
  pub parameters : (p : ParameterPlaced) → Contains (unit_parameters 0 0 units) p → IsNamedIn r Locations (located_at p) p.unit
  pub only_parameters : (at u : ℕ) → IsNamedIn r Locations at u → (p : ParameterPlaced) × Contains (unit_parameters 0 0 units) p × (located_at p ≡ at) × (p.unit ≡ u)
  pub views : (p : ParameterPlaced) → Contains (unit_parameters 0 0 units) p → AreViewsNamed r (located_at p) p.at
  pub only_views : (list at : ℕ) → AreViewsNamed r list at → (p : ParameterPlaced) × Contains (unit_parameters 0 0 units) p × (located_at p ≡ list) × (p.at ≡ at)
