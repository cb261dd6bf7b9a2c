-- All that is read of a generated file, and of each entry of its units what stands there, what that refers to and what it means.
use Rattle.std.specs.Prelude.{◌+◌, ℕ, suc, pos, List, [], ◌∷◌, ◌++◌, length, map, get_or, Bool, true, false}
use Rattle.form_codec.specs.Forms.{Meaning}
use Rattle.form_codec.specs.Forms.Meaning.{Address, Whole, IsSet, Text, StringPlace, LineStringPlace, SectionPlace, InUnit, Expression}
use Rattle.entry_arena.specs.declared.entry.Target.TheVariants.{Entry as TheEntry}
use Rattle.entry_arena.specs.Forests.{Described}
use Rattle.list_model.specs.declared.entry.ListKind.TheVariants.{Ranges, Locations}
use Rattle.value_links.specs.Reading.{UnitRead, Linkable, Reading}
use Rattle.value_links.specs.Linked.{Linked}
use Rattle.value_links.specs.Linked.Linked.{Itself, Operates, Refers, Program, ListAt, ViewsAt}
use Rattle.value_links.specs.Resolved.{Resolved}
use Rattle.value_links.specs.Resolved.Resolved.{Itself as ItMeans, Operates as ItOperates, Program as ItsProgram, AList, Pairs}
use Rattle.value_links.specs.Debug.{EntryMeaning}
use Rattle.sample_maker.specs.Numbered.{map_from}
use Rattle.sample_maker.specs.Drawn.{FunctionDrawn, UnitDrawn}
use Rattle.sample_maker.specs.Places.{unit_base, unit_extent, function_address, entry_count, type_entry}
use Rattle.sample_maker.specs.Generated.{plain, location_meaning, range_meaning, view_pairs, to_entry}
use Rattle.sample_maker.specs.inside.Files.{function_locations, function_ranges, function_size, functions_at, type_place, info_bytes, locations_bytes, ranges_bytes}
use Rattle.sample_maker.specs.inside.ReadLines.{programs_read}
use Rattle.sample_maker.specs.inside.ReadLists.{section_read, context_read, BlockPlaced, block_address, block_placed, range_lists_read, ParameterPlaced, located_at, parameters_placed, location_lists_read, views_read}
use Rattle.sample_maker.specs.inside.ReadUnits.{unit_read, units_read, drawn_at, unit_place, program_place, locations_place, ranges_place}
use Rattle.sample_maker.specs.inside.ReadImage.{sets_read}

-- ALL THAT IS READ

abbrev pub links_of : List UnitDrawn → Linkable
links_of units = record {
  programs = programs_read 0 0 units;
  units = units_read (info_bytes 0 0 0 0 units) 0 0 0 0 0 units;
  addresses = [];
  contexts = map_from (λ (u : ℕ) (unit : UnitDrawn). context_read u) 0 units;
  ranges = section_read (ranges_bytes 0 units);
  locations = section_read (locations_bytes units);
}

abbrev pub reading_of : List UnitDrawn → Reading
reading_of units = record {
  links = links_of units;
  range_lists = range_lists_read units;
  location_lists = location_lists_read units;
  views = views_read units;
  sets = sets_read 0 0 units;
}

-- UNITS

-- A unit as it is placed: where it begins in .debug_info, the place of its line number program, and how many bytes of location lists and of
-- range lists stand before its own.
pub record UnitPlaced : Type 0 where
  pub unit : UnitDrawn
  pub at : ℕ
  pub program : ℕ
  pub locations : ℕ
  pub ranges : ℕ

-- the unit of a file with a number
abbrev pub placed_at : List UnitDrawn → ℕ → UnitPlaced
placed_at units u = record { unit = drawn_at units u; at = unit_place units u; program = program_place units u; locations = locations_place units u; ranges = ranges_place units u }

-- what is read of it, by its number
abbrev pub placed_read : List ℕ → ℕ → UnitPlaced → UnitRead
placed_read info u p = unit_read info p.at u p.program p.locations p.ranges p.unit

-- ENTRIES

-- A function as it is placed: its number in its unit, that of its entry, and the place of its entry from the first byte of the unit.
pub record FunctionPlaced : Type 0 where
  pub number : ℕ
  pub entry : ℕ
  pub at : ℕ
  pub function : FunctionDrawn

-- an entry of a unit: the root, that of a function, of a parameter or of a block, or that of the type
pub data EntryPlaced : Type 0 where
  TheRoot : EntryPlaced
  TheFunction : FunctionPlaced → EntryPlaced
  TheParameter : ParameterPlaced → EntryPlaced
  TheBlock : BlockPlaced → EntryPlaced
  TheType : EntryPlaced

-- The entries of functions with their children, in their order. The first function has the number `i`, and its entry the number `id`; it
-- stands at a place. `l` and `r` are as in `functions_part`.
abbrev pub functions_placed : ℕ → ℕ → ℕ → ℕ → ℕ → ℕ → List FunctionDrawn → List EntryPlaced
functions_placed u i id place l r [] = []
functions_placed u i id place l r (f ∷ fs) =
    TheFunction (record { number = i; entry = id; at = place; function = f }) ∷ (map TheParameter (parameters_placed u i f.size l f.parameters) ++ (map TheBlock (block_placed u i r f.ranges) ++ functions_placed u (suc i) (id + entry_count f) (place + function_size f) (l + length (function_locations i f)) (r + length (function_ranges u i f)) fs))

-- the entries of the unit with a number
abbrev pub entries_placed : ℕ → UnitPlaced → List EntryPlaced
entries_placed u p = TheRoot ∷ (functions_placed u 0 1 functions_at p.locations p.ranges p.unit ++ TheType ∷ [])

-- the entry with a number; past the end there is none, and the root stands for it
abbrev pub entry_numbered : ℕ → UnitPlaced → ℕ → EntryPlaced
entry_numbered u p id = get_or (entries_placed u p) id TheRoot

-- the place of the next sibling of a function, and the number of its entry
abbrev pub sibling_place : FunctionPlaced → ℕ
sibling_place f = f.at + function_size f.function

abbrev pub sibling_entry : FunctionPlaced → ℕ
sibling_entry f = f.entry + entry_count f.function

-- WHAT AN ENTRY OF A UNIT SAYS

abbrev pub attributes_said : ℕ → UnitPlaced → EntryPlaced → List (ℕ × Meaning)
attributes_said u p TheRoot =
    (0x25, StringPlace 0) ∷ (0x13, Whole (pos 0x1d)) ∷ (0x03, LineStringPlace 0) ∷ (0x1b, LineStringPlace 4) ∷ (0x11, Address (unit_base u)) ∷ (0x12, Whole (pos unit_extent)) ∷ (0x10, SectionPlace p.program) ∷ []
attributes_said u p (TheFunction f) =
    (0x3f, IsSet true) ∷ (0x03, Text (0x66 ∷ [])) ∷ (0x3a, Whole (pos 1)) ∷ (0x3b, Whole (pos (suc f.number))) ∷ (0x49, InUnit (type_place p.unit)) ∷ (0x11, Address (function_address u f.number)) ∷ (0x12, Whole (pos f.function.size)) ∷ (0x40, Expression (0x9c ∷ [])) ∷ (0x01, InUnit (sibling_place f)) ∷ []
attributes_said u p (TheParameter q) =
    (0x03, Text (0x78 ∷ [])) ∷ (0x3b, Whole (pos (suc q.number))) ∷ (0x49, InUnit (type_place p.unit)) ∷ (0x02, SectionPlace (located_at q)) ∷ (0x2137, SectionPlace q.at) ∷ []
attributes_said u p (TheBlock b) = (0x55, SectionPlace b.at) ∷ []
attributes_said u p TheType = (0x0b, Whole (pos 4)) ∷ (0x3e, Whole (pos 5)) ∷ (0x03, Text (0x69 ∷ 0x6e ∷ 0x74 ∷ [])) ∷ []

-- how many it stands below, its tag, and whether it can have children
abbrev pub depth_of : EntryPlaced → ℕ
depth_of TheRoot = 0
depth_of (TheFunction f) = 1
depth_of (TheParameter q) = 2
depth_of (TheBlock b) = 2
depth_of TheType = 1

abbrev pub tag_of : EntryPlaced → ℕ
tag_of TheRoot = 0x11
tag_of (TheFunction f) = 0x2e
tag_of (TheParameter q) = 0x05
tag_of (TheBlock b) = 0x0b
tag_of TheType = 0x24

abbrev pub has_children : EntryPlaced → Bool
has_children TheRoot = true
has_children (TheFunction f) = true
has_children (TheParameter q) = false
has_children (TheBlock b) = false
has_children TheType = false

abbrev pub entry_said : ℕ → UnitPlaced → EntryPlaced → Described
entry_said u p e = record { depth = depth_of e; tag = tag_of e; children = has_children e; attributes = attributes_said u p e }

-- WHAT ITS ATTRIBUTES REFER TO

-- the entry of the unit's type
abbrev pub to_type : ℕ → UnitPlaced → Linked
to_type u p = Refers u (TheEntry (type_entry p.unit))

abbrev pub entry_linked : ℕ → UnitPlaced → EntryPlaced → List Linked
entry_linked u p TheRoot =
    Itself (StringPlace 0) ∷ Itself (Whole (pos 0x1d)) ∷ Itself (LineStringPlace 0) ∷ Itself (LineStringPlace 4) ∷ Itself (Address (unit_base u)) ∷ Itself (Whole (pos unit_extent)) ∷ Program u ∷ []
entry_linked u p (TheFunction f) =
    Itself (IsSet true) ∷ Itself (Text (0x66 ∷ [])) ∷ Itself (Whole (pos 1)) ∷ Itself (Whole (pos (suc f.number))) ∷ to_type u p ∷ Itself (Address (function_address u f.number)) ∷ Itself (Whole (pos f.function.size)) ∷ Operates (plain 0x9c ∷ []) ∷ Refers u (TheEntry (sibling_entry f)) ∷ []
entry_linked u p (TheParameter q) =
    Itself (Text (0x78 ∷ [])) ∷ Itself (Whole (pos (suc q.number))) ∷ to_type u p ∷ ListAt Locations (located_at q) ∷ ViewsAt (located_at q) q.at ∷ []
entry_linked u p (TheBlock b) = ListAt Ranges b.at ∷ []
entry_linked u p TheType = Itself (Whole (pos 4)) ∷ Itself (Whole (pos 5)) ∷ Itself (Text (0x69 ∷ 0x6e ∷ 0x74 ∷ [])) ∷ []

-- WHAT IT MEANS

abbrev pub attributes_meant : ℕ → UnitPlaced → EntryPlaced → List (ℕ × Resolved)
attributes_meant u p TheRoot =
    (0x25, ItMeans (StringPlace 0)) ∷ (0x13, ItMeans (Whole (pos 0x1d))) ∷ (0x03, ItMeans (LineStringPlace 0)) ∷ (0x1b, ItMeans (LineStringPlace 4)) ∷ (0x11, ItMeans (Address (unit_base u))) ∷ (0x12, ItMeans (Whole (pos unit_extent))) ∷ (0x10, ItsProgram u) ∷ []
attributes_meant u p (TheFunction f) =
    (0x3f, ItMeans (IsSet true)) ∷ (0x03, ItMeans (Text (0x66 ∷ []))) ∷ (0x3a, ItMeans (Whole (pos 1))) ∷ (0x3b, ItMeans (Whole (pos (suc f.number)))) ∷ (0x49, to_entry u (type_entry p.unit)) ∷ (0x11, ItMeans (Address (function_address u f.number))) ∷ (0x12, ItMeans (Whole (pos f.function.size))) ∷ (0x40, ItOperates (plain 0x9c ∷ [])) ∷ (0x01, to_entry u (sibling_entry f)) ∷ []
attributes_meant u p (TheParameter q) =
    (0x03, ItMeans (Text (0x78 ∷ []))) ∷ (0x3b, ItMeans (Whole (pos (suc q.number)))) ∷ (0x49, to_entry u (type_entry p.unit)) ∷ (0x02, AList (location_meaning (function_address q.unit q.number) q.size q.parameter)) ∷ (0x2137, Pairs view_pairs) ∷ []
attributes_meant u p (TheBlock b) = (0x55, AList (range_meaning (block_address b) b.sizes)) ∷ []
attributes_meant u p TheType = (0x0b, ItMeans (Whole (pos 4))) ∷ (0x3e, ItMeans (Whole (pos 5))) ∷ (0x03, ItMeans (Text (0x69 ∷ 0x6e ∷ 0x74 ∷ []))) ∷ []

abbrev pub entry_meant : ℕ → UnitPlaced → EntryPlaced → EntryMeaning
entry_meant u p e = record { depth = depth_of e; tag = tag_of e; children = has_children e; attributes = attributes_meant u p e }
