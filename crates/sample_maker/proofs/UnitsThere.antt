-- A unit of a generated file where it stands: its header and its entries.
use Rattle.std.proofs.Common.{◌≡◌, ◌≤◌, ◌<◌, ◌+◌, ◌-◌, ◌*◌, ◌^◌, ℕ, suc, List, [], ◌∷◌, ◌++◌, length, map, get_or, true, false, ◌∙◌, sym, ap, refl, subst, arith, inl}
use Rattle.std.specs.Prelude.{slice_index, nat_eq, if◌then◌else◌}
use Rattle.std.specs.List.{All}
use Rattle.std.proofs.lemmas.List.{append-nil, length-append, get_or-drop}
use Rattle.leb_codec.specs.Leb.{Uleb}
use Rattle.fixed_width.specs.Numbers.{number}
use Rattle.fixed_width.specs.InitialLengths.{unit_length, version, least_reserved}
use Rattle.fixed_width.proofs.Numbers.{number_back}
use Rattle.form_codec.specs.declared.value.Value.{Value}
use Rattle.abbrev_tables.specs.Tables.{Declared}
use Rattle.entry_arena.specs.declared.entry.Entry.{Entry}
use Rattle.entry_arena.specs.Forests.{described_by}
use Rattle.entry_arena.specs.Trees.{declared_at, listed_to, nothing_from, SpellsBetween, IsForest}
use Rattle.entry_arena.specs.Trees.Siblings.{NoMore, Tree}
use Rattle.entry_read.specs.declared.head.UnitHead.{UnitHead}
use Rattle.entry_read.specs.Heads.{unit_type, address_size, debug_abbrev_offset, signature, type_offset, compile_unit, type_unit, header_size, head_at, IsHead}
use Rattle.entry_read.specs.Units.{IsUnitHeld}
use Rattle.value_links.specs.Reading.{IsUnitRead}
use Rattle.value_links.specs.Debug.{described}
use Rattle.sample_maker.specs.Drawn.{FunctionDrawn, UnitDrawn}
use Rattle.sample_maker.specs.Places.{unit_base, entry_count, entry_behind, type_entry}
use Rattle.sample_maker.specs.inside.Bytes.{word, long, root_bytes, base_type_bytes, unit_head_rest, unit_head_bytes}
use Rattle.sample_maker.specs.inside.Images.{table_bytes}
use Rattle.sample_maker.specs.inside.Files.{function_size, functions_at, place_behind, type_place, functions_bytes, unit_bytes, unit_locations, unit_ranges}
use Rattle.sample_maker.specs.inside.Small.{IsFunctionSmall, IsUnitSmall}
use Rattle.sample_maker.specs.inside.ReadUnits.{root_number, base_type_number, declared_read, ForestPart, no_part, followed, end_part, root_part, functions_part, base_type_part, value_behind, unit_part, EntryStands, FunctionsStand, function_trees, unit_tree, head_read, unit_read}
use Rattle.sample_maker.proofs.Lengths.{word_length, long_length}
use Rattle.sample_maker.proofs.SmallUnits.{function_size_small}
use Rattle.sample_maker.proofs.TableRead.{uleb_byte, declarations_are, table_is_read, table_filled}
use Rattle.sample_maker.proofs.PlacedBytes.{LiesAt, lies_first, lies_behind, lies_from, lies_drop, lies_inside, spells_there, word_at}
use Rattle.sample_maker.proofs.ForestParts.{followed_assoc, IsListed, nothing_listed, leaf_listed, node_listed}
use Rattle.sample_maker.proofs.EntriesThere.{root_there, base_type_there}
use Rattle.sample_maker.proofs.FunctionsThere.{functions_length, functions_entries, functions_values, entries_few, values_few, functions_stand, functions_listed}

-- LENGTHS

place_small : (place : ℕ) (fs : List FunctionDrawn) → All IsFunctionSmall fs → place_behind place fs ≤ place + 100 * length fs
place_small place [] small = omega arith
place_small place (f ∷ fs) small =
    let own : function_size f ≤ 100 = function_size_small f (small 0 f (omega arith)) in
    omega (arith, own, place_small (place + function_size f) fs (λ k d lt. small (suc k) d (omega (arith, lt))))

pub type_place_small : (unit : UnitDrawn) → IsUnitSmall unit → type_place unit ≤ 846
type_place_small unit small = omega (arith, place_small functions_at unit small.functions, small.few)

root_length : (low program : ℕ) → length (root_bytes low program) ≡ 34
unfolding root_bytes
root_length low program =
    omega (arith, length-append (word 0) (0x1d ∷ (word 0 ++ (word 4 ++ (long low ++ (long 0x10000 ++ word program))))), length-append (word 0) (word 4 ++ (long low ++ (long 0x10000 ++ word program))), length-append (word 4) (long low ++ (long 0x10000 ++ word program)), length-append (long low) (long 0x10000 ++ word program), length-append (long 0x10000) (word program), word_length 0, word_length 4, long_length low, long_length 0x10000, word_length program)

head_length : (type : ℕ) → length (unit_head_bytes type) ≡ 12
unfolding unit_head_bytes
head_length type = omega (arith, length-append (word (type + 4)) unit_head_rest, word_length (type + 4))

base_type_length : length base_type_bytes ≡ 7
unfolding base_type_bytes
base_type_length = refl

pub unit_size : (u program l r : ℕ) (unit : UnitDrawn) → length (unit_bytes u program l r unit) ≡ type_place unit + 8
unfolding unit_bytes
unit_size u program l r unit =
    let functions : List ℕ = functions_bytes u (type_place unit) 0 functions_at l r unit in
    let last : List ℕ = base_type_bytes ++ 0 ∷ [] in
    omega (arith, length-append (unit_head_bytes (type_place unit)) (root_bytes (unit_base u) program ++ (functions ++ last)), length-append (root_bytes (unit_base u) program) (functions ++ last), length-append functions last, length-append base_type_bytes (0 ∷ []), head_length (type_place unit), root_length (unit_base u) program, base_type_length, functions_length u (type_place unit) 0 functions_at l r unit)

-- HEADERS

byte_there_is : (section : List ℕ) (at b : ℕ) (bytes : List ℕ) → LiesAt section at (b ∷ bytes) → slice_index section at ≡ b
byte_there_is section at b bytes l =
    let here : at ≡ at + 0 = omega arith in
    ap (λ k. slice_index section k) here ∙ sym (get_or-drop at section 0 0) ∙ ap (λ z. get_or z 0 0) (lies_drop section at (b ∷ bytes) l)

-- a header by the numbers in it
abbrev head_by : List ℕ → ℕ → ℕ → ℕ → ℕ → UnitHead
head_by section at size kind table = record {
  at = at;
  len = at + 4 + size - at;
  kind = kind;
  table = table;
  extra = if nat_eq (header_size kind) 12 then 0 else signature section at;
  type_at = if nat_eq kind type_unit then type_offset section at else 0;
}

abbrev head_with : ℕ → ℕ → UnitHead
head_with at len = record { at = at; len = len; kind = compile_unit; table = 0; extra = 0; type_at = 0 }

head_there : (section : List ℕ) (at type : ℕ) → type + 4 < least_reserved → 4 ≤ type → at + (type + 8) ≤ length section → LiesAt section at (unit_head_bytes type) → IsHead section (head_with at (type + 8))
unfolding unit_head_bytes
head_there section at type few some inside l =
    let rest : LiesAt section (at + 4) (5 ∷ 0 ∷ 1 ∷ 8 ∷ 0 ∷ 0 ∷ 0 ∷ 0 ∷ []) = lies_behind section at (word (type + 4)) unit_head_rest 4 (word_length (type + 4)) l in
    let size : unit_length section at ≡ type + 4 = word_at section at (type + 4) (omega (arith, few)) (lies_first section at (word (type + 4)) unit_head_rest l) in
    let is_version : version section at ≡ 5 = ap (λ z. number 2 z) (lies_drop section (at + 4) (5 ∷ 0 ∷ 1 ∷ 8 ∷ 0 ∷ 0 ∷ 0 ∷ 0 ∷ []) rest) ∙ number_back 2 5 (1 ∷ 8 ∷ 0 ∷ 0 ∷ 0 ∷ 0 ∷ rest.rest) (omega arith) in
    let kind_there : LiesAt section (at + 6) (1 ∷ 8 ∷ 0 ∷ 0 ∷ 0 ∷ 0 ∷ []) = lies_from section (at + 4 + 2) (at + 6) (1 ∷ 8 ∷ 0 ∷ 0 ∷ 0 ∷ 0 ∷ []) (omega arith) (lies_behind section (at + 4) (5 ∷ 0 ∷ []) (1 ∷ 8 ∷ 0 ∷ 0 ∷ 0 ∷ 0 ∷ []) 2 refl rest) in
    let size_there : LiesAt section (at + 7) (8 ∷ 0 ∷ 0 ∷ 0 ∷ 0 ∷ []) = lies_from section (at + 6 + 1) (at + 7) (8 ∷ 0 ∷ 0 ∷ 0 ∷ 0 ∷ []) (omega arith) (lies_behind section (at + 6) (1 ∷ []) (8 ∷ 0 ∷ 0 ∷ 0 ∷ 0 ∷ []) 1 refl kind_there) in
    let table_there : LiesAt section (at + 8) (0 ∷ 0 ∷ 0 ∷ 0 ∷ []) = lies_from section (at + 7 + 1) (at + 8) (0 ∷ 0 ∷ 0 ∷ 0 ∷ []) (omega arith) (lies_behind section (at + 7) (8 ∷ []) (0 ∷ 0 ∷ 0 ∷ 0 ∷ []) 1 refl size_there) in
    let kind : unit_type section at ≡ compile_unit = byte_there_is section (at + 6) 1 (8 ∷ 0 ∷ 0 ∷ 0 ∷ 0 ∷ []) kind_there in
    let wide : address_size section at ≡ 8 = byte_there_is section (at + 7) 8 (0 ∷ 0 ∷ 0 ∷ 0 ∷ []) size_there in
    let table : debug_abbrev_offset section at ≡ 0 = ap (λ z. number 4 z) (lies_drop section (at + 8) (0 ∷ 0 ∷ 0 ∷ 0 ∷ []) table_there) ∙ number_back 4 0 table_there.rest (omega arith) in
    let width : type + 8 ≡ at + 4 + (type + 4) - at = omega arith in
    let short : header_size (unit_type section at) ≡ 12 = ap header_size kind in
    let fields : head_at section at ≡ head_with at (type + 8) = ap (λ n. head_by section at n (unit_type section at) (debug_abbrev_offset section at)) size ∙ ap (λ n. head_by section at (type + 4) n (debug_abbrev_offset section at)) kind ∙ ap (λ n. head_by section at (type + 4) compile_unit n) table ∙ ap (λ n. head_with at n) (sym width) in
    record {
      rules = record {
        usual = omega (arith, size, few);
        inside = omega (arith, size, inside);
        of_version = is_version;
        of_type = inl kind;
        of_addresses = wide;
        fits = omega (arith, size, short, some);
      };
      fields = sym fields;
    }

-- ENTRIES

root_filled : (declared_at declared_read root_number).children ≡ true
unfolding declared_read
root_filled = refl

base_type_alone : (declared_at declared_read base_type_number).children ≡ false
unfolding declared_read
base_type_alone = refl

-- COUNTS

pub unit_entries : (base u program l r : ℕ) (unit : UnitDrawn) → IsUnitSmall unit → length (unit_part base u program l r unit).entries ≤ 42
unit_entries base u program l r unit small =
    let functions : ForestPart = functions_part base u (type_place unit) 0 1 functions_at 7 l r unit in
    let last : ForestPart = followed (base_type_part base (type_place unit) (value_behind 7 unit)) (end_part 0 (base + (type_place unit + 7))) in
    omega (arith, length-append functions.entries last.entries, functions_entries base u (type_place unit) 0 1 functions_at 7 l r unit, entries_few 1 unit small.functions, small.few)

pub unit_values : (base u program l r : ℕ) (unit : UnitDrawn) → IsUnitSmall unit → length (unit_part base u program l r unit).values ≤ 210
unit_values base u program l r unit small =
    let functions : ForestPart = functions_part base u (type_place unit) 0 1 functions_at 7 l r unit in
    let last : ForestPart = followed (base_type_part base (type_place unit) (value_behind 7 unit)) (end_part 0 (base + (type_place unit + 7))) in
    omega (arith, length-append functions.values last.values, functions_values base u (type_place unit) 0 1 functions_at 7 l r unit, values_few 7 unit small.functions, small.few)

-- the entries of functions and of the type stand at their places
pub unit_stands : (base u program l r : ℕ) (unit : UnitDrawn) → FunctionsStand (unit_part base u program l r unit).entries base 1 functions_at unit
unit_stands base u program l r unit =
    let place : ℕ = type_place unit in
    let root : List Entry = (root_part base u program).entries in
    let last : Entry = record { at = base + place; len = 7; depth = 1; decl = base_type_number; first = value_behind 7 unit; count = 3 } in
    functions_stand base u place 0 1 functions_at 7 l r unit (unit_part base u program l r unit).entries root [] last refl refl refl

-- the next sibling of a function, and the type behind the last of them
pub first_stands : (entries : List Entry) (base id place : ℕ) (fs : List FunctionDrawn) → FunctionsStand entries base id place fs → EntryStands entries id (base + place)
first_stands entries base id place [] stand = stand
first_stands entries base id place (f ∷ fs) (first, rest) = first

last_stands : (entries : List Entry) (base id place : ℕ) (fs : List FunctionDrawn) → FunctionsStand entries base id place fs → EntryStands entries (entry_behind id fs) (base + place_behind place fs)
last_stands entries base id place [] stand = stand
last_stands entries base id place (f ∷ fs) (first, rest) = last_stands entries base (id + entry_count f) (place + function_size f) fs rest

-- the entry of the type stands at its place
pub type_stands : (base u program l r : ℕ) (unit : UnitDrawn) → EntryStands (unit_part base u program l r unit).entries (type_entry unit) (base + type_place unit)
type_stands base u program l r unit = last_stands (unit_part base u program l r unit).entries base 1 functions_at unit (unit_stands base u program l r unit)

-- A unit stands at a place. Its program and its lists stand at places of 32 bits.
module _ (section : List ℕ) (base u program l r : ℕ) (unit : UnitDrawn) (small : IsUnitSmall unit) (few : u < 4096) (few_program : program < 256 ^ 4) (few_locations : 16 + (l + length (unit_locations unit)) < 256 ^ 4) (few_ranges : 16 + (r + length (unit_ranges u unit)) < 256 ^ 4) (there : LiesAt section base (unit_bytes u program l r unit)) where
  unit_listed : IsListed section declared_read 0 (unit_tree unit) 0 0 (base + 12) (base + (type_place unit + 8)) (unit_part base u program l r unit)
  unfolding unit_bytes
  unit_listed =
      let place : ℕ = type_place unit in
      let inner : ℕ = base + (place + 7) in
      let behind : ℕ = base + (place + 8) in
      let head : List ℕ = unit_head_bytes place in
      let root : List ℕ = root_bytes (unit_base u) program in
      let functions : List ℕ = functions_bytes u place 0 functions_at l r unit in
      let last : List ℕ = base_type_bytes ++ 0 ∷ [] in
      let l1 : LiesAt section (base + 12) (root ++ (functions ++ last)) = lies_behind section base head (root ++ (functions ++ last)) 12 (head_length place) there in
      let l2 : LiesAt section (base + functions_at) (functions ++ last) = lies_from section (base + 12 + 34) (base + functions_at) (functions ++ last) (omega arith) (lies_behind section (base + 12) root (functions ++ last) 34 (root_length (unit_base u) program) l1) in
      let size : functions_at + length functions ≡ place = functions_length u place 0 functions_at l r unit in
      let l3 : LiesAt section (base + place) last = lies_from section (base + functions_at + length functions) (base + place) last (omega (arith, size)) (lies_behind section (base + functions_at) functions last (length functions) refl l2) in
      let l4 : LiesAt section inner (0 ∷ []) = lies_from section (base + place + 7) inner (0 ∷ []) (omega arith) (lies_behind section (base + place) base_type_bytes (0 ∷ []) 7 base_type_length l3) in
      let id : ℕ = entry_behind 1 unit in
      let first : ℕ = value_behind 7 unit in
      let type_part : ForestPart = base_type_part base place first in
      let all_functions : ForestPart = functions_part base u place 0 1 functions_at 7 l r unit in
      let few_type : place ≤ 846 = type_place_small unit small in
      let few_functions : length unit ≤ 8 = small.few in
      let type_is : IsListed section declared_read 1 (Tree base_type_number NoMore NoMore) id first (base + place) inner type_part =
      leaf_listed section declared_read 1 base_type_number id first (base + place) inner inner (first + 3) _ _ _ NoMore no_part (base_type_there section (base + place) inner first (omega arith) (lies_first section (base + place) base_type_bytes (0 ∷ []) l3)) base_type_alone refl (nothing_listed section declared_read 1 (id + 1) (first + 3) inner) in
      let functions_are : IsListed section declared_read 1 (function_trees unit (Tree base_type_number NoMore NoMore)) 1 7 (base + functions_at) inner (followed all_functions type_part) =
      functions_listed section base u place 0 1 functions_at 7 l r id first (base + place) inner unit (Tree base_type_number NoMore NoMore) type_part refl refl refl few (omega (arith, few_functions)) small.functions (omega (arith, few_type)) (omega (arith, few_functions)) few_locations few_ranges (lies_first section (base + functions_at) functions last l2) type_is in
      let entry = root_there section (base + 12) (base + functions_at) (unit_base u) program (omega arith) (omega (arith, few)) few_program (lies_first section (base + 12) root (functions ++ last) l1) in
      let coded : SpellsBetween (Uleb 0) section inner behind = spells_there (Uleb 0) section inner behind (0 ∷ []) (omega arith) l4 (uleb_byte 0 (omega arith)) in
      let all = node_listed section declared_read 0 root_number 0 0 (base + 12) (base + functions_at) inner behind behind (0 + 1 + length (followed all_functions type_part).entries) (0 + 7 + length (followed all_functions type_part).values) _ _ _ (function_trees unit (Tree base_type_number NoMore NoMore)) NoMore (followed all_functions type_part) no_part entry root_filled functions_are coded refl refl (nothing_listed section declared_read 0 (0 + 1 + length (followed all_functions type_part).entries) (0 + 7 + length (followed all_functions type_part).values) behind) in
      subst (λ (z : ForestPart). IsListed section declared_read 0 (unit_tree unit) 0 0 (base + 12) behind z) (ap (λ z. followed (root_part base u program) z) (followed_assoc all_functions type_part (end_part 0 inner))) all

  -- its header stands there
  pub unit_head_there : IsHead section (head_read base unit)
  unfolding unit_bytes
  unit_head_there =
      let place : ℕ = type_place unit in
      let rest : List ℕ = root_bytes (unit_base u) program ++ (functions_bytes u place 0 functions_at l r unit ++ (base_type_bytes ++ 0 ∷ [])) in
      let size : length (unit_bytes u program l r unit) ≡ place + 8 = unit_size u program l r unit in
      let grows : functions_at + length (functions_bytes u place 0 functions_at l r unit) ≡ place = functions_length u place 0 functions_at l r unit in
      head_there section base place (omega (arith, type_place_small unit small)) (omega (arith, grows)) (omega (arith, lies_inside section base (unit_bytes u program l r unit) there, size)) (lies_first section base (unit_head_bytes place) rest there)

  unit_is_forest : IsForest section declared_read (base + 12) (listed_to (unit_read section base u program l r unit).forest (base + (type_place unit + 8)))
  unit_is_forest = record {
    root = root_number;
    children = function_trees unit (Tree base_type_number NoMore NoMore);
    listed = unit_listed.listed (nothing_from (base + 12)) refl refl refl;
  }

  unit_held : IsUnitHeld section (head_read base unit) declared_read (unit_read section base u program l r unit).forest
  unit_held =
      let place : ℕ = base + (type_place unit + 8) in
      (place, record { tree = unit_is_forest; inside = omega arith; padded = λ k from to. absurd (omega (arith, from, to)) })

  -- and it is read
  pub unit_is_read : IsUnitRead section table_bytes (unit_read section base u program l r unit)
  unit_is_read = record {
    named = table_filled;
    table = table_is_read;
    section = refl;
    entries = subst (λ (z : List Declared). IsUnitHeld section (head_read base unit) z (unit_read section base u program l r unit).forest) (sym declarations_are) unit_held;
  }

  -- its entries say this
  pub unit_says : described (unit_read section base u program l r unit) ≡ (unit_part base u program l r unit).says
  unit_says =
      let part : ForestPart = unit_part base u program l r unit in
      ap (λ (z : List Declared). map (described_by section z part.values) part.entries) declarations_are ∙ ap (λ (z : List Value). map (described_by section declared_read z) part.entries) (sym (append-nil part.values)) ∙ unit_listed.said [] [] refl
