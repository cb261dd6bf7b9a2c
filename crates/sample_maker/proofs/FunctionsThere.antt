-- Functions of a generated file where they stand, with their parameters and blocks.
use Rattle.std.proofs.Common.{◌≡◌, ◌≤◌, ◌<◌, ◌+◌, ◌*◌, ◌^◌, ℕ, suc, List, [], ◌∷◌, ◌++◌, length, map, true, false, ◌∙◌, sym, ap, refl, subst, arith}
use Rattle.std.specs.List.{All, concat}
use Rattle.std.proofs.lemmas.List.{append_assoc, length-append, get_or-append-add}
use Rattle.leb_codec.specs.Leb.{Uleb}
use Rattle.entry_arena.specs.declared.entry.Entry.{Entry}
use Rattle.entry_arena.specs.Arena.{entry_at}
use Rattle.entry_arena.specs.Trees.{declared_at, Siblings, SpellsBetween}
use Rattle.entry_arena.specs.Trees.Siblings.{NoMore, Tree}
use Rattle.sample_maker.specs.declared.drawn.Parameter.{Parameter}
use Rattle.sample_maker.specs.Numbered.{join_from}
use Rattle.sample_maker.specs.Drawn.{FunctionDrawn}
use Rattle.sample_maker.specs.Places.{function_offset, function_address, block_count, entry_count, entry_behind}
use Rattle.sample_maker.specs.inside.Bytes.{word, long, part_header_size, located_bytes, function_entry_bytes, parameter_entry_bytes, block_entry_bytes}
use Rattle.sample_maker.specs.inside.Files.{function_locations, function_ranges, block_size, function_size, place_behind, parameter_entries_bytes, block_entry_of, children_bytes, function_bytes_of, functions_bytes}
use Rattle.sample_maker.specs.inside.Small.{IsFunctionSmall}
use Rattle.sample_maker.specs.inside.ReadUnits.{declared_read, function_number, parameter_number, block_number, ForestPart, followed, end_part, function_part, parameter_part, parameters_part, block_part, block_at, children_end, block_values, block_first, value_count, value_behind, functions_part, EntryStands, FunctionsStand, parameter_trees, block_tree, function_trees}
use Rattle.sample_maker.proofs.Lengths.{word_length, long_length}
use Rattle.sample_maker.proofs.SmallUnits.{function_size_small}
use Rattle.sample_maker.proofs.TableRead.{uleb_byte}
use Rattle.sample_maker.proofs.PlacedBytes.{LiesAt, lies_first, lies_behind, lies_from, spells_there}
use Rattle.sample_maker.proofs.ForestParts.{followed_assoc, IsListed, nothing_listed, leaf_listed, node_listed}
use Rattle.sample_maker.proofs.EntriesThere.{parameter_there, block_there, function_there}

-- LENGTHS

parameter_length : (line type list views : ℕ) → length (parameter_entry_bytes line type list views) ≡ 16
unfolding parameter_entry_bytes
parameter_length line type list views = omega (arith, length-append (word type) (word list ++ word views), length-append (word list) (word views), word_length type, word_length list, word_length views)

parameters_length : (line type offset size l : ℕ) (ps : List Parameter) → length (parameter_entries_bytes line type offset size l ps) ≡ 16 * length ps
parameters_length line type offset size l [] = refl
parameters_length line type offset size l (p ∷ ps) =
    let more : ℕ = l + length (located_bytes offset size p) in
    let own : List ℕ = parameter_entry_bytes line type (part_header_size + l + 4) (part_header_size + l) in
    omega (arith, length-append own (parameter_entries_bytes line type offset size more ps), parameter_length line type (part_header_size + l + 4) (part_header_size + l), parameters_length line type offset size more ps)

block_length : (r : ℕ) (sizes : List ℕ) → length (block_entry_of r sizes) ≡ block_size sizes
unfolding block_entry_bytes
block_length r [] = refl
block_length r (size ∷ sizes) = omega (arith, word_length (part_header_size + r))

entry_length : (line type low size sibling : ℕ) → length (function_entry_bytes line type low size sibling) ≡ 30
unfolding function_entry_bytes
entry_length line type low size sibling =
    omega (arith, length-append (word type) (long low ++ (long size ++ (1 ∷ 0x9c ∷ word sibling))), length-append (long low) (long size ++ (1 ∷ 0x9c ∷ word sibling)), length-append (long size) (1 ∷ 0x9c ∷ word sibling), word_length type, long_length low, long_length size, word_length sibling)

children_length : (i type l r : ℕ) (f : FunctionDrawn) → length (children_bytes i type l r f) ≡ 16 * length f.parameters + block_size f.ranges + 1
children_length i type l r f =
    let ps : List ℕ = parameter_entries_bytes (suc i) type (function_offset i) f.size l f.parameters in
    omega (arith, length-append ps (block_entry_of r f.ranges ++ 0 ∷ []), length-append (block_entry_of r f.ranges) (0 ∷ []), parameters_length (suc i) type (function_offset i) f.size l f.parameters, block_length r f.ranges)

pub function_length : (u i type sibling l r : ℕ) (f : FunctionDrawn) → length (function_bytes_of u i type sibling l r f) ≡ function_size f
unfolding function_bytes_of
function_length u i type sibling l r f =
    let own : List ℕ = function_entry_bytes (suc i) type (function_address u i) f.size sibling in
    omega (arith, length-append own (children_bytes i type l r f), entry_length (suc i) type (function_address u i) f.size sibling, children_length i type l r f)

pub functions_length : (u type i place l r : ℕ) (fs : List FunctionDrawn) → place + length (functions_bytes u type i place l r fs) ≡ place_behind place fs
functions_length u type i place l r [] = omega arith
functions_length u type i place l r (f ∷ fs) =
    let behind : ℕ = place + function_size f in
    let ll : ℕ = l + length (function_locations i f) in
    let rr : ℕ = r + length (function_ranges u i f) in
    omega (arith, length-append (function_bytes_of u i type behind l r f) (functions_bytes u type (suc i) behind ll rr fs), function_length u i type behind l r f, functions_length u type (suc i) behind ll rr fs)

-- COUNTS

pub parameters_count : (base line type offset size place first l : ℕ) (ps : List Parameter) → length (parameters_part base line type offset size place first l ps).entries ≡ length ps
parameters_count base line type offset size place first l [] = refl
parameters_count base line type offset size place first l (p ∷ ps) = ap suc (parameters_count base line type offset size (place + 16) (first + 5) (l + length (located_bytes offset size p)) ps)

parameters_values : (base line type offset size place first l : ℕ) (ps : List Parameter) → length (parameters_part base line type offset size place first l ps).values ≡ 5 * length ps
parameters_values base line type offset size place first l [] = refl
parameters_values base line type offset size place first l (p ∷ ps) =
    let rest : length (parameters_part base line type offset size (place + 16) (first + 5) (l + length (located_bytes offset size p)) ps).values ≡ 5 * length ps = parameters_values base line type offset size (place + 16) (first + 5) (l + length (located_bytes offset size p)) ps in
    omega (arith, rest)

pub block_entries : (base place first r : ℕ) (sizes : List ℕ) → length (block_part base place first r sizes).entries ≡ block_count sizes
block_entries base place first r [] = refl
block_entries base place first r (size ∷ sizes) = refl

block_valued : (base place first r : ℕ) (sizes : List ℕ) → length (block_part base place first r sizes).values ≡ block_values sizes
block_valued base place first r [] = refl
block_valued base place first r (size ∷ sizes) = refl

pub functions_entries : (base u type i id place first l r : ℕ) (fs : List FunctionDrawn) → entry_behind id fs ≡ id + length (functions_part base u type i id place first l r fs).entries
functions_entries base u type i id place first l r [] = omega arith
functions_entries base u type i id place first l r (f ∷ fs) =
    let behind : ℕ = place + function_size f in
    let ll : ℕ = l + length (function_locations i f) in
    let rr : ℕ = r + length (function_ranges u i f) in
    let parameters : ForestPart = parameters_part base (suc i) type (function_offset i) f.size (place + 30) (first + 9) l f.parameters in
    let block : ForestPart = block_part base (place + block_at f) (first + block_first f) r f.ranges in
    let rest : ForestPart = functions_part base u type (suc i) (id + entry_count f) behind (first + value_count f) ll rr fs in
    omega (arith, length-append parameters.entries (block.entries ++ rest.entries), length-append block.entries rest.entries, parameters_count base (suc i) type (function_offset i) f.size (place + 30) (first + 9) l f.parameters, block_entries base (place + block_at f) (first + block_first f) r f.ranges, functions_entries base u type (suc i) (id + entry_count f) behind (first + value_count f) ll rr fs)

pub functions_values : (base u type i id place first l r : ℕ) (fs : List FunctionDrawn) → value_behind first fs ≡ first + length (functions_part base u type i id place first l r fs).values
functions_values base u type i id place first l r [] = omega arith
functions_values base u type i id place first l r (f ∷ fs) =
    let behind : ℕ = place + function_size f in
    let ll : ℕ = l + length (function_locations i f) in
    let rr : ℕ = r + length (function_ranges u i f) in
    let parameters : ForestPart = parameters_part base (suc i) type (function_offset i) f.size (place + 30) (first + 9) l f.parameters in
    let block : ForestPart = block_part base (place + block_at f) (first + block_first f) r f.ranges in
    let rest : ForestPart = functions_part base u type (suc i) (id + entry_count f) behind (first + value_count f) ll rr fs in
    omega (arith, length-append parameters.values (block.values ++ rest.values), length-append block.values rest.values, parameters_values base (suc i) type (function_offset i) f.size (place + 30) (first + 9) l f.parameters, block_valued base (place + block_at f) (first + block_first f) r f.ranges, functions_values base u type (suc i) (id + entry_count f) behind (first + value_count f) ll rr fs)

-- functions have few entries and values

blocks_few : (sizes : List ℕ) → block_count sizes ≤ 1
blocks_few [] = omega arith
blocks_few (size ∷ sizes) = omega arith

block_values_few : (sizes : List ℕ) → block_values sizes ≤ 1
block_values_few [] = omega arith
block_values_few (size ∷ sizes) = omega arith

pub entries_few : (id : ℕ) (fs : List FunctionDrawn) → All IsFunctionSmall fs → entry_behind id fs ≤ id + 5 * length fs
entries_few id [] small = omega arith
entries_few id (f ∷ fs) small =
    omega (arith, (small 0 f (omega arith)).few_parameters, blocks_few f.ranges, entries_few (id + entry_count f) fs (λ k d lt. small (suc k) d (omega (arith, lt))))

pub values_few : (first : ℕ) (fs : List FunctionDrawn) → All IsFunctionSmall fs → value_behind first fs ≤ first + 25 * length fs
values_few first [] small = omega arith
values_few first (f ∷ fs) small =
    omega (arith, (small 0 f (omega arith)).few_parameters, block_values_few f.ranges, values_few (first + value_count f) fs (λ k d lt. small (suc k) d (omega (arith, lt))))

-- WHERE FUNCTIONS STAND

-- the entry behind others is the one with their count
entry_stands : (earlier later : List Entry) (e : Entry) (id place : ℕ) → length earlier ≡ id → e.at ≡ place → EntryStands (earlier ++ (e ∷ later)) id place
entry_stands earlier later e id place count here =
    let size : length (earlier ++ (e ∷ later)) ≡ length earlier + suc (length later) = length-append earlier (e ∷ later) in
    let number : id ≡ length earlier + 0 = omega (arith, count) in
    let there : entry_at (earlier ++ (e ∷ later)) id ≡ e = ap (λ (k : ℕ). entry_at (earlier ++ (e ∷ later)) k) number ∙ get_or-append-add earlier (e ∷ later) 0 (record { at = 0; len = 0; depth = 0; decl = 0; first = 0; count = 0 }) in
    (omega (arith, size, count), ap (λ (z : Entry). z.at) there ∙ here)

pub functions_stand : (base u type i id place first l r : ℕ) (fs : List FunctionDrawn) (entries earlier later : List Entry) (last : Entry) → length earlier ≡ id → last.at ≡ base + place_behind place fs → entries ≡ earlier ++ ((functions_part base u type i id place first l r fs).entries ++ (last ∷ later)) → FunctionsStand entries base id place fs
functions_stand base u type i id place first l r [] entries earlier later last count here are = subst (λ (z : List Entry). EntryStands z id (base + place)) (sym are) (entry_stands earlier later last id (base + place) count here)
functions_stand base u type i id place first l r (f ∷ fs) entries earlier later last count here are =
    let behind : ℕ = place + function_size f in
    let ll : ℕ = l + length (function_locations i f) in
    let rr : ℕ = r + length (function_ranges u i f) in
    let e : Entry = record { at = base + place; len = 30; depth = 1; decl = function_number; first = first; count = 9 } in
    let parameters : List Entry = (parameters_part base (suc i) type (function_offset i) f.size (place + 30) (first + 9) l f.parameters).entries in
    let block : List Entry = (block_part base (place + block_at f) (first + block_first f) r f.ranges).entries in
    let rest : List Entry = (functions_part base u type (suc i) (id + entry_count f) behind (first + value_count f) ll rr fs).entries in
    let tail : List Entry = last ∷ later in
    let own : List Entry = e ∷ (parameters ++ block) in
    let apart : (parameters ++ (block ++ rest)) ++ tail ≡ (parameters ++ block) ++ (rest ++ tail) = ap (λ z. z ++ tail) (sym (append_assoc parameters block rest)) ∙ append_assoc (parameters ++ block) rest tail in
    let moved : earlier ++ (e ∷ ((parameters ++ (block ++ rest)) ++ tail)) ≡ (earlier ++ own) ++ (rest ++ tail) = ap (λ z. earlier ++ (e ∷ z)) apart ∙ sym (append_assoc earlier own (rest ++ tail)) in
    let size : length (earlier ++ own) ≡ id + entry_count f = omega (arith, length-append earlier own, length-append parameters block, count, parameters_count base (suc i) type (function_offset i) f.size (place + 30) (first + 9) l f.parameters, block_entries base (place + block_at f) (first + block_first f) r f.ranges) in
    (subst (λ (z : List Entry). EntryStands z id (base + place)) (sym are) (entry_stands earlier ((parameters ++ (block ++ rest)) ++ tail) e id (base + place) count refl), functions_stand base u type (suc i) (id + entry_count f) behind (first + value_count f) ll rr fs entries (earlier ++ own) later last size here (are ∙ moved))

-- DECLARATIONS

parameter_alone : (declared_at declared_read parameter_number).children ≡ false
unfolding declared_read
parameter_alone = refl

block_alone : (declared_at declared_read block_number).children ≡ false
unfolding declared_read
block_alone = refl

function_filled : (declared_at declared_read function_number).children ≡ true
unfolding declared_read
function_filled = refl

module _ (section : List ℕ) where
  -- the same where numbers and places are told otherwise
  pub listed_from : (depth : ℕ) (trees : Siblings) (id id2 first first2 from from2 to : ℕ) (p : ForestPart) → id2 ≡ id → first2 ≡ first → from2 ≡ from → IsListed section declared_read depth trees id2 first2 from2 to p → IsListed section declared_read depth trees id first from to p
  listed_from depth trees id id2 first first2 from from2 to p a b c l =
      subst (λ (z : ℕ). IsListed section declared_read depth trees id first z to p) c (subst (λ (z : ℕ). IsListed section declared_read depth trees id z from2 to p) b (subst (λ (z : ℕ). IsListed section declared_read depth trees z first2 from2 to p) a l))

  -- PARAMETERS

  -- in front of what follows them
  parameters_listed : (base line type offset size place first l id next_id next_first next_at to : ℕ) (ps : List Parameter) (more : Siblings) (p : ForestPart) → next_id ≡ id + length ps → next_first ≡ first + 5 * length ps → next_at ≡ base + (place + 16 * length ps) → line < 128 → type < 256 ^ 4 → 16 + (l + length (concat (map (located_bytes offset size) ps))) < 256 ^ 4 → LiesAt section (base + place) (parameter_entries_bytes line type offset size l ps) → IsListed section declared_read 2 more next_id next_first next_at to p → IsListed section declared_read 2 (parameter_trees ps more) id first (base + place) to (followed (parameters_part base line type offset size place first l ps) p)
  parameters_listed base line type offset size place first l id next_id next_first next_at to [] more p ids firsts ats few_line few_type few_lists there rest = listed_from 2 more id next_id first next_first (base + place) next_at to p (omega (arith, ids)) (omega (arith, firsts)) (omega (arith, ats)) rest
  parameters_listed base line type offset size place first l id next_id next_first next_at to (x ∷ ps) more p ids firsts ats few_line few_type few_lists there rest =
      let own : List ℕ = parameter_entry_bytes line type (part_header_size + l + 4) (part_header_size + l) in
      let ll : ℕ = l + length (located_bytes offset size x) in
      let left : List ℕ = parameter_entries_bytes line type offset size ll ps in
      let size_lists : length (concat (map (located_bytes offset size) (x ∷ ps))) ≡ length (located_bytes offset size x) + length (concat (map (located_bytes offset size) ps)) = length-append (located_bytes offset size x) (concat (map (located_bytes offset size) ps)) in
      let entry = parameter_there section (base + place) (base + (place + 16)) line type (part_header_size + l + 4) (part_header_size + l) first (omega arith) few_line few_type (omega (arith, few_lists)) (omega (arith, few_lists)) (lies_first section (base + place) own left there) in
      let behind : LiesAt section (base + (place + 16)) left = lies_from section (base + place + 16) (base + (place + 16)) left (omega arith) (lies_behind section (base + place) own left 16 (parameter_length line type (part_header_size + l + 4) (part_header_size + l)) there) in
      let later : IsListed section declared_read 2 (parameter_trees ps more) (id + 1) (first + 5) (base + (place + 16)) to (followed (parameters_part base line type offset size (place + 16) (first + 5) ll ps) p) =
      parameters_listed base line type offset size (place + 16) (first + 5) ll (id + 1) next_id next_first next_at to ps more p (omega (arith, ids)) (omega (arith, firsts)) (omega (arith, ats)) few_line few_type (omega (arith, few_lists, size_lists)) behind rest in
      let all = leaf_listed section declared_read 2 parameter_number id first (base + place) (base + (place + 16)) to (first + 5) _ _ _ (parameter_trees ps more) (followed (parameters_part base line type offset size (place + 16) (first + 5) ll ps) p) entry parameter_alone refl later in
      subst (λ (z : ForestPart). IsListed section declared_read 2 (parameter_trees (x ∷ ps) more) id first (base + place) to z) (sym (followed_assoc (parameter_part base line type place first l) (parameters_part base line type offset size (place + 16) (first + 5) ll ps) p)) all

  -- BLOCKS

  block_listed : (base place first r id to : ℕ) (sizes : List ℕ) → to ≡ base + (place + block_size sizes) → part_header_size + r < 256 ^ 4 → LiesAt section (base + place) (block_entry_of r sizes) → IsListed section declared_read 2 (block_tree sizes) id first (base + place) to (block_part base place first r sizes)
  block_listed base place first r id to [] end few there =
      let same : base + place ≡ to = omega (arith, end) in
      subst (λ (z : ℕ). IsListed section declared_read 2 NoMore id first (base + place) z (block_part base place first r [])) same (nothing_listed section declared_read 2 id first (base + place))
  block_listed base place first r id to (size ∷ sizes) end few there =
      leaf_listed section declared_read 2 block_number id first (base + place) to to (first + 1) _ _ _ NoMore _ (block_there section (base + place) to (part_header_size + r) first (omega (arith, end)) few there) block_alone refl (nothing_listed section declared_read 2 (id + 1) (first + 1) to)

  -- FUNCTIONS

  regrouped : (one parameters block end rest p : ForestPart) → followed one (followed (followed parameters block) (followed end (followed rest p))) ≡ followed (followed one (followed parameters (followed block (followed end rest)))) p
  regrouped one parameters block end rest p =
      ap (λ z. followed one z) (followed_assoc parameters block (followed end (followed rest p)) ∙ ap (λ z. followed parameters z) (ap (λ z. followed block z) (sym (followed_assoc end rest p)) ∙ sym (followed_assoc block (followed end rest) p)) ∙ sym (followed_assoc parameters (followed block (followed end rest)) p)) ∙ sym (followed_assoc one (followed parameters (followed block (followed end rest))) p)

  -- a function with its children, in front of what follows it
  function_listed : (base u type i id place first l r next_id next_first next_at to : ℕ) (f : FunctionDrawn) (more : Siblings) (rest : ForestPart) (p : ForestPart) → next_id ≡ id + entry_count f → next_first ≡ first + value_count f → next_at ≡ base + (place + function_size f) → u < 4096 → i < 8 → IsFunctionSmall f → type < 256 ^ 4 → place + function_size f < 256 ^ 4 → 16 + (l + length (function_locations i f)) < 256 ^ 4 → 16 + r < 256 ^ 4 → LiesAt section (base + place) (function_bytes_of u i type (place + function_size f) l r f) → IsListed section declared_read 1 more next_id next_first next_at to (followed rest p) → IsListed section declared_read 1 (Tree function_number (parameter_trees f.parameters (block_tree f.ranges)) more) id first (base + place) to (followed (followed (function_part base u i type (place + function_size f) place first f) (followed (parameters_part base (suc i) type (function_offset i) f.size (place + 30) (first + 9) l f.parameters) (followed (block_part base (place + block_at f) (first + block_first f) r f.ranges) (followed (end_part id (base + (place + children_end f))) rest)))) p)
  unfolding function_bytes_of
  function_listed base u type i id place first l r next_id next_first next_at to f more rest p ids firsts ats few_u few_i small few_type few_place few_locations few_ranges there later =
      let sibling : ℕ = place + function_size f in
      let low : ℕ = function_address u i in
      let line : ℕ = suc i in
      let inner : ℕ = base + (place + children_end f) in
      let own : List ℕ = function_entry_bytes line type low f.size sibling in
      let first_bytes : List ℕ = parameter_entries_bytes line type (function_offset i) f.size l f.parameters in
      let block_bytes : List ℕ = block_entry_of r f.ranges in
      let few_size : f.size < 1024 = small.size in
      let few_low : low < 256 ^ 8 = omega (arith, few_u, few_i) in
      let entry = function_there section (base + place) (base + (place + 30)) line type low f.size sibling first (omega arith) (omega (arith, few_i)) few_type few_low (omega (arith, few_size)) few_place (lies_first section (base + place) own (children_bytes i type l r f) there) in
      let children : LiesAt section (base + (place + 30)) (children_bytes i type l r f) = lies_from section (base + place + 30) (base + (place + 30)) (children_bytes i type l r f) (omega arith) (lies_behind section (base + place) own (children_bytes i type l r f) 30 (entry_length line type low f.size sibling) there) in
      let blocks : LiesAt section (base + (place + block_at f)) (block_bytes ++ 0 ∷ []) = lies_from section (base + (place + 30) + 16 * length f.parameters) (base + (place + block_at f)) (block_bytes ++ 0 ∷ []) (omega arith) (lies_behind section (base + (place + 30)) first_bytes (block_bytes ++ 0 ∷ []) (16 * length f.parameters) (parameters_length line type (function_offset i) f.size l f.parameters) children) in
      let zero_there : LiesAt section inner (0 ∷ []) = lies_from section (base + (place + block_at f) + block_size f.ranges) inner (0 ∷ []) (omega arith) (lies_behind section (base + (place + block_at f)) block_bytes (0 ∷ []) (block_size f.ranges) (block_length r f.ranges) blocks) in
      let block : ForestPart = block_part base (place + block_at f) (first + block_first f) r f.ranges in
      let parameters : ForestPart = parameters_part base line type (function_offset i) f.size (place + 30) (first + 9) l f.parameters in
      let block_is : IsListed section declared_read 2 (block_tree f.ranges) (id + 1 + length f.parameters) (first + block_first f) (base + (place + block_at f)) inner block =
      block_listed base (place + block_at f) (first + block_first f) r (id + 1 + length f.parameters) inner f.ranges (omega arith) (omega (arith, few_ranges)) (lies_first section (base + (place + block_at f)) block_bytes (0 ∷ []) blocks) in
      let inside_is : IsListed section declared_read 2 (parameter_trees f.parameters (block_tree f.ranges)) (id + 1) (first + 9) (base + (place + 30)) inner (followed parameters block) =
      parameters_listed base line type (function_offset i) f.size (place + 30) (first + 9) l (id + 1) (id + 1 + length f.parameters) (first + block_first f) (base + (place + block_at f)) inner f.parameters (block_tree f.ranges) block refl (omega arith) (omega arith) (omega (arith, few_i)) few_type few_locations (lies_first section (base + (place + 30)) first_bytes (block_bytes ++ 0 ∷ []) children) block_is in
      let coded : SpellsBetween (Uleb 0) section inner next_at = spells_there (Uleb 0) section inner next_at (0 ∷ []) (omega (arith, ats)) zero_there (uleb_byte 0 (omega arith)) in
      let entries : length (followed parameters block).entries ≡ length f.parameters + block_count f.ranges = omega (arith, length-append parameters.entries block.entries, parameters_count base line type (function_offset i) f.size (place + 30) (first + 9) l f.parameters, block_entries base (place + block_at f) (first + block_first f) r f.ranges) in
      let values : length (followed parameters block).values ≡ 5 * length f.parameters + block_values f.ranges = omega (arith, length-append parameters.values block.values, parameters_values base line type (function_offset i) f.size (place + 30) (first + 9) l f.parameters, block_valued base (place + block_at f) (first + block_first f) r f.ranges) in
      let all = node_listed section declared_read 1 function_number id first (base + place) (base + (place + 30)) inner next_at to next_id next_first _ _ _ (parameter_trees f.parameters (block_tree f.ranges)) more (followed parameters block) (followed rest p) entry function_filled inside_is coded (omega (arith, ids, entries)) (omega (arith, firsts, values)) later in
      subst (λ (z : ForestPart). IsListed section declared_read 1 (Tree function_number (parameter_trees f.parameters (block_tree f.ranges)) more) id first (base + place) to z) (regrouped (function_part base u i type sibling place first f) parameters block (end_part id inner) rest p) all

  -- functions, in front of what follows them
  pub functions_listed : (base u type i id place first l r next_id next_first next_at to : ℕ) (fs : List FunctionDrawn) (more : Siblings) (p : ForestPart) → next_id ≡ entry_behind id fs → next_first ≡ value_behind first fs → next_at ≡ base + place_behind place fs → u < 4096 → i + length fs ≤ 8 → All IsFunctionSmall fs → type < 256 ^ 4 → place + 100 * length fs < 256 ^ 4 → 16 + (l + length (join_from function_locations i fs)) < 256 ^ 4 → 16 + (r + length (join_from (function_ranges u) i fs)) < 256 ^ 4 → LiesAt section (base + place) (functions_bytes u type i place l r fs) → IsListed section declared_read 1 more next_id next_first next_at to p → IsListed section declared_read 1 (function_trees fs more) id first (base + place) to (followed (functions_part base u type i id place first l r fs) p)
  functions_listed base u type i id place first l r next_id next_first next_at to [] more p ids firsts ats few_u few small few_type few_place few_locations few_ranges there later = listed_from 1 more id next_id first next_first (base + place) next_at to p ids firsts ats later
  functions_listed base u type i id place first l r next_id next_first next_at to (f ∷ fs) more p ids firsts ats few_u few small few_type few_place few_locations few_ranges there later =
      let own : IsFunctionSmall f = small 0 f (omega arith) in
      let others : All IsFunctionSmall fs = λ k d lt. small (suc k) d (omega (arith, lt)) in
      let behind : ℕ = place + function_size f in
      let ll : ℕ = l + length (function_locations i f) in
      let rr : ℕ = r + length (function_ranges u i f) in
      let few_size : function_size f ≤ 100 = function_size_small f own in
      let locations : length (join_from function_locations i (f ∷ fs)) ≡ length (function_locations i f) + length (join_from function_locations (suc i) fs) = length-append (function_locations i f) (join_from function_locations (suc i) fs) in
      let ranges : length (join_from (function_ranges u) i (f ∷ fs)) ≡ length (function_ranges u i f) + length (join_from (function_ranges u) (suc i) fs) = length-append (function_ranges u i f) (join_from (function_ranges u) (suc i) fs) in
      let bytes : List ℕ = function_bytes_of u i type behind l r f in
      let left : List ℕ = functions_bytes u type (suc i) behind ll rr fs in
      let left_there : LiesAt section (base + behind) left = lies_from section (base + place + function_size f) (base + behind) left (omega arith) (lies_behind section (base + place) bytes left (function_size f) (function_length u i type behind l r f) there) in
      let rest : ForestPart = functions_part base u type (suc i) (id + entry_count f) behind (first + value_count f) ll rr fs in
      let rest_is : IsListed section declared_read 1 (function_trees fs more) (id + entry_count f) (first + value_count f) (base + behind) to (followed rest p) =
      functions_listed base u type (suc i) (id + entry_count f) behind (first + value_count f) ll rr next_id next_first next_at to fs more p ids firsts ats few_u (omega (arith, few)) others few_type (omega (arith, few_place, few_size)) (omega (arith, few_locations, locations)) (omega (arith, few_ranges, ranges)) left_there later in
      function_listed base u type i id place first l r (id + entry_count f) (first + value_count f) (base + behind) to f (function_trees fs more) rest p refl refl refl few_u (omega (arith, few)) own few_type (omega (arith, few_place, few_size)) (omega (arith, few_locations, locations)) (omega (arith, few_ranges, ranges)) (lies_first section (base + place) bytes left there) rest_is
