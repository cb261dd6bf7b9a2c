-- The entries of a unit as they are placed: which parameters and blocks they are of, and what stands where they refer to.
use Rattle.std.proofs.Common.{◌≡◌, ◌<◌, ◌+◌, ℕ, suc, List, [], ◌∷◌, ◌++◌, length, map, ◌∙◌, sym, ap, refl, arith, inl, inr}
use Rattle.std.specs.List.{All, Contains}
use Rattle.std.proofs.lemmas.List.{append_assoc, length-append, get_or-map, length-map}
use Rattle.std.proofs.Math.Seq.{get_or-append_seam}
use Rattle.std.proofs.lemmas.List.Elements.{All-nil, All-cons, All-append, All-map, All-weaker, All-contains_itself, Contains-append_left, Contains-append_right, Contains-append_cases}
use Rattle.entry_arena.specs.declared.entry.Entry.{Entry}
use Rattle.entry_arena.specs.Arena.{entry_at}
use Rattle.sample_maker.specs.declared.drawn.Parameter.{Parameter}
use Rattle.sample_maker.specs.Drawn.{FunctionDrawn}
use Rattle.sample_maker.specs.Places.{function_offset, entry_count, entry_behind, type_entry}
use Rattle.sample_maker.specs.inside.Bytes.{located_bytes}
use Rattle.sample_maker.specs.inside.Files.{function_locations, function_ranges, function_size, functions_at, place_behind, type_place}
use Rattle.sample_maker.specs.inside.ReadLists.{placed_from, BlockPlaced, block_placed, function_blocks, ParameterPlaced, parameters_placed, function_parameters}
use Rattle.sample_maker.specs.inside.ReadUnits.{parameters_part, block_part, block_at, block_first, value_count, value_behind, functions_part, unit_part}
use Rattle.sample_maker.specs.inside.ReadFile.{UnitPlaced, EntryPlaced, functions_placed, entries_placed, sibling_place, sibling_entry}
use Rattle.sample_maker.specs.inside.ReadFile.EntryPlaced.{TheRoot, TheFunction, TheParameter, TheBlock, TheType}
use Rattle.sample_maker.proofs.FunctionsThere.{parameters_count, block_entries}

-- PARAMETERS AND BLOCKS

-- a parameter or a block is one of these
abbrev IsOneOf : List ParameterPlaced → List BlockPlaced → EntryPlaced → Type 0
IsOneOf qs bs (TheParameter q) = Contains qs q
IsOneOf qs bs (TheBlock b) = Contains bs b
IsOneOf qs bs e = Unit {0}

one_of_later : (qs more : List ParameterPlaced) (bs others : List BlockPlaced) (e : EntryPlaced) → IsOneOf more others e → IsOneOf (qs ++ more) (bs ++ others) e
one_of_later qs more bs others TheRoot one = tt
one_of_later qs more bs others (TheFunction f) one = tt
one_of_later qs more bs others (TheParameter q) one = Contains-append_right qs more q one
one_of_later qs more bs others (TheBlock b) one = Contains-append_right bs others b one
one_of_later qs more bs others TheType one = tt

functions_known : (u i id place l r : ℕ) (fs : List FunctionDrawn) → All (IsOneOf (function_parameters u i l fs) (function_blocks u i r fs)) (functions_placed u i id place l r fs)
functions_known u i id place l r [] = All-nil (IsOneOf [] [])
functions_known u i id place l r (f ∷ fs) =
    let ll : ℕ = l + length (function_locations i f) in
    let rr : ℕ = r + length (function_ranges u i f) in
    let qs : List ParameterPlaced = parameters_placed u i f.size l f.parameters in
    let bs : List BlockPlaced = block_placed u i r f.ranges in
    let more : List ParameterPlaced = function_parameters u (suc i) ll fs in
    let others : List BlockPlaced = function_blocks u (suc i) rr fs in
    let rest : List EntryPlaced = functions_placed u (suc i) (id + entry_count f) (place + function_size f) ll rr fs in
    let P : EntryPlaced → Type 0 = IsOneOf (qs ++ more) (bs ++ others) in
    let own : All P (map TheParameter qs) = All-map P TheParameter qs (All-weaker (Contains qs) (Contains (qs ++ more)) (λ q one. Contains-append_left qs more q one) qs (All-contains_itself qs)) in
    let blocks : All P (map TheBlock bs) = All-map P TheBlock bs (All-weaker (Contains bs) (Contains (bs ++ others)) (λ b one. Contains-append_left bs others b one) bs (All-contains_itself bs)) in
    let later : All P rest = All-weaker (IsOneOf more others) P (one_of_later qs more bs others) rest (functions_known u (suc i) (id + entry_count f) (place + function_size f) ll rr fs) in
    All-cons P (TheFunction (record { number = i; entry = id; at = place; function = f })) (map TheParameter qs ++ (map TheBlock bs ++ rest)) tt (All-append P (map TheParameter qs) (map TheBlock bs ++ rest) own (All-append P (map TheBlock bs) rest blocks later))

contains_map : {X Y : Type 0} (f : X → Y) (xs : List X) (x : X) → Contains xs x → Contains (map f xs) (f x)
contains_map f xs x (k, inside, same) =
    let size : length (map f xs) ≡ length xs = length-map xs f in
    (k, omega (arith, size, inside), get_or-map f xs k x (f x) inside ∙ ap f same)

contains_behind : {X : Type 0} (x y : X) (xs : List X) → Contains xs y → Contains (x ∷ xs) y
contains_behind x y xs (k, inside, same) = (suc k, omega (arith, inside), same)

parameter_there : (u i id place l r : ℕ) (fs : List FunctionDrawn) (q : ParameterPlaced) → Contains (function_parameters u i l fs) q → Contains (functions_placed u i id place l r fs) (TheParameter q)
parameter_there u i id place l r [] q (k, lt, is) = absurd (omega (arith, lt))
parameter_there u i id place l r (f ∷ fs) q one =
    let ll : ℕ = l + length (function_locations i f) in
    let rr : ℕ = r + length (function_ranges u i f) in
    let qs : List ParameterPlaced = parameters_placed u i f.size l f.parameters in
    let bs : List EntryPlaced = map TheBlock (block_placed u i r f.ranges) in
    let more : List ParameterPlaced = function_parameters u (suc i) ll fs in
    let rest : List EntryPlaced = functions_placed u (suc i) (id + entry_count f) (place + function_size f) ll rr fs in
    let among : Contains (map TheParameter qs ++ (bs ++ rest)) (TheParameter q) = elim (Contains-append_cases qs more q one) [
      | inl own ↦ Contains-append_left (map TheParameter qs) (bs ++ rest) (TheParameter q) (contains_map TheParameter qs q own)
      | inr later ↦ Contains-append_right (map TheParameter qs) (bs ++ rest) (TheParameter q) (Contains-append_right bs rest (TheParameter q) (parameter_there u (suc i) (id + entry_count f) (place + function_size f) ll rr fs q later))
    ] in
    contains_behind (TheFunction (record { number = i; entry = id; at = place; function = f })) (TheParameter q) (map TheParameter qs ++ (bs ++ rest)) among

block_there : (u i id place l r : ℕ) (fs : List FunctionDrawn) (b : BlockPlaced) → Contains (function_blocks u i r fs) b → Contains (functions_placed u i id place l r fs) (TheBlock b)
block_there u i id place l r [] b (k, lt, is) = absurd (omega (arith, lt))
block_there u i id place l r (f ∷ fs) b one =
    let ll : ℕ = l + length (function_locations i f) in
    let rr : ℕ = r + length (function_ranges u i f) in
    let qs : List EntryPlaced = map TheParameter (parameters_placed u i f.size l f.parameters) in
    let bs : List BlockPlaced = block_placed u i r f.ranges in
    let others : List BlockPlaced = function_blocks u (suc i) rr fs in
    let rest : List EntryPlaced = functions_placed u (suc i) (id + entry_count f) (place + function_size f) ll rr fs in
    let among : Contains (map TheBlock bs ++ rest) (TheBlock b) = elim (Contains-append_cases bs others b one) [
      | inl own ↦ Contains-append_left (map TheBlock bs) rest (TheBlock b) (contains_map TheBlock bs b own)
      | inr later ↦ Contains-append_right (map TheBlock bs) rest (TheBlock b) (block_there u (suc i) (id + entry_count f) (place + function_size f) ll rr fs b later)
    ] in
    contains_behind (TheFunction (record { number = i; entry = id; at = place; function = f })) (TheBlock b) (qs ++ (map TheBlock bs ++ rest)) (Contains-append_right qs (map TheBlock bs ++ rest) (TheBlock b) among)

-- they are of their unit

placed_of : (u i size n l : ℕ) (ps : List Parameter) → All (λ (q : ParameterPlaced). q.unit ≡ u) (placed_from (λ (k : ℕ) (p : Parameter). located_bytes (function_offset i) size p) (λ (k : ℕ) (before : ℕ) (p : Parameter). record { unit = u; number = i; size = size; parameter = p; at = 12 + before } ∷ []) n l ps)
placed_of u i size n l [] = All-nil (λ (q : ParameterPlaced). q.unit ≡ u)
placed_of u i size n l (p ∷ ps) =
    let more : List ParameterPlaced = placed_from (λ (k : ℕ) (p : Parameter). located_bytes (function_offset i) size p) (λ (k : ℕ) (before : ℕ) (p : Parameter). record { unit = u; number = i; size = size; parameter = p; at = 12 + before } ∷ []) (suc n) (l + length (located_bytes (function_offset i) size p)) ps in
    All-cons (λ (q : ParameterPlaced). q.unit ≡ u) (record { unit = u; number = i; size = size; parameter = p; at = 12 + l }) more refl (placed_of u i size (suc n) (l + length (located_bytes (function_offset i) size p)) ps)

pub parameters_of : (u i l : ℕ) (fs : List FunctionDrawn) → All (λ (q : ParameterPlaced). q.unit ≡ u) (function_parameters u i l fs)
parameters_of u i l [] = All-nil (λ (q : ParameterPlaced). q.unit ≡ u)
parameters_of u i l (f ∷ fs) =
    All-append (λ (q : ParameterPlaced). q.unit ≡ u) (parameters_placed u i f.size l f.parameters) (function_parameters u (suc i) (l + length (function_locations i f)) fs) (placed_of u i f.size 0 l f.parameters) (parameters_of u (suc i) (l + length (function_locations i f)) fs)

block_of : (u i r : ℕ) (sizes : List ℕ) → All (λ (b : BlockPlaced). b.unit ≡ u) (block_placed u i r sizes)
block_of u i r [] = All-nil (λ (b : BlockPlaced). b.unit ≡ u)
block_of u i r (size ∷ sizes) = All-cons (λ (b : BlockPlaced). b.unit ≡ u) (record { unit = u; number = i; sizes = size ∷ sizes; at = 12 + r }) [] refl (All-nil (λ (b : BlockPlaced). b.unit ≡ u))

pub blocks_of : (u i r : ℕ) (fs : List FunctionDrawn) → All (λ (b : BlockPlaced). b.unit ≡ u) (function_blocks u i r fs)
blocks_of u i r [] = All-nil (λ (b : BlockPlaced). b.unit ≡ u)
blocks_of u i r (f ∷ fs) =
    All-append (λ (b : BlockPlaced). b.unit ≡ u) (block_placed u i r f.ranges) (function_blocks u (suc i) (r + length (function_ranges u i f)) fs) (block_of u i r f.ranges) (blocks_of u (suc i) (r + length (function_ranges u i f)) fs)

-- WHERE ENTRIES STAND

-- the entry with a number begins at a place
abbrev pub Stands : List Entry → ℕ → ℕ → Type 0
Stands es id place = (id < length es) × ((entry_at es id).at ≡ place)

seam_stands : (es before : List Entry) (e : Entry) (after : List Entry) (id place : ℕ) → es ≡ before ++ e ∷ after → length before ≡ id → e.at ≡ place → Stands es id place
seam_stands es before e after id place whole count here =
    let size : length es ≡ length before + suc (length after) = ap length whole ∙ length-append before (e ∷ after) in
    let none : Entry = record { at = 0; len = 0; depth = 0; decl = 0; first = 0; count = 0 } in
    let there : entry_at es id ≡ e = ap (λ (z : List Entry). entry_at z id) whole ∙ ap (λ (z : ℕ). entry_at (before ++ e ∷ after) z) (sym count) ∙ get_or-append_seam before e after none in
    (omega (arith, size, count), ap (λ (z : Entry). z.at) there ∙ here)

-- the next sibling of a function does
abbrev HasSibling : List Entry → ℕ → EntryPlaced → Type 0
HasSibling es base (TheFunction f) = Stands es (sibling_entry f) (base + sibling_place f)
HasSibling es base e = Unit {0}

module _ (es : List Entry) (base u type : ℕ) (e : Entry) (after : List Entry) where
  -- entries of functions, of which the first has a number, and then `e`
  abbrev part : ℕ → ℕ → ℕ → ℕ → ℕ → ℕ → List FunctionDrawn → List Entry
  part i id place first l r fs = (functions_part base u type i id place first l r fs).entries

  first_stands : (i id place first l r : ℕ) (fs : List FunctionDrawn) (before : List Entry) → es ≡ before ++ (part i id place first l r fs ++ e ∷ after) → length before ≡ id → e.at ≡ base + place_behind place fs → Stands es id (base + place)
  first_stands i id place first l r [] before whole count end = seam_stands es before e after id (base + place) whole count end
  first_stands i id place first l r (f ∷ fs) before whole count end =
      let own : Entry = record { at = base + place; len = 30; depth = 1; decl = 1; first = first; count = 9 } in
      let more : List Entry = (parameters_part base (suc i) type (function_offset i) f.size (place + 30) (first + 9) l f.parameters).entries ++ ((block_part base (place + block_at f) (first + block_first f) r f.ranges).entries ++ part (suc i) (id + entry_count f) (place + function_size f) (first + value_count f) (l + length (function_locations i f)) (r + length (function_ranges u i f)) fs) in
      seam_stands es before own (more ++ e ∷ after) id (base + place) whole count refl

  functions_stand : (i id place first l r : ℕ) (fs : List FunctionDrawn) (before : List Entry) → es ≡ before ++ (part i id place first l r fs ++ e ∷ after) → length before ≡ id → e.at ≡ base + place_behind place fs → Stands es (entry_behind id fs) (base + place_behind place fs) × All (HasSibling es base) (functions_placed u i id place l r fs)
  functions_stand i id place first l r [] before whole count end = (seam_stands es before e after id (base + place) whole count end, All-nil (HasSibling es base))
  functions_stand i id place first l r (f ∷ fs) before whole count end =
      let P : EntryPlaced → Type 0 = HasSibling es base in
      let ll : ℕ = l + length (function_locations i f) in
      let rr : ℕ = r + length (function_ranges u i f) in
      let own : Entry = record { at = base + place; len = 30; depth = 1; decl = 1; first = first; count = 9 } in
      let ps : List Entry = (parameters_part base (suc i) type (function_offset i) f.size (place + 30) (first + 9) l f.parameters).entries in
      let bs : List Entry = (block_part base (place + block_at f) (first + block_first f) r f.ranges).entries in
      let rest : List Entry = part (suc i) (id + entry_count f) (place + function_size f) (first + value_count f) ll rr fs in
      let front : List Entry = before ++ own ∷ (ps ++ bs) in
      let inner : (ps ++ (bs ++ rest)) ++ e ∷ after ≡ (ps ++ bs) ++ (rest ++ e ∷ after) = ap (λ (z : List Entry). z ++ e ∷ after) (sym (append_assoc ps bs rest)) ∙ append_assoc (ps ++ bs) rest (e ∷ after) in
      let split : es ≡ front ++ (rest ++ e ∷ after) = whole ∙ ap (λ (z : List Entry). before ++ own ∷ z) inner ∙ sym (append_assoc before (own ∷ (ps ++ bs)) (rest ++ e ∷ after)) in
      let many : length front ≡ id + entry_count f =
      omega (arith, count, length-append before (own ∷ (ps ++ bs)), length-append ps bs, parameters_count base (suc i) type (function_offset i) f.size (place + 30) (first + 9) l f.parameters, block_entries base (place + block_at f) (first + block_first f) r f.ranges) in
      let later = functions_stand (suc i) (id + entry_count f) (place + function_size f) (first + value_count f) ll rr fs front split many end in
      let sibling : Stands es (id + entry_count f) (base + (place + function_size f)) = first_stands (suc i) (id + entry_count f) (place + function_size f) (first + value_count f) ll rr fs front split many end in
      let qs : List ParameterPlaced = parameters_placed u i f.size l f.parameters in
      let cs : List BlockPlaced = block_placed u i r f.ranges in
      let more : List EntryPlaced = functions_placed u (suc i) (id + entry_count f) (place + function_size f) ll rr fs in
      let parameters : All P (map TheParameter qs) = All-map P TheParameter qs (λ k d lt. tt) in
      let blocks : All P (map TheBlock cs) = All-map P TheBlock cs (λ k d lt. tt) in
      (later.0, All-cons P (TheFunction (record { number = i; entry = id; at = place; function = f })) (map TheParameter qs ++ (map TheBlock cs ++ more)) sibling (All-append P (map TheParameter qs) (map TheBlock cs ++ more) parameters (All-append P (map TheBlock cs) more blocks later.1)))

-- ALL ENTRIES OF A UNIT

-- what is said of parameters and blocks, and of siblings
pub record IsPlaced (u : ℕ) (p : UnitPlaced) (es : List Entry) (e : EntryPlaced) : Type 0 where
  pub one : IsOneOf (function_parameters u 0 p.locations p.unit) (function_blocks u 0 p.ranges p.unit) e
  pub sibling : HasSibling es p.at e

module _ (u : ℕ) (p : UnitPlaced) where
  abbrev entries : List Entry
  entries = (unit_part p.at u p.program p.locations p.ranges p.unit).entries

  abbrev placed : List EntryPlaced
  placed = functions_placed u 0 1 functions_at p.locations p.ranges p.unit

  stand : Stands entries (type_entry p.unit) (p.at + type_place p.unit) × All (HasSibling entries p.at) placed
  stand =
      let root : Entry = record { at = p.at + 12; len = 34; depth = 0; decl = 0; first = 0; count = 7 } in
      let type : Entry = record { at = p.at + type_place p.unit; len = 7; depth = 1; decl = 3; first = value_behind 7 p.unit; count = 3 } in
      functions_stand entries p.at u (type_place p.unit) type [] 0 1 functions_at 7 p.locations p.ranges p.unit (root ∷ []) refl refl refl

  -- the entry of the type stands at its place
  pub type_stands : Stands entries (type_entry p.unit) (p.at + type_place p.unit)
  type_stands = stand.0

  pub each_placed : All (IsPlaced u p entries) (entries_placed u p)
  each_placed =
      let P : EntryPlaced → Type 0 = IsPlaced u p entries in
      let known = functions_known u 0 1 functions_at p.locations p.ranges p.unit in
      let functions : All P placed = λ k d lt. record { one = known k d lt; sibling = stand.1 k d lt } in
      let type : All P (TheType ∷ []) = All-cons P TheType [] (record { one = tt; sibling = tt }) (All-nil P) in
      All-cons P TheRoot (placed ++ TheType ∷ []) (record { one = tt; sibling = tt }) (All-append P placed (TheType ∷ []) functions type)

  -- each parameter and each block of the unit has an entry
  pub parameter_entry_there : (q : ParameterPlaced) → Contains (function_parameters u 0 p.locations p.unit) q → Contains (entries_placed u p) (TheParameter q)
  parameter_entry_there q one = contains_behind TheRoot (TheParameter q) (placed ++ TheType ∷ []) (Contains-append_left placed (TheType ∷ []) (TheParameter q) (parameter_there u 0 1 functions_at p.locations p.ranges p.unit q one))

  pub block_entry_there : (b : BlockPlaced) → Contains (function_blocks u 0 p.ranges p.unit) b → Contains (entries_placed u p) (TheBlock b)
  block_entry_there b one = contains_behind TheRoot (TheBlock b) (placed ++ TheType ∷ []) (Contains-append_left placed (TheType ∷ []) (TheBlock b) (block_there u 0 1 functions_at p.locations p.ranges p.unit b one))
