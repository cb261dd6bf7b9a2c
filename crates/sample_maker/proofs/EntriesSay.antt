-- The entries of a unit, as they are placed: what is read of them, and what they mean.
use Rattle.std.proofs.Common.{◌≡◌, ◌+◌, ℕ, suc, List, [], ◌∷◌, ◌++◌, length, map, ◌∙◌, sym, ap, refl}
use Rattle.std.proofs.lemmas.List.{map-append}
use Rattle.entry_arena.specs.Forests.{Described}
use Rattle.value_links.specs.Debug.{EntryMeaning}
use Rattle.sample_maker.specs.declared.drawn.Parameter.{Parameter}
use Rattle.sample_maker.specs.Drawn.{FunctionDrawn}
use Rattle.sample_maker.specs.Places.{function_offset, function_address, entry_count, type_entry}
use Rattle.sample_maker.specs.Generated.{parameter_entries, block_entries, function_entries, base_type_entry, unit_meaning}
use Rattle.sample_maker.specs.inside.Bytes.{located_bytes}
use Rattle.sample_maker.specs.inside.Files.{function_locations, function_ranges, function_size, functions_at, type_place}
use Rattle.sample_maker.specs.inside.ReadLists.{placed_from, block_placed, ParameterPlaced, parameters_placed}
use Rattle.sample_maker.specs.inside.ReadUnits.{parameters_part, block_part, block_at, block_first, value_count, functions_part, unit_part}
use Rattle.sample_maker.specs.inside.ReadFile.{UnitPlaced, EntryPlaced, functions_placed, entries_placed, entry_said, entry_meant}
use Rattle.sample_maker.specs.inside.ReadFile.EntryPlaced.{TheRoot, TheFunction, TheParameter, TheBlock, TheType}

-- the parameters of a function, of which the first has a number
abbrev placed_parameters : ℕ → ℕ → ℕ → ℕ → ℕ → List Parameter → List ParameterPlaced
placed_parameters u i size n l ps =
    placed_from (λ (k : ℕ) (p : Parameter). located_bytes (function_offset i) size p) (λ (k : ℕ) (before : ℕ) (p : Parameter). record { unit = u; number = i; size = size; parameter = p; at = 12 + before } ∷ []) n l ps

-- WHAT THEY SAY

module _ (u : ℕ) (p : UnitPlaced) where
  parameters_say : (base i size place first n l : ℕ) (ps : List Parameter) → (parameters_part base (suc i) (type_place p.unit) (function_offset i) size place first l ps).says ≡ map (entry_said u p) (map TheParameter (placed_parameters u i size n l ps))
  parameters_say base i size place first n l [] = refl
  parameters_say base i size place first n l (x ∷ xs) =
      ap (λ (z : List Described). entry_said u p (TheParameter (record { unit = u; number = i; size = size; parameter = x; at = 12 + l })) ∷ z) (parameters_say base i size (place + 16) (first + 5) (suc n) (l + length (located_bytes (function_offset i) size x)) xs)

  block_says : (base place first i r : ℕ) (sizes : List ℕ) → (block_part base place first r sizes).says ≡ map (entry_said u p) (map TheBlock (block_placed u i r sizes))
  block_says base place first i r [] = refl
  block_says base place first i r (size ∷ sizes) = refl

  functions_say : (base i id place first l r : ℕ) (fs : List FunctionDrawn) → (functions_part base u (type_place p.unit) i id place first l r fs).says ≡ map (entry_said u p) (functions_placed u i id place l r fs)
  functions_say base i id place first l r [] = refl
  functions_say base i id place first l r (f ∷ fs) =
      let say = entry_said u p in
      let ps : List EntryPlaced = map TheParameter (parameters_placed u i f.size l f.parameters) in
      let bs : List EntryPlaced = map TheBlock (block_placed u i r f.ranges) in
      let rest : List EntryPlaced = functions_placed u (suc i) (id + entry_count f) (place + function_size f) (l + length (function_locations i f)) (r + length (function_ranges u i f)) fs in
      let one : List Described = (parameters_part base (suc i) (type_place p.unit) (function_offset i) f.size (place + 30) (first + 9) l f.parameters).says in
      let two : List Described = (block_part base (place + block_at f) (first + block_first f) r f.ranges).says in
      let more : List Described = (functions_part base u (type_place p.unit) (suc i) (id + entry_count f) (place + function_size f) (first + value_count f) (l + length (function_locations i f)) (r + length (function_ranges u i f)) fs).says in
      let joined : map say (ps ++ (bs ++ rest)) ≡ map say ps ++ (map say bs ++ map say rest) = map-append say ps (bs ++ rest) ∙ ap (λ (z : List Described). map say ps ++ z) (map-append say bs rest) in
      let parts : one ++ (two ++ more) ≡ map say ps ++ (map say bs ++ map say rest) =
      ap (λ (z : List Described). z ++ (two ++ more)) (parameters_say base i f.size (place + 30) (first + 9) 0 l f.parameters) ∙ ap (λ (z : List Described). map say ps ++ (z ++ more)) (block_says base (place + block_at f) (first + block_first f) i r f.ranges) ∙ ap (λ (z : List Described). map say ps ++ (map say bs ++ z)) (functions_say base (suc i) (id + entry_count f) (place + function_size f) (first + value_count f) (l + length (function_locations i f)) (r + length (function_ranges u i f)) fs) in
      ap (λ (z : List Described). say (TheFunction (record { number = i; entry = id; at = place; function = f })) ∷ z) (parts ∙ sym joined)

  pub unit_says_placed : (unit_part p.at u p.program p.locations p.ranges p.unit).says ≡ map (entry_said u p) (entries_placed u p)
  unit_says_placed =
      let say = entry_said u p in
      let fs : List EntryPlaced = functions_placed u 0 1 functions_at p.locations p.ranges p.unit in
      ap (λ (z : List Described). say TheRoot ∷ z) (ap (λ (z : List Described). z ++ say TheType ∷ []) (functions_say p.at 0 1 functions_at 7 p.locations p.ranges p.unit) ∙ sym (map-append say fs (TheType ∷ [])))

  -- WHAT THEY MEAN

  parameters_mean : (i n l : ℕ) (f : FunctionDrawn) (ps : List Parameter) → parameter_entries u i (type_entry p.unit) f ps ≡ map (entry_meant u p) (map TheParameter (placed_parameters u i f.size n l ps))
  parameters_mean i n l f [] = refl
  parameters_mean i n l f (x ∷ xs) =
      ap (λ (z : List EntryMeaning). entry_meant u p (TheParameter (record { unit = u; number = i; size = f.size; parameter = x; at = 12 + l })) ∷ z) (parameters_mean i (suc n) (l + length (located_bytes (function_offset i) f.size x)) f xs)

  block_means : (i r : ℕ) (sizes : List ℕ) → block_entries (function_address u i) sizes ≡ map (entry_meant u p) (map TheBlock (block_placed u i r sizes))
  block_means i r [] = refl
  block_means i r (size ∷ sizes) = refl

  functions_mean : (i id place l r : ℕ) (fs : List FunctionDrawn) → function_entries u i (type_entry p.unit) id fs ≡ map (entry_meant u p) (functions_placed u i id place l r fs)
  functions_mean i id place l r [] = refl
  functions_mean i id place l r (f ∷ fs) =
      let mean = entry_meant u p in
      let ps : List EntryPlaced = map TheParameter (parameters_placed u i f.size l f.parameters) in
      let bs : List EntryPlaced = map TheBlock (block_placed u i r f.ranges) in
      let rest : List EntryPlaced = functions_placed u (suc i) (id + entry_count f) (place + function_size f) (l + length (function_locations i f)) (r + length (function_ranges u i f)) fs in
      let two : List EntryMeaning = block_entries (function_address u i) f.ranges in
      let more : List EntryMeaning = function_entries u (suc i) (type_entry p.unit) (id + entry_count f) fs in
      let joined : map mean (ps ++ (bs ++ rest)) ≡ map mean ps ++ (map mean bs ++ map mean rest) = map-append mean ps (bs ++ rest) ∙ ap (λ (z : List EntryMeaning). map mean ps ++ z) (map-append mean bs rest) in
      let parts : parameter_entries u i (type_entry p.unit) f f.parameters ++ (two ++ more) ≡ map mean ps ++ (map mean bs ++ map mean rest) =
      ap (λ (z : List EntryMeaning). z ++ (two ++ more)) (parameters_mean i 0 l f f.parameters) ∙ ap (λ (z : List EntryMeaning). map mean ps ++ (z ++ more)) (block_means i r f.ranges) ∙ ap (λ (z : List EntryMeaning). map mean ps ++ (map mean bs ++ z)) (functions_mean (suc i) (id + entry_count f) (place + function_size f) (l + length (function_locations i f)) (r + length (function_ranges u i f)) fs) in
      ap (λ (z : List EntryMeaning). mean (TheFunction (record { number = i; entry = id; at = place; function = f })) ∷ z) (parts ∙ sym joined)

  pub unit_means_placed : (unit_meaning u p.unit).forest ≡ map (entry_meant u p) (entries_placed u p)
  unit_means_placed =
      let mean = entry_meant u p in
      let fs : List EntryPlaced = functions_placed u 0 1 functions_at p.locations p.ranges p.unit in
      ap (λ (z : List EntryMeaning). mean TheRoot ∷ z) (ap (λ (z : List EntryMeaning). z ++ base_type_entry ∷ []) (functions_mean 0 1 functions_at p.locations p.ranges p.unit) ∙ sym (map-append mean fs (TheType ∷ [])))
