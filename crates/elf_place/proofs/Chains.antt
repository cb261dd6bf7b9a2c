-- Spots that follow one another, and the bodies that are laid at them.
use Rattle.std.proofs.Common.{◌≡◌, ◌≤◌, ◌<◌, ◌+◌, ◌++◌, ℕ, zero, suc, List, [], ◌∷◌, length, map, refl, sym, ◌∙◌, ap, subst, arith}
use Rattle.std.specs.Prelude.{slice_index, slice_range, IsTrue}
use Rattle.std.specs.List.{All}
use Rattle.std.proofs.lemmas.List.{length-append, get_or_append_left, get_or-append-add}
use Rattle.elf_sections.specs.Elf.{offset_of, size_of, align_of, has_bytes, body_of}
use Rattle.elf_place.specs.declared.spots.Spot.{Spot}
use Rattle.elf_place.specs.Layout.{IsNextMultiple, IsGap, StandsAfter, Stand}
use Rattle.elf_place.specs.inside.Spots.{IsSpot, IsChain, filled, laid}
use Rattle.elf_place.proofs.Ranges.{range-is, length-filled, filled-front, filled-gap}

-- one more spot at the end
pub IsChain-push : (file : List ℕ) (bytes : ℕ → List ℕ) (start : ℕ) (spots : List Spot) (end : ℕ) (spot : Spot) → IsChain file bytes start spots end → IsSpot file bytes end spot → IsChain file bytes start (spots ++ spot ∷ []) (spot.at + spot.len)
IsChain-push file bytes start [] end spot e next = (subst (λ (s : ℕ). IsSpot file bytes s spot) (sym e) next, refl)
IsChain-push file bytes start (first ∷ spots) end spot (here, rest) next = (here, IsChain-push file bytes (first.at + first.len) spots end spot rest next)

-- where spots end
pub IsChain-longer : (file : List ℕ) (bytes : ℕ → List ℕ) (start : ℕ) (spots : List Spot) (end : ℕ) → IsChain file bytes start spots end → start ≤ end
IsChain-longer file bytes start [] end e = omega arith
IsChain-longer file bytes start (spot ∷ spots) end (here, rest) =
    omega (arith, here.place.from, IsChain-longer file bytes (spot.at + spot.len) spots end rest)

-- the end of a front with one more body
pub length-next : (file : List ℕ) (bytes : ℕ → List ℕ) (out : List ℕ) (spot : Spot) → IsSpot file bytes (length out) spot → length (filled out spot.at ++ bytes spot.section) ≡ spot.at + spot.len
length-next file bytes out spot here =
    let front : length (filled out spot.at) ≡ spot.at = length-filled out spot.at here.place.from in
    rw length-append (omega (arith, here.size))

pub length-laid : (file : List ℕ) (bytes : ℕ → List ℕ) (out : List ℕ) (spots : List Spot) (end : ℕ) → IsChain file bytes (length out) spots end → length (laid bytes out spots) ≡ end
length-laid file bytes out [] end e = e
length-laid file bytes out (spot ∷ spots) end (here, rest) =
    let next = filled out spot.at ++ bytes spot.section in
    let size : length next ≡ spot.at + spot.len = length-next file bytes out spot here in
    length-laid file bytes next spots end (subst (λ (s : ℕ). IsChain file bytes s spots end) (sym size) rest)

-- what is laid leaves what stands before
pub laid-front : (file : List ℕ) (bytes : ℕ → List ℕ) (out : List ℕ) (spots : List Spot) (end k : ℕ) → IsChain file bytes (length out) spots end → k < length out → slice_index (laid bytes out spots) k ≡ slice_index out k
laid-front file bytes out [] end k e lt = refl
laid-front file bytes out (spot ∷ spots) end k (here, rest) lt =
    let next = filled out spot.at ++ bytes spot.section in
    let size : length next ≡ spot.at + spot.len = length-next file bytes out spot here in
    let front : length (filled out spot.at) ≡ spot.at = length-filled out spot.at here.place.from in
    laid-front file bytes next spots end k (subst (λ (s : ℕ). IsChain file bytes s spots end) (sym size) rest) (omega (arith, here.place.from))
    ∙ get_or_append_left (filled out spot.at) (bytes spot.section) 0 k (omega (arith, here.place.from)) ∙ filled-front out spot.at k lt

-- a body that has bytes is the part of the file that its header names
pub body_of-bytes : (file : List ℕ) (i : ℕ) → IsTrue (has_bytes file i) → body_of file i ≡ slice_range file (offset_of file i) (offset_of file i + size_of file i)
body_of-bytes file i full = rw full refl

-- What a new file says of the sections of spots: where they are and how they are aligned.
pub record Tells (file new : List ℕ) (spot : Spot) : Type 0 where
  pub full : IsTrue (has_bytes new spot.section)
  pub align : align_of new spot.section ≡ align_of file spot.section
  pub offset : offset_of new spot.section ≡ spot.at
  pub size : size_of new spot.section ≡ spot.len

-- a file that has what was laid, and tells so, has the sections one after the other
pub Stand-laid : (file new : List ℕ) (bytes : ℕ → List ℕ) (out : List ℕ) (spots : List Spot) (start end : ℕ) → start ≡ length out → IsChain file bytes (length out) spots end → end ≤ length new → ((k : ℕ) → length out ≤ k → k < end → slice_index new k ≡ slice_index (laid bytes out spots) k) → All (Tells file new) spots → Stand new bytes (map (λ (spot : Spot). spot.section) spots) start end
Stand-laid file new bytes out [] start end from e within same told = from ∙ e
Stand-laid file new bytes out (spot ∷ spots) start end from (here, rest) within same told =
    let i = spot.section in
    let front = filled out spot.at in
    let next = front ++ bytes i in
    let tells : Tells file new spot = told zero spot (omega arith) in
    let at_front : length front ≡ spot.at = length-filled out spot.at here.place.from in
    let at_next : length next ≡ spot.at + spot.len = length-next file bytes out spot here in
    let chain : IsChain file bytes (length next) spots end = subst (λ (s : ℕ). IsChain file bytes s spots end) (sym at_next) rest in
    let last : spot.at + spot.len ≤ end = IsChain-longer file bytes (spot.at + spot.len) spots end rest in
    let has : (k : ℕ) → length out ≤ k → k < length next → slice_index new k ≡ slice_index next k = λ k low high. same k low (omega arith) ∙ laid-front file bytes next spots end k chain high in
    let gap : IsGap new (length out) spot.at = λ k low high. has k low (omega arith) ∙ get_or_append_left front (bytes i) 0 k (omega arith) ∙ filled-gap out spot.at k low high in
    let size : size_of new i ≡ length (bytes i) = tells.size ∙ here.size in
    let bytes_at : (k : ℕ) → k < length (bytes i) → slice_index new (spot.at + k) ≡ slice_index (bytes i) k = λ k lt.
    has (spot.at + k) (omega (arith, here.place.from)) (omega (arith, here.size)) ∙ ap (λ (n : ℕ). slice_index next (n + k)) (sym at_front) ∙ get_or-append-add front (bytes i) k 0 in
    let part : slice_range new spot.at (spot.at + length (bytes i)) ≡ bytes i = range-is new (bytes i) spot.at (omega (arith, here.size)) bytes_at in
    let body : body_of new i ≡ bytes i = body_of-bytes new i tells.full ∙ ap (λ (n : ℕ). slice_range new n (n + size_of new i)) tells.offset ∙ ap (λ (n : ℕ). slice_range new spot.at (spot.at + n)) size ∙ part in
    let place : IsNextMultiple start (align_of new i) (offset_of new i) = rw (from, tells.align, tells.offset) here.place in
    let stands : StandsAfter new start i (bytes i) = record { place = place; gap = rw (from, tells.offset) gap; size = size; body = body } in
    let after : offset_of new i + size_of new i ≡ length next = omega (arith, tells.offset, tells.size) in
    (stands, Stand-laid file new bytes next spots (offset_of new i + size_of new i) end after chain within (λ k low high. same k (omega (arith, here.place.from)) high) (λ k d lt. told (suc k) d (omega arith)))
