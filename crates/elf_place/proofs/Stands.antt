-- Sections that stand one after the other.
use Rattle.std.proofs.Common.{◌≡◌, ◌≤◌, ◌<◌, ◌+◌, ℕ, zero, suc, List, [], ◌∷◌, length, get_or, subst, arith}
use Rattle.elf_sections.specs.Elf.{offset_of, size_of, body_of}
use Rattle.elf_place.specs.Layout.{Stand}

-- A section stands between two places, with the bytes that a function gives.
pub record StandsWithin (file : List ℕ) (bytes : ℕ → List ℕ) (start end i : ℕ) : Type 0 where
  pub from : start ≤ offset_of file i
  pub to : offset_of file i + size_of file i ≤ end
  pub size : size_of file i ≡ length (bytes i)
  pub body : body_of file i ≡ bytes i

Stand-longer : (file : List ℕ) (bytes : ℕ → List ℕ) (order : List ℕ) (start end : ℕ) → Stand file bytes order start end → start ≤ end
Stand-longer file bytes [] start end e = omega arith
Stand-longer file bytes (i ∷ order) start end (here, rest) =
    omega (arith, here.place.from, Stand-longer file bytes order (offset_of file i + size_of file i) end rest)

-- each section of an order stands between the start and the end
pub Stand-within : (file : List ℕ) (bytes : ℕ → List ℕ) (order : List ℕ) (start end i k : ℕ) → Stand file bytes order start end → k < length order → get_or order k i ≡ i → StandsWithin file bytes start end i
Stand-within file bytes [] start end i k stand lt is = absurd (omega arith)
Stand-within file bytes (j ∷ order) start end i zero (here, rest) lt is =
    let within : StandsWithin file bytes start end j = record {
      from = here.place.from;
      to = Stand-longer file bytes order (offset_of file j + size_of file j) end rest;
      size = here.size;
      body = here.body;
    } in
    subst (StandsWithin file bytes start end) is within
Stand-within file bytes (j ∷ order) start end i (suc k) (here, rest) lt is =
    let later = Stand-within file bytes order (offset_of file j + size_of file j) end i k rest (omega arith) is in
    record { from = omega (arith, here.place.from, later.from); to = later.to; size = later.size; body = later.body }
