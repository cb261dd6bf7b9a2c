-- The numbers of an abbreviation table (DWARF 5 section 7.5.3): each declaration that has uses gets one of its own.
-- `uses` has for each declaration, in the table's order, how many entries have it. `numbers` has its number there,
-- and 0, which is no number, where it has no use.
use Rattle.std.specs.Prelude.{◌≡◌, ◌≤◌, ◌<◌, ◌+◌, ◌*◌, ◌^◌, ◌⊎◌, ◌↔◌, ℕ, zero, suc, List, [], ◌∷◌, length, slice_index, nat_lt, count_by}
use Rattle.leb_codec.specs.Leb.{least_unsigned_len}
use Rattle.leb_codec.specs.Least.{IsLeast}

-- the declaration is there and has uses
pub record IsUsed (uses : List ℕ) (i : ℕ) : Type 0 where
  pub inside : i < length uses
  pub some : 0 < slice_index uses i

-- the class: one-to-one numbers from 1 to 2^64 - 1 for the declarations that have uses
pub record IsNumbering (uses numbers : List ℕ) : Type 0 where
  pub same_length : length numbers ≡ length uses
  pub unused : (i : ℕ) → i < length uses → slice_index uses i ≡ 0 → slice_index numbers i ≡ 0
  pub positive : (i : ℕ) → IsUsed uses i → 1 ≤ slice_index numbers i
  pub narrow : (i : ℕ) → IsUsed uses i → slice_index numbers i < 2 ^ 64
  pub one_to_one : (i j : ℕ) → IsUsed uses i → IsUsed uses j → slice_index numbers i ≡ slice_index numbers j → i ≡ j

-- the bytes of a declaration's number: once in the declaration, and once in each entry that has it
abbrev pub number_bytes : ℕ → ℕ → ℕ
number_bytes zero number = 0
number_bytes (suc n) number = (suc n + 1) * least_unsigned_len number

-- the bytes of all numbers
abbrev pub numbering_size : List ℕ → List ℕ → ℕ
numbering_size (count ∷ uses) (number ∷ numbers) = number_bytes count number + numbering_size uses numbers
numbering_size _ _ = 0

abbrev pub IsLeastNumbering : List ℕ → List ℕ → Type 0
IsLeastNumbering uses numbers = IsLeast (IsNumbering uses) (numbering_size uses) numbers

-- one declaration has more uses than another, or as many and an earlier place
abbrev pub ComesBefore : List ℕ → ℕ → ℕ → Type 0
ComesBefore uses i j = (slice_index uses j < slice_index uses i) ⊎ ((slice_index uses i ≡ slice_index uses j) × (i < j))

-- the numbers rise by falling uses, then by place
abbrev pub RiseByFallingUses : List ℕ → List ℕ → Type 0
RiseByFallingUses uses numbers =
    (i j : ℕ) → IsUsed uses i → IsUsed uses j → ComesBefore uses i j → slice_index numbers i < slice_index numbers j

-- how many declarations have uses
abbrev pub used_count : List ℕ → ℕ
used_count uses = count_by (λ n. nat_lt 0 n) uses

-- the numbers given are exactly those from 1 to how many declarations have uses
abbrev pub AreFirstNumbers : List ℕ → List ℕ → Type 0
AreFirstNumbers uses numbers =
    (number : ℕ) → ((1 ≤ number) × (number ≤ used_count uses)) ↔ ((i : ℕ) × IsUsed uses i × (slice_index numbers i ≡ number))
