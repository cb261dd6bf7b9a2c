-- The line costs as formulas: least values over all numbers of opcodes and over all row opcodes.
use Rattle.std.specs.Prelude.{◌≡◌, ◌≤◌, ◌+◌, ◌*◌, ◌/◌, ◌%◌, ◌^◌, ◌<◌, ◌⊎◌, ◌↔◌, ◌==◌, if◌then◌else◌, ℕ, ℤ, pos, ◌-ℤ◌}
use Rattle.leb_codec.specs.Leb.{least_unsigned_len}
use Rattle.leb_codec.specs.LineCosts.{IsLeastCost, advance_line_bytes, address_distance, AdvanceWithin, StepWithin, EndWithin}

-- the bytes of k const_add_pc, j fixed_advance_pc and an advance_pc with operand q
abbrev pub sum_bytes : ℕ → ℕ → ℕ → ℕ
sum_bytes k j q = k + 3 * j + (if q == 0 then 0 else 1 + least_unsigned_len q)

-- k const_add_pc, j fixed_advance_pc whose operands have the sum f, and an advance_pc with operand q advance by d
abbrev pub Reaches : ℕ → ℕ → ℕ → ℕ → ℕ → ℕ → ℕ → Type 0
Reaches range scale d k j q f = (k * (242 / range) * scale + q * scale + f ≡ d) × (f ≤ 65535 * j)

-- the least of 11 and of the bytes of all such numbers
pub record IsAdvanceCost (range scale d n : ℕ) : Type 0 where
  pub most : n ≤ 11
  pub least : (k j q f : ℕ) → Reaches range scale d k j q f → n ≤ sum_bytes k j q
  pub taken : (n ≡ 11) ⊎ ((k : ℕ) × (j : ℕ) × (q : ℕ) × (f : ℕ) × Reaches range scale d k j q f × (n ≡ sum_bytes k j q))

-- a step by special opcode s costs 1 and the parts of what it leaves of both distances
abbrev pub special_bytes : (ℕ → ℕ) → ℤ → ℕ → ℕ → ℤ → ℕ → ℕ → ℕ
special_bytes advance base range scale dl d s = 1 + advance_line_bytes (dl -ℤ base -ℤ pos (s % range)) + advance (address_distance (s / range * scale) d)

-- from the costs of address distances below 2^64: the least of the costs by copy and by all special opcodes, each
-- 1, the line part and the address part
pub record IsStepCost (advance : ℕ → ℕ) (base : ℤ) (range scale : ℕ) (dl : ℤ) (d n : ℕ) : Type 0 where
  pub copy : n ≤ 1 + advance_line_bytes dl + advance d
  pub special : (s : ℕ) → s ≤ 242 → n ≤ special_bytes advance base range scale dl d s
  pub taken : (n ≡ 1 + advance_line_bytes dl + advance d) ⊎ ((s : ℕ) × (s ≤ 242) × (n ≡ special_bytes advance base range scale dl d s))

-- n bytes are enough to advance the address before a special opcode that itself advances it by some instructions,
-- fewer than `parts`
abbrev pub PartWithin : ℕ → ℕ → ℕ → ℕ → ℕ → Type 0
PartWithin range scale distance parts n = (part : ℕ) × (part < parts) × AdvanceWithin range scale (address_distance (part * scale) distance) n

-- the costs are these formulas
pub record CostFormulas : Type 0 where
  pub advance : (range scale d n : ℕ) → IsLeastCost (AdvanceWithin range scale d) n ↔ IsAdvanceCost range scale d n
  pub step : (base : ℤ) (range scale : ℕ) (dl : ℤ) (d n : ℕ) (advance : ℕ → ℕ) → d < 2 ^ 64 → ((x : ℕ) → x < 2 ^ 64 → IsAdvanceCost range scale x (advance x)) → IsLeastCost (StepWithin base range scale dl d) n ↔ IsStepCost advance base range scale dl d n
  pub end_row : (range scale d a : ℕ) → IsAdvanceCost range scale d a → IsLeastCost (EndWithin range scale d) (3 + a)
