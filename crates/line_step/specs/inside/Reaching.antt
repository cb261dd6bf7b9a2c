-- How far opcodes advance an address at most. Private functions alone cite this. `scale` is minimum_instruction_length.
use Rattle.std.specs.Prelude.{◌≤◌, ◌+◌, ◌*◌, ◌⊎◌, ℕ}
use Rattle.leb_codec.specs.LineCosts.{const_advance, fixed_advance_bytes, fixed_advance_limit, set_address_bytes, advance_pc_bytes}

-- opcodes other than set_address that advance the address by a distance or more, in at most `bytes` bytes: each fixed_advance_pc
-- has its greatest operand
pub record ReachForm (range scale distance bytes : ℕ) : Type 0 where
  pub const_adds : ℕ
  pub fixed_adds : ℕ
  pub operand : ℕ
  pub far : distance ≤ const_adds * const_advance range * scale + operand * scale + fixed_advance_limit * fixed_adds
  pub cost : const_adds + fixed_advance_bytes * fixed_adds + advance_pc_bytes operand ≤ bytes

-- n bytes are enough to advance the address by a distance or more
abbrev pub ReachWithin : ℕ → ℕ → ℕ → ℕ → Type 0
ReachWithin range scale distance n = (set_address_bytes ≤ n) ⊎ ReachForm range scale distance n

-- the same with one fixed_advance_pc or more
abbrev pub ReachFixedWithin : ℕ → ℕ → ℕ → ℕ → Type 0
ReachFixedWithin range scale distance n = (set_address_bytes ≤ n) ⊎ ((form : ReachForm range scale distance n) × (1 ≤ form.fixed_adds))
