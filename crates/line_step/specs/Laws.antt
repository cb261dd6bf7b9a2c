-- Laws of line costs on which it rests that no string of opcodes is shorter.
use Rattle.std.specs.Prelude.{◌≡◌, ◌≤◌, ◌<◌, ◌+◌, ◌*◌, ◌%◌, ◌^◌, ℕ, ℤ, pos, ◌+ℤ◌}
use Rattle.leb_codec.specs.Leb.{least_unsigned_len, least_signed_len}
use Rattle.leb_codec.specs.LineCosts.{set_address_bytes, fixed_advance_bytes, fixed_advance_limit, const_advance, advance_line_bytes, address_distance, AdvanceForm, AdvanceWithin}

-- costs of address distances, whatever the range; the scale is a byte
pub record AddressLaws (range scale : ℕ) : Type 0 where
  -- more bytes are enough too
  pub more : (d n m : ℕ) → n ≤ m → AdvanceWithin range scale d n → AdvanceWithin range scale d m
  -- nothing costs more than set_address
  pub most : (d : ℕ) → AdvanceWithin range scale d set_address_bytes
  -- no distance costs nothing, and nothing else does
  pub none : AdvanceWithin range scale 0 0
  pub some : (d : ℕ) → AdvanceWithin range scale d 0 → d ≡ 0
  -- opcodes for one distance and for another, together
  pub sum : (d e n m : ℕ) → AdvanceForm range scale d n → AdvanceForm range scale e m → AdvanceForm range scale (d + e) (n + m)
  -- what opcodes add to an address before the rest, modulo 2^64
  pub triangle : (from to d n m : ℕ) → d < 2 ^ 64 → AdvanceForm range scale d n → AdvanceWithin range scale (address_distance (from + d) to) m → AdvanceWithin range scale (address_distance from to) (n + m)
  -- each opcode that changes the address
  pub advance_pc : (from to q m : ℕ) → q * scale < 2 ^ 64 → AdvanceWithin range scale (address_distance (from + q * scale) to) m → AdvanceWithin range scale (address_distance from to) (1 + least_unsigned_len q + m)
  pub const_add_pc : (from to m : ℕ) → AdvanceWithin range scale (address_distance (from + const_advance range * scale) to) m → AdvanceWithin range scale (address_distance from to) (1 + m)
  pub fixed_advance_pc : (from to f m : ℕ) → f ≤ fixed_advance_limit → AdvanceWithin range scale (address_distance (from + f) to) m → AdvanceWithin range scale (address_distance from to) (fixed_advance_bytes + m)
  pub set_address : (from to at m : ℕ) → AdvanceWithin range scale (address_distance at to) m → AdvanceWithin range scale (address_distance from to) (set_address_bytes + m)

-- distances of addresses, modulo 2^64
pub record DistanceLaws : Type 0 where
  pub self : (at : ℕ) → address_distance at at ≡ 0
  pub below : (from to : ℕ) → address_distance from to < 2 ^ 64
  pub reaches : (from to : ℕ) → (from + address_distance from to) % 2 ^ 64 ≡ to % 2 ^ 64
  pub from_wraps : (from to : ℕ) → address_distance (from % 2 ^ 64) to ≡ address_distance from to
  pub to_wraps : (from to : ℕ) → address_distance from (to % 2 ^ 64) ≡ address_distance from to
  -- what is left of a row's distance before an opcode that adds to the address itself
  pub before : (from at d : ℕ) → address_distance d (address_distance from (at + d)) ≡ address_distance from at

-- costs of line distances
pub record LineLaws : Type 0 where
  pub none : advance_line_bytes (pos 0) ≡ 0
  pub opcode : (z : ℤ) → advance_line_bytes z ≤ 1 + least_signed_len z
  pub sum : (y z : ℤ) → advance_line_bytes (y +ℤ z) ≤ advance_line_bytes y + advance_line_bytes z
  -- advance_line before the rest
  pub advance_line : (y z : ℤ) → advance_line_bytes (y +ℤ z) ≤ 1 + least_signed_len y + advance_line_bytes z
