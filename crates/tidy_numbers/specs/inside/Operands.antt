-- Operands of operations that stand at a place of some bytes.
use Rattle.std.specs.Prelude.{◌≡◌, ◌≤◌, ◌+◌, ◌-◌, ◌++◌, ◌⊎◌, ℕ, List, length, take, drop, Bool, IsFalse}
use Rattle.leb_codec.specs.Leb.{Uleb, Sleb}
use Rattle.expr_ops.specs.declared.table.Shape.{Shape}
use Rattle.expr_ops.specs.declared.table.Shape.TheVariants as shape
use Rattle.expr_ops.specs.Heads.{SpellsPart}
use Rattle.tidy_numbers.specs.Fronts.{Behind}
use Rattle.tidy_numbers.specs.LongOperations.{IsLongPart}

-- the bytes begin with a thing
abbrev pub Begins : {V : Type 0} → (V → List ℕ → Type 0) → List ℕ → Type 0
Begins {V} Spells bytes = (v : V) × (first : List ℕ) × (rest : List ℕ) × Spells v first × (bytes ≡ first ++ rest)

-- a thing stands at a place and ends at another
pub record IsEndOf {V : Type 0} (Spells : V → List ℕ → Type 0) (bytes : List ℕ) (at end : ℕ) : Type 0 where
  pub thing : V
  pub starts : at ≤ end
  pub inside : end ≤ length bytes
  pub spelled : Spells thing (take (end - at) (drop at bytes))

-- the bytes begin with a number in LEB128, where an operand of this shape does
abbrev pub HasNumber : Shape → List ℕ → Type 0
HasNumber shape.Uleb bytes = Begins Uleb bytes
HasNumber shape.Sleb bytes = Begins Sleb bytes
HasNumber shape.Counted bytes = Begins Uleb bytes
HasNumber other bytes = Unit {0}

-- an operand of this shape is a number without a sign
abbrev pub IsNumber : Shape → Type 0
IsNumber (shape.Unsigned width) = Unit {0}
IsNumber shape.Uleb = Unit {0}
IsNumber other = ⊥

-- an operand of this shape, which may be a slot, has a byte too many and is none
abbrev pub IsLongOne : Bool → Shape → ℕ → List ℕ → Type 0
IsLongOne slot s at bytes = IsFalse slot × IsLongPart s at bytes

-- so does one of two
abbrev pub IsLongOfTwo : Bool → Shape → Bool → Shape → ℕ → List ℕ → Type 0
IsLongOfTwo slot s other t at bytes = IsLongOne slot s at bytes ⊎ Behind (SpellsPart s) (λ part. IsLongOne other t) at bytes

-- something holds at a place that counts from one of these bytes
abbrev pub HoldsFrom : (ℕ → List ℕ → Type 0) → ℕ → List ℕ → ℕ → Type 0
HoldsFrom Holds at bytes p = (inner : ℕ) × Holds inner (drop at bytes) × (p ≡ at + inner)

-- two operands are there, of which the first is a number without a sign
pub record AreTwo (s t : Shape) (bytes : List ℕ) : Type 0 where
  pub number : IsNumber s
  pub first : Begins (SpellsPart s) bytes
  pub second : HasNumber t first.2
