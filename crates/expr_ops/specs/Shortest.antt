-- Expressions in their fewest bytes, whatever their new references are: a reference to a base type has as many bytes as its number needs, a
-- call two where its number is below 65,536 and else four, and the length of the expression that an entry_value holds is shortest.
use Rattle.std.specs.Prelude.{◌≡◌, ◌+◌, ℕ, List, [], ◌∷◌, length, map, take, nat_eq, nat_lt, if◌then◌else◌, Option, Some, None, All}
use Rattle.leb_codec.specs.Leb.{least_unsigned_len}
use Rattle.expr_ops.specs.declared.op.Op.{Op}
use Rattle.expr_ops.specs.Expressions.{Operation, IsBranch, IsEntryValue}
use Rattle.expr_ops.specs.Ops.{all_meant}
use Rattle.expr_ops.specs.Drafts.{is_slot, with_refs, total}
use Rattle.expr_ops.specs.Sizes.{own_size}
use Rattle.expr_ops.specs.Writing.{IsWrittenExpression}

-- the bytes that an operation's slot needs, where the operation has its new reference and the operations that it holds have so many bytes
abbrev pub needed_size : Operation → ℕ → ℕ
needed_size new held = if nat_eq new.code 163 then least_unsigned_len held else (if nat_eq new.code 153 then (if nat_lt new.a 65536 then 2 else 4) else least_unsigned_len new.a)

-- the same, if the operation has a slot
abbrev pub needed_slot : Operation → Operation → ℕ → Option ℕ
needed_slot o new held = if is_slot o.code o.a then Some (needed_size new held) else None

-- the bytes of each operation, without those of the operations that it holds; beside it stands the operation with its new reference
abbrev pub needed_own : List Operation → List Operation → List ℕ
needed_own (o ∷ os) (new ∷ news) = own_size (needed_slot o new (total (take o.inner (needed_own os news)))) new ∷ needed_own os news
needed_own _ _ = []

-- the sizes of the slots, in the order of the operations
abbrev pub needed_sizes : List Operation → List Operation → List ℕ
needed_sizes (o ∷ os) (new ∷ news) = if is_slot o.code o.a then needed_size new (total (take o.inner (needed_own os news))) ∷ needed_sizes os news else needed_sizes os news
needed_sizes _ _ = []

-- the bytes of all, and the sizes of all slots, with new references
abbrev pub shortest_length : List ℕ → List Operation → ℕ
shortest_length refs os = total (needed_own os (with_refs refs os))

abbrev pub shortest_sizes : List ℕ → List Operation → List ℕ
shortest_sizes refs os = needed_sizes os (with_refs refs os)

-- the bytes of an operation beside its slot, and without those of the operations that it holds
abbrev pub fixed_size : Operation → ℕ
fixed_size o = if nat_eq o.code 153 then 1 else own_size (if is_slot o.code o.a then Some 0 else None) o

abbrev pub fixed_length : List Operation → ℕ
fixed_length os = total (map fixed_size os)

-- A law: what is no slot's doesn't depend on the references, and the rest are the sizes of the slots.
abbrev pub LengthsSplit : Type 0
LengthsSplit = (refs : List ℕ) (os : List Operation) → shortest_length refs os ≡ fixed_length os + total (shortest_sizes refs os)

-- neither branches nor entry_values
abbrev pub AreSimple : List Op → Type 0
AreSimple ops = All (λ (op : Op). (¬ IsBranch op.code) × (¬ IsEntryValue op.code)) ops

-- the bytes are those of the operations with new references, in these sizes
pub record IsWrittenShortest (refs bytes : List ℕ) (ops : List Op) (made : List ℕ) : Type 0 where
  pub written : IsWrittenExpression refs (shortest_sizes refs (all_meant bytes ops)) bytes ops made
  pub long : length made ≡ shortest_length refs (all_meant bytes ops)
