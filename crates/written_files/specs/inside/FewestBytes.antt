-- Expressions of which no number has a byte too many: a call is a call2 where its number is below 65,536, and each other number is shortest.
use Rattle.std.specs.Prelude.{◌≡◌, ◌+◌, ◌++◌, ℕ, ℤ, List, [], ◌∷◌, length, take, drop, nat_eq, nat_lt, if◌then◌else◌, Option, Some, None}
use Rattle.dw_base.specs.declared.fault.Reach.TheVariants.{Wide}
use Rattle.expr_ops.specs.declared.op.Op.{Op}
use Rattle.expr_ops.specs.Drafts.{is_slot, total}
use Rattle.expr_ops.specs.Expressions.{Operation, IsBranch, IsExpression}
use Rattle.expr_ops.specs.Ops.{meant, all_meant, Chain}
use Rattle.expr_ops.specs.Puts.{PutsOwn}
use Rattle.expr_ops.specs.Shortest.{needed_size, fixed_length}
use Rattle.expr_ops.specs.Slots.{slots_among}

-- how many bytes the operations have that an operation holds, where the slots of those behind it have these sizes
abbrev pub held_by : Operation → List Operation → List ℕ → ℕ
held_by o behind sizes = fixed_length (take o.inner behind) + total (take (slots_among (take o.inner behind)) sizes)

-- the bytes that the slots of some operations take, each just those that its number needs
abbrev pub fewest_sizes : List Operation → List ℕ
fewest_sizes [] = []
fewest_sizes (o ∷ os) = if is_slot o.code o.a then needed_size o (held_by o os (fewest_sizes os)) ∷ fewest_sizes os else fewest_sizes os

-- how many bytes the operations have that an operation holds
abbrev pub held_length : Operation → List Operation → ℕ
held_length o behind = held_by o behind (fewest_sizes behind)

-- a call has its size by its opcode; each other number that can be a slot is shortest, as the numbers are that can't
abbrev pub fewest_slot : Operation → Option ℕ
fewest_slot o = if nat_eq o.code 153 then Some (if nat_lt o.a 65536 then 2 else 4) else None

-- an operation as it is written: an entry_value with the length of what it holds, and a branch with its distance
abbrev pub as_written : ℕ → ℤ → Operation → Operation
as_written held distance o = record { code = o.code; a = if nat_eq o.code 163 then held else o.a; s = distance; block = o.block; jump = o.jump; inner = o.inner }

-- the operation stands at its place in its fewest bytes; others stand behind it
pub record StandsShortest (bytes : List ℕ) (op : Op) (behind : List Op) : Type 0 where
  pub distance : ℤ
  pub sign : (¬ IsBranch op.code) → distance ≡ op.s
  pub own : List ℕ
  pub rest : List ℕ
  pub put : PutsOwn (fewest_slot (meant bytes op)) (as_written (held_length (meant bytes op) (all_meant bytes behind)) distance (meant bytes op)) own
  pub stands : drop op.at bytes ≡ own ++ rest

-- each operation does
abbrev pub AreShortest : List ℕ → List Op → Type 0
AreShortest bytes [] = Unit {0}
AreShortest bytes (op ∷ ops) = StandsShortest bytes op ops × AreShortest bytes ops

-- the bytes are an expression, each operation of which has its fewest bytes, also those inside entry_values
pub record HasFewestBytes (bytes : List ℕ) : Type 0 where
  pub ops : List Op
  pub spelled : IsExpression Wide (all_meant bytes ops) bytes
  pub places : Chain bytes 0 ops (length bytes)
  pub each : AreShortest bytes ops
