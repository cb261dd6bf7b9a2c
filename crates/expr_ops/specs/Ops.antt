-- Operations as they are held, with their places.
use Rattle.std.specs.Prelude.{◌≡◌, ◌≤◌, ◌+◌, ℕ, List, [], ◌∷◌, length, take, drop, map, nat_eq, if◌then◌else◌, ◌⊎◌}
use Rattle.dw_base.specs.declared.fault.Span.{Span}
use Rattle.expr_ops.specs.declared.op.Op.{Op}
use Rattle.expr_ops.specs.Heads.{Head, SpellsHead, KeepsBlock}
use Rattle.expr_ops.specs.Reads.{bytes_in}
use Rattle.expr_ops.specs.Expressions.{Operation, operation_of}

-- what an operation means; spans count from the first of these bytes
abbrev pub meant : List ℕ → Op → Operation
meant outer op = record { code = op.code; a = op.a; s = op.s; block = bytes_in outer op.bytes; jump = op.jump; inner = op.inner }

abbrev pub all_meant : List ℕ → List Op → List Operation
all_meant outer ops = map (meant outer) ops

-- the bytes stand at a place of others
abbrev pub Stands : List ℕ → ℕ → List ℕ → Type 0
Stands outer base bytes = (base + length bytes ≤ length outer) × (take (length bytes) (drop base outer) ≡ bytes)

-- how many of an operation's bytes belong to the expression that it holds
abbrev pub held_bytes : Head → ℕ
held_bytes head = if nat_eq head.code 163 then length head.block else 0

-- a kept block is the last of an operation's own bytes; 0, 0 where none is kept
abbrev pub IsLastBlock : ℕ → ℕ → Span → Type 0
IsLastBlock code end span =
    (KeepsBlock code × (span.at + span.len ≡ end))
    ⊎ ((¬ KeepsBlock code) × (span.at ≡ 0) × (span.len ≡ 0))

-- An opcode with its operands begins at a place, and is what the operation means; so many bytes are its own, without those
-- of an expression that it holds. All of them are there, so there is one such size, and one span for its block.
pub record IsLead (outer : List ℕ) (at size : ℕ) (op : Op) : Type 0 where
  pub head : Head
  pub inside : at + size + held_bytes head ≤ length outer
  pub spelled : SpellsHead head (take (size + held_bytes head) (drop at outer))
  pub means : meant outer op ≡ operation_of head op.jump op.inner
  pub block : IsLastBlock head.code (at + size) op.bytes

-- the operations begin one behind the other, each at the place that it has
abbrev pub Chain : List ℕ → ℕ → List Op → ℕ → Type 0
Chain outer at [] end = at ≡ end
Chain outer at (op ∷ ops) end = (op.at ≡ at) × ((size : ℕ) × IsLead outer at size op × Chain outer (at + size) ops end)
