-- What is read of one operation, with spans that count from the first byte of the bytes that were given.
-- Inner functions and proofs alone need what stands here.
use Rattle.std.specs.Prelude.{◌≡◌, ◌≤◌, ◌<◌, ◌+◌, ◌-◌, ℕ, List, length, take, drop}
use Rattle.dw_base.specs.declared.fault.Span.{Span}
use Rattle.expr_ops.specs.Reads.{bytes_in}
use Rattle.dw_base.specs.declared.fault.Fault.{Fault}
use Rattle.expr_ops.specs.declared.table.Shape.{Shape}
use Rattle.expr_ops.specs.declared.table.Shape.TheVariants as shape
use Rattle.expr_ops.specs.declared.part.Part.TheVariants as part
use Rattle.expr_ops.specs.declared.part.Part.{Part as HeldPart}
use Rattle.expr_ops.specs.declared.part.ReadPart.{ReadPart}
use Rattle.expr_ops.specs.declared.head.ReadHead.{ReadHead}
use Rattle.expr_ops.specs.Heads.{Part, Head, SpellsPart, SpellsHead, KeepsBlock}
use Rattle.expr_ops.specs.Heads.Part.{Unsigned, Signed, Data}
use Rattle.expr_ops.specs.declared.table.Operands.{Operands}
use Rattle.expr_ops.specs.declared.table.Operands.TheVariants as operands
use Rattle.expr_ops.specs.declared.head.ReadTwo.{ReadTwo}
use Rattle.spelled.specs.Spelled.{Then}
use Rattle.expr_ops.specs.Heads.{SpellsOperands}
use Rattle.expr_ops.specs.HeadFaults.{FaultHead, FaultOperands}

abbrev pub part_in : List ℕ → HeldPart → Part
part_in bytes (part.Unsigned n) = Unsigned n
part_in bytes (part.Signed v) = Signed v
part_in bytes (part.Data span) = Data (bytes_in bytes span)

abbrev pub LiesIn : ℕ → HeldPart → Type 0
LiesIn size (part.Data span) = span.at + span.len ≤ size
LiesIn size _ = Unit {0}

-- a block is the last of an operand's bytes
abbrev pub PartEnds : Shape → HeldPart → ℕ → Type 0
PartEnds shape.Counted (part.Data span) end = span.at + span.len ≡ end
PartEnds shape.Counted _ end = ⊥
PartEnds shape.ByteCounted (part.Data span) end = span.at + span.len ≡ end
PartEnds shape.ByteCounted _ end = ⊥
PartEnds shape.Uleb (part.Unsigned n) end = Unit {0}
PartEnds shape.Uleb _ end = ⊥
PartEnds _ _ end = Unit {0}

-- the block of one operand
abbrev pub IsBlockIn : HeldPart → Span → Type 0
IsBlockIn (part.Data span) block = block ≡ span
IsBlockIn _ block = Unit {0}

-- the block of two operands
abbrev pub IsBlockOfTwo : HeldPart → HeldPart → Span → Type 0
IsBlockOfTwo (part.Unsigned n) second block = IsBlockIn second block
IsBlockOfTwo _ second block = Unit {0}

abbrev pub ShapeEnds : Shape → Span → ℕ → Type 0
ShapeEnds shape.Counted block end = block.at + block.len ≡ end
ShapeEnds shape.ByteCounted block end = block.at + block.len ≡ end
ShapeEnds _ block end = Unit {0}

abbrev pub TwoEnds : Shape → Shape → Span → ℕ → Type 0
TwoEnds shape.Uleb t block end = ShapeEnds t block end
TwoEnds _ t block end = Unit {0}

-- a block is the last of an operation's bytes
abbrev pub BlockEnds : Operands → Span → ℕ → Type 0
BlockEnds (operands.One s) block end = ShapeEnds s block end
BlockEnds (operands.Two s t) block end = TwoEnds s t block end
BlockEnds _ block end = Unit {0}

pub record IsReadPart (s : Shape) (bytes : List ℕ) (at : ℕ) (r : ReadPart) : Type 0 where
  pub starts : at ≤ r.end
  pub inside : r.end ≤ length bytes
  pub spelled : SpellsPart s (part_in bytes r.part) (take (r.end - at) (drop at bytes))
  pub lies : LiesIn (length bytes) r.part
  pub ends : PartEnds s r.part r.end

abbrev pub head_in : List ℕ → ReadHead → Head
head_in bytes r = record { code = r.code; a = r.a; s = r.s; block = bytes_in bytes r.block }

pub record IsReadHead (bytes : List ℕ) (at : ℕ) (r : ReadHead) : Type 0 where
  pub starts : at < r.end
  pub inside : r.end ≤ length bytes
  pub spelled : SpellsHead (head_in bytes r) (take (r.end - at) (drop at bytes))
  pub lies : r.block.at + r.block.len ≤ length bytes
  pub ends : KeepsBlock r.code → r.block.at + r.block.len ≡ r.end

-- a fault of what begins at a place
abbrev pub HasHeadFault : List ℕ → ℕ → Fault → Type 0
HasHeadFault bytes at f = (inner : ℕ) × FaultHead f.kind inner (drop at bytes) × (f.place ≡ at + inner)

-- two operands, one after the other
pub record IsReadTwo (s t : Shape) (bytes : List ℕ) (at : ℕ) (r : ReadTwo) : Type 0 where
  pub starts : at ≤ r.end
  pub inside : r.end ≤ length bytes
  pub spelled : Then (SpellsPart s) (λ _. SpellsPart t) (part_in bytes r.first, part_in bytes r.second) (take (r.end - at) (drop at bytes))
  pub first : LiesIn (length bytes) r.first
  pub second : LiesIn (length bytes) r.second
  pub mid : ℕ
  pub ends_first : PartEnds s r.first mid
  pub ends : PartEnds t r.second r.end

-- the same of what follows an opcode, which begins at a place
pub record IsReadBody (code : ℕ) (o : Operands) (bytes : List ℕ) (at : ℕ) (r : ReadHead) : Type 0 where
  pub starts : at ≤ r.end
  pub inside : r.end ≤ length bytes
  pub spelled : SpellsOperands code o (head_in bytes r) (take (r.end - at) (drop at bytes))
  pub lies : r.block.at + r.block.len ≤ length bytes
  pub ends : BlockEnds o r.block r.end

abbrev pub HasBodyFault : Operands → List ℕ → ℕ → Fault → Type 0
HasBodyFault o bytes at f = (inner : ℕ) × FaultOperands o f.kind inner (drop at bytes) × (f.place ≡ at + inner)
