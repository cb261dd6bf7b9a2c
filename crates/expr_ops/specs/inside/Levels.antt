-- What is read of the operations of an expression, one after the other.
-- Inner functions and proofs alone need what stands here.
use Rattle.std.specs.Prelude.{◌≡◌, ◌≤◌, ◌<◌, ◌+◌, ◌-◌, ℕ, List, [], ◌∷◌, ◌++◌, length, take, drop, slice_index_or, false, IsTrue, ◌↔◌, pos, ◌+ℤ◌, ◌≢◌, ◌⊎◌}
use Rattle.dw_base.specs.declared.fault.Fault.{Fault}
use Rattle.dw_base.specs.declared.fault.Refusal.{Refusal}
use Rattle.dw_base.specs.declared.fault.Span.{Span}
use Rattle.dw_base.specs.declared.fault.Refusal.TheVariants.{Refused, NoMemory}
use Rattle.expr_ops.specs.declared.op.Op.{Op}
use Rattle.expr_ops.specs.declared.head.ReadHead.{ReadHead}
use Rattle.expr_ops.specs.Heads.{KeepsBlock}
use Rattle.expr_ops.specs.inside.Reads.{head_in}
use Rattle.expr_ops.specs.Ops.{meant, all_meant, Chain}
use Rattle.spelled.specs.Spelled.{Joined}
use Rattle.expr_ops.specs.declared.start.Start.{Start}
use Rattle.expr_ops.specs.Expressions.{Segment, operation_of, flat, count_of, head_at, EndsAt, IsBranch, IsLevel, SpellsSegment}
use Rattle.expr_ops.specs.ExpressionFaults.{FaultSegment, FaultLevel}

abbrev pub with_inner : Op → ℕ → Op
with_inner op n = record { at = op.at; code = op.code; a = op.a; s = op.s; jump = op.jump; bytes = op.bytes; inner = n }

abbrev pub with_jump : Op → ℕ → Op
with_jump op n = record { at = op.at; code = op.code; a = op.a; s = op.s; jump = n; bytes = op.bytes; inner = op.inner }

-- new is old with some operations behind it
abbrev pub Extends : List Op → List Op → Type 0
Extends old new = (more : List Op) × (new ≡ old ++ more)

-- the operation that begins at a place was read, and those that it holds; it isn't known yet where it goes
pub record IsSegmentRead (outer : List ℕ) (most deep : ℕ) (bytes : List ℕ) (at : ℕ) (old new : List Op) (h : ReadHead) : Type 0 where
  pub op : Op
  pub held : List Op
  pub items : new ≡ old ++ op ∷ held
  pub means : meant outer op ≡ operation_of (head_in bytes h) 0 (length held)
  pub starts : at < h.end
  pub inside : h.end ≤ length bytes
  pub spelled : SpellsSegment most deep (record { head = head_in bytes h; inner = all_meant outer held }) (take (h.end - at) (drop at bytes))

-- an expression was read
pub record IsLevelRead (outer : List ℕ) (most deep : ℕ) (bytes : List ℕ) (old new : List Op) : Type 0 where
  pub more : List Op
  pub items : new ≡ old ++ more
  pub level : IsLevel most (SpellsSegment most deep) (all_meant outer more) bytes

abbrev pub HasSegmentFault : ℕ → ℕ → List ℕ → ℕ → Fault → Type 0
HasSegmentFault most deep bytes at f = (inner : ℕ) × FaultSegment most deep f.kind inner (drop at bytes) × (f.place ≡ at + inner)

abbrev pub HasLevelFault : ℕ → ℕ → List ℕ → Fault → Type 0
HasLevelFault most deep bytes f = FaultLevel most (SpellsSegment most deep) (FaultSegment most deep) f.kind f.place bytes

-- where segment k begins and ends, how many operations stand before it, and where it goes as a branch
pub record IsStart (S : Segment → List ℕ → Type 0) (bytes : List ℕ) (segments : List Segment) (k : ℕ) (start : Start) : Type 0 where
  pub from : EndsAt S segments bytes k start.at
  pub behind : EndsAt S segments bytes (k + 1) start.end
  pub number : start.number ≡ count_of (take k segments)
  pub branch : IsTrue start.is_branch ↔ IsBranch (head_at segments k).code
  pub distance : start.distance ≡ (head_at segments k).s

abbrev pub start_at : List Start → ℕ → Start
start_at starts k = slice_index_or starts k (record { at = 0; end = 0; number = 0; is_branch = false; distance = pos 0 })

abbrev pub none_sent : List Segment → List ℕ
none_sent [] = []
none_sent (g ∷ gs) = 0 ∷ none_sent gs

-- the operations up to a place were read, and it isn't known yet where branches go
pub record IsFront (outer : List ℕ) (most deep : ℕ) (bytes : List ℕ) (old new : List Op) (starts : List Start) (at : ℕ) : Type 0 where
  pub segments : List Segment
  pub more : List Op
  pub items : new ≡ old ++ more
  pub inside : at ≤ length bytes
  pub spelled : Joined (SpellsSegment most deep) segments (take at bytes)
  pub means : all_meant outer more ≡ flat (none_sent segments) segments
  pub each : length starts ≡ length segments
  pub rows : (k : ℕ) → k < length segments → IsStart (SpellsSegment most deep) bytes segments k (start_at starts k)

-- the same refusal, with a fault's place so much further on
abbrev pub IsMoved : ℕ → Refusal → Refusal → Type 0
IsMoved from (Refused f) (Refused g) = (g.kind ≡ f.kind) × (g.place ≡ f.place + from)
IsMoved from NoMemory NoMemory = Unit {0}
IsMoved from _ _ = ⊥

-- a branch goes to no operation of these and not to the end
abbrev pub HasNoTarget : List Start → ℕ → Start → Type 0
HasNoTarget starts len branch = (n : ℕ) → pos n ≡ pos branch.end +ℤ branch.distance → (n ≢ len) × ((k : ℕ) → k < length starts → (start_at starts k).at ≢ n)

-- a branch goes to the end, or to the operation that begins at its place, by its number
pub record IsTarget (starts : List Start) (len count : ℕ) (branch : Start) (jump : ℕ) : Type 0 where
  pub place : ℕ
  pub there : pos place ≡ pos branch.end +ℤ branch.distance
  pub which : ((place ≡ len) × (jump ≡ count)) ⊎ ((k : ℕ) × (k < length starts) × ((start_at starts k).at ≡ place) × (jump ≡ (start_at starts k).number))

-- how the bytes of an operation's block are held: 0, 0 where none is kept
abbrev pub IsSpanOf : ℕ → ℕ → Span → Span → Type 0
IsSpanOf code base block span =
    (KeepsBlock code × (span.at ≡ base + block.at) × (span.len ≡ block.len))
    ⊎ ((¬ KeepsBlock code) × (span.at ≡ 0) × (span.len ≡ 0))

-- new operations stand one behind the other from a place up to another
abbrev pub IsChained : List ℕ → ℕ → ℕ → List Op → List Op → Type 0
IsChained outer from to old new = (more : List Op) × (new ≡ old ++ more) × Chain outer from more to
