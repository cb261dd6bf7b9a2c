-- Why bytes are no expression. Places count from their first byte.
use Rattle.std.specs.Prelude.{◌≡◌, ◌<◌, ◌+◌, ◌⊎◌, ℕ, zero, suc, List, ◌++◌, length}
use Rattle.dw_base.specs.declared.fault.Kind.{Kind}
use Rattle.dw_base.specs.declared.fault.Kind.TheVariants.{Limit, Branch}
use Rattle.dw_base.specs.declared.fault.Reach.{Reach}
use Rattle.spelled.specs.Spelled.{Joined, FaultUntilEnd}
use Rattle.expr_ops.specs.Heads.{Head, SpellsHead}
use Rattle.expr_ops.specs.HeadFaults.{FaultHead}
use Rattle.expr_ops.specs.Expressions.{Segment, IsBranch, IsEntryValue, HasBranch, EndsAt, Arrives, head_at, SpellsSegment, branch_limit}

-- a branch goes elsewhere than to an operation of its expression or the end. The place is that of its opcode.
pub record GoesAstray (S : Segment → List ℕ → Type 0) (at : ℕ) (bytes : List ℕ) : Type 0 where
  pub segments : List Segment
  pub spelled : Joined S segments bytes
  pub k : ℕ
  pub inside : k < length segments
  pub branch : IsBranch (head_at segments k).code
  pub here : EndsAt S segments bytes k at
  pub astray : (m : ℕ) → Arrives S segments bytes k m → ⊥

-- there is a branch, and too many bytes
pub record IsLong (most : ℕ) (S : Segment → List ℕ → Type 0) (bytes : List ℕ) : Type 0 where
  pub segments : List Segment
  pub spelled : Joined S segments bytes
  pub branch : HasBranch segments
  pub long : most < length bytes

-- An operation has a fault, the first one from the left; or all are there, and a branch goes astray, or there is a branch and the
-- bytes are too many. S and F say what spells an operation with those that it holds, and what faults it has.
abbrev pub FaultLevel : ℕ → (Segment → List ℕ → Type 0) → (Kind → ℕ → List ℕ → Type 0) → Kind → ℕ → List ℕ → Type 0
FaultLevel most S F kind at bytes =
    FaultUntilEnd S F kind at bytes
    ⊎ (((kind ≡ Branch) × GoesAstray S at bytes)
    ⊎ ((kind ≡ Limit) × (at ≡ 0) × IsLong most S bytes))

-- an entry_value stands at the front
pub record Enters (head : Head) (front rest bytes : List ℕ) : Type 0 where
  pub spelled : SpellsHead head front
  pub enters : IsEntryValue head.code
  pub whole : bytes ≡ front ++ rest

-- what begins with an operation has a fault: the operation itself has one, or the expression that it holds, or it stands inside
-- too many entry_values
abbrev pub FaultSegment : ℕ → ℕ → Kind → ℕ → List ℕ → Type 0
FaultSegment most zero kind at bytes =
    FaultHead kind at bytes
    ⊎ ((head : Head) × (front : List ℕ) × (rest : List ℕ) × Enters head front rest bytes × (kind ≡ Limit) × (at ≡ 0))
FaultSegment most (suc deep) kind at bytes =
    FaultHead kind at bytes
    ⊎ ((head : Head) × (front : List ℕ) × (rest : List ℕ) × (inner : ℕ) × Enters head front rest bytes × FaultLevel most (SpellsSegment most deep) (FaultSegment most deep) kind inner head.block × (at + length head.block ≡ length front + inner))

-- why bytes are no expression, by the limits of a reach
abbrev pub FaultExpression : Reach → Kind → ℕ → List ℕ → Type 0
FaultExpression reach kind at bytes = FaultLevel (branch_limit reach) (SpellsSegment (branch_limit reach) 8) (FaultSegment (branch_limit reach) 8) kind at bytes
