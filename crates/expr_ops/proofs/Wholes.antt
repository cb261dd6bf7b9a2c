-- Whole expressions.
use Rattle.std.proofs.Common.{◌≡◌, ◌<◌, ◌+◌, ◌^◌, ℕ, List, length, ◌∙◌, sym, subst, arith}
use Rattle.std.proofs.lemmas.List.{take_all, append_cancel_left}
use Rattle.dw_base.specs.declared.fault.Refusal.{Refusal}
use Rattle.dw_base.specs.declared.fault.Refusal.TheVariants.{Refused, NoMemory}
use Rattle.dw_base.specs.declared.fault.Reach.{Reach}
use Rattle.dw_base.specs.declared.fault.Kind.{Kind}
use Rattle.dw_base.specs.Refusals.{IsRefusedFor, IsFaultOf}
use Rattle.expr_ops.specs.declared.op.Op.{Op}
use Rattle.expr_ops.specs.Expressions.{IsLevel, SpellsSegment, branch_limit}
use Rattle.expr_ops.specs.Reading.{IsExpressionRead}
use Rattle.expr_ops.specs.ExpressionFaults.{FaultExpression}
use Rattle.expr_ops.specs.Ops.{all_meant, Stands, Chain}
use Rattle.expr_ops.specs.inside.Levels.{IsChained, IsLevelRead, IsMoved, HasLevelFault}

pub stands_here : (bytes : List ℕ) → Stands bytes 0 bytes
stands_here bytes = (omega arith, take_all (length bytes) bytes (omega arith))

pub whole_read : (reach : Reach) (most : ℕ) (bytes : List ℕ) (old new : List Op) → most ≡ branch_limit reach → length new < 2 ^ 32 → IsLevelRead bytes most 8 bytes old new → IsChained bytes 0 (0 + length bytes) old new → IsExpressionRead reach bytes old new
whole_read reach most bytes old new e few l (more, items, places) =
    let same : more ≡ l.more = append_cancel_left old more l.more (sym items ∙ l.items) in
    let to : 0 + length bytes ≡ length bytes = omega arith in
    record {
      more = l.more;
      items = l.items;
      read = subst (λ (z : ℕ). IsLevel z (SpellsSegment z 8) (all_meant bytes l.more) bytes) e l.level;
      places = subst (λ (z : List Op). Chain bytes 0 z (length bytes)) same (subst (λ (z : ℕ). Chain bytes 0 more z) to places);
      few = few;
    }

pub whole_fault : (reach : Reach) (most origin : ℕ) (bytes : List ℕ) (a b : Refusal) → most ≡ branch_limit reach → IsMoved origin a b → IsRefusedFor (HasLevelFault most 8 bytes) a → IsRefusedFor (IsFaultOf (λ k at. FaultExpression reach k at bytes) origin) b
whole_fault reach most origin bytes NoMemory NoMemory e m f = tt
whole_fault reach most origin bytes NoMemory (Refused g) e m f = absurd m
whole_fault reach most origin bytes (Refused f) NoMemory e m fault = absurd m
whole_fault reach most origin bytes (Refused f) (Refused g) e m fault =
    let place : g.place ≡ f.place + origin = m.1 in
    (f.place, omega (arith, place), subst (λ (z : Kind). FaultExpression reach z f.place bytes) (sym m.0) (subst (λ (z : ℕ). HasLevelFault z 8 bytes f) e fault))
