-- The new bytes of a list's expressions, as they are put one by one.
-- Inner functions and proofs alone need what stands here.
use Rattle.std.specs.Prelude.{◌≡◌, ◌≤◌, ◌<◌, ◌^◌, ◌*◌, ◌++◌, ℕ, List, length, Option, Some, None, slice_index}
use Rattle.dw_base.specs.declared.fault.Reach.TheVariants.{Narrow}
use Rattle.expr_ops.specs.declared.op.Op.{Op}
use Rattle.expr_ops.specs.Expressions.{IsExpression}
use Rattle.expr_ops.specs.Drafts.{op_at}
use Rattle.expr_ops.specs.Ops.{all_meant}
use Rattle.unit_write.specs.declared.places.Places.{Places}
use Rattle.unit_write.specs.NewExpressions.{refs_among}
use Rattle.value_links.specs.Operations.{LinkedOperation, LinksExpression}
use Rattle.value_links.specs.Reading.{Linkable, Reading}
use Rattle.value_links.specs.World.{World, Holds}
use Rattle.rewriter.specs.inside.Held.{IsReferenceOf}
use Rattle.rewriter.specs.inside.Numbers.{IsNewExpression}

-- the unit that owns a list is one that is held
abbrev pub IsOwnedIn : World → Option ℕ → Type 0
IsOwnedIn world owner = (u : ℕ) → owner ≡ Some u → u < length world.units

-- the unit in which the references of a list's expressions count; the number past the last unit stands for none
abbrev pub owner_in : World → Option ℕ → ℕ
owner_in world (Some u) = u
owner_in world None = length world.units

-- those of operations, of which the ones that have a reference are taken
pub record AreListReferences (world : World) (places : List Places) (u : ℕ) (ops : List Op) (refs : List ℕ) : Type 0 where
  pub numbers : List ℕ
  pub count : length numbers ≡ length ops
  pub fit : (k : ℕ) → k < length numbers → slice_index numbers k < 2 ^ 32
  pub each : (k : ℕ) → k < length ops → IsReferenceOf world places u (op_at ops k) (slice_index numbers k)
  pub taken : refs ≡ refs_among ops numbers

-- the operations of an expression were read once more
pub record IsReadAgain (bytes : List ℕ) (ops : List Op) : Type 0 where
  pub spelled : IsExpression Narrow (all_meant bytes ops) bytes
  pub few : length ops < 2 ^ 32

-- the operations of an expression name what they may
abbrev pub LinksSomething : Linkable → ℕ → List ℕ → Type 0
LinksSomething r u bytes = (linked : List LinkedOperation) × LinksExpression r u bytes linked

-- the new bytes of an expression stand behind others
pub record IsExpressionPut (world : World) (places : List Places) (u : ℕ) (bytes old new : List ℕ) : Type 0 where
  pub made : List ℕ
  pub behind : new ≡ old ++ made
  pub few : length made ≤ 3 * length bytes
  pub is : (file : List ℕ) (r : Reading) → Holds file world r → LinksSomething r.links u bytes → IsNewExpression r.links places u bytes made
