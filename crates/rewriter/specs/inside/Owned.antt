-- What the slots of the expressions of the location lists that units own tell.
-- Inner functions and proofs alone need what stands here.
use Rattle.std.specs.Prelude.{◌≡◌, ◌++◌, ℕ, List, flat_map}
use Rattle.std.specs.List.{AllZip}
use Rattle.dw_base.specs.declared.fault.Reach.TheVariants.{Narrow}
use Rattle.expr_ops.specs.Expressions.{Operation, IsExpression}
use Rattle.expr_ops.specs.Slots.{Aim, expression_aims}
use Rattle.entry_read.specs.Units.{HeadAndForest}
use Rattle.unit_write.specs.declared.slots.ListSlot.{ListSlot}
use Rattle.unit_write.specs.Slots.{AreListSlots}
use Rattle.written_files.specs.Layouts.{list_expressions}
use Rattle.value_links.specs.Reading.{Reading}
use Rattle.value_links.specs.World.{World, Holds}

-- The slots of the expressions of lists with these numbers tell this, one expression after the other.
abbrev pub AreListAims : World → List ℕ → List Aim → Type 0
AreListAims world numbers aims =
    (r : Reading) → Holds world.image world r → (ops : List (List Operation)) × AllZip (IsExpression Narrow) ops (list_expressions r numbers) × (aims ≡ flat_map expression_aims ops)

-- Behind the slots of some expressions, whatever they tell, those of others are added.
pub record AddsListSlots (unit : HeadAndForest) (expressions : List (List ℕ)) (old new : List ListSlot) : Type 0 where
  pub ops : List (List Operation)
  pub spelled : AllZip (IsExpression Narrow) ops expressions
  pub slots : (more : List Aim) → AreListSlots unit more old → AreListSlots unit (more ++ flat_map expression_aims ops) new

-- the slots so far are those of the lists with these numbers
pub record AreSlotsOfLists (world : World) (unit : HeadAndForest) (numbers : List ℕ) (slots : List ListSlot) : Type 0 where
  pub more : List Aim
  pub told : AreListAims world numbers more
  pub are : AreListSlots unit more slots
