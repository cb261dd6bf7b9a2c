-- The slots of expressions: their numbers that count bytes of which some may be those of other slots (DWARF 5 sections 2.5.1.1 to
-- 2.5.1.3, 2.5.1.5 to 2.5.1.7 and 7.7.1).
use Rattle.std.specs.Prelude.{◌≡◌, ◌≤◌, ◌+◌, ◌*◌, ℕ, List, [], ◌∷◌, length, take, nat_eq, if◌then◌else◌, true, false}
use Rattle.std.specs.List.{count_by}
use Rattle.leb_codec.specs.Layout.{SlotForm, uleb, call}
use Rattle.dw_base.specs.declared.fault.Reach.TheVariants.{Narrow}
use Rattle.expr_ops.specs.Expressions.{Operation, IsExpression}
use Rattle.expr_ops.specs.Drafts.{is_slot, with_refs, total}
use Rattle.expr_ops.specs.Shortest.{needed_size, shortest_sizes, fixed_length}

-- how many of some operations have a slot
abbrev pub slots_among : List Operation → ℕ
slots_among os = count_by (λ (o : Operation). is_slot o.code o.a) os

-- What the number of a slot tells: what stands so many bytes behind the unit's first byte; or how long an expression is, of whose bytes so
-- many are no slot's, and the others are those of so many slots, which follow.
pub data Aim : Type 0 where
  Place : SlotForm → ℕ → Aim
  Length : ℕ → ℕ → Aim

-- the length of the expression that these operations are
abbrev pub length_aim : List Operation → Aim
length_aim os = Length (fixed_length os) (slots_among os)

-- the operand of a call has two bytes or four, and that of a typed operation is in ULEB128
abbrev pub slot_form : ℕ → SlotForm
slot_form code = if nat_eq code 153 then call else uleb

-- what the slot of an operation tells, behind which these operations stand: an entry_value's the length of what it holds
abbrev pub op_aim : Operation → List Operation → Aim
op_aim o behind = if nat_eq o.code 163 then length_aim (take o.inner behind) else Place (slot_form o.code) o.a

-- those of operations, in their order
abbrev pub op_aims : List Operation → List Aim
op_aims [] = []
op_aims (o ∷ os) = if is_slot o.code o.a then op_aim o os ∷ op_aims os else op_aims os

-- those of an expression: its length stands before its operations (DWARF 5 section 7.5.5, class exprloc)
abbrev pub expression_aims : List Operation → List Aim
expression_aims os = length_aim os ∷ op_aims os

-- The sizes are those of the slots of operations, each the bytes that its slot needs where the operations have their new references and
-- the slots behind it their sizes.
abbrev pub AreNeeded : List Operation → List Operation → List ℕ → Type 0
AreNeeded (o ∷ os) (new ∷ news) sizes =
    (is_slot o.code o.a ≡ false → AreNeeded os news sizes)
    × (is_slot o.code o.a ≡ true → (size : ℕ) × (rest : List ℕ) × (sizes ≡ size ∷ rest) × (size ≡ needed_size new (fixed_length (take o.inner os) + total (take (slots_among (take o.inner os)) rest))) × AreNeeded os news rest)
AreNeeded _ _ sizes = sizes ≡ []

-- A law: such sizes are those that an expression has that is written in its fewest bytes.
abbrev pub NeededAreShortest : Type 0
NeededAreShortest = (refs : List ℕ) (os : List Operation) (sizes : List ℕ) → AreNeeded os (with_refs refs os) sizes → sizes ≡ shortest_sizes refs os

-- A law: each operation has its opcode beside its slot.
abbrev pub SlotsHaveOpcodes : Type 0
SlotsHaveOpcodes = (os : List Operation) → slots_among os ≤ fixed_length os

-- A law: with five bytes for each slot an expression has at most three times its bytes.
abbrev pub SlotsAreFew : Type 0
SlotsAreFew = (os : List Operation) (bytes : List ℕ) → IsExpression Narrow os bytes → fixed_length os + 5 * slots_among os ≤ 3 * length bytes
