-- Where the operands of operations stand, and which of them have a byte too many.
use Rattle.std.proofs.Common.{◌≡◌, ◌≢◌, ◌≤◌, ◌+◌, ◌⊎◌, inl, inr, ℕ, suc, List, [], ◌∷◌, ◌++◌, length, take, drop, ◌∙◌, sym, ap, subst, refl, arith}
use Rattle.std.specs.Prelude.{Bool, true, false, Option, Some, Err, IsErrOf, ◌↔◌, nat_le, if◌then◌else◌, ◌&&◌}
use Rattle.std.proofs.lemmas.List.{append_assoc, drop-drop, take-append-drop}
use Rattle.std.proofs.lemmas.Bool.{false≢true}
use Rattle.std.proofs.lemmas.Bool.Decides.{eqb_tells}
use Rattle.leb_codec.specs.Leb.{Uleb, IsShort, IsWideUnsigned}
use Rattle.leb_codec.specs.declared.read.LebFault.{LebFault}
use Rattle.leb_codec.specs.declared.read.LebFault.TheVariants.{Short, Wide}
use Rattle.leb_codec.specs.declared.read.ReadU.{ReadU}
use Rattle.leb_codec.proofs.Fronts.{leb_not_short, uleb_not_wide}
use Rattle.expr_ops.specs.declared.op.Op.{Op}
use Rattle.expr_ops.specs.declared.table.Operands.{Operands}
use Rattle.expr_ops.specs.declared.table.Operands.TheVariants as operands
use Rattle.expr_ops.specs.declared.table.Shape.{Shape}
use Rattle.expr_ops.specs.declared.table.Shape.TheVariants as shape
use Rattle.expr_ops.specs.declared.table.Width.{Width}
use Rattle.expr_ops.specs.declared.table.Width.TheVariants as width
use Rattle.expr_ops.specs.Drafts.{is_slot}
use Rattle.expr_ops.specs.Expressions.{Operation, plain_code}
use Rattle.expr_ops.specs.Heads.{size_of, Part, Head, SpellsPart, SpellsOperands}
use Rattle.expr_ops.specs.Heads.Part.{Unsigned}
use Rattle.expr_ops.specs.Ops.{held_bytes, IsLead}
use Rattle.expr_ops.specs.Table.{Row, look_up, low_rows, middle_rows, high_rows, operands_of}
use Rattle.expr_ops.specs.inside.Leads.{is_number}
use Rattle.expr_ops.proofs.BlockLaws.{code_of_head}
use Rattle.expr_ops.proofs.ChainLaws.{lead_long}
use Rattle.expr_ops.proofs.HeadLaws.{part_once, some_same}
use Rattle.tidy_places.specs.Firsts.{IsLeastFound}
use Rattle.tidy_numbers.specs.LongOperations.{IsLongPart, AreLongOperands, IsLongOperand}
use Rattle.tidy_numbers.specs.inside.Operands.{Begins, IsEndOf, HasNumber, IsNumber, IsLongOne, IsLongOfTwo, HoldsFrom, AreTwo}
use Rattle.tidy_numbers.proofs.FoundAmong.{found_same}
use Rattle.tidy_numbers.proofs.ThingEnds.{end_is, rest_there, found_behind}

-- NUMBERS

-- reading one that is there doesn't fail
pub number_there : (bytes : List ℕ) (at : ℕ) (fault : LebFault) → Begins Uleb (drop at bytes) → (IsErrOf {T = ReadU} (Err fault) Short ↔ IsShort (drop at bytes)) → (IsErrOf {T = ReadU} (Err fault) Wide ↔ IsWideUnsigned (drop at bytes)) → ⊥
number_there bytes at Short (n, first, rest, spelled, whole) short wide = leb_not_short first rest spelled.0.0 (subst IsShort whole (short.0 refl))
number_there bytes at Wide (n, first, rest, spelled, whole) short wide = uleb_not_wide n first rest spelled (subst IsWideUnsigned whole (wide.0 refl))

-- it is an operand
pub number_end : (bytes : List ℕ) (at end : ℕ) → IsEndOf Uleb bytes at end → IsEndOf (SpellsPart shape.Uleb) bytes at end
number_end bytes at end there = record { thing = Unsigned there.thing; starts = there.starts; inside = there.inside; spelled = (there.thing, there.spelled, refl) }

pub number_begins : (bytes : List ℕ) → Begins (SpellsPart shape.Uleb) bytes → Begins Uleb bytes
number_begins bytes (part, first, rest, (n, spelled, is), whole) = (n, first, rest, spelled, whole)

-- OPERANDS

-- one of a fixed size
pub fixed_end : (w : Width) (bytes : List ℕ) (at : ℕ) → at ≤ length bytes → Begins (SpellsPart (shape.Unsigned w)) (drop at bytes) → IsEndOf (SpellsPart (shape.Unsigned w)) bytes at (at + size_of w)
fixed_end w bytes at within (part, first, rest, (size, is), whole) =
    end_is (SpellsPart (shape.Unsigned w)) bytes at (at + size_of w) part first rest within (size, is) whole (ap (λ (n : ℕ). at + n) (sym size))

-- a number of an operand is its first thing
pub part_first : (s : Shape) (inner : ℕ) (bytes : List ℕ) → IsLongPart s inner bytes → inner ≡ 0
part_first (shape.Unsigned width) inner bytes long = absurd long
part_first (shape.Signed width) inner bytes long = absurd long
part_first shape.Uleb inner bytes long = long.0
part_first shape.Sleb inner bytes long = long.0
part_first shape.Counted inner bytes long = long.0
part_first shape.ByteCounted inner bytes long = absurd long

-- an operand begins with a number, where those of its shape do
pub has_number : (s : Shape) (p : Part) (first rest bytes : List ℕ) → SpellsPart s p first → bytes ≡ first ++ rest → HasNumber s bytes
has_number (shape.Unsigned width) p first rest bytes spells whole = tt
has_number (shape.Signed width) p first rest bytes spells whole = tt
has_number shape.Uleb p first rest bytes (n, spells, is) whole = (n, first, rest, spells, whole)
has_number shape.Sleb p first rest bytes (v, spells, is) whole = (v, first, rest, spells, whole)
has_number shape.Counted p first rest bytes (body, counted, is) whole =
    (length body, counted.head, body ++ rest, counted.count, whole ∙ ap (λ (z : List ℕ). z ++ rest) counted.whole ∙ append_assoc counted.head body rest)
has_number shape.ByteCounted p first rest bytes spells whole = tt

-- OF TWO OPERANDS THE FIRST IS A NUMBER WITHOUT A SIGN

is_a_number : (s : Shape) → is_number s ≡ true → IsNumber s
is_a_number (shape.Unsigned width) is = tt
is_a_number (shape.Signed width) is = absurd (false≢true is)
is_a_number shape.Uleb is = tt
is_a_number shape.Sleb is = absurd (false≢true is)
is_a_number shape.Counted is = absurd (false≢true is)
is_a_number shape.ByteCounted is = absurd (false≢true is)

-- before a base type too
abbrev is_led : Option Operands → Bool
is_led (Some (operands.Two s t)) = is_number s
is_led (Some (operands.Typed s)) = is_number s
is_led other = true

abbrev are_led : List Row → Bool
are_led [] = true
are_led (row ∷ rows) = if is_led row.operands then are_led rows else false

both_true : (a b : Bool) → (if a then b else false) ≡ true → (a ≡ true) × (b ≡ true)
both_true true b e = (refl, e)
both_true false b e = absurd (false≢true e)

led_if : (b : Bool) (x y : Option Operands) → is_led x ≡ true → is_led y ≡ true → is_led (if b then x else y) ≡ true
led_if true x y first second = first
led_if false x y first second = second

look_led : (rows : List Row) (code : ℕ) → are_led rows ≡ true → is_led (look_up rows code) ≡ true
look_led [] code e = refl
look_led (row ∷ rows) code e =
    let (here, below) = both_true (is_led row.operands) (are_led rows) e in
    led_if (nat_le code row.last) row.operands (look_up rows code) here (look_led rows code below)

table_led : (code : ℕ) → is_led (operands_of code) ≡ true
table_led code =
    let upper = led_if (nat_le code 147) (look_up middle_rows code) (look_up high_rows code) (look_led middle_rows code refl) (look_led high_rows code refl) in
    led_if (nat_le code 47) (look_up low_rows code) (if nat_le code 147 then look_up middle_rows code else look_up high_rows code) (look_led low_rows code refl) upper

two_are : (s t : Shape) (p q : Part) (first second tail rest bytes : List ℕ) → IsNumber s → SpellsPart s p first → SpellsPart t q second → tail ≡ first ++ second → bytes ≡ tail ++ rest → AreTwo s t bytes
two_are s t p q first second tail rest bytes number one other tail_is whole =
    let split : bytes ≡ first ++ (second ++ rest) = whole ∙ ap (λ (z : List ℕ). z ++ rest) tail_is ∙ append_assoc first second rest in
    record { number = number; first = (p, first, second ++ rest, one, split); second = has_number t q second rest (second ++ rest) other refl }

-- THE OPERANDS OF AN OPERATION

-- the shape of the only one
abbrev shape_of : Shape → Operands → Shape
shape_of other (operands.One s) = s
shape_of other kinds = other

plain_same : (code : ℕ) → code ≢ 152 → plain_code code ≡ code
plain_same code other = elim (eqb_tells code 152) [
  | inl (same, is) ↦ absurd (other is)
  | inr (not_same, apart) ↦ ap (λ (b : Bool). if b then 153 else code) not_same
]

-- what stands behind its opcode; of a call it isn't told, which has no LEB128
abbrev Stand : Operands → ℕ → List ℕ → Type 0
Stand kinds code bytes = (head : Head) × (tail : List ℕ) × (rest : List ℕ) × SpellsOperands code kinds head tail × (bytes ≡ tail ++ rest)

module _ (bytes : List ℕ) (op : Op) (size : ℕ) (lead : IsLead bytes op.at size op) where
  abbrev own : List ℕ
  own = take (size + held_bytes lead.head) (drop op.at bytes)

  behind_code : drop (op.at + 1) bytes ≡ lead.spelled.tail ++ drop (size + held_bytes lead.head) (drop op.at bytes)
  behind_code =
      let more : List ℕ = drop (size + held_bytes lead.head) (drop op.at bytes) in
      let whole : drop op.at bytes ≡ lead.spelled.code ∷ (lead.spelled.tail ++ drop (size + held_bytes lead.head) (drop op.at bytes)) = sym (take-append-drop (size + held_bytes lead.head) (drop op.at bytes)) ∙ ap (λ (z : List ℕ). z ++ drop (size + held_bytes lead.head) (drop op.at bytes)) lead.spelled.whole in
      sym (drop-drop 1 op.at bytes) ∙ ap (drop 1) whole

  pub code_inside : op.at + 1 ≤ length bytes
  code_inside =
      let long : length own ≡ size + held_bytes lead.head = lead_long bytes op.at size op lead in
      let some : length own ≡ suc (length lead.spelled.tail) = ap length lead.spelled.whole in
      omega (arith, long, some, lead.inside)

  same_code : lead.head.code ≡ lead.spelled.code
  same_code = code_of_head lead.spelled.code lead.spelled.operands lead.head lead.spelled.tail lead.spelled.spelled

  op_code : op.code ≡ plain_code lead.head.code
  op_code = ap (λ (o : Operation). o.code) lead.means

  operands_stand : (kinds : Operands) → operands_of op.code ≡ Some kinds → (op.code ≡ 153) ⊎ Stand kinds op.code (drop (op.at + 1) bytes)
  operands_stand kinds known = elim (eqb_tells lead.head.code 152) [
    | inl (same, is) ↦ inl (op_code ∙ ap plain_code is)
    | inr (not_same, other) ↦
        let code : op.code ≡ lead.spelled.code = op_code ∙ plain_same lead.head.code other ∙ same_code in
        let same : lead.spelled.operands ≡ kinds = some_same lead.spelled.operands kinds (sym lead.spelled.known ∙ ap operands_of (sym code) ∙ known) in
        let spelled : SpellsOperands op.code kinds lead.head lead.spelled.tail = subst (λ (k : Operands). SpellsOperands op.code k lead.head lead.spelled.tail) same (subst (λ (n : ℕ). SpellsOperands n lead.spelled.operands lead.head lead.spelled.tail) (sym code) lead.spelled.spelled) in
        inr (lead.head, lead.spelled.tail, drop (size + held_bytes lead.head) (drop op.at bytes), spelled, behind_code)
  ]

  -- a call has four bytes
  call_one : (kinds : Operands) → operands_of op.code ≡ Some kinds → op.code ≡ 153 → kinds ≡ operands.One (shape.Unsigned width.Four)
  call_one kinds known call = some_same kinds (operands.One (shape.Unsigned width.Four)) (sym known ∙ ap operands_of call)

  pub one_there : (s : Shape) → operands_of op.code ≡ Some (operands.One s) → HasNumber s (drop (op.at + 1) bytes)
  one_there s known = elim (operands_stand (operands.One s) known) [
    | inl call ↦
        let same : s ≡ shape.Unsigned width.Four = ap (shape_of s) (call_one (operands.One s) known call) in
        subst (λ (z : Shape). HasNumber z (drop (op.at + 1) bytes)) (sym same) tt
    | inr (head, tail, rest, (p, spells, is), whole) ↦ has_number s p tail rest (drop (op.at + 1) bytes) spells whole
  ]

  pub two_there : (s t : Shape) → operands_of op.code ≡ Some (operands.Two s t) → AreTwo s t (drop (op.at + 1) bytes)
  two_there s t known = elim (operands_stand (operands.Two s t) known) [
    | inl call ↦ let wrong : operands.Two s t ≡ operands.One (shape.Unsigned width.Four) = call_one (operands.Two s t) known call in absurd cc
    | inr (head, tail, rest, (p, (first, second, one, other, both), is), whole) ↦
        let number : is_number s ≡ true = ap is_led (sym known) ∙ table_led op.code in
        two_are s t p.0 p.1 first second tail rest (drop (op.at + 1) bytes) (is_a_number s number) one other both whole
  ]

  pub typed_there : (s : Shape) → operands_of op.code ≡ Some (operands.Typed s) → AreTwo s shape.Uleb (drop (op.at + 1) bytes)
  typed_there s known = elim (operands_stand (operands.Typed s) known) [
    | inl call ↦ let wrong : operands.Typed s ≡ operands.One (shape.Unsigned width.Four) = call_one (operands.Typed s) known call in absurd cc
    | inr (head, tail, rest, (p, (first, second, one, other, both), is), whole) ↦
        let number : is_number s ≡ true = ap is_led (sym known) ∙ table_led op.code in
        two_are s shape.Uleb p.0 p.1 first second tail rest (drop (op.at + 1) bytes) (is_a_number s number) one other both whole
  ]

-- WHICH OF THEM HAVE A BYTE TOO MANY

-- the first of two is none, and the second stands behind it
pub found_second : (slot other : Bool) (s t : Shape) (bytes : List ℕ) (at end : ℕ) → (IsLongOne slot s 0 (drop at bytes) → ⊥) → IsEndOf (SpellsPart s) bytes at end → (found : Option ℕ) → IsLeastFound (HoldsFrom (IsLongOne other t) end bytes) found → IsLeastFound (HoldsFrom (IsLongOfTwo slot s other t) at bytes) found
found_second slot other s t bytes at end short there found least =
    found_behind (SpellsPart s) (IsLongOne slot s) (IsLongOne other t) bytes at end (part_once s) there never found least
  where
    never : (inner : ℕ) → IsLongOne slot s inner (drop at bytes) → ⊥
    never inner long = short (long.0, subst (λ (n : ℕ). IsLongPart s n (drop at bytes)) (part_first s inner (drop at bytes) long.1) long.1)

-- the second stands behind the first
pub second_there : (s t : Shape) (bytes : List ℕ) (at end : ℕ) → AreTwo s t (drop at bytes) → IsEndOf (SpellsPart s) bytes at end → HasNumber t (drop end bytes)
second_there s t bytes at end two there =
    let (p, first, rest, spells, whole) = two.first in
    rest_there (SpellsPart s) (HasNumber t) bytes at end p first rest (part_once s) there spells whole two.second

-- the operands of an operation are those of its opcode
module _ (owned : Bool) (bytes : List ℕ) (op : Op) (slot : Bool) (slot_is : slot ≡ (owned && is_slot op.code op.a)) (found : Option ℕ) where
  operand_holds : (kinds : Operands) → operands_of op.code ≡ Some kinds → (p : ℕ) → HoldsFrom (AreLongOperands slot kinds) (op.at + 1) bytes p → IsLongOperand owned bytes op p
  operand_holds kinds known p (inner, long, place) = record {
    operands = kinds;
    known = known;
    inner = inner;
    long = subst (λ (b : Bool). AreLongOperands b kinds inner (drop (op.at + 1) bytes)) slot_is long;
    place = place;
  }

  operand_from : (kinds : Operands) → operands_of op.code ≡ Some kinds → (p : ℕ) → IsLongOperand owned bytes op p → HoldsFrom (AreLongOperands slot kinds) (op.at + 1) bytes p
  operand_from kinds known p is =
      let same : is.operands ≡ kinds = some_same is.operands kinds (sym is.known ∙ known) in
      let long : AreLongOperands slot is.operands is.inner (drop (op.at + 1) bytes) = subst (λ (b : Bool). AreLongOperands b is.operands is.inner (drop (op.at + 1) bytes)) (sym slot_is) is.long in
      (is.inner, subst (λ (k : Operands). AreLongOperands slot k is.inner (drop (op.at + 1) bytes)) same long, is.place)

  operation_found : (kinds : Operands) (Holds : ℕ → List ℕ → Type 0) → operands_of op.code ≡ Some kinds → ((inner : ℕ) (z : List ℕ) → Holds inner z → AreLongOperands slot kinds inner z) → ((inner : ℕ) (z : List ℕ) → AreLongOperands slot kinds inner z → Holds inner z) → IsLeastFound (HoldsFrom Holds (op.at + 1) bytes) found → IsLeastFound (IsLongOperand owned bytes op) found
  operation_found kinds Holds known to from least =
      found_same (HoldsFrom Holds (op.at + 1) bytes) (IsLongOperand owned bytes op)
      (λ p holds. operand_holds kinds known p (holds.0, to holds.0 (drop (op.at + 1) bytes) holds.1, holds.2))
      (λ p is. let there = operand_from kinds known p is in (there.0, from there.0 (drop (op.at + 1) bytes) there.1, there.2))
      found least

  pub one_found : (s : Shape) → operands_of op.code ≡ Some (operands.One s) → IsLeastFound (HoldsFrom (IsLongOne slot s) (op.at + 1) bytes) found → IsLeastFound (IsLongOperand owned bytes op) found
  one_found s known least = operation_found (operands.One s) (IsLongOne slot s) known (λ inner z long. long) (λ inner z long. long) least

  pub two_found : (s t : Shape) → operands_of op.code ≡ Some (operands.Two s t) → IsLeastFound (HoldsFrom (IsLongOfTwo slot s false t) (op.at + 1) bytes) found → IsLeastFound (IsLongOperand owned bytes op) found
  two_found s t known least = operation_found (operands.Two s t) (IsLongOfTwo slot s false t) known to from least
    where
      to : (inner : ℕ) (z : List ℕ) → IsLongOfTwo slot s false t inner z → AreLongOperands slot (operands.Two s t) inner z
      to inner z (inl long) = inl long
      to inner z (inr (v, first, rest, deep, spells, holds, whole, place)) = inr (v, first, rest, deep, spells, holds.1, whole, place)

      from : (inner : ℕ) (z : List ℕ) → AreLongOperands slot (operands.Two s t) inner z → IsLongOfTwo slot s false t inner z
      from inner z (inl long) = inl long
      from inner z (inr (v, first, rest, deep, spells, holds, whole, place)) = inr (v, first, rest, deep, spells, (refl, holds), whole, place)

  pub typed_found : (s : Shape) → operands_of op.code ≡ Some (operands.Typed s) → IsLeastFound (HoldsFrom (IsLongOfTwo false s slot shape.Uleb) (op.at + 1) bytes) found → IsLeastFound (IsLongOperand owned bytes op) found
  typed_found s known least = operation_found (operands.Typed s) (IsLongOfTwo false s slot shape.Uleb) known to from least
    where
      to : (inner : ℕ) (z : List ℕ) → IsLongOfTwo false s slot shape.Uleb inner z → AreLongOperands slot (operands.Typed s) inner z
      to inner z (inl long) = inl long.1
      to inner z (inr behind) = inr behind

      from : (inner : ℕ) (z : List ℕ) → AreLongOperands slot (operands.Typed s) inner z → IsLongOfTwo false s slot shape.Uleb inner z
      from inner z (inl long) = inl (refl, long)
      from inner z (inr behind) = inr behind

  pub nothing_found : operands_of op.code ≡ Some operands.Nothing → (p : ℕ) → IsLongOperand owned bytes op p → ⊥
  nothing_found known p is = (operand_from operands.Nothing known p is).1
