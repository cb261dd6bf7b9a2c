-- The operations of expressions, and which expressions have a number with a byte too many.
use Rattle.std.proofs.Common.{◌≡◌, ◌≤◌, ◌<◌, ◌+◌, ◌-◌, inl, inr, ℕ, List, [], length, drop, ◌∙◌, sym, ap, subst, arith}
use Rattle.std.specs.Prelude.{Bool, true, min, Option, Some, None, IfSome}
use Rattle.std.specs.Option.{option_map}
use Rattle.std.proofs.lemmas.List.{get_or_default, length-append, length-drop, length-take}
use Rattle.dw_base.specs.declared.fault.Reach.TheVariants.{Wide}
use Rattle.dw_base.specs.declared.fault.Span.{Span}
use Rattle.expr_ops.specs.declared.op.Op.{Op}
use Rattle.expr_ops.specs.declared.table.Operands.{Operands}
use Rattle.expr_ops.specs.declared.table.Operands.TheVariants as operands
use Rattle.expr_ops.specs.declared.table.Shape.{Shape}
use Rattle.expr_ops.specs.declared.table.Shape.TheVariants as shape
use Rattle.expr_ops.specs.Drafts.{op_at}
use Rattle.expr_ops.specs.Expressions.{IsExpression}
use Rattle.expr_ops.specs.Heads.{SpellsPart}
use Rattle.expr_ops.specs.Ops.{all_meant, IsLead, Chain}
use Rattle.expr_ops.proofs.ChainLaws.{chain_at}
use Rattle.expr_ops.proofs.OneList.{one_list}
use Rattle.form_codec.specs.declared.value.Value.{Value}
use Rattle.form_codec.specs.declared.value.Value.TheVariants as value
use Rattle.form_codec.specs.Values.{bytes_in}
use Rattle.entry_arena.specs.Arena.{Arena}
use Rattle.entry_read.specs.Expressions.{IsExprAt}
use Rattle.tidy_places.specs.Firsts.{IsLeastFound}
use Rattle.tidy_numbers.specs.Fronts.{BeginsLong, BeginsLongSigned, Behind}
use Rattle.tidy_numbers.specs.LongOperations.{IsLongPart, AreLongOperands, IsLongOperand, IsLongInExpression}
use Rattle.tidy_numbers.specs.inside.Expressions.{IsLongAt, IsLongInValue, IsLongInValues}
use Rattle.tidy_numbers.proofs.FoundAmong.{HoldsBelow, found_same, moved_found}

-- THE OPERATIONS OF AN EXPRESSION

pub lead_at : (bytes : List ℕ) (ops : List Op) (k : ℕ) → Chain bytes 0 ops (length bytes) → k < length ops → (size : ℕ) × IsLead bytes (op_at ops k).at size (op_at ops k)
lead_at bytes ops k places inside = let there = chain_at bytes 0 (length bytes) ops places k inside in (there.size, there.lead)

module _ (owned : Bool) (bytes : List ℕ) (ops : List Op) (spelled : IsExpression Wide (all_meant bytes ops) bytes) (places : Chain bytes 0 ops (length bytes)) where
  abbrev pub IsLongOf : ℕ → ℕ → Type 0
  IsLongOf k p = IsLongOperand owned bytes (op_at ops k) p

  one_of : (p : ℕ) → HoldsBelow IsLongOf (length ops) p → IsLongInExpression owned bytes p
  one_of p (k, inside, long) = record {
    ops = ops;
    spelled = spelled;
    places = places;
    op = op_at ops k;
    among = (k, inside, get_or_default ops k (op_at ops k) (op_at [] 0) inside);
    long = long;
  }

  -- an expression has one list of operations
  of_one : (p : ℕ) → IsLongInExpression owned bytes p → HoldsBelow IsLongOf (length ops) p
  of_one p is =
      let same : is.ops ≡ ops = one_list Wide is.ops ops bytes is.spelled spelled is.places places in
      let (k, within, here) = is.among in
      let count : length is.ops ≡ length ops = ap length same in
      let op : is.op ≡ op_at ops k = sym here ∙ get_or_default is.ops k is.op (op_at [] 0) within ∙ ap (λ (z : List Op). op_at z k) same in
      (k, omega (arith, within, count), subst (λ (z : Op). IsLongOperand owned bytes z p) op is.long)

  pub expression_found : (n : ℕ) (found : Option ℕ) → n ≡ length ops → IsLeastFound (HoldsBelow IsLongOf n) found → IsLeastFound (IsLongInExpression owned bytes) found
  expression_found n found all least =
      found_same (HoldsBelow IsLongOf (length ops)) (IsLongInExpression owned bytes) one_of of_one found (subst (λ (z : ℕ). IsLeastFound (HoldsBelow IsLongOf z) found) all least)

-- NUMBERS STAND BEFORE THE END OF THEIR EXPRESSION

begins_inside : (bytes : List ℕ) → BeginsLong bytes → 0 < length bytes
begins_inside bytes is =
    let size : length bytes ≡ length is.first + length is.rest = ap length is.whole ∙ length-append is.first is.rest in
    let some : 0 < length is.first = is.spelled.0.0.filled in
    omega (arith, size, some)

begins_signed_inside : (bytes : List ℕ) → BeginsLongSigned bytes → 0 < length bytes
begins_signed_inside bytes is =
    let size : length bytes ≡ length is.first + length is.rest = ap length is.whole ∙ length-append is.first is.rest in
    let some : 0 < length is.first = is.spelled.0.0.filled in
    omega (arith, size, some)

part_inside : (s : Shape) (inner : ℕ) (bytes : List ℕ) → IsLongPart s inner bytes → inner < length bytes
part_inside (shape.Unsigned width) inner bytes long = absurd long
part_inside (shape.Signed width) inner bytes long = absurd long
part_inside shape.Uleb inner bytes (first, long) = let some = begins_inside bytes long in omega (arith, first, some)
part_inside shape.Sleb inner bytes (first, long) = let some = begins_signed_inside bytes long in omega (arith, first, some)
part_inside shape.Counted inner bytes (first, long) = let some = begins_inside bytes long in omega (arith, first, some)
part_inside shape.ByteCounted inner bytes long = absurd long

behind_inside : {V : Type 0} (Spells : V → List ℕ → Type 0) (Holds : V → ℕ → List ℕ → Type 0) → ((v : V) (inner : ℕ) (bytes : List ℕ) → Holds v inner bytes → inner < length bytes) → (inner : ℕ) (bytes : List ℕ) → Behind Spells Holds inner bytes → inner < length bytes
behind_inside {V} Spells Holds within inner bytes (v, first, rest, deep, spells, holds, whole, place) =
    let size : length bytes ≡ length first + length rest = ap length whole ∙ length-append first rest in
    let less : deep < length rest = within v deep rest holds in
    omega (arith, size, less, place)

operands_inside : (slot : Bool) (kinds : Operands) (inner : ℕ) (bytes : List ℕ) → AreLongOperands slot kinds inner bytes → inner < length bytes
operands_inside slot operands.Nothing inner bytes long = absurd long
operands_inside slot (operands.One s) inner bytes long = part_inside s inner bytes long.1
operands_inside slot (operands.Two s t) inner bytes (inl long) = part_inside s inner bytes long.1
operands_inside slot (operands.Two s t) inner bytes (inr behind) = behind_inside (SpellsPart s) (λ part. IsLongPart t) (λ part. part_inside t) inner bytes behind
operands_inside slot (operands.Typed s) inner bytes (inl long) = part_inside s inner bytes long
operands_inside slot (operands.Typed s) inner bytes (inr (part, first, rest, deep, spells, holds, whole, place)) =
    behind_inside (SpellsPart s) (λ part. IsLongPart shape.Uleb) (λ part. part_inside shape.Uleb) inner bytes (part, first, rest, deep, spells, holds.1, whole, place)

long_inside : (owned : Bool) (bytes : List ℕ) (p : ℕ) → IsLongInExpression owned bytes p → p < length bytes
long_inside owned bytes p is =
    let size : length (drop (is.op.at + 1) bytes) ≡ length bytes - (is.op.at + 1) = length-drop (is.op.at + 1) bytes in
    let less : is.long.inner < length (drop (is.op.at + 1) bytes) = operands_inside _ is.long.operands is.long.inner (drop (is.op.at + 1) bytes) is.long.long in
    omega (arith, size, less, is.long.place)

-- so that their places in a section are numbers too
pub room_found : (limit from : ℕ) (owned : Bool) (bytes : List ℕ) (found : Option ℕ) → from + length bytes < limit → IsLeastFound (IsLongInExpression owned bytes) found → IfSome found (λ p. from + p < limit)
room_found limit from owned bytes None room none = tt
room_found limit from owned bytes (Some p) room (long, least) = let less = long_inside owned bytes p long in omega (arith, room, less)

-- AN EXPRESSION IN A SECTION

pub part_long : (section : List ℕ) (span : Span) (bytes : List ℕ) → bytes ≡ bytes_in section span → length bytes ≤ span.len
part_long section span bytes is =
    let size : length bytes ≡ min span.len (length (drop span.at section)) = ap length is ∙ length-take span.len (drop span.at section) in
    omega (arith, size)

pub section_found : (owned : Bool) (section : List ℕ) (span : Span) (bytes : List ℕ) (here found : Option ℕ) → bytes ≡ bytes_in section span → IsLeastFound (IsLongInExpression owned bytes) here → found ≡ option_map (λ p. span.at + p) here → IsLeastFound (IsLongAt owned section span) found
section_found owned section span bytes here found is least moved =
    let there : IsLeastFound (IsLongInExpression owned (bytes_in section span)) here = subst (λ (z : List ℕ). IsLeastFound (IsLongInExpression owned z) here) is least in
    subst (IsLeastFound (IsLongAt owned section span)) (sym moved) (moved_found (IsLongInExpression owned (bytes_in section span)) span.at here there)

-- THE EXPRESSIONS OF A UNIT

abbrev expression_of : Span → Value → Span
expression_of none (value.Expr span) = span
expression_of none other = none

-- the value with a number is at most one expression
pub value_found : (forest : Arena) (number : ℕ) (span : Span) (found : Option ℕ) → IsExprAt forest number span → IsLeastFound (IsLongAt true forest.section span) found → IsLeastFound (IsLongInValue forest number) found
value_found forest number span found stands least = found_same (IsLongAt true forest.section span) (IsLongInValue forest number) (λ p long. (span, stands, long)) of_value found least
  where
    of_value : (p : ℕ) → IsLongInValue forest number p → IsLongAt true forest.section span p
    of_value p (other, there, long) =
        let same : other ≡ span = ap (expression_of span) (sym there.is ∙ stands.is) in
        subst (λ (z : Span). IsLongAt true forest.section z p) same long

pub values_found : (forest : Arena) (n : ℕ) (found : Option ℕ) → length forest.values ≤ n → IsLeastFound (HoldsBelow (IsLongInValue forest) n) found → IsLeastFound (IsLongInValues forest) found
values_found forest n found all least =
    found_same (HoldsBelow (IsLongInValue forest) n) (IsLongInValues forest) (λ p (k, less, long). (k, long)) of_values found least
  where
    of_values : (p : ℕ) → IsLongInValues forest p → HoldsBelow (IsLongInValue forest) n p
    of_values p (k, (span, stands, long)) = let inside = stands.inside in (k, omega (arith, inside, all), (span, stands, long))
