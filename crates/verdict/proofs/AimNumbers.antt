-- The numbers of slots of a file: none needs more than ten bytes.
use Rattle.std.proofs.Common.{◌≡◌, ◌≤◌, ◌<◌, ◌+◌, ◌*◌, ◌^◌, ◌++◌, ℕ, zero, suc, List, [], ◌∷◌, length, take, drop, Bool, true, false, cond, sym, subst, refl, arith, inl, inr}
use Rattle.std.specs.Prelude.{flat_map, nat_eq, if◌then◌else◌}
use Rattle.std.specs.List.{AllZip}
use Rattle.std.proofs.lemmas.List.{length-take, length-drop}
use Rattle.std.proofs.lemmas.List.Sums.{sum_by-take-le}
use Rattle.dw_base.specs.declared.fault.Reach.TheVariants.{Wide}
use Rattle.spelled.specs.Spelled.{AreBytes, Joined}
use Rattle.spelled.proofs.Parts.{bytes_after}
use Rattle.fixed_width.specs.Numbers.{number}
use Rattle.fixed_width.proofs.Numbers.{number_small}
use Rattle.expr_ops.specs.declared.table.Width.{Width}
use Rattle.expr_ops.specs.declared.table.Width.TheVariants.{One, Two, Four, Eight}
use Rattle.expr_ops.specs.declared.table.Shape.{Shape}
use Rattle.expr_ops.specs.declared.table.Shape.TheVariants as shape
use Rattle.expr_ops.specs.declared.table.Operands.{Operands}
use Rattle.expr_ops.specs.declared.table.Operands.TheVariants as operands
use Rattle.expr_ops.specs.Heads.{size_of, Part, SpellsPart, Head, holding, holding_two, SpellsOperands, SpellsHead}
use Rattle.expr_ops.specs.Heads.Part.{Unsigned, Signed, Data}
use Rattle.expr_ops.specs.Expressions.{Operation, Segment, IsLevel, SpellsSegment, IsExpression, branch_limit, flat}
use Rattle.expr_ops.specs.Drafts.{is_slot}
use Rattle.expr_ops.specs.Shortest.{fixed_length}
use Rattle.expr_ops.specs.Slots.{Aim, slots_among, slot_form, length_aim, op_aim, op_aims, expression_aims}
use Rattle.expr_ops.specs.Slots.Aim.{Place, Length}
use Rattle.expr_ops.proofs.HeadsDecided.{bytes_before}
use Rattle.expr_ops.proofs.PlainLaws.{expression_sized}
use Rattle.expr_ops.proofs.SlotLaws.{slots_more}

-- the number of a slot that tells this fits ten bytes, where the slots that it counts have no more than ten
abbrev pub IsFitting : Aim → Type 0
IsFitting (Place form n) = n < 2 ^ 64
IsFitting (Length fixed count) = fixed + 10 * count < 2 ^ 70

abbrev pub AreFitting : List Aim → Type 0
AreFitting [] = Unit {0}
AreFitting (aim ∷ aims) = IsFitting aim × AreFitting aims

pub fitting_append : (xs ys : List Aim) → AreFitting xs → AreFitting ys → AreFitting (xs ++ ys)
fitting_append [] ys a b = b
fitting_append (x ∷ xs) ys (one, a) b = (one, fitting_append xs ys a b)

-- THE NUMBERS OF OPERATIONS

wide : (w : Width) (n : ℕ) → n < 256 ^ size_of w → n < 2 ^ 64
wide One n below = omega (arith, below)
wide Two n below = omega (arith, below)
wide Four n below = omega (arith, below)
wide Eight n below = omega (arith, below)

abbrev number_of : Part → ℕ
number_of (Unsigned n) = n
number_of part = 0

abbrev IsNarrow : Part → Type 0
IsNarrow part = number_of part < 2 ^ 64

part_narrow : (s : Shape) (p : Part) (bytes : List ℕ) → AreBytes bytes → SpellsPart s p bytes → IsNarrow p
part_narrow (shape.Unsigned w) p bytes small (size, is) = subst IsNarrow (sym is) (wide w (number (size_of w) bytes) (number_small (size_of w) bytes small))
part_narrow (shape.Signed w) p bytes small (size, is) = subst IsNarrow (sym is) (omega arith)
part_narrow shape.Uleb p bytes small (n, spelled, is) = subst IsNarrow (sym is) spelled.1
part_narrow shape.Sleb p bytes small (v, spelled, is) = subst IsNarrow (sym is) (omega arith)
part_narrow shape.Counted p bytes small (body, counted, is) = subst IsNarrow (sym is) (omega arith)
part_narrow shape.ByteCounted p bytes small (body, counted, is) = subst IsNarrow (sym is) (omega arith)

one_number : (code : ℕ) (p : Part) → (holding code p).a ≡ number_of p
one_number code (Unsigned n) = refl
one_number code (Signed v) = refl
one_number code (Data body) = refl

two_numbers : (code : ℕ) (p q : Part) → (holding_two code p q).a ≡ number_of p
two_numbers code (Unsigned n) (Unsigned m) = refl
two_numbers code (Unsigned n) (Signed v) = refl
two_numbers code (Unsigned n) (Data body) = refl
two_numbers code (Signed v) q = refl
two_numbers code (Data body) q = refl

abbrev HasNarrow : Head → Type 0
HasNarrow head = head.a < 2 ^ 64

operands_narrow : (code : ℕ) (kinds : Operands) (head : Head) (bytes : List ℕ) → AreBytes bytes → SpellsOperands code kinds head bytes → HasNarrow head
operands_narrow code operands.Nothing head bytes small (none, is) = subst HasNarrow (sym is) (omega arith)
operands_narrow code (operands.One s) head bytes small (p, spelled, is) =
    subst HasNarrow (sym is) (subst (λ (n : ℕ). n < 2 ^ 64) (sym (one_number code p)) (part_narrow s p bytes small spelled))
operands_narrow code (operands.Two s t) head bytes small (p, (first, second, one, two, whole), is) =
    let front : AreBytes first = bytes_before first second (subst AreBytes whole small) in
    subst HasNarrow (sym is) (subst (λ (n : ℕ). n < 2 ^ 64) (sym (two_numbers code p.0 p.1)) (part_narrow s p.0 first front one))
operands_narrow code (operands.Typed s) head bytes small (p, (first, second, one, two, whole), is) =
    let behind : AreBytes second = bytes_after first second (subst AreBytes whole small) in
    subst HasNarrow (sym is) (subst (λ (n : ℕ). n < 2 ^ 64) (sym (two_numbers code p.1 p.0)) (part_narrow shape.Uleb p.1 second behind two))

head_narrow : (head : Head) (bytes : List ℕ) → SpellsHead head bytes → HasNarrow head
head_narrow head bytes s =
    let tail : AreBytes s.tail = bytes_after (s.code ∷ []) s.tail (subst AreBytes s.whole s.small) in
    operands_narrow s.code s.operands head s.tail tail s.spelled

abbrev AreNarrow : List Operation → Type 0
AreNarrow [] = Unit {0}
AreNarrow (o ∷ os) = (o.a < 2 ^ 64) × AreNarrow os

narrow_append : (xs ys : List Operation) → AreNarrow xs → AreNarrow ys → AreNarrow (xs ++ ys)
narrow_append [] ys a b = b
narrow_append (x ∷ xs) ys (one, a) b = (one, narrow_append xs ys a b)

module _ (S : Segment → List ℕ → Type 0) (each : (g : Segment) (b : List ℕ) → S g b → HasNarrow g.head × AreNarrow g.inner) where
  flat_narrow : (jumps : List ℕ) (gs : List Segment) (bytes : List ℕ) → Joined S gs bytes → AreNarrow (flat jumps gs)
  flat_narrow [] [] bytes joined = tt
  flat_narrow [] (g ∷ gs) bytes joined = tt
  flat_narrow (jump ∷ jumps) [] bytes joined = tt
  flat_narrow (jump ∷ jumps) (g ∷ gs) bytes (first, rest, one, joined, whole) =
      let (head, inner) = each g first one in
      (head, narrow_append g.inner (flat jumps gs) inner (flat_narrow jumps gs rest joined))

  level_narrow : (most : ℕ) (os : List Operation) (bytes : List ℕ) → IsLevel most S os bytes → AreNarrow os
  level_narrow most os bytes level = subst AreNarrow (sym level.listed) (flat_narrow level.jumps level.segments bytes level.spelled)

segment_narrow : (most deep : ℕ) (g : Segment) (b : List ℕ) → SpellsSegment most deep g b → HasNarrow g.head × AreNarrow g.inner
segment_narrow most zero g b (spelled, other, none) = (head_narrow g.head b spelled, subst AreNarrow (sym none) tt)
segment_narrow most (suc deep) g b (spelled, inr (other, none)) = (head_narrow g.head b spelled, subst AreNarrow (sym none) tt)
segment_narrow most (suc deep) g b (spelled, inl (entry, level)) = (head_narrow g.head b spelled, level_narrow (SpellsSegment most deep) (segment_narrow most deep) most g.inner g.head.block level)

expression_narrow : (os : List Operation) (bytes : List ℕ) → IsExpression Wide os bytes → AreNarrow os
expression_narrow os bytes is = level_narrow (SpellsSegment (branch_limit Wide) 8) (segment_narrow (branch_limit Wide) 8) (branch_limit Wide) os bytes is

-- WHAT THEIR SLOTS TELL

slots_take : (n : ℕ) (os : List Operation) → slots_among (take n os) ≤ slots_among os
slots_take n os = sum_by-take-le (λ (o : Operation). cond (is_slot o.code o.a) 1 0) os n

fixed_take : (n : ℕ) (os : List Operation) → fixed_length (take n os) ≤ fixed_length os
fixed_take zero os = omega arith
fixed_take (suc n) [] = omega arith
fixed_take (suc n) (o ∷ os) = omega (arith, fixed_take n os)

fitting_if : (b : Bool) (aim : Aim) (aims : List Aim) → IsFitting aim → AreFitting aims → AreFitting (if b then aim ∷ aims else aims)
fitting_if true aim aims one rest = (one, rest)
fitting_if false aim aims one rest = rest

fitting_by : (b : Bool) (x y : Aim) → IsFitting x → IsFitting y → IsFitting (if b then x else y)
fitting_by true x y one other = one
fitting_by false x y one other = other

ops_fit : (os : List Operation) → AreNarrow os → fixed_length os + 10 * slots_among os < 2 ^ 70 → AreFitting (op_aims os)
ops_fit [] narrow fits = tt
ops_fit (o ∷ os) (one, narrow) fits =
    let more = slots_more o os in
    let rest : fixed_length os + 10 * slots_among os < 2 ^ 70 = omega (arith, more, fits) in
    let held : IsFitting (length_aim (take o.inner os)) = omega (arith, fixed_take o.inner os, slots_take o.inner os, rest) in
    fitting_if (is_slot o.code o.a) (op_aim o os) (op_aims os) (fitting_by (nat_eq o.code 163) (length_aim (take o.inner os)) (Place (slot_form o.code) o.a) held one) (ops_fit os narrow rest)

pub expression_fits : (os : List Operation) (bytes : List ℕ) → IsExpression Wide os bytes → length bytes < 2 ^ 64 → AreFitting (expression_aims os)
expression_fits os bytes is short =
    let fives = (expression_sized Wide os bytes is).fives in
    let all : fixed_length os + 10 * slots_among os < 2 ^ 70 = omega (arith, fives, short) in
    (all, ops_fit os (expression_narrow os bytes is) all)

-- EXPRESSIONS OF LISTS

abbrev pub AreShort : ℕ → List (List ℕ) → Type 0
AreShort most [] = Unit {0}
AreShort most (bytes ∷ more) = (length bytes ≤ most) × AreShort most more

pub short_append : (most : ℕ) (xs ys : List (List ℕ)) → AreShort most xs → AreShort most ys → AreShort most (xs ++ ys)
short_append most [] ys a b = b
short_append most (x ∷ xs) ys (one, a) b = (one, short_append most xs ys a b)

pub short_flat : (most : ℕ) (f : ℕ → List (List ℕ)) → ((k : ℕ) → AreShort most (f k)) → (ks : List ℕ) → AreShort most (flat_map f ks)
short_flat most f each [] = tt
short_flat most f each (k ∷ ks) = short_append most (f k) (flat_map f ks) (each k) (short_flat most f each ks)

pub part_short : (n at : ℕ) (section : List ℕ) → length (take n (drop at section)) ≤ length section
part_short n at section = omega (arith, length-take n (drop at section), length-drop at section)

pub expressions_fit : (most : ℕ) → most < 2 ^ 64 → (lists : List (List Operation)) (expressions : List (List ℕ)) → AllZip (IsExpression Wide) lists expressions → AreShort most expressions → AreFitting (flat_map expression_aims lists)
expressions_fit most few [] expressions zip short = tt
expressions_fit most few (os ∷ lists) [] zip short = absurd zip
expressions_fit most few (os ∷ lists) (bytes ∷ expressions) (is, zip) (one, short) =
    fitting_append (expression_aims os) (flat_map expression_aims lists) (expression_fits os bytes is (omega (arith, one, few))) (expressions_fit most few lists expressions zip short)
