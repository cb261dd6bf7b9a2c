-- One operation is one description of its bytes, and bytes that begin with one have no fault.
use Rattle.std.proofs.Common.{◌≡◌, ◌+◌, ℕ, List, [], ◌∷◌, ◌++◌, length, ◌∙◌, sym, ap, subst, arith, inl, inr, Option, Some, None}
use Rattle.std.proofs.lemmas.List.{append_assoc, append_cancel_left, length-append}
use Rattle.spelled.specs.Spelled.{HasUniqueFronts, NeverBoth}
use Rattle.spelled.specs.inside.Spelled.{HasBytes}
use Rattle.spelled.proofs.Joins.{regroup, then_once, then_whole}
use Rattle.spelled.proofs.Parts.{same_front}
use Rattle.leb_codec.specs.Leb.{IsShort, IsWideUnsigned}
use Rattle.leb_codec.proofs.Fronts.{unique_u, unique_s, leb_not_short, uleb_not_wide, sleb_not_wide}
use Rattle.fixed_width.specs.Numbers.{number}
use Rattle.dw_base.specs.declared.fault.Kind.{Kind}
use Rattle.dw_base.specs.declared.fault.Kind.TheVariants as kind
use Rattle.expr_ops.specs.declared.table.Shape.{Shape}
use Rattle.expr_ops.specs.declared.table.Shape.TheVariants as shape
use Rattle.expr_ops.specs.declared.table.Operands.{Operands}
use Rattle.expr_ops.specs.declared.table.Operands.TheVariants as operands
use Rattle.expr_ops.specs.Table.{operands_of}
use Rattle.expr_ops.specs.Heads.{size_of, signed_of, Part, IsCounted, SpellsPart, SpellsOperands, SpellsHead, holding, holding_two}
use Rattle.expr_ops.specs.Heads.Part.{Unsigned, Signed, Data}
use Rattle.expr_ops.specs.HeadFaults.{IsPartShort, IsPartWide, FaultPart, FaultPartAt, FaultOperands, FaultHead}

abbrev pub first_of : List ℕ → ℕ
first_of [] = 0
first_of (x ∷ xs) = x

abbrev pub rest_of : List ℕ → List ℕ
rest_of [] = []
rest_of (x ∷ xs) = xs

counted_once : (c d a b x y : List ℕ) → IsCounted c a → IsCounted d b → a ++ x ≡ b ++ y → (a ≡ b) × (c ≡ d)
counted_once c d a b x y p q h =
    let g : p.head ++ (c ++ x) ≡ q.head ++ (d ++ y) = regroup p.head c x q.head d y (ap (λ z. z ++ x) (sym p.whole) ∙ h ∙ ap (λ z. z ++ y) q.whole) in
    let heads = unique_u (length c) (length d) p.head q.head (c ++ x) (d ++ y) p.count q.count g in
    let g2 : c ++ x ≡ d ++ y = append_cancel_left q.head (c ++ x) (d ++ y) (ap (λ z. z ++ (c ++ x)) (sym heads.0) ∙ g) in
    let bodies = same_front c d x y heads.1 g2 in
    (p.whole ∙ ap (λ z. z ++ c) heads.0 ∙ ap (λ z. q.head ++ z) bodies ∙ sym q.whole, bodies)

byte_counted_once : (c d a b x y : List ℕ) → a ≡ length c ∷ c → b ≡ length d ∷ d → a ++ x ≡ b ++ y → (a ≡ b) × (c ≡ d)
byte_counted_once c d a b x y p q h =
    let g : length c ∷ (c ++ x) ≡ length d ∷ (d ++ y) = ap (λ z. z ++ x) (sym p) ∙ h ∙ ap (λ z. z ++ y) q in
    let size : length c ≡ length d = ap first_of g in
    let bodies = same_front c d x y size (ap rest_of g) in
    (p ∙ ap (λ n. n ∷ c) size ∙ ap (λ z. length d ∷ z) bodies ∙ sym q, bodies)

pub part_once : (s : Shape) → HasUniqueFronts (SpellsPart s)
part_once (shape.Unsigned w) v u a b x y p q h =
    let same = same_front a b x y (p.0 ∙ sym q.0) h in
    (same, p.1 ∙ ap (λ z. Unsigned (number (size_of w) z)) same ∙ sym q.1)
part_once (shape.Signed w) v u a b x y p q h =
    let same = same_front a b x y (p.0 ∙ sym q.0) h in
    (same, p.1 ∙ ap (λ z. Signed (signed_of w (number (size_of w) z))) same ∙ sym q.1)
part_once shape.Uleb v u a b x y p q h =
    let one = unique_u p.0 q.0 a b x y p.1 q.1 h in
    (one.0, p.2 ∙ ap (λ z. Unsigned z) one.1 ∙ sym q.2)
part_once shape.Sleb v u a b x y p q h =
    let one = unique_s p.0 q.0 a b x y p.1 q.1 h in
    (one.0, p.2 ∙ ap (λ z. Signed z) one.1 ∙ sym q.2)
part_once shape.Counted v u a b x y p q h =
    let one = counted_once p.0 q.0 a b x y p.1 q.1 h in
    (one.0, p.2 ∙ ap (λ z. Data z) one.1 ∙ sym q.2)
part_once shape.ByteCounted v u a b x y p q h =
    let one = byte_counted_once p.0 q.0 a b x y p.1 q.1 h in
    (one.0, p.2 ∙ ap (λ z. Data z) one.1 ∙ sym q.2)

pub operands_once : (code : ℕ) (o : Operands) → HasUniqueFronts (SpellsOperands code o)
operands_once code operands.Nothing v w a b x y p q h = (p.0 ∙ sym q.0, p.1 ∙ sym q.1)
operands_once code (operands.One s) v w a b x y p q h =
    let one = part_once s p.0 q.0 a b x y p.1 q.1 h in
    (one.0, p.2 ∙ ap (holding code) one.1 ∙ sym q.2)
operands_once code (operands.Two s t) v w a b x y p q h =
    let one = then_once (SpellsPart s) (λ _. SpellsPart t) (part_once s) (λ _. part_once t) p.0 q.0 a b x y p.1 q.1 h in
    (one.0, p.2 ∙ ap (λ (z : Part × Part). holding_two code z.0 z.1) one.1 ∙ sym q.2)
operands_once code (operands.Typed s) v w a b x y p q h =
    let one = then_once (SpellsPart s) (λ _. SpellsPart shape.Uleb) (part_once s) (λ _. part_once shape.Uleb) p.0 q.0 a b x y p.1 q.1 h in
    (one.0, p.2 ∙ ap (λ (z : Part × Part). holding_two code z.1 z.0) one.1 ∙ sym q.2)

abbrev some_of : Operands → Option Operands → Operands
some_of other None = other
some_of other (Some o) = o

pub some_same : (o p : Operands) → Some o ≡ Some p → o ≡ p
some_same o p e = ap (some_of o) e

pub head_once : HasUniqueFronts SpellsHead
head_once v w a b x y p q h =
    let g : p.code ∷ (p.tail ++ x) ≡ q.code ∷ (q.tail ++ y) = ap (λ z. z ++ x) (sym p.whole) ∙ h ∙ ap (λ z. z ++ y) q.whole in
    let code : p.code ≡ q.code = ap first_of g in
    let o : p.operands ≡ q.operands = some_same p.operands q.operands (sym p.known ∙ ap operands_of code ∙ q.known) in
    let s : SpellsOperands q.code q.operands v p.tail = subst (λ (c : ℕ). SpellsOperands c q.operands v p.tail) code (subst (λ (z : Operands). SpellsOperands p.code z v p.tail) o p.spelled) in
    let one = operands_once q.code q.operands v w p.tail q.tail x y s q.spelled (ap rest_of g) in
    (p.whole ∙ ap (λ n. n ∷ p.tail) code ∙ ap (λ z. q.code ∷ z) one.0 ∙ sym q.whole, one.1)

pub head_filled : HasBytes SpellsHead
head_filled v a p = let e = ap length p.whole in omega (arith, e)

part_not_short : (s : Shape) (v : Part) (a x : List ℕ) → SpellsPart s v a → IsPartShort s (a ++ x) → ⊥
part_not_short (shape.Unsigned w) v a x p f = omega (arith, length-append a x, p.0)
part_not_short (shape.Signed w) v a x p f = omega (arith, length-append a x, p.0)
part_not_short shape.Uleb v a x p f = leb_not_short a x p.1.0.0 f
part_not_short shape.Sleb v a x p f = leb_not_short a x p.1.0.0 f
part_not_short shape.Counted v a x (body, counted, holds) f =
    let e : a ++ x ≡ counted.head ++ (body ++ x) = ap (λ z. z ++ x) counted.whole ∙ append_assoc counted.head body x in
    elim f [
      | inl short ↦ leb_not_short counted.head (body ++ x) counted.count.0.0 (subst (λ (z : List ℕ). IsShort z) e short)
      | inr cut ↦
          let g : counted.head ++ (body ++ x) ≡ cut.head ++ cut.body = sym e ∙ cut.whole in
          let one = unique_u (length body) cut.count counted.head cut.head (body ++ x) cut.body counted.count cut.counted g in
          let g2 : body ++ x ≡ cut.body = append_cancel_left cut.head (body ++ x) cut.body (ap (λ z. z ++ (body ++ x)) (sym one.0) ∙ g) in
          let l : length body + length x ≡ length cut.body = sym (length-append body x) ∙ ap length g2 in
          omega (arith, one.1, cut.short)
    ]
part_not_short shape.ByteCounted v a x (body, whole, holds) f =
    let e : a ++ x ≡ length body ∷ (body ++ x) = ap (λ z. z ++ x) whole in
    elim f [
      | inl none ↦ let l : length (a ++ x) ≡ 0 = ap length none in let m : length (a ++ x) ≡ length (length body ∷ (body ++ x)) = ap length e in absurd (omega arith)
      | inr cut ↦
          let g : length body ∷ (body ++ x) ≡ cut.0 ∷ cut.1 = sym e ∙ cut.2 in
          let n : length body ≡ cut.0 = ap first_of g in
          let l : length body + length x ≡ length cut.1 = sym (length-append body x) ∙ ap (λ z. length (rest_of z)) g in
          omega (arith, cut.3)
    ]

part_not_wide : (s : Shape) (v : Part) (a x : List ℕ) → SpellsPart s v a → IsPartWide s (a ++ x) → ⊥
part_not_wide (shape.Unsigned w) v a x p f = absurd f
part_not_wide (shape.Signed w) v a x p f = absurd f
part_not_wide shape.Uleb v a x p f = uleb_not_wide p.0 a x p.1 f
part_not_wide shape.Sleb v a x p f = sleb_not_wide p.0 a x p.1 f
part_not_wide shape.Counted v a x (body, counted, holds) f =
    let e : a ++ x ≡ counted.head ++ (body ++ x) = ap (λ z. z ++ x) counted.whole ∙ append_assoc counted.head body x in
    uleb_not_wide (length body) counted.head (body ++ x) counted.count (subst (λ (z : List ℕ). IsWideUnsigned z) e f)
part_not_wide shape.ByteCounted v a x p f = absurd f

part_whole : (s : Shape) (k : Kind) (v : Part) (a x : List ℕ) → SpellsPart s v a → FaultPart s k (a ++ x) → ⊥
part_whole s kind.Short v a x p f = part_not_short s v a x p f
part_whole s kind.LebWide v a x p f = part_not_wide s v a x p f
part_whole s k v a x p f = absurd f

pub part_never : (s : Shape) → NeverBoth (SpellsPart s) (FaultPartAt s)
part_never s v k at a x p f = part_whole s k v a x p f.0

operands_never : (code : ℕ) (o : Operands) → NeverBoth (SpellsOperands code o) (FaultOperands o)
operands_never code operands.Nothing v k at a x p f = absurd f
operands_never code (operands.One s) v k at a x p f = part_never s p.0 k at a x p.1 f
operands_never code (operands.Two s t) v k at a x p f =
    then_whole (SpellsPart s) (λ _. SpellsPart t) (FaultPartAt s) (λ _. FaultPartAt t) (part_once s) (part_never s) (λ _. part_never t) p.0 k at a x p.1 f
operands_never code (operands.Typed s) v k at a x p f =
    then_whole (SpellsPart s) (λ _. SpellsPart shape.Uleb) (FaultPartAt s) (λ _. FaultPartAt shape.Uleb) (part_once s) (part_never s) (λ _. part_never shape.Uleb) p.0 k at a x p.1 f

abbrev is_some : Option Operands → Type 0
is_some None = ⊥
is_some (Some o) = Unit {0}

pub head_never : NeverBoth SpellsHead FaultHead
head_never v k at a x p (code, tail, whole, f) =
    let g : p.code ∷ (p.tail ++ x) ≡ code ∷ tail = ap (λ z. z ++ x) (sym p.whole) ∙ whole in
    let same : p.code ≡ code = ap first_of g in
    let known : operands_of code ≡ Some p.operands = ap operands_of (sym same) ∙ p.known in
    elim f [
      | inl none ↦ subst is_some (sym known ∙ none.0) tt
      | inr (o, other, inner, fault, place) ↦
          let e : o ≡ p.operands = some_same o p.operands (sym other ∙ known) in
          operands_never p.code p.operands v k inner p.tail x p.spelled (subst (λ (z : List ℕ). FaultOperands p.operands k inner z) (sym (ap rest_of g)) (subst (λ (z : Operands). FaultOperands z k inner tail) e fault))
    ]
