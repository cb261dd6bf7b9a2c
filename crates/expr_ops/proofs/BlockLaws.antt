-- Which operations have a block, and where it stands.
use Rattle.std.proofs.Common.{◌≡◌, ◌<◌, ◌+◌, ℕ, zero, suc, List, [], ◌∷◌, ◌∙◌, sym, ap, refl, subst, arith, inl, inr, Bool, true, false, Option, Some, None}
use Rattle.std.proofs.lemmas.Bool.{cases_lt}
use Rattle.std.proofs.lemmas.Bool.Decides.{nat_tests}
use Rattle.std.specs.Prelude.{if◌then◌else◌, nat_eq, ◌⊎◌}
use Rattle.dw_base.specs.declared.fault.Span.{Span}
use Rattle.spelled.specs.Spelled.{AreBytes}
use Rattle.expr_ops.specs.declared.table.Shape.{Shape}
use Rattle.expr_ops.specs.declared.table.Shape.TheVariants as shape
use Rattle.expr_ops.specs.declared.table.Operands.{Operands}
use Rattle.expr_ops.specs.declared.table.Operands.TheVariants as operands
use Rattle.expr_ops.specs.declared.part.Part.TheVariants as part
use Rattle.expr_ops.specs.declared.part.Part.{Part as HeldPart}
use Rattle.expr_ops.specs.Table.{operands_of}
use Rattle.expr_ops.specs.Heads.{Head, Part, SpellsPart, SpellsHead, SpellsOperands, holding, holding_two, KeepsBlock, IsBlockOf}
use Rattle.expr_ops.specs.Heads.Part.{Unsigned, Signed, Data}
use Rattle.expr_ops.specs.inside.Reads.{PartEnds, IsBlockIn, IsBlockOfTwo, ShapeEnds, TwoEnds, BlockEnds}
use Rattle.expr_ops.proofs.HeadLaws.{some_same}

-- THE CODE

holding_code : (code : ℕ) (p : Part) → (holding code p).code ≡ code
holding_code code (Unsigned n) = refl
holding_code code (Signed v) = refl
holding_code code (Data b) = refl

holding_two_code : (code : ℕ) (p q : Part) → (holding_two code p q).code ≡ code
holding_two_code code (Unsigned n) (Unsigned m) = refl
holding_two_code code (Unsigned n) (Signed v) = refl
holding_two_code code (Unsigned n) (Data b) = refl
holding_two_code code (Signed v) q = refl
holding_two_code code (Data b) q = refl

pub code_of_head : (code : ℕ) (o : Operands) (head : Head) (bytes : List ℕ) → SpellsOperands code o head bytes → head.code ≡ code
code_of_head code operands.Nothing head bytes s = ap (λ (z : Head). z.code) s.1
code_of_head code (operands.One t) head bytes (p, s, e) = ap (λ (z : Head). z.code) e ∙ holding_code code p
code_of_head code (operands.Two t u) head bytes (p, s, e) = ap (λ (z : Head). z.code) e ∙ holding_two_code code p.0 p.1
code_of_head code (operands.Typed t) head bytes (p, s, e) = ap (λ (z : Head). z.code) e ∙ holding_two_code code p.1 p.0

-- A BLOCK IS THE LAST OPERAND

pub shape_ends : (s : Shape) (p : HeldPart) (end : ℕ) (block : Span) → PartEnds s p end → IsBlockIn p block → ShapeEnds s block end
shape_ends (shape.Unsigned w) p end block a e = tt
shape_ends (shape.Signed w) p end block a e = tt
shape_ends shape.Uleb p end block a e = tt
shape_ends shape.Sleb p end block a e = tt
shape_ends shape.Counted (part.Data span) end block a e = ap (λ (z : Span). z.at + z.len) e ∙ a
shape_ends shape.Counted (part.Unsigned n) end block a e = absurd a
shape_ends shape.Counted (part.Signed v) end block a e = absurd a
shape_ends shape.ByteCounted (part.Data span) end block a e = ap (λ (z : Span). z.at + z.len) e ∙ a
shape_ends shape.ByteCounted (part.Unsigned n) end block a e = absurd a
shape_ends shape.ByteCounted (part.Signed v) end block a e = absurd a

pub two_ends : (s t : Shape) (p q : HeldPart) (mid end : ℕ) (block : Span) → PartEnds s p mid → PartEnds t q end → IsBlockOfTwo p q block → TwoEnds s t block end
two_ends (shape.Unsigned w) t p q mid end block a b e = tt
two_ends (shape.Signed w) t p q mid end block a b e = tt
two_ends shape.Uleb t (part.Unsigned n) q mid end block a b e = shape_ends t q end block b e
two_ends shape.Uleb t (part.Signed v) q mid end block a b e = absurd a
two_ends shape.Uleb t (part.Data span) q mid end block a b e = absurd a
two_ends shape.Sleb t p q mid end block a b e = tt
two_ends shape.Counted t p q mid end block a b e = tt
two_ends shape.ByteCounted t p q mid end block a b e = tt

pub kept_ends : (code : ℕ) (o : Operands) (block : Span) (end : ℕ) → operands_of code ≡ Some o → BlockEnds o block end → KeepsBlock code → block.at + block.len ≡ end
kept_ends code o block end known b (inl e) =
    subst (λ (z : Operands). BlockEnds z block end) (some_same o (operands.One shape.Counted) (sym known ∙ ap operands_of e)) b
kept_ends code o block end known b (inr e) =
    subst (λ (z : Operands). BlockEnds z block end) (some_same o (operands.Two shape.Uleb shape.ByteCounted) (sym known ∙ ap operands_of e)) b

-- OTHER OPCODES HAVE NO BYTES

abbrev is_free_shape : Shape → Bool
is_free_shape shape.Counted = false
is_free_shape shape.ByteCounted = false
is_free_shape _ = true

abbrev is_free : Operands → Bool
is_free operands.Nothing = true
is_free (operands.One s) = is_free_shape s
is_free (operands.Two s t) = if is_free_shape s then is_free_shape t else false
is_free (operands.Typed s) = is_free_shape s

abbrev has_block : ℕ → Bool
has_block code = if nat_eq code 158 then true else (if nat_eq code 163 then true else nat_eq code 164)

abbrev is_row : ℕ → Option Operands → Bool
is_row code None = true
is_row code (Some o) = if is_free o then true else has_block code

are_rows : ℕ → Bool
are_rows zero = true
are_rows (suc n) = if is_row n (operands_of n) then are_rows n else false

all_rows : are_rows 256 ≡ true
unfolding are_rows
all_rows = refl

both_true : (a b : Bool) → (if a then b else false) ≡ true → (a ≡ true) × (b ≡ true)
both_true true b e = (refl, e)
both_true false b e = let no : false ≡ true = e in absurd (cc)

either_true : (a b : Bool) → (if a then true else b) ≡ true → (a ≡ true) ⊎ (b ≡ true)
either_true true b e = inl refl
either_true false b e = inr e

row_at : (n code : ℕ) → code < n → are_rows n ≡ true → is_row code (operands_of code) ≡ true
unfolding are_rows
row_at zero code lt e = absurd (omega arith)
row_at (suc n) code lt e =
    let (here, below) = both_true (is_row n (operands_of n)) (are_rows n) e in
    elim (cases_lt code n) [
      | inl less ↦ row_at n code less below
      | inr other ↦
          let same : n ≡ code = omega arith in
          subst (λ (z : ℕ). is_row z (operands_of z) ≡ true) same here
    ]

block_code : (code : ℕ) (block : List ℕ) → has_block code ≡ true → IsBlockOf code block
block_code code block e = elim (either_true (nat_eq code 158) (if nat_eq code 163 then true else nat_eq code 164) e) [
  | inl a ↦ inl (inl (grind (arith, nat_tests)))
  | inr f ↦ elim (either_true (nat_eq code 163) (nat_eq code 164) f) [
    | inl a ↦ inr (inl (grind (arith, nat_tests)))
    | inr a ↦ inl (inr (grind (arith, nat_tests)))
  ]
]

abbrev block_in : Part → List ℕ
block_in (Unsigned n) = []
block_in (Signed v) = []
block_in (Data b) = b

free_part : (s : Shape) (p : Part) (bytes : List ℕ) → is_free_shape s ≡ true → SpellsPart s p bytes → block_in p ≡ []
free_part (shape.Unsigned w) p bytes e s = ap block_in s.1
free_part (shape.Signed w) p bytes e s = ap block_in s.1
free_part shape.Uleb p bytes e (n, s, f) = ap block_in f
free_part shape.Sleb p bytes e (v, s, f) = ap block_in f
free_part shape.Counted p bytes e s = let no : false ≡ true = e in absurd (cc)
free_part shape.ByteCounted p bytes e s = let no : false ≡ true = e in absurd (cc)

one_free : (code : ℕ) (p : Part) → block_in p ≡ [] → (holding code p).block ≡ []
one_free code (Unsigned n) e = refl
one_free code (Signed v) e = refl
one_free code (Data b) e = e

two_free : (code : ℕ) (p q : Part) → block_in p ≡ [] → block_in q ≡ [] → (holding_two code p q).block ≡ []
two_free code (Unsigned n) (Unsigned m) e f = refl
two_free code (Unsigned n) (Signed v) e f = refl
two_free code (Unsigned n) (Data b) e f = f
two_free code (Signed v) q e f = refl
two_free code (Data b) q e f = e

free_operands : (code : ℕ) (o : Operands) (head : Head) (bytes : List ℕ) → is_free o ≡ true → SpellsOperands code o head bytes → head.block ≡ []
free_operands code operands.Nothing head bytes e s = ap (λ (z : Head). z.block) s.1
free_operands code (operands.One s) head bytes e (p, x, f) = ap (λ (z : Head). z.block) f ∙ one_free code p (free_part s p bytes e x)
free_operands code (operands.Two s t) head bytes e (p, (a, b, x, y, w), f) =
    let (g, h) = both_true (is_free_shape s) (is_free_shape t) e in
    ap (λ (z : Head). z.block) f ∙ two_free code p.0 p.1 (free_part s p.0 a g x) (free_part t p.1 b h y)
free_operands code (operands.Typed s) head bytes e (p, (a, b, x, y, w), f) =
    ap (λ (z : Head). z.block) f ∙ two_free code p.1 p.0 (free_part shape.Uleb p.1 b refl y) (free_part s p.0 a e x)

-- the bytes of a head are those of a block, or of an entry_value, or none
pub block_of_head : (head : Head) (bytes : List ℕ) → SpellsHead head bytes → IsBlockOf head.code head.block
block_of_head head bytes s =
    let code : head.code ≡ s.code = code_of_head s.code s.operands head s.tail s.spelled in
    let small : AreBytes (s.code ∷ s.tail) = subst (λ (z : List ℕ). AreBytes z) s.whole s.small in
    let row : is_row s.code (Some s.operands) ≡ true = ap (λ z. is_row s.code z) (sym s.known) ∙ row_at 256 s.code (small 0 (omega arith)) all_rows in
    elim (either_true (is_free s.operands) (has_block s.code) row) [
      | inl free ↦ inr (inr (free_operands s.code s.operands head s.tail free s.spelled))
      | inr has ↦ subst (λ (z : ℕ). IsBlockOf z head.block) (sym code) (block_code s.code head.block has)
    ]
