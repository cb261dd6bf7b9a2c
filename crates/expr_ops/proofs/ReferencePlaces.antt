-- The reference of an operation stands inside its bytes, at one place.
use Rattle.std.proofs.Common.{◌≡◌, ◌≢◌, ◌≤◌, ◌<◌, ◌+◌, ℕ, zero, suc, List, ◌∷◌, ◌++◌, length, take, drop, ◌∙◌, sym, ap, refl, subst, arith, inl, inr, Bool, true, false, Option, Some, None}
use Rattle.std.proofs.lemmas.List.{append_assoc, length-append, take-append-drop, drop-drop}
use Rattle.std.proofs.lemmas.Bool.{cases_lt}
use Rattle.std.proofs.lemmas.Bool.Decides.{eqb_tells}
use Rattle.std.specs.Prelude.{if◌then◌else◌, ◌⊎◌}
use Rattle.spelled.specs.Spelled.{AreBytes}
use Rattle.leb_codec.proofs.Fronts.{unique_u}
use Rattle.expr_ops.specs.declared.table.Width.{Width}
use Rattle.expr_ops.specs.declared.table.Width.TheVariants.{One, Two, Four, Eight}
use Rattle.expr_ops.specs.declared.table.Shape.{Shape}
use Rattle.expr_ops.specs.declared.table.Shape.TheVariants as shape
use Rattle.expr_ops.specs.declared.table.Operands.{Operands}
use Rattle.expr_ops.specs.declared.table.Operands.TheVariants as operands
use Rattle.expr_ops.specs.declared.op.Op.{Op}
use Rattle.expr_ops.specs.Table.{operands_of}
use Rattle.expr_ops.specs.Heads.{Head, Part, size_of, SpellsPart, SpellsOperands}
use Rattle.expr_ops.specs.Expressions.{Operation, plain_code}
use Rattle.expr_ops.specs.Ops.{held_bytes, IsLead, Chain}
use Rattle.expr_ops.specs.Names.{IsReferencePlace}
use Rattle.expr_ops.specs.Drafts.{has_reference, op_at}
use Rattle.expr_ops.proofs.HeadLaws.{some_same}
use Rattle.expr_ops.proofs.BlockLaws.{code_of_head}
use Rattle.expr_ops.proofs.ChainLaws.{lead_long, chain_at}

-- OPERATIONS WITH A REFERENCE HAVE OPERANDS

abbrev has_operand : Option Operands → Bool
has_operand None = true
has_operand (Some operands.Nothing) = false
has_operand (Some _) = true

abbrev is_row : ℕ → Option Operands → Bool
is_row code known = if has_reference (plain_code code) then has_operand known else true

are_rows : ℕ → Bool
are_rows zero = true
are_rows (suc n) = if is_row n (operands_of n) then are_rows n else false

all_rows : are_rows 256 ≡ true
unfolding are_rows
all_rows = refl

both_true : (a b : Bool) → (if a then b else false) ≡ true → (a ≡ true) × (b ≡ true)
both_true true b e = (refl, e)
both_true false b e = let no : false ≡ true = e in absurd (cc)

row_at : (n code : ℕ) → code < n → are_rows n ≡ true → is_row code (operands_of code) ≡ true
unfolding are_rows
row_at zero code lt e = absurd (omega arith)
row_at (suc n) code lt e =
    let (here, below) = both_true (is_row n (operands_of n)) (are_rows n) e in
    elim (cases_lt code n) [
      | inl less ↦ row_at n code less below
      | inr other ↦
          let same : n ≡ code = omega arith in
          subst (λ (z : ℕ). is_row z (operands_of z) ≡ true) same here
    ]

then_true : (a b : Bool) → a ≡ true → (if a then b else true) ≡ true → b ≡ true
then_true true b t e = e
then_true false b t e = let no : false ≡ true = t in absurd (cc)

size_filled : (w : Width) → 0 < size_of w
size_filled One = omega arith
size_filled Two = omega arith
size_filled Four = omega arith
size_filled Eight = omega arith

part_filled : (s : Shape) (p : Part) (bytes : List ℕ) → SpellsPart s p bytes → 0 < length bytes
part_filled (shape.Unsigned w) p bytes (size, e) = let some = size_filled w in omega (arith, some, size)
part_filled (shape.Signed w) p bytes (size, e) = let some = size_filled w in omega (arith, some, size)
part_filled shape.Uleb p bytes (n, u, e) = u.0.0.filled
part_filled shape.Sleb p bytes (v, u, e) = u.0.0.filled
part_filled shape.Counted p bytes (body, c, e) =
    let some = c.count.0.0.filled in
    let size : length bytes ≡ length c.head + length body = ap (λ z. length z) c.whole ∙ length-append c.head body in
    omega (arith, some, size)
part_filled shape.ByteCounted p bytes (body, whole, e) =
    let size : length bytes ≡ length (length body ∷ body) = ap (λ z. length z) whole in
    omega (arith, size)

operands_filled : (code : ℕ) (o : Operands) (head : Head) (bytes : List ℕ) → has_operand (Some o) ≡ true → SpellsOperands code o head bytes → 0 < length bytes
operands_filled code operands.Nothing head bytes has s = let no : false ≡ true = has in absurd (cc)
operands_filled code (operands.One t) head bytes has (p, s, e) = part_filled t p bytes s
operands_filled code (operands.Two t u) head bytes has (p, (a, b, s, q, w), e) =
    let some = part_filled t p.0 a s in
    let size : length bytes ≡ length a + length b = ap (λ z. length z) w ∙ length-append a b in
    omega (arith, some, size)
operands_filled code (operands.Typed t) head bytes has (p, (a, b, s, q, w), e) =
    let some = part_filled t p.0 a s in
    let size : length bytes ≡ length a + length b = ap (λ z. length z) w ∙ length-append a b in
    omega (arith, some, size)

-- AN OPCODE AND ITS OPERANDS AT A PLACE

pub record StandsHead (bytes : List ℕ) (at : ℕ) (head : Head) : Type 0 where
  pub operands : Operands
  pub tail : List ℕ
  pub rest : List ℕ
  pub known : operands_of head.code ≡ Some operands
  pub small : head.code < 256
  pub spelled : SpellsOperands head.code operands head tail
  pub behind : drop (at + 1) bytes ≡ tail ++ rest
  pub inside : at + 1 + length tail ≤ length bytes

pub lead_stands : (outer : List ℕ) (at size : ℕ) (op : Op) (l : IsLead outer at size op) → StandsHead outer at l.head
lead_stands outer at size op l =
    let n = size + held_bytes l.head in
    let front = take n (drop at outer) in
    let rest = drop n (drop at outer) in
    let s = l.spelled in
    let code : l.head.code ≡ s.code = code_of_head s.code s.operands l.head s.tail s.spelled in
    let small : AreBytes (s.code ∷ s.tail) = subst (λ (z : List ℕ). AreBytes z) s.whole s.small in
    let first : s.code < 256 = small 0 (omega arith) in
    let whole : drop at outer ≡ s.code ∷ (s.tail ++ rest) = sym (take-append-drop n (drop at outer)) ∙ ap (λ z. z ++ rest) s.whole in
    let fits = l.inside in
    let long : length front ≡ n = lead_long outer at size op l in
    let parts : length front ≡ length (s.code ∷ s.tail) = ap (λ z. length z) s.whole in
    record {
      operands = s.operands;
      tail = s.tail;
      rest = rest;
      known = ap operands_of code ∙ s.known;
      small = omega (arith, code, first);
      spelled = subst (λ (z : ℕ). SpellsOperands z s.operands l.head s.tail) (sym code) s.spelled;
      behind = sym (drop-drop 1 at outer) ∙ ap (drop 1) whole;
      inside = omega (arith, fits, long, parts);
    }

-- an opcode is kept, but for that of call2
same_code : (code other : ℕ) → code ≢ 153 → plain_code other ≡ code → other ≡ code
same_code code other no_call e = elim (eqb_tells other 152) [
  | inl (t, call) ↦
      let to : plain_code other ≡ 153 = ap plain_code call in
      absurd (no_call (sym e ∙ to))
  | inr (f, not) ↦ sym (ap (λ (z : Bool). if z then 153 else other) f) ∙ e
]

-- THE PLACE OF A REFERENCE

abbrev HasReferencePlace : List ℕ → ℕ → ℕ → Type 0
HasReferencePlace bytes code at = (place : ℕ) × IsReferencePlace bytes code at place × (place < length bytes)

module _ (bytes : List ℕ) (at : ℕ) (head : Head) (h : StandsHead bytes at head) (code : ℕ) (plain : plain_code head.code ≡ code) where
  operands_are : (n : ℕ) (o : Operands) → n ≢ 153 → code ≡ n → operands_of n ≡ Some o → SpellsOperands head.code o head h.tail
  operands_are n o no_call e known =
      let own : head.code ≡ n = same_code n head.code no_call (plain ∙ e) in
      let same : h.operands ≡ o = some_same h.operands o (sym h.known ∙ ap operands_of own ∙ known) in
      subst (λ (z : Operands). SpellsOperands head.code z head h.tail) same h.spelled

  register_place : code ≡ 165 → HasReferencePlace bytes code at
  register_place e =
      let (p, (a, b, (n, u, f), (m, v, g), w), k) : SpellsOperands head.code (operands.Typed shape.Uleb) head h.tail = operands_are 165 (operands.Typed shape.Uleb) (omega arith) e refl in
      let some : 0 < length b = v.0.0.filled in
      let inside = h.inside in
      let size : length h.tail ≡ length a + length b = ap (λ z. length z) w ∙ length-append a b in
      let behind : drop (at + 1) bytes ≡ a ++ (b ++ h.rest) = h.behind ∙ ap (λ z. z ++ h.rest) w ∙ append_assoc a b h.rest in
      (at + 1 + length a, inl (e, (n, a, b ++ h.rest, u, behind, refl)), omega (arith, some, inside, size))

  byte_place : (code ≡ 166) ⊎ (code ≡ 167) → HasReferencePlace bytes code at
  byte_place e =
      let (p, (a, b, (one, f), (m, v, g), w), k) : SpellsOperands head.code (operands.Typed (shape.Unsigned One)) head h.tail = elim e [
        | inl c ↦ operands_are 166 (operands.Typed (shape.Unsigned One)) (omega arith) c refl
        | inr c ↦ operands_are 167 (operands.Typed (shape.Unsigned One)) (omega arith) c refl
      ]
      in
      let some : 0 < length b = v.0.0.filled in
      let inside = h.inside in
      let size : length h.tail ≡ length a + length b = ap (λ z. length z) w ∙ length-append a b in
      (at + 2, inr (inl (e, refl)), omega (arith, some, inside, size, one))

  next_place : code ≢ 165 → code ≢ 166 → code ≢ 167 → has_reference code ≡ true → HasReferencePlace bytes code at
  next_place a b c has =
      let row : is_row head.code (Some h.operands) ≡ true = ap (λ z. is_row head.code z) (sym h.known) ∙ row_at 256 head.code h.small all_rows in
      let operand : has_operand (Some h.operands) ≡ true = then_true (has_reference (plain_code head.code)) (has_operand (Some h.operands)) (ap has_reference plain ∙ has) row in
      let some = operands_filled head.code h.operands head h.tail operand h.spelled in
      let inside = h.inside in
      (at + 1, inr (inr (a, b, c, refl)), omega (arith, some, inside))

  reference_inside : has_reference code ≡ true → HasReferencePlace bytes code at
  reference_inside has = elim (eqb_tells code 165) [
    | inl (t, e) ↦ register_place e
    | inr (t, a) ↦ elim (eqb_tells code 166) [
      | inl (u, e) ↦ byte_place (inl e)
      | inr (u, b) ↦ elim (eqb_tells code 167) [
        | inl (v, e) ↦ byte_place (inr e)
        | inr (v, c) ↦ next_place a b c has
      ]
    ]
  ]

-- ONE PLACE

no_register : (code : ℕ) → code ≡ 165 → (code ≡ 166) ⊎ (code ≡ 167) → ⊥
no_register code e (inl f) = omega arith
no_register code e (inr f) = omega arith

no_byte : (code : ℕ) → code ≢ 166 → code ≢ 167 → (code ≡ 166) ⊎ (code ≡ 167) → ⊥
no_byte code a b (inl e) = a e
no_byte code a b (inr e) = b e

pub one_reference : (bytes : List ℕ) (code at p q : ℕ) → IsReferencePlace bytes code at p → IsReferencePlace bytes code at q → p ≡ q
one_reference bytes code at p q (inl (c, (n, a, x, u, w, e))) (inl (d, (m, b, y, v, z, f))) =
    let one = unique_u n m a b x y u v (sym w ∙ z) in
    e ∙ ap (λ (l : List ℕ). at + 1 + length l) one.0 ∙ sym f
one_reference bytes code at p q (inl (c, r)) (inr (inl (d, f))) = absurd (no_register code c d)
one_reference bytes code at p q (inl (c, r)) (inr (inr (d, g, h, f))) = absurd (d c)
one_reference bytes code at p q (inr (inl (c, e))) (inl (d, r)) = absurd (no_register code d c)
one_reference bytes code at p q (inr (inl (c, e))) (inr (inl (d, f))) = e ∙ sym f
one_reference bytes code at p q (inr (inl (c, e))) (inr (inr (d, g, h, f))) = absurd (no_byte code g h c)
one_reference bytes code at p q (inr (inr (c, g, h, e))) (inl (d, r)) = absurd (c d)
one_reference bytes code at p q (inr (inr (c, g, h, e))) (inr (inl (d, f))) = absurd (no_byte code g h d)
one_reference bytes code at p q (inr (inr (c, g, h, e))) (inr (inr (d, i, j, f))) = e ∙ sym f

-- OF ALL

pub references_inside : (ops : List Op) (bytes : List ℕ) → Chain bytes 0 ops (length bytes) → (k : ℕ) → k < length ops → has_reference (op_at ops k).code ≡ true → (place : ℕ) × IsReferencePlace bytes (op_at ops k).code (op_at ops k).at place × (place < length bytes) × ((other : ℕ) → IsReferencePlace bytes (op_at ops k).code (op_at ops k).at other → other ≡ place)
references_inside ops bytes chain k inside has =
    let op = op_at ops k in
    let c = chain_at bytes 0 (length bytes) ops chain k inside in
    let l = c.lead in
    let plain : plain_code l.head.code ≡ op.code = sym (ap (λ (z : Operation). z.code) l.means) in
    let (place, is, before) = reference_inside bytes op.at l.head (lead_stands bytes op.at c.size op l) op.code plain has in
    (place, is, before, λ other that. one_reference bytes op.code op.at other place that is)
