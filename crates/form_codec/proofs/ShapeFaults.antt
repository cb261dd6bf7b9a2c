-- Bytes that begin with a value have no fault.
use Rattle.std.proofs.Common.{◌≡◌, ◌≤◌, ◌+◌, ℕ, List, [], ◌∷◌, ◌++◌, length, get_or, ◌∙◌, sym, ap, subst, arith, inl, inr}
use Rattle.std.proofs.lemmas.List.{append_assoc, append_cancel_left, length-append, get_or-append-add}
use Rattle.std.specs.Prelude.{ℤ}
use Rattle.byteorder.specs.Numbers.{little_from-append}
use Rattle.dw_base.specs.declared.fault.Kind.{Kind}
use Rattle.dw_base.specs.declared.fault.Kind.TheVariants as kind
use Rattle.leb_codec.specs.Leb.{IsShort, IsWideUnsigned}
use Rattle.leb_codec.proofs.Fronts.{unique_u, leb_not_short, uleb_not_wide, sleb_not_wide}
use Rattle.form_codec.specs.declared.form.Form.{Form}
use Rattle.form_codec.specs.declared.form.Shape.{Shape}
use Rattle.form_codec.specs.declared.form.Shape.TheVariants.{Constant, Present, Number, Uleb as ByUleb, Sleb as BySleb, Counted, UlebCounted, Sixteen, ZeroEnded}
use Rattle.fixed_width.specs.Numbers.{number}
use Rattle.form_codec.specs.Forms.{Meaning, SpellsShape, SpellsValue, size_of, shape_of}
use Rattle.form_codec.specs.Faults.{IsShapeShort, IsShapeWide, IsShapeUnended, FaultShape, FaultValue}
use Rattle.form_codec.proofs.Codes.{code_once}

number_front : (n : ℕ) (a x : List ℕ) → n ≤ length a → number n (a ++ x) ≡ number n a
unfolding number
number_front n a x h = little_from-append n a x h

at_end : (s x : List ℕ) → get_or (s ++ (0 ∷ x)) (length s) 0 ≡ 0
at_end s x =
    let e : length s + 0 ≡ length s = omega arith in
    ap (λ n. get_or (s ++ (0 ∷ x)) n 0) (sym e) ∙ get_or-append-add s (0 ∷ x) 0 0

shape_not_short : (shape : Shape) (meaning : Meaning) (a x : List ℕ) → SpellsShape shape meaning a → IsShapeShort shape (a ++ x) → ⊥
shape_not_short (Constant v) meaning a x p f = absurd f
shape_not_short Present meaning a x p f = absurd f
shape_not_short (Number w role) meaning a x p f = omega (arith, length-append a x, p.0)
shape_not_short (ByUleb role) meaning a x p f = leb_not_short a x p.1.0.0 f
shape_not_short BySleb meaning a x p f = leb_not_short a x p.1.0.0 f
shape_not_short (Counted w) meaning a x p f =
    let l : length a ≡ length p.head + length p.body = ap length p.whole ∙ length-append p.head p.body in
    let e : a ++ x ≡ p.head ++ (p.body ++ x) = ap (λ z. z ++ x) p.whole ∙ append_assoc p.head p.body x in
    let n : number (size_of w) (a ++ x) ≡ length p.body = ap (number (size_of w)) e ∙ number_front (size_of w) p.head (p.body ++ x) (let s = p.size in omega arith) ∙ sym p.count in
    elim f [
      | inl short ↦ omega (arith, length-append a x, p.size)
      | inr short ↦ omega (arith, length-append a x, p.size)
    ]
shape_not_short (UlebCounted kind) meaning a x p f =
    let e : a ++ x ≡ p.head ++ (p.body ++ x) = ap (λ z. z ++ x) p.whole ∙ append_assoc p.head p.body x in
    elim f [
      | inl short ↦ leb_not_short p.head (p.body ++ x) p.count.0.0 (subst (λ (z : List ℕ). IsShort z) e short)
      | inr cut ↦
          let g : p.head ++ (p.body ++ x) ≡ cut.head ++ cut.body = sym e ∙ cut.whole in
          let one = unique_u (length p.body) cut.count p.head cut.head (p.body ++ x) cut.body p.count cut.counted g in
          let g2 : p.body ++ x ≡ cut.body = append_cancel_left cut.head (p.body ++ x) cut.body (ap (λ z. z ++ (p.body ++ x)) (sym one.0) ∙ g) in
          let l : length p.body + length x ≡ length cut.body = sym (length-append p.body x) ∙ ap length g2 in
          omega (arith, one.1, cut.short)
    ]
shape_not_short Sixteen meaning a x p f = omega (arith, length-append a x, p.0)
shape_not_short ZeroEnded meaning a x p f = absurd f

shape_not_wide : (shape : Shape) (meaning : Meaning) (a x : List ℕ) → SpellsShape shape meaning a → IsShapeWide shape (a ++ x) → ⊥
shape_not_wide (ByUleb role) meaning a x p f = uleb_not_wide p.0 a x p.1 f
shape_not_wide BySleb meaning a x p f = sleb_not_wide p.0 a x p.1 f
shape_not_wide (UlebCounted kind) meaning a x p f =
    let e : a ++ x ≡ p.head ++ (p.body ++ x) = ap (λ z. z ++ x) p.whole ∙ append_assoc p.head p.body x in
    uleb_not_wide (length p.body) p.head (p.body ++ x) p.count (subst (λ (z : List ℕ). IsWideUnsigned z) e f)
shape_not_wide (Constant v) meaning a x p f = absurd f
shape_not_wide Present meaning a x p f = absurd f
shape_not_wide (Number w role) meaning a x p f = absurd f
shape_not_wide (Counted w) meaning a x p f = absurd f
shape_not_wide Sixteen meaning a x p f = absurd f
shape_not_wide ZeroEnded meaning a x p f = absurd f

shape_not_unended : (shape : Shape) (meaning : Meaning) (a x : List ℕ) → SpellsShape shape meaning a → IsShapeUnended shape (a ++ x) → ⊥
shape_not_unended ZeroEnded meaning a x p f =
    let e : a ++ x ≡ p.text ++ (0 ∷ x) = ap (λ z. z ++ x) p.whole ∙ append_assoc p.text (0 ∷ []) x in
    let l : length (a ++ x) ≡ length p.text + length (0 ∷ x) = ap length e ∙ length-append p.text (0 ∷ x) in
    let h : get_or (a ++ x) (length p.text) 0 ≡ 0 = ap (λ z. get_or z (length p.text) 0) e ∙ at_end p.text x in
    f (length p.text) (omega arith) h
shape_not_unended shape meaning a x p f = absurd f

shape_whole : (shape : Shape) (kind : Kind) (meaning : Meaning) (a x : List ℕ) → SpellsShape shape meaning a → FaultShape shape kind (a ++ x) → ⊥
shape_whole shape kind.Short meaning a x p f = shape_not_short shape meaning a x p f
shape_whole shape kind.LebWide meaning a x p f = shape_not_wide shape meaning a x p f
shape_whole shape kind.Text meaning a x p f = shape_not_unended shape meaning a x p f
shape_whole shape kind meaning a x p f = absurd f

-- bytes that begin with a value have no fault
pub value_whole : (name code : ℕ) (constant : ℤ) (kind : Kind) (meaning : Meaning) (a x : List ℕ) → SpellsValue name code constant meaning a → FaultValue name code constant kind (a ++ x) → ⊥
value_whole name code constant kind meaning a x p f =
    let same : f.form ≡ p.form = code_once f.form p.form (f.known ∙ sym p.known) in
    shape_whole (shape_of p.form name constant) kind meaning a x p.spelled (subst (λ (z : Form). FaultShape (shape_of z name constant) kind (a ++ x)) same f.fault)
