-- Bytes of a shape end by themselves.
use Rattle.std.proofs.Common.{◌≡◌, ◌≤◌, ◌+◌, ℕ, List, [], ◌∷◌, ◌++◌, length, get_or, ◌∙◌, sym, ap, subst, arith, inl, inr}
use Rattle.std.proofs.lemmas.List.{append_cancel_left, get_or_append_left, get_or-append-add}
use Rattle.std.proofs.lemmas.Bool.{cases_lt}
use Rattle.std.specs.Prelude.{ℤ}
use Rattle.spelled.specs.Spelled.{HasUniqueFronts}
use Rattle.spelled.proofs.Joins.{regroup}
use Rattle.spelled.proofs.Parts.{same_front}
use Rattle.leb_codec.proofs.Fronts.{unique_u, unique_s}
use Rattle.form_codec.specs.declared.form.Form.{Form}
use Rattle.form_codec.specs.declared.form.Content.{Content}
use Rattle.form_codec.specs.declared.form.Shape.{Shape}
use Rattle.form_codec.specs.declared.form.Shape.TheVariants.{Constant, Present, Number, Uleb as ByUleb, Sleb as BySleb, Counted, UlebCounted, Sixteen, ZeroEnded}
use Rattle.form_codec.specs.declared.form.Width.{Width}
use Rattle.form_codec.specs.declared.form.Width.TheVariants.{Eight}
use Rattle.fixed_width.specs.Numbers.{number}
use Rattle.form_codec.specs.Forms.{SpellsShape, SpellsValue, IsCounted, IsUlebCounted, IsZeroEnded, HasNoZero, size_of, shape_of, in_role, of_content}
use Rattle.form_codec.specs.Forms.Meaning.{Whole, SixteenBytes, Data, Text}
use Rattle.form_codec.proofs.Codes.{code_once}

-- texts before a 0
not_longer : (s t x y : List ℕ) → HasNoZero t → s ++ (0 ∷ x) ≡ t ++ (0 ∷ y) → length t ≤ length s
not_longer s t x y clear h =
    elim (cases_lt (length s) (length t)) [
      | inl less ↦
          let e : length s + 0 ≡ length s = omega arith in
          let zero_there : get_or (s ++ (0 ∷ x)) (length s) 0 ≡ 0 = ap (λ n. get_or (s ++ (0 ∷ x)) n 0) (sym e) ∙ get_or-append-add s (0 ∷ x) 0 0 in
          let same : get_or t (length s) 0 ≡ 0 = sym (get_or_append_left t (0 ∷ y) 0 (length s) less) ∙ ap (λ l. get_or l (length s) 0) (sym h) ∙ zero_there in
          absurd (clear (length s) less same)
      | inr most ↦ most
    ]

pub same_text : (s t x y : List ℕ) → HasNoZero s → HasNoZero t → s ++ (0 ∷ x) ≡ t ++ (0 ∷ y) → s ≡ t
same_text s t x y p q h =
    let le = not_longer s t x y q h in
    let ge = not_longer t s y x p (sym h) in
    same_front s t (0 ∷ x) (0 ∷ y) (omega (arith, le, ge)) h

counted_once : (w : Width) → HasUniqueFronts (IsCounted w)
counted_once w v u a b x y p q h =
    let g : p.head ++ (p.body ++ x) ≡ q.head ++ (q.body ++ y) = regroup p.head p.body x q.head q.body y (ap (λ z. z ++ x) (sym p.whole) ∙ h ∙ ap (λ z. z ++ y) q.whole) in
    let heads = same_front p.head q.head (p.body ++ x) (q.body ++ y) (p.size ∙ sym q.size) g in
    let g2 : p.body ++ x ≡ q.body ++ y = append_cancel_left q.head (p.body ++ x) (q.body ++ y) (ap (λ z. z ++ (p.body ++ x)) (sym heads) ∙ g) in
    let bodies = same_front p.body q.body x y (p.count ∙ ap (number (size_of w)) heads ∙ sym q.count) g2 in
    (p.whole ∙ ap (λ z. z ++ p.body) heads ∙ ap (λ z. q.head ++ z) bodies ∙ sym q.whole, p.holds ∙ ap (λ z. Data z) bodies ∙ sym q.holds)

uleb_counted_once : (kind : Content) → HasUniqueFronts (IsUlebCounted kind)
uleb_counted_once kind v u a b x y p q h =
    let g : p.head ++ (p.body ++ x) ≡ q.head ++ (q.body ++ y) = regroup p.head p.body x q.head q.body y (ap (λ z. z ++ x) (sym p.whole) ∙ h ∙ ap (λ z. z ++ y) q.whole) in
    let heads = unique_u (length p.body) (length q.body) p.head q.head (p.body ++ x) (q.body ++ y) p.count q.count g in
    let g2 : p.body ++ x ≡ q.body ++ y = append_cancel_left q.head (p.body ++ x) (q.body ++ y) (ap (λ z. z ++ (p.body ++ x)) (sym heads.0) ∙ g) in
    let bodies = same_front p.body q.body x y heads.1 g2 in
    (p.whole ∙ ap (λ z. z ++ p.body) heads.0 ∙ ap (λ z. q.head ++ z) bodies ∙ sym q.whole, p.holds ∙ ap (of_content kind) bodies ∙ sym q.holds)

zero_ended_once : HasUniqueFronts IsZeroEnded
zero_ended_once v u a b x y p q h =
    let g : p.text ++ (0 ∷ x) ≡ q.text ++ (0 ∷ y) = regroup p.text (0 ∷ []) x q.text (0 ∷ []) y (ap (λ z. z ++ x) (sym p.whole) ∙ h ∙ ap (λ z. z ++ y) q.whole) in
    let texts = same_text p.text q.text x y p.clear q.clear g in
    (p.whole ∙ ap (λ z. z ++ 0 ∷ []) texts ∙ sym q.whole, p.holds ∙ ap (λ z. Text z) texts ∙ sym q.holds)

-- bytes of a shape end by themselves
pub shape_once : (shape : Shape) → HasUniqueFronts (SpellsShape shape)
shape_once (Constant c) v w a b x y p q h = (p.0 ∙ sym q.0, p.2 ∙ sym q.2)
shape_once Present v w a b x y p q h = (p.0 ∙ sym q.0, p.1 ∙ sym q.1)
shape_once (Number width role) v w a b x y p q h =
    let same = same_front a b x y (p.0 ∙ sym q.0) h in
    (same, p.1 ∙ ap (λ z. in_role role width (number (size_of width) z)) same ∙ sym q.1)
shape_once (ByUleb role) v w a b x y p q h =
    let one = unique_u p.0 q.0 a b x y p.1 q.1 h in
    (one.0, p.2 ∙ ap (in_role role Eight) one.1 ∙ sym q.2)
shape_once BySleb v w a b x y p q h =
    let one = unique_s p.0 q.0 a b x y p.1 q.1 h in
    (one.0, p.2 ∙ ap (λ z. Whole z) one.1 ∙ sym q.2)
shape_once (Counted width) v w a b x y p q h = counted_once width v w a b x y p q h
shape_once (UlebCounted kind) v w a b x y p q h = uleb_counted_once kind v w a b x y p q h
shape_once Sixteen v w a b x y p q h =
    let same = same_front a b x y (p.0 ∙ sym q.0) h in
    (same, p.1 ∙ ap (λ z. SixteenBytes z) same ∙ sym q.1)
shape_once ZeroEnded v w a b x y p q h = zero_ended_once v w a b x y p q h

-- values end by themselves
pub value_once : (name code : ℕ) (constant : ℤ) → HasUniqueFronts (SpellsValue name code constant)
value_once name code constant v w a b x y p q h =
    let same : p.form ≡ q.form = code_once p.form q.form (p.known ∙ sym q.known) in
    shape_once (shape_of q.form name constant) v w a b x y (subst (λ (f : Form). SpellsShape (shape_of f name constant) v a) same p.spelled) q.spelled h
