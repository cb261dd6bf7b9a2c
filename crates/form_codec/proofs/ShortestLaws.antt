-- The shortest bytes of a shape that spell a value.
use Rattle.std.proofs.Common.{◌≡◌, ◌≤◌, ◌<◌, ◌^◌, ℕ, List, length, leb, ◌∙◌, sym, ap, subst, arith, inl, inr}
use Rattle.std.proofs.lemmas.Bool.{cases_Bool}
use Rattle.std.specs.Prelude.{ℤ, FitsSigned, slice_index}
use Rattle.std.specs.Int.{w64}
use Rattle.spelled.specs.Spelled.{AreBytes}
use Rattle.form_codec.specs.declared.form.Form.{Form}
use Rattle.form_codec.specs.declared.form.Role.{Role}
use Rattle.form_codec.specs.declared.form.Role.TheVariants as role
use Rattle.form_codec.specs.declared.form.Shape.{Shape}
use Rattle.form_codec.specs.declared.form.Shape.TheVariants.{Number}
use Rattle.form_codec.specs.declared.form.Width.{Width}
use Rattle.form_codec.specs.declared.form.Width.TheVariants.{One, Two, Three, Four, Eight}
use Rattle.form_codec.specs.declared.value.Value.{Value}
use Rattle.form_codec.specs.declared.encoding.Encoding.{Encoding}
use Rattle.fixed_width.specs.Numbers.{number}
use Rattle.form_codec.specs.Forms.{Meaning, SpellsShape, SpellsShortest, Admits, code_of, shape_of, size_of}
use Rattle.form_codec.specs.Forms.Meaning.{Whole, IsSet}
use Rattle.form_codec.specs.Values.{meant_in, IsValueIn}
use Rattle.form_codec.specs.Written.{low_bytes}
use Rattle.form_codec.specs.inside.Written.{Encodes, SpanLies, IsEncoding, IsShortestShape, HasShortest}
use Rattle.form_codec.proofs.FormLaws.{encodes_some, spelled_by, flag_shape, in_form}
use Rattle.form_codec.proofs.WriteLaws.{low_len, low_small, number_low, one_byte}

-- 0 and 1 fit each width
one_fits : (w : Width) (n : ℕ) → n ≤ 1 → n < 256 ^ size_of w
one_fits One n few = omega arith
one_fits Two n few = omega arith
one_fits Three n few = omega arith
one_fits Four n few = omega arith
one_fits Eight n few = omega arith

-- 0 or 1 in the bytes of its width is the shortest spelling of a flag
flag_shortest : (w : Width) (n : ℕ) (meaning : Meaning) → n ≤ 1 → meaning ≡ IsSet (leb 1 n) → IsShortestShape (Number w role.Truth) meaning (low_bytes w n)
flag_shortest w n meaning few means = record {
  small = low_small 0 (size_of w) n;
  spells = (low_len w n, means ∙ ap (λ z. IsSet (leb 1 z)) (sym (number_low w n (one_fits w n few))));
  shortest = λ others s. omega (arith, low_len w n, s.0);
  flag = λ is k lt.
      let one : w ≡ One = cc (is) in
      subst (λ (z : Width). slice_index (low_bytes z n) k ≤ 1) (sym one) (one_byte n k few);
}

-- all spellings of a number of fixed size have as many bytes, so but for a flag each is the shortest
number_plain : (w : Width) (r : Role) (meaning : Meaning) (bytes : List ℕ) → (Number w r ≡ Number One role.Truth → ⊥) → AreBytes bytes → SpellsShape (Number w r) meaning bytes → IsShortestShape (Number w r) meaning bytes
number_plain w r meaning bytes other small p = record {
  small = small;
  spells = p;
  shortest = λ others s. omega (arith, p.0, s.0);
  flag = λ is. absurd (other is);
}

-- where a number of fixed size spells the value, the shortest spelling has as many bytes as the width
pub number_shortest : (w : Width) (r : Role) (meaning : Meaning) (bytes : List ℕ) (size : ℕ) → AreBytes bytes → SpellsShape (Number w r) meaning bytes → size ≡ size_of w → HasShortest (Number w r) meaning size
number_shortest w role.Truth meaning bytes size small p e =
    elim (cases_Bool (leb 1 (number (size_of w) bytes))) [
      | inl set ↦ (low_bytes w 1, flag_shortest w 1 meaning (omega arith) (p.1 ∙ ap (λ b. IsSet b) set), e ∙ sym (low_len w 1))
      | inr clear ↦ (low_bytes w 0, flag_shortest w 0 meaning (omega arith) (p.1 ∙ ap (λ b. IsSet b) clear), e ∙ sym (low_len w 0))
    ]
number_shortest w r meaning bytes size small p e = (bytes, number_plain w r meaning bytes (λ is. absurd (cc (is))) small p, e ∙ sym p.0)

-- what is written of a value is the shortest that spells it
pub encoding_shortest : (shape : Shape) (v : Value) (e : Encoding) (section : List ℕ) (size : ℕ) → IsEncoding shape v e → IsValueIn section v → ((bytes : List ℕ) → SpanLies (length section) e → Encodes section e bytes → size ≡ length bytes) → HasShortest shape (meant_in section v) size
encoding_shortest shape v e section size enc i sized =
    let b = encodes_some section e in
    let written : IsShortestShape shape (meant_in section v) b.0 = record {
      small = enc.small section b.0 i b.1;
      spells = enc.spells section b.0 i b.1;
      shortest = λ others s. enc.shortest section b.0 others i b.1 s;
      flag = λ is k lt. enc.flag section b.0 i b.1 is k lt;
    }
    in
    (b.0, written, sized b.0 (enc.lies section i) b.1)

-- a value that a form admits is spelled in the form's shape, with the value's own constant
pub admitted_shape : (name code : ℕ) (f : Form) (c : ℤ) (meaning : Meaning) → code_of f ≡ code → ((v : ℤ) → FitsSigned w64 v → meaning ≡ Whole v → v ≡ c) → (a : Admits name code meaning) → SpellsShape (shape_of f name c) meaning a.bytes
admitted_shape name code f c meaning known same a = spelled_by name f a.constant c meaning a.bytes same (in_form name code f a.constant meaning a.bytes known a.spelled)

-- the shortest spelling in the form's shape is the shortest in the form
pub form_shortest : (name code : ℕ) (f : Form) (c : ℤ) (meaning : Meaning) (size : ℕ) → code_of f ≡ code → ((v : ℤ) → FitsSigned w64 v → meaning ≡ Whole v → v ≡ c) → HasShortest (shape_of f name c) meaning size → (written : List ℕ) × SpellsShortest name code meaning written × (size ≡ length written)
form_shortest name code f c meaning size known same h =
    let short = h.1 in
    let written : SpellsShortest name code meaning h.0 = record {
      constant = c;
      spelled = record { form = f; known = known; small = short.small; spelled = short.spells };
      shortest = λ other others s.
          short.shortest others (spelled_by name f other c meaning others same (in_form name code f other meaning others known s));
      flag = λ is k lt. short.flag (flag_shape name code f c known is) k lt;
    }
    in
    (h.0, written, h.2)
