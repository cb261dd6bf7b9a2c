-- The forms in which references, section offsets and expressions can be written: one for each.
use Rattle.std.proofs.Common.{◌≡◌, ◌-◌, ◌*◌, ◌^◌, ℕ, List, true, leb, sym, refl, subst}
use Rattle.std.specs.Prelude.{ℤ, pos}
use Rattle.std.proofs.lemmas.Bool.{cond_both}
use Rattle.form_codec.specs.declared.form.Form.{Form}
use Rattle.form_codec.specs.declared.form.Form.TheVariants.{Data1, Data2, Data4, Data8, Ref1, Ref2, Ref4, Ref8, RefUdata, RefAddr, SecOffset, Exprloc}
use Rattle.form_codec.specs.declared.form.Content.TheVariants as content
use Rattle.form_codec.specs.declared.form.Role.{Role}
use Rattle.form_codec.specs.declared.form.Role.TheVariants as role
use Rattle.form_codec.specs.declared.form.Shape.{Shape}
use Rattle.form_codec.specs.declared.form.Shape.TheVariants.{Constant, Present, Number, Uleb as ByUleb, Sleb as BySleb, Counted, UlebCounted, Sixteen, ZeroEnded}
use Rattle.form_codec.specs.declared.form.Width.{Width}
use Rattle.form_codec.specs.declared.form.Width.TheVariants.{One, Two, Four, Eight}
use Rattle.form_codec.specs.Signs.{is_unsigned, constant_role}
use Rattle.form_codec.specs.Forms.{Meaning, SpellsShape, SpellsValue, code_of, shape_of, size_of, data_of, in_role, is_written}
use Rattle.form_codec.specs.Forms.Meaning.{Bits, Whole}
use Rattle.form_codec.specs.Columns.{IsChoice}
use Rattle.form_codec.proofs.FormLaws.{in_form}
use Rattle.written_files.specs.inside.Counterparts.{HasWrittenForm}

-- SHAPES OF ALL OTHER VALUES

abbrev IsPlainRole : Role → Type 0
IsPlainRole role.LocalRef = ⊥
IsPlainRole role.SectionRef = ⊥
IsPlainRole role.Offset = ⊥
IsPlainRole r = Unit {0}

abbrev IsPlainShape : Shape → Type 0
IsPlainShape (Number width r) = IsPlainRole r
IsPlainShape (ByUleb r) = IsPlainRole r
IsPlainShape (UlebCounted content.Expression) = ⊥
IsPlainShape shape = Unit {0}

plain_data : (size n code : ℕ) → HasWrittenForm (data_of size n) code
plain_data size n code = cond_both (leb (2 ^ (8 * size - 1)) n) (Bits size n) (Whole (pos n)) (λ (m : Meaning). HasWrittenForm m code) (λ _. tt) (λ _. tt)

plain_role : (r : Role) (width : Width) (n code : ℕ) → IsPlainRole r → HasWrittenForm (in_role r width n) code
plain_role role.LocalRef width n code plain = absurd plain
plain_role role.SectionRef width n code plain = absurd plain
plain_role role.Offset width n code plain = absurd plain
plain_role role.Data width n code plain = plain_data (size_of width) n code
plain_role r width n code plain = tt

of_role : (r : Role) (width : Width) (n : ℕ) (meaning : Meaning) (code : ℕ) → IsPlainRole r → meaning ≡ in_role r width n → HasWrittenForm meaning code
of_role r width n meaning code plain is = subst (λ (m : Meaning). HasWrittenForm m code) (sym is) (plain_role r width n code plain)

plain_shape : (shape : Shape) (meaning : Meaning) (bytes : List ℕ) (code : ℕ) → IsPlainShape shape → SpellsShape shape meaning bytes → HasWrittenForm meaning code
plain_shape (Constant v) meaning bytes code plain s = subst (λ (m : Meaning). HasWrittenForm m code) (sym s.2) tt
plain_shape Present meaning bytes code plain s = subst (λ (m : Meaning). HasWrittenForm m code) (sym s.1) tt
plain_shape (Number width r) meaning bytes code plain s = of_role r width _ meaning code plain s.1
plain_shape (ByUleb r) meaning bytes code plain s = of_role r Eight s.0 meaning code plain s.2
plain_shape BySleb meaning bytes code plain s = subst (λ (m : Meaning). HasWrittenForm m code) (sym s.2) tt
plain_shape (Counted width) meaning bytes code plain s = subst (λ (m : Meaning). HasWrittenForm m code) (sym s.holds) tt
plain_shape (UlebCounted content.Data) meaning bytes code plain s = subst (λ (m : Meaning). HasWrittenForm m code) (sym s.holds) tt
plain_shape (UlebCounted content.Expression) meaning bytes code plain s = absurd plain
plain_shape Sixteen meaning bytes code plain s = subst (λ (m : Meaning). HasWrittenForm m code) (sym s.1) tt
plain_shape ZeroEnded meaning bytes code plain s = subst (λ (m : Meaning). HasWrittenForm m code) (sym s.holds) tt

-- a constant of fixed size has a plain role under each name
of_constant : (name : ℕ) (width : Width) (n : ℕ) (meaning : Meaning) (code : ℕ) → meaning ≡ in_role (constant_role name) width n → HasWrittenForm meaning code
of_constant name width n meaning code is = of_role (constant_role name) width n meaning code (cond_both (is_unsigned name) role.Unsigned role.Data IsPlainRole (λ _. tt) (λ _. tt)) is

-- ALL FORMS

form_written : (form : Form) (name : ℕ) (constant : ℤ) (meaning : Meaning) (bytes : List ℕ) → is_written form ≡ true → SpellsShape (shape_of form name constant) meaning bytes → HasWrittenForm meaning (code_of form)
form_written Ref1 name constant meaning bytes written s = absurd (cc written)
form_written Ref2 name constant meaning bytes written s = absurd (cc written)
form_written Ref4 name constant meaning bytes written s = absurd (cc written)
form_written Ref8 name constant meaning bytes written s = absurd (cc written)
form_written RefUdata name constant meaning bytes written s = subst (λ (m : Meaning). HasWrittenForm m (code_of RefUdata)) (sym s.2) refl
form_written RefAddr name constant meaning bytes written s = subst (λ (m : Meaning). HasWrittenForm m (code_of RefAddr)) (sym s.1) refl
form_written SecOffset name constant meaning bytes written s = subst (λ (m : Meaning). HasWrittenForm m (code_of SecOffset)) (sym s.1) refl
form_written Exprloc name constant meaning bytes written s = subst (λ (m : Meaning). HasWrittenForm m (code_of Exprloc)) (sym s.holds) refl
form_written Data1 name constant meaning bytes written s = of_constant name One _ meaning (code_of Data1) s.1
form_written Data2 name constant meaning bytes written s = of_constant name Two _ meaning (code_of Data2) s.1
form_written Data4 name constant meaning bytes written s = of_constant name Four _ meaning (code_of Data4) s.1
form_written Data8 name constant meaning bytes written s = of_constant name Eight _ meaning (code_of Data8) s.1
form_written form name constant meaning bytes written s = plain_shape (shape_of form name constant) meaning bytes (code_of form) tt s

-- A form that may be chosen and spells a reference, a section offset or an expression is the one that is written for it.
pub written_form : (name code : ℕ) (constant : ℤ) (meaning : Meaning) (bytes : List ℕ) → IsChoice code → SpellsValue name code constant meaning bytes → HasWrittenForm meaning code
written_form name code constant meaning bytes (form, known, written) s =
    subst (λ (z : ℕ). HasWrittenForm meaning z) known (form_written form name constant meaning bytes written (in_form name code form constant meaning bytes known s))
