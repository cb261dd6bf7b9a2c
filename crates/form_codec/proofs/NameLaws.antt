-- Forms under different names.
use Rattle.std.proofs.Common.{◌≡◌, ℕ, List, length, ◌∙◌, sym, ap, refl, subst, arith, inl, inr}
use Rattle.std.proofs.lemmas.Bool.{cases_Bool}
use Rattle.std.specs.Prelude.{ℤ, ◌⊎◌, if◌then◌else◌}
use Rattle.form_codec.specs.declared.form.Form.{Form}
use Rattle.form_codec.specs.declared.form.Form.TheVariants as form
use Rattle.form_codec.specs.declared.form.Role.TheVariants as role
use Rattle.form_codec.specs.declared.form.Shape.{Shape}
use Rattle.form_codec.specs.declared.form.Shape.TheVariants.{Number}
use Rattle.form_codec.specs.declared.form.Width.{Width}
use Rattle.form_codec.specs.declared.form.Width.TheVariants.{One, Two, Four, Eight}
use Rattle.form_codec.specs.declared.value.Value.{Value}
use Rattle.form_codec.specs.Signs.{is_unsigned, constant_role}
use Rattle.form_codec.specs.Forms.{Meaning, SpellsShape, SpellsValue, SpellsShortest, code_of, shape_of, size_of}
use Rattle.form_codec.specs.inside.Written.{HasNoCode}
use Rattle.form_codec.proofs.Codes.{code_once}
use Rattle.form_codec.proofs.FormLaws.{in_form}

-- a constant of fixed size is what it is under 0, which is no attribute's name, or what it is under 11, the name DW_AT_byte_size
role_of : (name : ℕ) → (constant_role name ≡ constant_role 0) ⊎ (constant_role name ≡ constant_role 11)
role_of name = elim (cases_Bool (is_unsigned name)) [
  | inl is ↦ inr (ap (λ b. if b then role.Unsigned else role.Data) is)
  | inr is ↦ inl (ap (λ b. if b then role.Unsigned else role.Data) is)
]

-- of a form's shape the name tells the role of a constant of fixed size alone
shape_by_role : (f : Form) (n m : ℕ) (c : ℤ) → constant_role n ≡ constant_role m → shape_of f n c ≡ shape_of f m c
shape_by_role form.Data1 n m c same = ap (λ r. Number One r) same
shape_by_role form.Data2 n m c same = ap (λ r. Number Two r) same
shape_by_role form.Data4 n m c same = ap (λ r. Number Four r) same
shape_by_role form.Data8 n m c same = ap (λ r. Number Eight r) same
shape_by_role f n m c same = refl

-- a spelling under one name, under another that gives the form the same shape
renamed : (n m code : ℕ) (f : Form) (c : ℤ) (meaning : Meaning) (bytes : List ℕ) → code_of f ≡ code → shape_of f n c ≡ shape_of f m c → SpellsValue n code c meaning bytes → SpellsValue m code c meaning bytes
renamed n m code f c meaning bytes known same s = record {
  form = f;
  known = known;
  small = s.small;
  spelled = subst (λ (z : Shape). SpellsShape z meaning bytes) same (in_form n code f c meaning bytes known s);
}

-- what is spelled under no name where a constant has a sign, and under none where it has not, is spelled under none
pub never_spelled : (code : ℕ) (v : Value) → HasNoCode 0 code v → HasNoCode 11 code v → (name : ℕ) → HasNoCode name code v
never_spelled code v none none_unsigned name section bytes c i s = elim (role_of name) [
  | inl same ↦ none section bytes c i (renamed name 0 code s.form c _ bytes s.known (shape_by_role s.form name 0 c same) s)
  | inr same ↦ none_unsigned section bytes c i (renamed name 11 code s.form c _ bytes s.known (shape_by_role s.form name 11 c same) s)
]

-- the form is data1, data2, data4 or data8
record IsData (f : Form) : Type 0 where
  width : Width
  shape : (name : ℕ) (c : ℤ) → shape_of f name c ≡ Number width (constant_role name)
  other : f ≡ form.Flag → ⊥

-- under each name these have the bytes of their width, and another form has one shape
sized : (f : Form) → IsData f ⊎ ((n m : ℕ) (c : ℤ) → shape_of f n c ≡ shape_of f m c)
sized form.Data1 = inl (record { width = One; shape = λ name c. refl; other = λ e. absurd (cc (e)) })
sized form.Data2 = inl (record { width = Two; shape = λ name c. refl; other = λ e. absurd (cc (e)) })
sized form.Data4 = inl (record { width = Four; shape = λ name c. refl; other = λ e. absurd (cc (e)) })
sized form.Data8 = inl (record { width = Eight; shape = λ name c. refl; other = λ e. absurd (cc (e)) })
sized f = inr (λ n m c. refl)

data_len : (f : Form) → (d : IsData f) → (name code : ℕ) (c : ℤ) (meaning : Meaning) (bytes : List ℕ) → code_of f ≡ code → SpellsValue name code c meaning bytes → length bytes ≡ size_of d.width
data_len f d name code c meaning bytes known s =
    let p = subst (λ (z : Shape). SpellsShape z meaning bytes) (d.shape name c) (in_form name code f c meaning bytes known s) in
    p.0

-- the shortest spellings of a value have as many bytes under each name under which it has any
pub one_size : (n m code : ℕ) (meaning : Meaning) (a b : List ℕ) (c : ℤ) → SpellsShortest n code meaning a → SpellsValue m code c meaning b → (written : List ℕ) × SpellsShortest m code meaning written × (length a ≡ length written)
one_size n m code meaning a b c s p =
    let f = p.form in
    elim (sized p.form) [
      | inl d ↦
          let len = data_len f d m code c meaning b p.known p in
          let written : SpellsShortest m code meaning b = record {
            constant = c;
            spelled = p;
            shortest = λ other others q. omega (arith, len, data_len f d m code other meaning others p.known q);
            flag = λ is. absurd (d.other (code_once f form.Flag (p.known ∙ is)));
          }
          in
          (b, written, data_len f d n code s.constant meaning a p.known s.spelled ∙ sym len)
      | inr same ↦
          let written : SpellsShortest m code meaning a = record {
            constant = s.constant;
            spelled = renamed n m code f s.constant meaning a p.known (same n m s.constant) s.spelled;
            shortest = λ other others q. s.shortest other others (renamed m n code f other meaning others p.known (same m n other) q);
            flag = s.flag;
          }
          in
          (a, written, refl)
    ]
