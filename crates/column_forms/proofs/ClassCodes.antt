-- The codes of forms by the classes of values (DWARF 5 section 7.5.5).
use Rattle.std.proofs.Common.{◌≡◌, ◌^◌, ◌-◌, ◌*◌, ℕ, List, [], ◌∷◌, leb, true, refl, subst, arith}
use Rattle.std.specs.Prelude.{ℤ, pos, Contains}
use Rattle.std.proofs.lemmas.Bool.{cond_both}
use Rattle.fixed_width.specs.Numbers.{number}
use Rattle.form_codec.specs.declared.form.Form.{Form}
use Rattle.form_codec.specs.declared.form.Form.TheVariants as form
use Rattle.form_codec.specs.declared.form.Role.TheVariants as role
use Rattle.form_codec.specs.declared.form.Width.{Width}
use Rattle.form_codec.specs.declared.form.Width.TheVariants.{One, Two, Four, Eight}
use Rattle.form_codec.specs.declared.value.Value.{Value}
use Rattle.form_codec.specs.Signs.{is_unsigned, constant_role}
use Rattle.form_codec.specs.Forms.{Meaning, SpellsShape, code_of, shape_of, is_written, size_of, in_role, data_of}
use Rattle.form_codec.specs.Forms.Meaning.{Address, AddressNumber, Whole, Bits, SixteenBytes, IsSet, Data, Expression, InUnit, InSection, TypeSignature, InSup, Text, StringPlace, LineStringPlace, SupStringPlace, StringNumber, SectionPlace, LocationList, RangeList}
use Rattle.form_codec.specs.Values.{meant_in}
use Rattle.form_codec.proofs.FormLaws.{in_form}
use Rattle.column_forms.specs.inside.Tallies.{CanSpell}

-- the codes of the forms of a value's class, of those that can be chosen
abbrev pub codes_of : Meaning → List ℕ
codes_of (Address n) = 1 ∷ []
codes_of (AddressNumber n) = 27 ∷ 41 ∷ 42 ∷ 43 ∷ 44 ∷ []
codes_of (Whole v) = 5 ∷ 6 ∷ 7 ∷ 11 ∷ 13 ∷ 15 ∷ 33 ∷ []
codes_of (Bits size n) = 5 ∷ 6 ∷ 7 ∷ 11 ∷ 13 ∷ 15 ∷ 33 ∷ []
codes_of (SixteenBytes bytes) = 30 ∷ []
codes_of (IsSet set) = 12 ∷ 25 ∷ []
codes_of (Data bytes) = 3 ∷ 4 ∷ 9 ∷ 10 ∷ []
codes_of (Expression bytes) = 24 ∷ []
codes_of (InUnit n) = 21 ∷ []
codes_of (InSection n) = 16 ∷ []
codes_of (TypeSignature n) = 32 ∷ []
codes_of (InSup size n) = 28 ∷ 36 ∷ []
codes_of (Text text) = 8 ∷ []
codes_of (StringPlace n) = 14 ∷ []
codes_of (LineStringPlace n) = 31 ∷ []
codes_of (SupStringPlace n) = 29 ∷ []
codes_of (StringNumber n) = 26 ∷ 37 ∷ 38 ∷ 39 ∷ 40 ∷ []
codes_of (SectionPlace n) = 23 ∷ []
codes_of (LocationList n) = 34 ∷ []
codes_of (RangeList n) = 35 ∷ []

-- the codes of the class of constants
abbrev constants : List ℕ
constants = codes_of (Whole (pos 0))

-- a number that doesn't tell its sign is a constant
data_constant : (size n code : ℕ) → Contains constants code → Contains (codes_of (data_of size n)) code
data_constant size n code is = cond_both (leb (2 ^ (8 * size - 1)) n) (Bits size n) (Whole (pos n)) (λ z. Contains (codes_of z) code) (λ _. is) (λ _. is)

-- and so is a number of data1, data2, data4 and data8, under each name
sized_constant : (name : ℕ) (w : Width) (n code : ℕ) → Contains constants code → Contains (codes_of (in_role (constant_role name) w n)) code
sized_constant name w n code is = cond_both (is_unsigned name) role.Unsigned role.Data (λ z. Contains (codes_of (in_role z w n)) code) (λ _. is) (λ _. data_constant (size_of w) n code is)

-- the code of a form that can be chosen is one of the class of what it spells
form_code : (f : Form) (name : ℕ) (c : ℤ) (m : Meaning) (bytes : List ℕ) → is_written f ≡ true → SpellsShape (shape_of f name c) m bytes → Contains (codes_of m) (code_of f)
form_code form.Addr name c m bytes w p = rw p.1 (0, omega arith, refl)
form_code form.Block2 name c m bytes w p = rw p.holds (0, omega arith, refl)
form_code form.Block4 name c m bytes w p = rw p.holds (1, omega arith, refl)
form_code form.Data2 name c m bytes w p = rw p.1 (sized_constant name Two (number (size_of Two) bytes) 5 (0, omega arith, refl))
form_code form.Data4 name c m bytes w p = rw p.1 (sized_constant name Four (number (size_of Four) bytes) 6 (1, omega arith, refl))
form_code form.Data8 name c m bytes w p = rw p.1 (sized_constant name Eight (number (size_of Eight) bytes) 7 (2, omega arith, refl))
form_code form.String name c m bytes w p = rw p.holds (0, omega arith, refl)
form_code form.Block name c m bytes w p = rw p.holds (2, omega arith, refl)
form_code form.Block1 name c m bytes w p = rw p.holds (3, omega arith, refl)
form_code form.Data1 name c m bytes w p = rw p.1 (sized_constant name One (number (size_of One) bytes) 11 (3, omega arith, refl))
form_code form.Flag name c m bytes w p = rw p.1 (0, omega arith, refl)
form_code form.Sdata name c m bytes w p = rw p.2 (4, omega arith, refl)
form_code form.Strp name c m bytes w p = rw p.1 (0, omega arith, refl)
form_code form.Udata name c m bytes w p = rw p.2 (5, omega arith, refl)
form_code form.RefAddr name c m bytes w p = rw p.1 (0, omega arith, refl)
form_code form.RefUdata name c m bytes w p = rw p.2 (0, omega arith, refl)
form_code form.SecOffset name c m bytes w p = rw p.1 (0, omega arith, refl)
form_code form.Exprloc name c m bytes w p = rw p.holds (0, omega arith, refl)
form_code form.FlagPresent name c m bytes w p = rw p.1 (1, omega arith, refl)
form_code form.Strx name c m bytes w p = rw p.2 (0, omega arith, refl)
form_code form.Addrx name c m bytes w p = rw p.2 (0, omega arith, refl)
form_code form.RefSup4 name c m bytes w p = rw p.1 (0, omega arith, refl)
form_code form.StrpSup name c m bytes w p = rw p.1 (0, omega arith, refl)
form_code form.Data16 name c m bytes w p = rw p.1 (0, omega arith, refl)
form_code form.LineStrp name c m bytes w p = rw p.1 (0, omega arith, refl)
form_code form.RefSig8 name c m bytes w p = rw p.1 (0, omega arith, refl)
form_code form.ImplicitConst name c m bytes w p = rw p.2 (6, omega arith, refl)
form_code form.Loclistx name c m bytes w p = rw p.2 (0, omega arith, refl)
form_code form.Rnglistx name c m bytes w p = rw p.2 (0, omega arith, refl)
form_code form.RefSup8 name c m bytes w p = rw p.1 (1, omega arith, refl)
form_code form.Strx1 name c m bytes w p = rw p.1 (1, omega arith, refl)
form_code form.Strx2 name c m bytes w p = rw p.1 (2, omega arith, refl)
form_code form.Strx3 name c m bytes w p = rw p.1 (3, omega arith, refl)
form_code form.Strx4 name c m bytes w p = rw p.1 (4, omega arith, refl)
form_code form.Addrx1 name c m bytes w p = rw p.1 (1, omega arith, refl)
form_code form.Addrx2 name c m bytes w p = rw p.1 (2, omega arith, refl)
form_code form.Addrx3 name c m bytes w p = rw p.1 (3, omega arith, refl)
form_code form.Addrx4 name c m bytes w p = rw p.1 (4, omega arith, refl)
form_code f name c m bytes w p = absurd (cc (w))

-- a form that can be chosen and spells a value has a code of the value's class
pub class_codes : {v known : Value} → v ≡ known → (section : List ℕ) (name code : ℕ) (constant : ℤ) → CanSpell name code constant (meant_in section v) → Contains (codes_of (meant_in section known)) code
class_codes {v} {known} is section name code constant s =
    let (f, same, written) = s.choice in
    let spelled : SpellsShape (shape_of f name constant) (meant_in section v) s.bytes = in_form name code f constant (meant_in section v) s.bytes same s.spelled in
    let among : Contains (codes_of (meant_in section v)) code = subst (λ (z : ℕ). Contains (codes_of (meant_in section v)) z) same (form_code f name constant (meant_in section v) s.bytes written spelled) in
    subst (λ (z : Value). Contains (codes_of (meant_in section z)) code) is among
