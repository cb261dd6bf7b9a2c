-- How the bytes of a value are written in the shape of a form.
-- Inner functions and proofs alone need what stands here.
use Rattle.std.specs.Prelude.{◌≡◌, ◌≤◌, ◌<◌, ◌+◌, ℕ, ℤ, pos, List, [], ◌∷◌, ◌++◌, length, slice_index, if◌then◌else◌}
use Rattle.spelled.specs.Spelled.{AreBytes}
use Rattle.leb_codec.specs.Leb.{ShortestUnsigned, ShortestSigned}
use Rattle.form_codec.specs.declared.form.Form.{Form}
use Rattle.form_codec.specs.declared.form.Shape.{Shape}
use Rattle.form_codec.specs.declared.form.Shape.TheVariants.{Number}
use Rattle.form_codec.specs.declared.form.Role.{Role}
use Rattle.form_codec.specs.declared.form.Role.TheVariants as role
use Rattle.form_codec.specs.declared.form.Width.{Width}
use Rattle.form_codec.specs.declared.form.Width.TheVariants.{One}
use Rattle.form_codec.specs.declared.value.Value.{Value}
use Rattle.form_codec.specs.declared.encoding.Encoding.{Encoding}
use Rattle.form_codec.specs.declared.encoding.Encoding.TheVariants.{Nothing, Fixed, Uleb, Sleb, Counted, UlebCounted, Bytes, Text}
use Rattle.form_codec.specs.Forms.{Meaning, SpellsShape, SpellsValue, code_of, shape_of, in_role}
use Rattle.form_codec.specs.Forms.Meaning.{Address, AddressNumber, Whole, Bits, IsSet, InUnit, InSection, TypeSignature, InSup, StringPlace, LineStringPlace, SupStringPlace, StringNumber, SectionPlace, LocationList, RangeList}
use Rattle.form_codec.specs.Values.{meant_in, bytes_in, IsValueIn}
use Rattle.form_codec.specs.Written.{low_bytes}

-- what is written, with spans of the section
abbrev pub Encodes : List ℕ → Encoding → List ℕ → Type 0
Encodes section Nothing bytes = bytes ≡ []
Encodes section (Fixed width n) bytes = bytes ≡ low_bytes width n
Encodes section (Uleb n) bytes = ShortestUnsigned n bytes
Encodes section (Sleb v) bytes = ShortestSigned v bytes
Encodes section (Counted width span) bytes = bytes ≡ low_bytes width span.len ++ bytes_in section span
Encodes section (UlebCounted span) bytes = (head : List ℕ) × ShortestUnsigned span.len head × (bytes ≡ head ++ bytes_in section span)
Encodes section (Bytes span) bytes = bytes ≡ bytes_in section span
Encodes section (Text span) bytes = bytes ≡ bytes_in section span ++ 0 ∷ []

-- what is written lies in so many bytes
abbrev pub SpanLies : ℕ → Encoding → Type 0
SpanLies size (Counted width span) = span.at + span.len ≤ size
SpanLies size (UlebCounted span) = span.at + span.len ≤ size
SpanLies size (Bytes span) = span.at + span.len ≤ size
SpanLies size (Text span) = span.at + span.len ≤ size
SpanLies size encoding = Unit {0}

-- the number in a value
abbrev pub HasNumber : Meaning → ℕ → Type 0
HasNumber (Address n) m = n ≡ m
HasNumber (AddressNumber n) m = n ≡ m
HasNumber (Whole v) m = v ≡ pos m
HasNumber (Bits size n) m = n ≡ m
HasNumber (IsSet set) m = (if set then 1 else 0) ≡ m
HasNumber (InUnit n) m = n ≡ m
HasNumber (InSection n) m = n ≡ m
HasNumber (TypeSignature n) m = n ≡ m
HasNumber (InSup size n) m = n ≡ m
HasNumber (StringPlace n) m = n ≡ m
HasNumber (LineStringPlace n) m = n ≡ m
HasNumber (SupStringPlace n) m = n ≡ m
HasNumber (StringNumber n) m = n ≡ m
HasNumber (SectionPlace n) m = n ≡ m
HasNumber (LocationList n) m = n ≡ m
HasNumber (RangeList n) m = n ≡ m
HasNumber meaning m = ⊥

-- the number in a value is this one
abbrev pub IsNumbered : Value → ℕ → Type 0
IsNumbered value n = (section : List ℕ) → HasNumber (meant_in section value) n

-- the value is what a number means in a role
abbrev pub IsInRole : Role → Width → Value → ℕ → Type 0
IsInRole role width value n = (section : List ℕ) → meant_in section value ≡ in_role role width n

-- what is written spells the value, and nothing shorter does
pub record IsEncoding (shape : Shape) (value : Value) (encoding : Encoding) : Type 0 where
  pub lies : (section : List ℕ) → IsValueIn section value → SpanLies (length section) encoding
  pub small : (section bytes : List ℕ) → IsValueIn section value → Encodes section encoding bytes → AreBytes bytes
  pub spells : (section bytes : List ℕ) → IsValueIn section value → Encodes section encoding bytes → SpellsShape shape (meant_in section value) bytes
  pub shortest : (section bytes others : List ℕ) → IsValueIn section value → Encodes section encoding bytes → SpellsShape shape (meant_in section value) others → length bytes ≤ length others
  pub flag : (section bytes : List ℕ) → IsValueIn section value → Encodes section encoding bytes → shape ≡ Number One role.Truth → (k : ℕ) → k < length bytes → slice_index bytes k ≤ 1

-- the shortest bytes of the shape that spell the value; a flag is 0 or 1
pub record IsShortestShape (shape : Shape) (meaning : Meaning) (bytes : List ℕ) : Type 0 where
  pub small : AreBytes bytes
  pub spells : SpellsShape shape meaning bytes
  pub shortest : (others : List ℕ) → SpellsShape shape meaning others → length bytes ≤ length others
  pub flag : shape ≡ Number One role.Truth → (k : ℕ) → k < length bytes → slice_index bytes k ≤ 1

-- so many bytes of the shape are the fewest that spell the value
abbrev pub HasShortest : Shape → Meaning → ℕ → Type 0
HasShortest shape meaning size = (written : List ℕ) × IsShortestShape shape meaning written × (size ≡ length written)

-- under this name no bytes of the form spell the value, whatever the constant
abbrev pub HasNoForm : ℕ → Form → Value → Type 0
HasNoForm name form value = (section bytes : List ℕ) (constant : ℤ) → IsValueIn section value → AreBytes bytes → SpellsShape (shape_of form name constant) (meant_in section value) bytes → ⊥

-- what is written spells the value in the form, and nothing shorter does, whatever the constant
pub record IsFormEncoding (name : ℕ) (form : Form) (value : Value) (encoding : Encoding) : Type 0 where
  pub constant : ℤ
  pub shape : IsEncoding (shape_of form name constant) value encoding
  pub shortest : (section bytes others : List ℕ) (other : ℤ) → IsValueIn section value → Encodes section encoding bytes → SpellsShape (shape_of form name other) (meant_in section value) others → length bytes ≤ length others

-- no bytes of the form with this code spell the value
abbrev pub HasNoCode : ℕ → ℕ → Value → Type 0
HasNoCode name code value = (section bytes : List ℕ) (constant : ℤ) → IsValueIn section value → SpellsValue name code constant (meant_in section value) bytes → ⊥

-- what is written spells the value in the form with this code, and nothing shorter does
pub record IsCodeEncoding (name code : ℕ) (value : Value) (written : Encoding) : Type 0 where
  pub form : Form
  pub known : code_of form ≡ code
  pub encoding : IsFormEncoding name form value written
