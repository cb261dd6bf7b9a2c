-- Values with spans, which count from the first byte of their section.
use Rattle.std.specs.Prelude.{◌≡◌, ◌≤◌, ◌+◌, ◌-◌, ℕ, ℤ, List, length, take, drop}
use Rattle.dw_base.specs.declared.fault.Span.{Span}
use Rattle.spelled.specs.Spelled.{AreBytes}
use Rattle.form_codec.specs.declared.value.Value.{Value}
use Rattle.form_codec.specs.declared.value.Value.TheVariants as value
use Rattle.form_codec.specs.declared.value.ReadValue.{ReadValue}
use Rattle.form_codec.specs.Forms.{Meaning, SpellsValue, HasNoZero}
use Rattle.form_codec.specs.Forms.Meaning.{Address, AddressNumber, Whole, Bits, SixteenBytes, IsSet, Data, Expression, InUnit, InSection, TypeSignature, InSup, Text, StringPlace, LineStringPlace, SupStringPlace, StringNumber, SectionPlace, LocationList, RangeList}

-- the bytes of a span
abbrev pub bytes_in : List ℕ → Span → List ℕ
bytes_in bytes span = take span.len (drop span.at bytes)

-- what a value means, in the bytes of its section
abbrev pub meant_in : List ℕ → Value → Meaning
meant_in bytes (value.Addr n) = Address n
meant_in bytes (value.AddrIndex n) = AddressNumber n
meant_in bytes (value.Int v) = Whole v
meant_in bytes (value.Fixed size n) = Bits size n
meant_in bytes (value.Wide16 span) = SixteenBytes (bytes_in bytes span)
meant_in bytes (value.Flag set) = IsSet set
meant_in bytes (value.Block span) = Data (bytes_in bytes span)
meant_in bytes (value.Expr span) = Expression (bytes_in bytes span)
meant_in bytes (value.LocalRef n) = InUnit n
meant_in bytes (value.SectionRef n) = InSection n
meant_in bytes (value.Signature n) = TypeSignature n
meant_in bytes (value.SupRef size n) = InSup size n
meant_in bytes (value.Text span) = Text (bytes_in bytes span)
meant_in bytes (value.StrOffset n) = StringPlace n
meant_in bytes (value.LineStrOffset n) = LineStringPlace n
meant_in bytes (value.SupStr n) = SupStringPlace n
meant_in bytes (value.StrIndex n) = StringNumber n
meant_in bytes (value.Offset n) = SectionPlace n
meant_in bytes (value.LocIndex n) = LocationList n
meant_in bytes (value.RangeIndex n) = RangeList n

-- where a value's span lies in what was read: a block ends with the value, a text ends before its zero byte
abbrev pub IsPlaced : Value → ℕ → ℕ → Type 0
IsPlaced (value.Wide16 span) at end = span.at + span.len ≡ end
IsPlaced (value.Block span) at end = span.at + span.len ≡ end
IsPlaced (value.Expr span) at end = span.at + span.len ≡ end
IsPlaced (value.Text span) at end = (span.at ≡ at) × (span.at + span.len + 1 ≡ end)
IsPlaced value at end = Unit {0}

-- a value's span lies in so many bytes
abbrev pub LiesIn : ℕ → Value → Type 0
LiesIn size (value.Wide16 span) = span.at + span.len ≤ size
LiesIn size (value.Block span) = span.at + span.len ≤ size
LiesIn size (value.Expr span) = span.at + span.len ≤ size
LiesIn size (value.Text span) = span.at + span.len ≤ size
LiesIn size value = Unit {0}

-- the bytes that a span of text lends have no zero byte
abbrev pub IsClear : List ℕ → Value → Type 0
IsClear bytes (value.Text span) = HasNoZero (bytes_in bytes span)
IsClear bytes value = Unit {0}

-- a value of a section
pub record IsValueIn (bytes : List ℕ) (v : Value) : Type 0 where
  pub small : AreBytes bytes
  pub inside : LiesIn (length bytes) v
  pub clear : IsClear bytes v

-- what was read is what the bytes from a place up to the answered end spell
pub record IsReadValue (name code : ℕ) (constant : ℤ) (section : List ℕ) (at end : ℕ) (r : ReadValue) : Type 0 where
  pub starts : at ≤ r.end
  pub inside : r.end ≤ end
  pub spelled : SpellsValue name code constant (meant_in section r.value) (take (r.end - at) (drop at section))
  pub placed : IsPlaced r.value at r.end
