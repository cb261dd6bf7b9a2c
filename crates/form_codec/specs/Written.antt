-- How the bytes of a value are written in the shape of a form.
use Rattle.std.specs.Prelude.{◌≡◌, ◌≤◌, ◌<◌, ◌^◌, ℕ, List, length, FitsSigned}
use Rattle.std.specs.Int.{w64, bytes_low_first}
use Rattle.spelled.specs.Spelled.{AreBytes}
use Rattle.form_codec.specs.declared.form.Shape.{Shape}
use Rattle.form_codec.specs.declared.form.Shape.TheVariants.{Constant}
use Rattle.form_codec.specs.declared.form.Width.{Width}
use Rattle.form_codec.specs.declared.value.Value.{Value}
use Rattle.form_codec.specs.Forms.{SpellsShape, size_of, counted}
use Rattle.form_codec.specs.Values.{meant_in, IsValueIn}

-- the bytes of a number, the lowest first
abbrev pub low_bytes : Width → ℕ → List ℕ
low_bytes width n = bytes_low_first 0 (size_of width) n

-- no bytes of the shape spell the value
abbrev pub HasNoEncoding : Shape → Value → Type 0
HasNoEncoding shape value = (section bytes : List ℕ) → IsValueIn section value → AreBytes bytes → SpellsShape shape (meant_in section value) bytes → ⊥

-- so many bytes of the value count in the shape, and of no bytes of the shape that spell it do fewer
pub record IsShapeSize (shape : Shape) (value : Value) (size : ℕ) : Type 0 where
  pub fits : size < 2 ^ 64
  pub spelled : (section : List ℕ) → IsValueIn section value → length section < 2 ^ 63 → (bytes : List ℕ) × AreBytes bytes × SpellsShape shape (meant_in section value) bytes × (size ≡ counted (meant_in section value) (length bytes))
  pub least : (section others : List ℕ) → IsValueIn section value → length section < 2 ^ 63 → SpellsShape shape (meant_in section value) others → size ≤ counted (meant_in section value) (length others)

-- the constant of a shape fits a signed number of 64 bits
abbrev pub HasConstant : Shape → Type 0
HasConstant (Constant v) = FitsSigned w64 v
HasConstant shape = Unit {0}
