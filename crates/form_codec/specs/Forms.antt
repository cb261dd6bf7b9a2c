-- The forms of attribute values (DWARF 5 sections 7.5.5 and 7.5.6): which bytes spell which value.
use Rattle.std.specs.Prelude.{◌≡◌, ◌≢◌, ◌≤◌, ◌<◌, ◌-◌, ◌*◌, ◌^◌, ℕ, List, [], ◌∷◌, ◌++◌, length, slice_index, Bool, true, false, nat_le, if◌then◌else◌, ℤ, pos, FitsSigned}
use Rattle.std.specs.Int.{w64}
use Rattle.fixed_width.specs.Numbers.{number}
use Rattle.spelled.specs.Spelled.{AreBytes}
use Rattle.leb_codec.specs.Leb.{Uleb, Sleb}
use Rattle.form_codec.specs.declared.form.Form.{Form}
use Rattle.form_codec.specs.declared.form.Form.TheVariants.{Addr, Block2, Block4, Block1, Block, Data1, Data2, Data4, Data8, Data16, Sdata, Udata, ImplicitConst, Flag, FlagPresent, String, Strp, LineStrp, StrpSup, Strx, Strx1, Strx2, Strx3, Strx4, Addrx, Addrx1, Addrx2, Addrx3, Addrx4, Ref1, Ref2, Ref4, Ref8, RefUdata, RefAddr, RefSig8, RefSup4, RefSup8, SecOffset, Exprloc, Loclistx, Rnglistx}
use Rattle.form_codec.specs.declared.form.Shape.{Shape}
use Rattle.form_codec.specs.declared.form.Shape.TheVariants.{Constant, Present, Number, Uleb as ByUleb, Sleb as BySleb, Counted, UlebCounted, Sixteen, ZeroEnded}
use Rattle.form_codec.specs.declared.form.Width.{Width}
use Rattle.form_codec.specs.declared.form.Width.TheVariants.{One, Two, Three, Four, Eight}
use Rattle.form_codec.specs.declared.form.Role.{Role}
use Rattle.form_codec.specs.declared.form.Role.TheVariants as role
use Rattle.form_codec.specs.declared.form.Content.{Content}
use Rattle.form_codec.specs.declared.form.Content.TheVariants as content
use Rattle.form_codec.specs.Signs.{constant_role}

-- the bytes of a width
abbrev pub size_of : Width → ℕ
size_of One = 1
size_of Two = 2
size_of Three = 3
size_of Four = 4
size_of Eight = 8

-- the code of each form
abbrev pub code_of : Form → ℕ
code_of Addr = 1
code_of Block2 = 3
code_of Block4 = 4
code_of Data2 = 5
code_of Data4 = 6
code_of Data8 = 7
code_of String = 8
code_of Block = 9
code_of Block1 = 10
code_of Data1 = 11
code_of Flag = 12
code_of Sdata = 13
code_of Strp = 14
code_of Udata = 15
code_of RefAddr = 16
code_of Ref1 = 17
code_of Ref2 = 18
code_of Ref4 = 19
code_of Ref8 = 20
code_of RefUdata = 21
code_of SecOffset = 23
code_of Exprloc = 24
code_of FlagPresent = 25
code_of Strx = 26
code_of Addrx = 27
code_of RefSup4 = 28
code_of StrpSup = 29
code_of Data16 = 30
code_of LineStrp = 31
code_of RefSig8 = 32
code_of ImplicitConst = 33
code_of Loclistx = 34
code_of Rnglistx = 35
code_of RefSup8 = 36
code_of Strx1 = 37
code_of Strx2 = 38
code_of Strx3 = 39
code_of Strx4 = 40
code_of Addrx1 = 41
code_of Addrx2 = 42
code_of Addrx3 = 43
code_of Addrx4 = 44

-- the code is that of a form
abbrev pub IsKnown : ℕ → Type 0
IsKnown code = (form : Form) × (code_of form ≡ code)

-- the bytes of each form under an attribute's name, and what a number or a block in them is; the constant stands in the declaration.
-- A constant of fixed size tells its sign only where the name does.
-- The offsets of the 32-bit DWARF format have 4 bytes.
abbrev pub shape_of : Form → ℕ → ℤ → Shape
shape_of Addr name constant = Number Eight role.Address
shape_of Block2 name constant = Counted Two
shape_of Block4 name constant = Counted Four
shape_of Block1 name constant = Counted One
shape_of Block name constant = UlebCounted content.Data
shape_of Data1 name constant = Number One (constant_role name)
shape_of Data2 name constant = Number Two (constant_role name)
shape_of Data4 name constant = Number Four (constant_role name)
shape_of Data8 name constant = Number Eight (constant_role name)
shape_of Data16 name constant = Sixteen
shape_of Sdata name constant = BySleb
shape_of Udata name constant = ByUleb role.Unsigned
shape_of ImplicitConst name constant = Constant constant
shape_of Flag name constant = Number One role.Truth
shape_of FlagPresent name constant = Present
shape_of String name constant = ZeroEnded
shape_of Strp name constant = Number Four role.StrOffset
shape_of LineStrp name constant = Number Four role.LineStrOffset
shape_of StrpSup name constant = Number Four role.SupStr
shape_of Strx name constant = ByUleb role.StrIndex
shape_of Strx1 name constant = Number One role.StrIndex
shape_of Strx2 name constant = Number Two role.StrIndex
shape_of Strx3 name constant = Number Three role.StrIndex
shape_of Strx4 name constant = Number Four role.StrIndex
shape_of Addrx name constant = ByUleb role.AddrIndex
shape_of Addrx1 name constant = Number One role.AddrIndex
shape_of Addrx2 name constant = Number Two role.AddrIndex
shape_of Addrx3 name constant = Number Three role.AddrIndex
shape_of Addrx4 name constant = Number Four role.AddrIndex
shape_of Ref1 name constant = Number One role.LocalRef
shape_of Ref2 name constant = Number Two role.LocalRef
shape_of Ref4 name constant = Number Four role.LocalRef
shape_of Ref8 name constant = Number Eight role.LocalRef
shape_of RefUdata name constant = ByUleb role.LocalRef
shape_of RefAddr name constant = Number Four role.SectionRef
shape_of RefSig8 name constant = Number Eight role.Signature
shape_of RefSup4 name constant = Number Four role.SupRef
shape_of RefSup8 name constant = Number Eight role.SupRef
shape_of SecOffset name constant = Number Four role.Offset
shape_of Exprloc name constant = UlebCounted content.Expression
shape_of Loclistx name constant = ByUleb role.LocIndex
shape_of Rnglistx name constant = ByUleb role.RangeIndex

-- the value of an attribute, with its bytes and without places. Bits has a width in bytes, and so has InSup.
pub data Meaning : Type 0 where
  Address : ℕ → Meaning
  AddressNumber : ℕ → Meaning
  Whole : ℤ → Meaning
  Bits : ℕ → ℕ → Meaning
  SixteenBytes : List ℕ → Meaning
  IsSet : Bool → Meaning
  Data : List ℕ → Meaning
  Expression : List ℕ → Meaning
  InUnit : ℕ → Meaning
  InSection : ℕ → Meaning
  TypeSignature : ℕ → Meaning
  InSup : ℕ → ℕ → Meaning
  Text : List ℕ → Meaning
  StringPlace : ℕ → Meaning
  LineStringPlace : ℕ → Meaning
  SupStringPlace : ℕ → Meaning
  StringNumber : ℕ → Meaning
  SectionPlace : ℕ → Meaning
  LocationList : ℕ → Meaning
  RangeList : ℕ → Meaning

-- a number of some bytes tells no sign: with a clear top bit it is itself, else bits of its width
abbrev pub data_of : ℕ → ℕ → Meaning
data_of size n = if nat_le (2 ^ (8 * size - 1)) n then Bits size n else Whole (pos n)

-- what a number means in each role
abbrev pub in_role : Role → Width → ℕ → Meaning
in_role role.Address width n = Address n
in_role role.AddrIndex width n = AddressNumber n
in_role role.Data width n = data_of (size_of width) n
in_role role.Unsigned width n = Whole (pos n)
in_role role.Truth width n = IsSet (nat_le 1 n)
in_role role.LocalRef width n = InUnit n
in_role role.SectionRef width n = InSection n
in_role role.Signature width n = TypeSignature n
in_role role.SupRef width n = InSup (size_of width) n
in_role role.StrOffset width n = StringPlace n
in_role role.LineStrOffset width n = LineStringPlace n
in_role role.SupStr width n = SupStringPlace n
in_role role.StrIndex width n = StringNumber n
in_role role.Offset width n = SectionPlace n
in_role role.LocIndex width n = LocationList n
in_role role.RangeIndex width n = RangeList n

-- what a block holds
abbrev pub of_content : Content → List ℕ → Meaning
of_content content.Data bytes = Data bytes
of_content content.Expression bytes = Expression bytes

-- no byte is 0
abbrev pub HasNoZero : List ℕ → Type 0
HasNoZero text = (k : ℕ) → k < length text → slice_index text k ≢ 0

-- a count of fixed size and then as many bytes
pub record IsCounted (width : Width) (meaning : Meaning) (bytes : List ℕ) : Type 0 where
  pub head : List ℕ
  pub body : List ℕ
  pub size : length head ≡ size_of width
  pub count : length body ≡ number (size_of width) head
  pub whole : bytes ≡ head ++ body
  pub holds : meaning ≡ Data body

-- a count as a ULEB and then as many bytes
pub record IsUlebCounted (kind : Content) (meaning : Meaning) (bytes : List ℕ) : Type 0 where
  pub head : List ℕ
  pub body : List ℕ
  pub count : Uleb (length body) head
  pub whole : bytes ≡ head ++ body
  pub holds : meaning ≡ of_content kind body

-- a text and a byte 0
pub record IsZeroEnded (meaning : Meaning) (bytes : List ℕ) : Type 0 where
  pub text : List ℕ
  pub clear : HasNoZero text
  pub whole : bytes ≡ text ++ 0 ∷ []
  pub holds : meaning ≡ Text text

-- bytes of a shape spell this value
abbrev pub SpellsShape : Shape → Meaning → List ℕ → Type 0
SpellsShape (Constant v) meaning bytes = (bytes ≡ []) × FitsSigned w64 v × (meaning ≡ Whole v)
SpellsShape Present meaning bytes = (bytes ≡ []) × (meaning ≡ IsSet true)
SpellsShape (Number width role) meaning bytes = (length bytes ≡ size_of width) × (meaning ≡ in_role role width (number (size_of width) bytes))
SpellsShape (ByUleb role) meaning bytes = (n : ℕ) × Uleb n bytes × (meaning ≡ in_role role Eight n)
SpellsShape BySleb meaning bytes = (v : ℤ) × Sleb v bytes × (meaning ≡ Whole v)
SpellsShape (Counted width) meaning bytes = IsCounted width meaning bytes
SpellsShape (UlebCounted kind) meaning bytes = IsUlebCounted kind meaning bytes
SpellsShape Sixteen meaning bytes = (length bytes ≡ 16) × (meaning ≡ SixteenBytes bytes)
SpellsShape ZeroEnded meaning bytes = IsZeroEnded meaning bytes

-- under this name bytes of the form with this code, and with the constant of its declaration, spell this value
pub record SpellsValue (name code : ℕ) (constant : ℤ) (meaning : Meaning) (bytes : List ℕ) : Type 0 where
  pub form : Form
  pub known : code_of form ≡ code
  pub small : AreBytes bytes
  pub spelled : SpellsShape (shape_of form name constant) meaning bytes

-- ref1, ref2, ref4 and ref8 are read and never written
abbrev pub is_written : Form → Bool
is_written Ref1 = false
is_written Ref2 = false
is_written Ref4 = false
is_written Ref8 = false
is_written form = true

-- the form with this code can be chosen for this value of an attribute with this name: some bytes of it spell the value
pub record Admits (name code : ℕ) (meaning : Meaning) : Type 0 where
  pub form : Form
  pub known : code_of form ≡ code
  pub written : is_written form ≡ true
  pub constant : ℤ
  pub bytes : List ℕ
  pub spelled : SpellsValue name code constant meaning bytes

-- the shortest bytes of the form with this code that spell this value under this name; a flag is 0 or 1
pub record SpellsShortest (name code : ℕ) (meaning : Meaning) (bytes : List ℕ) : Type 0 where
  pub constant : ℤ
  pub spelled : SpellsValue name code constant meaning bytes
  pub shortest : (other : ℤ) (others : List ℕ) → SpellsValue name code other meaning others → length bytes ≤ length others
  pub flag : code ≡ code_of Flag → (k : ℕ) → k < length bytes → slice_index bytes k ≤ 1

-- how many of so many bytes count in a column: expressions and local references have sizes of their own
abbrev pub counted : Meaning → ℕ → ℕ
counted (Expression bytes) n = 0
counted (InUnit place) n = 0
counted meaning n = n
