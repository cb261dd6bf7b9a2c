-- The entries of range lists (DWARF 5 sections 2.17.3 and 7.25) and of location lists (sections 2.6.2 and 7.7.3), with addresses
-- of 8 bytes: their codes and operands, and which bytes spell them. The expression behind an entry of a location list isn't
-- meant.
use Rattle.std.specs.Prelude.{◌≡◌, ◌≢◌, ◌<◌, ◌+◌, ◌⊎◌, ℕ, List, [], ◌∷◌, ◌++◌, length, Option, Some, None}
use Rattle.dw_base.specs.declared.fault.Span.{Span}
use Rattle.dw_base.specs.declared.fault.Kind.{Kind}
use Rattle.dw_base.specs.declared.fault.Kind.TheVariants.{Short, LebWide, ListEntry}
use Rattle.fixed_width.specs.Numbers.{number}
use Rattle.spelled.specs.Spelled.{AreBytes, IsAbsent, Then, UntilEnd, FaultThen}
use Rattle.leb_codec.specs.Leb.{Uleb, IsShort, IsWideUnsigned}
use Rattle.list_model.specs.declared.entry.ListKind.{ListKind}
use Rattle.list_model.specs.declared.entry.ListKind.TheVariants.{Ranges, Locations}
use Rattle.list_model.specs.declared.entry.EntryKind.{EntryKind}
use Rattle.list_model.specs.declared.entry.EntryKind.TheVariants.{BaseAddressx, StartxEndx, StartxLength, OffsetPair, DefaultLocation, BaseAddress, StartEnd, StartLength}
use Rattle.list_model.specs.declared.entry.Operand.{Operand}
use Rattle.list_model.specs.declared.entry.Operand.TheVariants.{Absent, Number, Address}
use Rattle.list_model.specs.declared.entry.RawEntry.{RawEntry}

-- ---- the kinds

-- The code of each kind of entry: DW_RLE_.. in a range list, and DW_LLE_.. in a location list. The code 0 ends a list.
abbrev pub code_of : ListKind → EntryKind → Option ℕ
code_of Ranges BaseAddressx = Some 1
code_of Ranges StartxEndx = Some 2
code_of Ranges StartxLength = Some 3
code_of Ranges OffsetPair = Some 4
code_of Ranges DefaultLocation = None
code_of Ranges BaseAddress = Some 5
code_of Ranges StartEnd = Some 6
code_of Ranges StartLength = Some 7
code_of Locations BaseAddressx = Some 1
code_of Locations StartxEndx = Some 2
code_of Locations StartxLength = Some 3
code_of Locations OffsetPair = Some 4
code_of Locations DefaultLocation = Some 5
code_of Locations BaseAddress = Some 6
code_of Locations StartEnd = Some 7
code_of Locations StartLength = Some 8

-- what the first operand of each kind is
abbrev pub first_operand : EntryKind → Operand
first_operand BaseAddressx = Number
first_operand StartxEndx = Number
first_operand StartxLength = Number
first_operand OffsetPair = Number
first_operand DefaultLocation = Absent
first_operand BaseAddress = Address
first_operand StartEnd = Address
first_operand StartLength = Address

-- what the second operand of each kind is
abbrev pub second_operand : EntryKind → Operand
second_operand BaseAddressx = Absent
second_operand StartxEndx = Number
second_operand StartxLength = Number
second_operand OffsetPair = Number
second_operand DefaultLocation = Absent
second_operand BaseAddress = Absent
second_operand StartEnd = Address
second_operand StartLength = Number

-- An entry: its kind and its operands. Bytes spell none but with 0 for an operand that its kind lacks.
pub record Entry : Type 0 where
  pub kind : EntryKind
  pub a : ℕ
  pub b : ℕ

-- ---- their bytes

-- an address: eight bytes, the lowest first
pub record SpellsAddress (address : ℕ) (bytes : List ℕ) : Type 0 where
  pub size : length bytes ≡ 8
  pub bounded : AreBytes bytes
  pub is : address ≡ number 8 bytes

-- A number is a ULEB128, with padding or without.
abbrev pub SpellsOperand : Operand → ℕ → List ℕ → Type 0
SpellsOperand Absent value bytes = IsAbsent 0 value bytes
SpellsOperand Number value bytes = Uleb value bytes
SpellsOperand Address value bytes = SpellsAddress value bytes

-- the first operand, and then the second
abbrev pub SpellsOperands : EntryKind → ℕ × ℕ → List ℕ → Type 0
SpellsOperands kind = Then (SpellsOperand (first_operand kind)) (λ _. SpellsOperand (second_operand kind))

-- The bytes spell the entry: its code in this kind of list, and its operands.
pub record SpellsEntry (list : ListKind) (entry : Entry) (bytes : List ℕ) : Type 0 where
  pub code : ℕ
  pub operands : List ℕ
  pub known : code_of list entry.kind ≡ Some code
  pub spelled : SpellsOperands entry.kind (entry.a, entry.b) operands
  pub whole : bytes ≡ code ∷ operands

-- the end of a list
abbrev pub IsListEnd : List ℕ → Type 0
IsListEnd bytes = bytes ≡ 0 ∷ []

-- the bytes begin with the end of a list
abbrev pub BeginsWithEnd : List ℕ → Type 0
BeginsWithEnd bytes = (end : List ℕ) × (rest : List ℕ) × IsListEnd end × (bytes ≡ end ++ rest)

-- the bytes are entries of this kind of list, one after the other, and the end of the list
abbrev pub SpellsList : ListKind → List Entry → List ℕ → Type 0
SpellsList list = UntilEnd (SpellsEntry list) IsListEnd

-- ---- their faults

-- The bytes, which go on to the end of the contribution, don't begin with the operand.
abbrev pub FaultOperand : Operand → Kind → ℕ → List ℕ → Type 0
FaultOperand Number Short place bytes = (place ≡ 0) × IsShort bytes
FaultOperand Number LebWide place bytes = (place ≡ 0) × IsWideUnsigned bytes
FaultOperand Address Short place bytes = (place ≡ 0) × (length bytes < 8)
FaultOperand _ _ place bytes = ⊥

-- the first operand isn't there, or it is and the second isn't
abbrev pub FaultOperands : EntryKind → Kind → ℕ → List ℕ → Type 0
FaultOperands kind = FaultThen (SpellsOperand (first_operand kind)) (FaultOperand (first_operand kind)) (λ _. FaultOperand (second_operand kind))

-- The code of an entry is there, and an operand isn't.
pub record FaultBehindCode (list : ListKind) (kind : Kind) (place : ℕ) (bytes : List ℕ) : Type 0 where
  pub entry_kind : EntryKind
  pub code : ℕ
  pub operands : List ℕ
  pub inner : ℕ
  pub known : code_of list entry_kind ≡ Some code
  pub whole : bytes ≡ code ∷ operands
  pub fault : FaultOperands entry_kind kind inner operands
  pub at : place ≡ 1 + inner

-- The code is neither that of a kind of entry nor the end of a list.
abbrev pub IsUnknown : ListKind → ℕ → Type 0
IsUnknown list code = (code ≢ 0) × ((kind : EntryKind) → code_of list kind ≢ Some code)

-- The bytes, which go on to the end of the contribution, begin neither with an entry nor with the end of a list. Places count
-- from the first of them. It is Short at the code or the operand that isn't whole, LebWide at an operand that doesn't fit 64
-- bits, and ListEntry at a code that is unknown.
abbrev pub FaultEntry : ListKind → Kind → ℕ → List ℕ → Type 0
FaultEntry list Short place bytes = ((bytes ≡ []) × (place ≡ 0)) ⊎ FaultBehindCode list Short place bytes
FaultEntry list LebWide place bytes = FaultBehindCode list LebWide place bytes
FaultEntry list ListEntry place bytes = (code : ℕ) × (rest : List ℕ) × (bytes ≡ code ∷ rest) × IsUnknown list code × (place ≡ 0)
FaultEntry list _ place bytes = ⊥

-- ---- as they are held

-- what is read of an entry says this
pub record Says (list : ListKind) (raw : RawEntry) (entry : Entry) : Type 0 where
  pub of_code : code_of list entry.kind ≡ Some raw.code
  pub of_a : raw.a ≡ entry.a
  pub of_b : raw.b ≡ entry.b

-- what is read of entries says these, one by one
abbrev pub AreSaid : ListKind → List RawEntry → List Entry → Type 0
AreSaid list [] [] = Unit {0}
AreSaid list (raw ∷ raws) (entry ∷ entries) = Says list raw entry × AreSaid list raws entries
AreSaid list _ _ = ⊥

-- the span of the expression of an entry that has none
abbrev pub no_expr : Span
no_expr = record { at = 0; len = 0 }
