-- The shortest bytes of line opcodes (DWARF 5 sections 6.2.5, 7.6 and 7.22). `base` is the opcode_base of the header.
use Rattle.std.specs.Prelude.{◌≡◌, ◌<◌, ◌+◌, ◌^◌, ℕ, ℤ, List, [], ◌∷◌, ◌++◌, length, FitsSigned, ⊤}
use Rattle.std.specs.Int.{w64}
use Rattle.leb_codec.specs.Leb.{ShortestUnsigned, ShortestSigned}
use Rattle.line_machine.specs.Opcodes.{WithFixed}
use Rattle.line_machine.specs.declared.opcode.Opcode.{Opcode}
use Rattle.line_machine.specs.declared.opcode.Opcode.TheVariants.{Copy, AdvancePc, AdvanceLine, SetFile, SetColumn, NegateStmt, SetBasicBlock, ConstAddPc, FixedAdvancePc, SetPrologueEnd, SetEpilogueBegin, SetIsa, EndSequence, SetAddress, SetDiscriminator, Special}

-- the shortest ULEB128 of a number that fits 64 bits
abbrev pub ShortestUleb : ℕ → List ℕ → Type 0
ShortestUleb value bytes = ShortestUnsigned value bytes × (value < 2 ^ 64)

-- the shortest SLEB128 of a number that fits 64 bits
abbrev pub ShortestSleb : ℤ → List ℕ → Type 0
ShortestSleb value bytes = ShortestSigned value bytes × FitsSigned w64 value

-- a code and a ULEB128 without padding
abbrev pub WithShortestUleb : ℕ → ℕ → List ℕ → Type 0
WithShortestUleb code value bytes = (operand : List ℕ) × ShortestUleb value operand × (bytes ≡ code ∷ operand)

-- a code and an SLEB128 without padding
abbrev pub WithShortestSleb : ℕ → ℤ → List ℕ → Type 0
WithShortestSleb code value bytes = (operand : List ℕ) × ShortestSleb value operand × (bytes ≡ code ∷ operand)

-- what the length of an extended opcode counts: its code and its operand without padding
abbrev pub ShortestOperation : Opcode → List ℕ → Type 0
ShortestOperation EndSequence bytes = bytes ≡ 1 ∷ []
ShortestOperation (SetAddress address) bytes = WithFixed 2 8 address bytes
ShortestOperation (SetDiscriminator value) bytes = WithShortestUleb 4 value bytes
ShortestOperation _ bytes = ⊥

-- an extended opcode: 0, the length of what follows as a ULEB128 without padding, and what follows
pub record ShortestExtended (opcode : Opcode) (bytes : List ℕ) : Type 0 where
  pub size : List ℕ
  pub body : List ℕ
  pub counted : ShortestUleb (length body) size
  pub operation : ShortestOperation opcode body
  pub whole : bytes ≡ 0 ∷ (size ++ body)

-- The bytes spell the opcode, and each of their LEB128 numbers is the shortest one of its value.
abbrev pub ShortestOpcode : ℕ → Opcode → List ℕ → Type 0
ShortestOpcode base Copy bytes = bytes ≡ 1 ∷ []
ShortestOpcode base (AdvancePc value) bytes = WithShortestUleb 2 value bytes
ShortestOpcode base (AdvanceLine value) bytes = WithShortestSleb 3 value bytes
ShortestOpcode base (SetFile value) bytes = WithShortestUleb 4 value bytes
ShortestOpcode base (SetColumn value) bytes = WithShortestUleb 5 value bytes
ShortestOpcode base NegateStmt bytes = bytes ≡ 6 ∷ []
ShortestOpcode base SetBasicBlock bytes = bytes ≡ 7 ∷ []
ShortestOpcode base ConstAddPc bytes = bytes ≡ 8 ∷ []
ShortestOpcode base (FixedAdvancePc value) bytes = WithFixed 9 2 value bytes
ShortestOpcode base SetPrologueEnd bytes = (10 < base) × (bytes ≡ 10 ∷ [])
ShortestOpcode base SetEpilogueBegin bytes = (11 < base) × (bytes ≡ 11 ∷ [])
ShortestOpcode base (SetIsa value) bytes = (12 < base) × WithShortestUleb 12 value bytes
ShortestOpcode base EndSequence bytes = ShortestExtended EndSequence bytes
ShortestOpcode base (SetAddress address) bytes = ShortestExtended (SetAddress address) bytes
ShortestOpcode base (SetDiscriminator value) bytes = ShortestExtended (SetDiscriminator value) bytes
ShortestOpcode base (Special s) bytes = (base + s < 256) × (bytes ≡ (base + s) ∷ [])

-- the opcode has a code under the base
abbrev pub HasCode : ℕ → Opcode → Type 0
HasCode base SetPrologueEnd = 10 < base
HasCode base SetEpilogueBegin = 11 < base
HasCode base (SetIsa value) = 12 < base
HasCode base (Special s) = base + s < 256
HasCode base _ = ⊤
