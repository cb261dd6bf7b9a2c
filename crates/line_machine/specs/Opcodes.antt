-- The bytes of line opcodes (DWARF 5 sections 6.2.5 and 7.22). `base` is the opcode_base of the header.
use Rattle.std.specs.Prelude.{◌≡◌, ◌<◌, ◌+◌, ℕ, ℤ, List, [], ◌∷◌, ◌++◌, length}
use Rattle.leb_codec.specs.Leb.{Uleb, Sleb}
use Rattle.fixed_width.specs.Numbers.{number_at}
use Rattle.line_machine.specs.declared.opcode.Opcode.{Opcode}
use Rattle.line_machine.specs.declared.opcode.Opcode.TheVariants.{Copy, AdvancePc, AdvanceLine, SetFile, SetColumn, NegateStmt, SetBasicBlock, ConstAddPc, FixedAdvancePc, SetPrologueEnd, SetEpilogueBegin, SetIsa, EndSequence, SetAddress, SetDiscriminator, Special}
use Rattle.spelled.specs.Spelled.{AreBytes}

-- a code and a ULEB128, with padding or without
abbrev pub WithUleb : ℕ → ℕ → List ℕ → Type 0
WithUleb code value bytes = (operand : List ℕ) × Uleb value operand × (bytes ≡ code ∷ operand)

-- a code and an SLEB128, with padding or without
abbrev pub WithSleb : ℕ → ℤ → List ℕ → Type 0
WithSleb code value bytes = (operand : List ℕ) × Sleb value operand × (bytes ≡ code ∷ operand)

-- a code and a number of n bytes, the lowest first
pub record WithFixed (code n value : ℕ) (bytes : List ℕ) : Type 0 where
  pub operand : List ℕ
  pub size : length operand ≡ n
  pub bounded : AreBytes operand
  pub number : value ≡ number_at n 0 operand
  pub whole : bytes ≡ code ∷ operand

-- what the length of an extended opcode counts: its code and its operand
abbrev pub SpellsOperation : Opcode → List ℕ → Type 0
SpellsOperation EndSequence bytes = bytes ≡ 1 ∷ []
SpellsOperation (SetAddress address) bytes = WithFixed 2 8 address bytes
SpellsOperation (SetDiscriminator value) bytes = WithUleb 4 value bytes
SpellsOperation _ bytes = ⊥

-- an extended opcode: 0, the length of what follows as a ULEB128, with padding or without, and what follows
pub record SpellsExtended (opcode : Opcode) (bytes : List ℕ) : Type 0 where
  pub size : List ℕ
  pub body : List ℕ
  pub counted : Uleb (length body) size
  pub operation : SpellsOperation opcode body
  pub whole : bytes ≡ 0 ∷ (size ++ body)

-- The bytes spell the opcode. A code of 10, 11 or 12 is standard below the base, and special from the base on.
abbrev pub SpellsOpcode : ℕ → Opcode → List ℕ → Type 0
SpellsOpcode base Copy bytes = bytes ≡ 1 ∷ []
SpellsOpcode base (AdvancePc value) bytes = WithUleb 2 value bytes
SpellsOpcode base (AdvanceLine value) bytes = WithSleb 3 value bytes
SpellsOpcode base (SetFile value) bytes = WithUleb 4 value bytes
SpellsOpcode base (SetColumn value) bytes = WithUleb 5 value bytes
SpellsOpcode base NegateStmt bytes = bytes ≡ 6 ∷ []
SpellsOpcode base SetBasicBlock bytes = bytes ≡ 7 ∷ []
SpellsOpcode base ConstAddPc bytes = bytes ≡ 8 ∷ []
SpellsOpcode base (FixedAdvancePc value) bytes = WithFixed 9 2 value bytes
SpellsOpcode base SetPrologueEnd bytes = (10 < base) × (bytes ≡ 10 ∷ [])
SpellsOpcode base SetEpilogueBegin bytes = (11 < base) × (bytes ≡ 11 ∷ [])
SpellsOpcode base (SetIsa value) bytes = (12 < base) × WithUleb 12 value bytes
SpellsOpcode base EndSequence bytes = SpellsExtended EndSequence bytes
SpellsOpcode base (SetAddress address) bytes = SpellsExtended (SetAddress address) bytes
SpellsOpcode base (SetDiscriminator value) bytes = SpellsExtended (SetDiscriminator value) bytes
SpellsOpcode base (Special s) bytes = (base + s < 256) × (bytes ≡ (base + s) ∷ [])

-- the opcode bases that this project reads
abbrev pub IsBase : ℕ → Type 0
IsBase base = (9 < base) × (base < 14)
