-- The faults of line number programs, as conditions on the bytes.
use Rattle.std.specs.Prelude.{◌≡◌, ◌≢◌, ◌<◌, ◌+◌, ◌^◌, ◌⊎◌, ℕ, List, ◌∷◌, ◌++◌, length, drop, slice_index, true, false}
use Rattle.fixed_width.specs.InitialLengths.{LeavesSection}
use Rattle.spelled.specs.Spelled.{Joined, StandsAt, FaultUntilEnd}
use Rattle.leb_codec.specs.Leb.{Uleb, IsLeb, IsShort, IsWideUnsigned, IsWideSigned}
use Rattle.dw_base.specs.declared.fault.Kind.{Kind}
use Rattle.dw_base.specs.declared.fault.Kind.TheVariants.{Limit, LebWide, Short, LineHead, LineOp, OpenSequence, LineValue}
use Rattle.line_machine.specs.declared.head.Head.{Head}
use Rattle.line_machine.specs.declared.opcode.Opcode.{Opcode}
use Rattle.line_machine.specs.Opcodes.{SpellsOpcode}
use Rattle.line_machine.specs.Rows.{start, rows_from, registers_after, IsSound, ends}
use Rattle.line_machine.specs.Heads.{IsCutHeader, HasHead, head_at, program_of}

-- the code of a standard opcode with a ULEB128
abbrev pub HasUleb : ℕ → ℕ → Type 0
HasUleb base code = (code ≡ 2) ⊎ ((code ≡ 4) ⊎ ((code ≡ 5) ⊎ ((code ≡ 12) × (12 < base))))

-- The operand of a standard opcode ends past the program.
abbrev pub IsCut : ℕ → ℕ → List ℕ → Type 0
IsCut base code operand = (HasUleb base code × IsShort operand) ⊎ (((code ≡ 3) × IsShort operand) ⊎ ((code ≡ 9) × (length operand < 2)))

-- The operand of a standard opcode doesn't fit 64 bits.
abbrev pub IsTooWide : ℕ → ℕ → List ℕ → Type 0
IsTooWide base code operand = (HasUleb base code × IsWideUnsigned operand) ⊎ ((code ≡ 3) × IsWideSigned operand)

-- after a byte 0, the length of an extended opcode, and what follows it in the program
pub record IsSized (rest size : List ℕ) (count : ℕ) (body : List ℕ) : Type 0 where
  pub number : Uleb count size
  pub whole : rest ≡ size ++ body

-- The code has no meaning, or the count isn't that of its operand and 1 byte more.
abbrev pub IsWrongCount : ℕ → ℕ → List ℕ → Type 0
IsWrongCount count code operand =
    ((code ≡ 1) × (count ≢ 1))
    ⊎ (((code ≡ 2) × (count ≢ 9))
    ⊎ (((code ≡ 4) × ((leb : List ℕ) × (rest : List ℕ) × IsLeb leb × (operand ≡ leb ++ rest) × (count ≢ 1 + length leb)))
    ⊎ ((code ≢ 1) × (code ≢ 2) × (code ≢ 4))))

-- The length is 0, or what follows is none of the opcodes of this length.
abbrev pub IsNoOperation : ℕ → List ℕ → Type 0
IsNoOperation count body = (count ≡ 0) ⊎ ((0 < length body) × IsWrongCount count (slice_index body 0) (drop 1 body))

-- An extended opcode has a fault. `rest` is what follows its byte 0 in the program; places count from that byte.
abbrev pub FaultExtended : Kind → ℕ → List ℕ → Type 0
FaultExtended Short place rest =
    ((place ≡ 1) × IsShort rest)
    ⊎ (((size : List ℕ) × (count : ℕ) × (body : List ℕ) × IsSized rest size count body × (length body < count) × (place ≡ 0))
    ⊎ ((size : List ℕ) × (count : ℕ) × (operand : List ℕ) × IsSized rest size count (4 ∷ operand) × (0 < count) × IsShort operand × (place ≡ 2 + length size)))
FaultExtended LebWide place rest =
    ((place ≡ 1) × IsWideUnsigned rest)
    ⊎ ((size : List ℕ) × (count : ℕ) × (operand : List ℕ) × IsSized rest size count (4 ∷ operand) × (0 < count) × IsWideUnsigned operand × (place ≡ 2 + length size))
FaultExtended LineOp place rest = (size : List ℕ) × (count : ℕ) × (body : List ℕ) × IsSized rest size count body × IsNoOperation count body × (place ≡ 0)
FaultExtended _ place rest = ⊥

-- The opcode at the front of bytes, which go on to the program's end, has a fault. Places count from its first byte.
abbrev pub FaultOpcode : ℕ → Kind → ℕ → List ℕ → Type 0
FaultOpcode base Short place bytes =
    ((0 < length bytes) × (place ≡ 1) × IsCut base (slice_index bytes 0) (drop 1 bytes))
    ⊎ ((0 < length bytes) × (slice_index bytes 0 ≡ 0) × FaultExtended Short place (drop 1 bytes))
FaultOpcode base LebWide place bytes =
    ((0 < length bytes) × (place ≡ 1) × IsTooWide base (slice_index bytes 0) (drop 1 bytes))
    ⊎ ((0 < length bytes) × (slice_index bytes 0 ≡ 0) × FaultExtended LebWide place (drop 1 bytes))
FaultOpcode base LineOp place bytes = (0 < length bytes) × (slice_index bytes 0 ≡ 0) × FaultExtended LineOp place (drop 1 bytes)
FaultOpcode base _ place bytes = ⊥

-- An opcode of the program has a row whose line, or a product, that is out of range.
abbrev pub IsOutOfRange : Head → ℕ → List ℕ → Type 0
IsOutOfRange head place program =
    (before : List Opcode) × (opcode : Opcode) × StandsAt (SpellsOpcode head.opcode_base) program before opcode place × (¬ IsSound head opcode (registers_after head (start head.stmt) before))

-- An opcode of the program has a fault of the kind. Places count from the program's first byte.
abbrev pub FaultWithin : Head → Kind → ℕ → List ℕ → Type 0
FaultWithin head LineValue place program = IsOutOfRange head place program
FaultWithin head kind place program = FaultUntilEnd (SpellsOpcode head.opcode_base) (FaultOpcode head.opcode_base) kind place program

-- The program is whole opcodes, and its last row doesn't end a sequence.
abbrev pub IsOpen : Head → List ℕ → Type 0
IsOpen head program = (opcodes : List Opcode) × Joined (SpellsOpcode head.opcode_base) opcodes program × (ends true (rows_from head (start head.stmt) opcodes) ≡ false)

-- The most rows that a program may have.
abbrev pub row_limit : ℕ
row_limit = 2 ^ 24

-- The opcodes at the program's front have more rows than the limit.
abbrev pub IsLong : Head → List ℕ → Type 0
IsLong head program = (opcodes : List Opcode) × (front : List ℕ) × (rest : List ℕ) × Joined (SpellsOpcode head.opcode_base) opcodes front × (program ≡ front ++ rest) × (row_limit < length (rows_from head (start head.stmt) opcodes))

-- An opcode of the program of a head has a fault, or the program ends without the end of a sequence. Places count
-- from the section's first byte.
abbrev pub OpcodesFault : List ℕ → Head → Kind → ℕ → Type 0
OpcodesFault section head OpenSequence place = (place ≡ head.at) × IsOpen head (program_of section head)
OpcodesFault section head Limit place = ⊥
OpcodesFault section head kind place = (inner : ℕ) × (place ≡ head.program.at + inner) × FaultWithin head kind inner (program_of section head)

-- The program of a head has a fault. Places count from the section's first byte.
abbrev pub ProgramFault : List ℕ → Head → Kind → ℕ → Type 0
ProgramFault section head Limit place = (place ≡ head.at) × IsLong head (program_of section head)
ProgramFault section head kind place = OpcodesFault section head kind place

-- The header at a place has a fault. Places count from the section's first byte.
abbrev pub HeadFault : List ℕ → ℕ → Kind → ℕ → Type 0
HeadFault section at Short place = (place ≡ at) × (LeavesSection section at ⊎ IsCutHeader section at)
HeadFault section at LineHead place = (place ≡ at) × (¬ LeavesSection section at) × (¬ HasHead section at)
HeadFault section at _ place = ⊥

-- The line number program whose unit stands at a place has a fault. Places count from the section's first byte.
abbrev pub LineFault : List ℕ → ℕ → Kind → ℕ → Type 0
LineFault section at kind place = HeadFault section at kind place ⊎ (HasHead section at × ProgramFault section (head_at section at) kind place)
