-- What the parts of the reader of opcodes give.
use Rattle.std.specs.Prelude.{◌≡◌, ◌+◌, ℕ, List, drop, slice_index}
use Rattle.leb_codec.specs.Leb.{IsShort, IsWideUnsigned}
use Rattle.dw_base.specs.declared.fault.Kind.{Kind}
use Rattle.dw_base.specs.declared.fault.Kind.TheVariants.{LebWide, Short, LineOp}
use Rattle.line_machine.specs.Faults.{IsWrongCount}

-- why bytes don't begin with a LEB128, where `IsWide` says that one doesn't fit
abbrev pub FaultLeb : (List ℕ → Type 0) → Kind → List ℕ → Type 0
FaultLeb IsWide Short bytes = IsShort bytes
FaultLeb IsWide LebWide bytes = IsWide bytes
FaultLeb IsWide _ bytes = ⊥

-- why there is no extended opcode of a length, whose code stands at a place
abbrev pub FaultOperation : ℕ → ℕ → Kind → ℕ → List ℕ → Type 0
FaultOperation at count Short place bytes = (place ≡ at + 1) × (slice_index bytes at ≡ 4) × IsShort (drop (at + 1) bytes)
FaultOperation at count LebWide place bytes = (place ≡ at + 1) × (slice_index bytes at ≡ 4) × IsWideUnsigned (drop (at + 1) bytes)
FaultOperation at count LineOp place bytes = (place ≡ 0) × IsWrongCount count (slice_index bytes at) (drop (at + 1) bytes)
FaultOperation at count _ place bytes = ⊥
