-- The shortest bytes of a list whose entries are known: each number without padding.
use Rattle.std.specs.Prelude.{◌≡◌, ◌<◌, ◌^◌, ℕ, List, length}
use Rattle.spelled.specs.Spelled.{UntilEnd}
use Rattle.list_model.specs.declared.entry.EntryKind.{EntryKind}
use Rattle.list_model.specs.declared.entry.ListKind.{ListKind}
use Rattle.list_model.specs.declared.entry.Operand.{Operand}
use Rattle.list_model.specs.declared.entry.Operand.TheVariants.{Absent, Number, Address}
use Rattle.list_model.specs.Entries.{Entry, SpellsEntry, IsListEnd, first_operand, second_operand}
use Rattle.list_model.specs.Costs.{entry_bytes}

-- Some bytes spell a value as an operand: it is 0 where there is no operand, and it fits 64 bits where there is one.
abbrev pub FitsOperand : Operand → ℕ → Type 0
FitsOperand Absent value = value ≡ 0
FitsOperand Number value = value < 2 ^ 64
FitsOperand Address value = value < 2 ^ 64

-- some bytes spell these operands of a kind of entry
pub record FitOperands (kind : EntryKind) (a b : ℕ) : Type 0 where
  pub first : FitsOperand (first_operand kind) a
  pub second : FitsOperand (second_operand kind) b

-- the bytes spell the entry, without padding
abbrev pub ShortestEntry : ListKind → Entry → List ℕ → Type 0
ShortestEntry list entry bytes = SpellsEntry list entry bytes × (length bytes ≡ entry_bytes entry.kind entry.a entry.b)

-- the bytes are entries of this kind of list, one after the other and without padding, and the end of the list
abbrev pub ShortestList : ListKind → List Entry → List ℕ → Type 0
ShortestList list = UntilEnd (ShortestEntry list) IsListEnd
