-- Where the operands of an entry of a list end.
use Rattle.std.proofs.Common.{◌≡◌, ◌≤◌, ◌+◌, ◌∙◌, ℕ, List, length, sym, ap, subst, arith}
use Rattle.std.specs.Prelude.{Some}
use Rattle.spelled.specs.Spelled.{HasUniqueFronts}
use Rattle.spelled.proofs.Joins.{absent_once, then_once}
use Rattle.spelled.proofs.Parts.{same_front}
use Rattle.fixed_width.specs.Numbers.{number}
use Rattle.leb_codec.proofs.Fronts.{unique_u}
use Rattle.entry_arena.specs.Trees.{SpellsBetween}
use Rattle.entry_arena.proofs.Between.{spells_once}
use Rattle.entry_arena.proofs.SpellingLaws.{cut}
use Rattle.list_model.specs.declared.entry.EntryKind.{EntryKind}
use Rattle.list_model.specs.declared.entry.ListKind.{ListKind}
use Rattle.list_model.specs.declared.entry.Operand.{Operand}
use Rattle.list_model.specs.declared.entry.Operand.TheVariants.{Absent, Number, Address}
use Rattle.list_model.specs.declared.entry.RawEntry.{RawEntry}
use Rattle.list_model.specs.Entries.{code_of, first_operand, second_operand, SpellsOperand, SpellsOperands}
use Rattle.list_model.proofs.EntryLaws.{one_kind}
use Rattle.unit_slots.specs.Standing.{OperandsEnd}

-- operands end by themselves
operand_once : (operand : Operand) → HasUniqueFronts (SpellsOperand operand)
operand_once Absent = absent_once 0
operand_once Number = unique_u
operand_once Address = λ v w a b x y p q h.
    let same : a ≡ b = same_front a b x y (p.size ∙ sym q.size) h in
    (same, p.is ∙ ap (number 8) same ∙ sym q.is)

operands_once : (kind : EntryKind) → HasUniqueFronts (SpellsOperands kind)
operands_once kind = then_once (SpellsOperand (first_operand kind)) (λ _. SpellsOperand (second_operand kind)) (operand_once (first_operand kind)) (λ _. operand_once (second_operand kind))

-- the first operand ends at a place, and the second stands from there
pub record PartsEnd (kind : EntryKind) (section : List ℕ) (from end : ℕ) : Type 0 where
  pub a : ℕ
  pub b : ℕ
  pub mid : ℕ
  pub first : SpellsBetween (SpellsOperand (first_operand kind) a) section from mid
  pub second : SpellsBetween (SpellsOperand (second_operand kind) b) section mid end

parts_end : (kind : EntryKind) (operands : ℕ × ℕ) (section : List ℕ) (from end : ℕ) → SpellsBetween (SpellsOperands kind operands) section from end → PartsEnd kind section from end
parts_end kind operands section from end stands =
    let (x, y, p, q, whole) = stands.spelled in
    let c = cut section from end x y stands.order stands.inside whole in
    let before : c.mid ≤ end = c.before in
    let inside : end ≤ length section = stands.inside in
    record {
      a = operands.0;
      b = operands.1;
      mid = c.mid;
      first = record { order = c.after; inside = omega arith; spelled = subst (SpellsOperand (first_operand kind) operands.0) (sym c.first) p };
      second = record { order = c.before; inside = stands.inside; spelled = subst (SpellsOperand (second_operand kind) operands.1) (sym c.second) q };
    }

-- they are those of the kind of the entry's code
pub parts_there : (list : ListKind) (section : List ℕ) (raw : RawEntry) (end : ℕ) (kind : EntryKind) → OperandsEnd list section raw end → code_of list kind ≡ Some raw.code → PartsEnd kind section (raw.at + 1) end
parts_there list section raw end kind there known =
    subst (λ (k : EntryKind). PartsEnd k section (raw.at + 1) end) (one_kind list there.kind kind raw.code there.known known) (parts_end there.kind there.operands section (raw.at + 1) end there.spelled)

-- they end at one place
pub ends_once : (list : ListKind) (section : List ℕ) (raw : RawEntry) (a b : ℕ) → OperandsEnd list section raw a → OperandsEnd list section raw b → a ≡ b
ends_once list section raw a b p q =
    let same : p.kind ≡ q.kind = one_kind list p.kind q.kind raw.code p.known q.known in
    let own : SpellsBetween (SpellsOperands q.kind p.operands) section (raw.at + 1) a = subst (λ (k : EntryKind). SpellsBetween (SpellsOperands k p.operands) section (raw.at + 1) a) same p.spelled in
    (spells_once (SpellsOperands q.kind) (operands_once q.kind) section p.operands q.operands (raw.at + 1) a b own q.spelled).0

-- an operand that was found to end somewhere ends where it is said to
pub second_there : (kind : EntryKind) (section : List ℕ) (from end second : ℕ) (parts : PartsEnd kind section from end) → ((value to : ℕ) → SpellsBetween (SpellsOperand (first_operand kind) value) section from to → second ≡ to) → SpellsBetween (SpellsOperand (second_operand kind) parts.b) section second end
second_there kind section from end second parts ends =
    subst (λ (n : ℕ). SpellsBetween (SpellsOperand (second_operand kind) parts.b) section n end) (sym (ends parts.a parts.mid parts.first)) parts.second
