-- When the records of a certificate are accepted, by the written file alone: each shows that its part couldn't be shorter. Slots are judged by
-- the sizes that they have in the file.
use Rattle.std.specs.Prelude.{◌≡◌, ◌-◌, ◌∷◌, ◌++◌, ℕ, List, length}
use Rattle.std.specs.List.{AllZip}
use Rattle.dw_base.specs.declared.classes.Classes.{Classes}
use Rattle.dw_base.specs.declared.record.Run.{Run}
use Rattle.leb_codec.specs.Layout.{SlotRow, AcceptsLayout}
use Rattle.leb_codec.specs.Records.{Record, OfLines, OfList, OfLayout}
use Rattle.line_machine.specs.declared.head.Head.{Head}
use Rattle.line_machine.specs.declared.registers.Row.{Row}
use Rattle.line_sums.specs.Accepted.{AreAcceptedRuns}
use Rattle.line_write.specs.Records.{AreRunsFor}
use Rattle.list_model.specs.declared.context.Context.{Context}
use Rattle.list_model.specs.Items.{Bounds}
use Rattle.list_model.specs.Potentials.{AcceptsList}
use Rattle.check_lines.specs.Refused.{IsFirstRefused as IsFirstRefusedPair}
use Rattle.check_lists.specs.Refused.{IsFirstRefused as IsFirstRefusedItem}
use Rattle.check_units.specs.Refused.{IsFirstRefused as IsFirstRefusedSlot}
use Rattle.unit_slots.specs.Standing.{HasStandingSlots}
use Rattle.written_files.specs.Certificates.{ArePotentialsFor}
use Rattle.value_links.specs.Reading.{Reading, program_at}
use Rattle.value_links.specs.Sections.{debug_line}
use Rattle.same_meaning.specs.declared.reason.Reason.{Reason}
use Rattle.same_meaning.specs.declared.reason.Reason.TheVariants as reason
use Rattle.check_records.specs.Parts.{Part, AProgram, AList, AUnit, IsFor, IsJudged, program_count}

-- How records are judged. The runs of a line number program: by its header, its rows, and how many bytes its opcodes have. The potentials of
-- a list: by .debug_addr, its context, what its items cover, and how many bytes it has without its expressions and their lengths. The ranks of
-- a unit: by the rows and the sizes of its slots.
pub record Judges : Type 1 where
  pub runs : Head → List Row → ℕ → List Run → Type 0
  pub potentials : List ℕ → Context → List Bounds → List ℕ → ℕ → Type 0
  pub ranks : List SlotRow → List ℕ → List ℕ → Type 0

-- the ranks are judged by the slots of the unit with a number, as they stand in the file
abbrev pub AreStandingRanks : (List SlotRow → List ℕ → List ℕ → Type 0) → Reading → ℕ → List ℕ → Type 0
AreStandingRanks Judge s u ranks = (rows : List SlotRow) × (sizes : List ℕ) × HasStandingSlots s u rows sizes × Judge rows sizes ranks

-- a record says this of its part
abbrev pub SaysOf : Judges → List ℕ → Reading → Part → Record → Type 0
SaysOf judges lines s (AProgram i) (OfLines runs) = AreRunsFor judges.runs lines (program_at s.links i).head runs
SaysOf judges lines s (AList kind k) (OfList potentials) = ArePotentialsFor judges.potentials kind s k potentials
SaysOf judges lines s (AUnit u) (OfLayout ranks) = AreStandingRanks judges.ranks s u ranks
SaysOf judges lines s part other = ⊥

-- each pair of line_base and line_range, each item, or each slot is accepted
abbrev pub accepting : Judges
accepting = record { runs = AreAcceptedRuns; potentials = AcceptsList; ranks = AcceptsLayout }

-- the pair, item or slot with a number is the first that isn't
abbrev pub refusing : ℕ → Judges
refusing n = record {
  runs = λ head rows size runs. IsFirstRefusedPair head rows size runs n;
  potentials = λ addr context items potentials size. IsFirstRefusedItem addr context items potentials size n;
  ranks = λ rows sizes ranks. IsFirstRefusedSlot rows sizes ranks n;
}

-- THE CERTIFICATE

-- the certificate has a record for each part, and each is accepted
pub record IsAccepted (classes : Classes) (written certificate : List ℕ) : Type 0 where
  pub s : Reading
  pub parts : List Part
  pub records : List Record
  pub judged : IsJudged classes written certificate s parts records
  pub each : AllZip (SaysOf accepting (debug_line written) s) parts records

-- Why it isn't, where so many parts stand before the one whose record is refused: the number of a program and that of a pair; that of a list
-- among those that aren't kept, range lists first, and that of an item; or that of a unit and that of a slot. The count of items stands for
-- the size of a list, 0 for another count of potentials, and the last slot, or 0 where there is none, for ranks that are left over.
abbrev pub IsNamedBy : Classes → Reading → Part → ℕ → ℕ → Reason → Type 0
IsNamedBy classes s (AProgram i) before n why = why ≡ reason.Line i n
IsNamedBy classes s (AList kind k) before n why = why ≡ reason.List (before - program_count classes s) n
IsNamedBy classes s (AUnit u) before n why = why ≡ reason.Slot u n

-- The record of a part is the first that isn't accepted.
pub record IsFirstRefused (classes : Classes) (written certificate : List ℕ) (why : Reason) : Type 0 where
  pub s : Reading
  pub parts : List Part
  pub records : List Record
  pub judged : IsJudged classes written certificate s parts records
  pub each : AllZip IsFor parts records
  pub parts_before : List Part
  pub part : Part
  pub parts_behind : List Part
  pub whole : parts ≡ parts_before ++ part ∷ parts_behind
  pub records_before : List Record
  pub one : Record
  pub records_behind : List Record
  pub split : records ≡ records_before ++ one ∷ records_behind
  pub accepted : AllZip (SaysOf accepting (debug_line written) s) parts_before records_before
  pub n : ℕ
  pub refused : SaysOf (refusing n) (debug_line written) s part one
  pub named : IsNamedBy classes s part (length parts_before) n why
