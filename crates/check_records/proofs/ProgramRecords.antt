-- The record of a line number program that is held.
use Rattle.std.proofs.Common.{◌≡◌, ◌<◌, ◌+◌, ◌++◌, ◌↔◌, ◌∙◌, ℕ, zero, suc, List, [], ◌∷◌, length, get_or, sym, ap, refl, subst, arith, inr}
use Rattle.std.specs.Prelude.{Option, Some, None, Result, Ok, Err, IsNone, IfOk, IfSome}
use Rattle.std.proofs.lemmas.List.{get_or_read}
use Rattle.dw_base.specs.declared.fault.Kind.{Kind}
use Rattle.dw_base.specs.declared.fault.Reach.{Reach}
use Rattle.dw_base.specs.declared.record.Run.{Run}
use Rattle.dw_base.specs.Refusals.{IsFaulty}
use Rattle.leb_codec.specs.Records.{OfLines}
use Rattle.spelled.proofs.Parts.{length_part}
use Rattle.line_machine.specs.declared.head.Head.{Head}
use Rattle.line_machine.specs.declared.registers.Row.{Row}
use Rattle.line_machine.specs.Faults.{ProgramFault}
use Rattle.line_machine.specs.Heads.{IsHead, program_of}
use Rattle.line_machine.specs.Rows.{GivesRows}
use Rattle.line_sums.specs.Accepted.{AreAcceptedRuns}
use Rattle.line_write.specs.Faults.{LinesFault}
use Rattle.line_write.specs.Programs.{Follow}
use Rattle.line_write.specs.Records.{AreRunsFor}
use Rattle.line_write.proofs.ReadBack.{bounds}
use Rattle.line_write.proofs.Tiling.{follow_push, unit_lines}
use Rattle.check_lines.specs.Refused.{IsFirstRefused}
use Rattle.value_links.specs.Faults.Pass.{OfPrograms}
use Rattle.value_links.specs.inside.Links.{program_among}
use Rattle.value_links.specs.Reading.{ProgramRead, Reading, line_heads, no_program, program_at}
use Rattle.value_links.specs.Sections.{debug_line, offset_named, line_name}
use Rattle.value_links.specs.Whole.{IsReading}
use Rattle.value_links.specs.World.{World, IsWorldOf}
use Rattle.value_links.proofs.HeldUnits.{head_is, head_count}
use Rattle.value_links.proofs.ReadingOnce.{reading_once}
use Rattle.check_records.specs.Parts.{AProgram}
use Rattle.check_records.specs.inside.Judged.{IsVerdictOn}

-- PROGRAMS OF A SECTION

-- a program stands in a section and has no fault
record IsWhole (section : List ℕ) (head : Head) : Type 0 where
  stands : IsHead section head
  faultless : ¬ IsFaulty (ProgramFault section head)

module _ (section : List ℕ) (sound : (kind : Kind) (place : ℕ) → LinesFault section kind place → ⊥) where
  -- the program of a head that stands after others has no fault
  faultless_from : (before : List Head) (head : Head) → Follow section before 0 head.at → IsHead section head → ¬ IsFaulty (ProgramFault section head)
  faultless_from before head front stands (kind, place, f) =
      let bound = bounds section head.at stands.rules in
      let inside : head.at < length section = (let i = bound.inside in omega arith) in
      sound kind place (unit_lines section kind place (record {
        heads = before;
        at = head.at;
        front = front;
        inside = inside;
        fault = inr (stands.rules, subst (λ (z : Head). ProgramFault section z kind place) stands.fields f);
      }))

  whole_from : (before : List Head) (programs : List ProgramRead) (at : ℕ) → Follow section before 0 at → Follow section (line_heads programs) at (length section) → (p : ℕ) → p < length programs → IsWhole section (get_or programs p no_program).head
  whole_from before [] at front rest p inside = absurd (omega arith)
  whole_from before (q ∷ programs) at front (here, stands, rest) zero inside =
      let same : q.head.at ≡ at = here in
      record {
        stands = stands;
        faultless = faultless_from before q.head (subst (λ (z : ℕ). Follow section before 0 z) (sym same) front) stands;
      }
  whole_from before (q ∷ programs) at front (here, stands, rest) (suc p) inside =
      whole_from (before ++ q.head ∷ []) programs (at + q.head.len) (follow_push section before q.head 0 at front here stands) rest p (omega arith)

-- minimum_instruction_length isn't 0
scaled_head : (section : List ℕ) (head : Head) → IsHead section head → 0 < head.min
scaled_head section head stands =
    let min = ap (λ (z : Head). z.min) stands.fields in
    let some = stands.rules.numbers.scaled in
    omega arith

-- the bytes of a program are as many as its header says
pub program_size : (section : List ℕ) (head : Head) → IsHead section head → length (program_of section head) ≡ head.program.len
program_size section head stands =
    let bound = bounds section head.at stands.rules in
    let at = ap (λ (z : Head). z.program.at) stands.fields in
    let len = ap (λ (z : Head). z.program.len) stands.fields in
    let program = bound.program in
    let inside = bound.inside in
    length_part head.program.at head.program.len section (omega arith)

-- A PROGRAM THAT IS HELD

module _ (world : World) (some : (reach : Reach) × IsWorldOf world.image reach world) (p : ℕ) (inside : p < length world.programs) where
  abbrev r : Reading
  r = some.1.r

  known : p < length r.links.programs
  known = let count = head_count world.image r.links.programs world.programs some.1.holds.programs in omega arith

  whole : IsWhole (debug_line world.image) (program_at r.links p).head
  whole = whole_from (debug_line world.image) (λ kind place f. some.1.valid OfPrograms kind (offset_named world.image line_name + place) (place, refl, f)) [] r.links.programs 0 refl some.1.read.links.programs.tiled p known

  -- its header and the section, as they are looked up
  module _ (heads : List Head) (head : Head) (section : List ℕ) (are : heads ≡ world.programs) (read : head ≡ get_or heads p head) (bytes : section ≡ debug_line world.image) where
    taken : head ≡ (program_at r.links p).head
    taken =
        let there : p < length heads = omega (arith, ap length are) in
        get_or_read heads p head there read no_program.head ∙ ap (λ (z : List Head). program_among z p) are ∙ head_is world.image r.links.programs world.programs some.1.holds.programs p known

    whole_there : IsWhole section head
    whole_there = subst (λ (z : List ℕ). IsWhole z head) (sym bytes) (subst (λ (z : Head). IsWhole (debug_line world.image) z) (sym taken) whole)

    pub stands : IsHead section head
    stands = whole_there.stands

    pub faultless : ¬ IsFaulty (ProgramFault section head)
    faultless = whole_there.faultless

    pub scaled : 0 < head.min
    scaled = scaled_head section head stands

    -- what is judged by the size that its header says is judged of the part
    runs_for : (Judge : Head → List Row → ℕ → List Run → Type 0) (rows : List Row) (runs : List Run) → GivesRows head (program_of section head) rows → Judge head rows head.program.len runs → (s : Reading) → IsReading world.image s → AreRunsFor Judge (debug_line world.image) (program_at s.links p).head runs
    runs_for Judge rows runs given judged s reading =
        let here : AreRunsFor Judge section head runs = record {
          rows = rows;
          given = given;
          judged = subst (λ (z : ℕ). Judge head rows z runs) (sym (program_size section head stands)) judged;
        } in
        let same : r ≡ s = reading_once world.image r s some.1.read reading in
        subst (λ (z : Reading). AreRunsFor Judge (debug_line world.image) (program_at z.links p).head runs) same (
        subst (λ (z : Head). AreRunsFor Judge (debug_line world.image) z runs) taken (
        subst (λ (z : List ℕ). AreRunsFor Judge z head runs) bytes here))

    verdict_on : (rows : List Row) (runs : List Run) (answer : Option ℕ) → GivesRows head (program_of section head) rows → IsNone answer ↔ AreAcceptedRuns head rows head.program.len runs → IfSome answer (IsFirstRefused head rows head.program.len runs) → IsVerdictOn world.image (AProgram p) (OfLines runs) answer
    verdict_on rows runs None given accepted first = runs_for AreAcceptedRuns rows runs given (accepted.0 refl)
    verdict_on rows runs (Some n) given accepted first = runs_for (λ head rows size runs. IsFirstRefused head rows size runs n) rows runs given first

    pub verdict : {E : Type 0} (rows : List Row) (runs : List Run) (answer : Result (Option ℕ) E) →
        GivesRows head (program_of section head) rows →
        IfOk answer (λ refused. IsNone refused ↔ AreAcceptedRuns head rows head.program.len runs) →
        IfOk answer (λ refused. IfSome refused (IsFirstRefused head rows head.program.len runs)) →
        IfOk answer (IsVerdictOn world.image (AProgram p) (OfLines runs))
    verdict rows runs (Ok refused) given accepted first = verdict_on rows runs refused given accepted first
    verdict rows runs (Err e) given accepted first = tt
