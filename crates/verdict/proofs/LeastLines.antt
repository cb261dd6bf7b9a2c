-- No line number program of an accepted file has a shorter one in its class.
use Rattle.std.proofs.Common.{◌≡◌, ◌≢◌, ◌≤◌, ◌<◌, ◌+◌, ◌-◌, ◌++◌, ℕ, zero, suc, List, [], ◌∷◌, length, get_or, sym, ap, refl, subst, arith, inl, inr}
use Rattle.std.specs.Prelude.{pos, negsuc, neg_ℤ, ◌≤ℤ◌, map, Bool, true, if◌then◌else◌}
use Rattle.std.specs.Int.{w8, cast_signed}
use Rattle.std.specs.List.{AllZip}
use Rattle.std.proofs.lemmas.Bool.{cases_lt, le-ltb}
use Rattle.std.proofs.lemmas.Int.{ints, to_z_pos}
use Rattle.std.proofs.lemmas.List.{map-append}
use Rattle.spelled.specs.Spelled.{AreBytes}
use Rattle.dw_base.specs.declared.classes.Classes.{Classes}
use Rattle.dw_base.specs.declared.record.Run.{Run}
use Rattle.leb_codec.specs.Records.{Record, OfLines, OfList, OfLayout}
use Rattle.line_machine.specs.declared.head.Head.{Head}
use Rattle.line_machine.specs.Class.{IsPair}
use Rattle.line_machine.specs.Heads.{IsHead, program_of}
use Rattle.line_machine.specs.Rows.{GivesRows}
use Rattle.line_sums.specs.Accepted.{AreAcceptedRuns}
use Rattle.line_write.specs.Least.{IsLeastProgram, AreEach, LeastLines}
use Rattle.line_write.specs.Programs.{Follow}
use Rattle.line_write.specs.Records.{AreRunsFor}
use Rattle.line_write.proofs.ReadBack.{bounds}
use Rattle.check_lines.proofs.Least.{accepted_are_least}
use Rattle.value_links.specs.Reading.{ProgramRead, Reading, line_heads, no_program, program_at}
use Rattle.value_links.specs.Sections.{debug_line}
use Rattle.written_files.specs.Kept.{HaveLeastLines}
use Rattle.tidy_files.specs.Tidy.{IsTidy}
use Rattle.tidy_files.specs.Tidy.Row.{AProgram as ProgramRow}
use Rattle.check_records.specs.Accepted.{IsAccepted, SaysOf, accepting}
use Rattle.check_records.specs.Parts.{Part, AProgram, numbers_below, program_count}
use Rattle.verdict.proofs.AmongParts.{StandsAmong, among_more, said_of}

-- THE RECORD OF A PROGRAM

numbered : (n i : ℕ) → i < n → StandsAmong (AProgram i) (map AProgram (numbers_below n))
numbered zero i less = absurd (omega arith)
numbered (suc n) i less =
    let split : map AProgram (numbers_below n ++ n ∷ []) ≡ map AProgram (numbers_below n) ++ AProgram n ∷ [] = map-append AProgram (numbers_below n) (n ∷ []) in
    subst (λ (z : List Part). StandsAmong (AProgram i) z) (sym split) (elim (cases_lt i n) [
      | inl before ↦ among_more (AProgram i) (map AProgram (numbers_below n)) (AProgram n ∷ []) (numbered n i before)
      | inr last ↦ let same : i ≡ n = omega arith in (map AProgram (numbers_below n), [], ap (λ (z : ℕ). map AProgram (numbers_below n) ++ AProgram z ∷ []) (sym same))
    ])

-- the record of a program is runs
runs_of : (lines : List ℕ) (s : Reading) (i : ℕ) (one : Record) → SaysOf accepting lines s (AProgram i) one → (runs : List Run) × AreRunsFor AreAcceptedRuns lines (program_at s.links i).head runs
runs_of lines s i (OfLines runs) says = (runs, says)
runs_of lines s i (OfList potentials) says = absurd says
runs_of lines s i (OfLayout ranks) says = absurd says

runs_for : (classes : Classes) (written certificate : List ℕ) (is : IsAccepted classes written certificate) → classes.lines ≡ true → (i : ℕ) → i < length is.s.links.programs → (runs : List Run) × AreRunsFor AreAcceptedRuns (debug_line written) (program_at is.s.links i).head runs
runs_for classes written certificate is searched i known =
    let programs = map AProgram (numbers_below (program_count classes is.s)) in
    let count : program_count classes is.s ≡ length is.s.links.programs = ap (λ (on : Bool). if on then length is.s.links.programs else 0) searched in
    let there : StandsAmong (AProgram i) is.parts = subst (λ (z : List Part). StandsAmong (AProgram i) z) (sym is.judged.of_file.whole) (among_more (AProgram i) programs _ (numbered (program_count classes is.s) i (omega (arith, known, count)))) in
    let one = said_of (SaysOf accepting (debug_line written) is.s) there.0 there.1 (AProgram i) is.records (subst (λ (z : List Part). AllZip (SaysOf accepting (debug_line written) is.s) z is.records) there.2 is.each) in
    runs_of (debug_line written) is.s i one.0 one.1

-- THE PAIR OF A HEADER

signed_byte : (byte : ℕ) → byte < 256 → (neg_ℤ (pos 128) ≤ℤ cast_signed w8 byte) × (cast_signed w8 byte ≤ℤ pos 127)
signed_byte byte small = elim (cases_lt byte 128) [
  | inl low ↦ let is : cast_signed w8 byte ≡ pos byte = to_z_pos w8 byte low in (omega (arith, ints), omega (arith, ints))
  | inr high ↦ let is : cast_signed w8 byte ≡ negsuc (256 - suc byte) = rw (le-ltb byte 128 high) refl in (omega (arith, ints), omega (arith, ints))
]

module _ (section : List ℕ) (small : AreBytes section) (head : Head) (stands : IsHead section head) where
  pair_of : IsPair head.base head.range
  pair_of =
      let bound = bounds section head.at stands.rules in
      let tables = bound.tables in
      let program = bound.program in
      let inside = bound.inside in
      let base = ap (λ (z : Head). z.base) stands.fields in
      let range = ap (λ (z : Head). z.range) stands.fields in
      let some = stands.rules.numbers.ranged in
      let signed = signed_byte (get_or section (head.at + 15) 0) (small (head.at + 15) (omega arith)) in
      let byte = small (head.at + 16) (omega arith) in
      record {
        base_from = rw base signed.0;
        base_to = rw base signed.1;
        range_from = omega arith;
        range_to = omega arith;
      }

  short_instructions : head.min ≤ 255
  short_instructions =
      let bound = bounds section head.at stands.rules in
      let tables = bound.tables in
      let program = bound.program in
      let inside = bound.inside in
      let min = ap (λ (z : Head). z.min) stands.fields in
      let byte = small (head.at + 12) (omega arith) in
      omega arith

  least_program : head.opcode_base ≡ 13 → (runs : List Run) → AreRunsFor AreAcceptedRuns section head runs → IsLeastProgram section section head head
  least_program standard runs are = record {
    rows = are.rows;
    given = are.given;
    min = refl;
    stmt = refl;
    opcode_base = standard;
    least = record {
      member = record {
        pair = pair_of;
        gives = subst (λ (z : ℕ). GivesRows (record head { opcode_base = z }) (program_of section head) are.rows) standard are.given;
      };
      least = λ other member. accepted_are_least head are.rows (length (program_of section head)) runs other short_instructions are.judged member;
    };
  }

-- ALL PROGRAMS

heads_stand : (section : List ℕ) (programs : List ProgramRead) (at end : ℕ) → Follow section (line_heads programs) at end → (i : ℕ) → i < length programs → IsHead section (get_or programs i no_program).head
heads_stand section [] at end follow i inside = absurd (omega arith)
heads_stand section (program ∷ programs) at end (here, stands, rest) zero inside = stands
heads_stand section (program ∷ programs) at end (here, stands, rest) (suc i) inside = heads_stand section programs (at + program.head.len) end rest i (omega arith)

are_each : (Holds : Head → Head → Type 0) (programs : List ProgramRead) → ((i : ℕ) → i < length programs → Holds (get_or programs i no_program).head (get_or programs i no_program).head) → AreEach Holds (line_heads programs) (line_heads programs)
are_each Holds [] all = tt
are_each Holds (program ∷ programs) all = (all 0 (omega arith), are_each Holds programs (λ i inside. all (suc i) (omega arith)))

-- a number that isn't another than 13 is 13
standard_base : (base : ℕ) → (base ≢ 13 → ⊥) → base ≡ 13
standard_base base not_other = elim (cases_lt base 13) [
  | inl less ↦ absurd (not_other (omega arith))
  | inr more ↦ elim (cases_lt 13 base) [
    | inl past ↦ absurd (not_other (omega arith))
    | inr same ↦ omega arith
  ]
]

-- The bytes of .debug_line are below 256, as those of any file are.
least_programs : (classes : Classes) (file written certificate : List ℕ) → AreBytes (debug_line written) → IsTidy classes file written → IsAccepted classes written certificate → classes.lines ≡ true → LeastLines (debug_line written) (debug_line written)
least_programs classes file written certificate small tidy is searched =
    let section = debug_line written in
    let programs : List ProgramRead = is.s.links.programs in
    let tiled = is.judged.read.links.programs.tiled in
    let heads = line_heads programs in
    let least : (i : ℕ) → i < length programs → IsLeastProgram section section (get_or programs i no_program).head (get_or programs i no_program).head = λ i known.
    let head = (get_or programs i no_program).head in
    let stands : IsHead section head = heads_stand section programs 0 (length section) tiled i known in
    let standard : head.opcode_base ≡ 13 = standard_base head.opcode_base (λ other. tidy ProgramRow _ (inl (searched, record { s = is.s; read = is.judged.read; i = i; known = known; other = other; place = refl }))) in
    let runs = runs_for classes written certificate is searched i known in
    least_program section small head stands standard runs.0 runs.1
    in
    (heads, heads, tiled, tiled, are_each (IsLeastProgram section section) programs least)

-- Where the classes keep .debug_line, it is its own.
pub least_lines : (classes : Classes) (file written certificate : List ℕ) → AreBytes (debug_line written) → IsTidy classes file written → IsAccepted classes written certificate → HaveLeastLines classes written written
least_lines classes file written certificate small tidy is = record { least = λ searched. least_programs classes file written certificate small tidy is searched; kept = λ kept. refl }
