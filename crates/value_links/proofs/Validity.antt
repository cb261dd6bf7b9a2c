-- Which fault decides, and that a file that means something is valid.
use Rattle.std.proofs.Common.{◌≤◌, ◌<◌, inl, inr, ℕ, List, [], ◌∷◌, length, sym, subst, refl, arith}
use Rattle.std.specs.List.{All, sum_by}
use Rattle.std.proofs.lemmas.List.Elements.{All-head, All-tail}
use Rattle.std.proofs.lemmas.List.Sums.{sum_by-cons}
use Rattle.dw_base.specs.declared.fault.Kind.{Kind}
use Rattle.dw_base.specs.declared.fault.Kind.TheVariants.{Companion}
use Rattle.dw_base.specs.declared.fault.Reach.{Reach}
use Rattle.elf_sections.specs.Faults.{IsRead}
use Rattle.elf_sections.proofs.Faultless.{images_whole}
use Rattle.line_machine.specs.Faults.{row_limit}
use Rattle.line_write.proofs.Tiling.{AreGiven, lines_whole}
use Rattle.list_model.specs.Faults.{FaultContributions}
use Rattle.list_model.proofs.Tiling.{parts_whole}
use Rattle.list_model.specs.declared.entry.ListKind.{ListKind}
use Rattle.value_links.specs.Sections.{debug_info, debug_abbrev, debug_line, debug_lists}
use Rattle.value_links.specs.Reading.{ProgramRead, Linkable, Reading, of_kind, line_heads, HasRows}
use Rattle.value_links.specs.Whole.{IsReading}
use Rattle.value_links.specs.Debug.{Debug, MeansDebug}
use Rattle.value_links.specs.Faults.{FaultOfFile, FaultOfNames, FaultOfPrograms, FaultOfUnits, Pass, order_of, FaultOfPass}
use Rattle.value_links.specs.Faults.Pass.{OfFile, OfNames, OfPrograms, OfUnits, OfLinks, OfLists}
use Rattle.value_links.specs.Laws.{AreExpressionsWithin, IsImageInOrder, AreProgramsInOrder, AreUnitsInOrder, AreLinksInOrder, FirstFaultsDecide, MeaningFilesAreValid}
use Rattle.value_links.proofs.ValidUnits.{info_faultless, tables_faultless}
use Rattle.value_links.proofs.ValidLinks.{meanings_linked, links_whole}
use Rattle.value_links.proofs.ValidLists.{lists_whole}

file_faultless : (file : List ℕ) (reach : Reach) → IsRead file reach → (kind : Kind) (place : ℕ) → FaultOfFile file reach kind place → ⊥
file_faultless file reach read = (images_whole file reach read).0

names_faultless : (file : List ℕ) (reach : Reach) → IsRead file reach → (kind : Kind) (place : ℕ) → FaultOfNames file kind place → ⊥
names_faultless file reach read Companion place f = (images_whole file reach read).1 Companion place f
names_faultless file reach read kind place f = f

abbrev row_count : ProgramRead → ℕ
row_count p = length p.rows

given : (section : List ℕ) (programs : List ProgramRead) → All (HasRows section) programs → All (λ (p : ProgramRead). length p.rows ≤ row_limit) programs → AreGiven section (line_heads programs) (sum_by row_count programs)
given section [] rows few = refl
given section (p ∷ programs) rows few =
    (p.rows, sum_by row_count programs, All-head (HasRows section) p programs rows, All-head (λ (q : ProgramRead). length q.rows ≤ row_limit) p programs few, given section programs (All-tail (HasRows section) p programs rows) (All-tail (λ (q : ProgramRead). length q.rows ≤ row_limit) p programs few), sum_by-cons row_count p programs)

programs_faultless : (file : List ℕ) (reach : Reach) (r : Linkable) → AreProgramsInOrder file reach r → (kind : Kind) (place : ℕ) → FaultOfPrograms file kind place → ⊥
programs_faultless file reach r order kind place (inner, here, f) =
    let programs = order.programs in
    lines_whole (debug_line file) (line_heads r.programs) (sum_by row_count r.programs) programs.tiled (given (debug_line file) r.programs programs.given order.few.each) order.few.all (kind, inner, f)

units_faultless : (file : List ℕ) (reach : Reach) (r : Linkable) → AreUnitsInOrder file reach r → (kind : Kind) (place : ℕ) → FaultOfUnits file kind place → ⊥
units_faultless file reach r order kind place f =
    let units = order.units in
    elim f [
      | inl entries ↦ info_faultless (debug_info file) (debug_abbrev file) r.units units.tiled units.each units.within kind entries.0 entries.2
      | inr others ↦ elim others [
        | inl tables ↦ tables_faultless (debug_info file) (debug_abbrev file) r.units units.tiled units.each units.within kind tables.0 tables.2
        | inr parts ↦ parts_faultless parts.0 parts.1.0 parts.1.2
      ]
    ]
  where
    -- the contributions of a kind have no fault
    parts_faultless : (of : ListKind) (inner : ℕ) → FaultContributions (debug_lists file of) kind inner → ⊥
    parts_faultless of inner fault =
        let are = order.lists of in
        let section = of_kind r of in
        parts_whole section.section section.parts are.tiled (kind, inner, subst (λ (z : List ℕ). FaultContributions z kind inner) (sym are.bytes_are) fault)

-- the passes before one have no fault
abbrev HaveNone : ℕ → List ℕ → Reach → Type 0
HaveNone n file reach = (pass : Pass) (kind : Kind) (place : ℕ) → order_of pass < n → FaultOfPass pass file reach kind place → ⊥

before_file : (file : List ℕ) (reach : Reach) → HaveNone 1 file reach
before_file file reach OfFile kind place less f = absurd (omega arith)
before_file file reach pass kind place less f = absurd (omega arith)

before_names : (file : List ℕ) (reach : Reach) → ((kind : Kind) (place : ℕ) → FaultOfFile file reach kind place → ⊥) → HaveNone 2 file reach
before_names file reach none OfFile kind place less f = none kind place f
before_names file reach none pass kind place less f = absurd (omega arith)

before_programs : (file : List ℕ) (reach : Reach) → IsImageInOrder file reach → HaveNone 3 file reach
before_programs file reach order OfFile kind place less f = file_faultless file reach order kind place f
before_programs file reach order OfNames kind place less f = names_faultless file reach order kind place f
before_programs file reach order pass kind place less f = absurd (omega arith)

before_units : (file : List ℕ) (reach : Reach) (r : Linkable) → AreProgramsInOrder file reach r → HaveNone 4 file reach
before_units file reach r order OfFile kind place less f = before_programs file reach order.before OfFile kind place (omega arith) f
before_units file reach r order OfNames kind place less f = before_programs file reach order.before OfNames kind place (omega arith) f
before_units file reach r order OfPrograms kind place less f = programs_faultless file reach r order kind place f
before_units file reach r order pass kind place less f = absurd (omega arith)

before_links : (file : List ℕ) (reach : Reach) (r : Linkable) → AreUnitsInOrder file reach r → HaveNone 5 file reach
before_links file reach r order OfFile kind place less f = before_units file reach r order.before OfFile kind place (omega arith) f
before_links file reach r order OfNames kind place less f = before_units file reach r order.before OfNames kind place (omega arith) f
before_links file reach r order OfPrograms kind place less f = before_units file reach r order.before OfPrograms kind place (omega arith) f
before_links file reach r order OfUnits kind place less f = units_faultless file reach r order kind place f
before_links file reach r order pass kind place less f = absurd (omega arith)

before_lists : (file : List ℕ) (reach : Reach) (r : Linkable) → AreLinksInOrder file reach r → HaveNone 6 file reach
before_lists file reach r order OfFile kind place less f = before_links file reach r order.before OfFile kind place (omega arith) f
before_lists file reach r order OfNames kind place less f = before_links file reach r order.before OfNames kind place (omega arith) f
before_lists file reach r order OfPrograms kind place less f = before_links file reach r order.before OfPrograms kind place (omega arith) f
before_lists file reach r order OfUnits kind place less f = before_links file reach r order.before OfUnits kind place (omega arith) f
before_lists file reach r order OfLinks kind place less f = links_whole file r order.read order.linked order.roots order.sets.0 order.sets.1 reach order.within kind place f
before_lists file reach r order OfLists kind place less f = absurd (omega arith)

pub first_faults : FirstFaultsDecide
first_faults = record {
  file = λ file reach kind place f. record { pass = OfFile; fault = f; first = before_file file reach };
  names = λ file reach kind place none f. record { pass = OfNames; fault = f; first = before_names file reach none };
  programs = λ file reach kind place order f. record { pass = OfPrograms; fault = f; first = before_programs file reach order };
  units = λ file reach r kind place order f. record { pass = OfUnits; fault = f; first = before_units file reach r order };
  links = λ file reach r kind place order f. record { pass = OfLinks; fault = f; first = before_links file reach r order };
  lists = λ file reach r kind place order f. record { pass = OfLists; fault = f; first = before_lists file reach r order };
}

-- what means something, with its expressions within the limits, is in order up to its lists
in_order : (file : List ℕ) (reach : Reach) (r : Reading) (debug : Debug) → AreUnitsInOrder file reach r.links → IsReading file r → MeansDebug file r debug → AreExpressionsWithin r.links reach → AreLinksInOrder file reach r.links
in_order file reach r debug order read means within = record { before = order; read = read.links; linked = meanings_linked file r debug read means; within = within; roots = read.roots; sets = (r.sets, read.sets) }

pub valid_meaning : MeaningFilesAreValid
valid_meaning file reach r debug order read means within few OfLists kind place f = lists_whole file reach r read few kind place f
valid_meaning file reach r debug order read means within few pass kind place f = before_lists file reach r.links (in_order file reach r debug order read means within) pass kind place (omega arith) f
