-- The line number programs of a valid file: they have no faults, and numbers of 32 bits name them.
use Rattle.std.proofs.Common.{◌≡◌, ◌≤◌, ◌<◌, ◌+◌, ◌-◌, ◌*◌, ◌^◌, ◌++◌, ℕ, zero, suc, List, [], ◌∷◌, length, drop, get_or, sym, ap, refl, subst, arith, inl, inr}
use Rattle.std.specs.Prelude.{Option, Some, None}
use Rattle.std.specs.List.{All}
use Rattle.std.proofs.lemmas.Bool.{cases_lt}
use Rattle.std.proofs.lemmas.List.{length-take, length-drop}
use Rattle.std.proofs.lemmas.List.Elements.{All-head, All-tail}
use Rattle.dw_base.specs.declared.fault.Kind.{Kind}
use Rattle.dw_base.specs.declared.fault.Kind.TheVariants.{Limit}
use Rattle.dw_base.specs.declared.fault.Reach.{Reach}
use Rattle.dw_base.specs.declared.fault.Reach.TheVariants.{Narrow, Wide}
use Rattle.dw_base.specs.Refusals.{IsFaulty}
use Rattle.elf_sections.specs.Elf.{body_span}
use Rattle.elf_sections.specs.Faults.{file_limit}
use Rattle.fixed_width.specs.InitialLengths.{unit_end}
use Rattle.line_machine.specs.declared.head.Head.{Head}
use Rattle.line_machine.specs.Heads.{IsHead}
use Rattle.line_machine.specs.Faults.{OpcodesFault, ProgramFault}
use Rattle.line_write.specs.Programs.{Follow}
use Rattle.line_write.specs.Faults.{FaultOfUnit, LinesFault}
use Rattle.line_write.proofs.ReadBack.{bounds}
use Rattle.line_write.proofs.Tiling.{follow_push}
use Rattle.value_links.specs.Sections.{body_or_none, section_named, debug_line, offset_named, line_name}
use Rattle.value_links.specs.Reading.{ProgramRead, line_heads, no_program, HasRows, AreProgramsOf}
use Rattle.value_links.specs.Faults.{IsValid}
use Rattle.value_links.specs.Faults.Pass.{OfFile, OfPrograms}
use Rattle.same_meaning.specs.inside.Programs.{IsWholeProgram}

-- HOW MANY THERE ARE

-- a program has more than 16 bytes
counted : (section : List ℕ) (heads : List Head) (from end : ℕ) → Follow section heads from end → from + 16 * length heads ≤ end
counted section [] from end follow = let here : from ≡ end = follow in omega arith
counted section (head ∷ heads) from end (at, stands, rest) =
    let here : head.at ≡ from = at in
    let bound = bounds section head.at stands.rules in
    let len : head.len ≡ unit_end section head.at - head.at = ap (λ (z : Head). z.len) stands.fields in
    let behind : from + head.len + 16 * length heads ≤ end = counted section heads (from + head.len) end rest in
    omega arith

pub body_short : (file : List ℕ) (found : Option ℕ) → length (body_or_none file found) ≤ length file
body_short file None = omega arith
body_short file (Some i) =
    let from : ℕ = (body_span file i).at in
    let len : ℕ = (body_span file i).at + (body_span file i).len - (body_span file i).at in
    omega (arith, length-take len (drop from file), length-drop from file)

within_limit : (reach : Reach) → file_limit reach ≤ 2 ^ 35
within_limit Narrow = omega arith
within_limit Wide = omega arith

pub file_short : (file : List ℕ) (reach : Reach) → IsValid file reach → length file ≤ 2 ^ 35
file_short file reach valid = elim (cases_lt (file_limit reach) (length file)) [
  | inl past ↦ absurd (valid OfFile Limit 0 (inl (refl, past)))
  | inr short ↦ let limit = within_limit reach in omega arith
]

pub few_programs : (file : List ℕ) (reach : Reach) (programs : List ProgramRead) → IsValid file reach → AreProgramsOf file programs → length (line_heads programs) < 2 ^ 32
few_programs file reach programs valid are =
    let bytes : length (debug_line file) ≤ length file = body_short file (section_named file line_name) in
    let most = file_short file reach valid in
    let count : 0 + 16 * length (line_heads programs) ≤ length (debug_line file) = counted (debug_line file) (line_heads programs) 0 (length (debug_line file)) are.tiled in
    omega arith

-- WHAT THEY ARE

-- a fault of a unit's opcodes is one of the section
lines_fault : (section : List ℕ) (kind : Kind) (place : ℕ) → FaultOfUnit section kind place → LinesFault section kind place
lines_fault section Limit place f = inl f
lines_fault section kind place f = f

program_fault : (section : List ℕ) (head : Head) (kind : Kind) (place : ℕ) → OpcodesFault section head kind place → ProgramFault section head kind place
program_fault section head Limit place f = absurd f
program_fault section head kind place f = f

module _ (section : List ℕ) (sound : (kind : Kind) (place : ℕ) → LinesFault section kind place → ⊥) where
  -- the program of a head that stands after others has no fault
  faultless : (before : List Head) (head : Head) → Follow section before 0 head.at → IsHead section head → ¬ IsFaulty (OpcodesFault section head)
  faultless before head front stands (kind, place, f) =
      let bound = bounds section head.at stands.rules in
      let inside : head.at < length section = (let i = bound.inside in omega arith) in
      sound kind place (lines_fault section kind place (record {
        heads = before;
        at = head.at;
        front = front;
        inside = inside;
        fault = inr (stands.rules, subst (λ (z : Head). ProgramFault section z kind place) stands.fields (program_fault section head kind place f));
      }))

  whole_from : (before : List Head) (programs : List ProgramRead) (at : ℕ) → Follow section before 0 at → Follow section (line_heads programs) at (length section) → All (HasRows section) programs → (p : ℕ) → p < length programs → IsWholeProgram section (get_or programs p no_program).head
  whole_from before [] at front rest given p inside = absurd (omega arith)
  whole_from before (q ∷ programs) at front (here, stands, rest) given zero inside =
      let same : q.head.at ≡ at = here in
      record {
        stands = stands;
        given = (q.rows, All-head (HasRows section) q programs given);
        faultless = faultless before q.head (subst (λ (z : ℕ). Follow section before 0 z) (sym same) front) stands;
      }
  whole_from before (q ∷ programs) at front (here, stands, rest) given (suc p) inside =
      whole_from (before ++ q.head ∷ []) programs (at + q.head.len) (follow_push section before q.head 0 at front here stands) rest (All-tail (HasRows section) q programs given) p (omega arith)

pub programs_whole : (file : List ℕ) (reach : Reach) (programs : List ProgramRead) → IsValid file reach → AreProgramsOf file programs → (p : ℕ) → p < length programs → IsWholeProgram (debug_line file) (get_or programs p no_program).head
programs_whole file reach programs valid are =
    whole_from (debug_line file) (λ kind place f. valid OfPrograms kind (offset_named file line_name + place) (place, refl, f)) [] programs 0 refl are.tiled are.given
