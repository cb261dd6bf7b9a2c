-- The line number programs of a valid file keep the limits of rows, and are what a writer of such programs asks for.
use Rattle.std.proofs.Common.{◌≡◌, ◌≤◌, ◌<◌, ◌+◌, ◌∙◌, ◌++◌, ℕ, List, [], ◌∷◌, length, map, sym, ap, refl, subst, arith, inl, inr}
use Rattle.std.specs.List.{All, AllZip, sum_by}
use Rattle.std.proofs.lemmas.Bool.{cases_lt}
use Rattle.std.proofs.lemmas.List.{append-nil}
use Rattle.std.proofs.lemmas.List.Elements.{All-nil, All-cons, All-head, All-tail, All-map}
use Rattle.std.proofs.lemmas.List.Sums.{sum_by-cons}
use Rattle.dw_base.specs.declared.fault.Kind.TheVariants.{Limit}
use Rattle.dw_base.specs.declared.fault.Reach.{Reach}
use Rattle.line_machine.specs.declared.head.Head.{Head}
use Rattle.line_machine.specs.declared.registers.Row.{Row}
use Rattle.line_machine.specs.Rows.{GivesRows}
use Rattle.line_machine.specs.Heads.{IsHead, program_of}
use Rattle.line_machine.specs.Faults.{row_limit, IsLong}
use Rattle.line_write.specs.Programs.{Follow}
use Rattle.line_write.specs.Faults.{total_limit, HaveRows, LinesFault}
use Rattle.line_write.specs.Readings.{AreRead}
use Rattle.line_write.proofs.ReadBack.{bounds}
use Rattle.line_write.proofs.Tiling.{follow_push}
use Rattle.value_links.specs.Sections.{debug_line, offset_named, line_name}
use Rattle.value_links.specs.Reading.{ProgramRead, Reading, line_heads, HasRows, AreProgramsIn}
use Rattle.value_links.specs.Whole.{IsReading}
use Rattle.value_links.specs.Faults.{IsValid}
use Rattle.value_links.specs.Faults.Pass.{OfPrograms}
use Rattle.value_links.specs.Laws.{HaveFewRows}

rows_push : (section : List ℕ) (heads : List Head) (head : Head) (n : ℕ) (rows : List Row) → HaveRows section heads n → GivesRows head (program_of section head) rows → HaveRows section (heads ++ head ∷ []) (n + length rows)
rows_push section [] head n rows e given =
    let none : n ≡ 0 = e in
    (rows, 0, given, refl, omega (arith, none))
rows_push section (x ∷ heads) head n rows (r, others, g, v, e) given =
    let sum : n ≡ length r + others = e in
    (r, others + length rows, g, rows_push section heads head others rows v given, omega (arith, sum))

-- how many rows programs have
abbrev rows_of : List ProgramRead → ℕ
rows_of programs = sum_by (λ (p : ProgramRead). length p.rows) programs

abbrev HasFew : ProgramRead → Type 0
HasFew p = length p.rows ≤ row_limit

record HaveFewFrom (count : ℕ) (programs : List ProgramRead) : Type 0 where
  each : All HasFew programs
  all : count + rows_of programs ≤ total_limit

-- a program of too many rows has a fault
long_program : (section : List ℕ) (head : Head) (rows : List Row) → GivesRows head (program_of section head) rows → row_limit < length rows → IsLong head (program_of section head)
long_program section head rows given long =
    (given.opcodes, program_of section head, [], given.spelled, sym (append-nil (program_of section head)), subst (λ (z : List Row). row_limit < length z) given.given long)

module _ (section : List ℕ) (sound : (place : ℕ) → LinesFault section Limit place → ⊥) where
  few_here : (before : List Head) (p : ProgramRead) → Follow section before 0 p.head.at → IsHead section p.head → HasRows section p → HasFew p
  few_here before p front stands given =
      let b = bounds section p.head.at stands.rules in
      let inside : p.head.at < length section = (let i = b.inside in omega arith) in
      elim (cases_lt row_limit (length p.rows)) [
        | inl long ↦ absurd (sound p.head.at (inl (record {
          heads = before;
          at = p.head.at;
          front = front;
          inside = inside;
          fault = inr (stands.rules, (refl, subst (λ (z : Head). IsLong z (program_of section z)) stands.fields (long_program section p.head p.rows given long)));
        })))
        | inr few ↦ few
      ]

  total_here : (before : List Head) (count : ℕ) (p : ProgramRead) → Follow section before 0 p.head.at → IsHead section p.head → HasRows section p → HaveRows section before count → count ≤ total_limit → count + length p.rows ≤ total_limit
  total_here before count p front stands given counted within =
      elim (cases_lt total_limit (count + length p.rows)) [
        | inl past ↦ absurd (sound p.head.at (inr (record {
          heads = before;
          head = p.head;
          front = front;
          stands = stands;
          before = count;
          counted = counted;
          rows = p.rows;
          given = given;
          within = within;
          past = past;
          here = refl;
        })))
        | inr few ↦ few
      ]

  few_from : (before : List Head) (count : ℕ) (programs : List ProgramRead) (at : ℕ) → Follow section before 0 at → HaveRows section before count → count ≤ total_limit → Follow section (line_heads programs) at (length section) → All (HasRows section) programs → HaveFewFrom count programs
  few_from before count [] at front counted within rest given = record { each = All-nil HasFew; all = omega (arith, within) }
  few_from before count (p ∷ programs) at front counted within (here, stands, rest) given =
      let same : p.head.at ≡ at = here in
      let own : HasRows section p = All-head (HasRows section) p programs given in
      let to : Follow section before 0 p.head.at = subst (λ (z : ℕ). Follow section before 0 z) (sym same) front in
      let total = total_here before count p to stands own counted within in
      let more = few_from (before ++ p.head ∷ []) (count + length p.rows) programs (at + p.head.len) (follow_push section before p.head 0 at front same stands) (rows_push section before p.head count p.rows counted own) total rest (All-tail (HasRows section) p programs given) in
      let sum : rows_of (p ∷ programs) ≡ length p.rows + rows_of programs = sum_by-cons (λ (q : ProgramRead). length q.rows) p programs in
      let all = more.all in
      record { each = All-cons HasFew p programs (few_here before p to stands own) more.each; all = omega (arith, sum, all) }

-- the programs of a valid file keep the limits
pub few_rows : (file : List ℕ) (reach : Reach) (r : Reading) → IsValid file reach → IsReading file r → HaveFewRows r.links.programs
few_rows file reach r valid read =
    let section : List ℕ = debug_line file in
    let few = few_from section (λ place fault. valid OfPrograms Limit (offset_named file line_name + place) (place, refl, fault)) [] 0 r.links.programs 0 refl refl (omega arith) read.links.programs.tiled read.links.programs.given in
    let all = few.all in
    record { each = few.each; all = omega (arith, all) }

given_zip : (section : List ℕ) (programs : List ProgramRead) → All (HasRows section) programs → AllZip (λ (head : Head) (rows : List Row). GivesRows head (program_of section head) rows) (line_heads programs) (map (λ (p : ProgramRead). p.rows) programs)
given_zip section [] given = tt
given_zip section (p ∷ programs) given = (All-head (HasRows section) p programs given, given_zip section programs (All-tail (HasRows section) p programs given))

sum_rows : (programs : List ProgramRead) → sum_by (λ (rows : List Row). length rows) (map (λ (p : ProgramRead). p.rows) programs) ≡ rows_of programs
sum_rows [] = refl
sum_rows (p ∷ programs) =
    sum_by-cons (λ (rows : List Row). length rows) p.rows (map (λ (q : ProgramRead). q.rows) programs)
    ∙ ap (λ z. length p.rows + z) (sum_rows programs)
    ∙ sym (sum_by-cons (λ (q : ProgramRead). length q.rows) p programs)

-- and can be written anew
pub programs_read : (section : List ℕ) (programs : List ProgramRead) → AreProgramsIn section programs → HaveFewRows programs → AreRead section (line_heads programs)
programs_read section programs are few =
    let sum = sum_rows programs in
    let all = few.all in
    record {
      tiled = are.tiled;
      rows = map (λ (p : ProgramRead). p.rows) programs;
      given = given_zip section programs are.given;
      each = All-map (λ (rows : List Row). length rows ≤ row_limit) (λ (p : ProgramRead). p.rows) programs few.each;
      all = omega (arith, sum, all);
    }

-- PROGRAMS WRITTEN ANEW

-- heads with their rows
abbrev pub programs_of : List Head → List (List Row) → List ProgramRead
programs_of [] rows = []
programs_of (head ∷ heads) [] = []
programs_of (head ∷ heads) (r ∷ rows) = (record { head = head; rows = r }) ∷ programs_of heads rows

-- What is read of programs, with their rows.
pub record AreProgramsWith (section : List ℕ) (heads : List Head) (rows : List (List Row)) : Type 0 where
  pub same : line_heads (programs_of heads rows) ≡ heads
  pub given : All (HasRows section) (programs_of heads rows)
  pub each : All HasFew (programs_of heads rows)
  pub sum : rows_of (programs_of heads rows) ≡ sum_by (λ (r : List Row). length r) rows

programs_with : (section : List ℕ) (heads : List Head) (rows : List (List Row)) → AllZip (λ (head : Head) (r : List Row). GivesRows head (program_of section head) r) heads rows → All (λ (r : List Row). length r ≤ row_limit) rows → AreProgramsWith section heads rows
programs_with section [] [] given few = record { same = refl; given = All-nil (HasRows section); each = All-nil HasFew; sum = refl }
programs_with section [] (r ∷ rows) given few = absurd given
programs_with section (head ∷ heads) [] given few = absurd given
programs_with section (head ∷ heads) (r ∷ rows) (g, given) few =
    let more = programs_with section heads rows given (All-tail (λ (x : List Row). length x ≤ row_limit) r rows few) in
    let p : ProgramRead = record { head = head; rows = r } in
    record {
      same = ap (λ (z : List Head). head ∷ z) more.same;
      given = All-cons (HasRows section) p (programs_of heads rows) g more.given;
      each = All-cons HasFew p (programs_of heads rows) (All-head (λ (x : List Row). length x ≤ row_limit) r rows few) more.each;
      sum = sum_by-cons (λ (q : ProgramRead). length q.rows) p (programs_of heads rows) ∙ ap (λ z. length r + z) more.sum ∙ sym (sum_by-cons (λ (x : List Row). length x) r rows);
    }

-- heads that are read are those of programs with few rows
pub record AreProgramsFew (section : List ℕ) (heads : List Head) : Type 0 where
  pub programs : List ProgramRead
  pub same : line_heads programs ≡ heads
  pub are : AreProgramsIn section programs
  pub few : HaveFewRows programs

pub programs_few : (section : List ℕ) (heads : List Head) → AreRead section heads → AreProgramsFew section heads
programs_few section heads read =
    let w = programs_with section heads read.rows read.given read.each in
    let sum = w.sum in
    let all = read.all in
    record {
      programs = programs_of heads read.rows;
      same = w.same;
      are = record { tiled = subst (λ (z : List Head). Follow section z 0 (length section)) (sym w.same) read.tiled; given = w.given };
      few = record { each = w.each; all = omega (arith, sum, all) };
    }
