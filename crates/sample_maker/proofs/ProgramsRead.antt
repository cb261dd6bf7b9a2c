-- The line number programs of what is drawn: they are read, and mean what is generated.
use Rattle.std.proofs.Common.{◌≡◌, ◌≤◌, ◌<◌, ◌+◌, ◌*◌, ℕ, zero, suc, List, [], ◌∷◌, length, take, sym, ap, refl, subst, arith}
use Rattle.std.specs.Prelude.{slice_index_or}
use Rattle.std.specs.List.{All, sum_by}
use Rattle.std.proofs.lemmas.List.{append-nil, length-append}
use Rattle.std.proofs.lemmas.List.Sums.{sum_by-cons}
use Rattle.line_machine.specs.Rows.{GivesRows}
use Rattle.line_machine.specs.Faults.{row_limit}
use Rattle.line_write.specs.Programs.{Follow}
use Rattle.line_write.specs.Meaning.{HasMeaning, HaveMeanings}
use Rattle.line_write.proofs.Pieces.{Holds, held_front, held_after}
use Rattle.value_links.specs.Reading.{ProgramRead, line_heads, HasRows, AreProgramsIn, no_program}
use Rattle.value_links.specs.Laws.{HaveFewRows}
use Rattle.sample_maker.specs.Numbered.{map_from}
use Rattle.sample_maker.specs.Drawn.{UnitDrawn}
use Rattle.sample_maker.specs.Generated.{program_meaning}
use Rattle.sample_maker.specs.inside.Bytes.{opcodes_bytes, program_bytes}
use Rattle.sample_maker.specs.inside.Files.{lines_bytes}
use Rattle.sample_maker.specs.inside.Small.{IsUnitSmall}
use Rattle.sample_maker.specs.inside.ReadLines.{program_head, opcodes_of, program_read, programs_read}
use Rattle.sample_maker.proofs.Lengths.{program_length}
use Rattle.sample_maker.proofs.ProgramHeads.{head_is, min_is, stmt_is, tables_are, program_is}
use Rattle.sample_maker.proofs.SequenceOpcodes.{first_of, others_of, sequences_spelled}
use Rattle.sample_maker.proofs.SequenceRows.{sequences_rows, sequences_sound, sequences_end, sequences_count}

-- ONE PROGRAM

gives_rows : (u at : ℕ) (unit : UnitDrawn) → u < 4096 → IsUnitSmall unit → GivesRows (program_head u at unit) (opcodes_bytes u unit) (program_read u at unit).rows
gives_rows u at unit few small =
    let eight : 0 + length unit ≤ 8 = omega (arith, small.few) in
    record {
      opcodes = opcodes_of u 0 unit;
      spelled = sequences_spelled u 0 unit few eight small.functions;
      sound = sequences_sound u at unit 0 unit few eight small.functions;
      given = sym (sequences_rows u at unit 0 unit few eight small.functions);
      ended = sequences_end u 0 unit;
    }

row_count : (u at : ℕ) (unit : UnitDrawn) → IsUnitSmall unit → length (program_read u at unit).rows ≤ 336
row_count u at unit small = omega (arith, sequences_count u 0 unit small.functions, small.few)

-- its length isn't a reserved one
short : (u : ℕ) (unit : UnitDrawn) → IsUnitSmall unit → length (program_bytes u unit) < 4294967280
short u unit small = omega (arith, program_length u unit small)

module _ (section : List ℕ) (u at : ℕ) (unit : UnitDrawn) (few : u < 4096) (small : IsUnitSmall unit) (stands : Holds section at (program_bytes u unit)) where
  has_rows : HasRows section (program_read u at unit)
  has_rows = subst (λ (z : List ℕ). GivesRows (program_head u at unit) z (program_read u at unit).rows) (sym (program_is section at u unit stands (short u unit small))) (gives_rows u at unit few small)

  has_meaning : HasMeaning section (program_head u at unit) (program_meaning u unit)
  has_meaning = record {
    min = sym (min_is section at u unit stands (short u unit small));
    is_stmt = sym (stmt_is section at u unit stands (short u unit small));
    tables = sym (tables_are section at u unit stands (short u unit small));
    rows = has_rows;
  }

-- THE PROGRAMS OF UNITS, of which the first has a number and its program stands at a place of a section

module _ (section : List ℕ) where
  first_stands : (u at : ℕ) (unit : UnitDrawn) (units : List UnitDrawn) → Holds section at (lines_bytes u (unit ∷ units)) → Holds section at (program_bytes u unit)
  first_stands u at unit units stands = held_front section at (program_bytes u unit) (lines_bytes (suc u) units) stands

  others_stand : (u at : ℕ) (unit : UnitDrawn) (units : List UnitDrawn) → Holds section at (lines_bytes u (unit ∷ units)) → Holds section (at + length (program_bytes u unit)) (lines_bytes (suc u) units)
  others_stand u at unit units stands = held_after section at (length (program_bytes u unit)) (at + length (program_bytes u unit)) (program_bytes u unit) (lines_bytes (suc u) units) stands refl refl

  heads_follow : (u at : ℕ) (units : List UnitDrawn) → u + length units ≤ 4096 → All IsUnitSmall units → Holds section at (lines_bytes u units) → Follow section (line_heads (programs_read u at units)) at (at + length (lines_bytes u units))
  heads_follow u at [] few small stands = omega arith
  heads_follow u at (unit ∷ units) few small stands =
      let here : IsUnitSmall unit = first_of IsUnitSmall unit units small in
      let next : ℕ = at + length (program_bytes u unit) in
      let end : next + length (lines_bytes (suc u) units) ≡ at + length (lines_bytes u (unit ∷ units)) = omega (arith, length-append (program_bytes u unit) (lines_bytes (suc u) units)) in
      let rest : Follow section (line_heads (programs_read (suc u) next units)) next (next + length (lines_bytes (suc u) units)) = heads_follow (suc u) next units (omega (arith, few)) (others_of IsUnitSmall unit units small) (others_stand u at unit units stands) in
      (refl, head_is section at u unit (first_stands u at unit units stands) (short u unit here), subst (λ (z : ℕ). Follow section (line_heads (programs_read (suc u) next units)) next z) end rest)

  rows_given : (u at : ℕ) (units : List UnitDrawn) → u + length units ≤ 4096 → All IsUnitSmall units → Holds section at (lines_bytes u units) → (k : ℕ) (d : ProgramRead) → k < length (programs_read u at units) → HasRows section (slice_index_or (programs_read u at units) k d)
  rows_given u at [] few small stands k d lt = absurd (omega (arith, lt))
  rows_given u at (unit ∷ units) few small stands zero d lt = has_rows section u at unit (omega (arith, few)) (first_of IsUnitSmall unit units small) (first_stands u at unit units stands)
  rows_given u at (unit ∷ units) few small stands (suc k) d lt = rows_given (suc u) (at + length (program_bytes u unit)) units (omega (arith, few)) (others_of IsUnitSmall unit units small) (others_stand u at unit units stands) k d (omega (arith, lt))

  have_meanings : (u at : ℕ) (units : List UnitDrawn) → u + length units ≤ 4096 → All IsUnitSmall units → Holds section at (lines_bytes u units) → HaveMeanings section (line_heads (programs_read u at units)) (map_from program_meaning u units)
  have_meanings u at [] few small stands = tt
  have_meanings u at (unit ∷ units) few small stands =
      (has_meaning section u at unit (omega (arith, few)) (first_of IsUnitSmall unit units small) (first_stands u at unit units stands), have_meanings (suc u) (at + length (program_bytes u unit)) units (omega (arith, few)) (others_of IsUnitSmall unit units small) (others_stand u at unit units stands))

each_few : (u at : ℕ) (units : List UnitDrawn) → All IsUnitSmall units → (k : ℕ) (d : ProgramRead) → k < length (programs_read u at units) → length (slice_index_or (programs_read u at units) k d).rows ≤ row_limit
each_few u at [] small k d lt = absurd (omega (arith, lt))
each_few u at (unit ∷ units) small zero d lt = omega (arith, row_count u at unit (first_of IsUnitSmall unit units small))
each_few u at (unit ∷ units) small (suc k) d lt = each_few (suc u) (at + length (program_bytes u unit)) units (others_of IsUnitSmall unit units small) k d (omega (arith, lt))

all_few : (u at : ℕ) (units : List UnitDrawn) → All IsUnitSmall units → sum_by (λ (p : ProgramRead). length p.rows) (programs_read u at units) ≤ 336 * length units
all_few u at [] small = omega arith
all_few u at (unit ∷ units) small =
    let next : ℕ = at + length (program_bytes u unit) in
    omega (arith, sum_by-cons (λ (p : ProgramRead). length p.rows) (program_read u at unit) (programs_read (suc u) next units), row_count u at unit (first_of IsUnitSmall unit units small), all_few (suc u) next units (others_of IsUnitSmall unit units small))

-- there is one for each unit
pub program_count : (u at : ℕ) (units : List UnitDrawn) → length (programs_read u at units) ≡ length units
program_count u at [] = refl
program_count u at (unit ∷ units) = ap suc (program_count (suc u) (at + length (program_bytes u unit)) units)

-- each begins behind those before it
pub program_place : (u at : ℕ) (units : List UnitDrawn) (p : ℕ) (d : ProgramRead) → p < length units → (slice_index_or (programs_read u at units) p d).head.at ≡ at + length (lines_bytes u (take p units))
program_place u at [] p d lt = absurd (omega (arith, lt))
program_place u at (unit ∷ units) zero d lt = omega arith
program_place u at (unit ∷ units) (suc p) d lt =
    let next : ℕ = at + length (program_bytes u unit) in
    omega (arith, program_place (suc u) next units p d (omega (arith, lt)), length-append (program_bytes u unit) (lines_bytes (suc u) (take p units)))

-- ALL PROGRAMS OF A FILE

module _ (units : List UnitDrawn) (small : All IsUnitSmall units) (few : length units ≤ 4096) where
  whole : Holds (lines_bytes 0 units) 0 (lines_bytes 0 units)
  whole = record { front = []; rest = []; whole = sym (append-nil (lines_bytes 0 units)); here = refl }

  below : 0 + length units ≤ 4096
  below = omega (arith, few)

  -- they are all of .debug_line
  pub programs_in : AreProgramsIn (lines_bytes 0 units) (programs_read 0 0 units)
  programs_in =
      let end : 0 + length (lines_bytes 0 units) ≡ length (lines_bytes 0 units) = omega arith in
      record {
        tiled = subst (λ (z : ℕ). Follow (lines_bytes 0 units) (line_heads (programs_read 0 0 units)) 0 z) end (heads_follow (lines_bytes 0 units) 0 0 units below small whole);
        given = λ k d lt. rows_given (lines_bytes 0 units) 0 0 units below small whole k d lt;
      }

  -- their meanings
  pub programs_mean : HaveMeanings (lines_bytes 0 units) (line_heads (programs_read 0 0 units)) (map_from program_meaning 0 units)
  programs_mean = have_meanings (lines_bytes 0 units) 0 0 units below small whole

  -- their rows keep the limits
  pub few_rows : HaveFewRows (programs_read 0 0 units)
  few_rows = record {
    each = λ k d lt. each_few 0 0 units small k d lt;
    all = omega (arith, all_few 0 0 units small, few);
  }

  -- the place that names the program with a number
  pub program_named : (p : ℕ) → p < length units → (p < length (programs_read 0 0 units)) × ((slice_index_or (programs_read 0 0 units) p no_program).head.at ≡ length (lines_bytes 0 (take p units)))
  program_named p lt = (omega (arith, program_count 0 0 units, lt), omega (arith, program_place 0 0 units p no_program lt))
