-- The opcodes of all rows: they give the rows, and are as short as can be under their pair.
use Rattle.std.proofs.Common.{◌≡◌, ◌≤◌, ◌<◌, ◌+◌, ◌*◌, ◌^◌, ◌∙◌, ℕ, List, [], ◌∷◌, ◌++◌, length, take, sym, ap, refl, subst, arith, inl, inr}
use Rattle.std.specs.Prelude.{ℤ, pos, ◌-ℤ◌, Bool, true, false, All, FitsSigned}
use Rattle.std.specs.Int.{w8}
use Rattle.std.proofs.lemmas.Int.{ints}
use Rattle.std.proofs.lemmas.Bool.{cases_Bool, cases_eq, true≢false}
use Rattle.std.proofs.lemmas.List.{take_all}
use Rattle.std.proofs.lemmas.List.Elements.{All-head, All-tail}
use Rattle.spelled.specs.Spelled.{Joined}
use Rattle.leb_codec.specs.LineCosts.{register_bytes, stmt_bytes, flag_bytes, discriminator_bytes, address_distance}
use Rattle.line_machine.specs.declared.head.Head.{Head}
use Rattle.line_machine.specs.declared.opcode.Opcode.{Opcode}
use Rattle.line_machine.specs.declared.registers.Registers.{Registers}
use Rattle.line_machine.specs.declared.registers.Row.{Row}
use Rattle.line_machine.specs.Opcodes.{SpellsOpcode}
use Rattle.line_machine.specs.Rows.{start, end_row, HasLine}
use Rattle.line_machine.specs.Class.{with_pair, IsPair, IsEncoding, IsRow, AreRows}
use Rattle.line_step.proofs.RowWays.{step_few}
use Rattle.line_sums.specs.declared.step.Step.{Step}
use Rattle.line_sums.specs.declared.step.Step.TheVariants.{Row as RowStep, End as EndStep}
use Rattle.line_params.specs.Shortest.{ShortestOpcode}
use Rattle.line_sums.specs.Steps.{step_to, steps_from, steps_of, StepCosts, StepsWithin, left_by, set_bytes, set_bytes_from, fixed_bytes}
use Rattle.line_params.specs.Order.{RowOpcodes, EndOpcodes, OpcodesIf, RowsOpcodes, AreInOrder}
use Rattle.line_params.specs.inside.Appended.{RowFits}
use Rattle.line_params.proofs.ShortestLaws.{shortest_spell}
use Rattle.line_params.proofs.Doing.{Does, does_none, does_append, len_most}
use Rattle.line_sums.proofs.FixedBytes.{register_same, register_other, no_discriminator, some_discriminator}
use Rattle.line_params.proofs.Setting.{IsClear}
use Rattle.line_params.proofs.Rowwise.{Written, behind, left_line, written_order}
use Rattle.line_params.proofs.Rowwork.{does_row, does_end}

-- the registers between rows
pub record IsBetween (r : Registers) : Type 0 where
  pub clear : IsClear r
  pub fits : r.address < 2 ^ 64
  pub line : HasLine r

pub between_start : (stmt : Bool) → IsBetween (start stmt)
between_start stmt = record {
  clear = record { no_discriminator = refl; no_block = refl; no_prologue = refl; no_epilogue = refl };
  fits = omega arith;
  line = (omega (arith, ints), omega (arith, ints));
}

left_clear : (stmt : Bool) (row : Row) → IsClear (left_by stmt row)
left_clear stmt row =
    elim (cases_Bool row.end) [
      | inl e ↦ rw e (record { no_discriminator = refl; no_block = refl; no_prologue = refl; no_epilogue = refl })
      | inr e ↦ rw e (record { no_discriminator = refl; no_block = refl; no_prologue = refl; no_epilogue = refl })
    ]

left_fits : (stmt : Bool) (row : Row) → row.address < 2 ^ 64 → (left_by stmt row).address < 2 ^ 64
left_fits stmt row fits =
    elim (cases_Bool row.end) [
      | inl e ↦ rw e (omega arith)
      | inr e ↦ rw e fits
    ]

between_left : (stmt : Bool) (row : Row) → IsRow row → RowFits row → IsBetween (left_by stmt row)
between_left stmt row is fits = record { clear = left_clear stmt row; fits = left_fits stmt row fits.address_fits; line = left_line stmt row is }

-- ---- bounds

register_few : (from to : ℕ) → to < 2 ^ 64 → register_bytes from to ≤ 11
register_few from to fits =
    let len = len_most to fits in
    elim (cases_eq from to) [
      | inl e ↦ omega (arith, register_same from to e)
      | inr ne ↦ omega (arith, register_other from to ne)
    ]

discriminator_few : (to : ℕ) → to < 2 ^ 64 → discriminator_bytes to ≤ 13
discriminator_few to fits =
    let len = len_most to fits in
    elim (cases_eq to 0) [
      | inl e ↦ omega (arith, no_discriminator to e)
      | inr ne ↦ omega (arith, some_discriminator to ne)
    ]

stmt_few : (from to : Bool) → stmt_bytes from to ≤ 1
stmt_few true true = omega arith
stmt_few true false = omega arith
stmt_few false true = omega arith
stmt_few false false = omega arith

flag_few : (flag : Bool) → flag_bytes flag ≤ 1
flag_few true = omega arith
flag_few false = omega arith

set_few : (r : Registers) (row : Row) → RowFits row → row.end ≡ false → set_bytes r row ≤ 50
set_few r row fits e =
    let file = register_few r.file row.file fits.file_fits in
    let column = register_few r.column row.column fits.column_fits in
    let isa = register_few r.isa row.isa fits.isa_fits in
    let stmt = stmt_few r.stmt row.stmt in
    let block = flag_few row.block in
    let prologue = flag_few row.prologue in
    let epilogue = flag_few row.epilogue in
    let discriminator = discriminator_few row.discriminator fits.discriminator_fits in
    rw e (omega arith)

-- ---- one row

steps_are : (stmt : Bool) (r : Registers) (row : Row) (rows : List Row) → steps_from r.line r.address (row ∷ rows) ≡ step_to r.line r.address row ∷ steps_from (left_by stmt row).line (left_by stmt row).address rows
steps_are stmt r row rows =
    elim (cases_Bool row.end) [
      | inl e ↦ rw e refl
      | inr e ↦ rw e refl
    ]

-- What the opcodes of a row do, and that no fewer bytes are enough for it.
pub record Works (head : Head) (base : ℤ) (range : ℕ) (r : Registers) (row : Row) (opcodes : List Opcode) : Type 0 where
  pub bytes : ℕ
  pub does : Does (with_pair head base range) r opcodes (row ∷ []) (left_by head.stmt row) bytes
  pub least : (n : ℕ) → StepCosts base range head.min (step_to r.line r.address row) n → bytes ≤ set_bytes r row + n
  pub few : bytes ≤ 68

module _ (head : Head) (base : ℤ) (range : ℕ) where
  row_works : (r : Registers) (row : Row) (opcodes : List Opcode) → RowOpcodes base range head.min r row opcodes → IsBetween r → RowFits row → row.end ≡ false → row.line < 2 ^ 32 → Works head base range r row opcodes
  row_works r row opcodes o between fits not_end low =
      let way = o.stepped.way in
      let most = step_few base range head.min (pos row.line -ℤ r.line) (address_distance r.address row.address) way.bytes (omega (arith, ints, between.line)) (omega (arith, ints, between.line)) o.stepped.taken.least in
      record {
        bytes = set_bytes r row + way.bytes;
        does = does_row head base range opcodes r row o between.clear between.fits fits.address_fits low not_end;
        least = λ n enough.
            let step : step_to r.line r.address row ≡ RowStep (pos row.line -ℤ r.line) (address_distance r.address row.address) = rw not_end refl in
            let low2 = o.stepped.taken.least.least n (subst (λ (z : Step). StepCosts base range head.min z n) step enough) in
            omega arith;
        few = omega (arith, set_few r row fits not_end, most);
      }

  end_works : (r : Registers) (row : Row) (opcodes : List Opcode) → EndOpcodes range head.min (address_distance r.address row.address) row.address opcodes → IsBetween r → RowFits row → row ≡ end_row row.address → Works head base range r row opcodes
  end_works r row opcodes o between fits is =
      let way = o.way in
      let end : row.end ≡ true = ap (λ z. z.end) is in
      let most = o.taken.least.least 11 (inl (omega arith)) in
      let none : set_bytes r row ≡ 0 = rw end refl in
      record {
        bytes = set_bytes r row + (3 + way.bytes);
        does = does_end head base range opcodes r row o between.fits fits.address_fits is;
        least = λ n enough.
            let step : step_to r.line r.address row ≡ EndStep (address_distance r.address row.address) = rw end refl in
            let h = subst (λ (z : Step). StepCosts base range head.min z n) step enough in
            let low = o.taken.least.least h.0 h.1 in
            omega (arith, h.2, low);
        few = omega (arith, none, most);
      }

  -- a row of either kind
  works_if : (end : Bool) (r : Registers) (row : Row) (opcodes : List Opcode) → row.end ≡ end → OpcodesIf end base range head.min r row opcodes → IsBetween r → RowFits row → IsRow row → Works head base range r row opcodes
  works_if true r row opcodes e o between fits (inl is) = end_works r row opcodes o between fits is
  works_if true r row opcodes e o between fits (inr is) = absurd (true≢false (sym e ∙ is.0))
  works_if false r row opcodes e o between fits (inl is) = let end : row.end ≡ true = ap (λ z. z.end) is in absurd (true≢false (sym end ∙ e))
  works_if false r row opcodes e o between fits (inr is) = row_works r row opcodes o between fits e is.1

-- ---- all rows

-- The same of rows one after the other.
pub record WorksAll (head : Head) (base : ℤ) (range : ℕ) (r : Registers) (rows : List Row) (opcodes : List Opcode) : Type 0 where
  pub bytes : ℕ
  pub does : Does (with_pair head base range) r opcodes rows (behind head.stmt r rows) bytes
  pub least : (n : ℕ) → StepsWithin base range head.min (steps_from r.line r.address rows) n → bytes ≤ set_bytes_from head.stmt r rows + n
  pub few : bytes ≤ 68 * length rows

works_none : (head : Head) (base : ℤ) (range : ℕ) (r : Registers) → WorksAll head base range r [] []
unfolding behind
works_none head base range r = record {
  bytes = 0;
  does = does_none (with_pair head base range) r;
  least = λ n h. omega arith;
  few = omega arith;
}

works_cons : (head : Head) (base : ℤ) (range : ℕ) (r : Registers) (row : Row) (rows : List Row) (first rest : List Opcode) → Works head base range r row first → WorksAll head base range (left_by head.stmt row) rows rest → WorksAll head base range r (row ∷ rows) (first ++ rest)
unfolding behind
works_cons head base range r row rows first rest w more = record {
  bytes = w.bytes + more.bytes;
  does = does_append (with_pair head base range) r (left_by head.stmt row) (behind head.stmt (left_by head.stmt row) rows) first rest (row ∷ []) rows w.bytes more.bytes w.does more.does;
  least = λ n h.
      let p = subst (λ (z : List Step). StepsWithin base range head.min z n) (steps_are head.stmt r row rows) h in
      let one = w.least p.0 p.2 in
      let others = more.least p.1 p.3 in
      omega (arith, p.4, one, others);
  few = omega (arith, w.few, more.few);
}

works_all : (head : Head) (base : ℤ) (range : ℕ) (r : Registers) (rows : List Row) (opcodes : List Opcode) → RowsOpcodes head.stmt base range head.min r rows opcodes → IsBetween r → All RowFits rows → All IsRow rows → WorksAll head base range r rows opcodes
works_all head base range r [] opcodes e between fits are = subst (WorksAll head base range r []) (sym e) (works_none head base range r)
works_all head base range r (row ∷ rows) opcodes (first, rest, one, others, e) between fits are =
    let fit = All-head RowFits row rows fits in
    let is = All-head IsRow row rows are in
    let w = works_if head base range row.end r row first refl one between fit is in
    let more = works_all head base range (left_by head.stmt row) rows rest others (between_left head.stmt row is fit) (All-tail RowFits row rows fits) (All-tail IsRow row rows are) in
    subst (WorksAll head base range r (row ∷ rows)) (sym e) (works_cons head base range r row rows first rest w more)

joined_map : {V : Type 0} (S T : V → List ℕ → Type 0) → ((v : V) (bytes : List ℕ) → S v bytes → T v bytes) → (vs : List V) (bytes : List ℕ) → Joined S vs bytes → Joined T vs bytes
joined_map S T f [] bytes e = e
joined_map S T f (v ∷ vs) bytes (first, rest, s, j, e) = (first, rest, f v first s, joined_map S T f vs rest j, e)

-- What is said of a whole program.
pub record IsWhole (head : Head) (base : ℤ) (range : ℕ) (rows : List Row) (bytes : List ℕ) : Type 0 where
  pub gives : IsEncoding head rows (record { base = base; range = range; bytes = bytes })
  pub least : (k : ℕ) → StepsWithin base range head.min (steps_of rows) k → length bytes ≤ fixed_bytes head.stmt rows + k
  pub few : length bytes ≤ 68 * length rows
  pub order : AreInOrder head.stmt base range head.min rows bytes

whole_program : (head : Head) (base : ℤ) (range : ℕ) (rows : List Row) (bytes : List ℕ) → IsPair base range → AreInOrder head.stmt base range head.min rows bytes → AreRows rows → All RowFits rows → IsWhole head base range rows bytes
whole_program head base range rows bytes pair o are fits =
    let w = works_all head base range (start head.stmt) rows o.opcodes o.ordered (between_start head.stmt) fits are.each in
    let size = w.does.size bytes o.spelled in
    record {
      gives = record {
        pair = pair;
        gives = record {
          opcodes = o.opcodes;
          spelled = joined_map (ShortestOpcode 13) (SpellsOpcode 13) (shortest_spell 13) o.opcodes bytes o.spelled;
          sound = w.does.sound;
          given = sym w.does.given;
          ended = are.ended;
        };
      };
      least = λ k h. let low = w.least k h in omega (arith, low, size);
      few = omega (arith, w.few, size);
      order = o;
    }

pub pair_is : (base : ℤ) (range : ℕ) → FitsSigned w8 base → 0 < range → range < 2 ^ 8 → IsPair base range
pair_is base range fits some few = record {
  base_from = omega (arith, ints);
  base_to = omega (arith, ints);
  range_from = omega arith;
  range_to = omega arith;
}

-- the rows before the loop's end are all of them
pub written_program : (head : Head) (base : ℤ) (range : ℕ) (rows : List Row) (i : ℕ) (bytes : List ℕ) (r : Registers) → IsPair base range → Written head.stmt base range head.min (take i rows) bytes r → length rows ≤ i → AreRows rows → IsWhole head base range rows bytes
written_program head base range rows i bytes r pair w past are =
    let all = subst (λ (z : List Row). Written head.stmt base range head.min z bytes r) (take_all i rows past) w in
    whole_program head base range rows bytes pair (written_order head.stmt base range head.min rows bytes r all) are all.fits
