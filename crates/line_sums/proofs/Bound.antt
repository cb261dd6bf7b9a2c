-- No program is shorter than what its rows cost: by induction over its opcodes.
use Rattle.std.proofs.Common.{◌≡◌, ◌≤◌, ◌+◌, ◌*◌, ◌/◌, ◌%◌, ◌^◌, ◌∙◌, ℕ, List, [], ◌∷◌, length, sym, ap, refl, subst, arith, inl, inr}
use Rattle.std.specs.Prelude.{ℤ, pos, ◌-ℤ◌, ◌+ℤ◌, nat_abs, Bool, true, false, if◌then◌else◌}
use Rattle.std.proofs.lemmas.Int.{ints}
use Rattle.std.proofs.lemmas.List.{length-append}
use Rattle.spelled.specs.Spelled.{Joined}
use Rattle.leb_codec.specs.Leb.{least_unsigned_len, least_signed_len}
use Rattle.leb_codec.specs.LineCosts.{advance_line_bytes, address_distance, AdvanceWithin, EndWithin, RowWithin, line_left, special_advance, register_bytes, stmt_bytes, flag_bytes, discriminator_bytes}
use Rattle.line_step.proofs.Forms.{address_laws}
use Rattle.line_step.proofs.Parts.{line_none}
use Rattle.line_machine.specs.declared.head.Head.{Head}
use Rattle.line_machine.specs.declared.registers.Registers.{Registers}
use Rattle.line_machine.specs.declared.registers.Row.{Row}
use Rattle.line_machine.specs.declared.opcode.Opcode.{Opcode}
use Rattle.line_machine.specs.declared.opcode.Opcode.TheVariants.{Copy, AdvancePc, AdvanceLine, SetFile, SetColumn, NegateStmt, SetBasicBlock, ConstAddPc, FixedAdvancePc, SetPrologueEnd, SetEpilogueBegin, SetIsa, EndSequence, SetAddress, SetDiscriminator, Special}
use Rattle.line_machine.specs.Opcodes.{SpellsOpcode}
use Rattle.line_machine.specs.Rows.{start, cleared, specially, row_at, end_row, after, rows_from, IsSound, AreSound, HasLine}
use Rattle.line_machine.specs.Class.{with_pair}
use Rattle.line_sums.specs.declared.step.Step.TheVariants.{Row as RowStep, End as EndStep}
use Rattle.line_sums.specs.Steps.{StepCosts, StepsWithin, step_to, steps_from, left_by, set_bytes_from}
use Rattle.line_sums.specs.Laws.{NoShorter}
use Rattle.line_sums.proofs.Lengths.{least_bytes, spelled_bytes, is_spellable}
use Rattle.line_sums.proofs.Nearness.{others_bytes, IsNear, set_none, mark_none, raise_none, turn_none, mark_first, raise_first, turn_is, near_line, near_advanced, near_address, near_file, near_column, near_isa, near_discriminator, near_stmt, near_block, near_prologue, near_epilogue}

-- the bytes of the registers other than line and address, from any registers of a sequence to a first row and the rows after it
abbrev pub first_bytes : Bool → Registers → Row → ℕ
first_bytes end r row = if end then 0 else others_bytes r row

abbrev pub others_from : Bool → Registers → List Row → ℕ
others_from stmt r [] = 0
others_from stmt r (row ∷ rows) = first_bytes row.end r row + set_bytes_from stmt (left_by stmt row) rows

-- n bytes are enough for rows, from any registers of a sequence on
pub record CostWithin (base : ℤ) (range scale : ℕ) (stmt : Bool) (r : Registers) (rows : List Row) (n : ℕ) : Type 0 where
  pub bytes : ℕ
  pub steps : StepsWithin base range scale (steps_from r.line r.address rows) bytes
  pub sum : others_from stmt r rows + bytes ≤ n

further : (x mid to : ℕ) → address_distance x (address_distance mid to) ≡ address_distance (mid + x) to
further x mid to = omega arith

-- a row, by copy or by a special opcode
row_near : (range scale a b c : ℕ) (r s : Registers) (line : ℤ) (x to n : ℕ) → IsNear range scale a b c r s → RowWithin range scale (line -ℤ s.line) (address_distance (s.address + x) to) n → RowWithin range scale (line -ℤ r.line) (address_distance (r.address + x) to) (a + b + n)
row_near range scale a b c r s line x to n near (m, w, le) = (a + m, near.address x to m w, omega (arith, near.line line))

less : (line from base : ℤ) (k : ℕ) → line -ℤ from -ℤ base -ℤ pos k ≡ line -ℤ base -ℤ pos k -ℤ from
less line from base k = omega (arith, ints)

special_near : (base : ℤ) (range scale a b c : ℕ) (r s : Registers) (line : ℤ) (k to n : ℕ) → IsNear range scale a b c r s → RowWithin range scale (line_left base range (line -ℤ s.line) k) (address_distance (special_advance range scale k) (address_distance s.address to)) n → RowWithin range scale (line_left base range (line -ℤ r.line) k) (address_distance (special_advance range scale k) (address_distance r.address to)) (a + b + n)
special_near base range scale a b c r s line k to n near (m, w, le) =
    let x = special_advance range scale k in
    let z = line -ℤ base -ℤ pos (k % range) in
    let e : advance_line_bytes (line -ℤ s.line -ℤ base -ℤ pos (k % range)) ≡ advance_line_bytes (z -ℤ s.line) = ap advance_line_bytes (less line s.line base (k % range)) in
    let f : advance_line_bytes (line -ℤ r.line -ℤ base -ℤ pos (k % range)) ≡ advance_line_bytes (z -ℤ r.line) = ap advance_line_bytes (less line r.line base (k % range)) in
    let v : AdvanceWithin range scale (address_distance (s.address + x) to) m = subst (λ (y : ℕ). AdvanceWithin range scale y m) (further x s.address to) w in
    let u : AdvanceWithin range scale (address_distance (r.address + x) to) (a + m) = near.address x to m v in (
      a + m,
      subst (λ (y : ℕ). AdvanceWithin range scale y (a + m)) (sym (further x r.address to)) u,
      omega (arith, e, f, le, near.line z),
    )

plain : (range scale from to m : ℕ) → AdvanceWithin range scale (address_distance from to) m → AdvanceWithin range scale (address_distance (from + 0) to) m
plain range scale from to m w = let e : from ≡ from + 0 = omega arith in subst (λ (y : ℕ). AdvanceWithin range scale (address_distance y to) m) e w

plain_back : (range scale from to m : ℕ) → AdvanceWithin range scale (address_distance (from + 0) to) m → AdvanceWithin range scale (address_distance from to) m
plain_back range scale from to m w = let e : from + 0 ≡ from = omega arith in subst (λ (y : ℕ). AdvanceWithin range scale (address_distance y to) m) e w

copy_near : (range scale a b c : ℕ) (r s : Registers) (line : ℤ) (to n : ℕ) → IsNear range scale a b c r s → RowWithin range scale (line -ℤ s.line) (address_distance s.address to) n → RowWithin range scale (line -ℤ r.line) (address_distance r.address to) (a + b + n)
copy_near range scale a b c r s line to n near (m, w, le) = (a + m, plain_back range scale r.address to (a + m) (near.address 0 to m (plain range scale s.address to m w)), omega (arith, le, near.line line))

end_near : (range scale a b c : ℕ) (r s : Registers) (to n : ℕ) → IsNear range scale a b c r s → EndWithin range scale (address_distance s.address to) n → EndWithin range scale (address_distance r.address to) (a + b + n)
end_near range scale a b c r s to n near (m, w, le) = (a + m, plain_back range scale r.address to (a + m) (near.address 0 to m (plain range scale s.address to m w)), omega (arith, le))

step_near : (end : Bool) (base : ℤ) (range scale a b c : ℕ) (r s : Registers) (line : ℤ) (to n : ℕ) → IsNear range scale a b c r s → StepCosts base range scale (if end then EndStep (address_distance s.address to) else RowStep (line -ℤ s.line) (address_distance s.address to)) n → StepCosts base range scale (if end then EndStep (address_distance r.address to) else RowStep (line -ℤ r.line) (address_distance r.address to)) (a + b + n)
step_near true base range scale a b c r s line to n near w = end_near range scale a b c r s to n near w
step_near false base range scale a b c r s line to n near (inl w) = inl (copy_near range scale a b c r s line to n near w)
step_near false base range scale a b c r s line to n near (inr (k, few, w)) = inr (k, few, special_near base range scale a b c r s line k to n near w)

first_near : (end : Bool) (range scale a b c : ℕ) (r s : Registers) (row : Row) → IsNear range scale a b c r s → first_bytes end r row ≤ c + first_bytes end s row
first_near true range scale a b c r s row near = omega arith
first_near false range scale a b c r s row near = near.others row

-- an opcode before rows
lift : (base : ℤ) (range scale a b c : ℕ) (stmt : Bool) (r s : Registers) (rows : List Row) (n k : ℕ) → IsNear range scale a b c r s → CostWithin base range scale stmt s rows n → a + b + c + n ≤ k → CostWithin base range scale stmt r rows k
lift base range scale a b c stmt r s [] n k near cost le = record { bytes = 0; steps = tt; sum = omega arith }
lift base range scale a b c stmt r s (row ∷ rows) n k near cost le =
    let p : ℕ = cost.steps.0 in
    let q : ℕ = cost.steps.1 in
    record {
      bytes = a + b + p + q;
      steps = (a + b + p, q, step_near row.end base range scale a b c r s (pos row.line) row.address p near cost.steps.2, cost.steps.3, omega arith);
      sum = omega (arith, le, cost.sum, cost.steps.4, first_near row.end range scale a b c r s row near);
    }

-- an opcode with a row

here : (address : ℕ) → address_distance address address ≡ 0
here address = omega arith

landed : (x from : ℕ) → address_distance x (address_distance from ((from + x) % 2 ^ 64)) ≡ 0
landed x from = omega arith

none_within : (range scale d : ℕ) → scale ≤ 255 → d ≡ 0 → AdvanceWithin range scale d 0
none_within range scale d h e = subst (λ (y : ℕ). AdvanceWithin range scale y 0) (sym e) (address_laws range scale h).none

no_line : (z : ℤ) → z ≡ pos 0 → advance_line_bytes z ≡ 0
no_line z e = ap advance_line_bytes e ∙ line_none

line_kept : (r : Registers) → HasLine r → pos (nat_abs r.line) ≡ r.line
line_kept r h = omega (arith, ints, h.0)

copied : (base : ℤ) (range scale : ℕ) (r : Registers) → scale ≤ 255 → HasLine r → StepCosts base range scale (step_to r.line r.address (row_at r)) 1
copied base range scale r h line =
    let e : pos (nat_abs r.line) -ℤ r.line ≡ pos 0 = omega (arith, ints, line.0) in
    inl (0, none_within range scale (address_distance r.address r.address) h (here r.address), omega (arith, no_line (pos (nat_abs r.line) -ℤ r.line) e))

stepped : (base : ℤ) (range scale : ℕ) (head : Head) (r : Registers) (s : ℕ) → scale ≤ 255 → s ≤ 242 → head.base ≡ base → head.range ≡ range → head.min ≡ scale → HasLine (specially head s r) → StepCosts base range scale (step_to r.line r.address (row_at (specially head s r))) 1
stepped base range scale head r s h few b g m line =
    let moved : ℤ = r.line +ℤ (head.base +ℤ pos (s % head.range)) in
    let left : ℤ = pos (nat_abs moved) -ℤ r.line -ℤ head.base -ℤ pos (s % head.range) in
    let e : left ≡ pos 0 = omega (arith, ints, line.0) in
    subst (λ (y : ℤ). StepCosts y range scale (step_to r.line r.address (row_at (specially head s r))) 1) b (
    subst (λ (y : ℕ). StepCosts head.base y scale (step_to r.line r.address (row_at (specially head s r))) 1) g (
    subst (λ (y : ℕ). StepCosts head.base head.range y (step_to r.line r.address (row_at (specially head s r))) 1) m (
    inr (
      s,
      few,
      (
        0,
        none_within head.range head.min (address_distance (s / head.range * head.min) (address_distance r.address ((r.address + s / head.range * head.min) % 2 ^ 64))) (subst (λ (y : ℕ). y ≤ 255) (sym m) h) (landed (s / head.range * head.min) r.address),
        omega (arith, no_line left e),
      ),
    )
    )
    )
    )

nothing_left : (r : Registers) → others_bytes r (row_at r) ≡ 0
nothing_left r = omega (arith, set_none r.file, set_none r.column, set_none r.isa, turn_none r.stmt, raise_none r.block, raise_none r.prologue, raise_none r.epilogue, mark_none r.discriminator)

-- after a row there is nothing that no row could have
as_first : (end : Bool) (r : Registers) (row : Row) → first_bytes end (cleared r) row ≡ (if end then 0 else register_bytes r.file row.file + register_bytes r.column row.column + register_bytes r.isa row.isa + stmt_bytes r.stmt row.stmt + flag_bytes row.block + flag_bytes row.prologue + flag_bytes row.epilogue + discriminator_bytes row.discriminator)
as_first true r row = refl
as_first false r row = omega (arith, mark_first row.discriminator, raise_first row.block, raise_first row.prologue, raise_first row.epilogue, turn_is r.stmt row.stmt)

as_left : (stmt : Bool) (r : Registers) (rows : List Row) → others_from stmt (cleared r) rows ≡ set_bytes_from stmt (cleared r) rows
as_left stmt r [] = refl
as_left stmt r (row ∷ rows) = ap (λ n. n + set_bytes_from stmt (left_by stmt row) rows) (as_first row.end r row)

-- a row that is appended, and the rows after it
appended : (base : ℤ) (range scale : ℕ) (stmt : Bool) (r u : Registers) (rows : List Row) (n m : ℕ) → HasLine u → StepCosts base range scale (step_to r.line r.address (row_at u)) 1 → others_bytes r (row_at u) ≡ 0 → CostWithin base range scale stmt (cleared u) rows n → 1 + n ≤ m → CostWithin base range scale stmt r (row_at u ∷ rows) m
appended base range scale stmt r u rows n m line step none cost le =
    let kept : u.line ≡ pos (nat_abs u.line) = sym (line_kept u line) in
    let others : set_bytes_from stmt (cleared u) rows ≡ set_bytes_from stmt (left_by stmt (row_at u)) rows = ap (λ (y : ℤ). set_bytes_from stmt (record (cleared u) { line = y }) rows) kept in
    record {
      bytes = 1 + cost.bytes;
      steps = (1, cost.bytes, step, subst (λ (y : ℤ). StepsWithin base range scale (steps_from y u.address rows) cost.bytes) kept cost.steps, omega arith);
      sum = omega (arith, le, cost.sum, none, others, as_left stmt u rows);
    }

-- the end of a sequence, and the rows after it
ended : (base : ℤ) (range scale : ℕ) (stmt : Bool) (r : Registers) (rows : List Row) (n m : ℕ) → scale ≤ 255 → CostWithin base range scale stmt (start stmt) rows n → 3 + n ≤ m → CostWithin base range scale stmt r (end_row r.address ∷ rows) m
ended base range scale stmt r rows n m h cost le = record {
  bytes = 3 + cost.bytes;
  steps = (3, cost.bytes, (0, none_within range scale (address_distance r.address r.address) h (here r.address), omega arith), cost.steps, omega arith);
  sum = omega (arith, le, cost.sum, as_left stmt (start stmt) rows);
}

-- the opcodes of a program, under a pair
module _ (head : Head) (base : ℤ) (range : ℕ) (h : head.min ≤ 255) where
  abbrev Cost : Registers → List Row → ℕ → Type 0
  Cost r rows n = CostWithin base range head.min head.stmt r rows n

  abbrev rows_after : Registers → List Opcode → List Row
  rows_after r ops = rows_from (with_pair head base range) r ops

  before : (a b c : ℕ) (op : Opcode) (r s : Registers) (rows : List Row) (first : List ℕ) (n m : ℕ) → SpellsOpcode 13 op first → a + b + c ≤ least_bytes op → IsNear range head.min a b c r s → Cost s rows n → length first + n ≤ m → Cost r rows m
  before a b c op r s rows first n m spelled few near cost le = lift base range head.min a b c head.stmt r s rows n m near cost (omega (arith, few, spelled_bytes op first spelled, le))

  one : (op : Opcode) (r : Registers) (ops : List Opcode) (first : List ℕ) (n m : ℕ) → SpellsOpcode 13 op first → IsSound (with_pair head base range) op r → Cost (after (with_pair head base range) op r) (rows_after (after (with_pair head base range) op r) ops) n → length first + n ≤ m → Cost r (rows_after r (op ∷ ops)) m
  one Copy r ops first n m spelled sound cost le = appended base range head.min head.stmt r r (rows_after (cleared r) ops) n m sound (copied base range head.min r h sound) (nothing_left r) cost (omega (arith, le, spelled_bytes Copy first spelled))
  one (Special s) r ops first n m spelled sound cost le =
      let u = specially (with_pair head base range) s r in
      appended base range head.min head.stmt r u (rows_after (cleared u) ops) n m sound (stepped base range head.min (with_pair head base range) r s h (is_spellable (Special s) first spelled) refl refl refl sound) (nothing_left r) cost (omega (arith, le, spelled_bytes (Special s) first spelled))
  one EndSequence r ops first n m spelled sound cost le = ended base range head.min head.stmt r (rows_after (start head.stmt) ops) n m h cost (omega (arith, le, spelled_bytes EndSequence first spelled))
  one (AdvancePc value) r ops first n m spelled sound cost le =
      let s = after (with_pair head base range) (AdvancePc value) r in
      before (1 + least_unsigned_len value) 0 0 (AdvancePc value) r s (rows_after s ops) first n m spelled (omega arith) (near_advanced range head.min (1 + least_unsigned_len value) (value * head.min) r (λ from to k w. (address_laws range head.min h).advance_pc from to value k sound w)) cost le
  one ConstAddPc r ops first n m spelled sound cost le =
      let s = after (with_pair head base range) ConstAddPc r in
      before 1 0 0 ConstAddPc r s (rows_after s ops) first n m spelled (omega arith) (near_advanced range head.min 1 (242 / range * head.min) r (λ from to k w. (address_laws range head.min h).const_add_pc from to k w)) cost le
  one (FixedAdvancePc value) r ops first n m spelled sound cost le =
      let s = after (with_pair head base range) (FixedAdvancePc value) r in
      before 3 0 0 (FixedAdvancePc value) r s (rows_after s ops) first n m spelled (omega arith) (near_advanced range head.min 3 value r (λ from to k w. (address_laws range head.min h).fixed_advance_pc from to value k (is_spellable (FixedAdvancePc value) first spelled) w)) cost le
  one (SetAddress address) r ops first n m spelled sound cost le =
      let s = after (with_pair head base range) (SetAddress address) r in
      before 11 0 0 (SetAddress address) r s (rows_after s ops) first n m spelled (omega arith) (near_address range head.min address r) cost le
  one (AdvanceLine value) r ops first n m spelled sound cost le =
      let s = after (with_pair head base range) (AdvanceLine value) r in
      before 0 (1 + least_signed_len value) 0 (AdvanceLine value) r s (rows_after s ops) first n m spelled (omega arith) (near_line range head.min h r value) cost le
  one (SetFile value) r ops first n m spelled sound cost le =
      let s = after (with_pair head base range) (SetFile value) r in
      before 0 0 (1 + least_unsigned_len value) (SetFile value) r s (rows_after s ops) first n m spelled (omega arith) (near_file range head.min value h r) cost le
  one (SetColumn value) r ops first n m spelled sound cost le =
      let s = after (with_pair head base range) (SetColumn value) r in
      before 0 0 (1 + least_unsigned_len value) (SetColumn value) r s (rows_after s ops) first n m spelled (omega arith) (near_column range head.min value h r) cost le
  one (SetIsa value) r ops first n m spelled sound cost le =
      let s = after (with_pair head base range) (SetIsa value) r in
      before 0 0 (1 + least_unsigned_len value) (SetIsa value) r s (rows_after s ops) first n m spelled (omega arith) (near_isa range head.min value h r) cost le
  one (SetDiscriminator value) r ops first n m spelled sound cost le =
      let s = after (with_pair head base range) (SetDiscriminator value) r in
      before 0 0 (3 + least_unsigned_len value) (SetDiscriminator value) r s (rows_after s ops) first n m spelled (omega arith) (near_discriminator range head.min value h r) cost le
  one NegateStmt r ops first n m spelled sound cost le =
      let s = after (with_pair head base range) NegateStmt r in
      before 0 0 1 NegateStmt r s (rows_after s ops) first n m spelled (omega arith) (near_stmt range head.min h r) cost le
  one SetBasicBlock r ops first n m spelled sound cost le =
      let s = after (with_pair head base range) SetBasicBlock r in
      before 0 0 1 SetBasicBlock r s (rows_after s ops) first n m spelled (omega arith) (near_block range head.min h r) cost le
  one SetPrologueEnd r ops first n m spelled sound cost le =
      let s = after (with_pair head base range) SetPrologueEnd r in
      before 0 0 1 SetPrologueEnd r s (rows_after s ops) first n m spelled (omega arith) (near_prologue range head.min h r) cost le
  one SetEpilogueBegin r ops first n m spelled sound cost le =
      let s = after (with_pair head base range) SetEpilogueBegin r in
      before 0 0 1 SetEpilogueBegin r s (rows_after s ops) first n m spelled (omega arith) (near_epilogue range head.min h r) cost le

  all : (ops : List Opcode) (r : Registers) (bytes : List ℕ) → Joined (SpellsOpcode 13) ops bytes → AreSound (with_pair head base range) r ops → Cost r (rows_after r ops) (length bytes)
  all [] r bytes joined sound = record { bytes = 0; steps = tt; sum = omega arith }
  all (op ∷ ops) r bytes (first, rest, spelled, joined, whole) sound =
      let size : length bytes ≡ length first + length rest = ap length whole ∙ length-append first rest in
      one op r ops first (length rest) (length bytes) spelled sound.0 (all ops (after (with_pair head base range) op r) rest joined sound.1) (omega arith)

pub no_shorter : NoShorter
no_shorter head rows e h encoding =
    let g = encoding.gives in
    let cost : CostWithin e.base e.range head.min head.stmt (start head.stmt) (rows_from (with_pair head e.base e.range) (start head.stmt) g.opcodes) (length e.bytes) = all head e.base e.range h g.opcodes (start head.stmt) e.bytes g.spelled g.sound in
    let cost2 : CostWithin e.base e.range head.min head.stmt (start head.stmt) rows (length e.bytes) = subst (λ (z : List Row). CostWithin e.base e.range head.min head.stmt (start head.stmt) z (length e.bytes)) (sym g.given) cost in
    (cost2.bytes, cost2.steps, omega (arith, cost2.sum, as_left head.stmt (start head.stmt) rows))
