-- The opcodes of a row do what the row says, in the bytes that it costs.
use Rattle.std.proofs.Common.{◌≡◌, ◌<◌, ◌+◌, ◌-◌, ◌*◌, ◌/◌, ◌%◌, ◌^◌, ◌∙◌, ℕ, List, [], ◌∷◌, ◌++◌, sym, ap, refl, subst, arith}
use Rattle.std.specs.Prelude.{ℤ, pos, ◌+ℤ◌, ◌-ℤ◌, true, false}
use Rattle.std.proofs.lemmas.Int.{ints}
use Rattle.leb_codec.specs.LineCosts.{register_bytes, advance_line_bytes, address_distance}
use Rattle.line_machine.specs.declared.head.Head.{Head}
use Rattle.line_machine.specs.declared.opcode.Opcode.{Opcode}
use Rattle.line_machine.specs.declared.opcode.Opcode.TheVariants.{Copy, Special, EndSequence}
use Rattle.line_machine.specs.declared.registers.Registers.{Registers}
use Rattle.line_machine.specs.declared.registers.Row.{Row}
use Rattle.line_machine.specs.Rows.{start, cleared, specially, row_at, end_row, HasLine}
use Rattle.line_machine.specs.Class.{with_pair}
use Rattle.line_step.specs.declared.way.RowOpcode.{RowOpcode}
use Rattle.line_step.specs.declared.way.RowOpcode.TheVariants.{Copy as ByCopy, Special as BySpecial}
use Rattle.line_step.specs.Ways.{line_before, distance_before}
use Rattle.line_sums.specs.Steps.{left_by, set_bytes}
use Rattle.line_params.specs.Order.{number_opcodes, mark_opcodes, address_opcodes, address_before, line_opcodes, row_opcode, StepOpcodes, RowOpcodes, EndOpcodes}
use Rattle.line_params.proofs.Doing.{Does, does_append, does_same, does_one, size_code, size_end}
use Rattle.line_params.proofs.Setting.{IsClear, with_numbers, with_marks, mark_bytes, does_numbers, does_marks}
use Rattle.line_params.proofs.Stepping.{does_way, does_line}

-- the registers whose row an opcode appends
abbrev pub lands : Head → RowOpcode → Registers → Registers
lands head ByCopy r = r
lands head (BySpecial s) r = specially head s r

module _ (head : Head) (base : ℤ) (range : ℕ) where
  does_last : (opcode : RowOpcode) (r : Registers) → HasLine (lands (with_pair head base range) opcode r) → Does (with_pair head base range) r (row_opcode opcode ∷ []) (row_at (lands (with_pair head base range) opcode r) ∷ []) (cleared (lands (with_pair head base range) opcode r)) 1
  does_last ByCopy r line = does_one (with_pair head base range) r Copy 1 line (size_code 1)
  does_last (BySpecial s) r line = does_one (with_pair head base range) r (Special s) 1 line (λ bytes h. size_code (13 + s) bytes h.1)

  -- what an opcode adds to what stands before it comes to the row
  lands_at : (opcode : RowOpcode) (r : Registers) (line : ℤ) (address to : ℕ) → address < 2 ^ 64 → r.line +ℤ line ≡ pos to → lands (with_pair head base range) opcode (record r { address = address_before range head.min address opcode; line = r.line +ℤ line_before base range line opcode }) ≡ record r { address = address; line = pos to }
  lands_at ByCopy r line address to fits e = ap (λ z. record r { address = address; line = z }) e
  lands_at (BySpecial s) r line address to fits e =
      let by = s / range * head.min in
      let there : (address_distance by address + by) % 2 ^ 64 ≡ address = omega arith in
      let moved : r.line +ℤ (line -ℤ base -ℤ pos (s % range)) +ℤ (base +ℤ pos (s % range)) ≡ pos to = omega (arith, ints) in
      ap (λ z. record r { address = z; line = r.line +ℤ (line -ℤ base -ℤ pos (s % range)) +ℤ (base +ℤ pos (s % range)) }) there ∙ ap (λ z. record r { address = address; line = z }) moved

  before_reached : (opcode : RowOpcode) (from distance address : ℕ) → address ≡ (from + distance) % 2 ^ 64 → address_before range head.min address opcode ≡ (from + distance_before range head.min distance opcode) % 2 ^ 64
  before_reached ByCopy from distance address e = e
  before_reached (BySpecial s) from distance address e =
      let by = s / range * head.min in
      let there : (address + (2 ^ 64 - by % 2 ^ 64)) % 2 ^ 64 ≡ (from + (distance + (2 ^ 64 - by % 2 ^ 64)) % 2 ^ 64) % 2 ^ 64 = omega arith in
      there

  before_below : (opcode : RowOpcode) (distance : ℕ) → distance < 2 ^ 64 → distance_before range head.min distance opcode < 2 ^ 64
  before_below ByCopy distance below = below
  before_below (BySpecial s) distance below =
      let by = s / range * head.min in
      let small : (distance + (2 ^ 64 - by % 2 ^ 64)) % 2 ^ 64 < 2 ^ 64 = omega arith in
      small

  does_step : (line : ℤ) (distance address to : ℕ) (opcodes : List Opcode) (r : Registers) (s : StepOpcodes base range head.min line distance address opcodes) → r.address < 2 ^ 64 → distance < 2 ^ 64 → address ≡ (r.address + distance) % 2 ^ 64 → r.line +ℤ line ≡ pos to → to < 2 ^ 32 → Does (with_pair head base range) r opcodes (row_at (record r { address = address; line = pos to }) ∷ []) (cleared (record r { address = address; line = pos to })) s.way.bytes
  does_step line distance address to opcodes r s fits below reached e low =
      let way = s.way in
      let before = address_before range head.min address way.opcode in
      let r2 = record r { address = before } in
      let r3 = record r2 { line = r.line +ℤ way.line } in
      let goal = record r { address = address; line = pos to } in
      let landed : lands (with_pair head base range) way.opcode r3 ≡ goal =
      ap (λ z. lands (with_pair head base range) way.opcode (record r2 { line = r.line +ℤ z })) s.taken.line_operand ∙ lands_at way.opcode r line address to (omega arith) e in
      let here : HasLine goal = (omega (arith, ints), omega (arith, ints)) in
      let last : Does (with_pair head base range) r3 (row_opcode way.opcode ∷ []) (row_at goal ∷ []) (cleared goal) 1 =
      subst (λ (z : Registers). Does (with_pair head base range) r3 (row_opcode way.opcode ∷ []) (row_at z ∷ []) (cleared z) 1) landed (does_last way.opcode r3 (subst HasLine (sym landed) here)) in
      let one = does_way head base range (distance_before range head.min distance way.opcode) before way.address r fits (before_below way.opcode distance below) (before_reached way.opcode r.address distance address reached) s.taken.address in
      let first = address_opcodes before way.address.opcodes in
      let two = does_append (with_pair head base range) r r2 r3 first (line_opcodes way.line) [] [] way.address.bytes (advance_line_bytes way.line) one (does_line (with_pair head base range) r2 way.line) in
      let all = does_append (with_pair head base range) r r3 (cleared goal) (first ++ line_opcodes way.line) (row_opcode way.opcode ∷ []) [] (row_at goal ∷ []) (way.address.bytes + advance_line_bytes way.line) 1 two last in
      let size : way.address.bytes + advance_line_bytes way.line + 1 ≡ way.bytes = omega (arith, s.taken.bytes) in
      subst (λ (z : List Opcode). Does (with_pair head base range) r z (row_at goal ∷ []) (cleared goal) way.bytes) (sym s.order) (does_same (with_pair head base range) r (cleared goal) (cleared goal) (first ++ line_opcodes way.line ++ row_opcode way.opcode ∷ []) (row_at goal ∷ []) (way.address.bytes + advance_line_bytes way.line + 1) way.bytes refl size all)

  -- a row that doesn't end a sequence
  pub does_row : (opcodes : List Opcode) (r : Registers) (row : Row) (o : RowOpcodes base range head.min r row opcodes) → IsClear r → r.address < 2 ^ 64 → row.address < 2 ^ 64 → row.line < 2 ^ 32 → row.end ≡ false → Does (with_pair head base range) r opcodes (row ∷ []) (left_by head.stmt row) (set_bytes r row + o.stepped.way.bytes)
  does_row opcodes r row o clear fits row_fits low not_end =
      let s = with_numbers r row in
      let t = with_marks s row in
      let goal = record t { address = row.address; line = pos row.line } in
      let distance = address_distance r.address row.address in
      let n = register_bytes r.file row.file + register_bytes r.column row.column + register_bytes r.isa row.isa in
      let numbers = number_opcodes r row in
      let marks = mark_opcodes r row in
      let clear2 : IsClear s = record { no_discriminator = clear.no_discriminator; no_block = clear.no_block; no_prologue = clear.no_prologue; no_epilogue = clear.no_epilogue } in
      let two = does_append (with_pair head base range) r s t numbers marks [] [] n (mark_bytes r row) (does_numbers (with_pair head base range) r row) (does_marks (with_pair head base range) s row clear2) in
      let reached : row.address ≡ (r.address + distance) % 2 ^ 64 = omega arith in
      let line : r.line +ℤ (pos row.line -ℤ r.line) ≡ pos row.line = omega (arith, ints) in
      let step = does_step (pos row.line -ℤ r.line) distance row.address row.line o.step t o.stepped fits (omega arith) reached line low in
      let all = does_append (with_pair head base range) r t (cleared goal) (numbers ++ marks) o.step [] (row_at goal ∷ []) (n + mark_bytes r row) o.stepped.way.bytes two step in
      let same : row_at goal ≡ row = ap (λ z. record row { end = z }) (sym not_end) in
      let left : cleared goal ≡ left_by head.stmt row = rw not_end refl in
      let size : n + mark_bytes r row ≡ set_bytes r row = rw not_end (omega arith) in
      let all2 = does_same (with_pair head base range) r (cleared goal) (left_by head.stmt row) (numbers ++ marks ++ o.step) (row_at goal ∷ []) (n + mark_bytes r row + o.stepped.way.bytes) (set_bytes r row + o.stepped.way.bytes) left (ap (λ z. z + o.stepped.way.bytes) size) all in
      subst (λ (z : List Opcode). Does (with_pair head base range) r z (row ∷ []) (left_by head.stmt row) (set_bytes r row + o.stepped.way.bytes)) (sym o.order) (subst (λ (z : Row). Does (with_pair head base range) r (numbers ++ marks ++ o.step) (z ∷ []) (left_by head.stmt row) (set_bytes r row + o.stepped.way.bytes)) same all2)

  -- the end of a sequence
  pub does_end : (opcodes : List Opcode) (r : Registers) (row : Row) (o : EndOpcodes range head.min (address_distance r.address row.address) row.address opcodes) → r.address < 2 ^ 64 → row.address < 2 ^ 64 → row ≡ end_row row.address → Does (with_pair head base range) r opcodes (row ∷ []) (left_by head.stmt row) (set_bytes r row + (3 + o.way.bytes))
  does_end opcodes r row o fits row_fits is =
      let way = o.way in
      let distance = address_distance r.address row.address in
      let reached : row.address ≡ (r.address + distance) % 2 ^ 64 = omega arith in
      let s = record r { address = row.address } in
      let first = address_opcodes row.address way.opcodes in
      let one = does_way head base range distance row.address way r fits (omega arith) reached o.taken in
      let last : Does (with_pair head base range) s (EndSequence ∷ []) (end_row row.address ∷ []) (start head.stmt) 3 = does_one (with_pair head base range) s EndSequence 3 tt size_end in
      let all = does_append (with_pair head base range) r s (start head.stmt) first (EndSequence ∷ []) [] (end_row row.address ∷ []) way.bytes 3 one last in
      let end : row.end ≡ true = ap (λ z. z.end) is in
      let left : start head.stmt ≡ left_by head.stmt row = rw end refl in
      let size : way.bytes + 3 ≡ set_bytes r row + (3 + way.bytes) = rw end (omega arith) in
      let all2 = does_same (with_pair head base range) r (start head.stmt) (left_by head.stmt row) (first ++ EndSequence ∷ []) (end_row row.address ∷ []) (way.bytes + 3) (set_bytes r row + (3 + way.bytes)) left size all in
      subst (λ (z : List Opcode). Does (with_pair head base range) r z (row ∷ []) (left_by head.stmt row) (set_bytes r row + (3 + way.bytes))) (sym o.order) (subst (λ (z : Row). Does (with_pair head base range) r (first ++ EndSequence ∷ []) (z ∷ []) (left_by head.stmt row) (set_bytes r row + (3 + way.bytes))) (sym is) all2)
