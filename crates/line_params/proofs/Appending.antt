-- Opcodes that are appended one after the other.
use Rattle.std.proofs.Common.{◌≡◌, ◌+◌, ◌-◌, ◌*◌, ◌==◌, ◌∙◌, ℕ, suc, List, [], ◌∷◌, ◌++◌, replicate, sym, ap, refl, subst}
use Rattle.std.specs.Prelude.{ℤ, pos, ◌-ℤ◌, Bool, true, false, not}
use mathlib.Core.Bool.{beq}
use Rattle.std.proofs.lemmas.List.{append_assoc, append-nil, replicate_more}
use Rattle.spelled.specs.Spelled.{Appends}
use Rattle.spelled.proofs.Joins.{joined_append, joined_one}
use Rattle.leb_codec.specs.LineCosts.{address_distance, fixed_advance_limit}
use Rattle.line_machine.specs.declared.opcode.Opcode.{Opcode}
use Rattle.line_machine.specs.declared.opcode.Opcode.TheVariants.{AdvancePc, SetFile, SetColumn, SetIsa, NegateStmt, SetBasicBlock, ConstAddPc, FixedAdvancePc, SetPrologueEnd, SetEpilogueBegin, EndSequence, SetDiscriminator}
use Rattle.line_machine.specs.declared.registers.Registers.{Registers}
use Rattle.line_machine.specs.declared.registers.Row.{Row}
use Rattle.line_step.specs.declared.way.Advance.{Advance}
use Rattle.line_step.specs.declared.way.AddressWay.{AddressWay}
use Rattle.line_step.specs.declared.way.RowWay.{RowWay}
use Rattle.line_step.specs.Ways.{IsAddressWay, IsRowWay}
use Rattle.line_params.specs.Shortest.{ShortestOpcode}
use Rattle.line_params.specs.Order.{opcode_if, stmt_opcodes, number_opcodes, mark_opcodes, fixed_opcodes, advance_opcodes, address_opcodes, address_before, line_opcodes, row_opcode, StepOpcodes, RowOpcodes, EndOpcodes}
use Rattle.line_params.specs.inside.Appended.{AppendsOpcodes, AppendsSome}

pub adds_none : (a : List ℕ) → AppendsOpcodes [] a a
adds_none a = ([], refl, sym (append-nil a))

pub adds_one : (op : Opcode) (a b : List ℕ) → Appends (ShortestOpcode 13) op a b → AppendsOpcodes (op ∷ []) a b
adds_one op a b (bytes, s, e) = (bytes, joined_one (ShortestOpcode 13) op bytes s, e)

pub adds_append : (xs ys : List Opcode) (a b c : List ℕ) → AppendsOpcodes xs a b → AppendsOpcodes ys b c → AppendsOpcodes (xs ++ ys) a c
adds_append xs ys a b c (p, s, e) (q, t, f) =
    (p ++ q, joined_append (ShortestOpcode 13) xs ys p q s t, f ∙ ap (λ z. z ++ q) e ∙ append_assoc a p q)

-- one more of the same
pub adds_more : (count : ℕ) (op : Opcode) (a b c : List ℕ) → AppendsOpcodes (replicate count op) a b → Appends (ShortestOpcode 13) op b c → AppendsOpcodes (replicate (count + 1) op) a c
adds_more count op a b c h s =
    subst (λ (z : List Opcode). AppendsOpcodes z a c) (replicate_more count op) (adds_append (replicate count op) (op ∷ []) a b c h (adds_one op b c s))

pub adds_numbers : (from : Registers) (row : Row) (a b c d : List ℕ) → AppendsOpcodes (opcode_if (not (from.file == row.file)) (SetFile row.file)) a b → AppendsOpcodes (opcode_if (not (from.column == row.column)) (SetColumn row.column)) b c → AppendsOpcodes (opcode_if (not (from.isa == row.isa)) (SetIsa row.isa)) c d → AppendsOpcodes (number_opcodes from row) a d
adds_numbers from row a b c d f g h =
    let file = opcode_if (not (from.file == row.file)) (SetFile row.file) in
    let column = opcode_if (not (from.column == row.column)) (SetColumn row.column) in
    let isa = opcode_if (not (from.isa == row.isa)) (SetIsa row.isa) in
    adds_append (file ++ column) isa a c d (adds_append file column a b c f g) h

stmt_changes : (a b : Bool) → opcode_if (not (beq a b)) NegateStmt ≡ stmt_opcodes a b
stmt_changes true true = refl
stmt_changes true false = refl
stmt_changes false true = refl
stmt_changes false false = refl

pub adds_marks : (from : Registers) (row : Row) (a b c d e f : List ℕ) → AppendsOpcodes (opcode_if (not (beq from.stmt row.stmt)) NegateStmt) a b → AppendsOpcodes (opcode_if row.block SetBasicBlock) b c → AppendsOpcodes (opcode_if row.prologue SetPrologueEnd) c d → AppendsOpcodes (opcode_if row.epilogue SetEpilogueBegin) d e → AppendsOpcodes (opcode_if (not (row.discriminator == 0)) (SetDiscriminator row.discriminator)) e f → AppendsOpcodes (mark_opcodes from row) a f
adds_marks from row a b c d e f stmt block prologue epilogue discriminator =
    let one = stmt_opcodes from.stmt row.stmt in
    let two = opcode_if row.block SetBasicBlock in
    let three = opcode_if row.prologue SetPrologueEnd in
    let four = opcode_if row.epilogue SetEpilogueBegin in
    let five = opcode_if (not (row.discriminator == 0)) (SetDiscriminator row.discriminator) in
    let first : AppendsOpcodes one a b = subst (λ (z : List Opcode). AppendsOpcodes z a b) (stmt_changes from.stmt row.stmt) stmt in
    adds_append (one ++ two ++ three ++ four) five a e f (adds_append (one ++ two ++ three) four a d e (adds_append (one ++ two) three a c d (adds_append one two a b c first block) prologue) epilogue) discriminator

pub adds_fixed : (count others total limit last : ℕ) (a b c : List ℕ) → count ≡ suc others → limit ≡ fixed_advance_limit → last ≡ total - limit * others → AppendsOpcodes (replicate others (FixedAdvancePc fixed_advance_limit)) a b → Appends (ShortestOpcode 13) (FixedAdvancePc last) b c → AppendsOpcodes (fixed_opcodes count total) a c
adds_fixed count others total limit last a b c e l f h s =
    let s2 = subst (λ (z : ℕ). Appends (ShortestOpcode 13) (FixedAdvancePc z) b c) (f ∙ ap (λ z. total - z * others) l) s in
    let all = adds_append (replicate others (FixedAdvancePc fixed_advance_limit)) (FixedAdvancePc (total - fixed_advance_limit * others) ∷ []) a b c h (adds_one (FixedAdvancePc (total - fixed_advance_limit * others)) b c s2) in
    subst (λ (z : ℕ). AppendsOpcodes (fixed_opcodes z total) a c) (sym e) all

pub adds_advance : (advance : Advance) (a b c d : List ℕ) → AppendsOpcodes (opcode_if (not (advance.operand == 0)) (AdvancePc advance.operand)) a b → AppendsOpcodes (replicate advance.const_adds ConstAddPc) b c → AppendsOpcodes (fixed_opcodes advance.fixed_adds advance.fixed_sum) c d → AppendsOpcodes (advance_opcodes advance) a d
adds_advance advance a b c d f g h =
    let operand = opcode_if (not (advance.operand == 0)) (AdvancePc advance.operand) in
    let const = replicate advance.const_adds ConstAddPc in
    adds_append (operand ++ const) (fixed_opcodes advance.fixed_adds advance.fixed_sum) a c d (adds_append operand const a b c f g) h

pub adds_step : (base : ℤ) (range scale : ℕ) (line : ℤ) (distance address before : ℕ) (way : RowWay) (op : Opcode) (a b c d : List ℕ) → IsRowWay base range scale line distance way → before ≡ address_before range scale address way.opcode → op ≡ row_opcode way.opcode → AppendsOpcodes (address_opcodes before way.address.opcodes) a b → AppendsOpcodes (line_opcodes way.line) b c → Appends (ShortestOpcode 13) op c d → AppendsSome (StepOpcodes base range scale line distance address) a d
adds_step base range scale line distance address before way op a b c d taken e f one two three =
    let first = subst (λ (z : ℕ). AppendsOpcodes (address_opcodes z way.address.opcodes) a b) e one in
    let last = subst (λ (z : Opcode). Appends (ShortestOpcode 13) z c d) f three in
    let to = address_opcodes (address_before range scale address way.opcode) way.address.opcodes in
    let all = adds_append (to ++ line_opcodes way.line) (row_opcode way.opcode ∷ []) a c d (adds_append to (line_opcodes way.line) a b c first two) (adds_one (row_opcode way.opcode) c d last) in
    (to ++ line_opcodes way.line ++ row_opcode way.opcode ∷ [], record { way = way; taken = taken; order = refl }, all)

pub adds_row : (base : ℤ) (range scale : ℕ) (from : Registers) (row : Row) (line : ℤ) (distance : ℕ) (a b c d : List ℕ) → line ≡ pos row.line -ℤ from.line → distance ≡ address_distance from.address row.address → AppendsOpcodes (number_opcodes from row) a b → AppendsOpcodes (mark_opcodes from row) b c → AppendsSome (StepOpcodes base range scale line distance row.address) c d → AppendsSome (RowOpcodes base range scale from row) a d
adds_row base range scale from row line distance a b c d e f one two (step, is_step, three) =
    let all = adds_append (number_opcodes from row ++ mark_opcodes from row) step a c d (adds_append (number_opcodes from row) (mark_opcodes from row) a b c one two) three in
    let is = subst (λ (z : ℤ). StepOpcodes base range scale z (address_distance from.address row.address) row.address step) e (subst (λ (z : ℕ). StepOpcodes base range scale line z row.address step) f is_step) in
    (number_opcodes from row ++ mark_opcodes from row ++ step, record { step = step; stepped = is; order = refl }, all)

pub adds_end : (range scale distance address : ℕ) (way : AddressWay) (a b c : List ℕ) → IsAddressWay range scale distance way → AppendsOpcodes (address_opcodes address way.opcodes) a b → Appends (ShortestOpcode 13) EndSequence b c → AppendsSome (EndOpcodes range scale distance address) a c
adds_end range scale distance address way a b c taken one two =
    let all = adds_append (address_opcodes address way.opcodes) (EndSequence ∷ []) a b c one (adds_one EndSequence b c two) in
    (address_opcodes address way.opcodes ++ EndSequence ∷ [], record { way = way; taken = taken; order = refl }, all)
