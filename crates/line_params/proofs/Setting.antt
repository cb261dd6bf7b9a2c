-- Opcodes that set registers other than the address and the line.
use Rattle.std.proofs.Common.{◌≡◌, ◌+◌, ◌==◌, ◌∙◌, ℕ, [], ◌∷◌, ◌++◌, sym, ap, refl}
use Rattle.std.specs.Prelude.{Bool, true, false, not}
use Rattle.leb_codec.specs.Leb.{least_unsigned_len}
use Rattle.leb_codec.specs.LineCosts.{register_bytes, stmt_bytes, flag_bytes, discriminator_bytes}
use Rattle.line_machine.specs.declared.head.Head.{Head}
use Rattle.line_machine.specs.declared.opcode.Opcode.TheVariants.{SetFile, SetColumn, SetIsa, NegateStmt, SetBasicBlock, SetPrologueEnd, SetEpilogueBegin, SetDiscriminator}
use Rattle.line_machine.specs.declared.registers.Registers.{Registers}
use Rattle.line_machine.specs.declared.registers.Row.{Row}
use Rattle.line_params.specs.Order.{opcode_if, stmt_opcodes, number_opcodes, mark_opcodes}
use Rattle.line_sums.proofs.FixedBytes.{register_same, register_other, no_discriminator, some_discriminator}
use Rattle.line_params.proofs.Doing.{Does, does_none, does_append, does_same, does_one, does_change, size_code, size_uleb, size_discriminator}

-- The registers have no discriminator and no flag, as after a row.
pub record IsClear (r : Registers) : Type 0 where
  pub no_discriminator : r.discriminator ≡ 0
  pub no_block : r.block ≡ false
  pub no_prologue : r.prologue ≡ false
  pub no_epilogue : r.epilogue ≡ false

-- the registers of a row but for the address and the line
abbrev pub with_numbers : Registers → Row → Registers
with_numbers r row = record r { file = row.file; column = row.column; isa = row.isa }

abbrev pub with_marks : Registers → Row → Registers
with_marks r row = record r { stmt = row.stmt; block = row.block; prologue = row.prologue; epilogue = row.epilogue; discriminator = row.discriminator }

module _ (head : Head) (r : Registers) where
  does_file : (to : ℕ) → Does head r (opcode_if (not (r.file == to)) (SetFile to)) [] (record r { file = to }) (register_bytes r.file to)
  does_file to =
      does_change head r (record r { file = to }) r.file to (SetFile to) (register_bytes r.file to)
      (λ ne. does_same head r (record r { file = to }) (record r { file = to }) (SetFile to ∷ []) [] (1 + least_unsigned_len to) (register_bytes r.file to) refl (register_other r.file to ne) (does_one head r (SetFile to) (1 + least_unsigned_len to) tt (size_uleb 4 to)))
      (λ e. does_same head r r (record r { file = to }) [] [] 0 (register_bytes r.file to) (ap (λ z. record r { file = z }) e) (register_same r.file to e) (does_none head r))

  does_column : (to : ℕ) → Does head r (opcode_if (not (r.column == to)) (SetColumn to)) [] (record r { column = to }) (register_bytes r.column to)
  does_column to =
      does_change head r (record r { column = to }) r.column to (SetColumn to) (register_bytes r.column to)
      (λ ne. does_same head r (record r { column = to }) (record r { column = to }) (SetColumn to ∷ []) [] (1 + least_unsigned_len to) (register_bytes r.column to) refl (register_other r.column to ne) (does_one head r (SetColumn to) (1 + least_unsigned_len to) tt (size_uleb 5 to)))
      (λ e. does_same head r r (record r { column = to }) [] [] 0 (register_bytes r.column to) (ap (λ z. record r { column = z }) e) (register_same r.column to e) (does_none head r))

  does_isa : (to : ℕ) → Does head r (opcode_if (not (r.isa == to)) (SetIsa to)) [] (record r { isa = to }) (register_bytes r.isa to)
  does_isa to =
      does_change head r (record r { isa = to }) r.isa to (SetIsa to) (register_bytes r.isa to)
      (λ ne. does_same head r (record r { isa = to }) (record r { isa = to }) (SetIsa to ∷ []) [] (1 + least_unsigned_len to) (register_bytes r.isa to) refl (register_other r.isa to ne) (does_one head r (SetIsa to) (1 + least_unsigned_len to) tt (λ bytes s. size_uleb 12 to bytes s.1)))
      (λ e. does_same head r r (record r { isa = to }) [] [] 0 (register_bytes r.isa to) (ap (λ z. record r { isa = z }) e) (register_same r.isa to e) (does_none head r))

  does_stmt : (from to : Bool) → r.stmt ≡ from → Does head r (stmt_opcodes from to) [] (record r { stmt = to }) (stmt_bytes from to)
  does_stmt true true e = does_same head r r (record r { stmt = true }) [] [] 0 0 (ap (λ z. record r { stmt = z }) e) refl (does_none head r)
  does_stmt true false e = does_same head r (record r { stmt = not r.stmt }) (record r { stmt = false }) (NegateStmt ∷ []) [] 1 1 (ap (λ z. record r { stmt = not z }) e) refl (does_one head r NegateStmt 1 tt (size_code 6))
  does_stmt false true e = does_same head r (record r { stmt = not r.stmt }) (record r { stmt = true }) (NegateStmt ∷ []) [] 1 1 (ap (λ z. record r { stmt = not z }) e) refl (does_one head r NegateStmt 1 tt (size_code 6))
  does_stmt false false e = does_same head r r (record r { stmt = false }) [] [] 0 0 (ap (λ z. record r { stmt = z }) e) refl (does_none head r)

  does_block : (flag : Bool) → r.block ≡ false → Does head r (opcode_if flag SetBasicBlock) [] (record r { block = flag }) (flag_bytes flag)
  does_block true e = does_one head r SetBasicBlock 1 tt (size_code 7)
  does_block false e = does_same head r r (record r { block = false }) [] [] 0 0 (ap (λ z. record r { block = z }) e) refl (does_none head r)

  does_prologue : (flag : Bool) → r.prologue ≡ false → Does head r (opcode_if flag SetPrologueEnd) [] (record r { prologue = flag }) (flag_bytes flag)
  does_prologue true e = does_one head r SetPrologueEnd 1 tt (λ bytes s. size_code 10 bytes s.1)
  does_prologue false e = does_same head r r (record r { prologue = false }) [] [] 0 0 (ap (λ z. record r { prologue = z }) e) refl (does_none head r)

  does_epilogue : (flag : Bool) → r.epilogue ≡ false → Does head r (opcode_if flag SetEpilogueBegin) [] (record r { epilogue = flag }) (flag_bytes flag)
  does_epilogue true e = does_one head r SetEpilogueBegin 1 tt (λ bytes s. size_code 11 bytes s.1)
  does_epilogue false e = does_same head r r (record r { epilogue = false }) [] [] 0 0 (ap (λ z. record r { epilogue = z }) e) refl (does_none head r)

  does_discriminator : (to : ℕ) → r.discriminator ≡ 0 → Does head r (opcode_if (not (to == 0)) (SetDiscriminator to)) [] (record r { discriminator = to }) (discriminator_bytes to)
  does_discriminator to none =
      does_change head r (record r { discriminator = to }) to 0 (SetDiscriminator to) (discriminator_bytes to)
      (λ ne. does_same head r (record r { discriminator = to }) (record r { discriminator = to }) (SetDiscriminator to ∷ []) [] (3 + least_unsigned_len to) (discriminator_bytes to) refl (some_discriminator to ne) (does_one head r (SetDiscriminator to) (3 + least_unsigned_len to) tt (size_discriminator to)))
      (λ e. does_same head r r (record r { discriminator = to }) [] [] 0 (discriminator_bytes to) (ap (λ z. record r { discriminator = z }) (none ∙ sym e)) (no_discriminator to e) (does_none head r))

pub does_numbers : (head : Head) (r : Registers) (row : Row) → Does head r (number_opcodes r row) [] (with_numbers r row) (register_bytes r.file row.file + register_bytes r.column row.column + register_bytes r.isa row.isa)
does_numbers head r row =
    let s = record r { file = row.file } in
    let t = record s { column = row.column } in
    let u = record t { isa = row.isa } in
    let file = opcode_if (not (r.file == row.file)) (SetFile row.file) in
    let column = opcode_if (not (r.column == row.column)) (SetColumn row.column) in
    let isa = opcode_if (not (r.isa == row.isa)) (SetIsa row.isa) in
    let two = does_append head r s t file column [] [] (register_bytes r.file row.file) (register_bytes r.column row.column) (does_file head r row.file) (does_column head s row.column) in
    does_append head r t u (file ++ column) isa [] [] (register_bytes r.file row.file + register_bytes r.column row.column) (register_bytes r.isa row.isa) two (does_isa head t row.isa)

-- the bytes of a row's marks
abbrev pub mark_bytes : Registers → Row → ℕ
mark_bytes r row = stmt_bytes r.stmt row.stmt + flag_bytes row.block + flag_bytes row.prologue + flag_bytes row.epilogue + discriminator_bytes row.discriminator

pub does_marks : (head : Head) (r : Registers) (row : Row) → IsClear r → Does head r (mark_opcodes r row) [] (with_marks r row) (mark_bytes r row)
does_marks head r row clear =
    let r1 = record r { stmt = row.stmt } in
    let r2 = record r1 { block = row.block } in
    let r3 = record r2 { prologue = row.prologue } in
    let r4 = record r3 { epilogue = row.epilogue } in
    let r5 = record r4 { discriminator = row.discriminator } in
    let stmt = stmt_opcodes r.stmt row.stmt in
    let block = opcode_if row.block SetBasicBlock in
    let prologue = opcode_if row.prologue SetPrologueEnd in
    let epilogue = opcode_if row.epilogue SetEpilogueBegin in
    let discriminator = opcode_if (not (row.discriminator == 0)) (SetDiscriminator row.discriminator) in
    let n1 = stmt_bytes r.stmt row.stmt in
    let n2 = flag_bytes row.block in
    let n3 = flag_bytes row.prologue in
    let n4 = flag_bytes row.epilogue in
    let d2 = does_append head r r1 r2 stmt block [] [] n1 n2 (does_stmt head r r.stmt row.stmt refl) (does_block head r1 row.block clear.no_block) in
    let d3 = does_append head r r2 r3 (stmt ++ block) prologue [] [] (n1 + n2) n3 d2 (does_prologue head r2 row.prologue clear.no_prologue) in
    let d4 = does_append head r r3 r4 (stmt ++ block ++ prologue) epilogue [] [] (n1 + n2 + n3) n4 d3 (does_epilogue head r3 row.epilogue clear.no_epilogue) in
    does_append head r r4 r5 (stmt ++ block ++ prologue ++ epilogue) discriminator [] [] (n1 + n2 + n3 + n4) (discriminator_bytes row.discriminator) d4 (does_discriminator head r4 row.discriminator clear.no_discriminator)
