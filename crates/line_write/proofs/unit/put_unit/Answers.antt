use Rattle.std.proofs.Common.{◌≡◌, ◌+◌, ◌-◌, ◌∙◌, ℕ, List, length, take, drop, ap, arith}
use Rattle.std.specs.Int.{w8, cast_unsigned}
use Rattle.std.proofs.lemmas.Result.{on_ok_weaker}
use Rattle.line_machine.proofs.Passing.{add_minus}
use Rattle.line_machine.specs.Class.{Encoding}
use Rattle.line_write.specs.Programs.{tables_of}
use Rattle.line_write.proofs.ReadBack.{byte_back}
use Rattle.line_write.proofs.Putting.{unit_put}
use Rattle.line_write.proofs.unit.put_unit.Goals as goal

pub returns : goal.returns
returns c =
    let section : List ℕ = c.args.section.now in
    let head = c.args.head.now in
    let program = c.args.program.now in
    let e : Encoding = record { base = program.base; range = program.range; bytes = program.bytes.items } in
    let four : head.at + 8 - (head.at + 4) ≡ 4 = omega arith in
    let three : head.at + 15 - (head.at + 12) ≡ 3 = omega arith in
    let version = rw four at c.in_ok-put_bytes.ensures in
    let instruction = rw three at c.in_ok-put_bytes-2.ensures in
    let tables = rw add_minus at c.in_ok-put_bytes-5.ensures in
    let count : c.len.result ≡ length program.bytes.items = c.len.ensures ∙ program.bytes.ok.0 in
    let size : length (take (head.tables.at + head.tables.len - head.tables.at) (drop head.tables.at section)) ≡ length (tables_of section head) = ap (λ n. length (take n (drop head.tables.at section))) (add_minus head.tables.at head.tables.len) in
    let byte : c.cast_unsigned.result ≡ cast_unsigned w8 program.base = c.cast_unsigned.ensures ∙ ap (cast_unsigned w8) (byte_back program.base c.requires.pair.base_from c.requires.pair.base_to) in
    on_ok_weaker c.put_bytes-6.result (λ last.
    unit_put section head e c.requires.head _ _ c.cast_unsigned.result c.args.out.now.items c.put_u32.new.out.items c.put_bytes.new.out.items c.put_u32-2.new.out.items c.put_bytes-2.new.out.items c.put_bytes-3.new.out.items c.put_bytes-4.new.out.items c.put_bytes-5.new.out.items c.put_bytes-6.new.out.items
    (omega arith) (omega arith) byte c.in_ok-put_u32.ensures version c.in_ok-put_u32-2.ensures instruction c.in_ok-put_bytes-3.ensures c.in_ok-put_bytes-4.ensures tables last) (rw c.deref.ensures.value at c.put_bytes-6.ensures)
