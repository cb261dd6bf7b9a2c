use Rattle.std.proofs.Common.{◌≡◌, ◌≤◌, ◌<◌, length, slice_index_or, arith}
use Rattle.abbrev_tables.specs.Tables.{SpellsDeclared, IsTableEnd}
use Rattle.abbrev_tables.specs.Listings.{declarations_in}
use Rattle.abbrev_tables.proofs.Unique.{declared_once, table_apart}
use Rattle.tidy_numbers.specs.LongTables.{IsLongDeclared}
use Rattle.tidy_numbers.proofs.WalkedRows.{walked_next, walked_more, walked_last, walked_found}
use Rattle.tidy_numbers.proofs.DeclarationWalks.{found_end}
use Rattle.tidy_numbers.proofs.TableWalks.{table_stands, declared_count, no_declared, columns_listed}
use Rattle.tidy_numbers.proofs.tables.past_table.Goals as goal

pub past_declared-next-requires : goal.past_declared-next-requires
past_declared-next-requires c =
    let l = c.loop-i in
    let t = c.args.table.now in
    let size = declared_count t in
    let count : c.len-i-end.result ≡ length t.decls = c.len-i-end.ensures in
    let before : l.i < c.len-i-end.result = c.loop-i-test.true in
    let inside : l.i < length (declarations_in t.specs t.decls) = omega arith in (
      slice_index_or (declarations_in t.specs t.decls) l.i no_declared,
      columns_listed t l.i c.columns.result.now (omega arith) c.columns.ensures,
      walked_next SpellsDeclared IsTableEnd IsLongDeclared c.args.bytes.now (declarations_in t.specs t.decls) c.args.walk.at c.args.walk.long t.end (table_stands c.args.bytes.now c.args.walk.at t c.requires) l.i l.next.at l.next.long l.invariant no_declared inside,
    )

pub loop-i-preserved : goal.loop-i-preserved
loop-i-preserved c =
    let l = c.loop-i in
    let t = c.args.table.now in
    let size = declared_count t in
    let count : c.len-i-end.result ≡ length t.decls = c.len-i-end.ensures in
    let before : l.i < c.len-i-end.result = c.loop-i-test.true in
    let inside : l.i < length (declarations_in t.specs t.decls) = omega arith in
    walked_more SpellsDeclared IsTableEnd IsLongDeclared c.args.bytes.now (declarations_in t.specs t.decls) c.args.walk.at c.args.walk.long t.end (table_stands c.args.bytes.now c.args.walk.at t c.requires) l.i l.next.at l.next.long l.invariant declared_once no_declared inside c.past_declared-next.result.at c.past_declared-next.result.long (c.past_declared-next.ensures.ends (slice_index_or (declarations_in t.specs t.decls) l.i no_declared)) c.past_declared-next.ensures.long

pub past_unsigned-requires : goal.past_unsigned-requires
past_unsigned-requires c =
    let l = c.loop-i in
    let t = c.args.table.now in
    let size = declared_count t in
    let count : c.len-i-end.result ≡ length t.decls = c.len-i-end.ensures in
    let past : c.len-i-end.result ≤ l.i = c.loop-i-test.false in
    let none : length (declarations_in t.specs t.decls) ≤ l.i = omega arith in
    let stands = table_stands c.args.bytes.now c.args.walk.at t c.requires in
    (0, (t.end, walked_last SpellsDeclared IsTableEnd IsLongDeclared c.args.bytes.now (declarations_in t.specs t.decls) c.args.walk.at c.args.walk.long t.end stands l.i l.next.at l.next.long l.invariant none t.end stands))

pub returns : goal.returns
returns c =
    let l = c.loop-i in
    let t = c.args.table.now in
    let size = declared_count t in
    let count : c.len-i-end.result ≡ length t.decls = c.len-i-end.ensures in
    let past : c.len-i-end.result ≤ l.i = c.loop-i-test.false in
    let none : length (declarations_in t.specs t.decls) ≤ l.i = omega arith in
    let stands = table_stands c.args.bytes.now c.args.walk.at t c.requires in
    let last = walked_last SpellsDeclared IsTableEnd IsLongDeclared c.args.bytes.now (declarations_in t.specs t.decls) c.args.walk.at c.args.walk.long t.end stands l.i l.next.at l.next.long l.invariant none t.end stands in
    let found = found_end c.args.bytes.now l.next.at t.end last l.next.long c.past_unsigned.result.long c.past_unsigned.ensures.long in
    walked_found SpellsDeclared IsTableEnd IsLongDeclared c.args.bytes.now (declarations_in t.specs t.decls) c.args.walk.at c.args.walk.long t.end stands l.i l.next.at l.next.long l.invariant table_apart none c.past_unsigned.result.long found
