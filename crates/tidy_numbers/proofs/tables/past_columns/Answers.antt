use Rattle.std.specs.Prelude.{pos}
use Rattle.abbrev_tables.specs.declared.decl.Spec.{Spec}
use Rattle.abbrev_tables.specs.Tables.{SpellsColumn, IsColumnsEnd}
use Rattle.abbrev_tables.proofs.Unique.{column_once, columns_apart}
use Rattle.tidy_numbers.specs.LongTables.{IsLongColumn}
use Rattle.tidy_numbers.proofs.WalkedRows.{walked_next, walked_more, walked_last, walked_found}
use Rattle.tidy_numbers.proofs.ColumnWalks.{zero_stands, second_stands, ends_zeros, found_zeros}
use Rattle.tidy_numbers.proofs.tables.past_columns.Goals as goal

abbrev no_column : Spec
no_column = record { name = 0; form = 0; constant = pos 0 }

pub past_column-next-requires : goal.past_column-next-requires
past_column-next-requires c =
    let l = c.loop-column in
    walked_next SpellsColumn IsColumnsEnd IsLongColumn c.args.bytes.now c.args.columns.now c.args.walk.at c.args.walk.long c.requires.0 c.requires.1 l.column-index l.next.at l.next.long l.invariant no_column c.loop-column-test.true

pub loop-column-preserved : goal.loop-column-preserved
loop-column-preserved c =
    let l = c.loop-column in
    walked_more SpellsColumn IsColumnsEnd IsLongColumn c.args.bytes.now c.args.columns.now c.args.walk.at c.args.walk.long c.requires.0 c.requires.1 l.column-index l.next.at l.next.long l.invariant column_once no_column c.loop-column-test.true c.past_column-next.result.at c.past_column-next.result.long c.past_column-next.ensures.ends c.past_column-next.ensures.long

pub past_unsigned-name-requires : goal.past_unsigned-name-requires
past_unsigned-name-requires c =
    let l = c.loop-column in
    let last = walked_last SpellsColumn IsColumnsEnd IsLongColumn c.args.bytes.now c.args.columns.now c.args.walk.at c.args.walk.long c.requires.0 c.requires.1 l.column-index l.next.at l.next.long l.invariant c.loop-column-test.false c.requires.0 c.requires.1 in
    zero_stands c.args.bytes.now l.next.at c.requires.0 last

pub past_unsigned-requires : goal.past_unsigned-requires
past_unsigned-requires c =
    let l = c.loop-column in
    let last = walked_last SpellsColumn IsColumnsEnd IsLongColumn c.args.bytes.now c.args.columns.now c.args.walk.at c.args.walk.long c.requires.0 c.requires.1 l.column-index l.next.at l.next.long l.invariant c.loop-column-test.false c.requires.0 c.requires.1 in
    second_stands c.args.bytes.now l.next.at c.requires.0 last c.past_unsigned-name.result.at c.past_unsigned-name.ensures.ends

pub returns-clause-ends : goal.returns-clause-ends
returns-clause-ends c = λ end stands.
    let l = c.loop-column in
    let last = walked_last SpellsColumn IsColumnsEnd IsLongColumn c.args.bytes.now c.args.columns.now c.args.walk.at c.args.walk.long c.requires.0 c.requires.1 l.column-index l.next.at l.next.long l.invariant c.loop-column-test.false end stands in
    ends_zeros c.args.bytes.now l.next.at end last c.past_unsigned-name.result.at c.past_unsigned-name.ensures.ends c.past_unsigned.result.at c.past_unsigned.ensures.ends

pub returns-clause-long : goal.returns-clause-long
returns-clause-long c =
    let l = c.loop-column in
    let last = walked_last SpellsColumn IsColumnsEnd IsLongColumn c.args.bytes.now c.args.columns.now c.args.walk.at c.args.walk.long c.requires.0 c.requires.1 l.column-index l.next.at l.next.long l.invariant c.loop-column-test.false c.requires.0 c.requires.1 in
    let zeros = found_zeros c.args.bytes.now l.next.at c.requires.0 last c.past_unsigned-name.result.at c.past_unsigned-name.ensures.ends l.next.long c.past_unsigned-name.result.long c.past_unsigned.result.long c.past_unsigned-name.ensures.long c.past_unsigned.ensures.long in
    walked_found SpellsColumn IsColumnsEnd IsLongColumn c.args.bytes.now c.args.columns.now c.args.walk.at c.args.walk.long c.requires.0 c.requires.1 l.column-index l.next.at l.next.long l.invariant columns_apart c.loop-column-test.false c.past_unsigned.result.long zeros
