use Rattle.std.proofs.Common.{◌∙◌, ◌∷◌, [], take, get_or, sym, ap}
use Rattle.std.specs.Prelude.{true}
use Rattle.std.proofs.lemmas.List.{take_more}
use Rattle.std.proofs.lemmas.List.Elements.{All-more}
use Rattle.line_machine.specs.Rows.{ends}
use Rattle.line_machine.specs.Class.{IsRow}
use Rattle.line_machine.proofs.Passing.{ends_append}
use Rattle.line_tests.proofs.rows.are_rows.Goals as goal

pub loop-row-preserved : goal.loop-row-preserved
loop-row-preserved c =
    let front = take c.loop-row.row-index c.args.rows.now in
    let row = get_or c.args.rows.now c.loop-row.row-index _ in
    record {
      each = All-more IsRow c.args.rows.now c.loop-row.row-index _ c.loop-row-test.true c.loop-row.invariant.each (c.is_row.ensures c.if-not-is_row.false);
      ended = sym (ap (ends true) (take_more c.args.rows.now c.loop-row.row-index _ c.loop-row-test.true) ∙ ends_append true front (row ∷ []));
    }
