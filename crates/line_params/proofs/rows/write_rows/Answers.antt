use Rattle.std.specs.Prelude.{FitsSigned}
use Rattle.std.specs.Int.{w8}
use Rattle.std.proofs.lemmas.Int.{to_z-of_z}
use Rattle.line_params.proofs.Rowwise.{written_none, written_next}
use Rattle.line_params.proofs.Whole.{IsWhole, written_program, pair_is}
use Rattle.line_params.proofs.rows.write_rows.Goals as goal
use Rattle.line_params.proofs.rows.write_rows.Goals.{After-loop-row}

pub loop-row-init : goal.loop-row-init
loop-row-init c =
    let base : FitsSigned w8 c.args.base = c.ranges.base in
    simp to_z-of_z (written_none c.args.head.now.stmt c.args.base c.args.range c.args.head.now.min c.new-out.result.items c.start-from.result c.new-out.ensures.items c.start-from.ensures)

pub loop-row-preserved : goal.loop-row-preserved
loop-row-preserved c =
    let base : FitsSigned w8 c.args.base = c.ranges.base in
    simp to_z-of_z (
    written_next c.args.head.now.stmt c.args.base c.args.range c.args.head.now.min c.args.rows.now c.loop-row.row-index _ c.loop-row.out.items c.put_any.new.out.items c.loop-row.from c.left_by-from.result c.loop-row-test.true (simp to_z-of_z at c.loop-row.invariant) c.requires.rows.each c.left_by-from.ensures.fits (simp to_z-of_z at c.in_ok-put_any.ensures) c.left_by-from.ensures.registers)

written : (c : After-loop-row) → IsWhole c.args.head.now c.args.base c.args.range c.args.rows.now c.loop-row.out.items
written c =
    let base : FitsSigned w8 c.args.base = c.ranges.base in
    let pair = pair_is c.args.base c.args.range base c.requires.range c.ranges.range.fits in
    written_program c.args.head.now c.args.base c.args.range c.args.rows.now c.loop-row.row-index c.loop-row.out.items c.loop-row.from pair (simp to_z-of_z at c.loop-row.invariant) c.loop-row-test.false c.requires.rows

pub returns-clause-gives : goal.returns-clause-gives
returns-clause-gives c = (written c).gives

pub returns-clause-least : goal.returns-clause-least
returns-clause-least c = (written c).least

pub returns-clause-few : goal.returns-clause-few
returns-clause-few c = (written c).few

pub returns-clause-order : goal.returns-clause-order
returns-clause-order c = (written c).order
