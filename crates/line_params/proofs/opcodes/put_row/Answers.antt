use Rattle.std.proofs.Common.{arith}
use Rattle.std.specs.Prelude.{FitsSigned}
use Rattle.std.specs.Int.{w8}
use Rattle.std.proofs.lemmas.Int.{ints, to_z-of_z}
use Rattle.std.proofs.lemmas.Result.{on_ok_weaker}
use Rattle.line_params.proofs.Appending.{adds_row}
use Rattle.line_params.proofs.opcodes.put_row.Goals as goal

pub returns : goal.returns
returns c =
    let base : FitsSigned w8 c.args.base = c.ranges.base in
    on_ok_weaker c.put_step.result (adds_row c.args.base c.args.range c.args.min c.args.from.now c.args.row.now _ _ c.args.out.now.items c.put_numbers.new.out.items c.put_marks.new.out.items c.put_step.new.out.items (omega (arith, ints, c.from.ensures)) c.address_distance-distance.ensures c.in_ok-put_numbers.ensures c.in_ok-put_marks.ensures) (simp to_z-of_z at c.put_step.ensures)
