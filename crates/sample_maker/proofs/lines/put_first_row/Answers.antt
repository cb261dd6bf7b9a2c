use Rattle.std.proofs.Common.{arith}
use Rattle.std.proofs.lemmas.Int.{ints}
use Rattle.std.proofs.lemmas.Result.{on_ok_weaker}
use Rattle.sample_maker.specs.Drawn.{function_of}
use Rattle.sample_maker.proofs.Appending.{first_row_written}
use Rattle.sample_maker.proofs.lines.put_first_row.Goals as goal

pub returns : goal.returns
returns c =
    on_ok_weaker c.put-4.result (first_row_written c.args.unit c.args.number (function_of c.args.function.now) _ _ _ c.args.out.now.items c.put.new.out.items c.put-2.new.out.items c.put-3.new.out.items c.put-4.new.out.items c.requires.unit c.requires.number c.requires.small c.from-2.ensures (omega (arith, c.unit_base.ensures, c.function_offset.ensures, c.from.ensures)) (omega (arith, ints, c.from-3.ensures)) c.in_ok-put.ensures c.in_ok-put-2.ensures c.in_ok-put-3.ensures) c.put-4.ensures
