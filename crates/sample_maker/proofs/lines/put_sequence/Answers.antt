use Rattle.std.proofs.Common.{refl}
use Rattle.std.proofs.lemmas.Result.{on_ok_weaker}
use Rattle.sample_maker.specs.Drawn.{function_of}
use Rattle.sample_maker.proofs.Appending.{sequence_written}
use Rattle.sample_maker.proofs.lines.put_sequence.Goals as goal

pub returns : goal.returns
returns c =
    on_ok_weaker c.put-2.result (sequence_written c.args.unit c.args.number (function_of c.args.function.now) 4 c.args.out.now.items c.put_first_row.new.out.items c.put_steps.new.out.items c.put.new.out.items c.put-2.new.out.items refl c.in_ok-put_first_row.ensures c.in_ok-put_steps.ensures c.in_ok-put.ensures) c.put-2.ensures
