use Rattle.std.proofs.Common.{rules}
use Rattle.std.specs.Prelude.{FitsSigned}
use Rattle.std.specs.Int.{w8, w64}
use Rattle.std.proofs.lemmas.Int.{to_z-of_z}
use Rattle.std.proofs.lemmas.Result.{on_ok_weaker}
use Rattle.line_params.proofs.Appending.{adds_step}
use Rattle.line_params.proofs.Full.{way_full}
use Rattle.line_params.proofs.opcodes.put_step.Goals as goal

pub put_address-requires : goal.put_address-requires
put_address-requires c = way_full _ _ _ c.step_way-way.result.address c.step_way-way.ensures.way.address

pub returns : goal.returns
returns c =
    let line : FitsSigned w64 c.args.line = c.ranges.line in
    let base : FitsSigned w8 c.args.base = c.ranges.base in
    let operand : FitsSigned w64 c.step_way-way.result.line = search rules in
    on_ok_weaker c.put_opcode.result (adds_step c.args.base c.args.range c.args.min c.args.line c.args.distance c.args.address c.address_before-before.result c.step_way-way.result c.row_opcode.result c.args.out.now.items c.put_address.new.out.items c.put_line.new.out.items c.put_opcode.new.out.items (simp to_z-of_z at c.step_way-way.ensures.way) c.address_before-before.ensures c.row_opcode.ensures c.in_ok-put_address.ensures (simp to_z-of_z at c.in_ok-put_line.ensures)) c.put_opcode.ensures.ok
