use Rattle.dw_base.specs.declared.fault.Reach.TheVariants.{Wide}
use Rattle.commands.proofs.Images.{no_first_fault}
use Rattle.commands.proofs.summary.read_sizes.Goals as goal

pub unreachable-requires : goal.unreachable-requires
unreachable-requires c =
    let named = rw c.in-Err-Refused.field-0-is at c.in-Err-Refused.ensures.refused in
    let fault = c.in-Err-Refused.field-0-0 in
    no_first_fault c.args.file.now Wide fault.kind fault.place c.requires named
