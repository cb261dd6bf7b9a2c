use Rattle.tidy_files.proofs.OtherPrograms.{all_standard, program_inside, program_least}
use Rattle.std.proofs.Common.{◌∙◌, length, ap, arith}
use Rattle.tidy_files.proofs.programs.first_other_program.Goals as goal

pub offset_in_file-requires : goal.offset_in_file-requires
offset_in_file-requires c =
    program_inside c.args.world.now c.requires c.loop-head.head-index c.deref-head-items.result.now (c.deref-head-items.ensures.value ∙ c.programs.ensures) c.loop-head-test.true c.as_slice.result.now c.as_slice.ensures

pub returns-then-head-ne-STANDARD_BASE : goal.returns-then-head-ne-STANDARD_BASE
returns-then-head-ne-STANDARD_BASE c =
    program_least c.args.world.now c.requires c.loop-head.head-index c.deref-head-items.result.now (c.deref-head-items.ensures.value ∙ c.programs.ensures) c.loop-head-test.true c.loop-head.invariant c.if-head-ne-STANDARD_BASE.true c.as_slice.result.now c.as_slice.ensures c.offset_in_file.result c.offset_in_file.ensures

pub returns : goal.returns
returns c = all_standard c.args.world.now c.requires c.loop-head.head-index (omega (arith, ap length (c.deref-head-items.ensures.value ∙ c.programs.ensures))) c.loop-head.invariant
