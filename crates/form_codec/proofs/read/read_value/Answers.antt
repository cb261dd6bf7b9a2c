use Rattle.std.proofs.Common.{to_z-of_z, FitsSigned, w64}
use Rattle.form_codec.proofs.ReadLaws.{value_read, fault_read}
use Rattle.form_codec.proofs.FormLaws.{read_in}
use Rattle.form_codec.proofs.read.read_value.Goals as goal

pub returns-in-Ok-clause-read : goal.returns-in-Ok-clause-read
returns-in-Ok-clause-read c =
    let fits : FitsSigned w64 c.args.constant = c.ranges.constant in
    rw (← c.in-Some.ensures) (value_read c.args.name c.in-Some.form c.args.constant c.args.section.now c.args.at c.args.end c.in-Ok.read c.requires.starts c.requires.inside (λ k lt. (c.type_inv.section k).fits) (simp to_z-of_z at c.in-Ok.ensures.read))

pub returns-in-Ok-clause-in_section : goal.returns-in-Ok-clause-in_section
returns-in-Ok-clause-in_section c =
    read_in c.args.name c.args.form c.args.constant c.args.section.now c.args.at c.args.end _ c.requires.inside (λ k lt. (c.type_inv.section k).fits) (returns-in-Ok-clause-read c)

pub returns-in-Err-clause-fault : goal.returns-in-Err-clause-fault
returns-in-Err-clause-fault c =
    let fits : FitsSigned w64 c.args.constant = c.ranges.constant in
    rw (← c.in-Some.ensures) (fault_read c.args.name c.in-Some.form c.args.constant c.in-Err.kind c.args.section.now c.args.at c.args.end c.requires.starts (simp to_z-of_z at c.in-Err.ensures.fault))
