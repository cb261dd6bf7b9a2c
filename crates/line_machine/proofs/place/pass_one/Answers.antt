use Rattle.std.proofs.Common.{arith, sym, ap, refl, ◌+◌}
use Rattle.std.proofs.lemmas.List.{take_rest}
use Rattle.line_machine.proofs.Passing.{passed_one, opcode_here, near_more, ended_by}
use Rattle.line_machine.proofs.place.pass_one.Goals as goal

pub returns-in-Some-row-clause-near : goal.returns-in-Some-row-clause-near
returns-in-Some-row-clause-near c =
    near_more _ (c.args.place.at + c.in-Ok.read.end) c.in-Some.effect.registers.line (c.in-Some.ensures.near c.args.place.at c.requires.near) (omega (arith, c.in-Ok.ensures.within.0))

pub returns-in-Some-row-clause-passed : goal.returns-in-Some-row-clause-passed
returns-in-Some-row-clause-passed c =
    let within = rw take_rest at c.in-Ok.ensures.within.1 in
    let read = rw take_rest at c.in-Ok.ensures.read in
    let effect = c.in-Some.ensures.effect in
    passed_one c.args.head.now c.args.program.now c.args.place c.in-Ok.read.opcode c.in-Ok.read.end c.in-Some.effect.row c.in-Some.effect.registers c.in-Some-row.row.end within read effect.0 effect.1 effect.2 (ap (ended_by c.args.place.ended) (sym c.in-Some-row.is))

pub returns-in-None-row-clause-near : goal.returns-in-None-row-clause-near
returns-in-None-row-clause-near c =
    near_more _ (c.args.place.at + c.in-Ok.read.end) c.in-Some.effect.registers.line (c.in-Some.ensures.near c.args.place.at c.requires.near) (omega (arith, c.in-Ok.ensures.within.0))

pub returns-in-None-row-clause-passed : goal.returns-in-None-row-clause-passed
returns-in-None-row-clause-passed c =
    let within = rw take_rest at c.in-Ok.ensures.within.1 in
    let read = rw take_rest at c.in-Ok.ensures.read in
    let effect = c.in-Some.ensures.effect in
    passed_one c.args.head.now c.args.program.now c.args.place c.in-Ok.read.opcode c.in-Ok.read.end c.in-Some.effect.row c.in-Some.effect.registers c.args.place.ended within read effect.0 effect.1 effect.2 (ap (ended_by c.args.place.ended) (sym c.in-None-row.is))

pub returns-in-None-clause-fault : goal.returns-in-None-clause-fault
returns-in-None-clause-fault c =
    let read = rw take_rest at c.in-Ok.ensures.read in
    (c.in-Ok.read.opcode, c.in-Ok.read.end, read, c.in-None.ensures.effect, refl)

pub returns-in-Err-clause-fault : goal.returns-in-Err-clause-fault
returns-in-Err-clause-fault c =
    let fault = rw take_rest at c.in-Err.ensures.fault in
    opcode_here c.args.head.now c.args.program.now c.args.place c.in-Err.fault c.shifted.result c.shifted.ensures.kind c.shifted.ensures.place fault
