use Rattle.std.proofs.Common.{◌<◌, ◌+◌, ◌∙◌, length, take, ap, arith}
use Rattle.std.proofs.lemmas.List.{take_more}
use Rattle.line_machine.specs.Class.{Encoding}
use Rattle.line_write.proofs.Reading.{read_each}
use Rattle.line_write.proofs.Writing.{rewriting_on, rewriting_done, rewriting_means, rewriting_least, rewriting_ordered, rewriting_bound, rewriting_stand, rewriting_records}
use Rattle.line_write.proofs.lines.shrink_lines.Goals as goal

pub least_program-requires-clause-head : goal.least_program-requires-clause-head
least_program-requires-clause-head c =
    let size = ap length c.deref-head-items.ensures.value in
    rw c.deref-head-items.ensures.value (read_each c.args.section.now c.args.heads.now.items c.requires.read c.loop-head.head-index _ (omega (arith, size))).0

pub least_program-requires-clause-given : goal.least_program-requires-clause-given
least_program-requires-clause-given c =
    let size = ap length c.deref-head-items.ensures.value in
    rw c.deref-head-items.ensures.value (read_each c.args.section.now c.args.heads.now.items c.requires.read c.loop-head.head-index _ (omega (arith, size))).1

pub put_unit-requires-clause-head : goal.put_unit-requires-clause-head
put_unit-requires-clause-head c =
    let size = ap length c.deref-head-items.ensures.value in
    rw c.deref-head-items.ensures.value (read_each c.args.section.now c.args.heads.now.items c.requires.read c.loop-head.head-index _ (omega (arith, size))).0

pub loop-head-preserved : goal.loop-head-preserved
loop-head-preserved c =
    let items = c.args.heads.now.items in
    let i = c.loop-head.head-index in
    let program = c.in_ok-program.program in
    let e : Encoding = record { base = program.base; range = program.range; bytes = program.bytes.items } in
    let size = ap length c.deref-head-items.ensures.value in
    let inside : i < length items = omega (arith, size) in
    let least = rw c.deref-head-items.ensures.value at c.in_ok-program.ensures in
    let put = rw c.deref-head-items.ensures.value at c.in_ok-put_unit.ensures in
    record {
      rewriting = rewriting_on c.args.section.now (take i items) (take (i + 1) items) _ e program.runs.items c.loop-head.lines.bytes.items c.put_unit.new.out.items c.loop-head.lines.starts.items c.push.new.starts.items c.loop-head.lines.records.items c.put_record.new.out.items c.len-start.result c.loop-head.invariant.rewriting least (take_more items i _ inside) (c.len-start.ensures ∙ c.loop-head.lines.bytes.ok.0) c.in_ok-push.ensures put c.in_ok-put_record.ensures;
    }

pub returns-clause-rewritten : goal.returns-clause-rewritten
returns-clause-rewritten c =
    let size = ap length c.deref-head-items.ensures.value in
    rewriting_done c.args.section.now c.args.heads.now.items c.loop-head.lines.bytes.items c.loop-head.lines.starts.items c.loop-head.lines.records.items c.requires.read c.loop-head.head-index (omega (arith, size)) c.loop-head.invariant.rewriting

pub returns-clause-means : goal.returns-clause-means
returns-clause-means c =
    let size = ap length c.deref-head-items.ensures.value in
    rewriting_means c.args.section.now c.args.heads.now.items c.loop-head.lines.bytes.items c.loop-head.lines.starts.items c.loop-head.lines.records.items c.requires.read c.loop-head.head-index (omega (arith, size)) c.loop-head.invariant.rewriting c.requires.small

pub returns-clause-least : goal.returns-clause-least
returns-clause-least c =
    let size = ap length c.deref-head-items.ensures.value in
    rewriting_least c.args.section.now c.args.heads.now.items c.loop-head.lines.bytes.items c.loop-head.lines.starts.items c.loop-head.lines.records.items c.requires.read c.loop-head.head-index (omega (arith, size)) c.loop-head.invariant.rewriting c.requires.small

pub returns-clause-order : goal.returns-clause-order
returns-clause-order c =
    let size = ap length c.deref-head-items.ensures.value in
    rewriting_ordered c.args.section.now c.args.heads.now.items c.loop-head.lines.bytes.items c.loop-head.lines.starts.items c.loop-head.lines.records.items c.requires.read c.loop-head.head-index (omega (arith, size)) c.loop-head.invariant.rewriting c.requires.small

pub returns-clause-bound : goal.returns-clause-bound
returns-clause-bound c =
    let size = ap length c.deref-head-items.ensures.value in
    let bound = rewriting_bound c.args.section.now c.args.heads.now.items c.loop-head.lines.bytes.items c.loop-head.lines.starts.items c.loop-head.lines.records.items c.requires.read c.loop-head.head-index (omega (arith, size)) c.loop-head.invariant.rewriting in
    omega (arith, bound)

pub returns-clause-fits : goal.returns-clause-fits
returns-clause-fits c =
    let size = ap length c.deref-head-items.ensures.value in
    let bound = rewriting_bound c.args.section.now c.args.heads.now.items c.loop-head.lines.bytes.items c.loop-head.lines.starts.items c.loop-head.lines.records.items c.requires.read c.loop-head.head-index (omega (arith, size)) c.loop-head.invariant.rewriting in
    omega (arith, bound)

pub returns-clause-stand : goal.returns-clause-stand
returns-clause-stand c =
    let size = ap length c.deref-head-items.ensures.value in
    rewriting_stand c.args.section.now c.args.heads.now.items c.loop-head.lines.bytes.items c.loop-head.lines.starts.items c.loop-head.lines.records.items c.requires.read c.loop-head.head-index (omega (arith, size)) c.loop-head.invariant.rewriting c.requires.small

pub returns-clause-records : goal.returns-clause-records
returns-clause-records c =
    let size = ap length c.deref-head-items.ensures.value in
    rewriting_records c.args.section.now c.args.heads.now.items c.loop-head.lines.bytes.items c.loop-head.lines.starts.items c.loop-head.lines.records.items c.requires.read c.loop-head.head-index (omega (arith, size)) c.loop-head.invariant.rewriting c.requires.small
