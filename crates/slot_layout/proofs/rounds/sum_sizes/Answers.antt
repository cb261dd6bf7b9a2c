use Rattle.std.proofs.Common.{◌+◌, arith}
use Rattle.std.proofs.lemmas.List.Sums.{sum_by_more}
use Rattle.slot_layout.proofs.SumLaws.{sum_take-small}
use Rattle.slot_layout.proofs.rounds.sum_sizes.Goals as goal

pub overflow_add-start : goal.overflow_add-start
overflow_add-start c =
    let more = sum_by_more (λ s. s) c.args.sizes.now c.loop-i.i 0 (omega arith) in
    omega (arith, more, sum_take-small c.args.sizes.now (c.loop-i.i + 1) c.requires.small)
