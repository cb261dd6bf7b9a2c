use Rattle.std.proofs.Common.{◌∙◌, ap, length, arith}
use Rattle.std.specs.Prelude.{pos}
use Rattle.line_sums.proofs.Counted.{steps_len}
use Rattle.check_lines.proofs.Spreading.{spread_size}
use Rattle.check_lines.proofs.Verdict.{told_accepted, told_first}
use Rattle.check_lines.proofs.accept.accept_program.Goals as goal

pub first_pair-requires-clause-few : goal.first_pair-requires-clause-few
first_pair-requires-clause-few c =
    rw c.deref.ensures.value (omega (arith, c.in_ok-counted.ensures.counted.same (λ _. 1), steps_len (pos 1) 0 c.args.rows.now, c.if-rows-gt-MOST_ROWS.false))

pub first_pair-requires-clause-numbers : goal.first_pair-requires-clause-numbers
first_pair-requires-clause-numbers c = ap length (c.deref-2.ensures.value ∙ c.in_ok-numbers.ensures) ∙ spread_size c.args.runs.now ∙ c.requires.runs.all

pub returns-clause-accepted : goal.returns-clause-accepted
returns-clause-accepted c =
    told_accepted c.args.head.now c.args.rows.now c.args.head.now.program.len c.fixed_size.result c.saturating_sub-bytes.result c.args.runs.now c.in_ok-counted.counted.items c.deref-2.result.now c.fixed_size.ensures.is (omega (arith, c.saturating_sub-bytes.ensures)) (c.deref-2.ensures.value ∙ c.in_ok-numbers.ensures) c.first_pair.result c.in_ok-counted.ensures.order c.requires.runs (rw c.deref.ensures.value at c.first_pair.ensures)

pub returns-clause-first : goal.returns-clause-first
returns-clause-first c =
    told_first c.args.head.now c.args.rows.now c.args.head.now.program.len c.fixed_size.result c.saturating_sub-bytes.result c.args.runs.now c.in_ok-counted.counted.items c.deref-2.result.now c.fixed_size.ensures.is (omega (arith, c.saturating_sub-bytes.ensures)) (c.deref-2.ensures.value ∙ c.in_ok-numbers.ensures) c.first_pair.result c.in_ok-counted.ensures.order (rw c.deref.ensures.value at c.first_pair.ensures)
