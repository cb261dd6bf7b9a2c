use Rattle.std.proofs.Common.{◌≤◌, ℕ, List, length, subst, arith}
use Rattle.std.proofs.lemmas.Int.{ints}
use Rattle.line_machine.specs.declared.registers.Row.{Row}
use Rattle.line_sums.specs.Accepted.{AreLeastRuns}
use Rattle.line_params.proofs.TakenLaws.{written_bytes, written_taken}
use Rattle.line_params.proofs.program.shrink_program.Goals as goal

pub returns-clause-taken : goal.returns-clause-taken
returns-clause-taken c =
    let small : c.args.head.now.min ≤ 255 = omega arith in
    let chosen = c.in_ok-least.ensures.pair in
    written_taken c.args.head.now c.args.rows.now.items c.as_slice-rows.result.now _ c.in_ok-least.least.pair c.in_ok-bytes.bytes.items small (omega (arith, ints, chosen.pair.base_from, chosen.pair.base_to)) c.as_slice-rows.ensures.value chosen c.in_ok-bytes.ensures.gives c.in_ok-bytes.ensures.least

pub returns-clause-runs : goal.returns-clause-runs
returns-clause-runs c =
    let small : c.args.head.now.min ≤ 255 = omega arith in
    let chosen = c.in_ok-least.ensures.pair in
    let size = written_bytes c.args.head.now c.as_slice-rows.result.now _ c.in_ok-least.least.pair c.in_ok-least.least.bytes c.in_ok-bytes.bytes.items small (omega (arith, ints, chosen.pair.base_from, chosen.pair.base_to)) c.in_ok-least.ensures.bytes c.in_ok-bytes.ensures.gives c.in_ok-bytes.ensures.least in
    subst (λ (z : List Row). AreLeastRuns c.args.head.now z (length c.in_ok-bytes.bytes.items) c.in_ok-least.least.runs.items) c.as_slice-rows.ensures.value (subst (λ (n : ℕ). AreLeastRuns c.args.head.now c.as_slice-rows.result.now n c.in_ok-least.least.runs.items) size c.in_ok-least.ensures.runs)
