use Rattle.std.proofs.Common.{◌≡◌, ◌≤◌, ◌<◌, ◌*◌, ◌∙◌, refl, arith}
use Rattle.std.proofs.lemmas.Int.{ints}
use Rattle.std.proofs.Math.Nat.{mul-le-mul}
use Rattle.line_sums.proofs.RowSums.{run_more}
use Rattle.line_sums.proofs.sums.add_runs.Goals as goal

pub loop-from-init : goal.loop-from-init
loop-from-init c = record { within = omega arith; added = λ place h. absurd (omega arith); left = λ place h inside. refl }

pub loop-from-preserved : goal.loop-from-preserved
loop-from-preserved c =
    let further : c.loop-from.from < c.places_down_to-to.result = c.places_down_to-to.ensures.after c.loop-from.from (omega arith) (omega (arith, ints, c.step_run-run.ensures.below)) in
    record {
      within = c.places_down_to-to.ensures.within;
      added = run_more _ _ _ _ c.args.count c.args.copy c.loop-from.from c.places_down_to-to.result _ c.args.windows.now c.step_run-run.result c.args.sums.now c.loop-from.sums c.add_between.new.self (omega (arith, ints)) (omega (arith, ints)) (omega (arith, ints))
          c.step_run-run.ensures.run c.step_run-run.ensures.few (cc (c.from.ensures, c.from-in-loop-from.ensures)) c.places_down_to-to.ensures.before c.add_between.ensures.added c.add_between.ensures.before (λ place later h. c.loop-from.invariant.left place later (omega (arith, c.places_down_to-to.ensures.within))) c.loop-from.invariant.added;
      left = λ place h inside. c.add_between.ensures.after place h inside ∙ c.loop-from.invariant.left place (omega arith) inside;
    }

pub add_between-requires-clause-order : goal.add_between-requires-clause-order
add_between-requires-clause-order c =
    let further : c.loop-from.from < c.places_down_to-to.result = c.places_down_to-to.ensures.after c.loop-from.from (omega arith) (omega (arith, ints, c.step_run-run.ensures.below)) in
    omega arith

pub add_between-requires-clause-room : goal.add_between-requires-clause-room
add_between-requires-clause-room c = λ place later h.
    let bytes : c.step_run-run.result.bytes ≤ 18 = omega (arith, c.step_run-run.ensures.few, c.requires.few) in
    let amount : c.args.count * c.step_run-run.result.bytes ≤ 4294967295 * 18 = mul-le-mul {n₁ = c.args.count} {m₁ = c.step_run-run.result.bytes} {n₂ = 4294967295} {m₂ = 18} (omega arith) bytes in
    let same : c.from.result * c.from-in-loop-from.result ≡ c.args.count * c.step_run-run.result.bytes = cc (c.from.ensures, c.from-in-loop-from.ensures) in
    let inside : place < 256 = omega (arith, c.places_down_to-to.ensures.within) in
    let old = c.loop-from.invariant.left place later inside in
    let room = c.requires.room place inside in
    omega (arith, amount, same, old, room)

pub loop-from-smaller : goal.loop-from-smaller
loop-from-smaller c =
    let further : c.loop-from.from < c.places_down_to-to.result = c.places_down_to-to.ensures.after c.loop-from.from (omega arith) (omega (arith, ints, c.step_run-run.ensures.below)) in
    omega arith
