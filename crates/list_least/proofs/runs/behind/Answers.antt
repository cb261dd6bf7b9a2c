use Rattle.std.proofs.Common.{◌≡◌, ◌+◌, ◌∙◌, ℕ, ap, drop, length, subst, arith}
use Rattle.list_least.specs.declared.runs.Run.{Run}
use Rattle.list_least.specs.inside.Search.{AddsDown, IsBehindTo}
use Rattle.list_least.proofs.Behind.{starts_seen, goes_on, far_is, joined, near_run, near_down, near_above, near_count}
use Rattle.list_least.proofs.runs.behind.Goals as goal

pub loop-i-init : goal.loop-i-init
loop-i-init c = starts_seen c.args.costs.now c.args.most c.args.runs.items c.as_slice-all.result.now c.truncate.new.self.items c.first_near-from.result c.as_slice-all.ensures.value c.requires.top c.requires.down c.first_near-from.ensures.inside c.truncate.ensures.items c.requires.gains c.first_near-from.ensures.free

pub first_far-until-requires-clause-down : goal.first_far-until-requires-clause-down
first_far-until-requires-clause-down c =
    let near = c.as_slice-old.ensures.value ∙ c.in_ok-rest.ensures ∙ ap (drop c.first_near-from.result) c.as_slice-all.ensures.value in
    near_down c.args.runs.items c.as_slice-old.result.now c.first_near-from.result near c.requires.down

pub lowest_of-lowest-requires-clause-down : goal.lowest_of-lowest-requires-clause-down
lowest_of-lowest-requires-clause-down c =
    let near = c.as_slice-old.ensures.value ∙ c.in_ok-rest.ensures ∙ ap (drop c.first_near-from.result) c.as_slice-all.ensures.value in
    near_down c.args.runs.items c.as_slice-old.result.now c.first_near-from.result near c.requires.down

pub push_run-requires-clause-small : goal.push_run-requires-clause-small
push_run-requires-clause-small c =
    let near = c.as_slice-old.ensures.value ∙ c.in_ok-rest.ensures ∙ ap (drop c.first_near-from.result) c.as_slice-all.ensures.value in
    let run = near_run c.args.runs.items c.as_slice-old.result.now c.first_near-from.result c.loop-i.i near in
    omega (arith, ap (λ (z : Run). z.gain) run, c.requires.gains (c.first_near-from.result + c.loop-i.i) (omega (arith, c.loop-i-test.true, near_count c.args.runs.items c.as_slice-old.result.now c.first_near-from.result near, c.first_far-until.ensures.inside)), c.requires.small)

pub loop-i-preserved : goal.loop-i-preserved
loop-i-preserved c =
    let near = c.as_slice-old.ensures.value ∙ c.in_ok-rest.ensures ∙ ap (drop c.first_near-from.result) c.as_slice-all.ensures.value in
    let run = near_run c.args.runs.items c.as_slice-old.result.now c.first_near-from.result c.loop-i.i near in
    let next : c.first_near-from.result + c.loop-i.i + 1 ≡ c.first_near-from.result + (c.loop-i.i + 1) = omega arith in
    let adds = subst (λ (z : Run). AddsDown c.args.costs.now z.gain z.upto c.lowest_of-lowest.result c.loop-i.new.items c.push_run.new.runs.items) run c.in_ok-push_run.ensures in
    subst (λ (n : ℕ). IsBehindTo c.args.costs.now c.args.most c.args.runs.items n c.push_run.new.runs.items) next (
    goes_on c.args.costs.now c.args.most c.args.runs.items (c.first_near-from.result + c.loop-i.i) c.lowest_of-lowest.result c.loop-i.new.items c.push_run.new.runs.items c.loop-i.invariant (omega (arith, c.loop-i-test.true, near_count c.args.runs.items c.as_slice-old.result.now c.first_near-from.result near, c.first_far-until.ensures.inside)) c.requires.top c.requires.gains (near_above c.args.runs.items c.as_slice-old.result.now c.first_near-from.result c.loop-i.i c.lowest_of-lowest.result near (omega (arith, c.loop-i-test.true, c.first_far-until.ensures.inside)) c.lowest_of-lowest.ensures.above) adds)

pub returns : goal.returns
returns c =
    let near = c.as_slice-old.ensures.value ∙ c.in_ok-rest.ensures ∙ ap (drop c.first_near-from.result) c.as_slice-all.ensures.value in
    let until : c.first_near-from.result + c.loop-i.i ≡ c.first_near-from.result + c.first_far-until.result = omega (arith, c.loop-i-test.false, c.loop-i.auto.i-end) in
    let to = subst (λ (n : ℕ). IsBehindTo c.args.costs.now c.args.most c.args.runs.items n c.loop-i.new.items) until c.loop-i.invariant in
    let joined = joined c.args.costs.now c.args.most c.args.runs.items c.as_slice-old.result.now c.loop-i.new.items c.extend_from_slice.new.self.items c.first_near-from.result c.first_far-until.result near to (omega (arith, c.first_near-from.ensures.inside, ap length c.as_slice-all.ensures.value)) c.first_far-until.ensures.inside (far_is c.as_slice-old.result.now c.loop-i.new.items c.extend_from_slice.new.self.items c.first_far-until.result c.in_ok-extend_from_slice.ensures.items) c.requires.top c.requires.down c.requires.gains c.first_far-until.ensures.free in
    record { top = joined.0; down = joined.1; small = joined.2; left = joined.3 }
