use Rattle.std.proofs.Common.{◌≡◌, ◌≤◌, ◌+◌, ◌⊎◌, inl, inr, get_or, max, arith}
use Rattle.std.proofs.lemmas.Bool.{cases_lt}
use Rattle.tidy_lists.proofs.LooseSpans.{walked_next, gap_between}
use Rattle.tidy_lists.proofs.loose.first_gap.Goals as goal

pub returns-then-covered-start : goal.returns-then-covered-start
returns-then-covered-start c =
    gap_between c.args.spans.now c.args.end c.loop-start.start-index c.loop-start.covered (0, 0) c.loop-start.invariant.0 c.requires.rising c.requires.within c.loop-start-test.true c.if-covered-start.true

pub loop-start-preserved : goal.loop-start-preserved
loop-start-preserved c =
    let span = get_or c.args.spans.now c.loop-start.start-index (0, 0) in
    let covered = c.loop-start.covered in
    let ends : span.0 + span.1 ≤ c.args.end = c.requires.within c.loop-start.start-index (0, 0) c.loop-start-test.true in
    let before : covered ≤ c.args.end = c.loop-start.invariant.1 in
    let next : c.max-covered.result ≡ max covered (span.0 + span.1) = c.max-covered.ensures in
    let least : (c.max-covered.result ≤ covered) ⊎ (c.max-covered.result ≤ span.0 + span.1) = elim (cases_lt covered (span.0 + span.1)) [
      | inl less ↦ inr (omega (arith, next, less))
      | inr more ↦ inl (omega (arith, next, more))
    ] in (
      walked_next c.args.spans.now c.loop-start.start-index covered c.max-covered.result (0, 0) c.loop-start.invariant.0 c.loop-start-test.true c.if-covered-start.false (omega (arith, next)) (omega (arith, next)) least,
      omega (arith, next, ends, before),
    )
