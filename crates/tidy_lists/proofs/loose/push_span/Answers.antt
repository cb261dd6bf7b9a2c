use Rattle.std.proofs.Common.{ℕ, List, sym, subst}
use Rattle.tidy_lists.specs.inside.LooseBytes.{AddsSpan}
use Rattle.tidy_lists.proofs.LooseSpans.{span_added}
use Rattle.tidy_lists.proofs.loose.push_span.Goals as goal

pub returns : goal.returns
returns c =
    subst (λ (z : List (ℕ × ℕ)). AddsSpan c.args.start c.args.len c.args.spans.now.items z) (sym c.in_ok-push.ensures.items) (span_added c.args.start c.args.len c.args.spans.now.items)
