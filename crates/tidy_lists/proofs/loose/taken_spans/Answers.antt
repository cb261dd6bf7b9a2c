use Rattle.std.proofs.Common.{ℕ, List, [], subst}
use Rattle.tidy_lists.specs.inside.LooseBytes.{AddsBytes, SomeBytes, section_end, HasHeadByteAt}
use Rattle.tidy_lists.proofs.LooseParts.{all_taken}
use Rattle.tidy_lists.proofs.LooseSpans.{sorted_rise}
use Rattle.tidy_lists.proofs.loose.taken_spans.Goals as goal

pub returns-clause-those : goal.returns-clause-those
returns-clause-those c = λ s read holds.
    let kind = c.args.kind in
    let heads = c.push_heads.new.spans.items in
    let first : AddsBytes (section_end kind s) (SomeBytes (HasHeadByteAt kind s)) [] heads = subst (λ (z : List (ℕ × ℕ)). AddsBytes (section_end kind s) (SomeBytes (HasHeadByteAt kind s)) z heads) c.new-spans.ensures.items (c.in_ok-push_heads.ensures s read holds) in
    all_taken c.args.world.now.image s read kind heads c.push_lists.new.spans.items c.push_runs_among.new.spans.items c.sort_unstable.new.self.items first (c.in_ok-push_lists.ensures s read holds) (c.in_ok-push_runs_among.ensures s read holds) c.sort_unstable.ensures.permutation

pub returns-clause-rising : goal.returns-clause-rising
returns-clause-rising c = sorted_rise c.sort_unstable.new.self.items c.sort_unstable.ensures.sorted
