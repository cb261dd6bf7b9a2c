use Rattle.std.proofs.Common.{◌≡◌, ◌∙◌, List, length, ap, arith}
use Rattle.list_model.specs.declared.contribution.Contribution.{Contribution}
use Rattle.value_links.specs.Reading.{of_kind}
use Rattle.tidy_lists.specs.inside.LooseBytes.{section_end, HasHeadByteAt}
use Rattle.tidy_lists.proofs.LooseParts.{head_added}
use Rattle.tidy_lists.proofs.LooseSpans.{bytes_below_none, bytes_below_next, bytes_below_all}
use Rattle.tidy_lists.proofs.loose.push_heads.Goals as goal

pub loop-part-init : goal.loop-part-init
loop-part-init c = λ s read holds. bytes_below_none (section_end c.args.kind s) (HasHeadByteAt c.args.kind s) c.args.spans.now.items

pub loop-part-preserved : goal.loop-part-preserved
loop-part-preserved c = λ s read holds.
    let held : List Contribution = c.contributions-part-items.result.now in
    let same : held ≡ (of_kind s.links c.args.kind).parts = c.contributions-part-items.ensures ∙ holds.contributions c.args.kind in
    let added =
    head_added c.args.world.now.image s read c.args.kind held c.loop-part.part-index c.from.result (record { at = 0; len = 0; slots = 0 }) c.loop-part.spans.items c.push_span.new.spans.items same c.loop-part-test.true c.from.ensures c.in_ok-push_span.ensures in
    bytes_below_next (section_end c.args.kind s) (HasHeadByteAt c.args.kind s) c.loop-part.part-index c.args.spans.now.items c.loop-part.spans.items c.push_span.new.spans.items (c.loop-part.invariant s read holds) added

pub returns : goal.returns
returns c = λ s read holds.
    let held : List Contribution = c.contributions-part-items.result.now in
    let count : length held ≡ length (of_kind s.links c.args.kind).parts = ap (λ (z : List Contribution). length z) (c.contributions-part-items.ensures ∙ holds.contributions c.args.kind) in
    bytes_below_all (section_end c.args.kind s) (HasHeadByteAt c.args.kind s) c.loop-part.part-index c.args.spans.now.items c.loop-part.spans.items (λ p x (known, from, to). omega (arith, known, count, c.loop-part-test.false)) (c.loop-part.invariant s read holds)
