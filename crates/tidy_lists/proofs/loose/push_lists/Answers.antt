use Rattle.std.proofs.Common.{◌≡◌, ◌<◌, ◌^◌, ◌∙◌, ℕ, List, length, ap, subst, arith}
use Rattle.list_arena.specs.Held.{HeldList as ListRead}
use Rattle.value_links.specs.Reading.{lists_of}
use Rattle.tidy_lists.specs.inside.LooseBytes.{section_end, HasListByteAt}
use Rattle.tidy_lists.proofs.FewNumbers.{few_lists}
use Rattle.tidy_lists.proofs.LooseSpans.{bytes_below_none, bytes_below_next, bytes_below_all}
use Rattle.tidy_lists.proofs.loose.push_lists.Goals as goal

pub overflow_cast-number : goal.overflow_cast-number
overflow_cast-number c =
    let world = c.args.world.now in
    let (reach, is) = c.requires.world in
    let count : c.len-number-end.result ≡ length (lists_of is.r c.args.kind) = c.len-number-end.ensures ∙ ap (λ (z : List ListRead). length z) c.lists.ensures.lists ∙ (is.holds.lists c.args.kind).count in
    let few : c.loop-number.number < 2 ^ 32 = few_lists world.image reach is.r is.valid is.read c.args.kind c.loop-number.number (subst (λ (n : ℕ). c.loop-number.number < n) count c.loop-number-test.true) in
    omega (arith, few)

pub loop-number-init : goal.loop-number-init
loop-number-init c = λ s read holds. bytes_below_none (section_end c.args.kind s) (HasListByteAt c.args.kind s) c.args.spans.now.items

pub loop-number-preserved : goal.loop-number-preserved
loop-number-preserved c = λ s read holds.
    bytes_below_next (section_end c.args.kind s) (HasListByteAt c.args.kind s) c.loop-number.number c.args.spans.now.items c.loop-number.spans.items c.push_list.new.spans.items (c.loop-number.invariant s read holds) (c.in_ok-push_list.ensures s read holds)

pub returns : goal.returns
returns c = λ s read holds.
    let count : c.len-number-end.result ≡ length (lists_of s c.args.kind) = c.len-number-end.ensures ∙ ap (λ (z : List ListRead). length z) c.lists.ensures.lists ∙ (holds.lists c.args.kind).count in
    bytes_below_all (section_end c.args.kind s) (HasListByteAt c.args.kind s) c.loop-number.number c.args.spans.now.items c.loop-number.spans.items (λ m x (len, known, has, byte). omega (arith, known, count, c.loop-number-test.false)) (c.loop-number.invariant s read holds)
