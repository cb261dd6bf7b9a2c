use Rattle.std.proofs.Common.{◌≡◌, ◌<◌, ◌^◌, length, ap, arith}
use Rattle.list_model.specs.declared.entry.ListKind.TheVariants.{Locations}
use Rattle.tidy_lists.specs.inside.LooseBytes.{section_end, HasRunByteAt}
use Rattle.tidy_lists.proofs.FewNumbers.{few_runs}
use Rattle.tidy_lists.proofs.LooseLengths.{runs_counted}
use Rattle.tidy_lists.proofs.LooseSpans.{bytes_below_none, bytes_below_next, bytes_below_all}
use Rattle.tidy_lists.proofs.loose.push_runs.Goals as goal

pub loop-number-init : goal.loop-number-init
loop-number-init c = λ s read holds. bytes_below_none (section_end Locations s) (HasRunByteAt s) c.args.spans.now.items

pub loop-number-preserved : goal.loop-number-preserved
loop-number-preserved c = λ s read holds.
    bytes_below_next (section_end Locations s) (HasRunByteAt s) c.loop-number.number c.args.spans.now.items c.loop-number.spans.items c.push_run.new.spans.items (c.loop-number.invariant s read holds) (c.in_ok-push_run.ensures s read holds)

pub overflow_cast-number : goal.overflow_cast-number
overflow_cast-number c =
    let world = c.args.world.now in
    let (reach, is) = c.requires.world in
    let count : length world.views ≡ length is.r.views = runs_counted world is.r is.holds in
    let held : length c.views.result.now ≡ length world.views = ap length c.views.ensures in
    let few : length is.r.views < 2 ^ 32 = few_runs world.image is.r is.read in
    omega (arith, c.loop-number-test.true, held, count, few)

pub returns : goal.returns
returns c = λ s read holds.
    let count : length c.args.world.now.views ≡ length s.views = runs_counted c.args.world.now s holds in
    let held : length c.views.result.now ≡ length c.args.world.now.views = ap length c.views.ensures in
    bytes_below_all (section_end Locations s) (HasRunByteAt s) c.loop-number.number c.args.spans.now.items c.loop-number.spans.items (λ n x (len, known, has, byte). omega (arith, known, count, held, c.loop-number-test.false)) (c.loop-number.invariant s read holds)
