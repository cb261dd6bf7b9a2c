use Rattle.std.proofs.Common.{sym, subst, arith}
use Rattle.value_links.specs.World.{HoldViews}
use Rattle.tidy_lists.proofs.FewNumbers.{few_runs}
use Rattle.tidy_lists.proofs.HeldNumbers.{runs_apart, run_found, run_not_found}
use Rattle.tidy_lists.proofs.followers.named.run_number.Goals as goal

pub find-requires : goal.find-requires
find-requires c =
    let (reach, is) = c.requires.world in
    let held : HoldViews is.r.views c.views.result.now = subst (HoldViews is.r.views) (sym c.views.ensures) is.holds.views in
    runs_apart c.args.world.now.image is.r is.read c.views.result.now held

pub overflow_cast-result : goal.overflow_cast-result
overflow_cast-result c =
    let world = c.args.world.now in
    let (reach, is) = c.requires.world in
    let held : HoldViews is.r.views c.views.result.now = subst (HoldViews is.r.views) (sym c.views.ensures) is.holds.views in
    let (inside, with, here) = run_found world.image is.r is.read c.views.result.now held c.args.list c.args.place c.in-Some.number c.in-Some.ensures in
    let few = few_runs world.image is.r is.read in
    omega (arith, few, inside)

pub unreachable-requires : goal.unreachable-requires
unreachable-requires c =
    let world = c.args.world.now in
    let (reach, is) = c.requires.world in
    let held : HoldViews is.r.views c.views.result.now = subst (HoldViews is.r.views) (sym c.views.ensures) is.holds.views in
    let (k, there) = c.requires.there is.r is.read is.holds in
    run_not_found world.image is.r is.read c.views.result.now held c.args.list c.args.place c.in-None.ensures k there

pub returns : goal.returns
returns c = λ r read holds.
    let held : HoldViews r.views c.views.result.now = subst (HoldViews r.views) (sym c.views.ensures) holds.views in
    run_found c.args.world.now.image r read c.views.result.now held c.args.list c.args.place c.in-Some.number c.in-Some.ensures
