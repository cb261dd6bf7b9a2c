use Rattle.std.proofs.Common.{◌≡◌, ◌<◌, ℕ, List, [], length, get_or, ◌⊎◌, Some, sym, subst, arith}
use Rattle.tidy_places.specs.Firsts.{IsLeastFound}
use Rattle.list_arena.specs.Held.{HeldViews}
use Rattle.list_model.specs.declared.entry.ListKind.TheVariants.{Locations}
use Rattle.value_links.specs.Reading.{ViewRead}
use Rattle.value_links.specs.Sections.{debug_lists}
use Rattle.tidy_numbers.specs.LongLists.{IsLongInRun}
use Rattle.tidy_numbers.specs.inside.NumberWalks.{run_read, IsRunIn}
use Rattle.tidy_numbers.proofs.WalkedPlaces.{HoldsAmong, among_more}
use Rattle.tidy_numbers.proofs.ViewWalks.{run_at, runs_stand, IsLongInRunOf, found_in_views}
use Rattle.tidy_numbers.proofs.views.first_in_views.Goals as goal

pub first_in_run-first-requires-clause-run : goal.first_in_run-first-requires-clause-run
first_in_run-first-requires-clause-run c = λ d.
    let k : ℕ = c.loop-number.number in
    let views : List HeldViews = c.views-views.result.now in
    let inside : k < length views = omega (arith, c.loop-number-test.true, c.len-number-end.ensures) in
    let (reach, is) = c.requires in
    subst (λ (bytes : List ℕ). IsRunIn bytes (run_read (get_or views k d))) (sym c.section-bytes.ensures)
    (subst (λ (z : List HeldViews). k < length z → IsRunIn (debug_lists c.args.world.now.image Locations) (run_read (get_or z k d))) (sym c.views-views.ensures) (runs_stand c.args.world.now reach is k d) inside)

pub loop-number-preserved : goal.loop-number-preserved
loop-number-preserved c =
    let none : HeldViews = record { list = 0; at = 0; pairs = [] } in
    let k : ℕ = c.loop-number.number in
    let views : List HeldViews = c.views-views.result.now in
    let inside : k < length views = omega (arith, c.loop-number-test.true, c.len-number-end.ensures) in
    among_more (IsLongInRunOf c.section-bytes.result.now views) k c.loop-number.first c.first_in_run-first.result c.loop-number.invariant
    (subst (λ (z : ViewRead). IsLeastFound (λ p. (c.loop-number.first ≡ Some p) ⊎ IsLongInRun c.section-bytes.result.now z p) c.first_in_run-first.result) (sym (run_at views k none inside)) (c.first_in_run-first.ensures none))

pub returns : goal.returns
returns c = λ s read holds.
    let views : List HeldViews = c.views-views.result.now in
    let whole : c.loop-number.number ≡ length views = omega (arith, c.loop-number-test.false, c.len-number-end.ensures) in
    let found : IsLeastFound (HoldsAmong (IsLongInRunOf c.section-bytes.result.now views) (length views)) c.loop-number.first = subst (λ (n : ℕ). IsLeastFound (HoldsAmong (IsLongInRunOf c.section-bytes.result.now views) n) c.loop-number.first) whole c.loop-number.invariant in
    found_in_views c.args.world.now s holds c.loop-number.first
    (subst (λ (bytes : List ℕ). IsLeastFound (HoldsAmong (IsLongInRunOf bytes c.args.world.now.views) (length c.args.world.now.views)) c.loop-number.first) c.section-bytes.ensures
    (subst (λ (z : List HeldViews). IsLeastFound (HoldsAmong (IsLongInRunOf c.section-bytes.result.now z) (length z)) c.loop-number.first) c.views-views.ensures found))
