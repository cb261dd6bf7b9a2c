use Rattle.std.proofs.Common.{◌≡◌, ◌∙◌, List, length, sym, ap, subst, arith}
use Rattle.tidy_lists.specs.declared.due.Place.{Place}
use Rattle.tidy_lists.specs.inside.Compared.{OfBoth}
use Rattle.tidy_lists.specs.inside.DuePlaces.{runs_held, StandRuns}
use Rattle.tidy_lists.proofs.PairWorlds.{runs_inside, runs_elsewhere}
use Rattle.tidy_lists.proofs.elsewhere.first_run_elsewhere.Goals as goal

pub first_displaced-requires : goal.first_displaced-requires
first_displaced-requires c = λ k m there.
    let b = c.args.after.now in
    let (old, new) = runs_inside c.args.before.now b c.requires.before c.requires.after c.args.kind c.args.pairs.now c.requires.pairs k m there in
    let count : length c.deref.result.now ≡ length (runs_held b c.args.kind) = ap (λ (z : List Place). length z) c.deref.ensures.value ∙ c.in_ok-stands.ensures.count in
    (omega (arith, old, c.requires.long), omega (arith, new, count))

pub returns : goal.returns
returns c =
    let b = c.args.after.now in
    let count : length c.deref.result.now ≡ length (runs_held b c.args.kind) = ap (λ (z : List Place). length z) c.deref.ensures.value ∙ c.in_ok-stands.ensures.count in
    let stand = subst (λ (z : List Place). OfBoth b b (λ r s. StandRuns c.args.kind s (length z) z)) (sym c.deref.ensures.value) c.in_ok-stands.ensures.each in
    runs_elsewhere c.args.before.now b c.requires.before c.requires.after c.args.kind c.args.pairs.now c.deref.result.now c.args.due.now c.first_displaced.result c.requires.pairs count stand c.requires.due c.first_displaced.ensures
