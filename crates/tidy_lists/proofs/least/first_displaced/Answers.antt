use Rattle.std.proofs.Common.{◌≡◌, ◌<◌, ◌+◌, ◌∙◌, ℕ, length, sym, subst, arith}
use Rattle.std.proofs.lemmas.Grind.{common_steps}
use Rattle.tidy_lists.specs.inside.LeastPlaces.{pair_at, IsDisplaced}
use Rattle.tidy_places.specs.Firsts.{IsLeastFound}
use Rattle.tidy_lists.specs.declared.due.Place.{Place}
use Rattle.tidy_lists.specs.inside.DuePlaces.{place_at}
use Rattle.tidy_lists.proofs.FirstLaws.{itself}
use Rattle.tidy_lists.proofs.DisplacedLaws.{places_differ, places_same, displaced_more, displaced_not}
use Rattle.tidy_lists.proofs.least.first_displaced.Goals as goal
use Rattle.tidy_lists.proofs.least.first_displaced.Goals.{then-ne, else-ne}

pub bounds-stands-pair : goal.bounds-stands-pair
bounds-stands-pair c =
    let i : ℕ = c.loop-pair.pair-index in
    let inside : i < length c.args.pairs.now = grind (arith, common_steps) in
    (c.requires (pair_at c.args.pairs.now i).old (pair_at c.args.pairs.now i).new (itself c.args.pairs.now i inside)).1

pub bounds-due-pair : goal.bounds-due-pair
bounds-due-pair c =
    let i : ℕ = c.loop-pair.pair-index in
    let inside : i < length c.args.pairs.now = grind (arith, common_steps) in
    (c.requires (pair_at c.args.pairs.now i).old (pair_at c.args.pairs.now i).new (itself c.args.pairs.now i inside)).0

pub loop-pair-preserved : goal.loop-pair-preserved
loop-pair-preserved c =
    let i : ℕ = c.loop-pair.pair-index in
    let pairs = c.args.pairs.now in
    let stands = c.args.stands.now in
    let due = c.args.due.now in
    let here : Place = place_at stands (pair_at pairs i).new in
    let there : Place = place_at due (pair_at pairs i).old in
    elim c.if-ne.branch [
      | then-ne w ↦ subst (IsLeastFound (IsDisplaced (i + 1) pairs stands due)) (sym (w.least-is ∙ w.lesser-least.ensures)) (displaced_more pairs stands due i c.loop-pair.least (places_differ here there c.ne.result c.ne.ensures w.if-ne.true) c.loop-pair.invariant)
      | else-ne w ↦ subst (IsLeastFound (IsDisplaced (i + 1) pairs stands due)) (sym w.least-is) (displaced_not pairs stands due i c.loop-pair.least (places_same here there c.ne.result c.ne.ensures w.if-ne.false) c.loop-pair.invariant)
    ]

pub returns : goal.returns
returns c =
    let all : c.loop-pair.pair-index ≡ length c.args.pairs.now = grind (arith, common_steps) in
    subst (λ (z : ℕ). IsLeastFound (IsDisplaced z c.args.pairs.now c.args.stands.now c.args.due.now) c.loop-pair.least) all c.loop-pair.invariant
