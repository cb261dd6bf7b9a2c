use Rattle.std.proofs.Common.{ℕ, subst}
use Rattle.std.specs.Prelude.{Option}
use Rattle.tidy_places.specs.Firsts.{IsLeastFound}
use Rattle.tidy_lists.specs.Due.Row.{OfList}
use Rattle.tidy_lists.specs.inside.Compared.{OfBoth}
use Rattle.tidy_lists.specs.inside.LeastPlaces.{RowHolds}
use Rattle.tidy_lists.proofs.RowLaws.{list_first, loose_first}
use Rattle.tidy_lists.proofs.first_misplaced_list.Goals as goal

pub returns-in-Some : goal.returns-in-Some
returns-in-Some c =
    let a = c.args.before.now in
    let b = c.args.after.now in
    list_first c.one_reading.ensures.reading a b c.requires.before c.requires.after c.in-Some.place (subst (λ (z : Option ℕ). OfBoth a b (λ r s. IsLeastFound (RowHolds b.image OfList r s) z)) c.in-Some.is c.in_ok-place.ensures)

pub returns-in-None : goal.returns-in-None
returns-in-None c =
    let a = c.args.before.now in
    let b = c.args.after.now in
    loose_first c.one_reading.ensures.reading a b c.requires.before c.requires.after c.first_loose.result (subst (λ (z : Option ℕ). OfBoth a b (λ r s. IsLeastFound (RowHolds b.image OfList r s) z)) c.in-None.is c.in_ok-place.ensures) c.first_loose.ensures
