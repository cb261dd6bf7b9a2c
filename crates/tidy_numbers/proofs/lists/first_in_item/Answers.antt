use Rattle.std.proofs.Common.{◌≡◌, ◌∙◌, sym}
use Rattle.std.specs.Prelude.{true}
use Rattle.loc_lists.specs.Locations.{is_item}
use Rattle.tidy_numbers.specs.inside.Expressions.{IsLongAt}
use Rattle.tidy_numbers.proofs.ListPlaces.{where_found}
use Rattle.tidy_numbers.proofs.lists.first_in_item.Goals as goal

pub returns : goal.returns
returns c =
    let item : is_item c.args.raw.now ≡ true = sym c.is_item.ensures ∙ c.if-not-is_item.false in
    where_found (is_item c.args.raw.now ≡ true) (IsLongAt c.args.owned c.args.section.now c.args.raw.now.expr) c.first_at.result item c.first_at.ensures
