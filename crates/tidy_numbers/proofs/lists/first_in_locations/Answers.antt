use Rattle.std.proofs.Common.{◌≡◌, ◌∙◌, List, ap, subst}
use Rattle.std.specs.Prelude.{Bool, is_some}
use Rattle.list_model.specs.declared.entry.RawEntry.{RawEntry}
use Rattle.tidy_places.specs.Firsts.{IsLeastFound}
use Rattle.tidy_numbers.specs.LongLists.{is_owned}
use Rattle.tidy_numbers.specs.inside.ListEntries.{HoldsAmong, IsLongInItem, IsLongInUnnamed}
use Rattle.tidy_numbers.proofs.FoundAmong.{found_of_both}
use Rattle.tidy_numbers.proofs.ListPlaces.{some_owned}
use Rattle.tidy_numbers.proofs.lists.first_in_locations.Goals as goal

pub returns : goal.returns
returns c =
    let section = c.args.section.now in
    let list = c.args.list.now in
    let found = c.in_ok-inside.inside in
    let items : IsLeastFound (HoldsAmong (IsLongInItem c.is_some.result section) list.raw) found = subst (λ (z : List RawEntry). IsLeastFound (HoldsAmong (IsLongInItem c.is_some.result section) z) found) (c.deref.ensures.value ∙ c.entries.ensures) c.in_ok-inside.ensures in
    let owned : c.is_some.result ≡ is_owned c.args.list.now.owner = c.is_some.ensures ∙ ap is_some c.owner.ensures ∙ some_owned c.args.list.now.owner in
    found_of_both (IsLongInUnnamed section list) (HoldsAmong (IsLongInItem (is_owned list.owner) section) list.raw) c.first_in_unnamed-length.result found c.first_in_unnamed-length.ensures
    (subst (λ (b : Bool). IsLeastFound (HoldsAmong (IsLongInItem b section) list.raw) found) owned items)
    c.earlier.result c.earlier.ensures
