use Rattle.std.proofs.Common.{◌≡◌, ◌∙◌, ℕ, sym}
use Rattle.list_model.specs.declared.entry.ListKind.TheVariants.{Ranges, Locations}
use Rattle.tidy_numbers.specs.inside.ListEntries.{IsLongInOperands, IsLongInLocations}
use Rattle.tidy_numbers.proofs.FoundAmong.{found_of_both}
use Rattle.tidy_numbers.proofs.ListPlaces.{where_found, first_alone}
use Rattle.tidy_numbers.proofs.lists.first_in_list.Goals as goal

pub returns-in-Ranges : goal.returns-in-Ranges
returns-in-Ranges c =
    first_alone (IsLongInOperands c.args.classes c.args.kind c.args.section.now c.args.list.now) (λ p. (c.args.kind ≡ Locations) × IsLongInLocations c.args.section.now c.args.list.now p) c.first_in_kept-operand.result
    (λ p (is, long). let wrong : Ranges ≡ Locations = sym c.in-Ranges.is ∙ is in absurd (cc wrong))
    c.first_in_kept-operand.ensures

pub returns-in_ok-first_in_locations-in-Locations : goal.returns-in_ok-first_in_locations-in-Locations
returns-in_ok-first_in_locations-in-Locations c =
    let found = c.in_ok-first_in_locations-in-Locations.field-0 in
    let P : ℕ → Type 0 = IsLongInOperands c.args.classes c.args.kind c.args.section.now c.args.list.now in
    let Q : ℕ → Type 0 = IsLongInLocations c.args.section.now c.args.list.now in
    found_of_both P (λ p. (c.args.kind ≡ Locations) × Q p) c.first_in_kept-operand.result found c.first_in_kept-operand.ensures
    (where_found (c.args.kind ≡ Locations) Q found c.in-Locations.is c.in_ok-first_in_locations-in-Locations.ensures)
    c.earlier.result c.earlier.ensures
