use Rattle.std.proofs.Common.{ℕ, subst}
use Rattle.abbrev_tables.specs.Listings.{Listing}
use Rattle.entry_read.specs.Units.{HeadAndForest, declarations_of}
use Rattle.value_links.specs.ListPlaces.{base_of}
use Rattle.value_links.specs.Values.{IsFirstBase}
use Rattle.value_links.specs.Links.{held_at}
use Rattle.value_links.specs.Parts.{section_held}
use Rattle.value_links.specs.inside.Checks.{root_attributes}
use Rattle.value_links.specs.inside.ListPlaces.{IsPartFound}
use Rattle.value_links.proofs.PartLinks.{part_found}
use Rattle.value_links.proofs.list_bases.base_for.Goals as goal

pub returns : goal.returns
returns c =
    let section = section_held c.args.contributions.now in
    let name = base_of c.args.kind in
    let found = c.part_with_offsets.result in
    let attributes = root_attributes c.unit_of-unit.result.now.forest (declarations_of c.table_of.result.now) in
    let first : IsFirstBase attributes name c.in_ok-base.base = subst (λ (z : ℕ). IsFirstBase attributes z c.in_ok-base.base) c.base_name.ensures c.in_ok-base.ensures in
    let here = part_found section attributes name c.in_ok-base.base found first c.part_with_offsets.ensures in
    let by_unit = subst (λ (z : HeadAndForest). IsPartFound section (root_attributes z.forest (declarations_of c.table_of.result.now)) name found) c.unit_of-unit.ensures here in
    subst (λ (z : Listing). IsPartFound section (root_attributes (held_at c.args.held.now.units.items c.args.number).forest (declarations_of z)) name found) c.table_of.ensures.table by_unit
