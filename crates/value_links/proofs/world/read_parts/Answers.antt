use Rattle.std.proofs.Common.{◌≡◌, ℕ, List, sym, subst, rules}
use Rattle.dw_base.specs.Refusals.{IsFaultOf, IsRefusedFor}
use Rattle.list_model.specs.declared.entry.ListKind.TheVariants.{Ranges, Locations}
use Rattle.list_model.specs.Addresses.{AreAllTables}
use Rattle.value_links.specs.declared.parts.Parts.{Parts}
use Rattle.value_links.specs.Sections.{offset_named, debug_info, debug_abbrev, debug_addr, info_name, abbrev_name, addr_name}
use Rattle.value_links.specs.inside.Checks.{IsSomeExpressionFault}
use Rattle.value_links.proofs.ExprLinks.{operations_wide}
use Rattle.value_links.proofs.WorldLaws.{ContributionsRead, bytes_are, origin_is, units_refused_in, parts_refused, expressions_refused, parts_read_in, parts_read}
use Rattle.value_links.proofs.world.read_parts.Goals as goal

pub returns-in_err-units-clause-refused : goal.returns-in_err-units-clause-refused
returns-in_err-units-clause-refused c =
    let file : List ℕ = c.args.file.now in
    let info : c.debug_section-info.result.bytes.now ≡ debug_info file = bytes_are file c.as_slice.result.now info_name c.debug_section-info.result.bytes.now c.as_slice.ensures c.debug_section-info.ensures.bytes in
    let abbrevs : c.debug_section-abbrev.result.bytes.now ≡ debug_abbrev file = bytes_are file c.as_slice-2.result.now abbrev_name c.debug_section-abbrev.result.bytes.now c.as_slice-2.ensures c.debug_section-abbrev.ensures.bytes in
    let info_origin : c.debug_section-info.result.origin ≡ offset_named file info_name = origin_is file c.as_slice.result.now info_name c.debug_section-info.result.origin c.as_slice.ensures c.debug_section-info.ensures.origin in
    let abbrev_origin : c.debug_section-abbrev.result.origin ≡ offset_named file abbrev_name = origin_is file c.as_slice-2.result.now abbrev_name c.debug_section-abbrev.result.origin c.as_slice-2.ensures c.debug_section-abbrev.ensures.origin in
    let refused = units_refused_in file c.args.programs.items c.in_err-units.field-0.0 c.debug_section-info.result.bytes.now c.debug_section-abbrev.result.bytes.now c.debug_section-info.result.origin c.debug_section-abbrev.result.origin info abbrevs info_origin abbrev_origin c.requires.programs c.in_err-units.ensures.fault c.args.reach in
    search (rules, refused)

pub returns-in_err-ranges-clause-refused : goal.returns-in_err-ranges-clause-refused
returns-in_err-ranges-clause-refused c =
    let refused = parts_refused c.args.file.now c.args.programs.items Ranges c.in_err-ranges.field-0.0 c.requires.programs c.in_err-ranges.ensures.fault c.args.reach in
    search (rules, refused)

pub returns-in_err-locations-clause-refused : goal.returns-in_err-locations-clause-refused
returns-in_err-locations-clause-refused c =
    let refused = parts_refused c.args.file.now c.args.programs.items Locations c.in_err-locations.field-0.0 c.requires.programs c.in_err-locations.ensures.fault c.args.reach in
    search (rules, refused)

pub contexts_of-requires-clause-tables : goal.contexts_of-requires-clause-tables
contexts_of-requires-clause-tables c =
    let file : List ℕ = c.args.file.now in
    let addr : c.debug_section-addr.result.bytes.now ≡ debug_addr file = bytes_are file c.as_slice-3.result.now addr_name c.debug_section-addr.result.bytes.now c.as_slice-3.ensures c.debug_section-addr.ensures.bytes in
    search (rules, subst (λ (z : List ℕ). AreAllTables z c.args.tables.items) (sym addr) c.requires.tables)

pub returns-in_err-operations-clause-refused : goal.returns-in_err-operations-clause-refused
returns-in_err-operations-clause-refused c =
    let file : List ℕ = c.args.file.now in
    let info : c.debug_section-info.result.bytes.now ≡ debug_info file = bytes_are file c.as_slice.result.now info_name c.debug_section-info.result.bytes.now c.as_slice.ensures c.debug_section-info.ensures.bytes in
    let abbrevs : c.debug_section-abbrev.result.bytes.now ≡ debug_abbrev file = bytes_are file c.as_slice-2.result.now abbrev_name c.debug_section-abbrev.result.bytes.now c.as_slice-2.ensures c.debug_section-abbrev.ensures.bytes in
    let addr : c.debug_section-addr.result.bytes.now ≡ debug_addr file = bytes_are file c.as_slice-3.result.now addr_name c.debug_section-addr.result.bytes.now c.as_slice-3.ensures c.debug_section-addr.ensures.bytes in
    let origin : c.debug_section-info.result.origin ≡ offset_named file info_name = origin_is file c.as_slice.result.now info_name c.debug_section-info.result.origin c.as_slice.ensures c.debug_section-info.ensures.origin in
    let units = c.in_ok-units.units in
    let ranges = c.in_ok-ranges.ranges in
    let locations = c.in_ok-locations.locations in
    let range_bases = c.in_ok-range_bases.range_bases.items in
    let location_bases = c.in_ok-location_bases.location_bases.items in
    let ranges_are : ContributionsRead file Ranges units ranges range_bases = record { section = c.in_ok-ranges.ensures.section.0; parts_are = c.in_ok-ranges.ensures.section.1; bases_are = c.in_ok-range_bases.ensures } in
    let locations_are : ContributionsRead file Locations units locations location_bases = record { section = c.in_ok-locations.ensures.section.0; parts_are = c.in_ok-locations.ensures.section.1; bases_are = c.in_ok-location_bases.ensures } in
    let read = parts_read_in file c.debug_section-info.result.bytes.now c.debug_section-abbrev.result.bytes.now c.args.programs.items units c.in_ok-contexts.contexts.items c.debug_section-addr.result.bytes.now c.args.tables.items ranges locations range_bases location_bases info abbrevs addr c.requires.programs c.in_ok-units.ensures.read c.in_ok-contexts.ensures c.requires.tables ranges_are locations_are in
    let fault = subst (λ (o : ℕ). IsRefusedFor (IsFaultOf (IsSomeExpressionFault units.units.items c.args.reach) o) c.in_err-operations.field-0.0) origin c.in_err-operations.ensures.fault in
    let refused = expressions_refused file c.args.programs.items units c.in_ok-contexts.contexts.items c.debug_section-addr.result.bytes.now c.args.tables.items ranges locations range_bases location_bases c.requires.read read c.args.reach c.in_err-operations.field-0.0 fault in
    search (rules, refused)

pub read_operations-requires-clause-held : goal.read_operations-requires-clause-held
read_operations-requires-clause-held c = (c.debug_section-abbrev.result.bytes.now, c.in_ok-units.ensures.read)

pub returns-clause-parts : goal.returns-clause-parts
returns-clause-parts c =
    let file : List ℕ = c.args.file.now in
    let parts : Parts = record { programs = c.args.programs; units = c.in_ok-units.units; contexts = c.in_ok-contexts.contexts; addr = c.debug_section-addr.result.bytes; tables = c.args.tables; ranges = c.in_ok-ranges.ranges; locations = c.in_ok-locations.locations; operations = c.in_ok-operations.operations; range_bases = c.in_ok-range_bases.range_bases; location_bases = c.in_ok-location_bases.location_bases } in
    let info : c.debug_section-info.result.bytes.now ≡ debug_info file = bytes_are file c.as_slice.result.now info_name c.debug_section-info.result.bytes.now c.as_slice.ensures c.debug_section-info.ensures.bytes in
    let abbrevs : c.debug_section-abbrev.result.bytes.now ≡ debug_abbrev file = bytes_are file c.as_slice-2.result.now abbrev_name c.debug_section-abbrev.result.bytes.now c.as_slice-2.ensures c.debug_section-abbrev.ensures.bytes in
    let addr : c.debug_section-addr.result.bytes.now ≡ debug_addr file = bytes_are file c.as_slice-3.result.now addr_name c.debug_section-addr.result.bytes.now c.as_slice-3.ensures c.debug_section-addr.ensures.bytes in
    let ranges_are : ContributionsRead file Ranges parts.units parts.ranges parts.range_bases.items = record { section = c.in_ok-ranges.ensures.section.0; parts_are = c.in_ok-ranges.ensures.section.1; bases_are = c.in_ok-range_bases.ensures } in
    let locations_are : ContributionsRead file Locations parts.units parts.locations parts.location_bases.items = record { section = c.in_ok-locations.ensures.section.0; parts_are = c.in_ok-locations.ensures.section.1; bases_are = c.in_ok-location_bases.ensures } in
    let read = parts_read_in file c.debug_section-info.result.bytes.now c.debug_section-abbrev.result.bytes.now c.args.programs.items parts.units parts.contexts.items c.debug_section-addr.result.bytes.now c.args.tables.items parts.ranges parts.locations parts.range_bases.items parts.location_bases.items info abbrevs addr c.requires.programs c.in_ok-units.ensures.read c.in_ok-contexts.ensures c.requires.tables ranges_are locations_are in
    parts_read file parts c.requires.read read (operations_wide c.narrow_is_wide.ensures c.args.reach c.in_ok-units.units.units.items c.in_ok-operations.operations.items c.in_ok-operations.ensures.read)
