use Rattle.std.proofs.Common.{◌≡◌, ℕ, List, sym, subst, arith}
use Rattle.dw_base.specs.Refusals.{IsFaultOf}
use Rattle.dw_base.specs.declared.fault.Fault.{Fault}
use Rattle.value_links.specs.Sections.{offset_named, debug_info, debug_abbrev, info_name, abbrev_name}
use Rattle.value_links.specs.Parts.{AreUnitsHeld, LinkFault}
use Rattle.value_links.proofs.HeldLists.{lists_held}
use Rattle.value_links.proofs.WorldLaws.{bytes_are, origin_is, units_are_held, links_refused, parts_in_order}
use Rattle.value_links.proofs.world.check_parts.Goals as goal

pub check_links-requires-clause-lists : goal.check_links-requires-clause-lists
check_links-requires-clause-lists c = let read = c.requires.parts in lists_held c.args.file.now read.r c.args.parts.now read.holds

pub check_links-requires-clause-operations : goal.check_links-requires-clause-operations
check_links-requires-clause-operations c = c.requires.parts.holds.operations

pub check_links-requires-clause-held : goal.check_links-requires-clause-held
check_links-requires-clause-held c =
    let file : List ℕ = c.args.file.now in
    let parts = c.args.parts.now in
    let info : c.debug_section-info.result.bytes.now ≡ debug_info file = bytes_are file c.as_slice.result.now info_name c.debug_section-info.result.bytes.now c.as_slice.ensures c.debug_section-info.ensures.bytes in
    let abbrevs : c.debug_section-abbrev.result.bytes.now ≡ debug_abbrev file = bytes_are file c.as_slice-2.result.now abbrev_name c.debug_section-abbrev.result.bytes.now c.as_slice-2.ensures c.debug_section-abbrev.ensures.bytes in
    subst (λ (z : List ℕ). AreUnitsHeld z c.debug_section-abbrev.result.bytes.now parts.units) (sym info) (subst (λ (z : List ℕ). AreUnitsHeld (debug_info file) z parts.units) (sym abbrevs) (units_are_held file parts c.requires.parts))

pub returns-in_err-check_links-clause-refused : goal.returns-in_err-check_links-clause-refused
returns-in_err-check_links-clause-refused c =
    let file : List ℕ = c.args.file.now in
    let fault : Fault = c.in_err-check_links.field-0.0 in
    let origin : c.debug_section-info.result.origin ≡ offset_named file info_name = origin_is file c.as_slice.result.now info_name c.debug_section-info.result.origin c.as_slice.ensures c.debug_section-info.ensures.origin in
    let refused = links_refused file c.args.parts.now c.requires.parts fault (λ f r limits holds. subst (λ (o : ℕ). IsFaultOf (LinkFault r limits) o fault) origin (c.in_err-check_links.ensures.fault f r limits holds)) in
    let e = c.from_residual-in_err-check_links.ensures in grind (arith, refused, e)

pub returns-clause-linked : goal.returns-clause-linked
returns-clause-linked c = λ reach order.
    let read = c.requires.parts in
    parts_in_order c.args.file.now c.args.parts.now read c.in_ok-check_links.ensures.linked c.in_ok-check_links.ensures.based (c.in_ok-check_addresses.ensures.tables read.r read.holds)
