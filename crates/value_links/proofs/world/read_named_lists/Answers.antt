use Rattle.std.proofs.Common.{◌≡◌, ◌<◌, ◌+◌, ◌^◌, ◌∙◌, ℕ, List, [], length, sym, subst, refl, rules}
use Rattle.dw_base.specs.Refusals.{IsFaultOf, IsRefusedFor}
use Rattle.list_model.specs.declared.entry.ListKind.TheVariants.{Ranges, Locations}
use Rattle.value_links.specs.Sections.{debug_info, debug_abbrev, info_name, abbrev_name}
use Rattle.value_links.specs.ListFaults.{FaultOfKind}
use Rattle.value_links.specs.Parts.{AreUnitsHeld, lists_in}
use Rattle.value_links.proofs.HeldLists.{lists_held}
use Rattle.value_links.proofs.WorldLaws.{bytes_are, units_held_in_order, section_is, named_refused}
use Rattle.value_links.proofs.world.read_named_lists.Goals as goal

pub read_lists-requires-clause-held : goal.read_lists-requires-clause-held
read_lists-requires-clause-held c =
    let file : List ℕ = c.args.file.now in
    let parts = c.args.parts.now in
    let info : c.debug_section-origin.result.bytes.now ≡ debug_info file = bytes_are file c.as_slice.result.now info_name c.debug_section-origin.result.bytes.now c.as_slice.ensures c.debug_section-origin.ensures.bytes in
    let abbrevs : c.debug_section-origin-2.result.bytes.now ≡ debug_abbrev file = bytes_are file c.as_slice-2.result.now abbrev_name c.debug_section-origin-2.result.bytes.now c.as_slice-2.ensures c.debug_section-origin-2.ensures.bytes in
    subst (λ (z : List ℕ). AreUnitsHeld z c.debug_section-origin-2.result.bytes.now parts.units) (sym info) (subst (λ (z : List ℕ). AreUnitsHeld (debug_info file) z parts.units) (sym abbrevs) (units_held_in_order file parts c.requires.parts.2))

pub read_lists-requires-clause-lists : goal.read_lists-requires-clause-lists
read_lists-requires-clause-lists c = let order = c.requires.parts.2 in lists_held c.args.file.now order.r c.args.parts.now order.holds

pub read_lists-requires-clause-room : goal.read_lists-requires-clause-room
read_lists-requires-clause-room c =
    let lists = c.lists_section-origin in
    let same : lists.result.bytes.now ≡ (lists_in c.args.parts.now Ranges).section.now = lists.ensures.bytes ∙ sym (section_is c.args.file.now c.args.parts.now c.requires.parts.2 Ranges) in
    subst (λ (z : List ℕ). lists.result.origin + length z < 2 ^ 64) same lists.ensures.room

-- no lists come before range lists
pub returns-in_err-ranges-clause-refused : goal.returns-in_err-ranges-clause-refused
returns-in_err-ranges-clause-refused c =
    let file : List ℕ = c.args.file.now in
    let refusal = c.in_err-ranges.field-0.0 in
    let refused = named_refused file c.args.parts.now c.requires.parts.2 c.args.sets.now.items c.requires.sets c.args.reach Ranges refusal c.requires.operations (λ r holds.
    subst (λ (o : ℕ). IsRefusedFor (IsFaultOf (FaultOfKind r c.args.reach Ranges) o) refusal) c.lists_section-origin.ensures.origin (c.in_err-ranges.ensures.fault file r [] holds refl (record { entries = refl; bytes = refl }))) in
    search (rules, refused)

pub read_lists-requires-2-clause-held : goal.read_lists-requires-2-clause-held
read_lists-requires-2-clause-held c =
    let file : List ℕ = c.args.file.now in
    let parts = c.args.parts.now in
    let info : c.debug_section-origin.result.bytes.now ≡ debug_info file = bytes_are file c.as_slice.result.now info_name c.debug_section-origin.result.bytes.now c.as_slice.ensures c.debug_section-origin.ensures.bytes in
    let abbrevs : c.debug_section-origin-2.result.bytes.now ≡ debug_abbrev file = bytes_are file c.as_slice-2.result.now abbrev_name c.debug_section-origin-2.result.bytes.now c.as_slice-2.ensures c.debug_section-origin-2.ensures.bytes in
    subst (λ (z : List ℕ). AreUnitsHeld z c.debug_section-origin-2.result.bytes.now parts.units) (sym info) (subst (λ (z : List ℕ). AreUnitsHeld (debug_info file) z parts.units) (sym abbrevs) (units_held_in_order file parts c.requires.parts.2))

pub read_lists-requires-2-clause-lists : goal.read_lists-requires-2-clause-lists
read_lists-requires-2-clause-lists c = let order = c.requires.parts.2 in lists_held c.args.file.now order.r c.args.parts.now order.holds

pub read_lists-requires-2-clause-room : goal.read_lists-requires-2-clause-room
read_lists-requires-2-clause-room c =
    let lists = c.lists_section-origin-2 in
    let same : lists.result.bytes.now ≡ (lists_in c.args.parts.now Locations).section.now = lists.ensures.bytes ∙ sym (section_is c.args.file.now c.args.parts.now c.requires.parts.2 Locations) in
    subst (λ (z : List ℕ). lists.result.origin + length z < 2 ^ 64) same lists.ensures.room

-- range lists come before location lists
pub returns-in_err-locations-clause-refused : goal.returns-in_err-locations-clause-refused
returns-in_err-locations-clause-refused c =
    let file : List ℕ = c.args.file.now in
    let refusal = c.in_err-locations.field-0.0 in
    let refused = named_refused file c.args.parts.now c.requires.parts.2 c.args.sets.now.items c.requires.sets c.args.reach Locations refusal c.requires.operations (λ r holds.
    let (earlier, are, held, counted, within) = c.in_ok-ranges.ensures.lists file r holds in
    subst (λ (o : ℕ). IsRefusedFor (IsFaultOf (FaultOfKind r c.args.reach Locations) o) refusal) c.lists_section-origin-2.ensures.origin (c.in_err-locations.ensures.fault file r earlier holds (record { rising = are.rising; each = are.each; all = are.all }) counted)) in
    search (rules, refused)
