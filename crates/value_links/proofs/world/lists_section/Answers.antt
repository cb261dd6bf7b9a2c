use Rattle.std.proofs.Common.{◌≡◌, sym, subst}
use Rattle.list_model.specs.declared.entry.ListKind.{ListKind}
use Rattle.value_links.specs.Sections.{rnglists_name, loclists_name, debug_lists, lists_name, offset_named}
use Rattle.value_links.proofs.WorldLaws.{bytes_are, origin_is}
use Rattle.value_links.proofs.world.lists_section.Goals as goal

pub returns-in-Ranges-clause-bytes : goal.returns-in-Ranges-clause-bytes
returns-in-Ranges-clause-bytes c =
    subst (λ (kind : ListKind). c.debug_section.result.bytes.now ≡ debug_lists c.args.file.now kind) (sym c.in-Ranges.is) (bytes_are c.args.file.now c.as_slice.result.now rnglists_name c.debug_section.result.bytes.now c.as_slice.ensures c.debug_section.ensures.bytes)

pub returns-in-Ranges-clause-origin : goal.returns-in-Ranges-clause-origin
returns-in-Ranges-clause-origin c =
    subst (λ (kind : ListKind). c.debug_section.result.origin ≡ offset_named c.args.file.now (lists_name kind)) (sym c.in-Ranges.is) (origin_is c.args.file.now c.as_slice.result.now rnglists_name c.debug_section.result.origin c.as_slice.ensures c.debug_section.ensures.origin)

pub returns-in-Locations-clause-bytes : goal.returns-in-Locations-clause-bytes
returns-in-Locations-clause-bytes c =
    subst (λ (kind : ListKind). c.debug_section-in-Locations.result.bytes.now ≡ debug_lists c.args.file.now kind) (sym c.in-Locations.is) (bytes_are c.args.file.now c.as_slice-in-Locations.result.now loclists_name c.debug_section-in-Locations.result.bytes.now c.as_slice-in-Locations.ensures c.debug_section-in-Locations.ensures.bytes)

pub returns-in-Locations-clause-origin : goal.returns-in-Locations-clause-origin
returns-in-Locations-clause-origin c =
    subst (λ (kind : ListKind). c.debug_section-in-Locations.result.origin ≡ offset_named c.args.file.now (lists_name kind)) (sym c.in-Locations.is) (origin_is c.args.file.now c.as_slice-in-Locations.result.now loclists_name c.debug_section-in-Locations.result.origin c.as_slice-in-Locations.ensures c.debug_section-in-Locations.ensures.origin)
