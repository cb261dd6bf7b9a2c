use Rattle.std.proofs.Common.{length, map, refl}
use Rattle.list_write.specs.declared.image.ListImage.{ListImage}
use Rattle.list_write.specs.Written.{to_write}
use Rattle.value_links.specs.World.{lists_held}
use Rattle.rewriter.proofs.RecordedLists.{all_recorded}
use Rattle.rewriter.proofs.WrittenLists.{can_be_written, lists_written}
use Rattle.rewriter.proofs.lists.write_kind.Goals as goal

pub assemble-requires : goal.assemble-requires
assemble-requires c =
    let those = c.in_ok-pieces.ensures.planned in
    record {
      lists = (
        map to_write those.named,
        those.written,
        can_be_written c.args.world.now c.args.places.now.items c.args.kind those.named those.planned c.requires.world those.viewed c.lists_section-section.result.now c.lists_section-section.ensures c.contributions-parts.result.now c.contributions-parts.ensures,
      );
    }

pub returns-clause-written : goal.returns-clause-written
returns-clause-written c = λ r holds.
    let image : ListImage = c.in_ok-image.image in
    let those = c.in_ok-pieces.ensures.planned in
    let can = can_be_written c.args.world.now c.args.places.now.items c.args.kind those.named those.planned c.requires.world those.viewed c.lists_section-section.result.now c.lists_section-section.ensures c.contributions-parts.result.now c.contributions-parts.ensures in
    lists_written c.args.world.now c.args.places.now.items c.args.kind those.named those.planned r holds those.viewed c.lists_section-section.result.now c.lists_section-section.ensures c.contributions-parts.result.now c.contributions-parts.ensures image.bytes.items image.parts.items image.lists.items image.views.items (c.in_ok-image.ensures.written (map to_write those.named) those.written can)

pub returns-clause-recorded : goal.returns-clause-recorded
returns-clause-recorded c = all_recorded c.args.world.now c.args.kind (length (lists_held c.args.world.now c.args.kind)) c.write_pieces.new.records.items refl c.in_ok-pieces.ensures.recorded

pub returns-clause-fits : goal.returns-clause-fits
returns-clause-fits c =
    let those = c.in_ok-pieces.ensures.planned in
    let can = can_be_written c.args.world.now c.args.places.now.items c.args.kind those.named those.planned c.requires.world those.viewed c.lists_section-section.result.now c.lists_section-section.ensures c.contributions-parts.result.now c.contributions-parts.ensures in
    (c.in_ok-image.ensures.written (map to_write those.named) those.written can).fits
