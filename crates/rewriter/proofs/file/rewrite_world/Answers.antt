use Rattle.rewriter.proofs.ListTotals.{all_entries_few, all_expression_bytes_few}
use Rattle.rewriter.proofs.FileAnew.{rewritten, image_ordered}
use Rattle.rewriter.proofs.file.rewrite_world.Goals as goal

pub assemble-requires-clause-image : goal.assemble-requires-clause-image
assemble-requires-clause-image c = image_ordered c.args.world.image c.into_image-image.result c.args.world c.requires.world c.into_image-image.ensures

pub returns : goal.returns
returns c =
    let new = c.in_ok-sections in
    let entries = all_entries_few c.args.world c.requires.world in
    let bytes = all_expression_bytes_few c.args.world c.requires.world in
    let anew = rewritten c.args.world.image c.into_image-image.result c.args.world new.field-0.sections c.in_ok-file.file.items new.field-0.certificate.items c.valid_files.ensures.whole c.requires.world entries bytes c.into_image-image.ensures new.ensures.anew new.ensures.least new.ensures.order new.ensures.kept c.in_ok-file.ensures.has in
    record { same = anew.same; still_valid = anew.still_valid; least = anew.least; order = anew.order; lists = anew.lists; columns = anew.columns; columns_order = anew.columns_order; codes = anew.codes; codes_order = anew.codes_order; layouts = anew.layouts; tidy = anew.tidy; placed = anew.placed; certified = anew.certified; certified_first = anew.certified_first }
