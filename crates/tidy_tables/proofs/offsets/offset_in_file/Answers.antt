use Rattle.std.proofs.Common.{◌<◌, ◌^◌, arith}
use Rattle.tidy_tables.proofs.SectionOffsets.{place_alone, place_fits, place_found}
use Rattle.tidy_tables.proofs.offsets.offset_in_file.Goals as goal

pub overflow_add-result : goal.overflow_add-result
overflow_add-result c =
    let small : c.offset.result < 2 ^ 64 = omega arith in
    record { fits = place_fits c.args.world.now.image c.image-image.result.now c.args.name.now c.image-image.ensures c.args.place c.requires c.in-Some.number c.in-Some.ensures c.offset.result c.offset.ensures c.whole-file.ensures.read small }

pub returns-in-Some : goal.returns-in-Some
returns-in-Some c =
    place_found c.args.world.now.image c.image-image.result.now c.args.name.now c.image-image.ensures c.args.place c.requires c.in-Some.number c.in-Some.ensures c.offset.result c.offset.ensures

pub returns-in-None : goal.returns-in-None
returns-in-None c =
    place_alone c.args.world.now.image c.image-image.result.now c.args.name.now c.image-image.ensures c.args.place c.requires c.in-None.ensures
