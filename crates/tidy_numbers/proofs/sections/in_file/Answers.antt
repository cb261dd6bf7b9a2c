use Rattle.std.proofs.Common.{◌<◌, ◌+◌, ◌^◌, arith}
use Rattle.tidy_numbers.proofs.FileNumbers.{not_missing, offset_room, offset_found}
use Rattle.tidy_numbers.proofs.sections.in_file.Goals as goal

pub unreachable-requires : goal.unreachable-requires
unreachable-requires c =
    not_missing c.args.world.now c.requires.world c.args.name.now c.args.place c.in_ok-place.place c.in_ok-place.was c.requires.inside c.image-image.result.now c.image-image.ensures c.in-None.ensures

pub overflow_add-result : goal.overflow_add-result
overflow_add-result c =
    let room : c.offset.result + c.in_ok-place.place < 2 ^ 64 =
    offset_room c.args.world.now c.requires.world c.args.name.now c.args.place c.in_ok-place.place c.in_ok-place.was c.requires.inside c.image-image.result.now c.image-image.ensures c.in-Some.section c.in-Some.ensures c.offset.result c.offset.ensures c.offset.type_inv in
    omega arith

pub returns : goal.returns
returns c =
    offset_found c.args.world.now c.requires.world c.args.name.now c.args.place c.in_ok-place.place c.in_ok-place.was c.requires.inside c.image-image.result.now c.image-image.ensures c.in-Some.section c.in-Some.ensures c.offset.result c.offset.ensures
