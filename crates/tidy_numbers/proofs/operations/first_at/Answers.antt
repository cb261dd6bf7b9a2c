use Rattle.std.proofs.Common.{◌^◌, ◌<◌, ◌+◌, length, arith}
use Rattle.tidy_numbers.proofs.ExpressionPlaces.{room_found, part_long, section_found}
use Rattle.tidy_numbers.proofs.operations.first_at.Goals as goal

pub counted_from-requires : goal.counted_from-requires
counted_from-requires c =
    let long = part_long c.args.section.now c.args.span c.bytes_of-bytes.result.now c.bytes_of-bytes.ensures in
    let room : c.args.span.at + length c.bytes_of-bytes.result.now < 2 ^ 64 = omega (arith, long, c.requires.inside) in
    room_found (2 ^ 64) c.args.span.at c.args.owned c.bytes_of-bytes.result.now c.first_in_expression.result room c.first_in_expression.ensures

pub returns : goal.returns
returns c = section_found c.args.owned c.args.section.now c.args.span c.bytes_of-bytes.result.now c.first_in_expression.result c.counted_from.result c.bytes_of-bytes.ensures c.first_in_expression.ensures c.counted_from.ensures
