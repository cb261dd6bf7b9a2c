use Rattle.std.proofs.Common.{◌≤◌, ◌<◌, ◌^◌, arith}
use Rattle.leb_codec.proofs.Lens.{least_below}
use Rattle.line_tests.proofs.leb_codec_tests.known_numbers_are_written.Goals as goal

pub put_padded-requires : goal.put_padded-requires
put_padded-requires g c = least_below 1 3 (record { some = omega arith; below = omega arith })
