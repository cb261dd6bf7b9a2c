use Rattle.std.proofs.Common.{◌≡◌, ◌+◌, ◌*◌, ℕ, length, take, slice_index}
use Rattle.std.specs.List.{All}
use Rattle.elf_sections.specs.Numbers.{number_at}
use Rattle.elf_place.specs.inside.Spots.{IsApart}
use Rattle.elf_place.specs.declared.spots.Spot.{Spot}
use Rattle.elf_place.proofs.headers.put_spots.Given as goal

abbrev pub invariant-loop-spot : goal.invariant-loop-spot
invariant-loop-spot l = record {
  size : length l.file ≡ length l.fn.file;
  offsets : All (λ (spot : Spot). number_at 8 (l.table + 64 * spot.section + 24) l.file ≡ spot.at) (take l.spot-index l.spots);
  sizes : All (λ (spot : Spot). number_at 8 (l.table + 64 * spot.section + 32) l.file ≡ spot.len) (take l.spot-index l.spots);
  others : (k : ℕ) → IsApart l.table l.spots k → slice_index l.file k ≡ slice_index l.fn.file k;
}
