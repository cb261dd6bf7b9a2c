use Rattle.elf_place.proofs.Patches.{IsPatched-from}
use Rattle.elf_place.proofs.headers.put_places.Goals as goal

pub returns : goal.returns
returns c =
    let put = c.put_u64.ensures in
    let spots = c.put_spots.ensures in
    IsPatched-from c.args.table c.args.spots.now c.args.file.now c.put_u64.new.file c.put_spots.new.file c.requires.low put.written put.others put.size spots.offsets spots.sizes spots.others spots.size
