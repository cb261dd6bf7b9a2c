use Rattle.std.proofs.lemmas.List.{append_assoc}
use Rattle.std.proofs.Math.Numerals.{add-one}
use Rattle.elf_place.proofs.headers.push_headers.Goals as goal

pub loop-i-preserved : goal.loop-i-preserved
loop-i-preserved c =
    let before = c.loop-i.invariant in
    rw (add-one, ← append_assoc) (rw (c.in_ok-extend_from_slice.ensures.items, before, c.header.ensures.bytes))
