use Rattle.std.proofs.Common.{FitsSigned, w64}
use Rattle.std.proofs.lemmas.Int.{to_z-of_z}
use Rattle.leb_codec.specs.Leb.{Sleb}
use Rattle.tidy_numbers.proofs.FrontReads.{IsReadTo, signed_ends, signed_long, signed_read}
use Rattle.tidy_numbers.proofs.fronts.signed_front.Goals as goal

pub unreachable-requires : goal.unreachable-requires
unreachable-requires c =
    let (n, first, rest, spelled, whole) = c.requires.number in
    signed_read _ n first rest spelled whole c.in-Err.field-0 c.in-Err.ensures.short c.in-Err.ensures.wide

pub returns-clause-end : goal.returns-clause-end
returns-clause-end c =
    let number = c.in-Ok.number in
    let read : IsReadTo Sleb c.args.bytes.now c.args.at number.end number.value = record { order = c.in-Ok.ensures.within.0; inside = c.in-Ok.ensures.within.1; spelled = (c.in-Ok.ensures.read, c.in-Ok.ensures.fits) } in
    signed_ends c.args.bytes.now c.args.at number.end number.value read

pub returns-clause-long : goal.returns-clause-long
returns-clause-long c =
    let number = c.in-Ok.number in
    let read : IsReadTo Sleb c.args.bytes.now c.args.at number.end number.value = record { order = c.in-Ok.ensures.within.0; inside = c.in-Ok.ensures.within.1; spelled = (c.in-Ok.ensures.read, c.in-Ok.ensures.fits) } in
    let fits : FitsSigned w64 number.value = c.in-Ok.ensures.fits in
    signed_long c.args.bytes.now c.args.at number.end number.value c.len_s.result read (simp to_z-of_z at c.len_s.ensures.least)
