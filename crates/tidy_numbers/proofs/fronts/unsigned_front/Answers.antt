use Rattle.leb_codec.specs.Leb.{Uleb}
use Rattle.tidy_numbers.proofs.FrontReads.{IsReadTo, unsigned_ends, unsigned_long, unsigned_read}
use Rattle.tidy_numbers.proofs.fronts.unsigned_front.Goals as goal

pub unreachable-requires : goal.unreachable-requires
unreachable-requires c =
    let (n, first, rest, spelled, whole) = c.requires.number in
    unsigned_read _ n first rest spelled whole c.in-Err.field-0 c.in-Err.ensures.short c.in-Err.ensures.wide

pub returns-clause-end : goal.returns-clause-end
returns-clause-end c =
    let number = c.in-Ok.number in
    let read : IsReadTo Uleb c.args.bytes.now c.args.at number.end number.value = record { order = c.in-Ok.ensures.within.0; inside = c.in-Ok.ensures.within.1; spelled = (c.in-Ok.ensures.read, c.in-Ok.ensures.fits) } in
    unsigned_ends c.args.bytes.now c.args.at number.end number.value read

pub returns-clause-long : goal.returns-clause-long
returns-clause-long c =
    let number = c.in-Ok.number in
    let read : IsReadTo Uleb c.args.bytes.now c.args.at number.end number.value = record { order = c.in-Ok.ensures.within.0; inside = c.in-Ok.ensures.within.1; spelled = (c.in-Ok.ensures.read, c.in-Ok.ensures.fits) } in
    unsigned_long c.args.bytes.now c.args.at number.end number.value c.len_u.result read c.len_u.ensures.least
