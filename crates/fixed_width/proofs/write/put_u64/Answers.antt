use Rattle.std.proofs.Common.{◌≡◌, ◌+◌, ◌-◌, arith}
use Rattle.fixed_width.proofs.Numbers.{number_put}
use Rattle.fixed_width.proofs.write.put_u64.Goals as goal

pub returns-clause-written : goal.returns-clause-written
returns-clause-written c =
    let at = c.args.at in
    let e : at + 8 - at ≡ 8 = omega arith in
    rw e (number_put 8 at c.args.value c.args.bytes.now c.write_u64.new.buf (omega (arith, c.requires)) _ c.write_u64.ensures c.ranges.value.fits)
