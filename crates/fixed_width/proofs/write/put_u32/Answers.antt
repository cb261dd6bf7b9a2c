use Rattle.std.proofs.Common.{◌≡◌, ◌+◌, ◌-◌, arith}
use Rattle.fixed_width.proofs.Numbers.{number_put}
use Rattle.fixed_width.proofs.write.put_u32.Goals as goal

pub returns-clause-written : goal.returns-clause-written
returns-clause-written c =
    let at = c.args.at in
    let e : at + 4 - at ≡ 4 = omega arith in
    rw e (number_put 4 at c.args.value c.args.bytes.now c.write_u32.new.buf (omega (arith, c.requires)) _ c.write_u32.ensures c.ranges.value.fits)
