use Rattle.std.proofs.Common.{◌≡◌, ◌-◌, ◌+◌, ◌∙◌, suc, arith}
use Rattle.leb_codec.proofs.Puts.{digit_moved, extends_push}
use Rattle.leb_codec.proofs.write.push_digits.Goals as goal

pub loop-preserved : goal.loop-preserved
loop-preserved c =
    let inv = c.loop.invariant in
    let left : c.args.size - c.loop.counter ≡ suc (c.args.size - (c.loop.counter + 1)) = omega arith in
    let moved = digit_moved c.loop.out.items c.args.complemented c.digit.result (c.args.size - (c.loop.counter + 1)) (c.args.size - c.loop.counter) c.loop.rest left c.digit.ensures in
    record {
      whole = rw c.in_ok-push.ensures.items (moved ∙ inv.whole);
      front = rw c.in_ok-push.ensures.items (extends_push c.args.out.now.items c.loop.out.items (128 + c.digit.result) inv.front);
    }
