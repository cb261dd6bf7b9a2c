use Rattle.std.proofs.Common.{subst, sym, arith}
use Rattle.list_least.specs.Tails.{StartAtTop}
use Rattle.list_least.proofs.Behind.{lowers, lowers_on, lowered_seen, not_lowered}
use Rattle.list_least.proofs.runs.lower.Goals as goal

pub returns-then-by-eq0 : goal.returns-then-by-eq0
returns-then-by-eq0 c = not_lowered c.args.by c.args.runs.items c.if-by-eq0.true c.requires.top c.requires.down

pub loop-i-init : goal.loop-i-init
loop-i-init c = lowers c.args.by c.as_slice-old.result.now c.new-new.result.items (subst StartAtTop (sym c.as_slice-old.ensures.value) c.requires.top) c.new-new.ensures.items

pub loop-i-preserved : goal.loop-i-preserved
loop-i-preserved c = lowers_on c.args.by c.as_slice-old.result.now c.loop-i.i c.lowest_of-lowest.result c.saturating_sub-gain.result c.loop-i.new.items c.push.new.runs.items c.loop-i.invariant c.loop-i-test.true (subst StartAtTop (sym c.as_slice-old.ensures.value) c.requires.top) c.lowest_of-lowest.ensures.above c.lowest_of-lowest.ensures.within c.saturating_sub-gain.ensures c.in_ok-push.ensures

pub returns : goal.returns
returns c = lowered_seen c.args.by c.args.runs.items c.as_slice-old.result.now c.loop-i.i c.loop-i.new.items c.as_slice-old.ensures.value c.requires.top (omega (arith, c.loop-i-test.false, c.loop-i.auto.i-end)) c.loop-i.invariant
