use Rattle.value_links.proofs.ListContexts.{AreWalked}
use Rattle.value_links.proofs.lists.is_shared.Given as goal

abbrev pub invariant-loop-i : goal.invariant-loop-i
invariant-loop-i l = AreWalked l.kind l.parts.addr.now l.parts.contexts.items l.named l.raw.items l.owned l.i l.shared l.last
