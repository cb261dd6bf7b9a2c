use Rattle.value_links.proofs.DebugOnce.{debug_once}
use Rattle.value_links.proofs.laws.one_debug.Goals as goal

pub returns : goal.returns
returns c = debug_once
