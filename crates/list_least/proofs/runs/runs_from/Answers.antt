use Rattle.list_least.proofs.Behind.{rest_is}
use Rattle.list_least.proofs.runs.runs_from.Goals as goal

pub returns : goal.returns
returns c = rest_is c.args.runs.now c.new-rest.result.items c.extend_from_slice.new.self.items c.args.from c.new-rest.ensures.items c.in_ok-extend_from_slice.ensures.items
