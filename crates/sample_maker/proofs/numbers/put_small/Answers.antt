use Rattle.std.proofs.Common.{◌∙◌, ◌++◌, List, ℕ, ap}
use Rattle.std.proofs.lemmas.Result.{on_ok_weaker}
use Rattle.sample_maker.proofs.SmallLebs.{shortest_uleb}
use Rattle.sample_maker.proofs.numbers.put_small.Goals as goal

pub returns : goal.returns
returns c = on_ok_weaker c.put_u.result (λ (bytes, s, e). e ∙ ap (λ (z : List ℕ). c.args.out.now.items ++ z) (shortest_uleb c.args.number bytes c.requires s)) c.put_u.ensures.ok
