use Rattle.std.proofs.Common.{List, sym, subst}
use Rattle.list_least.specs.declared.runs.Run.{Run}
use Rattle.list_least.specs.Tails.{AreLeft}
use Rattle.list_least.proofs.tail.Tail.size_under.Goals as goal

pub returns : goal.returns
returns c addr context items ps of =
    c.bytes_under.ensures addr context items ps (subst (λ (z : List Run). AreLeft addr context items ps c.args.self.now.under z) (sym c.as_slice.ensures.value) of.left)
