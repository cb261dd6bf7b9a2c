use Rattle.std.proofs.Common.{◌≡◌, List, length, ap, arith}
use Rattle.std.proofs.lemmas.Bool.Decides.{nat_tests}
use Rattle.std.proofs.lemmas.List.{nil_from_length}
use Rattle.list_arena.specs.Held.{HeldViews}
use Rattle.list_arena.proofs.PairLaws.{runs_count}
use Rattle.list_arena.proofs.views.Views.is_empty.Goals as goal

pub returns : goal.returns
returns c =
    let count = runs_count c.self.inside.long c.self.inside.rows.items c.self.inside.pairs.items c.args.self.now c.self.view_is in
    (λ none. nil_from_length c.args.self.now (grind (arith, nat_tests)), λ none. let empty : length c.args.self.now ≡ 0 = ap (λ (rs : List HeldViews). length rs) none in grind (arith, nat_tests))
