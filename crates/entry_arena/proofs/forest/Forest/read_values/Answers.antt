use Rattle.std.proofs.Common.{◌≡◌, ◌∙◌, ap, arith, refl}
use Rattle.entry_arena.specs.Arena.{Arena, value_at}
use Rattle.entry_arena.proofs.HeldValues.{row_more}
use Rattle.entry_arena.proofs.forest.Forest.read_values.Goals as goal

pub loop-number-preserved : goal.loop-number-preserved
loop-number-preserved c =
    let more = row_more c.args.self.now.values c.args.first c.loop-number.number (omega arith) (omega arith) in
    let value : c.value.result ≡ value_at c.args.self.now.values c.loop-number.number = c.value.ensures ∙ ap (λ (f : Arena). value_at f.values c.loop-number.number) c.self.view_is in
    rw (c.in_ok-push.ensures.items, value, c.loop-number.invariant, more) refl
