use Rattle.std.proofs.Common.{List, length, ap, arith}
use Rattle.form_codec.specs.declared.value.Value.{Value}
use Rattle.entry_arena.proofs.HeldValues.{values_length}
use Rattle.entry_arena.proofs.values.Values.len.Goals as goal

pub returns : goal.returns
returns c =
    let count = values_length c.self.inside.kinds.items c.self.inside.numbers.items c.self.inside.others.items c.self.invariant.paired in
    omega (arith, count, ap (λ (vs : List Value). length vs) c.self.view_is)
