use Rattle.std.proofs.Common.{◌++◌, ◌∷◌, [], ◌∙◌, ap, List}
use Rattle.form_codec.specs.declared.value.Value.{Value}
use Rattle.entry_arena.specs.inside.Values.{value_held}
use Rattle.entry_arena.proofs.HeldValues.{narrow_pushed}
use Rattle.entry_arena.proofs.values.Values.push_narrow.Goals as goal

pub returns-clause-pushed : goal.returns-clause-pushed
returns-clause-pushed c =
    rw (c.push-2.ensures.items, c.if-is_err.ensures.negation, c.in_ok-push.ensures.items) (
    narrow_pushed c.self.inside.kinds.items c.self.inside.numbers.items c.self.inside.others.items c.args.kind c.args.number c.self.invariant c.requires
    ∙ ap (λ (vs : List Value). vs ++ value_held [] c.args.kind c.args.number ∷ []) c.self.view_is)
