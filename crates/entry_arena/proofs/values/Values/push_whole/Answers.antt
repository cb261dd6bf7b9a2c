use Rattle.std.proofs.Common.{◌≡◌, ◌++◌, ◌∷◌, [], ◌∙◌, ap, List, length, arith, rules}
use Rattle.std.proofs.lemmas.Grind.{common_steps}
use Rattle.form_codec.specs.declared.value.Value.{Value}
use Rattle.entry_arena.proofs.HeldValues.{values_grown, whole_pushed}
use Rattle.entry_arena.proofs.values.Values.push_whole.Goals as goal

pub returns-in_err-push-2-clause-unchanged : goal.returns-in_err-push-2-clause-unchanged
returns-in_err-push-2-clause-unchanged c =
    let grown = values_grown c.self.inside.kinds.items c.self.inside.numbers.items c.self.inside.others.items c.args.value.now c.self.invariant in
    rw (c.in_err-push-2.ensures.items, c.in_ok-push.ensures.items) (search (rules, grown ∙ c.self.view_is))

pub returns-then-is_err-clause-unchanged : goal.returns-then-is_err-clause-unchanged
returns-then-is_err-clause-unchanged c =
    let grown = values_grown c.self.inside.kinds.items c.self.inside.numbers.items c.self.inside.others.items c.args.value.now c.self.invariant in
    let numbers : c.pop.new.self.items ≡ c.self.inside.numbers.items = grind (arith, common_steps) in
    rw (c.push-3.ensures.items, c.if-is_err.ensures.negation, numbers, c.in_ok-push.ensures.items) (grown ∙ c.self.view_is)

pub returns-clause-pushed : goal.returns-clause-pushed
returns-clause-pushed c =
    let number : c.in-Ok.number ≡ length c.self.inside.others.items = first_of (search rules, grind (arith, common_steps)) in
    rw (c.push-3.ensures.items, c.if-is_err.ensures.negation, c.in_ok-push-2.ensures.items, c.in_ok-push.ensures.items, number) (
    whole_pushed c.self.inside.kinds.items c.self.inside.numbers.items c.self.inside.others.items c.args.value.now c.self.invariant
    ∙ ap (λ (vs : List Value). vs ++ c.args.value.now ∷ []) c.self.view_is)
