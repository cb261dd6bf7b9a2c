use Rattle.std.proofs.Common.{rules, ◌≡◌, ◌<◌, ◌^◌, ◌⊎◌, ◌∙◌, ℕ, List, length, true, false, sym, inl, inr}
use Rattle.std.specs.List.{All}
use Rattle.std.proofs.lemmas.List.Elements.{All-take, All-drop}
use Rattle.expr_ops.specs.Drafts.{has_reference}
use Rattle.entry_arena.specs.Operations.{ops_of, for_value}
use Rattle.unit_write.proofs.ExprLaws.{gathered_none, gathered_ref, gathered_other, gathered_all}
use Rattle.unit_write.proofs.expressions.new_refs.Goals as goal

pub loop-op-init : goal.loop-op-init
loop-op-init c =
    let held = c.args.operations.now in
    let numbers : List ℕ = c.args.numbers.now.items in
    let narrow : All (λ (n : ℕ). n < 2 ^ 32) (for_value held numbers c.args.number) = All-take (λ (n : ℕ). n < 2 ^ 32) _ _ (All-drop (λ (n : ℕ). n < 2 ^ 32) _ numbers c.requires.narrow) in
    gathered_none (ops_of held c.args.number) (for_value held numbers c.args.number) c.new-refs.result.items c.into_iter-op-iterator.result.a.rest.now c.into_iter-op-iterator.result.b.rest.now c.new-refs.ensures.items (search rules) (search rules) narrow

pub loop-op-preserved : goal.loop-op-preserved
loop-op-preserved c =
    let held = c.args.operations.now in
    let s = c.in-Some.ensures.steps in
    let has : has_reference c.in-Some.op.now.code ≡ true = sym c.has_reference.ensures ∙ c.if-not-has_reference.false in
    gathered_ref (ops_of held c.args.number) (for_value held c.args.numbers.now.items c.args.number) c.loop-op.refs.items c.push.new.self.items c.in-Some.op.now _ c.next.new.self.a.rest.now c.in-Some.reference.now _ c.next.new.self.b.rest.now c.loop-op.invariant s.0 s.1 has c.in_ok-push.ensures.items

pub loop-op-preserved-then-not-has_reference : goal.loop-op-preserved-then-not-has_reference
loop-op-preserved-then-not-has_reference c =
    let held = c.args.operations.now in
    let s = c.in-Some.ensures.steps in
    let none : has_reference c.in-Some.op.now.code ≡ false = sym c.has_reference.ensures ∙ c.if-not-has_reference.true in
    gathered_other (ops_of held c.args.number) (for_value held c.args.numbers.now.items c.args.number) c.loop-op.refs.items c.in-Some.op.now _ c.next.new.self.a.rest.now c.in-Some.reference.now _ c.next.new.self.b.rest.now c.loop-op.invariant s.0 s.1 none

pub returns-clause-refs : goal.returns-clause-refs
returns-clause-refs c =
    let held = c.args.operations.now in
    let ops = c.loop-op.op-iterator.a.rest.now in
    let numbers : List ℕ = c.loop-op.op-iterator.b.rest.now in
    let none : (length ops ≡ 0) ⊎ (length numbers ≡ 0) = elim (c.in-None.ensures.steps) [ inl x ↦ inl x.1.0 | inr x ↦ inr x.1.0 ] in
    gathered_all (ops_of held c.args.number) (for_value held c.args.numbers.now.items c.args.number) c.loop-op.refs.items ops numbers c.loop-op.invariant none

pub returns-clause-narrow : goal.returns-clause-narrow
returns-clause-narrow c = c.loop-op.invariant.narrow
