use Rattle.std.proofs.Common.{◌≡◌, ◌⊎◌, ◌++◌, ◌∙◌, ◌∷◌, [], Bool, length, inl, inr, ap}
use Rattle.form_codec.specs.declared.value.Value.{Value}
use Rattle.rewriter.specs.inside.Taken.{is_taken, taken_value, taken_row}
use Rattle.rewriter.proofs.TakenValues.{row_next, row_done}
use Rattle.rewriter.proofs.taken.push_row.Goals as goal

pub loop-old-preserved : goal.loop-old-preserved
loop-old-preserved c =
    let s = c.in-Some.ensures.steps in
    let t : c.taken_value.result ≡ taken_value c.args.at (is_taken c.in-Some.old.now c.in-Some.new.now) c.in-Some.value.now = c.taken_value.ensures ∙ ap (λ (t : Bool). taken_value c.args.at t c.in-Some.value.now) c.is_taken.ensures in
    row_next c.args.at (c.args.values.now.items ++ taken_row c.args.at c.args.olds.now c.args.news.now c.args.row.now) c.loop-old.values.items c.push.new.self.items c.in-Some.old.now c.in-Some.new.now c.in-Some.value.now _ c.next.new.self.a.a.rest.now _ c.next.new.self.a.b.rest.now _ c.next.new.self.b.rest.now c.loop-old.invariant s.0.0 s.0.1 s.1 (c.in_ok-push.ensures.items ∙ ap (λ (v : Value). c.loop-old.values.items ++ v ∷ []) t)

pub returns : goal.returns
returns c =
    let olds = c.loop-old.old-iterator.a.a.rest.now in
    let news = c.loop-old.old-iterator.a.b.rest.now in
    let row = c.loop-old.old-iterator.b.rest.now in
    let none : (length olds ≡ 0) ⊎ ((length news ≡ 0) ⊎ (length row ≡ 0)) = elim (c.in-None.ensures.steps) [ inl x ↦ elim (x.1) [ inl y ↦ inl y.1.0 | inr y ↦ inr (inl y.1.0) ] | inr x ↦ inr (inr x.1.0) ] in
    row_done c.args.at (c.args.values.now.items ++ taken_row c.args.at c.args.olds.now c.args.news.now c.args.row.now) c.loop-old.values.items olds news row c.loop-old.invariant none
