use Rattle.std.proofs.Common.{◌≡◌, ◌∙◌, ℕ, List, sym, subst}
use Rattle.std.proofs.lemmas.Result.{on_ok_weaker}
use Rattle.expr_ops.specs.declared.op.Op.{Op}
use Rattle.rewriter.specs.inside.ListNumbers.{owner_in, AreListReferences, IsReadAgain}
use Rattle.rewriter.proofs.ListExpressions.{put_expression}
use Rattle.rewriter.proofs.list_expressions.put_expression.Goals as goal

pub returns : goal.returns
returns c =
    let world = c.args.world.now in
    let places = c.args.places.now.items in
    let u : ℕ = owner_in world c.args.owner in
    let bytes : List ℕ = c.args.bytes.now in
    let ops : List Op = c.deref-2.result.now in
    let refs : List ℕ = c.deref-3.result.now in
    let read : IsReadAgain bytes ops = subst (λ (z : List Op). IsReadAgain bytes z) (sym c.deref-2.ensures.value) c.in_ok-read_again.ensures in
    let same : c.deref.result.now ≡ ops = c.deref.ensures.value ∙ sym c.deref-2.ensures.value in
    let are : AreListReferences world places u ops refs = subst (λ (z : List ℕ). AreListReferences world places u ops z) (sym c.deref-3.ensures.value) (subst (λ (z : List Op). AreListReferences world places u z c.in_ok-refs.refs.items) same c.in_ok-refs.ensures.references) in
    on_ok_weaker c.write_shortest.result (put_expression world places u bytes c.args.out.now.items c.write_shortest.new.out.items ops refs read are) c.write_shortest.ensures.ok
