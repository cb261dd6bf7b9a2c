use Rattle.std.proofs.Common.{List, sym, subst, take}
use Rattle.std.proofs.lemmas.List.{take_more}
use Rattle.spelled.specs.Spelled.{Joined, Appends}
use Rattle.spelled.proofs.Joins.{appends_more}
use Rattle.expr_ops.specs.declared.write.Draft.{Draft}
use Rattle.expr_ops.specs.Drafts.{PutsDraft}
use Rattle.expr_ops.proofs.write.put_all.Goals as goal

pub loop-draft-preserved : goal.loop-draft-preserved
loop-draft-preserved c =
    let S = PutsDraft c.args.bytes.now in
    let a = c.loop-draft in
    subst (λ (z : List Draft). Appends (Joined S) z c.args.out.now.items c.put_op.new.out.items) (sym (take_more c.args.drafts.now a.draft-index _ c.loop-draft-test.true)) (appends_more S (take a.draft-index c.args.drafts.now) _ c.args.out.now.items a.out.items c.put_op.new.out.items a.invariant c.in_ok-put_op.ensures.ok)

pub put_op-requires-clause-known : goal.put_op-requires-clause-known
put_op-requires-clause-known c = (c.requires c.loop-draft.draft-index _ c.loop-draft-test.true).0

pub put_op-requires-clause-holds : goal.put_op-requires-clause-holds
put_op-requires-clause-holds c = (c.requires c.loop-draft.draft-index _ c.loop-draft-test.true).1
