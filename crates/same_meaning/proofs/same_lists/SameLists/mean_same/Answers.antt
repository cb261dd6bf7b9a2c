use Rattle.std.proofs.Common.{Bool, refl, subst}
use Rattle.std.specs.Prelude.{◌↔◌, IsTrue}
use Rattle.value_links.specs.Resolved.{MeansList}
use Rattle.same_meaning.specs.inside.Compared.{OfBoth, MeanOne}
use Rattle.same_meaning.proofs.same_lists.SameLists.mean_same.Goals as goal

pub returns-then-has-clause-same : goal.returns-then-has-clause-same
returns-then-has-clause-same c = λ r s read holds also held. (λ yes. c.has.ensures c.if-has.true c.args.before.now c.args.after.now c.requires.lists r s read holds also held, λ all. refl)

pub returns-then-not-branch-clause-same : goal.returns-then-not-branch-clause-same
returns-then-not-branch-clause-same c =
    subst (λ (z : Bool). OfBoth c.args.before.now c.args.after.now (λ r s. IsTrue z ↔ MeanOne (MeansList r c.args.kind c.args.first) (MeansList s c.args.kind c.args.second))) c.if-not-branch.true c.in_ok-mean_same_list.ensures

pub returns-clause-same : goal.returns-clause-same
returns-clause-same c =
    subst (λ (z : Bool). OfBoth c.args.before.now c.args.after.now (λ r s. IsTrue z ↔ MeanOne (MeansList r c.args.kind c.args.first) (MeansList s c.args.kind c.args.second))) c.if-not-branch.false c.in_ok-mean_same_list.ensures

pub returns-clause-lists : goal.returns-clause-lists
returns-clause-lists c =
    c.add.ensures c.args.before.now c.args.after.now c.requires.lists (λ r s read holds also held. (c.in_ok-mean_same_list.ensures r s read holds also held).0 c.if-not-branch.false)

pub returns-in_err-add-clause-lists : goal.returns-in_err-add-clause-lists
returns-in_err-add-clause-lists c =
    c.add.ensures c.args.before.now c.args.after.now c.requires.lists (λ r s read holds also held. (c.in_ok-mean_same_list.ensures r s read holds also held).0 c.if-not-branch.false)
