use Rattle.std.proofs.Common.{◌≡◌, ◌∙◌, true, false, inl, inr, sym}
use Rattle.std.specs.Prelude.{◌≢◌, ◌⊎◌}
use Rattle.std.proofs.lemmas.Result.{IfOk-weaker}
use Rattle.dw_base.specs.declared.classes.Classes.{Classes}
use Rattle.list_model.specs.declared.item.Meaning.TheVariants.{Dead}
use Rattle.list_least.specs.declared.plan.Plan.{Plan}
use Rattle.value_links.specs.World.{World}
use Rattle.rewriter.specs.inside.Plans.{IsPlanOf, ArePotentialsOf}
use Rattle.rewriter.proofs.lists.plan_of.Goals.{in_default-via-in-Live+else-classes, in_default-via-in_default}
use Rattle.rewriter.proofs.lists.plan_of.Goals as goal

pub returns-in-Live-clause-plan : goal.returns-in-Live-clause-plan
returns-in-Live-clause-plan c =
    IfOk-weaker c.live_plan.result (λ (plan : Plan). (classes : Classes) → classes.lists ≡ true → IsPlanOf classes c.args.world.now c.args.kind c.args.list.now plan) (IsPlanOf c.args.classes c.args.world.now c.args.kind c.args.list.now) (λ plan all. all c.args.classes c.if-classes.true) c.live_plan.ensures.plan

pub returns-in-Live-clause-potentials : goal.returns-in-Live-clause-potentials
returns-in-Live-clause-potentials c =
    IfOk-weaker c.live_plan.result (λ (plan : Plan). (classes : Classes) → classes.lists ≡ true → ArePotentialsOf classes c.args.world.now c.args.kind c.args.list.now plan.potentials.items) (λ (plan : Plan). c.args.classes.lists ≡ true → c.args.list.now.meaning ≢ Dead → ArePotentialsOf c.args.classes c.args.world.now c.args.kind c.args.list.now plan.potentials.items) (λ plan all lists live. all c.args.classes lists) c.live_plan.ensures.potentials

pub returns-in_default-clause-plan : goal.returns-in_default-clause-plan
returns-in_default-clause-plan c =
    IfOk-weaker c.plan_kept.result (λ (plan : Plan). (world : World) → IsPlanOf c.args.classes world c.args.kind c.args.list.now plan) (IsPlanOf c.args.classes c.args.world.now c.args.kind c.args.list.now) (λ plan each. each c.args.world.now) c.plan_kept.ensures

pub returns-in_default-clause-potentials : goal.returns-in_default-clause-potentials
returns-in_default-clause-potentials c =
    let given : Plan → Type 0 = λ (plan : Plan). c.args.classes.lists ≡ true → c.args.list.now.meaning ≢ Dead → ArePotentialsOf c.args.classes c.args.world.now c.args.kind c.args.list.now plan.potentials.items in
    let kept : (c.args.classes.lists ≡ false) ⊎ (c.args.list.now.meaning ≡ Dead) = elim c.in_default.branch [
      | in_default-via-in-Live+else-classes w ↦ inl w.if-classes.false
      | in_default-via-in_default w ↦ inr (sym c.meaning.ensures ∙ w.in_default.is)
    ]
    in
    IfOk-weaker c.plan_kept.result (λ (plan : Plan). (world : World) → IsPlanOf c.args.classes world c.args.kind c.args.list.now plan) given (λ plan each lists live. elim kept [
      | inl all ↦ absurd (cc (lists, all))
      | inr dead ↦ absurd (live dead)
    ]) c.plan_kept.ensures
