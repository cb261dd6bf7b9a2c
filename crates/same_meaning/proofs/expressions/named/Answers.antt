use Rattle.std.proofs.Common.{ℕ, sym, subst}
use Rattle.std.specs.Prelude.{Option}
use Rattle.value_links.specs.Lists.{owner_unit}
use Rattle.same_meaning.specs.inside.Expressions.{TellsNamed}
use Rattle.same_meaning.proofs.NamedOnce.{told_found}
use Rattle.same_meaning.proofs.expressions.named.Goals as goal

pub returns-in-Some : goal.returns-in-Some
returns-in-Some c = λ r read holds.
    subst (λ (z : Option ℕ). TellsNamed r.links (owner_unit r.links z) c.args.op.now c.resolve_op.result) (sym c.in-Some.is)
    (told_found c.one_meaning.ensures.linked c.args.world.now.image r.links read.links c.in-Some.unit c.args.op.now c.resolve_op.result (c.resolve_op.ensures c.args.world.now.image r holds))

pub returns-in-None : goal.returns-in-None
returns-in-None c = λ r read holds.
    subst (λ (z : Option ℕ). TellsNamed r.links (owner_unit r.links z) c.args.op.now c.named_alone.result) (sym c.in-None.is) (c.named_alone.ensures r read holds)
