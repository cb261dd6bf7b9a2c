use Rattle.std.proofs.Common.{ℕ, sym, subst}
use Rattle.std.specs.Prelude.{Option}
use Rattle.rewriter.specs.inside.Held.{IsReferenceOf}
use Rattle.rewriter.specs.inside.ListNumbers.{owner_in}
use Rattle.rewriter.proofs.list_expressions.number_in.Goals as goal

pub returns-in-Some-clause-number : goal.returns-in-Some-clause-number
returns-in-Some-clause-number c = subst (λ (z : Option ℕ). IsReferenceOf c.args.world.now c.args.places.now.items (owner_in c.args.world.now z) c.args.op.now c.op_number.result) (sym c.in-Some.is) c.op_number.ensures.number

pub returns-in-None-clause-number : goal.returns-in-None-clause-number
returns-in-None-clause-number c = subst (λ (z : Option ℕ). IsReferenceOf c.args.world.now c.args.places.now.items (owner_in c.args.world.now z) c.args.op.now c.section_number.result) (sym c.in-None.is) c.section_number.ensures.number
