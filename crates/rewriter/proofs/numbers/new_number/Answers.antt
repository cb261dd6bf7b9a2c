use Rattle.std.proofs.Common.{sym, subst}
use Rattle.form_codec.specs.declared.value.Value.{Value}
use Rattle.rewriter.specs.inside.Held.{IsNumberOf}
use Rattle.rewriter.proofs.numbers.new_number.Goals as goal

pub returns-in-LocalRef-clause-number : goal.returns-in-LocalRef-clause-number
returns-in-LocalRef-clause-number c =
    subst (λ (v : Value). IsNumberOf c.args.world.now c.args.places.now.items c.args.new_places.now c.args.unit c.args.id c.args.name v c.local_number.result) (sym c.in-LocalRef.is) (c.local_number.ensures.number c.args.new_places.now)

pub returns-in-SectionRef-clause-number : goal.returns-in-SectionRef-clause-number
returns-in-SectionRef-clause-number c =
    subst (λ (v : Value). IsNumberOf c.args.world.now c.args.places.now.items c.args.new_places.now c.args.unit c.args.id c.args.name v c.section_number.result) (sym c.in-SectionRef.is) (c.section_number.ensures.number c.args.new_places.now)

pub returns-in-Offset-clause-number : goal.returns-in-Offset-clause-number
returns-in-Offset-clause-number c =
    subst (λ (v : Value). IsNumberOf c.args.world.now c.args.places.now.items c.args.new_places.now c.args.unit c.args.id c.args.name v c.offset_number.result) (sym c.in-Offset.is) (c.offset_number.ensures.number c.args.places.now.items)
