use Rattle.std.proofs.Common.{◌∙◌, List, ap, arith, sym}
use Rattle.form_codec.specs.declared.value.Value.{Value}
use Rattle.entry_arena.specs.Arena.{value_at}
use Rattle.entry_arena.proofs.HeldValues.{kind_inside, other_inside, value_here}
use Rattle.entry_arena.proofs.values.Values.value.Goals as goal

pub index-requires : goal.index-requires
index-requires c =
    let inside = kind_inside c.self.inside.kinds.items c.self.inside.numbers.items c.self.inside.others.items c.args.self.now c.args.number c.self.invariant c.self.view_is c.requires in
    omega arith

pub index-requires-2 : goal.index-requires-2
index-requires-2 c =
    let inside = kind_inside c.self.inside.kinds.items c.self.inside.numbers.items c.self.inside.others.items c.args.self.now c.args.number c.self.invariant c.self.view_is c.requires in
    omega arith

pub widened-requires : goal.widened-requires
widened-requires c = λ other.
    let inside = kind_inside c.self.inside.kinds.items c.self.inside.numbers.items c.self.inside.others.items c.args.self.now c.args.number c.self.invariant c.self.view_is c.requires in
    let named = other_inside c.self.inside.kinds.items c.self.inside.numbers.items c.self.inside.others.items c.args.number c.index.result.now c.index-2.result.now c.self.invariant inside (sym c.index.ensures ∙ other) in
    rw (c.deref.ensures.value, c.index-2.ensures) named

pub returns : goal.returns
returns c =
    let inside = kind_inside c.self.inside.kinds.items c.self.inside.numbers.items c.self.inside.others.items c.args.self.now c.args.number c.self.invariant c.self.view_is c.requires in
    let here = value_here c.self.inside.kinds.items c.self.inside.numbers.items c.self.inside.others.items c.args.number c.index.result.now c.index-2.result.now c.self.invariant.paired inside in
    let held = ap (λ (vs : List Value). value_at vs c.args.number) c.self.view_is in
    cc (c.widened.ensures, c.deref.ensures.value, c.index.ensures, c.index-2.ensures, here, held)
