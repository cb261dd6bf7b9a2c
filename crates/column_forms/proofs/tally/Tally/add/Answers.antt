use Rattle.std.proofs.Common.{◌<◌, ◌^◌, sym, subst, arith}
use Rattle.column_forms.specs.Tallies.{Tallying, IsTally}
use Rattle.column_forms.proofs.TallyLaws.{tally_more, shaped_constants, added_bounded, added_shaped}
use Rattle.column_forms.proofs.tally.Tally.add.Goals as goal

pub returns-clause-tally : goal.returns-clause-tally
returns-clause-tally c = λ section values h t.
    let inside = subst (λ (z : Tallying). IsTally section values z) (sym c.self.view_is) t in
    tally_more c.self.inside.name section c.args.value.now c.self.inside.constant c.self.inside.count values c.self.inside.candidates.items c.add_to.new.candidates.items (c.add_to.ensures c.self.inside.name) c.self.invariant.shaped h inside

pub add_to-requires-clause-shapes : goal.add_to-requires-clause-shapes
add_to-requires-clause-shapes c = shaped_constants c.self.inside.name c.self.inside.constant c.self.inside.candidates.items c.self.invariant.fits c.self.invariant.shaped

pub invariant_of-self : goal.invariant_of-self
invariant_of-self c =
    let v = c.args.value.now in
    let name = c.self.inside.name in
    let old = c.self.inside.candidates.items in
    let few : c.self.inside.count < 2 ^ 63 = subst (λ (z : Tallying). z.count < 2 ^ 63) (sym c.self.view_is) c.requires in
    let new = c.add_to.new.candidates.items in
    record {
      bounded = added_bounded name v c.self.inside.count old new (c.add_to.ensures name) c.self.invariant.bounded;
      shaped = added_shaped name c.self.inside.constant v old new (c.add_to.ensures name) c.self.invariant.shaped;
      fits = c.self.invariant.fits;
      some = omega arith;
      few = omega (arith, few);
    }
