use Rattle.std.proofs.Common.{◌≡◌, ◌<◌, List, length, sym, subst}
use Rattle.entry_read.specs.Units.{HeadAndForest}
use Rattle.value_links.specs.Links.{held_at}
use Rattle.same_meaning.specs.inside.Headers.{HasTypeEntry, MeansHeader}
use Rattle.same_meaning.proofs.UnitMeanings.{type_known, unit_held, header_meant}
use Rattle.same_meaning.proofs.headers.have_other_heads.Goals as goal

pub heads_differ-requires-clause-old : goal.heads_differ-requires-clause-old
heads_differ-requires-clause-old c =
    let a = c.args.before.now in
    let there : c.index.result.now ≡ held_at a.units c.args.unit = unit_held a c.requires.before c.units.result.now.items c.args.unit c.index.result.now c.units.ensures c.index.ensures (subst (λ (z : List HeadAndForest). c.args.unit < length z) (sym c.units.ensures) c.requires.known) in
    subst HasTypeEntry (sym there) (type_known a c.requires.before c.one_reading.ensures.reading c.args.unit c.requires.known)

pub heads_differ-requires-clause-new : goal.heads_differ-requires-clause-new
heads_differ-requires-clause-new c =
    let b = c.args.after.now in
    let there : c.index-2.result.now ≡ held_at b.units c.args.unit = unit_held b c.requires.after c.units-2.result.now.items c.args.unit c.index-2.result.now c.units-2.ensures c.index-2.ensures (subst (λ (z : List HeadAndForest). c.args.unit < length z) (sym c.units-2.ensures) c.requires.again) in
    subst HasTypeEntry (sym there) (type_known b c.requires.after c.one_reading.ensures.reading c.args.unit c.requires.again)

pub returns : goal.returns
returns c = λ meant other_meant means other x y x_is y_is.
    let a = c.args.before.now in
    let b = c.args.after.now in
    let there : c.index.result.now ≡ held_at a.units c.args.unit = unit_held a c.requires.before c.units.result.now.items c.args.unit c.index.result.now c.units.ensures c.index.ensures (subst (λ (z : List HeadAndForest). c.args.unit < length z) (sym c.units.ensures) c.requires.known) in
    let also : c.index-2.result.now ≡ held_at b.units c.args.unit = unit_held b c.requires.after c.units-2.result.now.items c.args.unit c.index-2.result.now c.units-2.ensures c.index-2.ensures (subst (λ (z : List HeadAndForest). c.args.unit < length z) (sym c.units-2.ensures) c.requires.again) in
    c.heads_differ.ensures x y
    (subst (λ (z : HeadAndForest). MeansHeader z x) (sym there) (header_meant a c.requires.before c.one_reading.ensures.reading meant means c.args.unit x x_is))
    (subst (λ (z : HeadAndForest). MeansHeader z y) (sym also) (header_meant b c.requires.after c.one_reading.ensures.reading other_meant other c.args.unit y y_is))
