use Rattle.std.proofs.Common.{◌<◌, ◌∙◌, length, slice_index, sym, ap, subst, arith}
use Rattle.std.proofs.lemmas.Grind.{common_steps}
use Rattle.std.proofs.lemmas.List.{get_or_read}
use Rattle.rewriter.specs.inside.Placed.{PlacesAnew}
use Rattle.rewriter.proofs.Links.{places_read}
use Rattle.rewriter.proofs.numbers.entry_place.Goals as goal

pub index-requires : goal.index-requires
index-requires c =
    let there = places_read c.args.places.now.items c.args.unit c.index-there.result.now c.requires.unit c.index-there.ensures in
    let inside : c.args.id < length c.index-there.result.now.entries.items = subst (λ (p : PlacesAnew). c.args.id < length p.entries) (sym there) c.requires.entry in
    grind (arith, common_steps, inside)

pub returns-clause-place : goal.returns-clause-place
returns-clause-place c =
    let there = places_read c.args.places.now.items c.args.unit c.index-there.result.now c.requires.unit c.index-there.ensures in
    let inside : c.args.id < length c.index-there.result.now.entries.items = subst (λ (p : PlacesAnew). c.args.id < length p.entries) (sym there) c.requires.entry in
    c.from.ensures ∙ get_or_read c.index-there.result.now.entries.items c.args.id c.index.result.now inside c.index.ensures 0 ∙ ap (λ (p : PlacesAnew). slice_index p.entries c.args.id) there
