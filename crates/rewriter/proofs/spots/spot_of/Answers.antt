use Rattle.std.proofs.Common.{◌<◌, ◌^◌, ◌∙◌, List, length, sym, ap, subst}
use Rattle.entry_arena.specs.declared.entry.ChainEnd.{ChainEnd}
use Rattle.entry_arena.specs.Arena.{Arena}
use Rattle.entry_read.specs.Units.{HeadAndForest}
use Rattle.rewriter.proofs.Links.{own_is}
use Rattle.rewriter.proofs.NamedSpots.{end_fits}
use Rattle.rewriter.proofs.spots.spot_of.Goals as goal

pub overflow_cast-result : goal.overflow_cast-result
overflow_cast-result c =
    let own = own_is c.args.world.now c.args.unit c.units.result.now.items c.index-own.result.now c.requires.unit c.units.ensures c.index-own.ensures in
    let read = c.forest.ensures ∙ ap (λ (h : HeadAndForest). h.forest) own in
    let inside : c.end_number.result < length c.forest.result.now.ends = subst (λ (z : List ChainEnd). c.end_number.result < length z) c.chain_ends.ensures.ends c.end_number.ensures.inside in
    let short : length c.forest.result.now.section < 2 ^ 32 = subst (λ (f : Arena). length f.section < 2 ^ 32) (sym read) c.requires.short in
    record { fits = end_fits c.forest.result.now c.end_number.result c.chain_ends.ensures.order short inside }
