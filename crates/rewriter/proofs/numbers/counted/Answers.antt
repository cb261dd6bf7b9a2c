use Rattle.std.proofs.Common.{◌≡◌, sym, ap, subst, arith}
use Rattle.expr_ops.specs.declared.names.Named.{Named}
use Rattle.rewriter.specs.inside.Placed.{PlacesAnew, places_at}
use Rattle.rewriter.specs.inside.Held.{IsCounted}
use Rattle.rewriter.proofs.Links.{places_read}
use Rattle.rewriter.proofs.OpNumbers.{counted_own}
use Rattle.rewriter.proofs.numbers.counted.Goals as goal

pub overflow_sub-result : goal.overflow_sub-result
overflow_sub-result c =
    let p = c.requires.placed in
    let own = places_read c.args.places.now.items c.args.unit c.index-own.result.now p.own c.index-own.ensures in
    let start : c.index-own.result.now.start ≡ (places_at c.args.places.now.items c.args.unit).start = ap (λ (z : PlacesAnew). z.start) own in
    let after = p.after c.in_default.not-SectionEntry in
    omega (arith, start, after, c.entry_place-place.ensures.place)

pub returns-in-SectionEntry-clause-number : goal.returns-in-SectionEntry-clause-number
returns-in-SectionEntry-clause-number c =
    subst (λ (n : Named). IsCounted c.args.places.now.items c.args.unit n c.args.other c.args.id c.entry_place-place.result) (sym c.in-SectionEntry.is) (sym c.entry_place-place.ensures.place)

pub returns-in_default-clause-number : goal.returns-in_default-clause-number
returns-in_default-clause-number c =
    let p = c.requires.placed in
    let own = places_read c.args.places.now.items c.args.unit c.index-own.result.now p.own c.index-own.ensures in
    let start : c.index-own.result.now.start ≡ (places_at c.args.places.now.items c.args.unit).start = ap (λ (z : PlacesAnew). z.start) own in
    let after = p.after c.in_default.not-SectionEntry in
    counted_own c.args.places.now.items c.args.unit c.args.named c.args.other c.args.id _ c.in_default.not-SectionEntry (omega (arith, start, after, c.entry_place-place.ensures.place))
