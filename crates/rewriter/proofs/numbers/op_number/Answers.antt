use Rattle.std.proofs.Common.{sym, subst}
use Rattle.std.specs.Prelude.{Some}
use Rattle.expr_ops.specs.declared.names.Named.{Named}
use Rattle.value_links.specs.declared.operations.OpLink.{OpLink}
use Rattle.value_links.specs.Links.{IsOpLinkFound}
use Rattle.rewriter.specs.inside.Held.{IsEntryPlaced, IsCounted}
use Rattle.rewriter.proofs.OpNumbers.{entry_placed, reference_counted, reference_zero}
use Rattle.rewriter.proofs.numbers.op_number.Goals as goal

pub counted-requires : goal.counted-requires
counted-requires c =
    let world = c.args.world.now in
    let is = c.requires.world.1 in
    let found = subst (λ (z : OpLink). IsOpLinkFound is.r.links c.args.unit c.args.op.now (Some z)) c.in-Entry.is (c.in-Some.ensures world.image is.r is.holds) in
    record { placed = subst (λ (n : Named). IsEntryPlaced c.args.places.now.items c.args.unit n c.in-Entry.other c.in-Entry.id) (sym c.named_by.ensures) (entry_placed world.image world is.r c.args.places.now.items c.args.unit c.args.op.now c.in-Entry.other c.in-Entry.id is.holds c.requires.placed c.requires.unit found) }

pub returns-in-Entry-clause-number : goal.returns-in-Entry-clause-number
returns-in-Entry-clause-number c = λ file r target holds names.
    let found = subst (λ (z : OpLink). IsOpLinkFound r.links c.args.unit c.args.op.now (Some z)) c.in-Entry.is (c.in-Some.ensures file r holds) in
    reference_counted r.links c.args.places.now.items c.args.unit c.args.op.now c.in-Entry.other c.in-Entry.id c.counted.result found (subst (λ (n : Named). IsCounted c.args.places.now.items c.args.unit n c.in-Entry.other c.in-Entry.id c.counted.result) c.named_by.ensures c.counted.ensures.number)

pub returns-in_default-clause-number : goal.returns-in_default-clause-number
returns-in_default-clause-number c = λ file r target holds names.
    reference_zero r.links c.args.places.now.items c.args.unit c.args.op.now c.in-Some.link (c.in-Some.ensures file r holds) c.in_default.not-Entry

pub returns-in-None-clause-number : goal.returns-in-None-clause-number
returns-in-None-clause-number c = λ file r target holds names. absurd (c.in-None.ensures file r holds target names)
