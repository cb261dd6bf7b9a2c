use Rattle.std.proofs.Common.{subst}
use Rattle.std.specs.Prelude.{Some}
use Rattle.value_links.specs.declared.operations.OpLink.{OpLink}
use Rattle.value_links.specs.Links.{IsOpLinkFound}
use Rattle.rewriter.proofs.NamedSpots.{entry_found, none_found}
use Rattle.rewriter.proofs.spots.op_spot.Goals as goal

pub returns-in-Entry : goal.returns-in-Entry
returns-in-Entry c =
    let is = c.requires.world.1 in
    let found = subst (λ (z : OpLink). IsOpLinkFound is.r.links c.args.unit c.args.op.now (Some z)) c.in-Entry.is (c.in-Some.ensures c.args.world.now.image is.r is.holds) in
    entry_found c.args.world.now.image c.args.world.now is.r c.args.unit c.args.op.now is.holds c.requires.slot _ c.in-Entry.id found

pub returns-in_default : goal.returns-in_default
returns-in_default c =
    let is = c.requires.world.1 in
    none_found c.args.world.now.image c.args.world.now is.r c.args.unit c.args.op.now is.holds c.requires.slot c.in-Some.link (c.in-Some.ensures c.args.world.now.image is.r is.holds) c.in_default.not-Entry
