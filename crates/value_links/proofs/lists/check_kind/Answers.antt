use Rattle.std.proofs.Common.{◌<◌, length, sym, subst, arith}
use Rattle.std.specs.Prelude.{IfErr, OnOk}
use Rattle.dw_base.specs.Refusals.{IsFaultOf, IsRefusedFor}
use Rattle.list_model.specs.declared.entry.ListKind.{ListKind}
use Rattle.value_links.specs.Reading.{ListSection}
use Rattle.value_links.specs.Parts.{lists_in, section_held}
use Rattle.value_links.specs.inside.Checks.{InEach}
use Rattle.value_links.specs.inside.ListExpressions.{FaultExpressionsBy}
use Rattle.value_links.specs.inside.Namings.{first_naming, IsSomeNaming}
use Rattle.value_links.specs.inside.NamedLists.{AreExprsReadIn}
use Rattle.value_links.proofs.HeldLists.{place_inside}
use Rattle.value_links.proofs.lists.check_kind.Goals as goal

pub check_expressions-requires-clause-here : goal.check_expressions-requires-clause-here
check_expressions-requires-clause-here c =
    let parts = c.args.parts.now in
    let section : ListSection = section_held (lists_in parts c.args.kind) in
    let first : IsSomeNaming section (length parts.units.units.items) (first_naming c.args.named.now) = c.requires.named 0 (0, 0) c.requires.some in
    let inside : (first_naming c.args.named.now).0 < length section.section = place_inside section first.begins.0 (first_naming c.args.named.now).0 (c.requires.lists.tiled c.args.kind) first.begins.1 in
    let there : (first_naming c.args.named.now).0 < length (lists_in parts c.args.kind).section.now = inside in
    let here : (first_naming c.args.named.now).0 < length parts.locations.section.now = subst (λ (z : ListKind). (first_naming c.args.named.now).0 < length (lists_in parts z).section.now) c.in-Locations.is there in
    omega arith

pub returns-in-Locations-clause-read : goal.returns-in-Locations-clause-read
returns-in-Locations-clause-read c = subst (λ (z : ListKind). OnOk c.check_expressions.result (AreExprsReadIn c.args.parts.now z c.args.named.now c.args.reach c.args.raw.now.items)) (sym c.in-Locations.is) c.check_expressions.ensures.read

pub returns-in-Locations-clause-fault : goal.returns-in-Locations-clause-fault
returns-in-Locations-clause-fault c = subst (λ (z : ListKind). IfErr c.check_expressions.result (λ refusal. InEach c.args.parts.now (λ r. IsRefusedFor (IsFaultOf (FaultExpressionsBy z (lists_in c.args.parts.now z).section.now c.args.named.now c.args.reach c.args.raw.now.items r) c.args.origin) refusal))) (sym c.in-Locations.is) c.check_expressions.ensures.fault
