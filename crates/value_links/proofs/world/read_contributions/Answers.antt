use Rattle.std.proofs.Common.{◌<◌, ◌^◌, ℕ, List, length, subst, rules, arith}
use Rattle.dw_base.specs.Refusals.{IsFaultOf, IsRefusedFor}
use Rattle.list_model.specs.Faults.{FaultContributions}
use Rattle.value_links.specs.Sections.{offset_named, lists_name}
use Rattle.value_links.proofs.world.read_contributions.Goals as goal

pub returns-in_err-parts-clause-fault : goal.returns-in_err-parts-clause-fault
returns-in_err-parts-clause-fault c =
    let lists = c.lists_section-lists in
    let refusal = c.in_err-parts.field-0.0 in
    let refused = subst (λ (z : List ℕ). IsRefusedFor (IsFaultOf (FaultContributions z) (offset_named c.args.file.now (lists_name c.args.kind))) refusal) lists.ensures.bytes (subst (λ (o : ℕ). IsRefusedFor (IsFaultOf (FaultContributions lists.result.bytes.now) o) refusal) lists.ensures.origin c.in_err-parts.ensures.fault) in
    search (rules, refused)

pub returns-clause-section : goal.returns-clause-section
returns-clause-section c =
    let few : length c.in_ok-parts.parts.items < 2 ^ 32 = omega (arith, c.in_ok-parts.parts.ok.0, c.len.ensures, c.if-len-gt-MOST_CONTRIBUTIONS.false) in
    (c.lists_section-lists.ensures.bytes, record { tiled = c.in_ok-parts.ensures.tiled; few = few })
