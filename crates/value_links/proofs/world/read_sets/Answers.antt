use Rattle.std.proofs.Common.{◌≡◌, ◌<◌, ◌^◌, ◌∙◌, ℕ, List, length, sym, ap, subst}
use Rattle.std.proofs.lemmas.Result.{IfOk-weaker, IfErr-weaker}
use Rattle.dw_base.specs.declared.fault.Reach.{Reach}
use Rattle.dw_base.specs.Refusals.{IsFaultOf, IsRefusedFor}
use Rattle.companions.specs.Aranges.{AreRising, SetsTile}
use Rattle.companions.specs.Faults.{FaultSets}
use Rattle.value_links.specs.Sections.{offset_named, debug_aranges, aranges_name}
use Rattle.value_links.specs.inside.Passes.{starts_of, NamesLaterFault}
use Rattle.value_links.proofs.WorldLaws.{bytes_are, origin_is, few_starts, starts_rising, sets_refused}
use Rattle.value_links.proofs.world.read_sets.Goals as goal

pub read_aranges-requires-clause-few : goal.read_aranges-requires-clause-few
read_aranges-requires-clause-few c =
    let starts : c.in_ok-starts.starts.items ≡ starts_of c.args.parts.now.units.units.items = c.in_ok-starts.ensures ∙ ap starts_of c.deref.ensures.value in
    subst (λ (z : List ℕ). length z < 2 ^ 32) (sym starts) (few_starts c.args.file.now c.args.parts.now c.requires.parts.2)

pub read_aranges-requires-clause-rising : goal.read_aranges-requires-clause-rising
read_aranges-requires-clause-rising c =
    let starts : c.in_ok-starts.starts.items ≡ starts_of c.args.parts.now.units.units.items = c.in_ok-starts.ensures ∙ ap starts_of c.deref.ensures.value in
    subst AreRising (sym starts) (starts_rising c.args.file.now c.args.parts.now c.requires.parts.2)

pub returns-clause-sets : goal.returns-clause-sets
returns-clause-sets c =
    let aranges = c.debug_section-aranges in
    let starts : c.in_ok-starts.starts.items ≡ starts_of c.args.parts.now.units.units.items = c.in_ok-starts.ensures ∙ ap starts_of c.deref.ensures.value in
    let bytes : aranges.result.bytes.now ≡ debug_aranges c.args.file.now = bytes_are c.args.file.now c.as_slice.result.now aranges_name aranges.result.bytes.now c.as_slice.ensures aranges.ensures.bytes in
    IfOk-weaker c.read_aranges.result (λ sets. SetsTile aranges.result.bytes.now c.in_ok-starts.starts.items sets.items) (λ sets. SetsTile (debug_aranges c.args.file.now) (starts_of c.args.parts.now.units.units.items) sets.items) (λ sets tiled. subst (λ (z : List ℕ). SetsTile z (starts_of c.args.parts.now.units.units.items) sets.items) bytes (subst (λ (z : List ℕ). SetsTile aranges.result.bytes.now z sets.items) starts tiled)) c.read_aranges.ensures.tiled

pub returns-clause-refused : goal.returns-clause-refused
returns-clause-refused c =
    let aranges = c.debug_section-aranges in
    let starts : c.in_ok-starts.starts.items ≡ starts_of c.args.parts.now.units.units.items = c.in_ok-starts.ensures ∙ ap starts_of c.deref.ensures.value in
    let bytes : aranges.result.bytes.now ≡ debug_aranges c.args.file.now = bytes_are c.args.file.now c.as_slice.result.now aranges_name aranges.result.bytes.now c.as_slice.ensures aranges.ensures.bytes in
    let origin : aranges.result.origin ≡ offset_named c.args.file.now aranges_name = origin_is c.args.file.now c.as_slice.result.now aranges_name aranges.result.origin c.as_slice.ensures aranges.ensures.origin in
    IfErr-weaker c.read_aranges.result (IsRefusedFor (IsFaultOf (FaultSets aranges.result.bytes.now c.in_ok-starts.starts.items) aranges.result.origin)) (λ refusal. (reach : Reach) → NamesLaterFault c.args.file.now reach refusal) (λ refusal f. sets_refused c.args.file.now c.args.parts.now c.requires.parts.2 refusal (subst (λ (z : List ℕ). IsRefusedFor (IsFaultOf (FaultSets z (starts_of c.args.parts.now.units.units.items)) (offset_named c.args.file.now aranges_name)) refusal) bytes (subst (λ (z : List ℕ). IsRefusedFor (IsFaultOf (FaultSets aranges.result.bytes.now z) (offset_named c.args.file.now aranges_name)) refusal) starts (subst (λ (o : ℕ). IsRefusedFor (IsFaultOf (FaultSets aranges.result.bytes.now c.in_ok-starts.starts.items) o) refusal) origin f)))) c.read_aranges.ensures.fault
