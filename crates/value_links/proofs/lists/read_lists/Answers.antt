use Rattle.std.proofs.Common.{◌≡◌, ◌≤◌, ◌<◌, ◌+◌, ◌^◌, ◌++◌, ◌∷◌, ℕ, List, [], length, sym, subst, arith}
use Rattle.std.proofs.lemmas.Result.{err_from_is_err_and}
use Rattle.dw_base.specs.declared.fault.Reach.{Reach}
use Rattle.dw_base.specs.Refusals.{IsFaultOf, IsRefusedFor}
use Rattle.list_model.specs.declared.entry.ListKind.{ListKind}
use Rattle.list_model.specs.declared.entry.RawEntry.{RawEntry}
use Rattle.list_arena.specs.Held.{HeldList}
use Rattle.value_links.specs.declared.lists.ListTotals.{ListTotals}
use Rattle.value_links.specs.declared.parts.Parts.{Parts}
use Rattle.value_links.specs.Reading.{ListSection, ListRead, Linkable}
use Rattle.value_links.specs.ListFaults.{FaultOfKind, AreEarlier}
use Rattle.value_links.specs.Lists.{AreListsOf, AreWithinReach}
use Rattle.value_links.specs.Parts.{HoldsParts, lists_in, section_held}
use Rattle.value_links.specs.World.{HoldLists}
use Rattle.value_links.specs.inside.Checks.{InEach}
use Rattle.value_links.specs.inside.Namings.{FaultSlots, IsSomeNaming, AreInOrder}
use Rattle.value_links.specs.inside.ListExpressions.{FaultExpressionsBy}
use Rattle.value_links.specs.inside.NamedLists.{FaultNamed, IsReadBy, AreCounted, IsNextTotal, no_totals, AreReadUpTo, AreExprsReadIn, AreExprsReadUpTo, IsNext}
use Rattle.value_links.proofs.TabledUnits.{some_few}
use Rattle.value_links.proofs.ListBytes.{refused_for}
use Rattle.value_links.proofs.ListGroups.{named_order, named_all, one_more}
use Rattle.value_links.proofs.ListLaws.{lists_are, named_fault, expression_fault, exprs_more, slot_is}
use Rattle.value_links.proofs.lists.read_lists.Goals as goal

pub returns-in_err-namings-clause-fault : goal.returns-in_err-namings-clause-fault
returns-in_err-namings-clause-fault c =
    let p = err_from_is_err_and c.from_residual.result c.from_residual.ensures.1 in
    rw (p.1, p.2) (λ (file : List ℕ) (r : Linkable) (earlier : List ListRead) (holds : HoldsParts file r c.args.parts.now) (other : AreEarlier r c.args.kind earlier) (counted : AreCounted no_totals earlier c.args.before.now).
    refused_for (FaultSlots (section_held (lists_in c.args.parts.now c.args.kind))) (FaultOfKind r c.args.reach c.args.kind) (λ cause place f. slot_is r c.args.reach c.args.kind cause place (subst (λ (z : ListSection). FaultSlots z cause place) (holds.lists c.args.kind) f)) c.args.origin c.in_err-namings.field-0.0 c.in_err-namings.ensures.fault)

pub read_named-requires-clause-order : goal.read_named-requires-clause-order
read_named-requires-clause-order c =
    let namings : List (ℕ × ℕ) = c.in_ok-namings.namings.items in
    let inside : c.loop-from.from < length namings = omega (arith, c.in_ok-namings.namings.ok.0, c.len.ensures, c.loop-from-test.true) in
    named_order namings c.in_ok-namings.ensures.order c.loop-from.from inside c.next_named-named.result.now (subst (λ (z : List (ℕ × ℕ)). IsNext z c.loop-from.from c.next_named-named.result.now) c.deref.ensures.value c.next_named-named.ensures)

pub read_named-requires-clause-few : goal.read_named-requires-clause-few
read_named-requires-clause-few c = some_few c.args.parts.now.units (c.args.info.now, c.args.abbrevs.now, c.requires.held)

pub returns-in_err-counted-clause-fault : goal.returns-in_err-counted-clause-fault
returns-in_err-counted-clause-fault c =
    let parts = c.args.parts.now in
    let namings : List (ℕ × ℕ) = c.in_ok-namings.namings.items in
    let named : List (ℕ × ℕ) = c.next_named-named.result.now in
    let inside : c.loop-from.from < length namings = omega (arith, c.in_ok-namings.namings.ok.0, c.len.ensures, c.loop-from-test.true) in
    let next : IsNext namings c.loop-from.from named = subst (λ (z : List (ℕ × ℕ)). IsNext z c.loop-from.from named) c.deref.ensures.value c.next_named-named.ensures in
    let few : length parts.units.units.items < 2 ^ 32 = some_few parts.units (c.args.info.now, c.args.abbrevs.now, c.requires.held) in
    let p = err_from_is_err_and c.from_residual-in_err-counted.result c.from_residual-in_err-counted.ensures.1 in
    rw (p.1, p.2) (λ (file : List ℕ) (r : Linkable) (earlier : List ListRead) (holds : HoldsParts file r c.args.parts.now) (other : AreEarlier r c.args.kind earlier) (counted : AreCounted no_totals earlier c.args.before.now).
    refused_for (FaultNamed c.args.kind (section_held (lists_in c.args.parts.now c.args.kind)) c.args.parts.now.contexts.items named c.args.reach c.loop-from.totals) (FaultOfKind r c.args.reach c.args.kind) (named_fault file r c.args.parts.now holds c.args.kind namings (c.in_ok-namings.ensures.all file r holds) few c.args.reach c.args.before.now c.loop-from.from c.loop-from.lists c.loop-from.totals c.loop-from.invariant.up c.in_ok-namings.ensures.order inside named next earlier other counted) c.args.origin c.in_err-counted.field-0.0 c.in_err-counted.ensures.fault)

pub check_kind-requires-clause-named : goal.check_kind-requires-clause-named
check_kind-requires-clause-named c =
    let parts = c.args.parts.now in
    let namings : List (ℕ × ℕ) = c.in_ok-namings.namings.items in
    let named : List (ℕ × ℕ) = c.next_named-named.result.now in
    let inside : c.loop-from.from < length namings = omega (arith, c.in_ok-namings.namings.ok.0, c.len.ensures, c.loop-from-test.true) in
    let next : IsNext namings c.loop-from.from named = subst (λ (z : List (ℕ × ℕ)). IsNext z c.loop-from.from named) c.deref.ensures.value c.next_named-named.ensures in
    named_all namings c.in_ok-namings.ensures.order c.loop-from.from inside named next (IsSomeNaming (section_held (lists_in parts c.args.kind)) (length parts.units.units.items)) c.in_ok-namings.ensures.known

pub returns-in_err-check_kind-clause-fault : goal.returns-in_err-check_kind-clause-fault
returns-in_err-check_kind-clause-fault c =
    let parts = c.args.parts.now in
    let namings : List (ℕ × ℕ) = c.in_ok-namings.namings.items in
    let named : List (ℕ × ℕ) = c.next_named-named.result.now in
    let list : HeldList = c.in_ok-counted.counted.list in
    let inside : c.loop-from.from < length namings = omega (arith, c.in_ok-namings.namings.ok.0, c.len.ensures, c.loop-from-test.true) in
    let next : IsNext namings c.loop-from.from named = subst (λ (z : List (ℕ × ℕ)). IsNext z c.loop-from.from named) c.deref.ensures.value c.next_named-named.ensures in
    let few : length parts.units.units.items < 2 ^ 32 = some_few parts.units (c.args.info.now, c.args.abbrevs.now, c.requires.held) in
    let refusal = c.in_err-check_kind.field-0.0 in
    let fault = subst (λ (z : List RawEntry). InEach parts (λ r. IsRefusedFor (IsFaultOf (FaultExpressionsBy c.args.kind (lists_in parts c.args.kind).section.now named c.args.reach z r) c.args.origin) refusal)) c.entries-entries.ensures c.in_err-check_kind.ensures.fault in
    let p = err_from_is_err_and c.from_residual-in_err-check_kind.result c.from_residual-in_err-check_kind.ensures.1 in
    rw (p.1, p.2) (λ (file : List ℕ) (r : Linkable) (earlier : List ListRead) (holds : HoldsParts file r c.args.parts.now) (other : AreEarlier r c.args.kind earlier) (counted : AreCounted no_totals earlier c.args.before.now).
    refused_for (FaultExpressionsBy c.args.kind (lists_in c.args.parts.now c.args.kind).section.now named c.args.reach list.raw r) (FaultOfKind r c.args.reach c.args.kind) (expression_fault file r c.args.parts.now holds c.args.kind namings (c.in_ok-namings.ensures.all file r holds) few c.args.reach c.args.before.now c.loop-from.from c.loop-from.lists c.loop-from.totals c.loop-from.invariant.up c.in_ok-namings.ensures.order inside named next list c.in_ok-counted.ensures.read) c.args.origin refusal (fault file r holds))

-- with the list that these name, whatever its entries were called, all of the next round are read
module _ (parts : Parts) (kind : ListKind) (namings : List (ℕ × ℕ)) (order : AreInOrder namings) (reach : Reach) (before : ListTotals) (from : ℕ) (lists : List HeldList) (now : ListTotals) (up : AreReadUpTo kind (section_held (lists_in parts kind)) parts.addr.now parts.contexts.items namings reach before from lists now) (exprs : AreExprsReadUpTo parts kind namings reach lists) (inside : from < length namings) (named : List (ℕ × ℕ)) (next : IsNext namings from named) where
  next_read : (list : HeldList) → IsReadBy kind (section_held (lists_in parts kind)) parts.addr.now parts.contexts.items named list → (totals : ListTotals) → IsNextTotal reach now list.raw totals → (entries : List RawEntry) → entries ≡ list.raw → AreExprsReadIn parts kind named reach entries → (more : List HeldList) → more ≡ lists ++ list ∷ [] → AreReadUpTo kind (section_held (lists_in parts kind)) parts.addr.now parts.contexts.items namings reach before (from + length named) more totals × AreExprsReadUpTo parts kind namings reach more
  next_read list read totals total entries same here more is =
      let up_more = one_more namings order from inside named next kind (section_held (lists_in parts kind)) parts.addr.now parts.contexts.items reach before lists now up list read totals total in
      let exprs_read = exprs_more parts kind namings reach before from lists now up order inside named next list read.at (subst (AreExprsReadIn parts kind named reach) same here) exprs in (
        subst (λ (z : List HeldList). AreReadUpTo kind (section_held (lists_in parts kind)) parts.addr.now parts.contexts.items namings reach before (from + length named) z totals) (sym is) up_more,
        subst (AreExprsReadUpTo parts kind namings reach) (sym is) exprs_read,
      )

pub loop-from-preserved : goal.loop-from-preserved
loop-from-preserved c =
    let namings : List (ℕ × ℕ) = c.in_ok-namings.namings.items in
    let named : List (ℕ × ℕ) = c.next_named-named.result.now in
    let inside : c.loop-from.from < length namings = omega (arith, c.in_ok-namings.namings.ok.0, c.len.ensures, c.loop-from-test.true) in
    let next : IsNext namings c.loop-from.from named = subst (λ (z : List (ℕ × ℕ)). IsNext z c.loop-from.from named) c.deref.ensures.value c.next_named-named.ensures in
    let all = next_read c.args.parts.now c.args.kind namings c.in_ok-namings.ensures.order c.args.reach c.args.before.now c.loop-from.from c.loop-from.lists c.loop-from.totals c.loop-from.invariant.up c.loop-from.invariant.exprs inside named next c.in_ok-counted.counted.list c.in_ok-counted.ensures.read c.in_ok-counted.counted.totals c.in_ok-counted.ensures.totals c.entries-entries.result.now.items c.entries-entries.ensures c.in_ok-check_kind.ensures.read c.push.new.self c.in_ok-push.ensures.pushed in
    record { up = all.0; exprs = all.1 }

pub loop-from-preserved-in_ok-push : goal.loop-from-preserved-in_ok-push
loop-from-preserved-in_ok-push c =
    let namings : List (ℕ × ℕ) = c.in_ok-namings.namings.items in
    let named : List (ℕ × ℕ) = c.next_named-named.result.now in
    let inside : c.loop-from.from < length namings = omega (arith, c.in_ok-namings.namings.ok.0, c.len.ensures, c.loop-from-test.true) in
    let next : IsNext namings c.loop-from.from named = subst (λ (z : List (ℕ × ℕ)). IsNext z c.loop-from.from named) c.deref.ensures.value c.next_named-named.ensures in
    let all = next_read c.args.parts.now c.args.kind namings c.in_ok-namings.ensures.order c.args.reach c.args.before.now c.loop-from.from c.loop-from.lists c.loop-from.totals c.loop-from.invariant.up c.loop-from.invariant.exprs inside named next c.in_ok-counted.counted.list c.in_ok-counted.ensures.read c.in_ok-counted.counted.totals c.in_ok-counted.ensures.totals c.entries-entries.result.now.items c.entries-entries.ensures c.in_ok-check_kind.ensures.read c.push.new.self c.in_ok-push.ensures.pushed in
    record { up = all.0; exprs = all.1 }

pub returns-clause-lists : goal.returns-clause-lists
returns-clause-lists c = λ (file : List ℕ) (r : Linkable) (holds : HoldsParts file r c.args.parts.now).
    let namings : List (ℕ × ℕ) = c.in_ok-namings.namings.items in
    let few : length c.args.parts.now.units.units.items < 2 ^ 32 = some_few c.args.parts.now.units (c.args.info.now, c.args.abbrevs.now, c.requires.held) in
    let whole : length namings ≤ c.loop-from.from = omega (arith, c.in_ok-namings.namings.ok.0, c.len.ensures, c.loop-from-test.false) in
    subst (λ (z : List HeldList). (read : List ListRead) × AreListsOf r c.args.kind read × HoldLists r c.args.kind read z × AreCounted c.args.before.now read c.loop-from.totals × AreWithinReach r c.args.kind c.args.reach read) (sym c.shrink_to_fit.ensures)
    (lists_are file r c.args.parts.now holds c.args.kind namings (c.in_ok-namings.ensures.all file r holds) few c.args.reach c.args.before.now c.loop-from.from c.loop-from.lists c.loop-from.totals c.loop-from.invariant.up c.loop-from.invariant.exprs whole)
