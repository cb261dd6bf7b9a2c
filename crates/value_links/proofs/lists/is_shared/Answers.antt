use Rattle.std.proofs.Common.{◌≡◌, ◌≢◌, ℕ, List, get_or, subst}
use Rattle.std.specs.Prelude.{Some, None}
use Rattle.std.proofs.lemmas.Result.{err_from_is_err_and}
use Rattle.std.proofs.lemmas.List.{get_or_default, take_all}
use Rattle.std.proofs.lemmas.List.Elements.{Contains-get_or}
use Rattle.list_model.specs.declared.context.Context.{Context}
use Rattle.list_model.specs.declared.entry.ListKind.{ListKind}
use Rattle.list_model.specs.Items.{FaultIndexes}
use Rattle.value_links.specs.inside.Namings.{slot_number}
use Rattle.value_links.specs.inside.NamedLists.{AreLookedUpBy, IsOtherContext, IsNextContext, FaultLookingBy, context_held}
use Rattle.value_links.proofs.ListBytes.{refused_for}
use Rattle.value_links.proofs.ListContexts.{walked_none, walked_some}
use Rattle.value_links.proofs.lists.is_shared.Goals.{in-Some, in_default}
use Rattle.value_links.proofs.lists.is_shared.Goals as goal

pub returns-in_err-context-clause-fault : goal.returns-in_err-context-clause-fault
returns-in_err-context-clause-fault c =
    let named : List (ℕ × ℕ) = c.args.named.now in
    let x : ℕ × ℕ = get_or named c.loop-i.i (0, 0) in
    let of : ListKind = c.args.kind in
    let contexts : List Context = c.args.parts.now.contexts.items in
    let raws = c.args.raw.now.items in
    let p = err_from_is_err_and c.from_residual.result c.from_residual.ensures.1 in
    rw (p.1, p.2) (refused_for (λ kind place. (x.1 ≢ slot_number) × FaultIndexes of (context_held contexts x.1) raws kind place) (FaultLookingBy of contexts named raws) (λ kind place (real, f). (x.1, (real, (x.0, Contains-get_or named c.loop-i.i (0, 0) c.loop-i-test.true)), f)) c.args.origin c.in_err-context.field-0.0 c.in_err-context.ensures.fault)

pub loop-i-preserved : goal.loop-i-preserved
loop-i-preserved c =
    let named : List (ℕ × ℕ) = c.args.named.now in
    let addr = c.args.parts.now.addr.now in
    let of : ListKind = c.args.kind in
    let contexts : List Context = c.args.parts.now.contexts.items in
    let raws = c.args.raw.now.items in
    let i : ℕ = c.loop-i.i in
    let x : ℕ × ℕ = get_or named i (0, 0) in
    let is : x ≡ get_or named i x = get_or_default named i (0, 0) x c.loop-i-test.true in
    elim c.match-branch-2.branch [
      | in-Some w ↦
          let next : IsNextContext of addr contexts raws x.1 c.loop-i.last (Some w.in-Some.context) = subst (IsNextContext of addr contexts raws x.1 c.loop-i.last) w.in-Some.is c.in_ok-context.ensures.next in
          rw (w.shared-is, w.last-is) (walked_some of addr contexts named raws c.args.owned.now i c.loop-i-test.true x is c.loop-i.shared c.loop-i.last w.in-Some.context next c.loop-i.invariant)
      | in_default w ↦
          let none : IsNextContext of addr contexts raws x.1 c.loop-i.last None = subst (IsNextContext of addr contexts raws x.1 c.loop-i.last) w.in_default.is c.in_ok-context.ensures.next in
          rw (w.shared-is, w.last-is) (walked_none of addr contexts named raws c.args.owned.now i c.loop-i-test.true x is c.loop-i.shared c.loop-i.last none c.loop-i.invariant)
    ]

pub returns-clause-looked : goal.returns-clause-looked
returns-clause-looked c = subst (λ (z : List (ℕ × ℕ)). AreLookedUpBy c.args.kind c.args.parts.now.addr.now c.args.parts.now.contexts.items z c.args.raw.now.items) (take_all c.loop-i.i c.args.named.now c.loop-i-test.false) c.loop-i.invariant.looked

pub returns-clause-shared : goal.returns-clause-shared
returns-clause-shared c = subst (λ (z : List (ℕ × ℕ)). IsOtherContext c.args.parts.now.contexts.items z c.args.owned.now c.loop-i.shared) (take_all c.loop-i.i c.args.named.now c.loop-i-test.false) c.loop-i.invariant.other
