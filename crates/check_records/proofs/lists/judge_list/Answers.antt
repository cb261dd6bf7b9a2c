use Rattle.std.proofs.Common.{◌≡◌, ◌∙◌, ◌≤◌, ℕ, List, length, map, get_or, sym, ap, subst}
use Rattle.std.specs.Prelude.{◌↔◌, IfOk, IfSome, IsNone}
use Rattle.std.proofs.lemmas.Option.{same_Some}
use Rattle.list_least.specs.declared.map.AddressMap.{AddressMap}
use Rattle.list_least.specs.Maps.{IsMapOf}
use Rattle.list_model.specs.declared.item.Item.{Item}
use Rattle.list_model.specs.Items.{HasTable}
use Rattle.list_lookup.proofs.AddressTables.{context_table}
use Rattle.list_model.specs.Potentials.{AcceptsList}
use Rattle.list_least.specs.Plans.{bounds_of}
use Rattle.check_lists.specs.Refused.{IsFirstRefused}
use Rattle.list_arena.specs.Held.{HeldList}
use Rattle.value_links.specs.Sections.{debug_addr, addr_name}
use Rattle.value_links.specs.World.{lists_held}
use Rattle.value_links.proofs.WorldLaws.{bytes_are}
use Rattle.check_records.proofs.JudgedLists.{holds_list, held_stands, owner_there, owner_known, few_held, context_known, verdicts_of}
use Rattle.check_records.proofs.lists.judge_list.Goals.{in_default-via-in-Live+in_default, in_default-via-in_default}
use Rattle.check_records.proofs.lists.judge_list.Goals as goal

pub unreachable-requires : goal.unreachable-requires
unreachable-requires c =
    let held = holds_list c.args.written.now c.requires.world.0 c.requires.world.1 c.args.kind c.args.number c.requires.known c.lists.result.now c.lists.ensures.lists c.in_ok-list.list (c.in_ok-list.ensures c.in_ok-list.list) in
    let there : c.in_ok-list.list ≡ get_or (lists_held c.args.written.now c.args.kind) c.args.number c.in_ok-list.list = c.in_ok-list.ensures c.in_ok-list.list ∙ ap (λ (z : List HeldList). get_or z c.args.number c.in_ok-list.list) c.lists.ensures.lists in
    elim c.in_default.branch [
      | in_default-via-in-Live+in_default w ↦ owner_there c.args.written.now c.requires.world.0 c.requires.world.1 c.args.kind c.args.number c.requires.known c.in_ok-list.list held w.in_default.field-0-0 (sym c.meaning.ensures ∙ w.in_default.is-0) (sym c.owner.ensures ∙ w.in_default.is-1)
      | in_default-via-in_default w ↦ c.requires.live c.in_ok-list.list (ap (λ (z : HeldList). z.meaning) (sym there) ∙ sym c.meaning.ensures ∙ w.in_default.is-0)
    ]

pub context-context-requires : goal.context-context-requires
context-context-requires c =
    let held = holds_list c.args.written.now c.requires.world.0 c.requires.world.1 c.args.kind c.args.number c.requires.known c.lists.result.now c.lists.ensures.lists c.in_ok-list.list (c.in_ok-list.ensures c.in_ok-list.list) in
    owner_known c.args.written.now c.requires.world.0 c.requires.world.1 c.args.kind c.args.number c.requires.known c.in_ok-list.list held c.in-Live-Some.items (sym c.meaning.ensures ∙ c.in-Live-Some.is-0) c.in-Live-Some.owner (sym c.owner.ensures ∙ c.in-Live-Some.is-1)

pub bare_size-size-requires : goal.bare_size-size-requires
bare_size-size-requires c =
    let held = holds_list c.args.written.now c.requires.world.0 c.requires.world.1 c.args.kind c.args.number c.requires.known c.lists.result.now c.lists.ensures.lists c.in_ok-list.list (c.in_ok-list.ensures c.in_ok-list.list) in
    held_stands c.args.written.now c.requires.world.0 c.requires.world.1 c.args.kind c.args.number c.requires.known c.in_ok-list.list held c.lists_section.result.now c.lists_section.ensures

pub of-requires : goal.of-requires
of-requires c =
    let held = holds_list c.args.written.now c.requires.world.0 c.requires.world.1 c.args.kind c.args.number c.requires.known c.lists.result.now c.lists.ensures.lists c.in_ok-list.list (c.in_ok-list.ensures c.in_ok-list.list) in
    let known = context_known c.args.written.now c.requires.world.0 c.requires.world.1 c.args.kind c.args.number c.requires.known c.in_ok-list.list held c.in-Live-Some.items (sym c.meaning.ensures ∙ c.in-Live-Some.is-0) c.in-Live-Some.owner (sym c.owner.ensures ∙ c.in-Live-Some.is-1) c.context-context.result c.context-context.ensures in
    (c.args.written.now, debug_addr c.args.written.now.image, c.requires.maps, known)

pub accept_list-requires-clause-table : goal.accept_list-requires-clause-table
accept_list-requires-clause-table c =
    let held = holds_list c.args.written.now c.requires.world.0 c.requires.world.1 c.args.kind c.args.number c.requires.known c.lists.result.now c.lists.ensures.lists c.in_ok-list.list (c.in_ok-list.ensures c.in_ok-list.list) in
    let known = context_known c.args.written.now c.requires.world.0 c.requires.world.1 c.args.kind c.args.number c.requires.known c.in_ok-list.list held c.in-Live-Some.items (sym c.meaning.ensures ∙ c.in-Live-Some.is-0) c.in-Live-Some.owner (sym c.owner.ensures ∙ c.in-Live-Some.is-1) c.context-context.result c.context-context.ensures in
    let addr : c.section-addr.result.now ≡ debug_addr c.args.written.now.image = bytes_are c.args.written.now.image c.as_slice.result.now addr_name c.section-addr.result.now c.as_slice.ensures c.section-addr.ensures in
    subst (λ (z : List ℕ). HasTable z c.context-context.result.table) (sym addr) (context_table c.args.written.now c.requires.world.0 c.requires.world.1 c.context-context.result known)

pub accept_list-requires-clause-mapped : goal.accept_list-requires-clause-mapped
accept_list-requires-clause-mapped c indexes is =
    let held = holds_list c.args.written.now c.requires.world.0 c.requires.world.1 c.args.kind c.args.number c.requires.known c.lists.result.now c.lists.ensures.lists c.in_ok-list.list (c.in_ok-list.ensures c.in_ok-list.list) in
    let known = context_known c.args.written.now c.requires.world.0 c.requires.world.1 c.args.kind c.args.number c.requires.known c.in_ok-list.list held c.in-Live-Some.items (sym c.meaning.ensures ∙ c.in-Live-Some.is-0) c.in-Live-Some.owner (sym c.owner.ensures ∙ c.in-Live-Some.is-1) c.context-context.result c.context-context.ensures in
    let addr : c.section-addr.result.now ≡ debug_addr c.args.written.now.image = bytes_are c.args.written.now.image c.as_slice.result.now addr_name c.section-addr.result.now c.as_slice.ensures c.section-addr.ensures in
    let there : IsMapOf (debug_addr c.args.written.now.image) c.context-context.result.table indexes = subst (λ (z : AddressMap). IsMapOf (debug_addr c.args.written.now.image) c.context-context.result.table z) (same_Some c.of.result.now indexes is) (c.of.ensures c.args.written.now (debug_addr c.args.written.now.image) c.requires.maps known) in
    subst (λ (z : List ℕ). IsMapOf z c.context-context.result.table indexes) (sym addr) there

pub accept_list-requires-clause-few : goal.accept_list-requires-clause-few
accept_list-requires-clause-few c =
    let held = holds_list c.args.written.now c.requires.world.0 c.requires.world.1 c.args.kind c.args.number c.requires.known c.lists.result.now c.lists.ensures.lists c.in_ok-list.list (c.in_ok-list.ensures c.in_ok-list.list) in
    let few = few_held c.args.written.now c.requires.world.0 c.requires.world.1 c.args.kind c.args.number c.requires.known c.in_ok-list.list held c.in-Live-Some.items (sym c.meaning.ensures ∙ c.in-Live-Some.is-0) c.in-Live-Some.owner (sym c.owner.ensures ∙ c.in-Live-Some.is-1) in
    subst (λ (z : List Item). length z ≤ 16384) (sym c.as_slice-2.ensures) few

pub returns : goal.returns
returns c =
    let held = holds_list c.args.written.now c.requires.world.0 c.requires.world.1 c.args.kind c.args.number c.requires.known c.lists.result.now c.lists.ensures.lists c.in_ok-list.list (c.in_ok-list.ensures c.in_ok-list.list) in
    let addr : c.section-addr.result.now ≡ debug_addr c.args.written.now.image = bytes_are c.args.written.now.image c.as_slice.result.now addr_name c.section-addr.result.now c.as_slice.ensures c.section-addr.ensures in
    verdicts_of c.args.written.now c.requires.world.0 c.requires.world.1 c.args.kind c.args.number c.requires.known c.in_ok-list.list held c.in-Live-Some.items (sym c.meaning.ensures ∙ c.in-Live-Some.is-0) c.in-Live-Some.owner (sym c.owner.ensures ∙ c.in-Live-Some.is-1) c.context-context.result c.context-context.ensures
    c.section-addr.result.now addr c.lists_section.result.now c.lists_section.ensures c.bare_size-size.result c.bare_size-size.ensures c.accept_list.result c.args.potentials.now
    (subst (λ (z : List Item). IfOk c.accept_list.result (λ refused. IsNone refused ↔ AcceptsList c.section-addr.result.now c.context-context.result (map bounds_of z) c.args.potentials.now c.bare_size-size.result)) c.as_slice-2.ensures c.accept_list.ensures.accepted)
    (subst (λ (z : List Item). IfOk c.accept_list.result (λ refused. IfSome refused (IsFirstRefused c.section-addr.result.now c.context-context.result (map bounds_of z) c.args.potentials.now c.bare_size-size.result))) c.as_slice-2.ensures c.accept_list.ensures.first)
