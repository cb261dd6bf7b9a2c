use Rattle.std.proofs.Common.{◌≡◌, ◌<◌, ◌^◌, ◌∙◌, ℕ, List, length, get_or, sym, ap, subst, arith}
use Rattle.std.proofs.lemmas.List.{get_or_default}
use Rattle.list_model.specs.declared.entry.ListKind.TheVariants.{Locations}
use Rattle.list_model.specs.declared.entry.RawEntry.{RawEntry}
use Rattle.list_arena.specs.Held.{HeldList}
use Rattle.value_links.specs.Sections.{debug_lists}
use Rattle.unit_slots.specs.inside.Made.{AddsItems, ItemsStand}
use Rattle.unit_slots.proofs.AddedLists.{lists_none, lists_more, lists_all}
use Rattle.unit_slots.proofs.lists.push_lists.Goals as goal

-- a list as it is looked up
held_there : (held all : List HeldList) (k : ℕ) (list : HeldList) → all ≡ held → ((d : HeldList) → list ≡ get_or all k d) → list ≡ get_or held k list
held_there held all k list same told = told list ∙ ap (λ (z : List HeldList). get_or z k list) same

pub loop-number-init : goal.loop-number-init
loop-number-init c = record {
  begun = c.requires.begun;
  added = λ held own has. lists_none c.args.world.now c.args.unit.now held own c.args.made.now.slots.items c.args.made.now.sizes.items;
}

pub push_items-requires-clause-items : goal.push_items-requires-clause-items
push_items-requires-clause-items c =
    let world = c.args.world.now in
    let list = c.in_ok-list.list in
    let stand = c.requires.lists c.loop-number.number-index 0 c.loop-number-test.true in
    let list_is = held_there world.locations c.lists-all.result.now (get_or c.args.lists.now c.loop-number.number-index 0) list c.lists-all.ensures.lists c.in_ok-list.ensures in
    let items : ItemsStand c.args.unit.now (debug_lists world.image Locations) list.raw = subst (λ (z : HeldList). ItemsStand c.args.unit.now (debug_lists world.image Locations) z.raw) (sym list_is) (stand.1 list) in
    subst (ItemsStand c.args.unit.now c.section_of-section.result.now) (sym (c.deref.ensures.value ∙ c.entries.ensures)) (subst (λ (z : List ℕ). ItemsStand c.args.unit.now z list.raw) (sym c.section_of-section.ensures) items)

pub push_items-requires-clause-brief : goal.push_items-requires-clause-brief
push_items-requires-clause-brief c = subst (λ (z : List ℕ). length z < 2 ^ 32) (sym c.section_of-section.ensures) c.requires.brief

pub loop-number-preserved : goal.loop-number-preserved
loop-number-preserved c =
    let world = c.args.world.now in
    let unit = c.args.unit.now in
    let numbers = c.args.lists.now in
    let i = c.loop-number.number-index in
    let old = c.args.made.now in
    let mid = c.loop-number.made in
    let new = c.push_items.new.made in
    let list = c.in_ok-list.list in
    let inside : c.loop-number.number-index < length c.args.lists.now = c.loop-number-test.true in
    let stand = c.requires.lists c.loop-number.number-index 0 c.loop-number-test.true in
    let list_is = held_there world.locations c.lists-all.result.now (get_or c.args.lists.now c.loop-number.number-index 0) list c.lists-all.ensures.lists c.in_ok-list.ensures in
    let is : get_or c.args.lists.now c.loop-number.number-index 0 ≡ get_or c.args.lists.now c.loop-number.number-index (get_or c.args.lists.now c.loop-number.number-index 0) = sym (get_or_default numbers i (get_or c.args.lists.now c.loop-number.number-index 0) 0 inside) in
    record {
      begun = c.in_ok-push_items.ensures.begun;
      added = λ held own has.
          let adds : AddsItems c.args.unit.now held own (debug_lists world.image Locations) list.raw mid.slots.items mid.sizes.items new.slots.items new.sizes.items =
          subst (λ (z : List RawEntry). AddsItems c.args.unit.now held own (debug_lists world.image Locations) z mid.slots.items mid.sizes.items new.slots.items new.sizes.items) (c.deref.ensures.value ∙ c.entries.ensures)
          (subst (λ (z : List ℕ). AddsItems c.args.unit.now held own z c.deref.result.now mid.slots.items mid.sizes.items new.slots.items new.sizes.items) c.section_of-section.ensures (c.in_ok-push_items.ensures.added held own has)) in
          lists_more world unit held own numbers i (get_or c.args.lists.now c.loop-number.number-index 0) inside is list stand.0 list_is old.slots.items mid.slots.items new.slots.items old.sizes.items mid.sizes.items new.sizes.items (c.loop-number.invariant.added held own has) adds;
    }

pub returns : goal.returns
returns c = record {
  added = λ held own has. lists_all c.args.world.now c.args.unit.now held own c.args.lists.now c.loop-number.number-index c.args.made.now.slots.items c.loop-number.made.slots.items c.args.made.now.sizes.items c.loop-number.made.sizes.items (omega (arith, c.loop-number-test.false)) (c.loop-number.invariant.added held own has);
}
