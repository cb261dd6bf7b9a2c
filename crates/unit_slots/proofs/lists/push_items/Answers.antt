use Rattle.std.proofs.Common.{◌≡◌, ◌<◌, ◌+◌, ◌∙◌, true, false, length, get_or, take, sym, subst, arith}
use Rattle.std.proofs.lemmas.List.{get_or_default}
use Rattle.list_model.specs.declared.entry.RawEntry.{RawEntry}
use Rattle.loc_lists.specs.Locations.{is_item as counts_as_item}
use Rattle.unit_slots.specs.declared.StandingSlots.{StandingSlots}
use Rattle.unit_slots.specs.inside.Made.{IsBegun, AddsItems}
use Rattle.unit_slots.proofs.AddedLists.{no_raw, items_none, items_more, items_still, items_all}
use Rattle.unit_slots.proofs.lists.push_items.Goals.{then-is_item+in_ok-push_item, else-is_item}
use Rattle.unit_slots.proofs.lists.push_items.Goals as goal

pub loop-raw-init : goal.loop-raw-init
loop-raw-init c = record {
  begun = c.requires.begun;
  added = λ held own has. items_none c.args.unit.now held own c.args.section.now c.args.made.now.slots.items c.args.made.now.sizes.items;
}

pub loop-raw-preserved : goal.loop-raw-preserved
loop-raw-preserved c =
    let raws = c.args.raws.now in
    let i = c.loop-raw.raw-index in
    let unit = c.args.unit.now in
    let spots = c.args.spots.now in
    let section = c.args.section.now in
    let old = c.args.made.now in
    let mid = c.loop-raw.made in
    let raw : RawEntry = get_or c.args.raws.now c.loop-raw.raw-index no_raw in
    let inside : c.loop-raw.raw-index < length c.args.raws.now = c.loop-raw-test.true in
    let is : get_or c.args.raws.now c.loop-raw.raw-index no_raw ≡ get_or c.args.raws.now c.loop-raw.raw-index (get_or c.args.raws.now c.loop-raw.raw-index no_raw) = sym (get_or_default raws i raw no_raw inside) in
    elim c.if-is_item.branch [
      | then-is_item+in_ok-push_item w ↦
          let item : counts_as_item (get_or c.args.raws.now c.loop-raw.raw-index no_raw) ≡ true = sym c.is_item.ensures ∙ w.if-is_item.true in
          let new = w.push_item.new.made in
          record {
            begun = subst (λ (z : StandingSlots). IsBegun c.args.unit.now c.args.spots.now z.slots.items z.sizes.items) (sym w.made-is) w.in_ok-push_item.ensures.begun;
            added = λ held own has.
                subst (λ (z : StandingSlots). AddsItems c.args.unit.now held own c.args.section.now (take (c.loop-raw.raw-index + 1) c.args.raws.now) c.args.made.now.slots.items c.args.made.now.sizes.items z.slots.items z.sizes.items) (sym w.made-is)
                (items_more unit held own section raws i raw inside is old.slots.items mid.slots.items new.slots.items old.sizes.items mid.sizes.items new.sizes.items item (c.loop-raw.invariant.added held own has) (w.in_ok-push_item.ensures.added held own has));
          }
      | else-is_item w ↦
          let none : counts_as_item (get_or c.args.raws.now c.loop-raw.raw-index no_raw) ≡ false = sym c.is_item.ensures ∙ w.if-is_item.false in
          record {
            begun = subst (λ (z : StandingSlots). IsBegun c.args.unit.now c.args.spots.now z.slots.items z.sizes.items) (sym w.made-is) c.loop-raw.invariant.begun;
            added = λ held own has.
                subst (λ (z : StandingSlots). AddsItems c.args.unit.now held own c.args.section.now (take (c.loop-raw.raw-index + 1) c.args.raws.now) c.args.made.now.slots.items c.args.made.now.sizes.items z.slots.items z.sizes.items) (sym w.made-is)
                (items_still unit held own section raws i raw inside is old.slots.items mid.slots.items old.sizes.items mid.sizes.items none (c.loop-raw.invariant.added held own has));
          }
    ]

pub returns-clause-added : goal.returns-clause-added
returns-clause-added c = λ held own has.
    items_all c.args.unit.now held own c.args.section.now c.args.raws.now c.loop-raw.raw-index c.args.made.now.slots.items c.loop-raw.made.slots.items c.args.made.now.sizes.items c.loop-raw.made.sizes.items (omega (arith, c.loop-raw-test.false)) (c.loop-raw.invariant.added held own has)
