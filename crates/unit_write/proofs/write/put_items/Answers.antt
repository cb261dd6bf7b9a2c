use Rattle.std.proofs.Common.{subst}
use Rattle.std.specs.Prelude.{Some, None}
use Rattle.entry_arena.specs.Arena.{Arena}
use Rattle.entry_read.specs.Units.{declarations_of, entries_at}
use Rattle.unit_write.specs.Moved.{new_values}
use Rattle.unit_write.specs.inside.Puts.{PutsEntry}
use Rattle.unit_write.specs.inside.Readings.{GoesOn}
use Rattle.unit_write.proofs.ItemLaws.{no_item, item_put, items_put, item_held}
use Rattle.unit_write.proofs.Standing.{whole_walk}
use Rattle.unit_write.proofs.write.put_items.Goals as goal

pub loop-next-init : goal.loop-next-init
loop-next-init c = record {
  put = no_item (PutsEntry c.args.decls.now c.args.specs.now c.args.numbers.now (new_values c.args.new.now) c.args.unit.now.forest) c.args.unit.now.forest c.new-items.result c.args.out.now.items c.new-items.ensures;
}

pub put_next-requires-clause-inside : goal.put_next-requires-clause-inside
put_next-requires-clause-inside c =
    let unit = c.args.unit.now in
    let f = unit.forest in
    let table = c.args.decls.now in
    let held = c.requires.writable.held in
    let goes = subst (λ (g : Arena). GoesOn g c.loop-next.items c.next.new.self (Some c.in-Some.next)) c.forest.ensures c.in-Some.ensures.next in
    item_held (PutsEntry c.args.decls.now c.args.specs.now c.args.numbers.now (new_values c.args.new.now) f) f c.loop-next.items c.next.new.self c.in-Some.next c.args.out.now.items c.loop-next.out.items held.values (declarations_of table) (entries_at unit.head) held.held.0 goes c.loop-next.invariant.put (whole_walk unit table held)

pub loop-next-preserved : goal.loop-next-preserved
loop-next-preserved c =
    let f = c.args.unit.now.forest in
    let goes = subst (λ (g : Arena). GoesOn g c.loop-next.items c.next.new.self (Some c.in-Some.next)) c.forest.ensures c.in-Some.ensures.next in
    record {
      put = item_put (PutsEntry c.args.decls.now c.args.specs.now c.args.numbers.now (new_values c.args.new.now) f) f c.loop-next.items c.next.new.self c.in-Some.next c.args.out.now.items c.loop-next.out.items c.put_next.new.out.items goes c.loop-next.invariant.put c.in_ok-put_next.ensures.ok;
    }

pub returns-clause-ok : goal.returns-clause-ok
returns-clause-ok c =
    let f = c.args.unit.now.forest in
    let goes = subst (λ (g : Arena). GoesOn g c.loop-next.items c.next.new.self None) c.forest.ensures c.in_default.ensures.next in
    items_put (PutsEntry c.args.decls.now c.args.specs.now c.args.numbers.now (new_values c.args.new.now) f) f c.loop-next.items c.next.new.self c.args.out.now.items c.loop-next.out.items goes c.loop-next.invariant.put

pub returns-clause-grows : goal.returns-clause-grows
returns-clause-grows c = (c.loop-next.invariant.put.bytes, c.loop-next.invariant.put.out)
