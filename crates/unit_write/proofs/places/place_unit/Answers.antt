use Rattle.std.proofs.Common.{◌≡◌, ◌≤◌, ◌<◌, ◌+◌, ◌∙◌, sym, ap, subst, refl, ℕ, List, Some, None, arith}
use Rattle.entry_arena.specs.Arena.{Arena}
use Rattle.entry_read.specs.declared.head.UnitHead.{UnitHead}
use Rattle.fixed_width.specs.InitialLengths.{least_reserved}
use Rattle.entry_read.specs.Heads.{header_size}
use Rattle.entry_read.specs.Units.{entries_at, declarations_of}
use Rattle.unit_write.specs.declared.items.Items.{Items}
use Rattle.unit_write.specs.Most.{most_bytes}
use Rattle.unit_write.specs.Moved.{IsPlacedAt}
use Rattle.unit_write.specs.inside.Readings.{GoesOn}
use Rattle.unit_write.proofs.PlacingUnit.{IsPlacing, placing_none, placing_most, placing_next, placing_room, placing_all}
use Rattle.unit_write.proofs.places.place_unit.Goals as goal

pub loop-next-init : goal.loop-next-init
loop-next-init c =
    let unit = c.args.unit.now in
    let end_is : c.args.start + c.header_size.result ≡ c.args.start + header_size unit.head.kind = ap (λ (z : ℕ). c.args.start + z) (c.header_size.ensures.size ∙ ap (λ (h : UnitHead). header_size h.kind) c.head.ensures) in
    subst (λ (z : Items). IsPlacing unit c.args.decls.now c.args.specs.now.items c.args.numbers.now.items c.args.lens.now.items c.args.start z (record { start = c.args.start; entries = c.new.result; ends = c.new-2.result; end = c.args.start + c.header_size.result })) (sym c.new-items.ensures)
    (placing_none unit c.args.decls.now c.args.specs.now.items c.args.numbers.now.items c.args.lens.now.items c.args.start _ c.requires.writable refl c.new.ensures.items c.new-2.ensures.items end_is)

pub loop-next-preserved : goal.loop-next-preserved
loop-next-preserved c =
    let unit = c.args.unit.now in
    let h = c.loop-next.invariant in
    let on = subst (λ (f : Arena). GoesOn f c.loop-next.items c.next.new.self (Some c.in-Some.next)) c.forest.ensures c.in-Some.ensures.next in
    let n = on h.values (declarations_of c.args.decls.now) (entries_at unit.head) h.place h.done h.now h.chains h.rest h.walked in
    placing_next unit c.args.decls.now c.args.specs.now.items c.args.numbers.now.items c.args.lens.now.items c.args.start c.loop-next.items c.next.new.self c.loop-next.places c.place_next.new.places c.in-Some.next h n c.requires.writable c.requires.lens c.numbers_are_small.ensures c.in_ok-place_next.ensures.put c.in_ok-place_next.ensures.start

pub returns-clause-placed : goal.returns-clause-placed
returns-clause-placed c =
    let unit = c.args.unit.now in
    let h = c.loop-next.invariant in
    let on = subst (λ (f : Arena). GoesOn f c.loop-next.items c.next.new.self None) c.forest.ensures c.in_default.ensures.next in
    let n = on h.values (declarations_of c.args.decls.now) (entries_at unit.head) h.place h.done h.now h.chains h.rest h.walked in
    let table = c.args.decls.now in
    let columns = c.args.specs.now.items in
    let numbers : List ℕ = c.args.numbers.now.items in
    let lens : List ℕ = c.args.lens.now.items in
    let ends : List ℕ = c.loop-next.places.ends.items in
    let end : ℕ = c.loop-next.places.end in
    let placed = placing_all unit table columns numbers lens c.args.start c.loop-next.items c.next.new.self c.loop-next.places h n c.requires.writable in
    let first = subst (λ (z : List ℕ). IsPlacedAt unit table columns numbers lens c.args.start z ends end) (sym c.shrink_to_fit.ensures.items) placed in
    subst (λ (z : List ℕ). IsPlacedAt unit table columns numbers lens c.args.start c.shrink_to_fit.new.self.items z end) (sym c.shrink_to_fit-2.ensures.items) first

pub place_next-requires-clause-room : goal.place_next-requires-clause-room
place_next-requires-clause-room c =
    let unit = c.args.unit.now in
    let h = c.loop-next.invariant in
    let on = subst (λ (f : Arena). GoesOn f c.loop-next.items c.next.new.self (Some c.in-Some.next)) c.forest.ensures c.in-Some.ensures.next in
    let n = on h.values (declarations_of c.args.decls.now) (entries_at unit.head) h.place h.done h.now h.chains h.rest h.walked in
    placing_room unit c.args.decls.now c.args.specs.now.items c.args.numbers.now.items c.args.lens.now.items c.args.start c.loop-next.items c.next.new.self c.loop-next.places c.in-Some.next h n c.requires.writable c.requires.lens c.numbers_are_small.ensures c.requires.room

pub place_next-requires-clause-fits : goal.place_next-requires-clause-fits
place_next-requires-clause-fits c =
    let unit = c.args.unit.now in
    let most : c.loop-next.places.end ≤ c.args.start + most_bytes unit = placing_most unit c.args.decls.now c.args.specs.now.items c.args.numbers.now.items c.args.lens.now.items c.args.start c.loop-next.items c.loop-next.places c.loop-next.invariant in
    let room : c.args.start + most_bytes unit < least_reserved = c.requires.room in
    omega arith
