use Rattle.std.proofs.Common.{◌≡◌, ◌<◌, ◌+◌, length, sym, subst, refl, List, ℕ}
use Rattle.entry_arena.specs.Arena.{Arena, entry_at}
use Rattle.fixed_width.specs.InitialLengths.{least_reserved}
use Rattle.unit_write.specs.declared.items.Next.{Next}
use Rattle.unit_write.specs.inside.Most.{HasRoom}
use Rattle.unit_write.specs.Placing.{values_in, EntrySize}
use Rattle.unit_write.specs.inside.Readings.{AreStanding, HasItem, PutsItem}
use Rattle.unit_write.proofs.Standing.{values_stand, entry_declared}
use Rattle.unit_write.proofs.places.place_next.Goals as goal

pub after_entry-requires-clause-declared : goal.after_entry-requires-clause-declared
after_entry-requires-clause-declared c =
    let inside : c.in-Entry.id < length c.args.unit.now.forest.entries = subst (λ (n : Next). HasItem c.args.unit.now.forest n) c.in-Entry.is c.requires.item in
    subst (λ (f : Arena). (entry_at f.entries c.in-Entry.id).decl < length c.args.decls.now.decls) (sym c.forest.ensures) (entry_declared c.args.unit.now c.args.decls.now c.requires.writable.held c.in-Entry.id inside)

pub after_entry-requires-clause-stands : goal.after_entry-requires-clause-stands
after_entry-requires-clause-stands c =
    let inside : c.in-Entry.id < length c.args.unit.now.forest.entries = subst (λ (n : Next). HasItem c.args.unit.now.forest n) c.in-Entry.is c.requires.item in
    subst (λ (f : Arena). AreStanding f.section (values_in f c.in-Entry.id)) (sym c.forest.ensures) (values_stand c.args.unit.now c.args.decls.now c.requires.writable.held c.in-Entry.id inside)

pub after_entry-requires-clause-room : goal.after_entry-requires-clause-room
after_entry-requires-clause-room c =
    let table = c.args.decls.now in
    let columns = c.args.specs.now.items in
    let numbers = c.args.numbers.now.items in
    let lens : List ℕ = c.args.lens.now.items in
    let room = subst (λ (n : Next). HasRoom (EntrySize table columns numbers c.args.unit.now.forest lens) n c.args.places.now.end) c.in-Entry.is c.requires.room in
    subst (λ (f : Arena). (size : ℕ) × EntrySize table columns numbers f lens c.in-Entry.id size × (c.args.places.now.end + size < least_reserved)) (sym c.forest.ensures) room

pub returns-in_ok-places-in-Entry-clause-put : goal.returns-in_ok-places-in-Entry-clause-put
returns-in_ok-places-in-Entry-clause-put c =
    let table = c.args.decls.now in
    let columns = c.args.specs.now.items in
    let numbers = c.args.numbers.now.items in
    let lens : List ℕ = c.args.lens.now.items in
    let sized = subst (λ (f : Arena). (size : ℕ) → EntrySize table columns numbers f lens c.in-Entry.id size → c.in_ok-places-in-Entry.field-0 ≡ c.args.places.now.end + size) c.forest.ensures c.in_ok-places-in-Entry.ensures in
    subst (λ (n : Next). PutsItem (EntrySize table columns numbers c.args.unit.now.forest lens) n c.args.places.now (record { start = c.args.places.now.start; entries = c.push.new.self; ends = c.args.places.now.ends; end = c.in_ok-places-in-Entry.field-0 })) (sym c.in-Entry.is) (c.in_ok-push-in-Entry.ensures.items, refl, sized)
