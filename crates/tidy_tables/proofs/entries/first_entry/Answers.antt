use Rattle.std.proofs.Common.{◌≡◌, ◌<◌, ◌∙◌, ℕ, List, length, get_or, sym, ap, subst, rules, arith}
use Rattle.std.specs.Prelude.{Option, Some, None, slice_index}
use Rattle.entry_arena.specs.declared.entry.Entry.{Entry}
use Rattle.tidy_tables.specs.declared.pairings.Pairings.{Pairings}
use Rattle.tidy_tables.specs.inside.Pairings.{AreOneToOne, IsUnitAdded}
use Rattle.tidy_tables.proofs.EntryPairs.{entries_of, pairings_more, numbers_held, entries_same, unit_known, old_known, number_read, table_read, none_untidy, first_untidy}
use Rattle.tidy_tables.proofs.entries.first_entry.Goals as goal

pub index_mut-pairings-requires : goal.index_mut-pairings-requires
index_mut-pairings-requires c =
    let a = c.args.before.now in
    let b = c.args.after.now in
    let u : ℕ = c.loop-unit.unit in
    let t : ℕ = c.index.result.now in
    let inside : u < length c.table_numbers-table_of.result.now.items = search rules in
    let below : t < length c.loop-unit.all.items = table_read a b c.requires.before c.requires.after c.requires.same c.table_numbers-table_of.result.now.items u t c.table_numbers-table_of.ensures inside c.index.ensures c.loop-unit.all.items c.loop-unit.invariant.size in
    omega arith

pub entries_of-old-requires : goal.entries_of-old-requires
entries_of-old-requires c =
    let a = c.args.before.now in
    let b = c.args.after.now in
    let u : ℕ = c.loop-unit.unit in
    let t : ℕ = c.index.result.now in
    let inside : u < length c.table_numbers-table_of.result.now.items = search rules in
    old_known a b c.requires.before c.requires.after c.requires.same c.table_numbers-table_of.result.now.items u t c.table_numbers-table_of.ensures inside c.index.ensures

pub entries_of-written-requires : goal.entries_of-written-requires
entries_of-written-requires c =
    let a = c.args.before.now in
    let b = c.args.after.now in
    let u : ℕ = c.loop-unit.unit in
    let t : ℕ = c.index.result.now in
    let inside : u < length c.table_numbers-table_of.result.now.items = search rules in
    unit_known a b c.requires.before c.requires.after c.requires.same c.table_numbers-table_of.result.now.items u t c.table_numbers-table_of.ensures inside c.index.ensures

pub add_unit-requires-clause-count : goal.add_unit-requires-clause-count
add_unit-requires-clause-count c =
    let a = c.args.before.now in
    let b = c.args.after.now in
    let u : ℕ = c.loop-unit.unit in
    let t : ℕ = c.index.result.now in
    let inside : u < length c.table_numbers-table_of.result.now.items = search rules in
    let known : u < length b.units = unit_known a b c.requires.before c.requires.after c.requires.same c.table_numbers-table_of.result.now.items u t c.table_numbers-table_of.ensures inside c.index.ensures in
    ap length c.entries_of-old.ensures ∙ entries_same a b c.requires.before c.requires.after c.requires.same u known ∙ sym (ap length c.entries_of-written.ensures)

pub add_unit-requires-clause-one : goal.add_unit-requires-clause-one
add_unit-requires-clause-one c =
    let a = c.args.before.now in
    let b = c.args.after.now in
    let u : ℕ = c.loop-unit.unit in
    let t : ℕ = c.index.result.now in
    let inside : u < length c.table_numbers-table_of.result.now.items = search rules in
    let below : t < length c.loop-unit.all.items = table_read a b c.requires.before c.requires.after c.requires.same c.table_numbers-table_of.result.now.items u t c.table_numbers-table_of.ensures inside c.index.ensures c.loop-unit.all.items c.loop-unit.invariant.size in
    subst AreOneToOne (sym c.index_mut-pairings.ensures.value) (c.loop-unit.invariant.one t c.index_mut-pairings.result.now below)

pub returns-in-Some : goal.returns-in-Some
returns-in-Some c = λ r s read holds again keeps.
    let a = c.args.before.now in
    let b = c.args.after.now in
    let u : ℕ = c.loop-unit.unit in
    let t : ℕ = c.index.result.now in
    let inside : u < length c.table_numbers-table_of.result.now.items = search rules in
    let known : u < length b.units = unit_known a b c.requires.before c.requires.after c.requires.same c.table_numbers-table_of.result.now.items u t c.table_numbers-table_of.ensures inside c.index.ensures in
    let number : slice_index a.table_of u ≡ t = number_read a b c.requires.before c.requires.after c.requires.same c.table_numbers-table_of.result.now.items u t c.table_numbers-table_of.ensures inside c.index.ensures in
    let before : Pairings = c.index_mut-pairings.result.now in
    let after : Pairings = c.add_unit.new.pairings in
    let found =
    subst (λ (z : List Entry). IsUnitAdded before after (entries_of a u) z (Some c.in-Some.place)) c.entries_of-written.ensures
    (subst (λ (z : List Entry). IsUnitAdded before after z c.entries_of-written.result.now (Some c.in-Some.place)) c.entries_of-old.ensures
    (subst (λ (z : Option ℕ). IsUnitAdded before after c.entries_of-old.result.now c.entries_of-written.result.now z) c.in-Some.is c.in_ok-place.ensures)) in
    first_untidy a b c.requires.same r s read holds again keeps c.loop-unit.all.items u c.loop-unit.invariant known before (c.index_mut-pairings.ensures.value ∙ ap (λ (z : ℕ). get_or c.loop-unit.all.items z before) (sym number)) c.in-Some.place found

pub loop-unit-preserved : goal.loop-unit-preserved
loop-unit-preserved c =
    let a = c.args.before.now in
    let b = c.args.after.now in
    let u : ℕ = c.loop-unit.unit in
    let t : ℕ = c.index.result.now in
    let inside : u < length c.table_numbers-table_of.result.now.items = search rules in
    let below : t < length c.loop-unit.all.items = table_read a b c.requires.before c.requires.after c.requires.same c.table_numbers-table_of.result.now.items u t c.table_numbers-table_of.ensures inside c.index.ensures c.loop-unit.all.items c.loop-unit.invariant.size in
    let number : slice_index a.table_of u ≡ t = number_read a b c.requires.before c.requires.after c.requires.same c.table_numbers-table_of.result.now.items u t c.table_numbers-table_of.ensures inside c.index.ensures in
    let before : Pairings = c.index_mut-pairings.result.now in
    let after : Pairings = c.add_unit.new.pairings in
    let added =
    subst (λ (z : List Entry). IsUnitAdded before after (entries_of a u) z None) c.entries_of-written.ensures
    (subst (λ (z : List Entry). IsUnitAdded before after z c.entries_of-written.result.now None) c.entries_of-old.ensures
    (subst (λ (z : Option ℕ). IsUnitAdded before after c.entries_of-old.result.now c.entries_of-written.result.now z) c.in_default.is c.in_ok-place.ensures)) in
    pairings_more a b u c.loop-unit.all.items c.loop-unit.invariant t number below before after c.index_mut-pairings.ensures.value added

pub returns : goal.returns
returns c = λ r s read holds again keeps p e.
    let a = c.args.before.now in
    let b = c.args.after.now in
    let numbers : length c.table_numbers-table_of.result.now.items ≡ length a.table_of = ap length c.table_numbers-table_of.ensures in
    let held : length a.table_of ≡ length b.units = numbers_held a b c.requires.before c.requires.after c.requires.same in
    none_untidy a b c.requires.same r s read holds again keeps c.loop-unit.all.items c.loop-unit.unit c.loop-unit.invariant (omega arith) p e
