use Rattle.std.proofs.Common.{◌≡◌, ◌<◌, ◌∙◌, ℕ, length, ap, subst, arith}
use Rattle.entry_arena.specs.Arena.{Arena, entry_at}
use Rattle.tidy_places.specs.Firsts.{IsLeastFound}
use Rattle.value_links.specs.Reading.{UnitRead}
use Rattle.value_links.specs.Values.{entry_of}
use Rattle.tidy_numbers.specs.inside.LongEntries.{IsLongInEntryOf, unit_by}
use Rattle.tidy_numbers.proofs.UnitNumbers.{decl_there, entry_held_there, entry_more}
use Rattle.tidy_numbers.proofs.units.first_of_entries.Goals as goal

pub columns_of-columns-requires-clause-inside : goal.columns_of-columns-requires-clause-inside
columns_of-columns-requires-clause-inside c =
    let unit : UnitRead = unit_by c.args.unit.now c.args.table.now in
    let count : c.len-id-end.result ≡ length unit.forest.entries = c.len-id-end.ensures ∙ ap (λ (f : Arena). length f.entries) c.forest-forest.ensures in
    let entry : c.entry-entry.result ≡ entry_of unit c.loop-id.id = c.entry-entry.ensures ∙ ap (λ (f : Arena). entry_at f.entries c.loop-id.id) c.forest-forest.ensures in
    decl_there unit c.requires.unit c.loop-id.id (omega arith) c.entry-entry.result entry

pub first_in_entry-requires : goal.first_in_entry-requires
first_in_entry-requires c =
    let unit : UnitRead = unit_by c.args.unit.now c.args.table.now in
    let count : c.len-id-end.result ≡ length unit.forest.entries = c.len-id-end.ensures ∙ ap (λ (f : Arena). length f.entries) c.forest-forest.ensures in
    let entry : c.entry-entry.result ≡ entry_of unit c.loop-id.id = c.entry-entry.ensures ∙ ap (λ (f : Arena). entry_at f.entries c.loop-id.id) c.forest-forest.ensures in
    let info : c.section-info.result.now ≡ unit.forest.section = c.section-info.ensures ∙ ap (λ (f : Arena). f.section) c.forest-forest.ensures in
    entry_held_there unit c.requires.unit c.loop-id.id (omega arith) c.entry-entry.result entry c.section-info.result.now info c.columns_of-columns.result.now c.columns_of-columns.ensures.columns

pub loop-id-preserved : goal.loop-id-preserved
loop-id-preserved c =
    let unit : UnitRead = unit_by c.args.unit.now c.args.table.now in
    let count : c.len-id-end.result ≡ length unit.forest.entries = c.len-id-end.ensures ∙ ap (λ (f : Arena). length f.entries) c.forest-forest.ensures in
    let entry : c.entry-entry.result ≡ entry_of unit c.loop-id.id = c.entry-entry.ensures ∙ ap (λ (f : Arena). entry_at f.entries c.loop-id.id) c.forest-forest.ensures in
    let info : c.section-info.result.now ≡ unit.forest.section = c.section-info.ensures ∙ ap (λ (f : Arena). f.section) c.forest-forest.ensures in
    entry_more unit c.requires.unit c.loop-id.id (omega arith) c.entry-entry.result entry c.section-info.result.now info c.columns_of-columns.result.now c.columns_of-columns.ensures.columns c.loop-id.first c.first_in_entry.result c.earlier-first.result c.loop-id.invariant c.first_in_entry.ensures c.earlier-first.ensures

pub returns : goal.returns
returns c =
    let unit : UnitRead = unit_by c.args.unit.now c.args.table.now in
    let count : c.len-id-end.result ≡ length unit.forest.entries = c.len-id-end.ensures ∙ ap (λ (f : Arena). length f.entries) c.forest-forest.ensures in
    let whole : c.loop-id.id ≡ length unit.forest.entries = omega arith in
    subst (λ (n : ℕ). IsLeastFound (λ p. (id : ℕ) × (id < n) × IsLongInEntryOf unit id p) c.loop-id.first) whole c.loop-id.invariant
