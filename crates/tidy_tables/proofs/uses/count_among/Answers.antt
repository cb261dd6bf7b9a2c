use Rattle.std.proofs.Common.{◌+◌, ◌<◌, ◌^◌, ℕ, List, length, get_or, ◌∙◌, ap, sym, subst, rules}
use Rattle.entry_arena.specs.declared.entry.Entry.{Entry}
use Rattle.tidy_tables.specs.inside.UseCounts.{AddsUses}
use Rattle.tidy_tables.proofs.UseLaws.{room_for_unit, counted_more}
use Rattle.tidy_tables.proofs.uses.count_among.Goals as goal

pub add_entries-requires-clause-room : goal.add_entries-requires-clause-room
add_entries-requires-clause-room c =
    let inside : c.loop-u.u < length c.args.units.now.items = search rules in
    let unit = c.index-in-loop-u.result.now in
    let uses = c.index_mut-uses.result.now in
    subst (λ (es : List Entry). (number : ℕ) → number < length uses.counts.items → get_or uses.counts.items number 0 + length es < 2 ^ 64)
    (sym (c.entries.ensures.entries ∙ ap (λ f. f.entries) c.forest.ensures))
    (room_for_unit c.args.units.now.items c.args.tables.now.items c.args.table_of.now.items c.loop-u.all.items c.requires c.loop-u.u inside c.loop-u.invariant unit c.index-in-loop-u.ensures c.index.result.now c.index.ensures uses c.index_mut-uses.ensures.value)

pub loop-u-preserved : goal.loop-u-preserved
loop-u-preserved c =
    let inside : c.loop-u.u < length c.args.units.now.items = search rules in
    let unit = c.index-in-loop-u.result.now in
    let uses = c.index_mut-uses.result.now in
    let adds = subst (λ (es : List Entry). AddsUses es uses.counts.items c.add_entries.new.counts.items) (c.entries.ensures.entries ∙ ap (λ f. f.entries) c.forest.ensures) c.add_entries.ensures in
    counted_more c.args.units.now.items c.args.tables.now.items c.args.table_of.now.items c.loop-u.all.items c.requires c.loop-u.u inside c.loop-u.invariant unit c.index-in-loop-u.ensures c.index.result.now c.index.ensures uses c.index_mut-uses.ensures.value (record { counts = c.add_entries.new.counts }) adds
