use Rattle.std.proofs.Common.{◌<◌, ◌∙◌, length, ap, subst, sym}
use Rattle.entry_arena.specs.declared.entry.Entry.{Entry}
use Rattle.entry_arena.specs.Arena.{Arena}
use Rattle.value_links.proofs.TabledUnits.{has_root, entry_is}
use Rattle.value_links.proofs.RootValues.{attributes_counted}
use Rattle.value_links.proofs.check.root_count.Goals as goal

pub entry-requires : goal.entry-requires
entry-requires c = subst (λ (z : Arena). 0 < length z.entries) (sym c.forest.ensures) (has_root c.args.unit.now c.requires.0 c.requires.1)

pub returns : goal.returns
returns c = λ table is.
    let root = entry_is c.args.unit.now table is c.forest.result.now c.forest.ensures 0 (has_root c.args.unit.now table is) c.entry.result c.entry.ensures in
    ap (λ (z : Entry). z.count) root ∙ sym (attributes_counted c.args.unit.now table is 0 (has_root c.args.unit.now table is))
