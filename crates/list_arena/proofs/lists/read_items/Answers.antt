use Rattle.std.proofs.Common.{◌≡◌, ◌∙◌, List, take, ap, sym, arith}
use Rattle.std.specs.Prelude.{slice_range}
use Rattle.std.proofs.lemmas.List.{take_all}
use Rattle.list_arena.specs.declared.lists.ItemRow.{ItemRow}
use Rattle.list_arena.specs.inside.Lists.{item_held, items_held}
use Rattle.list_arena.proofs.RowLaws.{range_length, range_map}
use Rattle.list_arena.proofs.lists.read_items.Goals as goal

pub returns : goal.returns
returns c =
    let own : List ItemRow = slice_range c.args.rows.now c.args.from c.args.to in
    let count = range_length c.args.rows.now c.args.from c.args.to c.requires.order c.requires.inside in
    let all : take c.loop-row.row-index own ≡ own = take_all c.loop-row.row-index own (omega (arith, count)) in
    c.loop-row.invariant ∙ ap (λ (rows : List ItemRow). items_held c.args.long.now rows) all ∙ sym (range_map (item_held c.args.long.now) c.args.rows.now c.args.from c.args.to)
