use Rattle.std.proofs.Common.{◌∙◌, List, ap, sym}
use Rattle.std.specs.Prelude.{Bool, slice_range}
use Rattle.list_model.specs.declared.item.Item.{Item}
use Rattle.list_model.specs.declared.item.Meaning.TheVariants.{Live}
use Rattle.list_arena.specs.inside.Lists.{items_held, meaning_held}
use Rattle.list_arena.proofs.lists.read_meaning.Goals as goal

pub returns-then-frozen : goal.returns-then-frozen
unfolding meaning_held
returns-then-frozen c = ap (λ (frozen : Bool). meaning_held frozen (slice_range (items_held c.args.long.now c.args.rows.now) c.args.from c.args.to)) (sym c.if-frozen.true)

pub returns : goal.returns
unfolding meaning_held
returns c =
    ap (λ (items : List Item). Live items) (c.new.ensures ∙ c.in_ok-read_items.ensures)
    ∙ ap (λ (frozen : Bool). meaning_held frozen (slice_range (items_held c.args.long.now c.args.rows.now) c.args.from c.args.to)) (sym c.if-frozen.false)
