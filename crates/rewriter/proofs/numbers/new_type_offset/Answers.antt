use Rattle.std.proofs.Common.{◌≡◌, ◌≤◌, ◌<◌, ◌+◌, ◌∙◌, length, slice_index, sym, ap, subst, arith}
use Rattle.std.proofs.lemmas.List.{get_or_read}
use Rattle.entry_arena.specs.declared.entry.Target.TheVariants.{Entry as TheEntry}
use Rattle.entry_arena.specs.Arena.{Arena}
use Rattle.entry_read.specs.declared.head.UnitHead.{UnitHead}
use Rattle.entry_read.specs.Heads.{type_unit}
use Rattle.value_links.specs.Linked.{IsTargetAt}
use Rattle.rewriter.proofs.numbers.new_type_offset.Goals as goal

pub place_in-requires : goal.place_in-requires
place_in-requires c =
    let kind : c.args.unit.now.head.kind ≡ type_unit = ap (λ (h : UnitHead). h.kind) (sym c.head-head.ensures) ∙ c.if-head-ne-DW_UT_TYPE.false in
    let t = c.requires.typed kind in
    (TheEntry t.0, subst (λ (h : UnitHead). IsTargetAt c.args.unit.now.forest (TheEntry t.0) (c.args.unit.now.head.at + h.type_at)) (sym c.head-head.ensures) (t.1, t.2))

pub overflow_sub-result : goal.overflow_sub-result
overflow_sub-result c =
    let size : length c.args.places.now.entries.items ≡ length c.args.unit.now.forest.entries = c.requires.placed.entries in
    let count : length c.entries.result.now ≡ length c.args.unit.now.forest.entries = ap length c.entries.ensures.entries ∙ ap (λ (f : Arena). length f.entries) c.forest.ensures in
    let inside : c.entry_number-number.result < length c.entries.result.now = c.entry_number-number.ensures.inside in
    let read : c.index.result.now ≡ slice_index c.args.places.now.entries.items c.entry_number-number.result = get_or_read c.args.places.now.entries.items c.entry_number-number.result c.index.result.now (omega arith) c.index.ensures 0 in
    let after : c.args.places.now.start ≤ slice_index c.args.places.now.entries.items c.entry_number-number.result = c.requires.placed.entries_after c.entry_number-number.result (omega arith) in
    omega (arith, c.from.ensures)
