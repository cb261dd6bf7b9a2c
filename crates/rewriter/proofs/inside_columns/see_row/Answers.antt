use Rattle.std.proofs.Common.{◌≡◌, ◌<◌, ◌+◌, ℕ, length, refl, subst, arith}
use Rattle.std.proofs.lemmas.List.{get_or_read_under}
use Rattle.form_codec.specs.declared.value.Value.TheVariants as value
use Rattle.entry_arena.specs.Arena.{value_at}
use Rattle.rewriter.proofs.ColumnsSeen.{HasSeenRow, row_more, row_seen}
use Rattle.rewriter.proofs.inside_columns.see_row.Goals as goal

pub loop-j-preserved : goal.loop-j-preserved
loop-j-preserved c =
    let row = c.args.row.now in
    let j : ℕ = c.loop-j.j in
    let inside : c.args.first + j < length c.args.seen.now.items = omega (arith, c.loop-j-test.true, c.requires) in
    let read : c.index-row-j.result ≡ value_at row j = get_or_read_under row j (length row) _ (value.Addr 0) c.index-row-j.is c.loop-j-test.true refl in
    row_more c.args.first c.args.head.now row j c.args.seen.now.items c.loop-j.seen.items c.index_mut-column.result.now c.seen_after.result c.index-row-j.result c.is_inside.result inside c.loop-j.invariant c.index_mut-column.ensures.value read c.is_inside.ensures c.seen_after.ensures

pub returns-clause-seen : goal.returns-clause-seen
returns-clause-seen c = λ section before after sees seen.
    let row = c.args.row.now in
    let all : c.loop-j.j ≡ length row = omega (arith, c.loop-j-test.false, c.loop-j.auto.j-end) in
    let done = subst (λ (n : ℕ). HasSeenRow c.args.first c.args.head.now row n c.args.seen.now.items c.loop-j.seen.items) all c.loop-j.invariant in
    row_seen c.args.first c.args.head.now row c.args.seen.now.items c.loop-j.seen.items c.requires done section before after sees seen
