use Rattle.tidy_files.proofs.TreeEnds.{count_some, end_fits, bare_ends, entry_behind, code_there, code_behind}
use Rattle.std.proofs.Common.{◌≡◌, ◌<◌, ◌≤◌, ◌+◌, ◌^◌, subst, arith}
use Rattle.tidy_files.specs.inside.Paddings.{IsTreeEnd}
use Rattle.tidy_files.proofs.units.tree_end.Goals as goal

pub overflow_sub-len : goal.overflow_sub-len
overflow_sub-len c = count_some c.args.unit.now c.requires.held c.forest-forest.result.now c.forest-forest.ensures c.len.result c.len.ensures

pub entry-last-requires : goal.entry-last-requires
entry-last-requires c =
    let some : 1 ≤ c.len.result = count_some c.args.unit.now c.requires.held c.forest-forest.result.now c.forest-forest.ensures c.len.result c.len.ensures in
    omega arith

pub overflow_add-end : goal.overflow_add-end
overflow_add-end c =
    let fits : c.entry-last.result.at + c.entry-last.result.len < 2 ^ 64 = end_fits c.args.unit.now c.requires.held c.forest-forest.result.now c.forest-forest.ensures c.len.result c.len.ensures c.entry-last.result c.entry-last.ensures c.requires.room in
    omega arith

pub code_end-requires : goal.code_end-requires
code_end-requires c =
    let reached : c.entry-last.result.at + c.entry-last.result.len ≤ c.in-Some.code.now.at = omega (arith, c.if-end-from.true, c.from.ensures, c.from-2.ensures, c.from-in-Some.ensures) in
    code_there c.args.unit.now c.requires.held c.forest-forest.result.now c.forest-forest.ensures c.len.result c.len.ensures c.entry-last.result c.entry-last.ensures c.chain_ends.result.now c.chain_ends.ensures.ends c.in-Some.code.now c.in-Some.ensures.item.3.0 c.in-Some.ensures.item.1 reached c.section.result.now c.section.ensures

pub returns-then-end-from : goal.returns-then-end-from
returns-then-end-from c =
    let reached : c.entry-last.result.at + c.entry-last.result.len ≤ c.in-Some.code.now.at = omega (arith, c.if-end-from.true, c.from.ensures, c.from-2.ensures, c.from-in-Some.ensures) in
    code_behind c.args.unit.now c.requires.held c.forest-forest.result.now c.forest-forest.ensures c.len.result c.len.ensures c.entry-last.result c.entry-last.ensures c.chain_ends.result.now c.chain_ends.ensures.ends c.in-Some.code.now c.in-Some.ensures.item.3.0 c.in-Some.ensures.item.1 reached c.section.result.now c.section.ensures c.code_end.result c.code_end.ensures

pub returns-else-end-from : goal.returns-else-end-from
returns-else-end-from c =
    let short : c.in-Some.code.now.at < c.entry-last.result.at + c.entry-last.result.len = omega (arith, c.if-end-from.false, c.from.ensures, c.from-2.ensures, c.from-in-Some.ensures) in
    let sum : c.entry-last.result.at + c.entry-last.result.len ≡ c.from.result + c.from-2.result = omega (arith, c.from.ensures, c.from-2.ensures) in
    subst (IsTreeEnd c.args.unit.now) sum
    (entry_behind c.args.unit.now c.requires.held c.forest-forest.result.now c.forest-forest.ensures c.len.result c.len.ensures c.entry-last.result c.entry-last.ensures c.chain_ends.result.now c.chain_ends.ensures.ends c.in-Some.code.now c.in-Some.ensures.item.3.0 c.in-Some.ensures.item.1 short)

pub returns-in_default : goal.returns-in_default
returns-in_default c =
    let sum : c.entry-last.result.at + c.entry-last.result.len ≡ c.from.result + c.from-2.result = omega (arith, c.from.ensures, c.from-2.ensures) in
    subst (IsTreeEnd c.args.unit.now) sum
    (bare_ends c.args.unit.now c.requires.held c.forest-forest.result.now c.forest-forest.ensures c.len.result c.len.ensures c.entry-last.result c.entry-last.ensures c.chain_ends.result.now c.chain_ends.ensures.ends c.in_default.ensures.item.3)
