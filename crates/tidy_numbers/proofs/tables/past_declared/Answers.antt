use Rattle.std.proofs.Common.{◌≤◌, ◌+◌, ◌∙◌, length, arith}
use Rattle.tidy_numbers.proofs.DeclarationWalks.{code_stands, tag_stands, flag_inside, columns_stand, ends_columns, found_declared, one_declared}
use Rattle.tidy_numbers.proofs.tables.past_declared.Goals as goal

pub past_unsigned-coded-requires : goal.past_unsigned-coded-requires
past_unsigned-coded-requires c =
    let (d, same, (end, stands)) = c.requires in
    code_stands d c.args.bytes.now c.args.walk.at end stands

pub past_unsigned-tagged-requires : goal.past_unsigned-tagged-requires
past_unsigned-tagged-requires c =
    let (d, same, (end, stands)) = c.requires in
    tag_stands d c.args.bytes.now c.args.walk.at end stands c.past_unsigned-coded.result.at c.past_unsigned-coded.ensures.ends

pub overflow_add-flagged : goal.overflow_add-flagged
overflow_add-flagged c =
    let (d, same, (end, stands)) = c.requires in
    let inside : c.past_unsigned-tagged.result.at + 1 ≤ length c.args.bytes.now = flag_inside d c.args.bytes.now c.args.walk.at end stands c.past_unsigned-coded.result.at c.past_unsigned-coded.ensures.ends c.past_unsigned-tagged.result.at c.past_unsigned-tagged.ensures.ends in
    omega arith

pub past_columns-requires : goal.past_columns-requires
past_columns-requires c =
    let (d, same, (end, stands)) = c.requires in
    columns_stand d c.args.bytes.now c.args.walk.at end stands c.past_unsigned-coded.result.at c.past_unsigned-coded.ensures.ends c.past_unsigned-tagged.result.at c.past_unsigned-tagged.ensures.ends c.args.columns.now same

pub returns-clause-ends : goal.returns-clause-ends
returns-clause-ends c = λ e last there.
    let (d, same, (end, stands)) = c.requires in
    ends_columns d c.args.bytes.now c.args.walk.at end stands c.past_unsigned-coded.result.at c.past_unsigned-coded.ensures.ends c.past_unsigned-tagged.result.at c.past_unsigned-tagged.ensures.ends c.args.columns.now same c.past_columns.result.at c.past_columns.ensures.ends
    ∙ one_declared d e c.args.bytes.now c.args.walk.at end last stands there

pub returns-clause-long : goal.returns-clause-long
returns-clause-long c =
    let (d, same, (end, stands)) = c.requires in
    let coded = c.past_unsigned-coded in
    let tagged = c.past_unsigned-tagged in
    found_declared d c.args.bytes.now c.args.walk.at end stands coded.result.at coded.ensures.ends tagged.result.at tagged.ensures.ends c.args.walk.long coded.result.long tagged.result.long c.past_columns.result.long coded.ensures.long tagged.ensures.long c.past_columns.ensures.long
