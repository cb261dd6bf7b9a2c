use Rattle.tidy_numbers.proofs.ColumnWalks.{name_stands, form_stands, constant_stands, ends_constant, ends_plain, found_constant, found_plain}
use Rattle.tidy_numbers.proofs.tables.past_column.Goals as goal

pub past_unsigned-named-requires : goal.past_unsigned-named-requires
past_unsigned-named-requires c = name_stands c.args.column.now c.args.bytes.now c.args.walk.at c.requires.0 c.requires.1

pub past_unsigned-formed-requires : goal.past_unsigned-formed-requires
past_unsigned-formed-requires c =
    let named = c.past_unsigned-named in
    form_stands c.args.column.now c.args.bytes.now c.args.walk.at c.requires.0 c.requires.1 named.result.at named.ensures.ends

pub past_signed-requires : goal.past_signed-requires
past_signed-requires c =
    let named = c.past_unsigned-named in
    let formed = c.past_unsigned-formed in
    constant_stands c.args.column.now c.args.bytes.now c.args.walk.at c.requires.0 c.requires.1 named.result.at named.ensures.ends formed.result.at formed.ensures.ends c.if-column-eq-DW_FORM_IMPLICIT_CONST.true

pub returns-then-column-eq-DW_FORM_IMPLICIT_CONST-clause-ends : goal.returns-then-column-eq-DW_FORM_IMPLICIT_CONST-clause-ends
returns-then-column-eq-DW_FORM_IMPLICIT_CONST-clause-ends c = λ end stands.
    let named = c.past_unsigned-named in
    let formed = c.past_unsigned-formed in
    ends_constant c.args.column.now c.args.bytes.now c.args.walk.at end stands named.result.at named.ensures.ends formed.result.at formed.ensures.ends c.if-column-eq-DW_FORM_IMPLICIT_CONST.true c.past_signed.result.at c.past_signed.ensures.ends

pub returns-then-column-eq-DW_FORM_IMPLICIT_CONST-clause-long : goal.returns-then-column-eq-DW_FORM_IMPLICIT_CONST-clause-long
returns-then-column-eq-DW_FORM_IMPLICIT_CONST-clause-long c =
    let named = c.past_unsigned-named in
    let formed = c.past_unsigned-formed in
    found_constant c.args.column.now c.args.bytes.now c.args.walk.at c.requires.0 c.requires.1 named.result.at named.ensures.ends formed.result.at formed.ensures.ends c.args.walk.long named.result.long formed.result.long named.ensures.long formed.ensures.long c.if-column-eq-DW_FORM_IMPLICIT_CONST.true c.past_signed.result.long c.past_signed.ensures.long

pub returns-else-column-eq-DW_FORM_IMPLICIT_CONST-clause-ends : goal.returns-else-column-eq-DW_FORM_IMPLICIT_CONST-clause-ends
returns-else-column-eq-DW_FORM_IMPLICIT_CONST-clause-ends c = λ end stands.
    let named = c.past_unsigned-named in
    let formed = c.past_unsigned-formed in
    ends_plain c.args.column.now c.args.bytes.now c.args.walk.at end stands named.result.at named.ensures.ends formed.result.at formed.ensures.ends c.if-column-eq-DW_FORM_IMPLICIT_CONST.false

pub returns-else-column-eq-DW_FORM_IMPLICIT_CONST-clause-long : goal.returns-else-column-eq-DW_FORM_IMPLICIT_CONST-clause-long
returns-else-column-eq-DW_FORM_IMPLICIT_CONST-clause-long c =
    let named = c.past_unsigned-named in
    let formed = c.past_unsigned-formed in
    found_plain c.args.column.now c.args.bytes.now c.args.walk.at c.requires.0 c.requires.1 named.result.at named.ensures.ends formed.result.at formed.ensures.ends c.args.walk.long named.result.long formed.result.long named.ensures.long formed.ensures.long c.if-column-eq-DW_FORM_IMPLICIT_CONST.false
