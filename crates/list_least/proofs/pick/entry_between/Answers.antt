use Rattle.list_least.proofs.Picking.{entry_is, least_between, last_kind, length_bounds, length_few, start_end_bounds, start_end_few}
use Rattle.list_least.proofs.pick.entry_between.Goals as goal

pub returns-in-Some : goal.returns-in-Some
returns-in-Some c addr context item are =
    let i = are.indexes c.requires.between in
    let x = c.in-Some.ensures addr context c.args.base c.args.costs.now.start c.args.costs.now.end i.0 i.1 in
    entry_is addr context c.args.base c.args.bytes item c.args.costs.now c.in-Some.entry are c.requires.between c.requires.least x.0 x.1

pub returns-in-Some-startx_entry : goal.returns-in-Some-startx_entry
returns-in-Some-startx_entry c addr context item are =
    let i = are.indexes c.requires.between in
    let x = c.in-Some-startx_entry.ensures addr context c.args.base i.0 in
    entry_is addr context c.args.base c.args.bytes item c.args.costs.now c.in-Some-startx_entry.entry are c.requires.between c.requires.least x.0 x.1

pub returns-in-Some-pair_entry : goal.returns-in-Some-pair_entry
returns-in-Some-pair_entry c addr context item are =
    let x = c.in-Some-pair_entry.ensures addr context in
    entry_is addr context c.args.base c.args.bytes item c.args.costs.now c.in-Some-pair_entry.entry are c.requires.between c.requires.least x.0 x.1

pub returns-then-bytes-ge17 : goal.returns-then-bytes-ge17
returns-then-bytes-ge17 c addr context item are =
    entry_is addr context c.args.base c.args.bytes item c.args.costs.now c.entry_of.result are c.requires.between c.requires.least
    (start_end_bounds addr context c.args.base c.args.costs.now.start c.args.costs.now.end c.entry_of.result c.entry_of.ensures)
    (start_end_few c.args.costs.now.start c.args.costs.now.end c.args.bytes c.entry_of.result c.entry_of.ensures c.if-bytes-ge17.true)

pub overflow_sub-end : goal.overflow_sub-end
overflow_sub-end c =
    let some = c.requires.some in
    let i = some.3.indexes c.requires.between in
    let w = least_between some.0 some.1 c.args.base c.args.bytes some.2 c.args.costs.now some.3 c.requires.between c.requires.least in
    let x = last_kind some.0 some.1 c.args.base c.args.costs.now.start c.args.costs.now.end c.args.bytes w (c.in_default.ensures some.0 some.1 c.args.base c.args.costs.now.start c.args.costs.now.end i.0 i.1) (c.in_default-startx_entry.ensures some.0 some.1 c.args.base i.0) (c.in_default-pair_entry.ensures some.0 some.1) c.if-bytes-ge17.false in
    x.0

pub returns : goal.returns
returns c addr context item are =
    let i = are.indexes c.requires.between in
    let w = least_between addr context c.args.base c.args.bytes item c.args.costs.now are c.requires.between c.requires.least in
    let x = last_kind addr context c.args.base c.args.costs.now.start c.args.costs.now.end c.args.bytes w (c.in_default.ensures addr context c.args.base c.args.costs.now.start c.args.costs.now.end i.0 i.1) (c.in_default-startx_entry.ensures addr context c.args.base i.0) (c.in_default-pair_entry.ensures addr context) c.if-bytes-ge17.false in
    entry_is addr context c.args.base c.args.bytes item c.args.costs.now c.entry_of-2.result are c.requires.between c.requires.least
    (length_bounds addr context c.args.base c.args.costs.now.start c.args.costs.now.end c.entry_of-2.result c.entry_of-2.ensures x.0)
    (length_few c.args.costs.now.start c.args.costs.now.end c.args.bytes c.entry_of-2.result c.entry_of-2.ensures x.1)
