use Rattle.loc_lists.proofs.LocationReads.{expression_read, expression_cut}
use Rattle.loc_lists.proofs.read.read_expression.Goals as goal

pub returns-then-bytes-size-clause-fault : goal.returns-then-bytes-size-clause-fault
returns-then-bytes-size-clause-fault c =
    let size = c.in-Ok.size in
    expression_cut c.args.bytes.now c.args.at size.end size.value c.args.origin c.fault_at-then-bytes-size.result c.in-Ok.ensures.within.0 c.in-Ok.ensures.within.1 c.if-bytes-size.true c.in-Ok.ensures.read c.in-Ok.ensures.fits c.fault_at-then-bytes-size.ensures

pub returns-clause-expression : goal.returns-clause-expression
returns-clause-expression c =
    let size = c.in-Ok.size in
    expression_read c.args.bytes.now c.args.at size.end size.value c.in-Ok.ensures.within.0 c.in-Ok.ensures.within.1 c.if-bytes-size.false c.in-Ok.ensures.read c.in-Ok.ensures.fits
