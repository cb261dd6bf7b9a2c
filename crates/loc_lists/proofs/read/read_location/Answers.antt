use Rattle.std.proofs.Common.{◌≡◌, ◌∙◌, sym, true, false}
use Rattle.std.proofs.lemmas.Result.{err_from_is_err_and}
use Rattle.loc_lists.specs.Locations.{is_item}
use Rattle.loc_lists.proofs.LocationReads.{setter_read, item_read, expression_fault}
use Rattle.loc_lists.proofs.read.read_location.Goals as goal

pub returns-then-not-is_item-clause-location : goal.returns-then-not-is_item-clause-location
returns-then-not-is_item-clause-location c =
    let none : is_item c.in-Some.read.raw ≡ false = sym c.is_item.ensures ∙ c.if-not-is_item.true in
    setter_read c.args.bytes.now c.args.at c.in-Some.read (rw c.in-Some.is at c.in_ok-read.ensures.entry) none

pub returns-in_err-expr-clause-fault : goal.returns-in_err-expr-clause-fault
returns-in_err-expr-clause-fault c =
    let p = err_from_is_err_and c.from_residual-in_err-expr.result c.from_residual-in_err-expr.ensures.1 in
    let item : is_item c.in-Some.read.raw ≡ true = sym c.is_item.ensures ∙ c.if-not-is_item.false in
    rw (p.1, p.2) (expression_fault c.args.bytes.now c.args.at c.args.origin c.in-Some.read c.in_err-expr.field-0.0 (rw c.in-Some.is at c.in_ok-read.ensures.entry) item c.in_err-expr.ensures.fault)

pub returns-clause-location : goal.returns-clause-location
returns-clause-location c =
    let item : is_item c.in-Some.read.raw ≡ true = sym c.is_item.ensures ∙ c.if-not-is_item.false in
    item_read c.args.bytes.now c.args.at c.in-Some.read c.in_ok-expr.expr (rw c.in-Some.is at c.in_ok-read.ensures.entry) item c.in_ok-expr.ensures.expression
