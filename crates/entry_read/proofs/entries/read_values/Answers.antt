use Rattle.std.proofs.Common.{◌≤◌, FitsSigned, w64, rules, arith}
use Rattle.std.proofs.lemmas.Int.{to_z-of_z}
use Rattle.std.proofs.lemmas.Result.{err_from_is_err_and}
use Rattle.abbrev_tables.specs.Listings.{spec_at}
use Rattle.entry_read.proofs.Walking.{value_next, value_added, column_fault}
use Rattle.entry_read.proofs.entries.read_values.Goals as goal

pub push_value-requires : goal.push_value-requires
push_value-requires c =
    let fits : FitsSigned w64 (spec_at c.args.columns.now c.loop-column.column-index).constant = search rules in
    let read = simp to_z-of_z at c.in_ok-read.ensures.read in
    value_next c.args.info.now c.args.forest.now c.loop-column.forest c.args.from c.loop-column.at c.args.end c.loop-column.column-index c.args.columns.now c.in_ok-read.read c.requires.walked c.loop-column.invariant.adds read c.requires.inside

pub loop-column-preserved : goal.loop-column-preserved
loop-column-preserved c =
    let fits : FitsSigned w64 (spec_at c.args.columns.now c.loop-column.column-index).constant = search rules in
    let read = simp to_z-of_z at c.in_ok-read.ensures.read in
    record {
      inside = read.inside;
      adds = value_added c.args.info.now c.args.forest.now c.loop-column.forest c.push_value.new.self c.args.from c.loop-column.at c.args.end c.loop-column.column-index c.args.columns.now c.in_ok-read.read c.loop-column-test.true c.loop-column.invariant.adds read c.requires.inside c.in_ok-push_value.ensures.pushed.1;
    }

pub returns-in_err-read-clause-fault : goal.returns-in_err-read-clause-fault
returns-in_err-read-clause-fault c =
    let p = err_from_is_err_and c.from_residual.result c.from_residual.ensures.1 in
    let fits : FitsSigned w64 (spec_at c.args.columns.now c.loop-column.column-index).constant = search rules in
    let fault = simp to_z-of_z at c.in_err-read.ensures.fault in
    let inside : c.loop-column.at ≤ c.args.end = c.loop-column.invariant.inside in
    rw (p.1, p.2) (
      c.loop-column.at,
      c.in_err-read.ensures.place (omega arith),
      column_fault c.args.info.now c.args.forest.now c.loop-column.forest c.args.from c.loop-column.at c.args.end c.loop-column.column-index c.args.columns.now c.in_err-read.field-0.0.kind c.loop-column-test.true c.loop-column.invariant.adds inside fault,
    )
