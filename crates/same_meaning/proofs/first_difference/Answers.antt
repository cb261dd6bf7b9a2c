use Rattle.same_meaning.proofs.FirstReasons.{not_same, all_same, past_kept, past_rows, past_ranges, past_locations, past_units, kept_found, rows_found, ranges_found, locations_found, units_found}
use Rattle.same_meaning.proofs.first_difference.Goals as goal

pub returns-in-Some-clause-first : goal.returns-in-Some-clause-first
returns-in-Some-clause-first c =
    let a = c.args.before.now in
    let b = c.args.after.now in
    let v = c.requires.before in
    let w = c.requires.after in
    kept_found a b v w c.in-Some.section c.in-Some.ensures

pub returns-in-Some-clause-same : goal.returns-in-Some-clause-same
returns-in-Some-clause-same c =
    let a = c.args.before.now in
    let b = c.args.after.now in
    let v = c.requires.before in
    let w = c.requires.after in
    not_same a b v w _ (kept_found a b v w c.in-Some.section c.in-Some.ensures)

pub returns-in-Some-first_program-clause-first : goal.returns-in-Some-first_program-clause-first
returns-in-Some-first_program-clause-first c =
    let a = c.args.before.now in
    let b = c.args.after.now in
    let v = c.requires.before in
    let w = c.requires.after in
    let kept = past_kept a b v w c.in_default.ensures in
    rows_found a b v w kept c.in-Some-first_program.program c.in-Some-first_program.ensures

pub returns-in-Some-first_program-clause-same : goal.returns-in-Some-first_program-clause-same
returns-in-Some-first_program-clause-same c =
    let a = c.args.before.now in
    let b = c.args.after.now in
    let v = c.requires.before in
    let w = c.requires.after in
    let kept = past_kept a b v w c.in_default.ensures in
    not_same a b v w _ (rows_found a b v w kept c.in-Some-first_program.program c.in-Some-first_program.ensures)

pub returns-in-Some-2-clause-first : goal.returns-in-Some-2-clause-first
returns-in-Some-2-clause-first c =
    let a = c.args.before.now in
    let b = c.args.after.now in
    let v = c.requires.before in
    let w = c.requires.after in
    let kept = past_kept a b v w c.in_default.ensures in
    let rows = past_rows a b v w kept c.in_default-first_program.ensures in
    ranges_found a b v w rows c.in_ok-part.field-0 c.in_ok-part.ensures.first c.in-Some-2.part c.in-Some-2.is

pub returns-in-Some-2-clause-same : goal.returns-in-Some-2-clause-same
returns-in-Some-2-clause-same c =
    let a = c.args.before.now in
    let b = c.args.after.now in
    let v = c.requires.before in
    let w = c.requires.after in
    let kept = past_kept a b v w c.in_default.ensures in
    let rows = past_rows a b v w kept c.in_default-first_program.ensures in
    not_same a b v w _ (ranges_found a b v w rows c.in_ok-part.field-0 c.in_ok-part.ensures.first c.in-Some-2.part c.in-Some-2.is)

pub returns-in-Some-3-clause-first : goal.returns-in-Some-3-clause-first
returns-in-Some-3-clause-first c =
    let a = c.args.before.now in
    let b = c.args.after.now in
    let v = c.requires.before in
    let w = c.requires.after in
    let kept = past_kept a b v w c.in_default.ensures in
    let rows = past_rows a b v w kept c.in_default-first_program.ensures in
    let ranges = past_ranges a b v w rows c.in_ok-part.field-0 c.in_ok-part.ensures.first c.in_default-2.is in
    locations_found a b v w ranges c.in_ok-part-2.field-0 c.in_ok-part-2.ensures.first c.in-Some-3.part c.in-Some-3.is

pub returns-in-Some-3-clause-same : goal.returns-in-Some-3-clause-same
returns-in-Some-3-clause-same c =
    let a = c.args.before.now in
    let b = c.args.after.now in
    let v = c.requires.before in
    let w = c.requires.after in
    let kept = past_kept a b v w c.in_default.ensures in
    let rows = past_rows a b v w kept c.in_default-first_program.ensures in
    let ranges = past_ranges a b v w rows c.in_ok-part.field-0 c.in_ok-part.ensures.first c.in_default-2.is in
    not_same a b v w _ (locations_found a b v w ranges c.in_ok-part-2.field-0 c.in_ok-part-2.ensures.first c.in-Some-3.part c.in-Some-3.is)

pub returns-in-Some-4-clause-first : goal.returns-in-Some-4-clause-first
returns-in-Some-4-clause-first c =
    let a = c.args.before.now in
    let b = c.args.after.now in
    let v = c.requires.before in
    let w = c.requires.after in
    let kept = past_kept a b v w c.in_default.ensures in
    let rows = past_rows a b v w kept c.in_default-first_program.ensures in
    let ranges = past_ranges a b v w rows c.in_ok-part.field-0 c.in_ok-part.ensures.first c.in_default-2.is in
    let locations = past_locations a b v w ranges c.in_ok-part-2.field-0 c.in_ok-part-2.ensures.first c.in_default-3.is in
    units_found a b v w locations c.in_ok-unit.field-0 c.in_ok-unit.ensures.first c.in-Some-4.unit c.in-Some-4.entry c.in-Some-4.is

pub returns-in-Some-4-clause-same : goal.returns-in-Some-4-clause-same
returns-in-Some-4-clause-same c =
    let a = c.args.before.now in
    let b = c.args.after.now in
    let v = c.requires.before in
    let w = c.requires.after in
    let kept = past_kept a b v w c.in_default.ensures in
    let rows = past_rows a b v w kept c.in_default-first_program.ensures in
    let ranges = past_ranges a b v w rows c.in_ok-part.field-0 c.in_ok-part.ensures.first c.in_default-2.is in
    let locations = past_locations a b v w ranges c.in_ok-part-2.field-0 c.in_ok-part-2.ensures.first c.in_default-3.is in
    not_same a b v w _ (units_found a b v w locations c.in_ok-unit.field-0 c.in_ok-unit.ensures.first c.in-Some-4.unit c.in-Some-4.entry c.in-Some-4.is)

pub returns-clause-same : goal.returns-clause-same
returns-clause-same c =
    let a = c.args.before.now in
    let b = c.args.after.now in
    let v = c.requires.before in
    let w = c.requires.after in
    let kept = past_kept a b v w c.in_default.ensures in
    let rows = past_rows a b v w kept c.in_default-first_program.ensures in
    let ranges = past_ranges a b v w rows c.in_ok-part.field-0 c.in_ok-part.ensures.first c.in_default-2.is in
    let locations = past_locations a b v w ranges c.in_ok-part-2.field-0 c.in_ok-part-2.ensures.first c.in_default-3.is in
    all_same a b v w (past_units a b v w locations c.in_ok-unit.field-0 c.in_ok-unit.ensures.first c.in-None.is)

pub first_part-requires-clause-lists : goal.first_part-requires-clause-lists
first_part-requires-clause-lists c = c.new-lists.ensures c.args.before.now c.args.after.now
