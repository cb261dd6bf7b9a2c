use Rattle.std.proofs.Common.{ap}
use Rattle.std.specs.Prelude.{is_some}
use Rattle.written_files.specs.Classes.{HaveLeastCodes, HaveLeastColumns}
use Rattle.tidy_files.proofs.TidyRows.{known_anyway, not_tidy, places_first, places_none, tables_first, tables_none, units_first, units_none, programs_first, programs_none, lists_first, lists_none, changed_first, changed_none, numbers_tidy, numbers_first}
use Rattle.tidy_files.proofs.accept_classes.Goals as goal

pub returns-in-Some-clause-first : goal.returns-in-Some-clause-first
returns-in-Some-clause-first c =
    let file = c.args.before.now.image in
    let written = c.args.after.now.image in
    places_first c.args.classes file written c.image.result.now c.image-2.result.now c.image.ensures c.image-2.ensures c.in_ok-place.field-0 c.in_ok-place.ensures.first c.in-Some.place c.in-Some.is

pub returns-in-Some-clause-tidy : goal.returns-in-Some-clause-tidy
returns-in-Some-clause-tidy c = not_tidy c.args.classes c.args.before.now.image c.args.after.now.image c.in-Some.place (returns-in-Some-clause-first c)

pub returns-in-Some-2-clause-first : goal.returns-in-Some-2-clause-first
returns-in-Some-2-clause-first c =
    let file = c.args.before.now.image in
    let written = c.args.after.now.image in
    let places = places_none c.args.classes file written c.image.result.now c.image-2.result.now c.image.ensures c.image-2.ensures c.in_ok-place.field-0 c.in_ok-place.ensures.first c.in_default.is in
    tables_first c.args.classes file written places c.in_ok-place-2.field-0 c.in_ok-place-2.ensures.first c.in-Some-2.place c.in-Some-2.is

pub returns-in-Some-2-clause-tidy : goal.returns-in-Some-2-clause-tidy
returns-in-Some-2-clause-tidy c = not_tidy c.args.classes c.args.before.now.image c.args.after.now.image c.in-Some-2.place (returns-in-Some-2-clause-first c)

pub returns-in-Some-first_padded_unit-clause-first : goal.returns-in-Some-first_padded_unit-clause-first
returns-in-Some-first_padded_unit-clause-first c =
    let file = c.args.before.now.image in
    let written = c.args.after.now.image in
    let places = places_none c.args.classes file written c.image.result.now c.image-2.result.now c.image.ensures c.image-2.ensures c.in_ok-place.field-0 c.in_ok-place.ensures.first c.in_default.is in
    let tables = tables_none c.args.classes file written places c.in_ok-place-2.field-0 c.in_ok-place-2.ensures.first c.in_default-2.is in
    units_first c.args.classes file written tables c.first_padded_unit.result c.first_padded_unit.ensures c.in-Some-first_padded_unit.place c.in-Some-first_padded_unit.is

pub returns-in-Some-first_padded_unit-clause-tidy : goal.returns-in-Some-first_padded_unit-clause-tidy
returns-in-Some-first_padded_unit-clause-tidy c = not_tidy c.args.classes c.args.before.now.image c.args.after.now.image c.in-Some-first_padded_unit.place (returns-in-Some-first_padded_unit-clause-first c)

pub returns-in-Some-first_line_amiss-clause-first : goal.returns-in-Some-first_line_amiss-clause-first
returns-in-Some-first_line_amiss-clause-first c =
    let file = c.args.before.now.image in
    let written = c.args.after.now.image in
    let places = places_none c.args.classes file written c.image.result.now c.image-2.result.now c.image.ensures c.image-2.ensures c.in_ok-place.field-0 c.in_ok-place.ensures.first c.in_default.is in
    let tables = tables_none c.args.classes file written places c.in_ok-place-2.field-0 c.in_ok-place-2.ensures.first c.in_default-2.is in
    let units = units_none c.args.classes file written tables c.first_padded_unit.result c.first_padded_unit.ensures c.in_default-first_padded_unit.is in
    programs_first c.args.classes file written units c.first_line_amiss.result c.first_line_amiss.ensures c.in-Some-first_line_amiss.place c.in-Some-first_line_amiss.is

pub returns-in-Some-first_line_amiss-clause-tidy : goal.returns-in-Some-first_line_amiss-clause-tidy
returns-in-Some-first_line_amiss-clause-tidy c = not_tidy c.args.classes c.args.before.now.image c.args.after.now.image c.in-Some-first_line_amiss.place (returns-in-Some-first_line_amiss-clause-first c)

pub returns-in-Some-3-clause-first : goal.returns-in-Some-3-clause-first
returns-in-Some-3-clause-first c =
    let file = c.args.before.now.image in
    let written = c.args.after.now.image in
    let places = places_none c.args.classes file written c.image.result.now c.image-2.result.now c.image.ensures c.image-2.ensures c.in_ok-place.field-0 c.in_ok-place.ensures.first c.in_default.is in
    let tables = tables_none c.args.classes file written places c.in_ok-place-2.field-0 c.in_ok-place-2.ensures.first c.in_default-2.is in
    let units = units_none c.args.classes file written tables c.first_padded_unit.result c.first_padded_unit.ensures c.in_default-first_padded_unit.is in
    let programs = programs_none c.args.classes file written units c.first_line_amiss.result c.first_line_amiss.ensures c.in_default-first_line_amiss.is in
    lists_first c.args.classes file written programs c.in_ok-place-3.field-0 c.in_ok-place-3.ensures c.in-Some-3.place c.in-Some-3.is

pub returns-in-Some-3-clause-tidy : goal.returns-in-Some-3-clause-tidy
returns-in-Some-3-clause-tidy c = not_tidy c.args.classes c.args.before.now.image c.args.after.now.image c.in-Some-3.place (returns-in-Some-3-clause-first c)

pub returns-in-Some-first_changed_list-clause-first : goal.returns-in-Some-first_changed_list-clause-first
returns-in-Some-first_changed_list-clause-first c =
    let file = c.args.before.now.image in
    let written = c.args.after.now.image in
    let places = places_none c.args.classes file written c.image.result.now c.image-2.result.now c.image.ensures c.image-2.ensures c.in_ok-place.field-0 c.in_ok-place.ensures.first c.in_default.is in
    let tables = tables_none c.args.classes file written places c.in_ok-place-2.field-0 c.in_ok-place-2.ensures.first c.in_default-2.is in
    let units = units_none c.args.classes file written tables c.first_padded_unit.result c.first_padded_unit.ensures c.in_default-first_padded_unit.is in
    let programs = programs_none c.args.classes file written units c.first_line_amiss.result c.first_line_amiss.ensures c.in_default-first_line_amiss.is in
    let lists = lists_none c.args.classes file written programs c.in_ok-place-3.field-0 c.in_ok-place-3.ensures c.in_default-3.is in
    changed_first c.args.classes file written lists c.first_changed_list.result c.first_changed_list.ensures c.in-Some-first_changed_list.place c.in-Some-first_changed_list.is

pub returns-in-Some-first_changed_list-clause-tidy : goal.returns-in-Some-first_changed_list-clause-tidy
returns-in-Some-first_changed_list-clause-tidy c = not_tidy c.args.classes c.args.before.now.image c.args.after.now.image c.in-Some-first_changed_list.place (returns-in-Some-first_changed_list-clause-first c)

pub returns-clause-tidy : goal.returns-clause-tidy
returns-clause-tidy c =
    let file = c.args.before.now.image in
    let written = c.args.after.now.image in
    let places = places_none c.args.classes file written c.image.result.now c.image-2.result.now c.image.ensures c.image-2.ensures c.in_ok-place.field-0 c.in_ok-place.ensures.first c.in_default.is in
    let tables = tables_none c.args.classes file written places c.in_ok-place-2.field-0 c.in_ok-place-2.ensures.first c.in_default-2.is in
    let units = units_none c.args.classes file written tables c.first_padded_unit.result c.first_padded_unit.ensures c.in_default-first_padded_unit.is in
    let programs = programs_none c.args.classes file written units c.first_line_amiss.result c.first_line_amiss.ensures c.in_default-first_line_amiss.is in
    let lists = lists_none c.args.classes file written programs c.in_ok-place-3.field-0 c.in_ok-place-3.ensures c.in_default-3.is in
    let changed = changed_none c.args.classes file written lists c.first_changed_list.result c.first_changed_list.ensures c.in_default-first_changed_list.is in
    numbers_tidy c.args.classes file written changed c.first_long_number.result c.first_long_number.ensures

pub returns-clause-first : goal.returns-clause-first
returns-clause-first c =
    let file = c.args.before.now.image in
    let written = c.args.after.now.image in
    let places = places_none c.args.classes file written c.image.result.now c.image-2.result.now c.image.ensures c.image-2.ensures c.in_ok-place.field-0 c.in_ok-place.ensures.first c.in_default.is in
    let tables = tables_none c.args.classes file written places c.in_ok-place-2.field-0 c.in_ok-place-2.ensures.first c.in_default-2.is in
    let units = units_none c.args.classes file written tables c.first_padded_unit.result c.first_padded_unit.ensures c.in_default-first_padded_unit.is in
    let programs = programs_none c.args.classes file written units c.first_line_amiss.result c.first_line_amiss.ensures c.in_default-first_line_amiss.is in
    let lists = lists_none c.args.classes file written programs c.in_ok-place-3.field-0 c.in_ok-place-3.ensures c.in_default-3.is in
    let changed = changed_none c.args.classes file written lists c.first_changed_list.result c.first_changed_list.ensures c.in_default-first_changed_list.is in
    numbers_first c.args.classes file written changed c.first_long_number.result c.first_long_number.ensures

pub returns-clause-columns : goal.returns-clause-columns
returns-clause-columns c = known_anyway (HaveLeastColumns c.args.classes c.args.after.now.image c.args.after.now.image) c.first_long_number.result (c.in_ok-place-2.ensures.columns (ap is_some c.in_default-2.is))

pub returns-clause-codes : goal.returns-clause-codes
returns-clause-codes c = known_anyway (HaveLeastCodes c.args.after.now.image c.args.after.now.image) c.first_long_number.result (c.in_ok-place-2.ensures.codes (ap is_some c.in_default-2.is))
