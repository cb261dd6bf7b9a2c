use Rattle.std.proofs.Common.{◌≡◌, ◌+◌, ◌∙◌, inl, inr, ℕ, length, ap, arith}
use Rattle.std.specs.Prelude.{is_some}
use Rattle.value_links.specs.Sections.{debug_abbrev, offset_named, abbrev_name}
use Rattle.tidy_tables.specs.Rows.Row.{OfTable, OfLooseByte, OfMissingTable, OfDeclaration, OfEntry}
use Rattle.tidy_tables.proofs.TidyTables.{least_columns, least_codes}
use Rattle.tidy_tables.proofs.UntidyRows.{HoldsNowhere, rows_before, every_row, first_row, no_row, row_found, none_found, of_written, missing_first, none_missing, table_within, declaration_within, entry_within}
use Rattle.tidy_tables.proofs.first_untidy.Goals as goal

-- A TABLE

pub offset_in_file-requires : goal.offset_in_file-requires
offset_in_file-requires c =
    let a = c.args.before.now in
    let b = c.args.after.now in
    table_within c.args.classes a b c.requires.before c.requires.after c.requires.same c.in-Some.place (row_found c.args.classes a b OfTable c.in_ok-place.field-0 c.in_ok-place.ensures c.in-Some.place c.in-Some.is)

pub returns-in-Some-clause-first : goal.returns-in-Some-clause-first
returns-in-Some-clause-first c =
    let a = c.args.before.now in
    let b = c.args.after.now in
    first_row c.args.classes a b c.requires.before c.requires.after OfTable c.in-Some.place c.offset_in_file.result (row_found c.args.classes a b OfTable c.in_ok-place.field-0 c.in_ok-place.ensures c.in-Some.place c.in-Some.is) c.offset_in_file.ensures (λ row less. absurd (omega arith))

-- A BYTE OF NO TABLE

pub returns-in-Some-first_loose_byte-clause-first : goal.returns-in-Some-first_loose_byte-clause-first
returns-in-Some-first_loose_byte-clause-first c =
    let a = c.args.before.now in
    let b = c.args.after.now in
    let table : HoldsNowhere c.args.classes a b OfTable = none_found c.args.classes a b OfTable c.in_ok-place.field-0 c.in_ok-place.ensures c.in_default.is in
    first_row c.args.classes a b c.requires.before c.requires.after OfLooseByte c.in-Some-first_loose_byte.place c.offset_in_file-in-Some-first_loose_byte.result (row_found c.args.classes a b OfLooseByte c.first_loose_byte.result c.first_loose_byte.ensures c.in-Some-first_loose_byte.place c.in-Some-first_loose_byte.is) c.offset_in_file-in-Some-first_loose_byte.ensures
    (rows_before c.args.classes a b 1 (λ _. table) (λ less. absurd (omega arith)) (λ less. absurd (omega arith)) (λ less. absurd (omega arith)) (λ less. absurd (omega arith)))

-- A MISSING TABLE

pub returns-then-branch-clause-first : goal.returns-then-branch-clause-first
returns-then-branch-clause-first c =
    let a = c.args.before.now in
    let b = c.args.after.now in
    let table : HoldsNowhere c.args.classes a b OfTable = none_found c.args.classes a b OfTable c.in_ok-place.field-0 c.in_ok-place.ensures c.in_default.is in
    let loose : HoldsNowhere c.args.classes a b OfLooseByte = none_found c.args.classes a b OfLooseByte c.first_loose_byte.result c.first_loose_byte.ensures c.in_default-first_loose_byte.is in
    let size : length c.section.result.now ≡ length (debug_abbrev b.image) = ap length c.section.ensures in
    let place = c.offset_in_file-then-branch.ensures ∙ ap (λ (z : ℕ). offset_named b.image abbrev_name + z) size in
    first_row c.args.classes a b c.requires.before c.requires.after OfMissingTable (length (debug_abbrev b.image)) c.offset_in_file-then-branch.result (missing_first c.args.classes a b c.in_ok-is_missing.field-0 c.if-branch.true c.in_ok-is_missing.ensures) place
    (rows_before c.args.classes a b 2 (λ _. table) (λ _. loose) (λ less. absurd (omega arith)) (λ less. absurd (omega arith)) (λ less. absurd (omega arith)))

-- A DECLARATION

pub first_declaration-requires-clause-used : goal.first_declaration-requires-clause-used
first_declaration-requires-clause-used c = λ r s read holds again keeps q unused.
    let a = c.args.before.now in
    let b = c.args.after.now in
    let table : HoldsNowhere c.args.classes a b OfTable = none_found c.args.classes a b OfTable c.in_ok-place.field-0 c.in_ok-place.ensures c.in_default.is in
    let old = c.requires.before.1 in
    table old.r s old.read old.holds again keeps q (inr (inr (inr (inl unused))))

pub offset_in_file-requires-in-Some-2 : goal.offset_in_file-requires-in-Some-2
offset_in_file-requires-in-Some-2 c =
    let a = c.args.before.now in
    let b = c.args.after.now in
    declaration_within c.args.classes a b c.requires.before c.requires.after c.requires.same c.in-Some-2.place (row_found c.args.classes a b OfDeclaration c.in_ok-place-2.field-0 (of_written c.args.classes a b c.in_ok-place-2.field-0 c.in_ok-place-2.ensures.least) c.in-Some-2.place c.in-Some-2.is)

pub returns-in-Some-2-clause-first : goal.returns-in-Some-2-clause-first
returns-in-Some-2-clause-first c =
    let a = c.args.before.now in
    let b = c.args.after.now in
    let table : HoldsNowhere c.args.classes a b OfTable = none_found c.args.classes a b OfTable c.in_ok-place.field-0 c.in_ok-place.ensures c.in_default.is in
    let loose : HoldsNowhere c.args.classes a b OfLooseByte = none_found c.args.classes a b OfLooseByte c.first_loose_byte.result c.first_loose_byte.ensures c.in_default-first_loose_byte.is in
    let missing : HoldsNowhere c.args.classes a b OfMissingTable = none_missing c.args.classes a b c.in_ok-is_missing.field-0 c.if-branch.false c.in_ok-is_missing.ensures in
    first_row c.args.classes a b c.requires.before c.requires.after OfDeclaration c.in-Some-2.place c.offset_in_file-in-Some-2.result (row_found c.args.classes a b OfDeclaration c.in_ok-place-2.field-0 (of_written c.args.classes a b c.in_ok-place-2.field-0 c.in_ok-place-2.ensures.least) c.in-Some-2.place c.in-Some-2.is) c.offset_in_file-in-Some-2.ensures
    (rows_before c.args.classes a b 3 (λ _. table) (λ _. loose) (λ _. missing) (λ less. absurd (omega arith)) (λ less. absurd (omega arith)))

-- AN ENTRY

pub first_entry-requires-clause-once : goal.first_entry-requires-clause-once
first_entry-requires-clause-once c = λ r s read holds again keeps q further.
    let a = c.args.before.now in
    let b = c.args.after.now in
    let table : HoldsNowhere c.args.classes a b OfTable = none_found c.args.classes a b OfTable c.in_ok-place.field-0 c.in_ok-place.ensures c.in_default.is in
    table r s read holds again keeps q (inr (inr (inl further)))

pub offset_in_file-requires-in-Some-3 : goal.offset_in_file-requires-in-Some-3
offset_in_file-requires-in-Some-3 c =
    let a = c.args.before.now in
    let b = c.args.after.now in
    entry_within c.args.classes a b c.requires.before c.requires.after c.requires.same c.in-Some-3.place (row_found c.args.classes a b OfEntry c.in_ok-place-3.field-0 c.in_ok-place-3.ensures c.in-Some-3.place c.in-Some-3.is)

pub returns-in-Some-3-clause-first : goal.returns-in-Some-3-clause-first
returns-in-Some-3-clause-first c =
    let a = c.args.before.now in
    let b = c.args.after.now in
    let table : HoldsNowhere c.args.classes a b OfTable = none_found c.args.classes a b OfTable c.in_ok-place.field-0 c.in_ok-place.ensures c.in_default.is in
    let loose : HoldsNowhere c.args.classes a b OfLooseByte = none_found c.args.classes a b OfLooseByte c.first_loose_byte.result c.first_loose_byte.ensures c.in_default-first_loose_byte.is in
    let missing : HoldsNowhere c.args.classes a b OfMissingTable = none_missing c.args.classes a b c.in_ok-is_missing.field-0 c.if-branch.false c.in_ok-is_missing.ensures in
    let declaration : HoldsNowhere c.args.classes a b OfDeclaration = none_found c.args.classes a b OfDeclaration c.in_ok-place-2.field-0 (of_written c.args.classes a b c.in_ok-place-2.field-0 c.in_ok-place-2.ensures.least) c.in_default-2.is in
    first_row c.args.classes a b c.requires.before c.requires.after OfEntry c.in-Some-3.place c.offset_in_file-in-Some-3.result (row_found c.args.classes a b OfEntry c.in_ok-place-3.field-0 c.in_ok-place-3.ensures c.in-Some-3.place c.in-Some-3.is) c.offset_in_file-in-Some-3.ensures
    (rows_before c.args.classes a b 4 (λ _. table) (λ _. loose) (λ _. missing) (λ _. declaration) (λ less. absurd (omega arith)))

-- NOTHING

pub returns-in-None-clause-first : goal.returns-in-None-clause-first
returns-in-None-clause-first c =
    let a = c.args.before.now in
    let b = c.args.after.now in
    let table : HoldsNowhere c.args.classes a b OfTable = none_found c.args.classes a b OfTable c.in_ok-place.field-0 c.in_ok-place.ensures c.in_default.is in
    let loose : HoldsNowhere c.args.classes a b OfLooseByte = none_found c.args.classes a b OfLooseByte c.first_loose_byte.result c.first_loose_byte.ensures c.in_default-first_loose_byte.is in
    let missing : HoldsNowhere c.args.classes a b OfMissingTable = none_missing c.args.classes a b c.in_ok-is_missing.field-0 c.if-branch.false c.in_ok-is_missing.ensures in
    let declaration : HoldsNowhere c.args.classes a b OfDeclaration = none_found c.args.classes a b OfDeclaration c.in_ok-place-2.field-0 (of_written c.args.classes a b c.in_ok-place-2.field-0 c.in_ok-place-2.ensures.least) c.in_default-2.is in
    let entry : HoldsNowhere c.args.classes a b OfEntry = none_found c.args.classes a b OfEntry c.in_ok-place-3.field-0 c.in_ok-place-3.ensures c.in-None.is in
    no_row c.args.classes a b c.requires.before c.requires.after (every_row c.args.classes a b table loose missing declaration entry)

pub returns-in-None-clause-columns : goal.returns-in-None-clause-columns
returns-in-None-clause-columns c = λ _. least_columns c.args.after.now c.requires.after c.args.classes (c.in_ok-place-2.ensures.short (ap is_some c.in_default-2.is))

pub returns-in-None-clause-codes : goal.returns-in-None-clause-codes
returns-in-None-clause-codes c = λ _.
    let a = c.args.before.now in
    let b = c.args.after.now in
    least_codes b c.requires.after a c.requires.before c.args.classes (none_found c.args.classes a b OfTable c.in_ok-place.field-0 c.in_ok-place.ensures c.in_default.is)
