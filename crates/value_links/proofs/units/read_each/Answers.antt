use Rattle.std.proofs.Common.{◌≡◌, ◌∙◌, [], get_or, ap, subst}
use Rattle.std.proofs.lemmas.List.{get_or_default}
use Rattle.std.proofs.lemmas.Result.{err_from_is_err_and}
use Rattle.std.proofs.lemmas.List.Elements.{All-get_or}
use Rattle.entry_read.specs.Heads.{head_numbered}
use Rattle.entry_read.specs.Units.{declarations_of, IsTable, IsUnitHeld}
use Rattle.value_links.specs.declared.units.NamedTable.{NamedTable}
use Rattle.value_links.specs.inside.Tabled.{IsNamed}
use Rattle.value_links.specs.World.{table_at}
use Rattle.value_links.proofs.Refusing.{refused_more}
use Rattle.value_links.proofs.Fronts.{IsNext, nothing_held, front_push, next_fault, table_named}
use Rattle.value_links.proofs.units.read_each.Goals as goal

pub loop-number-init : goal.loop-number-init
loop-number-init c = λ abbrevs named. nothing_held c.args.info.now abbrevs c.args.heads.now c.args.tables.now c.args.numbers.now c.new-units.result.items c.new-units.ensures.items

pub read_unit-requires-clause-table : goal.read_unit-requires-clause-table
read_unit-requires-clause-table c =
    let tables = c.args.tables.now in
    let i = c.loop-number.number in
    let number = table_named c.args.heads.now tables c.args.numbers.now i c.requires.numbers c.loop-number-test.true in
    All-get_or (λ (t : NamedTable). IsTable t.table) tables (get_or c.args.numbers.now i 0) c.index-tables-numbers.result number.0 c.requires.tables

pub returns-in_err-unit-clause-fault : goal.returns-in_err-unit-clause-fault
returns-in_err-unit-clause-fault c =
    let p = err_from_is_err_and c.from_residual.result c.from_residual.ensures.1 in
    rw (p.1, p.2) (λ abbrevs tile named.
    let info = c.args.info.now in
    let heads = c.args.heads.now in
    let tables = c.args.tables.now in
    let numbers = c.args.numbers.now in
    let i = c.loop-number.number in
    let d = c.index-tables-numbers.result in
    let (inside, names) = table_named heads tables numbers i c.requires.numbers c.loop-number-test.true in
    let t : NamedTable = get_or tables (get_or numbers i 0) d in
    let is : t ≡ table_at tables (get_or numbers i 0) = get_or_default tables (get_or numbers i 0) d (table_at [] 0) inside in
    let known : IsNamed abbrevs t = All-get_or (IsNamed abbrevs) tables (get_or numbers i 0) d inside named in
    let here : t.place ≡ (head_numbered heads i).table = ap (λ (z : NamedTable). z.place) is ∙ names in
    refused_more _ _ (λ fault f. (f.0, f.1, next_fault info abbrevs heads tables numbers c.loop-number.units.items c.loop-number.before i (c.loop-number.invariant abbrevs named) c.loop-number-test.true t fault.kind f.0 tile here known f.2)) c.in_err-unit.field-0.0 c.in_err-unit.ensures.fault)

pub loop-number-preserved : goal.loop-number-preserved
loop-number-preserved c = λ abbrevs named.
    let info = c.args.info.now in
    let heads = c.args.heads.now in
    let tables = c.args.tables.now in
    let numbers = c.args.numbers.now in
    let i = c.loop-number.number in
    let d = c.index-tables-numbers.result in
    let (inside, names) = table_named heads tables numbers i c.requires.numbers c.loop-number-test.true in
    let t : NamedTable = get_or tables (get_or numbers i 0) d in
    let is : t ≡ table_at tables (get_or numbers i 0) = get_or_default tables (get_or numbers i 0) d (table_at [] 0) inside in
    let known : IsNamed abbrevs t = All-get_or (IsNamed abbrevs) tables (get_or numbers i 0) d inside named in
    let held : IsUnitHeld info (head_numbered heads i) (declarations_of t.table) c.in_ok-unit.unit.forest = c.in_ok-unit.ensures.unit in
    let next : IsNext info abbrevs (head_numbered heads i) (table_at tables (get_or numbers i 0)) c.in_ok-unit.unit = record {
      names = names;
      table = subst (IsNamed abbrevs) is known;
      heads = c.in_ok-unit.ensures.head;
      section = c.in_ok-unit.ensures.section;
      entries = subst (λ (z : NamedTable). IsUnitHeld info (head_numbered heads i) (declarations_of z.table) c.in_ok-unit.unit.forest) is held;
    } in
    front_push info abbrevs heads tables numbers c.loop-number.units.items c.loop-number.before i (c.loop-number.invariant abbrevs named) c.loop-number-test.true c.in_ok-unit.unit c.push_unit.new.units.items c.counted-before.result next c.in_ok-unit.ensures.within c.in_ok-push_unit.ensures c.counted-before.ensures
