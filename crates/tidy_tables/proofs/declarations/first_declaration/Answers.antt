use Rattle.std.proofs.Common.{◌≡◌, ◌<◌, ◌^◌, ◌+◌, ◌∙◌, ℕ, List, [], length, sym, ap, subst, arith}
use Rattle.std.specs.Prelude.{Option, IsNone}
use Rattle.std.proofs.lemmas.List.{get_or_default}
use Rattle.entry_read.specs.Units.{HeadAndForest}
use Rattle.value_links.specs.declared.units.NamedTable.{NamedTable}
use Rattle.value_links.specs.World.{World, table_at}
use Rattle.tidy_places.specs.Firsts.{IsLeastFound}
use Rattle.tidy_tables.specs.inside.UntidyDeclarations.{AreAllShort, AreShortAmong, IsUntidyIn, IsUntidyAmong}
use Rattle.tidy_tables.proofs.UnitsOfTables.{few_numbers}
use Rattle.tidy_tables.proofs.DeclarationsOfWorlds.{among_more, short_among_more, first_of_all, all_short, listed_namers}
use Rattle.tidy_tables.proofs.declarations.first_declaration.Goals as goal

pub units_by_table-requires-clause-few : goal.units_by_table-requires-clause-few
units_by_table-requires-clause-few c =
    let is = c.requires.after.1 in
    subst (λ (ns : List ℕ). length ns < 2 ^ 32) (sym c.table_numbers.ensures) (few_numbers c.args.after.now is.r is.read is.holds)

pub first_of_table-requires : goal.first_of_table-requires
first_of_table-requires c =
    let is = c.requires.after.1 in
    let used = c.requires.used is.r is.r is.read is.holds is.read is.holds in
    listed_namers c.args.after.now is.r is.read is.holds used c.units.result.now.items c.units.ensures c.tables-tables.result.now.items c.tables-tables.ensures c.table_numbers.result.now.items c.table_numbers.ensures c.in_ok-named.named.items c.len.result (omega (arith, c.len.ensures)) c.in_ok-named.ensures c.loop-i.i (omega (arith, c.loop-i-test.true, c.len-i-end.ensures)) c.index-in-loop-i.result.now c.index-in-loop-i.ensures c.index.result.now c.index.ensures

pub loop-i-preserved : goal.loop-i-preserved
loop-i-preserved c =
    let world : World = c.args.after.now in
    let i : ℕ = c.loop-i.i in
    let table : NamedTable = c.index-in-loop-i.result.now in
    let tables : List NamedTable = c.tables-tables.result.now.items in
    let table_is : table ≡ table_at world.tables i = c.index-in-loop-i.ensures ∙ get_or_default tables i table (table_at [] 0) (omega (arith, c.loop-i-test.true, c.len-i-end.ensures)) ∙ ap (λ (ts : List NamedTable). table_at ts i) c.tables-tables.ensures in
    record {
      least =
          let here : IsLeastFound (IsUntidyIn c.args.classes world.units table) c.in_ok-place.place = subst (λ (us : List HeadAndForest). IsLeastFound (IsUntidyIn c.args.classes us table) c.in_ok-place.place) c.units.ensures c.in_ok-place.ensures.least in
          let own : IsLeastFound (IsUntidyIn c.args.classes world.units (table_at world.tables i)) c.in_ok-place.place = subst (λ (t : NamedTable). IsLeastFound (IsUntidyIn c.args.classes world.units t) c.in_ok-place.place) table_is here in
          subst (λ (o : Option ℕ). IsLeastFound (IsUntidyAmong c.args.classes world.units world.tables (i + 1)) o) (sym c.lesser-first.ensures) (among_more c.args.classes world.units world.tables i c.loop-i.first c.in_ok-place.place c.loop-i.invariant.least own);
      short =
          let here : IsNone c.in_ok-place.place → AreAllShort c.args.classes world.units table = subst (λ (us : List HeadAndForest). IsNone c.in_ok-place.place → AreAllShort c.args.classes us table) c.units.ensures c.in_ok-place.ensures.short in
          let own : IsNone c.in_ok-place.place → AreAllShort c.args.classes world.units (table_at world.tables i) = subst (λ (t : NamedTable). IsNone c.in_ok-place.place → AreAllShort c.args.classes world.units t) table_is here in
          subst (λ (o : Option ℕ). IsNone o → AreShortAmong c.args.classes world.units world.tables (i + 1)) (sym c.lesser-first.ensures) (short_among_more c.args.classes world.units world.tables i c.loop-i.first c.in_ok-place.place c.loop-i.invariant.short own);
    }

pub returns : goal.returns
returns c =
    let all : c.loop-i.i ≡ length c.args.after.now.tables = omega (arith, c.loop-i-test.false, c.loop-i.auto.i-end, c.len-i-end.ensures, ap length c.tables-tables.ensures) in
    record {
      least = λ r s before held read holds. first_of_all c.args.after.now s read holds c.args.classes c.loop-i.i c.loop-i.first all c.loop-i.invariant.least;
      short = λ none r s before held read holds. all_short c.args.after.now s read holds c.args.classes c.loop-i.i all (c.loop-i.invariant.short none);
    }
