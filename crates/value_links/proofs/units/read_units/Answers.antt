use Rattle.std.proofs.Common.{◌≡◌, ◌∙◌, inl, inr, ℕ, List, length, sym, subst, rules}
use Rattle.std.specs.List.{All, Contains}
use Rattle.std.proofs.lemmas.Result.{err_from_is_err_and}
use Rattle.entry_read.specs.declared.head.UnitHead.{UnitHead}
use Rattle.entry_read.specs.Heads.{Tile}
use Rattle.value_links.specs.declared.units.NamedTable.{NamedTable}
use Rattle.value_links.specs.inside.Tabled.{AreTablePlaces, AreNumbers, IsNamed, HoldFront, places_of}
use Rattle.value_links.proofs.Refusing.{refused_more}
use Rattle.value_links.proofs.Fronts.{units_held, named_fault, places_inside}
use Rattle.value_links.proofs.units.read_units.Goals as goal

pub read_tables-requires-clause-inside : goal.read_tables-requires-clause-inside
read_tables-requires-clause-inside c = λ place among.
    let all = c.in_ok-all.all.items in
    let places = c.in_ok-places.places.items in
    let are = subst (λ (z : List UnitHead). AreTablePlaces z places) c.deref.ensures.value c.in_ok-places.ensures in
    places_inside all places (length c.args.abbrevs.now) place are c.in_ok-all.ensures.inside (subst (λ (z : List ℕ). Contains z place) c.deref-2.ensures.value among)

pub returns-in_err-tables-clause-fault : goal.returns-in_err-tables-clause-fault
returns-in_err-tables-clause-fault c =
    let info = c.args.info.now in
    let abbrevs = c.args.abbrevs.now in
    let all = c.in_ok-all.all.items in
    let places = c.in_ok-places.places.items in
    let are = subst (λ (z : List UnitHead). AreTablePlaces z places) c.deref.ensures.value c.in_ok-places.ensures in
    let refused = refused_more _ _ (λ fault f. named_fault info abbrevs all places c.args.info_origin c.args.abbrev_origin fault c.in_ok-all.ensures.tiled are c.in_ok-all.ensures.inside (f.0, subst (λ (z : List ℕ). Contains z f.0) c.deref-2.ensures.value f.1, f.2)) c.in_err-tables.field-0.0 c.in_err-tables.ensures.fault in
    search (rules, refused)

pub read_each-requires-clause-tables : goal.read_each-requires-clause-tables
read_each-requires-clause-tables c = λ k d inside.
    let abbrevs = c.args.abbrevs.now in
    let named = subst (λ (z : List NamedTable). All (IsNamed abbrevs) z) (sym c.deref-6.ensures.value) c.in_ok-tables.ensures.each in
    (abbrevs, _, (named k d inside).stands)

pub returns-in_err-units-clause-fault : goal.returns-in_err-units-clause-fault
returns-in_err-units-clause-fault c =
    let info = c.args.info.now in
    let abbrevs = c.args.abbrevs.now in
    let tile = subst (λ (z : List UnitHead). Tile info z) (sym c.deref-5.ensures.value) c.in_ok-all.ensures.tiled in
    let named = subst (λ (z : List NamedTable). All (IsNamed abbrevs) z) (sym c.deref-6.ensures.value) c.in_ok-tables.ensures.each in
    let p = err_from_is_err_and c.from_residual-in_err-units.result c.from_residual-in_err-units.ensures.1 in
    rw (p.1, p.2) (refused_more _ _ (λ fault f. inl (f.0, f.1, inr (inr f.2))) c.in_err-units.field-0.0 (c.in_err-units.ensures.fault abbrevs tile named))

pub returns-clause-read : goal.returns-clause-read
returns-clause-read c =
    let info = c.args.info.now in
    let abbrevs = c.args.abbrevs.now in
    let all = c.in_ok-all.all.items in
    let places = c.in_ok-places.places.items in
    let tables = c.in_ok-tables.tables.items in
    let numbers = c.in_ok-table_of.table_of.items in
    let units = c.in_ok-units.units.items in
    let are = subst (λ (z : List UnitHead). AreTablePlaces z places) c.deref.ensures.value c.in_ok-places.ensures in
    let same : places_of tables ≡ places = c.in_ok-tables.ensures.places ∙ c.deref-2.ensures.value in
    let by_heads = subst (λ (z : List UnitHead). AreNumbers z c.deref-4.result.now numbers) c.deref-3.ensures.value c.in_ok-table_of.ensures in
    let numbered = subst (λ (z : List ℕ). AreNumbers all z numbers) c.deref-4.ensures.value by_heads in
    let named = subst (λ (z : List NamedTable). All (IsNamed abbrevs) z) (sym c.deref-6.ensures.value) c.in_ok-tables.ensures.each in
    let (counts, front) = c.in_ok-units.ensures.read abbrevs named in
    let over_heads = subst (λ (z : List UnitHead). HoldFront info abbrevs z c.deref-6.result.now c.deref-7.result.now units counts (length z)) c.deref-5.ensures.value front in
    let over_tables = subst (λ (z : List NamedTable). HoldFront info abbrevs all z c.deref-7.result.now units counts (length all)) c.deref-6.ensures.value over_heads in
    let held = subst (λ (z : List ℕ). HoldFront info abbrevs all tables z units counts (length all)) c.deref-7.ensures.value over_tables in
    units_held info abbrevs all places (record { units = c.in_ok-units.units; tables = c.in_ok-tables.tables; table_of = c.in_ok-table_of.table_of }) counts c.in_ok-all.ensures.tiled are same numbered held
