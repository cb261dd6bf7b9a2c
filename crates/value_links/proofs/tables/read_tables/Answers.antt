use Rattle.std.proofs.Common.{◌<◌, length, get_or, sym, subst}
use Rattle.std.specs.List.{All}
use Rattle.std.proofs.lemmas.List.Elements.{All-push}
use Rattle.std.proofs.lemmas.Grind.{get_or_default_zero}
use Rattle.std.proofs.lemmas.Result.{err_from_is_err_and}
use Rattle.value_links.specs.inside.Tabled.{IsNamed}
use Rattle.value_links.proofs.Refusing.{refused_more}
use Rattle.value_links.proofs.TableLaws.{places_push}
use Rattle.value_links.proofs.tables.read_tables.Goals as goal

pub read_named-requires-clause-inside : goal.read_named-requires-clause-inside
read_named-requires-clause-inside c =
    let places = c.args.places.now in
    let i = c.loop-place.place-index in
    let inside : i < length places = c.loop-place-test.true in
    c.requires.inside (get_or places i 0) (i, inside, get_or_default_zero places i (get_or places i 0) inside)

pub returns-in_err-table-clause-fault : goal.returns-in_err-table-clause-fault
returns-in_err-table-clause-fault c =
    let places = c.args.places.now in
    let i = c.loop-place.place-index in
    let inside : i < length places = c.loop-place-test.true in
    let p = err_from_is_err_and c.from_residual.result c.from_residual.ensures.1 in
    rw (p.1, p.2) (refused_more _ _ (λ fault f. (get_or places i 0, (i, inside, get_or_default_zero places i (get_or places i 0) inside), f)) c.in_err-table.field-0.0 c.in_err-table.ensures.fault)

pub loop-place-preserved : goal.loop-place-preserved
loop-place-preserved c = record {
  places = places_push c.loop-place.tables.items c.push_table.new.tables.items c.in_ok-table.table c.args.places.now c.loop-place.place-index c.in_ok-push_table.ensures c.loop-place.invariant.places c.loop-place-test.true c.in_ok-table.ensures.place;
  each = subst (All (IsNamed c.args.abbrevs.now)) (sym c.in_ok-push_table.ensures) (All-push (IsNamed c.args.abbrevs.now) c.loop-place.tables.items c.in_ok-table.table c.loop-place.invariant.each c.in_ok-table.ensures.table);
}
