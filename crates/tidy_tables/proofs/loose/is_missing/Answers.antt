use Rattle.std.proofs.Common.{◌≡◌, ◌∙◌, ℕ, List, length, ap, sym, subst, arith}
use Rattle.std.specs.Prelude.{◌↔◌, Bool, IsTrue}
use Rattle.std.proofs.lemmas.Result.{IfOk-weaker}
use Rattle.value_links.specs.declared.units.NamedTable.{NamedTable}
use Rattle.value_links.specs.World.{World}
use Rattle.tidy_tables.specs.Untidy.{IsMissing}
use Rattle.tidy_tables.specs.inside.Compared.{OfBoth}
use Rattle.tidy_tables.specs.inside.Namers.{AreWrittenAsOne}
use Rattle.tidy_tables.specs.inside.WrittenTables.{AreWrittenAs, AreNumbersOf}
use Rattle.tidy_tables.proofs.TableReadings.{missing_to, missing_from, written_known}
use Rattle.tidy_tables.proofs.UntidyTables.{some_namer, as_many_units}
use Rattle.tidy_tables.proofs.loose.is_missing.Goals as goal

pub written_numbers-requires-clause-units : goal.written_numbers-requires-clause-units
written_numbers-requires-clause-units c =
    ap (λ (z : List ℕ). length z) c.table_numbers-2.ensures ∙ as_many_units c.args.before.now c.args.after.now c.requires.before.0 c.requires.after.0 c.requires.before.1 c.requires.after.1 c.requires.same ∙ sym (ap (λ (z : List ℕ). length z) c.table_numbers.ensures)

pub written_numbers-requires-clause-named : goal.written_numbers-requires-clause-named
written_numbers-requires-clause-named c =
    some_namer c.args.before.now c.requires.before.0 c.requires.before.1 c.table_numbers.result.now.items c.len.result c.table_numbers.ensures (omega (arith, c.tables.result.now.ok.0, ap (λ (z : List NamedTable). length z) c.tables.ensures))

-- what was asked of the worlds is theirs
are_written : (a b : World) (old_of new_of : List ℕ) (count : ℕ) (written : List ℕ) → old_of ≡ a.table_of → new_of ≡ b.table_of → count ≡ length a.tables → AreWrittenAs old_of new_of count written → AreWrittenAs a.table_of b.table_of (length a.tables) written
are_written a b old_of new_of count written old_is new_is count_is are =
    subst (λ (z : ℕ). AreWrittenAs a.table_of b.table_of z written) count_is (subst (λ (z : List ℕ). AreWrittenAs a.table_of z count written) new_is (subst (λ (z : List ℕ). AreWrittenAs z new_of count written) old_is are))

pub are_written_as_one-requires : goal.are_written_as_one-requires
are_written_as_one-requires c =
    let a = c.args.before.now in
    let b = c.args.after.now in
    let one = c.requires.before.1 in
    let two = c.requires.after.1 in
    let size = as_many_units a b c.requires.before.0 c.requires.after.0 one two c.requires.same in
    let count : c.len.result ≡ length a.tables = omega (arith, c.tables.result.now.ok.0, ap (λ (z : List NamedTable). length z) c.tables.ensures) in
    let are = are_written a b c.table_numbers.result.now.items c.table_numbers-2.result.now.items c.len.result c.in_ok-written.written.items c.table_numbers.ensures c.table_numbers-2.ensures count c.in_ok-written.ensures in
    let known : AreNumbersOf b.tables c.in_ok-written.written.items = written_known a b one.r two.r one.holds.tables two.holds.tables size c.in_ok-written.written.items are in
    let count_there : c.len-2.result ≡ length b.tables = omega (arith, c.tables-2.result.now.ok.0, ap (λ (z : List NamedTable). length z) c.tables-2.ensures) in
    λ k below. (let less = known k below in omega (arith, less, count_there))

pub returns : goal.returns
returns c =
    let a = c.args.before.now in
    let b = c.args.after.now in
    let size = as_many_units a b c.requires.before.0 c.requires.after.0 c.requires.before.1 c.requires.after.1 c.requires.same in
    let count : c.len.result ≡ length a.tables = omega (arith, c.tables.result.now.ok.0, ap (λ (z : List NamedTable). length z) c.tables.ensures) in
    let written : List ℕ = c.in_ok-written.written.items in
    let are = are_written a b c.table_numbers.result.now.items c.table_numbers-2.result.now.items c.len.result written c.table_numbers.ensures c.table_numbers-2.ensures count c.in_ok-written.ensures in
    IfOk-weaker c.are_written_as_one.result
    (λ (one : Bool). IsTrue one ↔ AreWrittenAsOne written)
    (λ (one : Bool). OfBoth a b (λ r s. IsTrue one ↔ IsMissing r.links s.links))
    (λ (one : Bool) told r s read holds again holds_again. (
      λ is. missing_to a b r s holds.tables holds_again.tables size written are (told.0 is),
      λ missing. told.1 (missing_from a b r s holds.tables holds_again.tables size written are missing),
    ))
    c.are_written_as_one.ensures
