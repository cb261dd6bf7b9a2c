use Rattle.std.proofs.Common.{◌≡◌, ℕ, true, false, refl, arith}
use Rattle.tidy_tables.proofs.DeclarationPlaces.{column_told, short_more, none_long, columns_same}
use Rattle.tidy_tables.proofs.declarations.has_long_column.Goals as goal

pub loop-j-preserved : goal.loop-j-preserved
loop-j-preserved c = λ units holds.
    let table = c.args.table.now in
    let k : ℕ = c.args.number in
    let j : ℕ = c.loop-j.j in
    let cs = c.columns-columns.result.now in
    let tells = column_told c.args.classes units table c.requires.stands c.args.values.now holds k c.requires.known c.decl-first.result c.decl-first.ensures cs c.columns-columns.ensures j c.loop-j-test.true c.is_least.result c.is_least.ensures in
    let is : c.is_least.result ≡ true = c.if-not-is_least.false in
    short_more c.args.classes units table c.requires.stands c.args.values.now holds k c.requires.known c.decl-first.result c.decl-first.ensures cs c.columns-columns.ensures j c.loop-j-test.true (c.loop-j.invariant units holds) (tells.0 is)

pub returns-then-not-is_least : goal.returns-then-not-is_least
returns-then-not-is_least c = record {
  long = λ units holds.
      let table = c.args.table.now in
      let k : ℕ = c.args.number in
      let j : ℕ = c.loop-j.j in
      let cs = c.columns-columns.result.now in
      let tells = column_told c.args.classes units table c.requires.stands c.args.values.now holds k c.requires.known c.decl-first.result c.decl-first.ensures cs c.columns-columns.ensures j c.loop-j-test.true c.is_least.result c.is_least.ensures in
      let same = columns_same c.args.classes units table c.requires.stands c.args.values.now holds k c.requires.known c.decl-first.result c.decl-first.ensures cs c.columns-columns.ensures in
      let is : c.is_least.result ≡ false = c.if-not-is_least.true in
      (λ _. (j, omega (arith, same, c.loop-j-test.true), λ least. (let told = tells.1 least in absurd (cc (told, is)))), λ long. refl);
  short = λ units holds is. absurd (cc is);
}

pub returns : goal.returns
returns c = record {
  long = λ units holds.
      let table = c.args.table.now in
      let k : ℕ = c.args.number in
      let cs = c.columns-columns.result.now in
      let same = columns_same c.args.classes units table c.requires.stands c.args.values.now holds k c.requires.known c.decl-first.result c.decl-first.ensures cs c.columns-columns.ensures in
      let none = none_long c.args.classes units table c.requires.stands c.args.values.now holds k c.requires.known c.loop-j.j (omega (arith, same, c.loop-j-test.false)) (c.loop-j.invariant units holds) in
      (λ is. absurd (cc is), λ long. absurd (none long));
  short = λ units holds _ j below.
      let same = columns_same c.args.classes units c.args.table.now c.requires.stands c.args.values.now holds c.args.number c.requires.known c.decl-first.result c.decl-first.ensures c.columns-columns.result.now c.columns-columns.ensures in
      c.loop-j.invariant units holds j (omega (arith, same, below, c.loop-j-test.false));
}
