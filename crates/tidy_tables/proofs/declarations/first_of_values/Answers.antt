use Rattle.std.proofs.Common.{ℕ, ap, arith}
use Rattle.tidy_tables.proofs.DeclarationPlaces.{first_found, none_more, short_below_more}
use Rattle.tidy_tables.proofs.declarations.first_of_values.Goals as goal

pub returns-then-is_untidy : goal.returns-then-is_untidy
returns-then-is_untidy c = record {
  least = λ units holds.
      let table = c.args.table.now in
      let n : ℕ = c.loop-number.number in
      first_found c.args.classes units table c.requires.stands n c.decl.result.at (omega (arith, c.loop-number-test.true, c.len-number-end.ensures)) (ap (λ d. d.at) c.decl.ensures) (c.loop-number.invariant.tidy units holds) ((c.is_untidy.ensures.untidy units holds).0 c.if-is_untidy.true);
  short = λ units holds none. absurd (cc none);
}

pub loop-number-preserved : goal.loop-number-preserved
loop-number-preserved c = record {
  tidy = λ units holds.
      none_more c.args.classes units c.args.table.now c.requires.stands c.loop-number.number (c.loop-number.invariant.tidy units holds) (λ untidy. let is = (c.is_untidy.ensures.untidy units holds).1 untidy in absurd (cc (is, c.if-is_untidy.false)));
  short = λ units holds.
      short_below_more c.args.classes units c.args.table.now c.loop-number.number (c.loop-number.invariant.short units holds) (c.is_untidy.ensures.short units holds c.if-is_untidy.false);
}

pub returns : goal.returns
returns c = record {
  least = λ units holds p (k, below, place, untidy). c.loop-number.invariant.tidy units holds p (k, omega (arith, below, c.loop-number-test.false, c.len-number-end.ensures), place, untidy);
  short = λ units holds _ k below. c.loop-number.invariant.short units holds k (omega (arith, below, c.loop-number-test.false, c.len-number-end.ensures));
}
