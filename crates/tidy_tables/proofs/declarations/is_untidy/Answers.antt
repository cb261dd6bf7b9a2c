use Rattle.std.proofs.Common.{inl, inr}
use Rattle.tidy_tables.proofs.declarations.is_untidy.Goals as goal

pub returns-else-is_fallen : goal.returns-else-is_fallen
returns-else-is_fallen c = record {
  untidy = λ units holds.
      let long = c.has_long_column.ensures.long units holds in
      (λ is. inr (long.0 is), λ untidy. elim untidy [ inl fallen ↦ absurd (let is = c.is_fallen.ensures.1 fallen in cc (is, c.if-is_fallen.false)) | inr column ↦ long.1 column ]);
  short = c.has_long_column.ensures.short;
}
