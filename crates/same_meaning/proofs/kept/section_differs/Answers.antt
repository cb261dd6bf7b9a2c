use Rattle.std.proofs.Common.{sym, inl, inr}
use Rattle.std.proofs.lemmas.Bool.{both_ways}
use Rattle.same_meaning.proofs.KeptFound.{differs_in, differs_by, parts_in}
use Rattle.same_meaning.proofs.kept.section_differs.Goals as goal

pub returns-then-has_other_parts : goal.returns-then-has_other_parts
returns-then-has_other_parts c =
    let parts = parts_in c.image.result.now c.image-2.result.now c.args.before.now.image c.args.after.now.image c.args.section c.image.ensures c.image-2.ensures (c.has_other_parts.ensures.0 c.if-has_other_parts.true) in
    (λ is. differs_in c.args.before.now.image c.args.after.now.image c.args.section (inl parts), λ differ. c.if-has_other_parts.true)

pub returns-else-has_other_parts : goal.returns-else-has_other_parts
returns-else-has_other_parts c = (
  λ is. differs_in c.args.before.now.image c.args.after.now.image c.args.section (inr (c.has_other_aranges.ensures.0 is)),
  λ differ. elim (differs_by c.args.before.now.image c.args.after.now.image c.args.section differ) [
    | inl parts ↦ absurd (both_ways c.has_other_parts.result c.if-has_other_parts.false (c.has_other_parts.ensures.1 (parts_in c.args.before.now.image c.args.after.now.image c.image.result.now c.image-2.result.now c.args.section (sym c.image.ensures) (sym c.image-2.ensures) parts)))
    | inr aranges ↦ c.has_other_aranges.ensures.1 aranges
  ],
)
