use Rattle.std.proofs.Common.{◌≡◌, ◌∙◌, ℕ, ap, subst, inl, inr, arith}
use Rattle.std.proofs.lemmas.Bool.{cases_lt, both_ways}
use Rattle.elf_sections.specs.Elf.{section_count}
use Rattle.same_meaning.specs.Kept.{SectionDiffers}
use Rattle.same_meaning.proofs.kept.first_section.Goals as goal

pub returns-then-section_differs : goal.returns-then-section_differs
returns-then-section_differs c =
    let count = c.count-section-end.ensures ∙ ap section_count c.image.ensures in
    ((omega arith, c.section_differs.ensures.0 c.if-section_differs.true), λ j below differs. c.loop-section.invariant j below differs.1)

pub loop-section-preserved : goal.loop-section-preserved
loop-section-preserved c = λ i below differs. elim (cases_lt i c.loop-section.section) [
  | inl before ↦ c.loop-section.invariant i before differs
  | inr at ↦
      let here : i ≡ c.loop-section.section = omega arith in
      both_ways c.section_differs.result c.if-section_differs.false (c.section_differs.ensures.1 (subst (λ (j : ℕ). SectionDiffers c.args.before.now.image c.args.after.now.image j) here differs))
]

pub returns : goal.returns
returns c =
    let count = c.count-section-end.ensures ∙ ap section_count c.image.ensures in
    λ i differs. let below = differs.0 in c.loop-section.invariant i (omega arith) differs.1
