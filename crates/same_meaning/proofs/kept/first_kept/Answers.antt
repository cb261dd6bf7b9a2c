use Rattle.std.proofs.Common.{◌≡◌, ◌∙◌, ℕ, List, sym, ap, subst}
use Rattle.std.proofs.lemmas.Bool.{both_ways}
use Rattle.elf_sections.specs.Elf.{section_count}
use Rattle.same_meaning.specs.Kept.{DiffersOutside}
use Rattle.same_meaning.proofs.KeptFound.{kept_found}
use Rattle.same_meaning.proofs.kept.first_kept.Goals as goal

pub returns : goal.returns
returns c =
    let a = c.args.before.now.image in
    let b = c.args.after.now.image in
    let count : section_count b ≡ section_count a = ap section_count (sym c.image-new.ensures) ∙ sym c.count-2.ensures ∙ sym c.if-count.false ∙ c.count.ensures ∙ ap section_count c.image-old.ensures in
    let moved = λ (d : DiffersOutside a b). subst (λ (z : List ℕ). DiffersOutside z c.image-new.result.now) (sym c.image-old.ensures) (subst (λ (z : List ℕ). DiffersOutside a z) (sym c.image-new.ensures) d) in
    kept_found a b count (λ d. both_ways c.differs_outside.result c.if-differs_outside.false (c.differs_outside.ensures.1 (moved d))) c.first_section.result c.first_section.ensures
