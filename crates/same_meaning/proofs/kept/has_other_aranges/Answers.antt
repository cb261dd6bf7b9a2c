use Rattle.std.proofs.Common.{◌≡◌, ◌∙◌, ℕ, List, sym, ap, subst, inl, inr}
use Rattle.std.proofs.lemmas.Bool.{cases_Bool, both_ways}
use Rattle.elf_sections.specs.Elf.{body_of}
use Rattle.elf_sections.specs.Names.{name_of}
use Rattle.value_links.specs.Sections.{aranges_name}
use Rattle.companions.specs.declared.set.ArangeSet.{ArangeSet}
use Rattle.same_meaning.specs.inside.Parts.{DifferOutsideFields}
use Rattle.same_meaning.proofs.ByteParts.{compared}
use Rattle.same_meaning.proofs.OwnAranges.{tile_held, differs_outside, differs_by_units, differs_nowhere}
use Rattle.same_meaning.proofs.kept.has_other_aranges.Goals as goal

pub differ_outside_fields-requires : goal.differ_outside_fields-requires
differ_outside_fields-requires c =
    let i = c.args.section in
    let named : name_of c.args.before.now.image i ≡ aranges_name = ap (λ (z : List ℕ). name_of z i) (sym c.image-old.ensures) ∙ sym c.name.ensures ∙ (compared c.name.result.now aranges_name c.ne.result (cc)).1 c.if-ne.false in
    let body = c.body.ensures ∙ ap (λ (z : List ℕ). body_of z i) c.image-old.ensures in
    let after = c.body-2.ensures ∙ ap (λ (z : List ℕ). body_of z i) c.image-new.ensures in
    tile_held c.args.before.now c.args.after.now c.requires.before c.requires.after i c.requires.old named c.body.result.now c.body-2.result.now c.deref.result.now body after (c.deref.ensures.value ∙ c.aranges-sets.ensures)

pub returns-then-differ_outside_fields : goal.returns-then-differ_outside_fields
returns-then-differ_outside_fields c =
    let i = c.args.section in
    let named : name_of c.args.before.now.image i ≡ aranges_name = ap (λ (z : List ℕ). name_of z i) (sym c.image-old.ensures) ∙ sym c.name.ensures ∙ (compared c.name.result.now aranges_name c.ne.result (cc)).1 c.if-ne.false in
    let body = c.body.ensures ∙ ap (λ (z : List ℕ). body_of z i) c.image-old.ensures in
    let after = c.body-2.ensures ∙ ap (λ (z : List ℕ). body_of z i) c.image-new.ensures in
    (λ is. differs_outside c.args.before.now c.args.after.now c.requires.before c.requires.after i c.requires.old named c.body.result.now c.body-2.result.now c.deref.result.now body after (c.deref.ensures.value ∙ c.aranges-sets.ensures) (c.differ_outside_fields.ensures.0 is), λ differ. c.if-differ_outside_fields.true)

pub returns-else-differ_outside_fields : goal.returns-else-differ_outside_fields
returns-else-differ_outside_fields c =
    let i = c.args.section in
    let named : name_of c.args.before.now.image i ≡ aranges_name = ap (λ (z : List ℕ). name_of z i) (sym c.image-old.ensures) ∙ sym c.name.ensures ∙ (compared c.name.result.now aranges_name c.ne.result (cc)).1 c.if-ne.false in
    let body = c.body.ensures ∙ ap (λ (z : List ℕ). body_of z i) c.image-old.ensures in
    let after = c.body-2.ensures ∙ ap (λ (z : List ℕ). body_of z i) c.image-new.ensures in
    let sets = c.deref.ensures.value ∙ c.aranges-sets.ensures in
    let again = c.deref-else-differ_outside_fields.ensures.value ∙ c.aranges-sets.ensures in
    let others = c.deref-else-differ_outside_fields-2.ensures.value ∙ c.aranges.ensures in
    let none = subst (λ (z : List ArangeSet). DifferOutsideFields c.body.result.now c.body-2.result.now z → ⊥) (sets ∙ sym again) (λ differ. both_ways c.differ_outside_fields.result c.if-differ_outside_fields.false (c.differ_outside_fields.ensures.1 differ)) in
    elim (cases_Bool c.have_other_units.result) [
      | inl differ ↦ (λ is. differs_by_units c.args.before.now c.args.after.now c.requires.before c.requires.after i c.requires.old named c.body.result.now c.body-2.result.now c.deref-else-differ_outside_fields.result.now body after again c.deref-else-differ_outside_fields-2.result.now others (c.have_other_units.ensures.0 is), λ other. differ)
      | inr alike ↦ (λ is. absurd (both_ways c.have_other_units.result alike is), λ other. absurd (differs_nowhere c.args.before.now c.args.after.now c.requires.before c.requires.after i c.requires.old named c.body.result.now c.body-2.result.now c.deref-else-differ_outside_fields.result.now body after again c.deref-else-differ_outside_fields-2.result.now others none (λ differ. both_ways c.have_other_units.result alike (c.have_other_units.ensures.1 differ)) other))
    ]
