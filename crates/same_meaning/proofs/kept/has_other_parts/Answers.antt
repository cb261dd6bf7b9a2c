use Rattle.std.proofs.Common.{◌∙◌, sym, inl, inr}
use Rattle.std.proofs.lemmas.Bool.{both_ways}
use Rattle.same_meaning.proofs.ByteParts.{compared}
use Rattle.same_meaning.proofs.kept.has_other_parts.Goals as goal

pub returns-else-has_other_place : goal.returns-else-has_other_place
returns-else-has_other_place c =
    let named = (compared c.name.result.now c.name-2.result.now c.ne.result c.ne.ensures).1 c.if-ne.false in (
      λ is. inr (inr (inr (c.has_other_body.ensures.0 is))),
      λ differ. elim differ [
        | inl name ↦ absurd (name (sym c.name-2.ensures ∙ sym named ∙ c.name.ensures))
        | inr more ↦ elim more [
          | inl field ↦ absurd (both_ways c.has_other_field.result c.if-has_other_field.false (c.has_other_field.ensures.1 field))
          | inr rest ↦ elim rest [
            | inl place ↦ absurd (both_ways c.has_other_place.result c.if-has_other_place.false (c.has_other_place.ensures.1 place))
            | inr body ↦ c.has_other_body.ensures.1 body
          ]
        ]
      ],
    )
