use Rattle.std.proofs.Common.{◌≡◌, ◌⊎◌, ◌∙◌, inl, inr, ℕ, List, false, sym, subst, refl}
use Rattle.std.proofs.lemmas.Bool.{true≢false}
use Rattle.list_model.specs.declared.entry.RawEntry.{RawEntry}
use Rattle.list_model.specs.declared.item.Item.{Item}
use Rattle.list_model.specs.declared.item.Meaning.{Meaning}
use Rattle.list_model.specs.declared.item.Meaning.TheVariants.{Live, Dead}
use Rattle.tidy_places.specs.Firsts.{IsLeastFound}
use Rattle.tidy_numbers.specs.LongLists.{AreLongOperandsOf, HoldsBehindCode}
use Rattle.tidy_numbers.specs.inside.ListEntries.{HoldsAmong}
use Rattle.tidy_numbers.proofs.ListPlaces.{where_found}
use Rattle.tidy_numbers.proofs.lists.first_in_kept.Goals as goal
use Rattle.tidy_numbers.proofs.lists.first_in_kept.Goals.{else-classes-via-then-classes+else-matches, in-Live, in_default, else-classes-via-else-classes}

-- what has no items is dead
dead_else : (meaning : Meaning) → ((items : List Item) → meaning ≡ Live items → ⊥) → meaning ≡ Dead
dead_else (Live items) none = absurd (none items refl)
dead_else Dead none = refl

pub returns : goal.returns
returns c =
    let Of : RawEntry → ℕ → Type 0 = HoldsBehindCode AreLongOperandsOf c.args.kind c.args.section.now in
    let kept : (c.args.classes.lists ≡ false) ⊎ (c.args.list.now.meaning ≡ Dead) = elim c.else-classes.branch [
      | else-classes-via-then-classes+else-matches w ↦ elim w.match-matches.branch [
        | in-Live v ↦ absurd (true≢false (sym v.matches-is ∙ w.if-matches.false))
        | in_default v ↦ inr (sym w.meaning.ensures ∙ dead_else w.meaning.result.now v.in_default.not-Live)
      ]
      | else-classes-via-else-classes w ↦ inl w.if-classes.false
    ] in
    where_found ((c.args.classes.lists ≡ false) ⊎ (c.args.list.now.meaning ≡ Dead)) (HoldsAmong Of c.args.list.now.raw) c.first_operand_in.result kept
    (subst (λ (z : List RawEntry). IsLeastFound (HoldsAmong Of z) c.first_operand_in.result) (c.deref.ensures.value ∙ c.entries.ensures) c.first_operand_in.ensures)
