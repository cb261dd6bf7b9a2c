use Rattle.std.proofs.Common.{◌≡◌, ◌≤◌, ◌<◌, ◌+◌, ◌*◌, ◌-◌, ◌∙◌, ℕ, List, sym, subst, arith}
use Rattle.std.specs.Prelude.{Some}
use Rattle.std.proofs.lemmas.List.{get_or_default}
use Rattle.list_model.specs.declared.contribution.Contribution.{Contribution}
use Rattle.list_model.specs.Contributions.{HoldsList, ContributionsTile}
use Rattle.value_links.specs.Reading.{part_at}
use Rattle.value_links.specs.ListPlaces.{IsListPlace}
use Rattle.value_links.specs.Parts.{section_held}
use Rattle.value_links.specs.inside.ListPlaces.{IsLastPart}
use Rattle.value_links.proofs.PartPlaces.{no_part, none_in_last}
use Rattle.value_links.proofs.list_places.holder_of.Goals as goal
use Rattle.value_links.proofs.list_places.holder_of.Goals.{else-bytes_before_lists-within-via-then-bytes_before_lists-within+else-within-part, else-bytes_before_lists-within-via-else-bytes_before_lists-within}

-- a place before the lists of a contribution, or past its end
before_lists : (part : Contribution) (place bytes : ℕ) → part.at ≤ place → bytes ≡ 12 + 4 * part.slots → place - part.at < bytes → HoldsList part place → ⊥
before_lists part place bytes from e less holds =
    let after : part.at + 12 + 4 * part.slots ≤ place = holds.after in
    omega arith

past_end : (part : Contribution) (place : ℕ) → part.at ≤ place → part.len ≤ place - part.at → HoldsList part place → ⊥
past_end part place from past holds =
    let before : place < part.at + part.len = holds.before in
    omega arith

pub returns-else-bytes_before_lists-within : goal.returns-else-bytes_before_lists-within
returns-else-bytes_before_lists-within c = λ (p : ℕ) (there : IsListPlace (section_held c.args.contributions.now) p c.args.place).
    let held = c.args.contributions.now in
    let place = c.args.place in
    let last = c.in_ok-number.number in
    let tiled = c.requires.tiled.tiled in
    let is : IsLastPart held.parts.items place (Some last) = subst (λ (z : List Contribution). IsLastPart z place (Some last)) c.deref.ensures.value (c.in_ok-number.ensures.last held.section.now (subst (ContributionsTile held.section.now) (sym c.deref.ensures.value) tiled)) in
    let part = c.index-part.result.now in
    let same : part ≡ part_at (section_held held) last = c.index-part.ensures ∙ get_or_default held.parts.items last part no_part is.0 in
    let from : part.at ≤ place = subst (λ (z : Contribution). z.at ≤ place) (sym same) is.1 in
    let none : HoldsList part place → ⊥ = elim c.else-bytes_before_lists-within.branch [
      | else-bytes_before_lists-within-via-then-bytes_before_lists-within+else-within-part w ↦ past_end part place from (omega (arith, w.if-within-part.false))
      | else-bytes_before_lists-within-via-else-bytes_before_lists-within w ↦ before_lists part place c.bytes_before_lists.result from c.bytes_before_lists.ensures (omega (arith, w.if-bytes_before_lists-within.false))
    ] in
    none_in_last held.section.now held.parts.items tiled place last p is (subst (λ (z : Contribution). HoldsList z place → ⊥) same none) there
