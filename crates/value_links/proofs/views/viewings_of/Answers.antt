use Rattle.std.proofs.Common.{ℕ, List, length, subst}
use Rattle.std.proofs.lemmas.List.Filters.{dedup_is}
use Rattle.value_links.specs.Reading.{Linkable}
use Rattle.value_links.specs.Parts.{HoldsParts}
use Rattle.value_links.specs.inside.Namings.{AreJoined}
use Rattle.value_links.specs.inside.Views.{IsSomeViewing}
use Rattle.value_links.proofs.Viewings.{same_pair, viewings_rise, viewings_are}
use Rattle.value_links.proofs.views.viewings_of.Goals as goal

pub returns-clause-all : goal.returns-clause-all
returns-clause-all c = λ (file : List ℕ) (r : Linkable) (holds : HoldsParts file r c.args.parts.now).
    let made : List (ℕ × ℕ) = c.push_units.new.viewings.items in
    let sorted : List (ℕ × ℕ) = c.sort_unstable.new.self.items in
    viewings_are made sorted c.dedup.new.self.items c.sort_unstable.ensures.permutation c.sort_unstable.ensures.sorted (dedup_is same_pair _ _ c.dedup.ensures.filtered) file r holds.read
    (subst (λ (z : List (ℕ × ℕ)). AreJoined z made (IsSomeViewing r (length r.units))) c.new-viewings.ensures.items (c.in_ok-push_units.ensures file r holds))

pub returns-clause-rising : goal.returns-clause-rising
returns-clause-rising c = viewings_rise c.push_units.new.viewings.items c.sort_unstable.new.self.items c.dedup.new.self.items c.sort_unstable.ensures.permutation c.sort_unstable.ensures.sorted (dedup_is same_pair _ _ c.dedup.ensures.filtered)
