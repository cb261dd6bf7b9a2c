use Rattle.std.proofs.Common.{◌∙◌, ℕ, List, [], length, ap, subst}
use Rattle.value_links.specs.declared.list_places.Contributions.{Contributions}
use Rattle.value_links.specs.Reading.{Linkable}
use Rattle.value_links.specs.Parts.{HoldsParts, lists_in, section_held}
use Rattle.value_links.specs.inside.Namings.{AreJoined, IsPartNaming}
use Rattle.value_links.proofs.NamingOrder.{sorted_namings, all_namings, some_namings}
use Rattle.value_links.proofs.namings.namings_of.Goals as goal

pub returns-clause-all : goal.returns-clause-all
returns-clause-all c = λ (file : List ℕ) (r : Linkable) (holds : HoldsParts file r c.args.parts.now).
    let held : Contributions = c.lists.result.now in
    let slots : AreJoined [] c.push_slots.new.namings.items (IsPartNaming (section_held held) (length held.parts.items)) = subst (λ (z : List (ℕ × ℕ)). AreJoined z c.push_slots.new.namings.items (IsPartNaming (section_held held) (length held.parts.items))) c.new-namings.ensures.items c.in_ok-push_slots.ensures.joined in
    all_namings file r holds.read c.args.kind (section_held held) (ap section_held c.lists.ensures ∙ holds.lists c.args.kind) c.push_slots.new.namings.items c.push_units.new.namings.items c.sort_unstable.new.self.items slots c.in_ok-push_slots.ensures.followed (c.in_ok-push_units.ensures.joined file r holds) c.sort_unstable.ensures.permutation

pub returns-clause-known : goal.returns-clause-known
returns-clause-known c =
    let held : Contributions = c.lists.result.now in
    let slots : AreJoined [] c.push_slots.new.namings.items (IsPartNaming (section_held held) (length held.parts.items)) = subst (λ (z : List (ℕ × ℕ)). AreJoined z c.push_slots.new.namings.items (IsPartNaming (section_held held) (length held.parts.items))) c.new-namings.ensures.items c.in_ok-push_slots.ensures.joined in
    some_namings (section_held (lists_in c.args.parts.now c.args.kind)) (length c.args.parts.now.units.units.items) c.push_slots.new.namings.items c.push_units.new.namings.items c.sort_unstable.new.self.items
    (subst (λ (h : Contributions). AreJoined [] c.push_slots.new.namings.items (IsPartNaming (section_held h) (length h.parts.items))) c.lists.ensures slots) c.in_ok-push_units.ensures.known c.sort_unstable.ensures.permutation

pub returns-clause-order : goal.returns-clause-order
returns-clause-order c = sorted_namings c.sort_unstable.new.self.items c.sort_unstable.ensures.sorted
