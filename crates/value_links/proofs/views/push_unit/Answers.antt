use Rattle.std.proofs.Common.{◌≡◌, ◌∙◌, ℕ, List, length, ap, subst, arith}
use Rattle.entry_read.specs.Units.{HeadAndForest}
use Rattle.value_links.specs.Reading.{Linkable, unit_at}
use Rattle.value_links.specs.Values.{entry_of}
use Rattle.value_links.specs.Links.{held_at}
use Rattle.value_links.specs.Parts.{HoldsParts}
use Rattle.value_links.specs.inside.Namings.{AreJoined}
use Rattle.value_links.specs.inside.Views.{IsEntryViewing, IsUnitViewing}
use Rattle.value_links.proofs.NamingLists.{below_next}
use Rattle.value_links.proofs.NamingValues.{entries_counted}
use Rattle.value_links.proofs.views.push_unit.Goals as goal

pub loop-id-preserved : goal.loop-id-preserved
loop-id-preserved c = λ (file : List ℕ) (r : Linkable) (holds : HoldsParts file r c.args.parts.now).
    below_next (λ id y. IsEntryViewing r c.args.unit id (entry_of (unit_at r c.args.unit) id).count y) c.args.viewings.now.items c.loop-id.viewings.items c.push_entry.new.viewings.items c.loop-id.id (c.loop-id.invariant file r holds) (c.in_ok-push_entry.ensures file r holds)

pub returns : goal.returns
returns c = λ (file : List ℕ) (r : Linkable) (holds : HoldsParts file r c.args.parts.now).
    let unit = held_at c.args.parts.now.units.units.items c.args.unit in
    let count : c.len-id-end.result ≡ length unit.forest.entries = c.len-id-end.ensures ∙ ap (λ z. length z.entries) c.forest.ensures ∙ ap (λ (z : HeadAndForest). length z.forest.entries) c.unit_of.ensures in
    let all : c.loop-id.id ≡ c.len-id-end.result = omega arith in
    subst (λ (z : ℕ). AreJoined c.args.viewings.now.items c.loop-id.viewings.items (IsUnitViewing r c.args.unit z)) (all ∙ count ∙ entries_counted file r c.args.parts.now holds c.args.unit c.requires.unit) (c.loop-id.invariant file r holds)
