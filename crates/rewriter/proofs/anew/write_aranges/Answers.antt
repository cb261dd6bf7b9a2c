use Rattle.std.proofs.Common.{◌≡◌, ◌<◌, ◌^◌, ◌∙◌, ℕ, List, length, map, sym, ap, subst}
use Rattle.std.specs.Prelude.{IfOk, slice_index}
use Rattle.std.specs.List.{All}
use Rattle.std.proofs.lemmas.List.{length-map}
use Rattle.std.proofs.lemmas.List.Elements.{All-map}
use Rattle.companions.specs.Aranges.{IsOutside}
use Rattle.companions.specs.declared.set.ArangeSet.{ArangeSet}
use Rattle.unit_write.specs.declared.places.Places.{Places}
use Rattle.value_links.specs.Sections.{debug_aranges}
use Rattle.rewriter.proofs.SectionsAnew.{old_sets, old_units}
use Rattle.rewriter.proofs.anew.write_aranges.Goals as goal

pub patched-requires-clause-sets : goal.patched-requires-clause-sets
patched-requires-clause-sets c =
    let section = c.section-section.ensures in
    old_sets c.args.world.now c.requires.world c.section-section.result.now c.aranges.result.now.items section c.aranges.ensures

pub patched-requires-clause-units : goal.patched-requires-clause-units
patched-requires-clause-units c =
    let starts = c.in_ok-starts.ensures ∙ ap (λ (z : List Places). map (λ (unit : Places). unit.start) z) c.deref.ensures.value in
    let size = ap (λ (z : List ℕ). length z) starts ∙ length-map c.args.places.now.items (λ (unit : Places). unit.start) in
    old_units c.args.world.now c.requires.world (length c.in_ok-starts.starts.items) c.aranges.result.now.items (size ∙ c.requires.count) c.aranges.ensures

pub patched-requires-clause-fit : goal.patched-requires-clause-fit
patched-requires-clause-fit c =
    let starts = c.in_ok-starts.ensures ∙ ap (λ (z : List Places). map (λ (unit : Places). unit.start) z) c.deref.ensures.value in
    subst (λ (z : List ℕ). All (λ start. start < 2 ^ 32) z) (sym starts) (All-map (λ start. start < 2 ^ 32) (λ (unit : Places). unit.start) c.args.places.now.items c.requires.fit)

pub returns-clause-others : goal.returns-clause-others
returns-clause-others c =
    let section = c.section-section.ensures in
    let by_section = subst (λ (z : List ℕ). IfOk c.patched.result (λ aranges. (k : ℕ) → IsOutside c.aranges.result.now.items k → slice_index aranges.items k ≡ slice_index z k)) section c.patched.ensures.others in
    subst (λ (z : List ArangeSet). IfOk c.patched.result (λ aranges. (k : ℕ) → IsOutside z k → slice_index aranges.items k ≡ slice_index (debug_aranges c.args.world.now.image) k)) c.aranges.ensures by_section

pub returns-clause-size : goal.returns-clause-size
returns-clause-size c =
    let section = c.section-section.ensures in
    subst (λ (z : List ℕ). IfOk c.patched.result (λ aranges. length aranges.items ≡ length z)) section c.patched.ensures.size
