use Rattle.std.proofs.Common.{◌≡◌, ◌≤◌, ◌<◌, ℕ, length, get_or, sym, subst, arith}
use Rattle.std.proofs.lemmas.Result.{IfErr-weaker}
use Rattle.loc_lists.specs.Views.{FaultRun, FaultViews}
use Rattle.list_model.specs.declared.contribution.Contribution.{Contribution}
use Rattle.list_model.specs.Contributions.{part_end, IsContribution}
use Rattle.list_arena.specs.Held.{HeldList}
use Rattle.value_links.specs.Reading.{part_at}
use Rattle.value_links.specs.Parts.{section_held}
use Rattle.value_links.specs.ListPlaces.{IsListPlace}
use Rattle.value_links.specs.inside.Views.{raw_pairs}
use Rattle.value_links.proofs.ListBytes.{refused_for}
use Rattle.value_links.proofs.NamingPlaces.{part_is}
use Rattle.value_links.proofs.PartPlaces.{part_stands}
use Rattle.value_links.proofs.ViewTotals.{no_list}
use Rattle.value_links.proofs.ViewRuns.{both_ok, pairs_read, pairs_refused}
use Rattle.value_links.proofs.views.read_run.Goals as goal

pub index-part-requires : goal.index-part-requires
index-part-requires c =
    let same : c.part.result ≡ (get_or c.args.lists.now c.args.number no_list).part = c.part.ensures no_list in
    let inside : (get_or c.args.lists.now c.args.number no_list).part < length c.args.contributions.now.parts.items = (c.requires.stands no_list).0 in
    omega (arith, c.args.contributions.now.parts.ok.0)

pub read_views-requires-clause-part : goal.read_views-requires-clause-part
read_views-requires-clause-part c =
    let held = c.args.contributions.now in
    let stands : IsListPlace (section_held held) c.part.result c.args.place = subst (λ (n : ℕ). IsListPlace (section_held held) n c.args.place) (sym (c.part.ensures no_list)) (c.requires.stands no_list) in
    let holder = part_is held.parts.items c.part.result c.index-part.result.now stands.0 c.index-part.ensures in
    subst (IsContribution held.section.now) (sym holder) (part_stands held.section.now held.parts.items c.requires.tiled.tiled c.part.result stands.0)

pub read_views-requires-clause-inside : goal.read_views-requires-clause-inside
read_views-requires-clause-inside c =
    let held = c.args.contributions.now in
    let stands : IsListPlace (section_held held) c.part.result c.args.place = subst (λ (n : ℕ). IsListPlace (section_held held) n c.args.place) (sym (c.part.ensures no_list)) (c.requires.stands no_list) in
    let holder = part_is held.parts.items c.part.result c.index-part.result.now stands.0 c.index-part.ensures in
    let within : c.args.place ≤ part_end (part_at (section_held held) c.part.result) = omega (arith, stands.1) in
    subst (λ (z : Contribution). c.args.place ≤ part_end z) (sym holder) within

pub returns-clause-read : goal.returns-clause-read
returns-clause-read c =
    let section = section_held c.args.contributions.now in
    let list = λ (d : HeldList). get_or c.args.lists.now c.args.number d in
    let inside : c.part.result < length section.parts = subst (λ (n : ℕ). n < length section.parts) (sym (c.part.ensures no_list)) (c.requires.stands no_list).0 in
    let holder = part_is section.parts c.part.result c.index-part.result.now inside c.index-part.ensures in
    both_ok c.read_views.result _ _ _ (λ pairs read size. λ (d : HeldList). pairs_read section (list d) c.part.result c.args.place c.pair_count-count.result c.index-part.result.now (c.part.ensures d) holder (c.pair_count-count.ensures d) pairs.items read size) c.read_views.ensures.pairs c.read_views.ensures.count

pub returns-clause-fault : goal.returns-clause-fault
returns-clause-fault c =
    let section = section_held c.args.contributions.now in
    let list = λ (d : HeldList). get_or c.args.lists.now c.args.number d in
    let inside : c.part.result < length section.parts = subst (λ (n : ℕ). n < length section.parts) (sym (c.part.ensures no_list)) (c.requires.stands no_list).0 in
    let holder = part_is section.parts c.part.result c.index-part.result.now inside c.index-part.ensures in
    IfErr-weaker c.read_views.result _ _ (λ refusal refused. λ (d : HeldList).
    refused_for (FaultViews section.section c.index-part.result.now c.args.place c.pair_count-count.result) (FaultRun section.section (part_at section (list d).part) c.args.place (raw_pairs (list d).raw)) (λ kind at f.
    pairs_refused section (list d) c.part.result c.args.place c.pair_count-count.result c.index-part.result.now (c.part.ensures d) holder (c.pair_count-count.ensures d) kind at (c.requires.few d) f) c.args.origin refusal refused) c.read_views.ensures.fault
