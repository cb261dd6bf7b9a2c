use Rattle.std.proofs.Common.{◌≡◌, ◌≤◌, ◌+◌, ◌∙◌, ℕ, List, get_or, ap, subst, sym}
use Rattle.list_model.specs.declared.entry.ListKind.TheVariants.{Locations}
use Rattle.list_arena.specs.Held.{HeldViews as ViewRead}
use Rattle.value_links.specs.Reading.{view_at}
use Rattle.tidy_lists.specs.inside.LooseBytes.{section_end}
use Rattle.tidy_lists.proofs.AddedPairs.{on_ok}
use Rattle.tidy_lists.proofs.HeldThings.{some_element}
use Rattle.tidy_lists.proofs.LooseLengths.{run_added, run_held_at}
use Rattle.tidy_lists.proofs.loose.push_run.Goals as goal

pub returns : goal.returns
returns c = on_ok c.push_span.result (λ adds s read holds.
    let world = c.args.world.now in
    let n : ℕ = c.args.number in
    let d : ViewRead = some_element world.views n c.requires.inside in
    let start : ℕ = c.at-start.result in
    let (known, place) = run_held_at world s holds n d c.requires.inside in
    let here : start ≡ (view_at s.views n).at = c.at-start.ensures d ∙ ap (λ (z : List ViewRead). (get_or z n d).at) c.views.ensures ∙ place in
    let fits : start + c.run_len.result ≤ section_end Locations s = subst (λ (z : ℕ). z + c.run_len.result ≤ section_end Locations s) (sym here) (c.run_len.ensures.within s s read holds read holds) in
    run_added world.image s read c.numbers_end.ensures.u n known start c.run_len.result c.args.spans.now.items c.push_span.new.spans.items here (c.run_len.ensures.len s s read holds read holds) (adds (section_end Locations s) fits)) c.push_span.ensures
