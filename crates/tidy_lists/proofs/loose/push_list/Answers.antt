use Rattle.std.proofs.Common.{◌≡◌, ◌≤◌, ◌+◌, ◌∙◌, ℕ, List, get_or, ap, subst, sym}
use Rattle.list_arena.specs.Held.{HeldList as ListRead}
use Rattle.value_links.specs.Reading.{lists_of, list_at}
use Rattle.value_links.specs.World.{lists_held}
use Rattle.tidy_lists.specs.inside.LooseBytes.{section_end}
use Rattle.tidy_lists.proofs.AddedPairs.{on_ok}
use Rattle.tidy_lists.proofs.HeldThings.{some_element}
use Rattle.tidy_lists.proofs.LooseLengths.{list_added, list_held_at}
use Rattle.tidy_lists.proofs.loose.push_list.Goals as goal

pub returns : goal.returns
returns c = on_ok c.push_span.result (λ adds s read holds.
    let world = c.args.world.now in
    let kind = c.args.kind in
    let m : ℕ = c.args.number in
    let d : ListRead = some_element (lists_held world kind) m c.requires.inside in
    let start : ℕ = c.at-start.result in
    let (known, place) = list_held_at world s holds kind m d c.requires.inside in
    let here : start ≡ (list_at (lists_of s kind) m).at = c.at-start.ensures d ∙ ap (λ (z : List ListRead). (get_or z m d).at) c.lists.ensures.lists ∙ place in
    let fits : start + c.list_len.result ≤ section_end kind s = subst (λ (z : ℕ). z + c.list_len.result ≤ section_end kind s) (sym here) (c.list_len.ensures.within s s read holds read holds) in
    list_added kind s m known c.ranges_end.ensures.unique c.locations_end.ensures.unique start c.list_len.result c.args.spans.now.items c.push_span.new.spans.items here (c.list_len.ensures.len s s read holds read holds) (adds (section_end kind s) fits)) c.push_span.ensures
