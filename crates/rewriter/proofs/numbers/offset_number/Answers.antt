use Rattle.std.proofs.Common.{◌≡◌, ◌<◌, ◌^◌, ◌∙◌, ℕ, List, sym, ap, subst, length, get_or, arith, slice_index}
use Rattle.std.proofs.lemmas.Grind.{common_steps}
use Rattle.std.proofs.lemmas.List.{get_or_read}
use Rattle.list_model.specs.declared.contribution.Contribution.{Contribution}
use Rattle.list_model.specs.Contributions.{offsets_at}
use Rattle.list_write.specs.declared.image.Moved.{Moved}
use Rattle.list_write.specs.Written.{part_at, moved_at}
use Rattle.rewriter.specs.declared.new_places.ListPlaces.{ListPlaces}
use Rattle.rewriter.specs.declared.new_places.MovedViews.{MovedViews}
use Rattle.rewriter.specs.inside.NewPlaces.{moved_lists, ViewsRise, AreViewsMoved}
use Rattle.rewriter.proofs.Links.{offset_link, lines_inside, held_programs, new_lines, new_kept, list_links, part_there, part_read, held_list, new_list, new_base, views_link, held_run, run_fits, new_views}
use Rattle.rewriter.proofs.numbers.offset_number.Goals as goal

-- a contribution that is named has a new place, which fits
known : (c : goal.After-index-in-Base) → c.in-Base.part < length (moved_lists c.args.new_places.now c.in-Base.kind).parts.items
known c =
    let m = c.requires.means in
    part_there m.file c.args.world.now m.r c.in-Base.kind (moved_lists c.args.new_places.now c.in-Base.kind) c.args.unit c.args.id c.args.name c.args.old c.in-Base.part m.holds (c.requires.new_places.lists c.in-Base.kind) (c.in-Base.ensures m.file m.r m.holds)

part_is : (c : goal.After-index-in-Base) → c.index-in-Base.result.now ≡ part_at (moved_lists c.args.new_places.now c.in-Base.kind).parts.items c.in-Base.part
part_is c =
    part_read (moved_lists c.args.new_places.now c.in-Base.kind).parts.items c.in-Base.part c.index-in-Base.result.now (known c) (subst (λ (z : ListPlaces). c.index-in-Base.result.now ≡ get_or z.parts.items c.in-Base.part c.index-in-Base.result.now) c.places_of-in-Base.ensures c.index-in-Base.ensures)

part_fits : (c : goal.After-index-in-Base) → offsets_at c.index-in-Base.result.now.at < 2 ^ 32
part_fits c =
    subst (λ (z : Contribution). offsets_at z.at < 2 ^ 32) (sym (part_is c)) ((c.requires.new_places.lists c.in-Base.kind).parts_fit c.in-Base.part (record { at = 0; len = 0; slots = 0 }) (known c))

pub index-requires : goal.index-requires
index-requires c =
    let m = c.requires.means in
    let inside = lines_inside m.r.links c.args.unit c.args.id c.args.name c.args.old c.in-Lines.program (c.in-Lines.ensures m.file m.r m.holds) in
    let size = held_programs m.file c.args.world.now m.r m.holds in
    let count : length c.args.new_places.now.programs.items ≡ length c.args.world.now.programs = c.requires.new_places.programs in
    grind (arith, common_steps, inside, size, count)

pub unreachable-requires : goal.unreachable-requires
unreachable-requires c =
    let m = c.requires.means in
    offset_link m.r.links c.args.unit c.args.id c.args.name c.args.old c.link_of.result (c.link_of.ensures m.file m.r m.holds) c.in_default.not-Lines c.in_default.not-List c.in_default.not-Base c.in_default.not-Views c.in_default.not-Kept

pub returns-in-Lines-clause-number : goal.returns-in-Lines-clause-number
returns-in-Lines-clause-number c = λ places file r holds.
    let inside = lines_inside r.links c.args.unit c.args.id c.args.name c.args.old c.in-Lines.program (c.in-Lines.ensures file r holds) in
    let size : length c.args.world.now.programs ≡ length r.links.programs = held_programs file c.args.world.now r holds in
    let count : length c.args.new_places.now.programs.items ≡ length c.args.world.now.programs = c.requires.new_places.programs in
    let known : c.in-Lines.program < length c.args.new_places.now.programs.items = omega (arith, inside, size, count) in
    let here : c.index.result.now ≡ slice_index c.args.new_places.now.programs.items c.in-Lines.program = get_or_read c.args.new_places.now.programs.items c.in-Lines.program c.index.result.now known c.index.ensures 0 in
    new_lines r.links c.args.unit c.args.id c.args.name c.args.old c.in-Lines.program c.args.new_places.now c.index.result.now known here (c.in-Lines.ensures file r holds)

pub returns-in-Kept-clause-number : goal.returns-in-Kept-clause-number
returns-in-Kept-clause-number c = λ places file r holds.
    new_kept r.links c.args.unit c.args.id c.args.name c.args.old c.in-Kept.field-0 c.args.new_places.now (c.in-Kept.ensures file r holds)

pub returns-in-Lines-clause-fits : goal.returns-in-Lines-clause-fits
returns-in-Lines-clause-fits c =
    let m = c.requires.means in
    let inside = lines_inside m.r.links c.args.unit c.args.id c.args.name c.args.old c.in-Lines.program (c.in-Lines.ensures m.file m.r m.holds) in
    let size : length c.args.world.now.programs ≡ length m.r.links.programs = held_programs m.file c.args.world.now m.r m.holds in
    let count : length c.args.new_places.now.programs.items ≡ length c.args.world.now.programs = c.requires.new_places.programs in
    let known : c.in-Lines.program < length c.args.new_places.now.programs.items = omega (arith, inside, size, count) in
    let here : slice_index c.args.new_places.now.programs.items c.in-Lines.program < 2 ^ 32 = c.requires.new_places.programs_fit c.in-Lines.program 0 known in
    subst (λ z. z < 2 ^ 32) (sym (get_or_read c.args.new_places.now.programs.items c.in-Lines.program c.index.result.now known c.index.ensures 0)) here

pub returns-in-Kept-clause-fits : goal.returns-in-Kept-clause-fits
returns-in-Kept-clause-fits c = c.requires.means.fits

pub list_place-requires-clause-stands : goal.list_place-requires-clause-stands
list_place-requires-clause-stands c =
    let m = c.requires.means in
    let (k, inside, at) = m.listed c.in-List.kind c.args.old (list_links m.r.links c.args.unit c.args.id c.args.name c.args.old c.in-List.field-1 c.in-List.kind (c.in-List.ensures m.file m.r m.holds)) in
    let (held, from) = held_list m.file c.args.world.now m.r c.in-List.kind (moved_lists c.args.new_places.now c.in-List.kind) k m.holds (c.requires.new_places.lists c.in-List.kind) inside in
    let lists : c.deref.result.now ≡ (moved_lists c.args.new_places.now c.in-List.kind).lists.items = c.deref.ensures.value ∙ ap (λ (z : ListPlaces). z.lists.items) c.places_of.ensures in
    subst (λ (z : List Moved). (x : ℕ) × (x < length z) × ((moved_at z x).old ≡ c.args.old)) (sym lists) (k, held, from ∙ at)

pub returns-in-List-clause-number : goal.returns-in-List-clause-number
returns-in-List-clause-number c = λ places file r holds.
    let lists : c.deref.result.now ≡ (moved_lists c.args.new_places.now c.in-List.kind).lists.items = c.deref.ensures.value ∙ ap (λ (z : ListPlaces). z.lists.items) c.places_of.ensures in
    let (k, inside, from, to) = subst (λ (z : List Moved). (x : ℕ) × (x < length z) × ((moved_at z x).old ≡ c.args.old) × ((moved_at z x).new ≡ c.list_place.result)) lists c.list_place.ensures in
    new_list r.links c.args.unit c.args.id c.args.name c.args.old c.in-List.field-1 c.in-List.kind c.args.new_places.now c.list_place.result (record { number = k; inside = inside; from = from; to = to }) (c.in-List.ensures file r holds)

pub index-requires-in-Base : goal.index-requires-in-Base
index-requires-in-Base c =
    let m = c.requires.means in
    let there = part_there m.file c.args.world.now m.r c.in-Base.kind (moved_lists c.args.new_places.now c.in-Base.kind) c.args.unit c.args.id c.args.name c.args.old c.in-Base.part m.holds (c.requires.new_places.lists c.in-Base.kind) (c.in-Base.ensures m.file m.r m.holds) in
    let inside : c.in-Base.part < length c.places_of-in-Base.result.now.parts.items = subst (λ (z : ListPlaces). c.in-Base.part < length z.parts.items) (sym c.places_of-in-Base.ensures) there in
    grind (arith, common_steps, inside)

pub overflow_add-result : goal.overflow_add-result
overflow_add-result c =
    let small : offsets_at c.index-in-Base.result.now.at < 2 ^ 32 = part_fits c in
    omega arith

pub returns-in-Base-clause-number : goal.returns-in-Base-clause-number
returns-in-Base-clause-number c = λ places file r holds.
    new_base r.links c.args.unit c.args.id c.args.name c.args.old c.in-Base.part c.in-Base.kind c.args.new_places.now (offsets_at c.index-in-Base.result.now.at) (known c) (ap (λ (z : Contribution). offsets_at z.at) (part_is c)) (c.in-Base.ensures file r holds)

pub returns-in-Base-clause-fits : goal.returns-in-Base-clause-fits
returns-in-Base-clause-fits c = part_fits c

pub views_place-requires-clause-rising : goal.views_place-requires-clause-rising
views_place-requires-clause-rising c = subst ViewsRise (sym c.deref-in-Views.ensures.value) c.requires.new_places.views.rising

pub views_place-requires-clause-stands : goal.views_place-requires-clause-stands
views_place-requires-clause-stands c =
    let m = c.requires.means in
    let (k, inside, with, at) = m.viewed c.in-Views.list c.in-Views.place (views_link m.r.links c.args.unit c.args.id c.args.name c.args.old c.in-Views.list c.in-Views.place (c.in-Views.ensures m.file m.r m.holds)) in
    let moved = held_run m.file c.args.world.now m.r c.args.new_places.now.views.items k c.in-Views.list c.in-Views.place m.holds c.requires.new_places.views inside with at in
    subst (λ (z : List MovedViews). (new : ℕ) × AreViewsMoved z c.in-Views.list c.in-Views.place new) (sym c.deref-in-Views.ensures.value) moved

-- the view pairs that are named have this place
views_there : (c : goal.After-views_place) → AreViewsMoved c.args.new_places.now.views.items c.in-Views.list c.in-Views.place c.views_place.result
views_there c = subst (λ (z : List MovedViews). AreViewsMoved z c.in-Views.list c.in-Views.place c.views_place.result) c.deref-in-Views.ensures.value c.views_place.ensures

pub returns-in-Views-clause-number : goal.returns-in-Views-clause-number
returns-in-Views-clause-number c = λ places file r holds.
    new_views r.links c.args.unit c.args.id c.args.name c.args.old c.in-Views.list c.in-Views.place c.args.new_places.now c.views_place.result (views_there c) (c.in-Views.ensures file r holds)

pub returns-in-Views-clause-fits : goal.returns-in-Views-clause-fits
returns-in-Views-clause-fits c =
    run_fits c.args.world.now c.args.new_places.now.views.items c.in-Views.list c.in-Views.place c.views_place.result c.requires.new_places.views (views_there c)
