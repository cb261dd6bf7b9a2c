use Rattle.std.proofs.Common.{◌≡◌, ◌∙◌, ℕ, List, length, get_or, sym, ap, subst, arith}
use Rattle.tidy_places.specs.Firsts.{IsLeastFound}
use Rattle.list_arena.specs.Held.{HeldList}
use Rattle.value_links.specs.Sections.{debug_lists}
use Rattle.value_links.specs.World.{lists_held}
use Rattle.tidy_numbers.specs.inside.ListEntries.{IsLongInHeld}
use Rattle.tidy_numbers.proofs.FoundAmong.{below_next}
use Rattle.tidy_numbers.proofs.ListEntriesStand.{list_stands}
use Rattle.tidy_numbers.proofs.ListPlaces.{IsLongNumbered, numbered_found, lists_found}
use Rattle.tidy_numbers.proofs.lists.first_in_lists.Goals as goal

pub first_in_list-requires : goal.first_in_list-requires
first_in_list-requires c =
    let lists : List HeldList = lists_held c.args.world.now c.args.kind in
    let k : ℕ = c.loop-number.number in
    let count : c.len-number-end.result ≡ length lists = c.len-number-end.ensures ∙ ap length c.lists-lists.ensures.lists in
    let here : c.in_ok-list.list ≡ get_or lists k c.in_ok-list.list = c.in_ok-list.ensures c.in_ok-list.list ∙ ap (λ (z : List HeldList). get_or z k c.in_ok-list.list) c.lists-lists.ensures.lists in
    list_stands c.args.world.now c.requires.0 c.requires.1 c.args.kind c.lists_section-section.result.now c.lists_section-section.ensures k (omega (arith, c.loop-number-test.true, count)) c.in_ok-list.list here

pub loop-number-preserved : goal.loop-number-preserved
loop-number-preserved c =
    let section : List ℕ = debug_lists c.args.world.now.image c.args.kind in
    let lists : List HeldList = lists_held c.args.world.now c.args.kind in
    let k : ℕ = c.loop-number.number in
    let found = c.in_ok-first_in_list.field-0 in
    let count : c.len-number-end.result ≡ length lists = c.len-number-end.ensures ∙ ap length c.lists-lists.ensures.lists in
    let here : c.in_ok-list.list ≡ get_or lists k c.in_ok-list.list = c.in_ok-list.ensures c.in_ok-list.list ∙ ap (λ (z : List HeldList). get_or z k c.in_ok-list.list) c.lists-lists.ensures.lists in
    let least : IsLeastFound (IsLongInHeld c.args.classes c.args.kind section c.in_ok-list.list) found = subst (λ (z : List ℕ). IsLeastFound (IsLongInHeld c.args.classes c.args.kind z c.in_ok-list.list) found) c.lists_section-section.ensures c.in_ok-first_in_list.ensures in
    below_next (IsLongNumbered c.args.classes c.args.kind section lists) k c.loop-number.found found c.earlier-found.result c.loop-number.invariant
    (numbered_found c.args.classes c.args.kind section lists k c.in_ok-list.list found (omega (arith, c.loop-number-test.true, count)) here least)
    c.earlier-found.ensures

pub returns : goal.returns
returns c = λ s read holds.
    let count : c.len-number-end.result ≡ length (lists_held c.args.world.now c.args.kind) = c.len-number-end.ensures ∙ ap length c.lists-lists.ensures.lists in
    lists_found c.args.classes c.args.world.now s c.args.kind (debug_lists c.args.world.now.image c.args.kind) c.loop-number.number c.loop-number.found holds (sym (holds.sections c.args.kind)) (omega (arith, c.loop-number-test.false, count)) c.loop-number.invariant
