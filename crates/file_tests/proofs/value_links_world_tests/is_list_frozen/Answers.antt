use Rattle.std.proofs.Common.{◌<◌, List, length, get_or, sym, subst}
use Rattle.std.specs.List.{Contains}
use Rattle.std.proofs.lemmas.List.Elements.{Contains-get_or}
use Rattle.list_arena.specs.Held.{HeldList}
use Rattle.value_links.proofs.ViewTotals.{no_list}
use Rattle.file_tests.proofs.value_links_world_tests.is_list_frozen.Goals as goal

-- the list with a number is one of those that are held
pub is_frozen-requires : goal.is_frozen-requires
is_frozen-requires c =
    let lists : List HeldList = c.lists.result.now in
    let list : HeldList = get_or lists c.args.number no_list in
    (list, subst (λ (z : List HeldList). Contains z list) c.lists.ensures.lists (Contains-get_or lists c.args.number no_list (subst (λ (z : List HeldList). c.args.number < length z) (sym c.lists.ensures.lists) c.requires)), sym (c.at-at.ensures no_list))
