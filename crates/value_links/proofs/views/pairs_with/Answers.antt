use Rattle.std.proofs.Common.{◌∙◌, get_or, sym}
use Rattle.value_links.proofs.ViewTotals.{pairs_of_list}
use Rattle.value_links.proofs.views.pairs_with.Goals as goal

pub returns : goal.returns
returns c =
    let lists = c.args.lists.now in
    let d = c.requires.known.0 in
    c.pair_count.ensures d ∙ sym (pairs_of_list lists c.requires.apart c.args.place (get_or lists c.list_from.result d) (c.list_from.ensures.from d))
