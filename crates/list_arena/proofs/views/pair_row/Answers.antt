use Rattle.list_arena.specs.inside.Words.{GrowsTo}
use Rattle.list_arena.proofs.PairLaws.{pair_is}
use Rattle.list_arena.proofs.WordLaws.{held_on}
use Rattle.list_arena.proofs.views.pair_row.Goals as goal

pub returns-clause-row : goal.returns-clause-row
returns-clause-row c =
    let from_1 : GrowsTo c.word.new.self c.word-2.new.self = c.in_ok-word-2.ensures.grown in
    let first = held_on c.word.new.self c.word-2.new.self c.in_ok-word.field-0 c.args.pair.now.first from_1 c.in_ok-word.ensures.word in
    let last = c.in_ok-word-2.ensures.word in
    pair_is c.word-2.new.self _ c.args.pair.now first last
