use Rattle.std.proofs.Common.{refl}
use Rattle.list_arena.specs.inside.Words.{GrowsTo}
use Rattle.list_arena.proofs.ListLaws.{entry_is}
use Rattle.list_arena.proofs.WordLaws.{grows_on, held_on}
use Rattle.list_arena.proofs.lists.entry_row.Goals as goal

pub returns-clause-row : goal.returns-clause-row
returns-clause-row c =
    let from_4 : GrowsTo c.word-4.new.self c.word-5.new.self = c.in_ok-word-5.ensures.grown in
    let from_3 : GrowsTo c.word-3.new.self c.word-5.new.self = grows_on c.word-3.new.self c.word-4.new.self c.word-5.new.self c.in_ok-word-4.ensures.grown from_4 in
    let from_2 : GrowsTo c.word-2.new.self c.word-5.new.self = grows_on c.word-2.new.self c.word-3.new.self c.word-5.new.self c.in_ok-word-3.ensures.grown from_3 in
    let from_1 : GrowsTo c.word.new.self c.word-5.new.self = grows_on c.word.new.self c.word-2.new.self c.word-5.new.self c.in_ok-word-2.ensures.grown from_2 in
    let at = held_on c.word.new.self c.word-5.new.self c.in_ok-word.field-0 c.args.entry.now.at from_1 c.in_ok-word.ensures.word in
    let a = held_on c.word-2.new.self c.word-5.new.self c.in_ok-word-2.field-0 c.args.entry.now.a from_2 c.in_ok-word-2.ensures.word in
    let b = held_on c.word-3.new.self c.word-5.new.self c.in_ok-word-3.field-0 c.args.entry.now.b from_3 c.in_ok-word-3.ensures.word in
    let expr_at = held_on c.word-4.new.self c.word-5.new.self c.in_ok-word-4.field-0 c.args.entry.now.expr.at from_4 c.in_ok-word-4.ensures.word in
    let expr_len = c.in_ok-word-5.ensures.word in
    entry_is c.word-5.new.self _ c.args.entry.now at a b expr_at expr_len refl
