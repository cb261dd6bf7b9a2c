use Rattle.std.proofs.Common.{◌≡◌, ◌∙◌, length, arith}
use Rattle.list_arena.specs.inside.Words.{GrowsTo}
use Rattle.list_arena.proofs.PairLaws.{pairs_same, pairs_well, run_pushed}
use Rattle.list_arena.proofs.WordLaws.{grows_on, held_on}
use Rattle.list_arena.proofs.views.push_rows.Goals as goal

pub returns-clause-pushed : goal.returns-clause-pushed
returns-clause-pushed c =
    let first = c.args.long.now in
    let second = c.push_pairs.new.long in
    let third = c.word.new.self in
    let last = c.word-2.new.self in
    let pairs = c.push_pairs.new.rows.items in
    let to_last = c.in_ok-word-2.ensures.grown in
    let from_second : GrowsTo second last = grows_on second third last c.in_ok-word.ensures.grown to_last in
    let grown : GrowsTo first last = grows_on first second last c.in_ok-push_pairs.ensures.grown from_second in
    let end : c.in-Ok.end ≡ length pairs = omega (arith, c.in-Ok.ensures, c.len.ensures) in
    rw c.in_ok-push.ensures.items (run_pushed first last c.args.rows.now.items c.args.pairs.now.items pairs _ _ c.requires grown
    (pairs_well second last from_second pairs c.in_ok-push_pairs.ensures.well)
    (pairs_same second last from_second pairs c.in_ok-push_pairs.ensures.well ∙ c.in_ok-push_pairs.ensures.held)
    (held_on third last c.in_ok-word.field-0 c.args.list to_last c.in_ok-word.ensures.word)
    c.in_ok-word-2.ensures.word end)
