use Rattle.std.proofs.Common.{◌≡◌, ◌+◌, ℕ, List, length, ap, arith}
use Rattle.list_arena.specs.inside.Words.{first_long}
use Rattle.list_arena.proofs.WordLaws.{grows_push, pushed_word}
use Rattle.list_arena.proofs.words.LongNumbers.long_word.Goals as goal

pub returns-clause-grown : goal.returns-clause-grown
returns-clause-grown c = rw (c.in_ok-push.ensures.items, c.self.view_is) (grows_push c.args.self.now c.args.number)

pub returns-clause-word : goal.returns-clause-word
returns-clause-word c =
    let count : length c.self.inside.numbers.items ≡ length c.args.self.now = ap (λ (ns : List ℕ). length ns) c.self.view_is in
    let place : first_long + c.len-place.result ≡ first_long + length c.args.self.now = omega arith in
    rw (c.in_ok-push.ensures.items, c.self.view_is) (pushed_word c.args.self.now c.args.number _ place)
