use Rattle.std.proofs.Common.{◌<◌, arith}
use Rattle.list_arena.specs.inside.Words.{first_long}
use Rattle.list_arena.proofs.WordLaws.{word_short}
use Rattle.list_arena.proofs.words.LongNumbers.word.Goals as goal

pub returns-then-number-from-clause-word : goal.returns-then-number-from-clause-word
returns-then-number-from-clause-word c =
    let short : c.args.number < first_long = omega arith in
    (omega arith, word_short c.args.self.now c.args.number short)
