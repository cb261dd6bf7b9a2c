use Rattle.std.proofs.Common.{◌≡◌, ◌-◌, ◌∙◌, ℕ, List, length, get_or, ap, sym, arith}
use Rattle.std.proofs.lemmas.List.{get_or_read}
use Rattle.list_arena.specs.inside.Words.{first_long}
use Rattle.list_arena.proofs.WordLaws.{word_long, word_short}
use Rattle.list_arena.proofs.words.LongNumbers.number.Goals as goal

pub returns-then-word-lt-FIRST_LONG : goal.returns-then-word-lt-FIRST_LONG
returns-then-word-lt-FIRST_LONG c = c.from.ensures ∙ sym (word_short c.args.self.now c.args.word (omega arith))

pub returns-else-word-lt-FIRST_LONG : goal.returns-else-word-lt-FIRST_LONG
returns-else-word-lt-FIRST_LONG c =
    let place = c.args.word - first_long in
    let count : length c.self.inside.numbers.items ≡ length c.args.self.now = ap (λ (ns : List ℕ). length ns) c.self.view_is in
    let read : c.index.result.now ≡ get_or c.self.inside.numbers.items place 0 = get_or_read c.self.inside.numbers.items place c.index.result.now (omega arith) c.index.ensures 0 in
    read ∙ ap (λ (ns : List ℕ). get_or ns place 0) c.self.view_is ∙ sym (word_long c.args.self.now c.args.word (omega arith))
