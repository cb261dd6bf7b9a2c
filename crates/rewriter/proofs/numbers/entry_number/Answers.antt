use Rattle.std.proofs.Common.{rules}
use Rattle.std.proofs.lemmas.List.Sorted.{answers_always}
use Rattle.entry_arena.proofs.Found.{found, not_found}
use Rattle.rewriter.proofs.numbers.entry_number.Goals as goal

-- the closure gives a place
pub unreachable-requires : goal.unreachable-requires
unreachable-requires c =
    let parted = c.in-Err.ensures.position (λ entry. entry.at) (answers_always _ _ _ (λ f a r g called. search rules)) in
    not_found (λ entry. entry.at) c.args.entries.now (record { at = 0; len = 0; depth = 0; decl = 0; first = 0; count = 0 }) c.requires.rising c.args.place c.in-Err.field-0 parted c.requires.stands.0 c.requires.stands.1 c.requires.stands.2

pub returns-clause-at : goal.returns-clause-at
returns-clause-at c =
    let at = c.in-Ok.ensures.position (λ entry. entry.at) (answers_always _ _ _ (λ f a r g called. search rules)) in
    found (λ entry. entry.at) c.args.entries.now (record { at = 0; len = 0; depth = 0; decl = 0; first = 0; count = 0 }) c.requires.rising c.args.place c.in-Ok.number at
