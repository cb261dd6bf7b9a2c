use Rattle.std.proofs.Common.{rules}
use Rattle.std.proofs.lemmas.List.Sorted.{answers_always}
use Rattle.entry_arena.proofs.Found.{found_among, not_among}
use Rattle.entry_arena.proofs.forest.entry_among.Goals as goal

-- the closure gives an entry's place
pub returns-in-Ok : goal.returns-in-Ok
returns-in-Ok c =
    let at = c.in-Ok.ensures.position (λ entry. entry.at) (answers_always _ _ _ (λ f a r g called. search rules)) in
    found_among (λ entry. entry.at) c.args.entries.now (record { at = 0; len = 0; depth = 0; decl = 0; first = 0; count = 0 }) c.requires.rising c.args.place c.args.from c.args.to c.requires.order.0 c.requires.order.1 c.in-Ok.number c.in-Ok.ensures.bound at

pub returns-in-Err : goal.returns-in-Err
returns-in-Err c =
    let parted = c.in-Err.ensures.position (λ entry. entry.at) (answers_always _ _ _ (λ f a r g called. search rules)) in
    not_among (λ entry. entry.at) c.args.entries.now (record { at = 0; len = 0; depth = 0; decl = 0; first = 0; count = 0 }) c.requires.rising c.args.place c.args.from c.args.to c.requires.order.0 c.requires.order.1 c.in-Err.field-0 parted
