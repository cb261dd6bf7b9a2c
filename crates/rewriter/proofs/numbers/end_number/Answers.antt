use Rattle.std.proofs.Common.{rules, ap}
use Rattle.std.proofs.lemmas.List.Sorted.{answers_always}
use Rattle.entry_arena.proofs.Found.{found, not_found}
use Rattle.rewriter.proofs.numbers.end_number.Goals as goal

-- the closure gives a place
pub unreachable-requires : goal.unreachable-requires
unreachable-requires c =
    let parted = c.in-Err.ensures.position (λ end. end.at) (answers_always _ _ _ (λ f a r g called. search rules)) in
    not_found (λ end. end.at) c.args.ends.now (record { entry = 0; at = 0 }) c.requires.rising c.args.place c.in-Err.field-0 parted c.requires.stands.1.0 c.requires.stands.1.1 (ap (λ z. z.at) c.requires.stands.1.2)

pub returns-clause-at : goal.returns-clause-at
returns-clause-at c =
    let at = c.in-Ok.ensures.position (λ end. end.at) (answers_always _ _ _ (λ f a r g called. search rules)) in
    found (λ end. end.at) c.args.ends.now (record { entry = 0; at = 0 }) c.requires.rising c.args.place c.in-Ok.number at
