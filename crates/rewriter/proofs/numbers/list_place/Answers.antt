use Rattle.std.proofs.Common.{refl, rules}
use Rattle.std.proofs.lemmas.List.Sorted.{answers_always}
use Rattle.list_model.proofs.Found.{found, not_found}
use Rattle.rewriter.proofs.numbers.list_place.Goals as goal

-- the closure gives a place
pub unreachable-requires : goal.unreachable-requires
unreachable-requires c =
    let parted = c.in-Err.ensures.position (λ list. list.old) (answers_always _ _ _ (λ f a r g called. search rules)) in
    not_found (λ list. list.old) c.args.moved.now (record { old = 0; new = 0 }) c.requires.rising c.args.old c.in-Err.field-0 parted c.requires.stands.0 c.requires.stands.1 c.requires.stands.2

pub returns : goal.returns
returns c =
    let at = c.in-Ok.ensures.position (λ list. list.old) (answers_always _ _ _ (λ f a r g called. search rules)) in
    let same = found (λ list. list.old) c.args.moved.now (record { old = 0; new = 0 }) c.requires.rising c.args.old c.in-Ok.number at in
    (c.in-Ok.number, c.in-Ok.ensures.bound, same, refl)
