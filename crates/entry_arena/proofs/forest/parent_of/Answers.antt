use Rattle.std.proofs.Common.{rules, ◌≡◌, ap}
use Rattle.std.proofs.lemmas.List.Sorted.{answers_always}
use Rattle.entry_arena.specs.Arena.{chain_end_at}
use Rattle.entry_arena.proofs.Found.{found, not_found}
use Rattle.entry_arena.proofs.forest.parent_of.Goals as goal

-- the closure gives the place of a chain's end
pub returns-in-Ok : goal.returns-in-Ok
returns-in-Ok c =
    let at = c.in-Ok.ensures.position (λ end. end.at) (answers_always _ _ _ (λ f a r g called. search rules)) in
    let place : (chain_end_at c.args.ends.now c.in-Ok.number).at ≡ c.args.place = found (λ end. end.at) c.args.ends.now (record { entry = 0; at = 0 }) c.requires.rising c.args.place c.in-Ok.number at in
    (c.in-Ok.number, c.in-Ok.ensures.bound, ap (λ n. record { entry = (chain_end_at c.args.ends.now c.in-Ok.number).entry; at = n }) place)

pub returns-in-Err : goal.returns-in-Err
returns-in-Err c =
    let parted = c.in-Err.ensures.position (λ end. end.at) (answers_always _ _ _ (λ f a r g called. search rules)) in
    not_found (λ end. end.at) c.args.ends.now (record { entry = 0; at = 0 }) c.requires.rising c.args.place c.in-Err.field-0 parted
