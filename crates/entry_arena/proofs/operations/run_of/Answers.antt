use Rattle.std.proofs.Common.{rules}
use Rattle.std.proofs.lemmas.List.Sorted.{answers_always}
use Rattle.entry_arena.proofs.Found.{found, not_found}
use Rattle.entry_arena.proofs.operations.run_of.Goals as goal

-- the closure gives a run's value
pub returns-in-Ok : goal.returns-in-Ok
returns-in-Ok c =
    let at = c.in-Ok.ensures.position (λ run. run.value) (answers_always _ _ _ (λ f a r g called. search rules)) in
    (c.in-Ok.ensures.bound, found (λ run. run.value) c.args.runs.now (record { value = 0; first = 0 }) c.requires.rising c.args.value c.in-Ok.number at)

pub returns-in-Err : goal.returns-in-Err
returns-in-Err c =
    let parted = c.in-Err.ensures.position (λ run. run.value) (answers_always _ _ _ (λ f a r g called. search rules)) in
    not_found (λ run. run.value) c.args.runs.now (record { value = 0; first = 0 }) c.requires.rising c.args.value c.in-Err.field-0 parted
