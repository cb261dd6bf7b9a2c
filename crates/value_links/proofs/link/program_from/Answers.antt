use Rattle.std.proofs.Common.{rules}
use Rattle.std.proofs.lemmas.List.Sorted.{answers_always}
use Rattle.entry_arena.proofs.Found.{found, not_found}
use Rattle.value_links.specs.Reading.{no_program}
use Rattle.value_links.specs.inside.Links.{AreProgramsApart}
use Rattle.value_links.proofs.Searching.{program_found}
use Rattle.value_links.proofs.link.program_from.Goals as goal

-- the closure gives the place of a program
pub returns-in-Ok : goal.returns-in-Ok
returns-in-Ok c = λ (apart : AreProgramsApart c.args.programs.now).
    let at = c.in-Ok.ensures.position (λ head. head.at) (answers_always _ _ _ (λ f a r g called. search rules)) in
    program_found c.args.programs.now c.args.place c.in-Ok.number c.narrow.result apart c.in-Ok.ensures.bound (found (λ head. head.at) c.args.programs.now no_program.head apart.rising c.args.place c.in-Ok.number at) c.narrow.ensures

pub returns-in-Err : goal.returns-in-Err
returns-in-Err c = λ (apart : AreProgramsApart c.args.programs.now).
    let parted = c.in-Err.ensures.position (λ head. head.at) (answers_always _ _ _ (λ f a r g called. search rules)) in
    not_found (λ head. head.at) c.args.programs.now no_program.head apart.rising c.args.place c.in-Err.field-0 parted
