use Rattle.entry_arena.proofs.StepLaws.{walks_rise, going_steps, steps_faultless, unread_start, root_coded}
use Rattle.entry_arena.proofs.laws.steps_whole.Goals as goal

pub returns-clause-rise : goal.returns-clause-rise
returns-clause-rise c = walks_rise

pub returns-clause-next : goal.returns-clause-next
returns-clause-next c = going_steps

pub returns-clause-faultless : goal.returns-clause-faultless
returns-clause-faultless c = steps_faultless

pub returns-clause-unread : goal.returns-clause-unread
returns-clause-unread c = unread_start

pub returns-clause-roots : goal.returns-clause-roots
returns-clause-roots c = root_coded
