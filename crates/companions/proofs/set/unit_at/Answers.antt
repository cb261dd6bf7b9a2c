use Rattle.companions.proofs.Tiling.{no_start}
use Rattle.companions.proofs.set.unit_at.Goals as goal

pub returns-in-Err : goal.returns-in-Err
returns-in-Err c = no_start c.args.starts.now c.args.place c.in-Err.field-0 c.requires.rising c.in-Err.ensures.position
