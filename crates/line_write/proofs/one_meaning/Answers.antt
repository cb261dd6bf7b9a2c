use Rattle.line_write.proofs.Tiling.{meaning_once}
use Rattle.line_write.proofs.one_meaning.Goals as goal

pub returns : goal.returns
returns c = meaning_once
