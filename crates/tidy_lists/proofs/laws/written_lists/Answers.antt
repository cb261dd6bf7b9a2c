use Rattle.written_files.proofs.Laws.{written_laws}
use Rattle.tidy_lists.proofs.WrittenInPlace.{written_in_place}
use Rattle.tidy_lists.proofs.laws.written_lists.Goals as goal

pub returns : goal.returns
returns c = written_in_place written_laws
