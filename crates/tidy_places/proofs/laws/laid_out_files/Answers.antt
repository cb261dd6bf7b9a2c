use Rattle.tidy_places.proofs.InPlace.{laid_out_in_place, bare_in_place}
use Rattle.tidy_places.proofs.laws.laid_out_files.Goals as goal

pub returns-clause-laid_out : goal.returns-clause-laid_out
returns-clause-laid_out c = laid_out_in_place

pub returns-clause-bare : goal.returns-clause-bare
returns-clause-bare c = bare_in_place
