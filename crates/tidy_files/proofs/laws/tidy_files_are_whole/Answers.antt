use Rattle.tidy_files.proofs.WholeFiles as whole
use Rattle.tidy_files.proofs.laws.tidy_files_are_whole.Goals as goal

pub returns : goal.returns
returns c = whole.tidy_files_are_whole
