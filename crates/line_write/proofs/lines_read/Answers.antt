use Rattle.line_write.proofs.Reading.{read_whole}
use Rattle.line_write.proofs.lines_read.Goals as goal

pub returns : goal.returns
returns c = read_whole
