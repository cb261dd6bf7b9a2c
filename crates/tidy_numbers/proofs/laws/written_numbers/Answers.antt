use Rattle.written_files.proofs.Laws.{written_laws}
use Rattle.tidy_numbers.proofs.Written.{written_numbers_short}
use Rattle.tidy_numbers.proofs.WrittenExpressions.{no_long_expression, no_long_in_list}
use Rattle.tidy_numbers.proofs.WrittenOperands.{no_long_operand}
use Rattle.tidy_numbers.proofs.laws.written_numbers.Goals as goal

pub returns : goal.returns
returns c =
    written_numbers_short written_laws
    (λ file written r s anew. (no_long_expression written_laws file written r s anew, no_long_in_list written_laws file written r s anew))
    (λ file written r s anew kind k p inside. no_long_operand written_laws file written r s anew kind k inside p)
