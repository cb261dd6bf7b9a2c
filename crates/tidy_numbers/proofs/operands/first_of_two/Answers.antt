use Rattle.std.proofs.Common.{◌∙◌, sym}
use Rattle.std.proofs.lemmas.Bool.{false≢true}
use Rattle.tidy_numbers.proofs.OperandPlaces.{second_there, found_second}
use Rattle.tidy_numbers.proofs.operands.first_of_two.Goals as goal

pub first_of_one-requires-clause-number : goal.first_of_one-requires-clause-number
first_of_one-requires-clause-number c = second_there c.args.first.shape c.args.second.shape c.args.bytes.now c.args.at c.end-next.result c.requires.two c.end-next.ensures

pub returns : goal.returns
returns c =
    found_second c.args.first.is_slot c.args.second.is_slot c.args.first.shape c.args.second.shape c.args.bytes.now c.args.at c.end-next.result (λ long. absurd (false≢true (sym c.if-is_long.false ∙ c.is_long.ensures.1 long))) c.end-next.ensures c.first_of_one.result c.first_of_one.ensures
