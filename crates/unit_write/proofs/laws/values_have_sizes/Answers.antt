use Rattle.unit_write.proofs.ValueLaws.{numbers_have_sizes, expressions_have_sizes, shortest_have_sizes}
use Rattle.unit_write.proofs.laws.values_have_sizes.Goals as goal

pub returns : goal.returns
returns c = record {
  numbers = numbers_have_sizes;
  expressions = expressions_have_sizes;
  others = shortest_have_sizes;
}
