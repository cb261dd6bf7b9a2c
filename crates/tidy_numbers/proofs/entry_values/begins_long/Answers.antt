use Rattle.std.proofs.Common.{drop}
use Rattle.tidy_numbers.proofs.EntryNumbers.{count_begins}
use Rattle.tidy_numbers.proofs.entry_values.begins_long.Goals as goal

pub is_long-requires-in-UlebCounted-Data-clause-number : goal.is_long-requires-in-UlebCounted-Data-clause-number
is_long-requires-in-UlebCounted-Data-clause-number c =
    count_begins (drop c.args.at c.args.info.now) c.args.shape c.in-UlebCounted-Data.field-0 c.in-UlebCounted-Data.is c.requires.value
