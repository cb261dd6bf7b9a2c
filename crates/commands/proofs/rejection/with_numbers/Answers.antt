use Rattle.std.proofs.Common.{append_assoc}
use Rattle.commands.proofs.rejection.with_numbers.Goals as goal

pub returns : goal.returns
returns c = rw c.into_bytes.ensures.value (simp append_assoc c.in_ok-words.ensures.ok)
