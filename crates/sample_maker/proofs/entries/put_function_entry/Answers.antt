use Rattle.std.proofs.Common.{rules}
use Rattle.std.proofs.lemmas.List.{append_assoc}
use Rattle.std.proofs.lemmas.Result.{IfOk-equal}
use Rattle.sample_maker.specs.inside.Bytes.{function_entry_bytes}
use Rattle.sample_maker.proofs.entries.put_function_entry.Goals as goal

pub returns : goal.returns
unfolding function_entry_bytes
returns c = search (rules, IfOk-equal, append_assoc)
