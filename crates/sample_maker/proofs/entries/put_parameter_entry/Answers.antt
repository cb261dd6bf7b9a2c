use Rattle.std.proofs.Common.{rules}
use Rattle.std.proofs.lemmas.List.{append_assoc}
use Rattle.std.proofs.lemmas.Result.{IfOk-equal}
use Rattle.sample_maker.specs.inside.Bytes.{parameter_entry_bytes}
use Rattle.sample_maker.proofs.entries.put_parameter_entry.Goals as goal

pub returns : goal.returns
unfolding parameter_entry_bytes
returns c = search (rules, IfOk-equal, append_assoc)
