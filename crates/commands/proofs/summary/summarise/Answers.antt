use Rattle.std.proofs.Common.{String, Global}
use Rattle.std.proofs.lemmas.Result.{err_from_is_err_and}
use Rattle.commands.proofs.Shrinks.{refusal_named, within_limit}
use Rattle.commands.proofs.summary.summarise.Goals as goal

pub returns-in_err-line_of-clause-refused : goal.returns-in_err-line_of-clause-refused
returns-in_err-line_of-clause-refused g c =
    let p = err_from_is_err_and c.from_residual-in_err-line_of.result c.from_residual-in_err-line_of.ensures.1 in
    let refused = rw c.deref.ensures.value at c.in_err-line_of.ensures.refused in
    rw (p.1, p.2) (refusal_named (String Global) _ _ _ c.in_ok-file.ensures.read refused)

pub returns-in_err-line_of-clause-long : goal.returns-in_err-line_of-clause-long
returns-in_err-line_of-clause-long g c = within_limit _ _ c.in_ok-file.ensures.long

pub returns-clause-line : goal.returns-clause-line
returns-clause-line g c =
    let line = rw c.deref.ensures.value at c.in_ok-line_of.ensures.line in
    (c.in_ok-file.file.items, c.in_ok-file.ensures.read, line)
