use Rattle.std.proofs.Common.{◌≡◌, ◌≤◌, ◌+◌, ◌∙◌, length, arith}
use Rattle.commands.proofs.Fronts.{whole_read, full_read}
use Rattle.commands.proofs.reading.read_file.Goals as goal

pub returns-then-branch-eq0-clause-read : goal.returns-then-branch-eq0-clause-read
returns-then-branch-eq0-clause-read g c = λ x told.
    let now = c.loop-file.invariant.files c.args.name.now ∙ told in
    let read = c.in_ok-read_on.ensures.read x now (c.loop-file.invariant.read x told) in
    let new = c.read_on.new.file in
    let old = c.loop-file.file in
    let within : length new.items ≤ c.args.limit + 1 = omega (arith, c.in_ok-read_on.ensures.grown.1, new.ok.0, old.ok.0) in
    c.shrink_to_fit.ensures.items ∙ whole_read _ _ _ read.0 (read.1 c.if-branch-eq0.true) within

pub returns-clause-read : goal.returns-clause-read
returns-clause-read g c = λ x told.
    let file = c.loop-file.file in
    let full : length file.items ≡ c.args.limit + 1 = omega (arith, file.ok.0) in
    full_read _ _ _ (c.loop-file.invariant.read x told) full
