use Rattle.std.proofs.Common.{◌<◌, ◌≤◌, ◌^◌, ℕ, List, length, subst, arith}
use Rattle.commands.proofs.Shrinks.{short_read, long_read}
use Rattle.commands.proofs.reading.read_input.Goals as goal

pub returns-then-len-gt-INPUT_LIMIT-clause-refused : goal.returns-then-len-gt-INPUT_LIMIT-clause-refused
returns-then-len-gt-INPUT_LIMIT-clause-refused g c =
    let long : 2 ^ 30 < length c.in-Ok.file.items = omega (arith, c.in-Ok.file.ok.0, c.len.ensures, c.if-len-gt-INPUT_LIMIT.true) in
    long_read c.first_faults_decide.ensures _ _ c.in-Ok.ensures.read long

pub returns-clause-read : goal.returns-clause-read
returns-clause-read g c =
    let short : length c.in-Ok.file.items ≤ 2 ^ 30 = omega (arith, c.in-Ok.file.ok.0, c.len.ensures, c.if-len-gt-INPUT_LIMIT.false) in
    short_read _ _ c.in-Ok.ensures.read short

pub returns-clause-long : goal.returns-clause-long
returns-clause-long g c = λ file told.
    let short : length c.in-Ok.file.items ≤ 2 ^ 30 = omega (arith, c.in-Ok.file.ok.0, c.len.ensures, c.if-len-gt-INPUT_LIMIT.false) in
    subst (λ (b : List ℕ). length b ≤ 2 ^ 30) (short_read _ _ c.in-Ok.ensures.read short file told) short
