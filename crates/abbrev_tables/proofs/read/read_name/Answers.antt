use Rattle.std.proofs.Common.{ℕ, take, drop, sym, refl, arith}
use Rattle.std.proofs.lemmas.List.{take-append-drop}
use Rattle.abbrev_tables.proofs.read.read_name.Goals as goal

pub returns-then-read-gt-GREATEST_NAME-clause-fault : goal.returns-then-read-gt-GREATEST_NAME-clause-fault
returns-then-read-gt-GREATEST_NAME-clause-fault c =
    let n : ℕ = c.in-Ok.read.end in (
      refl,
      record {
        number = c.in-Ok.read.value;
        front = take n c.args.rest.now;
        after = drop n c.args.rest.now;
        spelled = c.in-Ok.ensures.read.1;
        large = grind arith;
        whole = sym (take-append-drop n c.args.rest.now);
      },
    )
