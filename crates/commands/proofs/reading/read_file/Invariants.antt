use Rattle.std.proofs.Common.{◌≡◌, ◌≤◌, ◌+◌, ◌-◌, ℕ, List, length, take, vec_len}
use Rattle.std.specs.Option.{ForSome}
use Rattle.commands.proofs.reading.read_file.Given as goal

abbrev pub invariant-loop-file : goal.invariant-loop-file
invariant-loop-file g l =
    let host = g.H.Host in
    record {
      room : vec_len l.piece ≡ 65536;
      limit : vec_len l.file ≤ l.limit + 1;
      read : ForSome (host.bytes l.fn.host l.name) (λ b. l.file.items ≡ take (length l.file.items) b);
      files : (f : List ℕ) → host.bytes l.host f ≡ host.bytes l.fn.host f;
      said : host.said l.host ≡ host.said l.fn.host;
      reads : (f : List ℕ) → host.read_faults l.host f ≡ host.read_faults l.fn.host f;
      writes : (f : List ℕ) → host.write_faults l.host f ≡ host.write_faults l.fn.host f;
      says : host.say_faults l.host ≡ host.say_faults l.fn.host;
    }

abbrev pub decreases-loop-file : goal.decreases-loop-file
decreases-loop-file g l = l.limit + 1 - vec_len l.file
