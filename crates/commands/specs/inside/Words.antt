-- What is asked for, as the program keeps it.
-- Inner functions and proofs alone need what stands here.
use Rattle.std.specs.Prelude.{◌≢◌, ◌≤◌}
use Rattle.commands.specs.declared.words.Command.{Command as Kept}
use Rattle.commands.specs.declared.words.Command.TheVariants as kept
use Rattle.commands.specs.Words.{Command}
use Rattle.commands.specs.Words.Command.{Shrink, Check, Stat, Make}

-- the command that is kept
abbrev pub meant : Kept → Command
meant (kept.Shrink n) = Shrink (record { input = n.input.now; output = n.output.now; certificate = n.certificate.now })
meant (kept.Check n) = Check (record { input = n.input.now; output = n.output.now; certificate = n.certificate.now })
meant (kept.Stat input) = Stat input.now
meant (kept.Make d) = Make (record { number = d.number; units = d.units; output = d.output.now })

-- no two of the names are the same of files of which one is written, and the units aren't too many
abbrev pub CanBeDone : Kept → Type 0
CanBeDone (kept.Shrink n) = (n.input.now ≢ n.output.now) × ((n.input.now ≢ n.certificate.now) × (n.output.now ≢ n.certificate.now))
CanBeDone (kept.Check n) = Unit {0}
CanBeDone (kept.Stat input) = Unit {0}
CanBeDone (kept.Make d) = d.units ≤ 4096
