use Rattle.tidy_tables.proofs.TableBytes.{AreCovered}
use Rattle.tidy_tables.proofs.loose.first_loose_byte.Given as goal

abbrev pub invariant-loop-named : goal.invariant-loop-named
invariant-loop-named l = AreCovered l.after.tables l.named-index l.end
