use Rattle.column_forms.proofs.TableLaws.{best_some}
use Rattle.column_forms.proofs.tallies.best_for.Goals as goal

pub returns-in-Some : goal.returns-in-Some
returns-in-Some c = best_some c.args.classes c.in-Some.tally c.args.column c.best.result c.args.tally.now c.in-Some.is c.best.ensures
