use Rattle.column_forms.proofs.TableLaws.{least_some}
use Rattle.column_forms.proofs.tallies.is_least_for.Goals as goal

pub returns-in-Some : goal.returns-in-Some
returns-in-Some c = least_some c.args.classes c.in-Some.tally c.args.column c.is_least.result c.args.tally.now c.in-Some.is c.is_least.ensures
