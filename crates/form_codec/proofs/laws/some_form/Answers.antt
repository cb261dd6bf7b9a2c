use Rattle.form_codec.proofs.ColumnLaws.{some_form}
use Rattle.form_codec.proofs.laws.some_form.Goals as goal

pub returns : goal.returns
returns c = some_form
