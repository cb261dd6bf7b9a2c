use Rattle.form_codec.proofs.ShapeFaults.{value_whole}
use Rattle.form_codec.proofs.laws.values_whole.Goals as goal

pub returns : goal.returns
returns c = value_whole
