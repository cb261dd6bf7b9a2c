use Rattle.form_codec.proofs.Codes.{code_range}
use Rattle.form_codec.proofs.FormLaws.{any_constant, constant_spelled, spells_constant}
use Rattle.form_codec.proofs.laws.constants.Goals as goal

pub returns-clause-codes : goal.returns-clause-codes
returns-clause-codes c = code_range

pub returns-clause-others : goal.returns-clause-others
returns-clause-others c = any_constant

pub returns-clause-implicit : goal.returns-clause-implicit
returns-clause-implicit c = constant_spelled

pub returns-clause-spells : goal.returns-clause-spells
returns-clause-spells c = spells_constant
