use Rattle.std.specs.Int.{w64}
use Rattle.std.specs.Prelude.{FitsSigned}
use Rattle.std.proofs.lemmas.Int.{to_z-of_z}
use Rattle.column_forms.proofs.TallyLaws.{tally_one}
use Rattle.column_forms.proofs.tally.Tally.new.Goals as goal

pub returns-clause-tally : goal.returns-clause-tally
returns-clause-tally c = λ section h.
    let fits : FitsSigned w64 c.constant_of-constant.result = record { sfits = c.constant_of-constant.type_inv } in
    let found = simp to_z-of_z at c.in_ok-candidates.ensures in
    rw to_z-of_z (tally_one c.args.name section c.args.value.now c.constant_of-constant.result c.in_ok-candidates.candidates.items c.constant_of-constant.ensures found h)
