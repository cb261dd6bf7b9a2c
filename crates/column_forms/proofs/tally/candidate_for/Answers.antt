use Rattle.std.proofs.Common.{◌≡◌, true, arith}
use Rattle.std.specs.Int.{w64}
use Rattle.std.specs.Prelude.{FitsSigned}
use Rattle.std.proofs.lemmas.Int.{to_z-of_z}
use Rattle.form_codec.specs.Forms.{is_written}
use Rattle.column_forms.proofs.TallyLaws.{first_none, first_some}
use Rattle.column_forms.proofs.tally.candidate_for.Goals as goal

pub returns-in_default-size_in : goal.returns-in_default-size_in
returns-in_default-size_in c =
    let fits : FitsSigned w64 c.args.constant = c.ranges.constant in
    let shape = simp to_z-of_z at c.shape-shape.ensures in
    let written : is_written c.in-Some.form ≡ true = grind (arith, c.if-not-is_written.false, c.is_written.ensures) in
    first_none c.args.name c.args.code c.args.constant c.args.value.now c.in-Some.form c.shape-shape.result c.in-Some.ensures written shape c.in_default-size_in.ensures

pub returns : goal.returns
returns c =
    let fits : FitsSigned w64 c.args.constant = c.ranges.constant in
    let shape = simp to_z-of_z at c.shape-shape.ensures in
    let written : is_written c.in-Some.form ≡ true = grind (arith, c.if-not-is_written.false, c.is_written.ensures) in
    rw c.from.ensures (first_some c.args.name c.args.code c.args.constant c.args.value.now c.in-Some.form c.shape-shape.result c.in-Some-size_in.size c.in-Some.ensures written shape c.in-Some-size_in.ensures)
