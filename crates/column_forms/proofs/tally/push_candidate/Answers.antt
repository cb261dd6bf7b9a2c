use Rattle.std.proofs.Common.{◌++◌, ◌∷◌, List, [], sym, subst}
use Rattle.std.specs.Int.{w64}
use Rattle.std.specs.Prelude.{FitsSigned, Contains}
use Rattle.std.proofs.lemmas.Int.{to_z-of_z}
use Rattle.column_forms.specs.declared.tally.Candidate.{Candidate}
use Rattle.column_forms.specs.inside.Tallies.{AreFound}
use Rattle.column_forms.proofs.TallyLaws.{found_out, found_more}
use Rattle.column_forms.proofs.tally.push_candidate.Goals as goal

pub returns-in_ok-push : goal.returns-in_ok-push
returns-in_ok-push c =
    let fits : FitsSigned w64 c.args.constant = c.ranges.constant in
    let first = simp to_z-of_z at c.in-Some.ensures in
    λ codes before.
    let more = found_more c.args.name c.args.constant c.args.value.now c.args.code c.in-Some.candidate c.args.candidates.now.items first codes before in
    subst (λ (z : List Candidate). AreFound c.args.name c.args.constant c.args.value.now (Contains (codes ++ c.args.code ∷ [])) z) (sym c.in_ok-push.ensures.items) more

pub returns-in_default : goal.returns-in_default
returns-in_default c =
    let fits : FitsSigned w64 c.args.constant = c.ranges.constant in
    let none = simp to_z-of_z at c.in_default.ensures in
    found_out c.args.name c.args.constant c.args.value.now c.args.code c.args.candidates.now.items none
