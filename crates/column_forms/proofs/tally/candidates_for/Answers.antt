use Rattle.std.proofs.Common.{ℕ, List, sym, subst}
use Rattle.std.specs.Int.{w64}
use Rattle.std.specs.Prelude.{FitsSigned, Contains, take}
use Rattle.std.proofs.lemmas.Int.{to_z-of_z}
use Rattle.std.proofs.lemmas.List.{take_all, take_more}
use Rattle.column_forms.specs.inside.Tallies.{AreFound}
use Rattle.column_forms.proofs.TallyLaws.{found_all}
use Rattle.column_forms.proofs.tally.candidates_for.Goals as goal

pub loop-code-preserved : goal.loop-code-preserved
loop-code-preserved c =
    let fits : FitsSigned w64 c.args.constant = c.ranges.constant in
    let codes : List ℕ = c.codes_for-codes.result.now in
    let i : ℕ = c.loop-code.code-index in
    let before = simp to_z-of_z at c.loop-code.invariant in
    let more = simp to_z-of_z at c.in_ok-push_candidate.ensures in
    rw to_z-of_z (subst (λ (z : List ℕ). AreFound c.args.name c.args.constant c.args.value.now (Contains z) c.push_candidate.new.candidates.items) (sym (take_more codes i 0 c.loop-code-test.true)) (more (take i codes) before))

pub returns : goal.returns
returns c =
    let fits : FitsSigned w64 c.args.constant = c.ranges.constant in
    let codes : List ℕ = c.codes_for-codes.result.now in
    let items = c.loop-code.candidates.items in
    let tried = simp to_z-of_z at c.loop-code.invariant in
    let found = subst (λ (z : List ℕ). AreFound c.args.name c.args.constant c.args.value.now (Contains z) items) (take_all c.loop-code.code-index codes c.loop-code-test.false) tried in
    found_all c.args.name c.args.constant c.args.value.now codes items c.codes_for-codes.ensures.codes found
