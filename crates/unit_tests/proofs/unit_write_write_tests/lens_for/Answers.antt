use Rattle.std.proofs.Common.{◌≡◌, ◌⊎◌, ℕ, List, length, inl, inr}
use Rattle.unit_write.specs.NewExpressions.{lens_of, new_lens}
use Rattle.unit_tests.proofs.WritableUnits.{lens_all}
use Rattle.unit_tests.proofs.unit_write_write_tests.lens_for.Goals as goal

pub returns : goal.returns
returns c =
    let f = c.args.unit.now.forest in
    let values = c.loop-value.value-iterator.a.a.rest.now in
    let numbers : List ℕ = c.loop-value.value-iterator.a.b.rest.now in
    let ends : List ℕ = c.loop-value.value-iterator.b.rest.now in
    let none : (length values ≡ 0) ⊎ ((length numbers ≡ 0) ⊎ (length ends ≡ 0)) = elim (c.in-None.ensures.steps) [ inl x ↦ elim (x.1) [ inl y ↦ inl y.1.0 | inr y ↦ inr (inl y.1.0) ] | inr x ↦ inr (inr x.1.0) ] in
    lens_all f.section (new_lens f.section f.values c.args.held.now.items (lens_of c.args.ends.now.items)) c.loop-value.lens.items c.loop-value.begin values numbers ends c.loop-value.invariant none
