use Rattle.std.proofs.Common.{◌≡◌, ◌<◌, ℕ, true}
use Rattle.form_codec.specs.declared.form.Form.TheVariants.{Udata}
use Rattle.form_codec.specs.Forms.{code_of}
use Rattle.column_forms.specs.Tallies.{candidate_at}
use Rattle.column_forms.proofs.choice.admits_unsigned.Given as goal

abbrev pub invariant-loop-candidate : goal.invariant-loop-candidate
invariant-loop-candidate l =
    (k : ℕ) → k < l.candidate-index → (candidate_at l.candidates k).form ≡ code_of Udata → (candidate_at l.candidates k).admits ≡ true → ⊥
