use Rattle.std.proofs.Common.{◌≡◌, ◌+◌, ◌⊎◌, ◌∙◌, inl, inr, ℕ, length, min, ap, arith}
use Rattle.std.proofs.lemmas.Bool.{cases_lt}
use Rattle.value_links.specs.Sections.{body_named, offset_named}
use Rattle.tidy_files.proofs.OtherBytes.{first_differs, first_behind, none_differs}
use Rattle.tidy_files.proofs.programs.first_other_byte.Goals as goal

-- the lesser of two numbers is one of them
one_of : (n a b : ℕ) → n ≡ min a b → (n ≡ a) ⊎ (n ≡ b)
one_of n a b is = elim (cases_lt a b) [
  | inl less ↦ inl (omega (arith, is, less))
  | inr more ↦ inr (omega (arith, is, more))
]

pub returns-then-old-place : goal.returns-then-old-place
returns-then-old-place c =
    let file = c.args.before.now.image in
    let written = c.args.after.now.image in
    let is_old = c.section-old.ensures ∙ ap (λ z. body_named file z) c.as_slice-name.ensures in
    let is_new = c.section-new.ensures ∙ ap (λ z. body_named written z) c.as_slice-name.ensures in
    let place = c.offset_in_file.ensures ∙ ap (λ z. offset_named written z + c.loop-place.place) c.as_slice-name.ensures in
    first_differs file written c.section-old.result.now c.section-new.result.now is_old is_new c.loop-place.place c.loop-place.invariant
    (omega (arith, c.loop-place-test.true, c.min-common.ensures)) (omega (arith, c.loop-place-test.true, c.min-common.ensures)) c.if-old-place.true c.offset_in_file.result place

pub returns-then-old-new : goal.returns-then-old-new
returns-then-old-new c =
    let file = c.args.before.now.image in
    let written = c.args.after.now.image in
    let is_old = c.section-old.ensures ∙ ap (λ z. body_named file z) c.as_slice-name.ensures in
    let is_new = c.section-new.ensures ∙ ap (λ z. body_named written z) c.as_slice-name.ensures in
    none_differs file written c.section-old.result.now c.section-new.result.now is_old is_new c.loop-place.place c.loop-place.invariant
    (omega (arith, c.loop-place-test.false, c.min-common.ensures, c.if-old-new.true)) c.if-old-new.true

pub returns : goal.returns
returns c =
    let file = c.args.before.now.image in
    let written = c.args.after.now.image in
    let is_old = c.section-old.ensures ∙ ap (λ z. body_named file z) c.as_slice-name.ensures in
    let is_new = c.section-new.ensures ∙ ap (λ z. body_named written z) c.as_slice-name.ensures in
    let place = c.offset_in_file-2.ensures ∙ ap (λ z. offset_named written z + c.min-common.result) c.as_slice-name.ensures in
    first_behind file written c.section-old.result.now c.section-new.result.now is_old is_new c.min-common.result
    (λ k less. c.loop-place.invariant k (omega (arith, less, c.loop-place-test.false))) (one_of c.min-common.result (length c.section-old.result.now) (length c.section-new.result.now) c.min-common.ensures)
    (omega (arith, c.min-common.ensures)) (omega (arith, c.min-common.ensures)) c.if-old-new.false c.offset_in_file-2.result place
