use Rattle.std.proofs.Common.{◌≡◌, ◌<◌, ◌∙◌, ℕ, List, sym, inl, inr, arith}
use Rattle.std.specs.Prelude.{slice_get}
use Rattle.std.proofs.lemmas.Bool.{cases_lt, both_ways, false≢true, lt-ltb, leb-false}
use Rattle.same_meaning.proofs.kept.differs_outside.Goals.{then-place-lt-SECTIONS_AT, else-place-lt-SECTIONS_AT, else-is_kept-via-then-is_kept+else-is_other_byte, else-is_kept-via-else-is_kept}
use Rattle.same_meaning.proofs.kept.differs_outside.Goals as goal

moved : (a x b y : List ℕ) (k j : ℕ) → a ≡ x → b ≡ y → k ≡ j → slice_get b k ≡ slice_get a k → slice_get y j ≡ slice_get x j
moved a x b y k j e f g same = rw (← e, ← f, ← g) same

pub loop-place-preserved-then-is_other_byte : goal.loop-place-preserved-then-is_other_byte
loop-place-preserved-then-is_other_byte c = λ d.
    let from = c.loop-place.invariant d in
    let here = c.in-Some.ensures.1 in
    elim (cases_lt d.k c.body_end-place.result) [
      | inl before ↦ absurd (d.outside c.in-Some.section c.in-Some.ensures.0 (omega arith, omega (arith, c.body_end-place.ensures)))
      | inr past ↦ past
    ]

pub loop-place-preserved : goal.loop-place-preserved
loop-place-preserved c = λ d.
    let from = c.loop-place.invariant d in
    let test = c.if-place-lt-SECTIONS_AT in
    elim (cases_lt c.loop-place.place d.k) [
      | inl past ↦ omega arith
      | inr at ↦
          let here : c.loop-place.place ≡ d.k = omega arith in
          absurd (elim c.else-is_kept.branch [
            | else-is_kept-via-then-is_kept+else-is_other_byte w ↦ both_ways w.is_other_byte.result w.if-is_other_byte.false (w.is_other_byte.ensures.1 (λ same. d.other (moved c.whole-before.result.now c.args.old.now c.whole-after.result.now c.args.new.now c.loop-place.place d.k c.whole-before.ensures.bytes c.whole-after.ensures.bytes here same)))
            | else-is_kept-via-else-is_kept w ↦ elim test.branch [
              | then-place-lt-SECTIONS_AT v ↦ both_ways test.is_kept w.if-is_kept.false (v.is_kept-is ∙ lt-ltb c.loop-place.place 40 v.if-place-lt-SECTIONS_AT.true)
              | else-place-lt-SECTIONS_AT v ↦ let low : c.loop-place.place < 48 = leb-false 48 c.loop-place.place (sym v.is_kept-is ∙ w.if-is_kept.false) in let high = v.if-place-lt-SECTIONS_AT.false in elim d.loaded.1 [ inl before ↦ omega arith | inr after ↦ omega arith ]
            ]
          ])
    ]

pub returns : goal.returns
returns c = (λ is. absurd (false≢true is), λ d. let from = c.loop-place.invariant d in let below = d.loaded.0 in absurd (omega (arith, c.fixed_end-end.ensures.value)))
