-- Laws of the places of counted steps, as a map tells them.
use Rattle.std.proofs.Common.{◌≡◌, ◌<◌, ◌+◌, ◌++◌, ◌∙◌, ℕ, suc, List, [], ◌∷◌, get_or, set, length, map, refl, sym, ap, subst, arith, Bool, true, false, inl, inr, Some, None, cond}
use Rattle.std.specs.Prelude.{Option}
use Rattle.std.specs.BTreeMap.{BTreeMap, get, is_at}
use Rattle.std.specs.List.{list_any, position_or_len}
use Rattle.std.proofs.lemmas.Bool.{cases_Bool}
use Rattle.std.proofs.lemmas.Bool.Decides.{Decides-eqb, Decides-int_eq}
use Rattle.std.proofs.lemmas.List.{length-map, length-append}
use Rattle.line_sums.specs.declared.count.CountedStep.{CountedStep}
use Rattle.line_sums.specs.declared.step.Step.{Step}
use Rattle.line_sums.specs.declared.step.Step.TheVariants.{Row as RowStep, End as EndStep}
use Rattle.line_sums.specs.contracts.step.StepOrd.TheImpl.{cmp-value}
use Rattle.line_sums.specs.contracts.step.StepOrd.TheImpl.Laws.{matches_eq-law}
use Rattle.line_sums.specs.contracts.step.StepPartialEq.TheImpl.{eq-value}
use Rattle.line_sums.specs.Counting.{step_in}
use Rattle.line_sums.specs.inside.Places.{IsPlace, ArePlaces}
use Rattle.line_sums.proofs.Counted.{same_true, steps_set}
use Rattle.line_sums.proofs.Firsts.{or_parts}

own : (s : Step) → eq-value.it s s ≡ true
own (RowStep line distance) = rw ((Decides-int_eq line line).1 refl, (Decides-eqb distance distance).1 refl) refl
own (EndStep distance) = (Decides-eqb distance distance).1 refl

swapped : (s t : Step) → eq-value.it s t ≡ false → eq-value.it t s ≡ false
swapped s t other =
    elim (cases_Bool (eq-value.it t s)) [
      | inl same ↦
          let none : eq-value.it s s ≡ false = subst (λ (x : Step). eq-value.it s x ≡ false) (same_true t s same) other in
          let some = own s in
          absurd (cc)
      | inr is ↦ is
    ]

-- the step at its place
pub held : (cs : List CountedStep) (s : Step) (p : ℕ) (d : CountedStep) → p ≡ position_or_len (eq-value.it s) (map step_in cs) → p < length cs → eq-value.it s (get_or cs p d).step ≡ true
held [] s p d e lt = absurd (omega arith)
held (c ∷ cs) s p d e lt =
    elim (cases_Bool (eq-value.it s c.step)) [
      | inl same ↦ let first : p ≡ 0 = rw same at e in rw first same
      | inr other ↦
          let rest : ℕ = position_or_len (eq-value.it s) (map step_in cs) in
          let next : p ≡ suc rest = rw other at e ∙ omega arith in
          rw next (held cs s rest d refl (omega arith))
    ]

kept_place : (cs ds : List CountedStep) (s : Step) (o : Option ℕ) → map step_in ds ≡ map step_in cs → IsPlace cs s o → IsPlace ds s o
kept_place cs ds s None same is = rw same is
kept_place cs ds s (Some p) same is = (omega (arith, is.0, length-map cs step_in, length-map ds step_in, ap length same), is.1 ∙ ap (position_or_len (eq-value.it s)) (sym same))

-- one more of a step that is counted
pub places_again : (places : BTreeMap Step ℕ) (cs : List CountedStep) (i : ℕ) (x : CountedStep) (count : ℕ) → x ≡ get_or cs i x → ArePlaces places cs → ArePlaces places (set cs i (record { step = x.step; count = count }))
places_again places cs i x count at are = record { each = λ s. kept_place cs (set cs i (record { step = x.step; count = count })) s _ (steps_set cs i x count at) (are.each s) }

any_more : (f : Step → Bool) (cs : List CountedStep) (c : CountedStep) → f c.step ≡ false → list_any f (map step_in cs) ≡ false → list_any f (map step_in (cs ++ c ∷ [])) ≡ false
any_more f [] c other none = rw other refl
any_more f (x ∷ cs) c other none = let parts = or_parts (f x.step) (list_any f (map step_in cs)) none in rw parts.0 (any_more f cs c other parts.1)

place_kept : (f : Step → Bool) (cs : List CountedStep) (c : CountedStep) (p : ℕ) → p ≡ position_or_len f (map step_in cs) → p < length cs → p ≡ position_or_len f (map step_in (cs ++ c ∷ []))
place_kept f [] c p e lt = absurd (omega arith)
place_kept f (x ∷ cs) c p e lt =
    elim (cases_Bool (f x.step)) [
      | inl same ↦ let first : p ≡ 0 = rw same at e in rw (same, first) refl
      | inr other ↦
          let rest : ℕ = position_or_len f (map step_in cs) in
          let next : p ≡ suc rest = rw other at e ∙ omega arith in
          let more = place_kept f cs c rest refl (omega arith) in
          rw other (omega (arith, next, more))
    ]

place_new : (f : Step → Bool) (cs : List CountedStep) (c : CountedStep) → list_any f (map step_in cs) ≡ false → f c.step ≡ true → length cs ≡ position_or_len f (map step_in (cs ++ c ∷ []))
place_new f [] c none same = rw same refl
place_new f (x ∷ cs) c none same = let parts = or_parts (f x.step) (list_any f (map step_in cs)) none in let more = place_new f cs c parts.1 same in rw parts.0 (omega (arith, more))

place_more : (cs : List CountedStep) (c : CountedStep) (s : Step) (o : Option ℕ) → eq-value.it s c.step ≡ false → IsPlace cs s o → IsPlace (cs ++ c ∷ []) s o
place_more cs c s None other is = any_more (eq-value.it s) cs c other is
place_more cs c s (Some p) other is = (omega (arith, is.0, length-append cs (c ∷ [])), place_kept (eq-value.it s) cs c p is.1 is.0)

-- a step that wasn't counted has the place behind the others
pub places_more : (places new : BTreeMap Step ℕ) (cs : List CountedStep) (c : CountedStep) (n : ℕ) → n ≡ length cs → IsPlace cs c.step None → ((s : Step) → get cmp-value.it new s ≡ cond (is_at (cmp-value.it c.step) s) (Some n) (get cmp-value.it places s)) → ArePlaces places cs → ArePlaces new (cs ++ c ∷ [])
places_more places new cs c n is none updated are = record {
  each = λ s.
      let test : is_at (cmp-value.it c.step) s ≡ eq-value.it c.step s = sym (matches_eq-law c.step s) in
      elim (cases_Bool (eq-value.it c.step s)) [
        | inl same ↦
            let e : c.step ≡ s = same_true c.step s same in
            let at : get cmp-value.it new s ≡ Some n = updated s ∙ ap (λ (b : Bool). cond b (Some n) (get cmp-value.it places s)) (test ∙ same) in
            subst (λ (o : Option ℕ). IsPlace (cs ++ c ∷ []) s o) (sym at) (
              omega (arith, is, length-append cs (c ∷ [])),
              is ∙ place_new (eq-value.it s) cs c (subst (λ (x : Step). list_any (eq-value.it x) (map step_in cs) ≡ false) e none) (subst (λ (x : Step). eq-value.it x c.step ≡ true) e (own c.step)),
            )
        | inr other ↦
            let at : get cmp-value.it new s ≡ get cmp-value.it places s = updated s ∙ ap (λ (b : Bool). cond b (Some n) (get cmp-value.it places s)) (test ∙ other) in
            subst (λ (o : Option ℕ). IsPlace (cs ++ c ∷ []) s o) (sym at) (place_more cs c s _ (swapped c.step s other) (are.each s))
      ];
}

-- at first none is counted
pub places_none : (places : BTreeMap Step ℕ) (counted : List CountedStep) → places.entries ≡ [] → counted ≡ [] → ArePlaces places counted
places_none places counted none empty = record { each = λ s. rw (none, empty) refl }
