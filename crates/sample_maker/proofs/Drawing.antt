-- Draws that go on one after the other.
use Rattle.std.proofs.Common.{◌≡◌, ◌<◌, ◌+◌, ◌-◌, ℕ, suc, List, [], ◌∷◌, ◌++◌, ◌∙◌, sym, ap, arith}
use Rattle.std.proofs.lemmas.List.{append-nil, append_assoc}
use Rattle.sample_maker.specs.Draws.{repeated, all_drawn}
use Rattle.sample_maker.specs.inside.Drawing.{IsDrawing}

pub drawing_begins : {T : Type 0} (draw : ℕ → T) (step : ℕ → ℕ) (count from : ℕ) → IsDrawing draw step count from [] 0 from
drawing_begins draw step count from =
    let none : count - 0 ≡ count = omega arith in
    record { things = ap (λ (n : ℕ). all_drawn draw step n from) none; behind = ap (λ (n : ℕ). repeated step n from) none }

pub drawing_goes_on : {T : Type 0} (draw : ℕ → T) (step : ℕ → ℕ) (count from : ℕ) (items : List T) (done state : ℕ) → done < count → IsDrawing draw step count from items done state → IsDrawing draw step count from (items ++ draw state ∷ []) (done + 1) (step state)
drawing_goes_on {T} draw step count from items done state more d =
    let left : count - done ≡ suc (count - (done + 1)) = omega arith in
    let things : items ++ (draw state ∷ all_drawn draw step (count - (done + 1)) (step state)) ≡ all_drawn draw step count from = sym (ap (λ (n : ℕ). items ++ all_drawn draw step n state) left) ∙ d.things in
    let behind : repeated step (count - (done + 1)) (step state) ≡ repeated step count from = sym (ap (λ (n : ℕ). repeated step n state) left) ∙ d.behind in
    record { things = append_assoc items (draw state ∷ []) (all_drawn draw step (count - (done + 1)) (step state)) ∙ things; behind = behind }

pub all_are_drawn : {T : Type 0} (draw : ℕ → T) (step : ℕ → ℕ) (count from : ℕ) (items : List T) (state : ℕ) → IsDrawing draw step count from items count state → items ≡ all_drawn draw step count from
all_are_drawn draw step count from items state d =
    let none : count - count ≡ 0 = omega arith in
    sym (append-nil items) ∙ sym (ap (λ (n : ℕ). items ++ all_drawn draw step n state) none) ∙ d.things

pub state_is_behind : {T : Type 0} (draw : ℕ → T) (step : ℕ → ℕ) (count from : ℕ) (items : List T) (state : ℕ) → IsDrawing draw step count from items count state → state ≡ repeated step count from
state_is_behind draw step count from items state d =
    let none : count - count ≡ 0 = omega arith in
    sym (ap (λ (n : ℕ). repeated step n state) none) ∙ d.behind

-- one more is drawn
pub one_more_drawn : {T : Type 0} (draw : ℕ → T) (step : ℕ → ℕ) (count from : ℕ) (items news : List T) (done state now : ℕ) (thing : T) → done < count → IsDrawing draw step count from items done state → thing ≡ draw state → news ≡ items ++ thing ∷ [] → now ≡ step state → IsDrawing draw step count from news (done + 1) now
one_more_drawn {T} draw step count from items news done state now thing more d is_thing is_news is_now =
    let whole : news ≡ items ++ draw state ∷ [] = is_news ∙ ap (λ (z : T). items ++ z ∷ []) is_thing in
    rw (whole, is_now) (drawing_goes_on draw step count from items done state more d)
