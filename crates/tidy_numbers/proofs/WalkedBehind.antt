-- Places behind things of which it is known where they stand and end.
use Rattle.std.proofs.Common.{◌≡◌, ◌≤◌, ◌+◌, ◌-◌, ◌++◌, ◌⊎◌, ◌∙◌, ℕ, List, [], ◌∷◌, length, drop, sym, ap, subst, refl, inl, inr, arith}
use Rattle.std.proofs.lemmas.List.{take-append-drop, drop-drop, append_assoc, append_cancel_left, length-append}
use Rattle.spelled.specs.Spelled.{HasUniqueFronts, EndsApart, UntilEnd, Then}
use Rattle.entry_arena.specs.Trees.{bytes_between, SpellsBetween}
use Rattle.entry_arena.proofs.Between.{length_between}
use Rattle.entry_arena.proofs.SpellingLaws.{cut}
use Rattle.tidy_numbers.specs.Fronts.{Behind, BehindSome}
use Rattle.tidy_numbers.specs.inside.NumberWalks.{HoldsFrom}

-- the bytes from a place on: those up to another, and those from there on
pub parted : (bytes : List ℕ) (start end : ℕ) → start ≤ end → drop start bytes ≡ bytes_between bytes start end ++ drop end bytes
parted bytes start end order =
    let place : start + (end - start) ≡ end = omega arith in
    sym (take-append-drop (end - start) (drop start bytes)) ∙ ap (λ z. bytes_between bytes start end ++ z) (drop-drop (end - start) start bytes ∙ ap (λ k. drop k bytes) place)

pub between_end : (S : List ℕ → Type 0) (bytes : List ℕ) (start end : ℕ) → SpellsBetween S bytes start end → start + length (bytes_between bytes start end) ≡ end
between_end S bytes start end stands =
    let order : start ≤ end = stands.order in
    let size = length_between bytes start end stands.inside in
    omega (arith, size)

-- PARTS

-- a thing and then a second one
pub record TwoFrom (First Second : List ℕ → Type 0) (bytes : List ℕ) (start end : ℕ) : Type 0 where
  pub mid : ℕ
  pub first : SpellsBetween First bytes start mid
  pub second : SpellsBetween Second bytes mid end

two_from : (First Second : List ℕ → Type 0) (bytes : List ℕ) (start end : ℕ) (a b : List ℕ) → start ≤ end → end ≤ length bytes → First a → Second b → bytes_between bytes start end ≡ a ++ b → TwoFrom First Second bytes start end
two_from First Second bytes start end a b order inside p q whole =
    let c = cut bytes start end a b order inside whole in
    let before : c.mid ≤ end = c.before in
    record {
      mid = c.mid;
      first = record { order = c.after; inside = omega arith; spelled = subst First (sym c.first) p };
      second = record { order = c.before; inside = inside; spelled = subst Second (sym c.second) q };
    }

pub then_parts : {V W : Type 0} (S : V → List ℕ → Type 0) (T : V → W → List ℕ → Type 0) (v : V) (w : W) (bytes : List ℕ) (start end : ℕ) → SpellsBetween (Then S T (v, w)) bytes start end → TwoFrom (S v) (T v w) bytes start end
then_parts S T v w bytes start end stands =
    let (a, b, p, q, whole) = stands.spelled in
    two_from (S v) (T v w) bytes start end a b stands.order stands.inside p q whole

pub until_parts : {V : Type 0} (S : V → List ℕ → Type 0) (E : List ℕ → Type 0) (v : V) (vs : List V) (bytes : List ℕ) (start end : ℕ) → SpellsBetween (UntilEnd S E (v ∷ vs)) bytes start end → TwoFrom (S v) (UntilEnd S E vs) bytes start end
until_parts S E v vs bytes start end stands =
    let (front, last, (first, rest, s, joined, is), ends, whole) = stands.spelled in
    two_from (S v) (UntilEnd S E vs) bytes start end first (rest ++ last) stands.order stands.inside s (rest, last, joined, ends, refl) (whole ∙ ap (λ z. z ++ last) is ∙ append_assoc first rest last)

pub until_last : {V : Type 0} (S : V → List ℕ → Type 0) (E : List ℕ → Type 0) (bytes : List ℕ) (start end : ℕ) → SpellsBetween (UntilEnd S E []) bytes start end → SpellsBetween E bytes start end
until_last S E bytes start end stands =
    let (front, last, none, ends, whole) = stands.spelled in
    record { order = stands.order; inside = stands.inside; spelled = subst E (sym (whole ∙ ap (λ z. z ++ last) none)) ends }

-- PLACES

-- at a place there stands one thing, and it ends at another
module _ {V : Type 0} (S : V → List ℕ → Type 0) (unique : HasUniqueFronts S) (v : V) (bytes : List ℕ) (start end : ℕ) (stands : SpellsBetween (S v) bytes start end) where
  whole : drop start bytes ≡ bytes_between bytes start end ++ drop end bytes
  whole = parted bytes start end stands.order

  pub same_rest : (w : V) (first rest : List ℕ) → S w first → drop start bytes ≡ first ++ rest → (w ≡ v) × (length first ≡ length (bytes_between bytes start end)) × (rest ≡ drop end bytes)
  same_rest w first rest s is =
      let g : first ++ rest ≡ bytes_between bytes start end ++ drop end bytes = sym is ∙ whole in
      let one = unique w v first (bytes_between bytes start end) rest (drop end bytes) s stands.spelled g in
      (one.1, ap length one.0, append_cancel_left (bytes_between bytes start end) rest (drop end bytes) (ap (λ z. z ++ rest) (sym one.0) ∙ g))

  pub behind_to : (H : V → ℕ → List ℕ → Type 0) (p : ℕ) → HoldsFrom (Behind S H) bytes start p → HoldsFrom (H v) bytes end p
  behind_to H p (inner, (w, first, rest, i, s, h, is, place), here) =
      let same = same_rest w first rest s is in
      let size : length first ≡ length (bytes_between bytes start end) = same.1 in
      let all = between_end (S v) bytes start end stands in (
        i,
        subst (λ (z : List ℕ). H v i z) same.2 (subst (λ (z : V). H z i rest) same.0 h),
        omega (arith, size, all, place, here),
      )

  pub behind_from : (H : V → ℕ → List ℕ → Type 0) (p : ℕ) → HoldsFrom (H v) bytes end p → HoldsFrom (Behind S H) bytes start p
  behind_from H p (inner, h, here) =
      let all = between_end (S v) bytes start end stands in (
        length (bytes_between bytes start end) + inner,
        (v, bytes_between bytes start end, drop end bytes, inner, stands.spelled, h, whole, refl),
        omega (arith, all, here),
      )

  -- behind some things: behind none, or behind this one
  pub some_to : (H : ℕ → List ℕ → Type 0) (p : ℕ) → HoldsFrom (BehindSome S H) bytes start p → HoldsFrom H bytes start p ⊎ HoldsFrom (BehindSome S H) bytes end p
  some_to H p (inner, ([], front, rest, i, none, h, is, place), here) =
      let size : length front ≡ 0 = ap length none in
      let same : rest ≡ drop start bytes = sym (is ∙ ap (λ z. z ++ rest) none) in
      inl (i, subst (λ (z : List ℕ). H i z) same h, omega (arith, size, place, here))
  some_to H p (inner, (w ∷ ws, front, rest, i, (first, others, s, joined, parts), h, is, place), here) =
      let same = same_rest w first (others ++ rest) s (is ∙ ap (λ z. z ++ rest) parts ∙ append_assoc first others rest) in
      let size : length first ≡ length (bytes_between bytes start end) = same.1 in
      let sum : length front ≡ length first + length others = ap length parts ∙ length-append first others in
      let all = between_end (S v) bytes start end stands in
      inr (length others + i, (ws, others, rest, i, joined, h, sym same.2, refl), omega (arith, size, sum, all, place, here))

  pub some_next : (H : ℕ → List ℕ → Type 0) (p : ℕ) → HoldsFrom (BehindSome S H) bytes end p → HoldsFrom (BehindSome S H) bytes start p
  some_next H p (inner, (ws, front, rest, i, joined, h, is, place), here) =
      let first : List ℕ = bytes_between bytes start end in
      let sum : length (first ++ front) ≡ length first + length front = length-append first front in
      let all = between_end (S v) bytes start end stands in (
        length (first ++ front) + i,
        (v ∷ ws, first ++ front, rest, i, (first, front, stands.spelled, joined, refl), h, whole ∙ ap (λ z. first ++ z) is ∙ sym (append_assoc first front rest), refl),
        omega (arith, sum, all, place, here),
      )

pub some_here : {V : Type 0} (S : V → List ℕ → Type 0) (bytes : List ℕ) (start : ℕ) (H : ℕ → List ℕ → Type 0) (p : ℕ) → HoldsFrom H bytes start p → HoldsFrom (BehindSome S H) bytes start p
some_here S bytes start H p (inner, h, here) = (inner, ([], [], drop start bytes, inner, refl, h, refl, omega arith), here)

-- behind some things, where no more of them stand: behind none
pub some_last : {V : Type 0} (S : V → List ℕ → Type 0) (E : List ℕ → Type 0) → EndsApart S E → (bytes : List ℕ) (start end : ℕ) → SpellsBetween E bytes start end → (H : ℕ → List ℕ → Type 0) (p : ℕ) → HoldsFrom (BehindSome S H) bytes start p → HoldsFrom H bytes start p
some_last S E apart bytes start end ends H p (inner, ([], front, rest, i, none, h, is, place), here) =
    let size : length front ≡ 0 = ap length none in
    let same : rest ≡ drop start bytes = sym (is ∙ ap (λ z. z ++ rest) none) in
    (i, subst (λ (z : List ℕ). H i z) same h, omega (arith, size, place, here))
some_last S E apart bytes start end ends H p (inner, (w ∷ ws, front, rest, i, (first, others, s, joined, parts), h, is, place), here) =
    let g : first ++ (others ++ rest) ≡ bytes_between bytes start end ++ drop end bytes = sym (is ∙ ap (λ z. z ++ rest) parts ∙ append_assoc first others rest) ∙ parted bytes start end ends.order in
    absurd (apart w first (bytes_between bytes start end) (others ++ rest) (drop end bytes) s ends.spelled g)
