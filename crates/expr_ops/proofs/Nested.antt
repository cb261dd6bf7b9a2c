-- Operations of one expression lie wholly inside it: so the first operation of a level is the first one of each operation that stands
-- in that level itself.
use Rattle.std.proofs.Common.{◌≡◌, ◌<◌, ◌≤◌, ◌+◌, ◌-◌, ◌⊎◌, ℕ, zero, suc, List, [], ◌∷◌, ◌++◌, length, get_or, ◌∙◌, sym, ap, refl, subst, arith, inl, inr}
use Rattle.std.proofs.lemmas.Bool.{cases_lt}
use Rattle.std.proofs.lemmas.List.{length-append, get_or_append_left, get_or-append-add}
use Rattle.spelled.specs.Spelled.{Joined}
use Rattle.expr_ops.specs.declared.op.Op.{Op}
use Rattle.expr_ops.specs.Expressions.{Operation, Segment, IsLevel, SpellsSegment, flat}
use Rattle.expr_ops.specs.Drafts.{op_at, HoldsOp, IsFirst}
use Rattle.expr_ops.specs.Writing.{IsRange}

-- what each operation holds is among these
abbrev pub Nests : List Operation → Type 0
Nests os = (e : ℕ) (d : Operation) → e < length os → e + (get_or os e d).inner < length os

nests_append : (os ps : List Operation) → Nests os → Nests ps → Nests (os ++ ps)
nests_append os ps n m e d lt =
    let all : length (os ++ ps) ≡ length os + length ps = length-append os ps in
    elim (cases_lt e (length os)) [
      | inl left ↦
          let same : (get_or (os ++ ps) e d).inner ≡ (get_or os e d).inner = ap (λ (z : Operation). z.inner) (get_or_append_left os ps d e left) in
          let h = n e d left in
          omega (arith, all, same, h)
      | inr right ↦
          let i = e - length os in
          let is : e ≡ length os + i = omega arith in
          let same : (get_or (os ++ ps) e d).inner ≡ (get_or ps i d).inner = ap (λ (k : ℕ). (get_or (os ++ ps) k d).inner) is ∙ ap (λ (z : Operation). z.inner) (get_or-append-add os ps i d) in
          let inside : i < length ps = omega (arith, all, lt) in
          let h = m i d inside in
          omega (arith, all, same, h, is)
    ]

none_nests : (os : List Operation) → os ≡ [] → Nests os
none_nests os e = subst (λ (z : List Operation). Nests z) (sym e) (λ k d lt. absurd (omega (arith, lt)))

-- an operation and those that it holds
pub nests_one : (o : Operation) (os : List Operation) → o.inner ≡ length os → Nests os → Nests (o ∷ os)
nests_one o os e n zero d lt = omega (arith, e)
nests_one o os e n (suc k) d lt = let h = n k d (omega (arith, lt)) in omega (arith, h)

abbrev AreNested : List Segment → Type 0
AreNested [] = Unit {0}
AreNested (g ∷ gs) = Nests g.inner × AreNested gs

flat_nests : (jumps : List ℕ) (gs : List Segment) → AreNested gs → Nests (flat jumps gs)
flat_nests [] [] n = none_nests [] refl
flat_nests [] (g ∷ gs) n = none_nests [] refl
flat_nests (j ∷ js) [] n = none_nests [] refl
flat_nests (j ∷ js) (g ∷ gs) (n, ns) =
    nests_append (_ ∷ g.inner) (flat js gs) (nests_one _ g.inner refl n) (flat_nests js gs ns)

joined_nested : (S : Segment → List ℕ → Type 0) → ((g : Segment) (bytes : List ℕ) → S g bytes → Nests g.inner) → (gs : List Segment) (bytes : List ℕ) → Joined S gs bytes → AreNested gs
joined_nested S n [] bytes j = tt
joined_nested S n (g ∷ gs) bytes (first, rest, s, j, e) = (n g first s, joined_nested S n gs rest j)

level_nests : (most : ℕ) (S : Segment → List ℕ → Type 0) → ((g : Segment) (bytes : List ℕ) → S g bytes → Nests g.inner) → (os : List Operation) (bytes : List ℕ) → IsLevel most S os bytes → Nests os
level_nests most S n os bytes l =
    subst (λ (z : List Operation). Nests z) (sym l.listed) (flat_nests l.jumps l.segments (joined_nested S n l.segments bytes l.spelled))

-- the operations that a segment holds
pub segment_nests : (most deep : ℕ) (g : Segment) (bytes : List ℕ) → SpellsSegment most deep g bytes → Nests g.inner
segment_nests most zero g bytes (s, plain, e) = none_nests g.inner e
segment_nests most (suc deep) g bytes (s, inl (entry, l)) = level_nests most (SpellsSegment most deep) (segment_nests most deep) g.inner g.head.block l
segment_nests most (suc deep) g bytes (s, inr (plain, e)) = none_nests g.inner e

-- THE FIRST OPERATION OF A LEVEL

-- what the operations from base on hold ends before k
abbrev pub EndsBefore : List Op → ℕ → ℕ → Type 0
EndsBefore ops base k = (e : ℕ) → base ≤ e → e < k → e + (op_at ops e).inner < k

opens_here : (ops : List Op) (base k f : ℕ) → EndsBefore ops base k → (f ≡ 0) ⊎ ((e : ℕ) × (f ≡ e + 1) × HoldsOp ops e k) → f ≤ base
opens_here ops base k f before (inl e) = omega (arith, e)
opens_here ops base k f before (inr (e, is, (up, to, code))) =
    elim (cases_lt e base) [
      | inl less ↦ omega (arith, is, less)
      | inr more ↦ let h = before e more up in absurd (omega (arith, h, to))
    ]

pub first_there : (ops : List Op) (base count k f : ℕ) → IsRange ops base count → base ≤ k → k < base + count → k < length ops → EndsBefore ops base k → IsFirst ops k f → f ≡ base
first_there ops base count k f (inl (e, whole)) low high inside before first =
    let h = opens_here ops base k f before first.opens in
    omega (arith, h, e)
first_there ops base count k f (inr (e, there, code, is, long)) low high inside before first =
    let h = opens_here ops base k f before first.opens in
    elim (cases_lt f base) [
      | inl less ↦
          let from : f ≤ e = omega (arith, less, is) in
          let within : e < length ops = omega (arith, is, low, inside) in
          let up : e < k = omega (arith, is, low) in
          let to : k ≤ e + (op_at ops e).inner = omega (arith, is, high, long) in
          absurd (first.innermost e from within (up, to, code))
      | inr same ↦ omega (arith, h, same)
    ]
