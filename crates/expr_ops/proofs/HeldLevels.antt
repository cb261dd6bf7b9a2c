-- The operations that an entry_value holds are those of an expression, and a branch of theirs limits its bytes.
use Rattle.std.proofs.Common.{◌≡◌, ◌≢◌, ◌<◌, ◌≤◌, ◌+◌, ◌-◌, ◌⊎◌, ℕ, zero, suc, List, [], ◌∷◌, ◌++◌, length, get_or, take, drop, ◌∙◌, sym, ap, subst, arith, inl, inr}
use Rattle.std.proofs.lemmas.Bool.{cases_lt}
use Rattle.std.proofs.lemmas.Bool.Decides.{eqb_tells}
use Rattle.std.proofs.lemmas.List.{length-append, take_all, take-append-le, get_or-append-add}
use Rattle.spelled.specs.Spelled.{Joined}
use Rattle.expr_ops.specs.Expressions.{Operation, Segment, IsBranch, IsEntryValue, IsLevel, HasBranch, SpellsSegment, flat, operation_of, plain_code}
use Rattle.expr_ops.proofs.NestLaws.{Closed, nest_closed}
use Rattle.expr_ops.proofs.OwnSizes.{same_code}
use Rattle.expr_ops.proofs.PlainLaws.{segment_sized}
use Rattle.expr_ops.proofs.LevelPut.{no_entry_plain}

-- WHAT IS HELD

-- operations of an expression
pub record IsHeldLevel (most : ℕ) (os : List Operation) : Type 0 where
  pub deep : ℕ
  pub bytes : List ℕ
  pub level : IsLevel most (SpellsSegment most deep) os bytes

-- each entry_value holds those of one
abbrev pub HoldLevels : ℕ → List Operation → Type 0
HoldLevels most [] = Unit {0}
HoldLevels most (o ∷ os) = (o.code ≡ 163 → IsHeldLevel most (take o.inner os)) × HoldLevels most os

levels_append : (most : ℕ) (xs ys : List Operation) → Closed xs → HoldLevels most xs → HoldLevels most ys → HoldLevels most (xs ++ ys)
levels_append most [] ys c a b = b
levels_append most (x ∷ xs) ys (h, c) (l, a) b =
    (λ e. subst (λ (z : List Operation). IsHeldLevel most z) (sym (take-append-le x.inner xs ys h)) (l e), levels_append most xs ys c a b)

levels_alone : (most : ℕ) (o : Operation) (xs : List Operation) → xs ≡ [] → o.code ≢ 163 → HoldLevels most (o ∷ xs)
levels_alone most o xs e n = (λ c. absurd (n c), subst (λ (z : List Operation). HoldLevels most z) (sym e) tt)

module _ (most : ℕ) (S : Segment → List ℕ → Type 0) (each : (g : Segment) (b : List ℕ) (jump : ℕ) → S g b → HoldLevels most (operation_of g.head jump (length g.inner) ∷ g.inner)) (closed : (g : Segment) (b : List ℕ) (jump : ℕ) → S g b → Closed (operation_of g.head jump (length g.inner) ∷ g.inner)) where
  flat_levels : (jumps : List ℕ) (gs : List Segment) (bytes : List ℕ) → length jumps ≡ length gs → Joined S gs bytes → HoldLevels most (flat jumps gs)
  flat_levels [] [] bytes e j = tt
  flat_levels [] (g ∷ gs) bytes e j = absurd (omega (arith, e))
  flat_levels (jump ∷ jumps) [] bytes e j = absurd (omega (arith, e))
  flat_levels (jump ∷ jumps) (g ∷ gs) bytes e (first, rest, s, j, w) =
      levels_append most (operation_of g.head jump (length g.inner) ∷ g.inner) (flat jumps gs) (closed g first jump s) (each g first jump s) (flat_levels jumps gs rest (omega (arith, e)) j)

  level_levels : (os : List Operation) (bytes : List ℕ) → IsLevel most S os bytes → HoldLevels most os
  level_levels os bytes l = subst (λ (z : List Operation). HoldLevels most z) (sym l.listed) (flat_levels l.jumps l.segments bytes l.each l.spelled)

segment_closed : (most deep : ℕ) (g : Segment) (b : List ℕ) (jump : ℕ) → SpellsSegment most deep g b → Closed (operation_of g.head jump (length g.inner) ∷ g.inner)
segment_closed most deep g b jump s = nest_closed (segment_sized most deep g b jump s).nest

segment_levels : (most deep : ℕ) (g : Segment) (b : List ℕ) (jump : ℕ) → SpellsSegment most deep g b → HoldLevels most (operation_of g.head jump (length g.inner) ∷ g.inner)
segment_levels most zero g b jump (s, other, e) = levels_alone most (operation_of g.head jump (length g.inner)) g.inner e (no_entry_plain g.head.code other)
segment_levels most (suc deep) g b jump (s, inr (other, e)) = levels_alone most (operation_of g.head jump (length g.inner)) g.inner e (no_entry_plain g.head.code other)
segment_levels most (suc deep) g b jump (s, inl (entry, level)) = (
  λ c. record {
    deep = deep;
    bytes = g.head.block;
    level = subst (λ (z : List Operation). IsLevel most (SpellsSegment most deep) z g.head.block) (sym (take_all (length g.inner) g.inner (omega arith))) level;
  },
  level_levels most (SpellsSegment most deep) (segment_levels most deep) (segment_closed most deep) g.inner g.head.block level,
)

pub held_levels : (most deep : ℕ) (os : List Operation) (bytes : List ℕ) → IsLevel most (SpellsSegment most deep) os bytes → HoldLevels most os
held_levels most deep os bytes l = level_levels most (SpellsSegment most deep) (segment_levels most deep) (segment_closed most deep) os bytes l

pub levels_at : (most : ℕ) (os : List Operation) (k : ℕ) (d : Operation) → HoldLevels most os → k < length os → (get_or os k d).code ≡ 163 → IsHeldLevel most (take (get_or os k d).inner (drop (suc k) os))
levels_at most [] k d a lt e = absurd (omega (arith, lt))
levels_at most (o ∷ os) zero d (l, a) lt e = l e
levels_at most (o ∷ os) (suc k) d (l, a) lt e = levels_at most os k d a (omega (arith, lt)) e

-- A BRANCH OF ITS OWN

branch_plainly : (code : ℕ) → IsBranch (plain_code code) → IsBranch code
branch_plainly code b =
    elim (eqb_tells code 152) [
      | inl (t, e) ↦ let f : plain_code code ≡ 153 = ap plain_code e in elim b [ inl g ↦ absurd (omega (arith, f, g)) | inr g ↦ absurd (omega (arith, f, g)) ]
      | inr (t, other) ↦ subst (λ (c : ℕ). IsBranch c) (same_code code other) b
    ]

-- no entry_value among the operations holds operation k
abbrev pub IsFree : List Operation → ℕ → Operation → Type 0
IsFree os k d = (e : ℕ) → e < k → (get_or os e d).code ≡ 163 → k ≤ e + (get_or os e d).inner → ⊥

module _ (S : Segment → List ℕ → Type 0) (plain : (g : Segment) (b : List ℕ) → S g b → IsEntryValue g.head.code ⊎ (g.inner ≡ [])) where
  flat_branch : (jumps : List ℕ) (gs : List Segment) (bytes : List ℕ) → length jumps ≡ length gs → Joined S gs bytes → (k : ℕ) (d : Operation) → k < length (flat jumps gs) → IsBranch (get_or (flat jumps gs) k d).code → IsFree (flat jumps gs) k d → HasBranch gs
  flat_branch [] [] bytes e j k d lt b free = absurd (omega (arith, lt))
  flat_branch [] (g ∷ gs) bytes e j k d lt b free = absurd (omega (arith, e))
  flat_branch (jump ∷ jumps) [] bytes e j k d lt b free = absurd (omega (arith, e))
  flat_branch (jump ∷ jumps) (g ∷ gs) bytes e (first, rest, s, j, w) zero d lt b free = (0, omega arith, branch_plainly g.head.code b)
  flat_branch (jump ∷ jumps) (g ∷ gs) bytes e (first, rest, s, j, w) (suc k) d lt b free =
      let more = flat jumps gs in
      let all : length (g.inner ++ more) ≡ length g.inner + length more = length-append g.inner more in
      elim (cases_lt k (length g.inner)) [
        | inl held ↦
            elim (plain g first s) [
              | inl entry ↦ absurd (free 0 (omega arith) (ap plain_code entry) (omega (arith, held)))
              | inr none ↦ let no : length g.inner ≡ 0 = ap length none in absurd (omega (arith, no, held))
            ]
        | inr past ↦
            let i = k - length g.inner in
            let is : k ≡ length g.inner + i = omega arith in
            let same : (f : ℕ) → get_or (g.inner ++ more) (length g.inner + f) d ≡ get_or more f d = λ f. get_or-append-add g.inner more f d in
            let here : get_or (g.inner ++ more) k d ≡ get_or more i d = ap (λ (z : ℕ). get_or (g.inner ++ more) z d) is ∙ same i in
            let found = flat_branch jumps gs rest (omega (arith, e)) j i d (omega (arith, lt, is, all)) (subst (λ (z : Operation). IsBranch z.code) here b) (λ f less code holds.
            let inner : (get_or (g.inner ++ more) (length g.inner + f) d).inner ≡ (get_or more f d).inner = ap (λ (z : Operation). z.inner) (same f) in
            free (suc (length g.inner + f)) (omega (arith, less, is)) (ap (λ (z : Operation). z.code) (same f) ∙ code) (omega (arith, holds, is, inner)))
            in
            (suc found.0, let h = found.1 in omega (arith, h), found.2)
      ]

  level_branch : (most : ℕ) (os : List Operation) (bytes : List ℕ) (l : IsLevel most S os bytes) (k : ℕ) (d : Operation) → k < length os → IsBranch (get_or os k d).code → IsFree os k d → HasBranch l.segments
  level_branch most os bytes l k d =
      subst (λ (z : List Operation). k < length z → IsBranch (get_or z k d).code → IsFree z k d → HasBranch l.segments) (sym l.listed) (flat_branch l.jumps l.segments bytes l.each l.spelled k d)

segment_plain : (most deep : ℕ) (g : Segment) (b : List ℕ) → SpellsSegment most deep g b → IsEntryValue g.head.code ⊎ (g.inner ≡ [])
segment_plain most zero g b (s, other, e) = inr e
segment_plain most (suc deep) g b (s, inl (entry, level)) = inl entry
segment_plain most (suc deep) g b (s, inr (other, e)) = inr e

-- an expression with a branch of its own has few bytes
pub few_held : (most : ℕ) (os : List Operation) (h : IsHeldLevel most os) (k : ℕ) (d : Operation) → k < length os → IsBranch (get_or os k d).code → IsFree os k d → length h.bytes ≤ most
few_held most os h k d lt b free =
    h.level.few (level_branch (SpellsSegment most h.deep) (segment_plain most h.deep) most os h.bytes h.level k d lt b free)
