-- Operations with new references and what is written of each, one after the other.
use Rattle.std.proofs.Common.{◌≡◌, ◌≢◌, ◌<◌, ◌≤◌, ◌+◌, ℕ, zero, suc, List, [], ◌∷◌, ◌++◌, length, get_or, ◌∙◌, sym, ap, refl, subst, arith, Option}
use Rattle.std.proofs.lemmas.List.{append_assoc, length-append}
use Rattle.std.specs.Prelude.{pos, ◌+ℤ◌}
use Rattle.expr_ops.specs.declared.op.Op.{Op}
use Rattle.expr_ops.specs.Expressions.{Operation, IsBranch}
use Rattle.expr_ops.specs.Puts.{PutsOwn}
use Rattle.expr_ops.specs.Fits.{FitsPart}
use Rattle.expr_ops.specs.declared.table.Shape.TheVariants as shape
use Rattle.expr_ops.specs.declared.table.Width.TheVariants.{Two}
use Rattle.expr_ops.specs.Drafts.{with_a, op_at, IsFirst}
use Rattle.expr_ops.specs.Writing.{IsRange}
use Rattle.expr_ops.proofs.HeadsKept.{Refers}
use Rattle.expr_ops.proofs.HeadsWritten.{with_s}

-- the place at which operation k begins
abbrev pub place_of : List ℕ → ℕ → ℕ
place_of places k = get_or places k 0

-- operation k stands itself in the expression of so many operations from base on, and `first` is the first one of its expression
pub record IsOwn (ops : List Op) (base count k first : ℕ) : Type 0 where
  pub range : IsRange ops base count
  pub inside : base + count ≤ length ops
  pub low : base ≤ k
  pub high : k < base + count
  pub is : first ≡ base

-- Operation k of all, and what is written of it. `named` has its new reference, `written` also its length or distance.
pub record IsItem (ops : List Op) (places firsts : List ℕ) (k : ℕ) (old named : Operation) (own : List ℕ) : Type 0 where
  pub slot : Option ℕ
  pub written : Operation
  pub puts : PutsOwn slot written own
  pub inside : k < length ops
  pub code : (op_at ops k).code ≡ old.code
  pub inner : (op_at ops k).inner ≡ old.inner
  pub first : IsFirst ops k (get_or firsts k 0)
  pub renamed : named ≡ with_a named.a old
  pub refers : Refers old.code old.a slot named.a
  pub entry_code : written.code ≡ old.code
  pub branch : IsBranch old.code → written ≡ with_s written.s named
  pub other : (¬ IsBranch old.code) → old.code ≢ 163 → written ≡ named
  pub long : old.code ≡ 163 → written.a + place_of places (k + 1) ≡ place_of places (k + 1 + old.inner)
  pub distance : IsBranch old.code → pos (place_of places (get_or firsts k 0 + old.jump)) ≡ pos (place_of places (k + 1)) +ℤ written.s
  pub near : IsBranch old.code → (base count : ℕ) → IsOwn ops base count k (get_or firsts k 0) → old.jump ≤ count → FitsPart (shape.Signed Two) 0 written.s []
  pub size : place_of places k + length own ≡ place_of places (k + 1)

-- the operations from k on
abbrev pub Laid : List Op → List ℕ → List ℕ → ℕ → List Operation → List Operation → List ℕ → Type 0
Laid ops places firsts k [] named own = (named ≡ []) × (own ≡ [])
Laid ops places firsts k (o ∷ os) named own =
    (n : Operation) × (ns : List Operation) × (first : List ℕ) × (rest : List ℕ) × IsItem ops places firsts k o n first × Laid ops places firsts (k + 1) os ns rest × (named ≡ n ∷ ns) × (own ≡ first ++ rest)

-- those of some operations and those of others
pub record IsSplit (ops : List Op) (places firsts : List ℕ) (k : ℕ) (os ps named : List Operation) (own : List ℕ) : Type 0 where
  pub front : List Operation
  pub behind : List Operation
  pub first : List ℕ
  pub rest : List ℕ
  pub before : Laid ops places firsts k os front first
  pub after : Laid ops places firsts (k + length os) ps behind rest
  pub listed : named ≡ front ++ behind
  pub whole : own ≡ first ++ rest

module _ (ops : List Op) (places firsts : List ℕ) where
  laid_at : (k j : ℕ) (os named : List Operation) (own : List ℕ) → k ≡ j → Laid ops places firsts k os named own → Laid ops places firsts j os named own
  laid_at k j os named own e l = subst (λ (z : ℕ). Laid ops places firsts z os named own) e l

  pub laid_split : (k : ℕ) (os ps named : List Operation) (own : List ℕ) → Laid ops places firsts k (os ++ ps) named own → IsSplit ops places firsts k os ps named own
  laid_split k [] ps named own l = record {
    front = [];
    behind = named;
    first = [];
    rest = own;
    before = (refl, refl);
    after = laid_at k (k + 0) ps named own (omega arith) l;
    listed = refl;
    whole = refl;
  }
  laid_split k (o ∷ os) ps named own (n, ns, first, rest, i, l, e, f) =
      let s = laid_split (k + 1) os ps ns rest l in
      record {
        front = n ∷ s.front;
        behind = s.behind;
        first = first ++ s.first;
        rest = s.rest;
        before = (n, s.front, first, s.first, i, s.before, refl, refl);
        after = laid_at (k + 1 + length os) (k + suc (length os)) ps s.behind s.rest (omega arith) s.after;
        listed = e ∙ ap (λ z. n ∷ z) s.listed;
        whole = f ∙ ap (λ z. first ++ z) s.whole ∙ sym (append_assoc first s.first s.rest);
      }

  -- so many bytes as the places say
  pub laid_long : (k : ℕ) (os named : List Operation) (own : List ℕ) → Laid ops places firsts k os named own → place_of places k + length own ≡ place_of places (k + length os)
  laid_long k [] named own (e, f) =
      let none : length own ≡ 0 = ap length f in
      let same : place_of places k ≡ place_of places (k + 0) = ap (place_of places) (omega arith) in
      omega (arith, none, same)
  laid_long k (o ∷ os) named own (n, ns, first, rest, i, l, e, f) =
      let h = laid_long (k + 1) os ns rest l in
      let all : length own ≡ length first + length rest = ap length f ∙ length-append first rest in
      let size = i.size in
      let same : place_of places (k + 1 + length os) ≡ place_of places (k + suc (length os)) = ap (place_of places) (omega arith) in
      omega (arith, h, all, size, same)

  pub laid_count : (k : ℕ) (os named : List Operation) (own : List ℕ) → Laid ops places firsts k os named own → length named ≡ length os
  laid_count k [] named own (e, f) = ap length e
  laid_count k (o ∷ os) named own (n, ns, first, rest, i, l, e, f) =
      let h = laid_count (k + 1) os ns rest l in
      let g : length named ≡ suc (length ns) = ap length e in
      omega (arith, h, g)

  -- they are among all
  pub laid_inside : (k : ℕ) (os named : List Operation) (own : List ℕ) → Laid ops places firsts k os named own → k ≤ length ops → k + length os ≤ length ops
  laid_inside k [] named own l le = omega (arith, le)
  laid_inside k (o ∷ os) named own (n, ns, first, rest, i, l, e, f) le =
      let lt = i.inside in
      let h = laid_inside (k + 1) os ns rest l (omega (arith, lt)) in
      omega (arith, h)

  -- what each holds
  pub laid_inner : (k : ℕ) (os named : List Operation) (own : List ℕ) → Laid ops places firsts k os named own → (e : ℕ) (d : Operation) → e < length os → (op_at ops (k + e)).inner ≡ (get_or os e d).inner
  laid_inner k [] named own l e d lt = absurd (omega (arith, lt))
  laid_inner k (o ∷ os) named own (n, ns, first, rest, i, l, f, g) zero d lt =
      let same : k + 0 ≡ k = omega arith in
      ap (λ (z : ℕ). (op_at ops z).inner) same ∙ i.inner
  laid_inner k (o ∷ os) named own (n, ns, first, rest, i, l, f, g) (suc e) d lt =
      let same : k + suc e ≡ k + 1 + e = omega arith in
      ap (λ (z : ℕ). (op_at ops z).inner) same ∙ laid_inner (k + 1) os ns rest l e d (omega (arith, lt))
