-- Sums over operations that follow those that hold them.
use Rattle.std.proofs.Common.{◌≡◌, ◌≤◌, ◌+◌, ℕ, zero, suc, List, [], ◌∷◌, ◌++◌, length, take, drop, ◌∙◌, sym, ap, refl, subst, arith}
use Rattle.std.proofs.lemmas.List.{append_assoc, length-append, length-take-le, take_at, drop_at, take-append-drop, take-append-le}
use Rattle.expr_ops.specs.Expressions.{Operation}
use Rattle.expr_ops.specs.Sizes.{own_size}
use Rattle.expr_ops.specs.Drafts.{total}
use Rattle.expr_ops.proofs.PlainBytes.{plain_slot, plain_own, plain_length}
use Rattle.expr_ops.specs.Nests.{Nest}
use Rattle.expr_ops.specs.Nests.Nest.{none, one}

-- each operation holds no more than follow it
abbrev pub Closed : List Operation → Type 0
Closed [] = Unit {0}
Closed (o ∷ os) = (o.inner ≤ length os) × Closed os

closed_append : (xs ys : List Operation) → Closed xs → Closed ys → Closed (xs ++ ys)
closed_append [] ys c d = d
closed_append (x ∷ xs) ys (h, c) d =
    let e : length (xs ++ ys) ≡ length xs + length ys = length-append xs ys in
    (omega (arith, h, e), closed_append xs ys c d)

pub nest_closed : {os : List Operation} → Nest os → Closed os
nest_closed none = tt
nest_closed (one o rest held behind e f a b) =
    let n : length rest ≡ length held + length behind = ap length e ∙ length-append held behind in
    (omega (arith, f, n), subst (λ (z : List Operation). Closed z) (sym e) (closed_append held behind (nest_closed a) (nest_closed b)))

pub nest_append : {xs : List Operation} → Nest xs → (ys : List Operation) → Nest ys → Nest (xs ++ ys)
nest_append none ys n = n
nest_append (one o rest held behind e f a b) ys n =
    one o (rest ++ ys) held (behind ++ ys) (ap (λ z. z ++ ys) e ∙ append_assoc held behind ys) f a (nest_append b ys n)

nest_rest : {o : Operation} {os : List Operation} → Nest (o ∷ os) → Nest os
nest_rest (one o rest held behind e f a b) = subst (λ (z : List Operation). Nest z) (sym e) (nest_append a behind b)

-- operations from one on hold only operations that follow
pub nest_drop : (n : ℕ) (os : List Operation) → Nest os → Nest (drop n os)
nest_drop zero os nest = nest
nest_drop (suc n) [] nest = nest
nest_drop (suc n) (o ∷ os) nest = nest_drop n os (nest_rest nest)

-- SUMS

pub total_append : (xs ys : List ℕ) → total (xs ++ ys) ≡ total xs + total ys
total_append [] ys = omega arith
total_append (x ∷ xs) ys = let e = total_append xs ys in omega (arith, e)

pub total_take : (n : ℕ) (sizes : List ℕ) → total (take n sizes) ≤ total sizes
total_take zero sizes = omega arith
total_take (suc n) [] = omega arith
total_take (suc n) (size ∷ sizes) = let h = total_take n sizes in omega (arith, h)

pub own_count : (os : List Operation) → length (plain_own os) ≡ length os
own_count [] = refl
own_count (o ∷ os) = ap suc (own_count os)

pub own_drop : (n : ℕ) (os : List Operation) → drop n (plain_own os) ≡ plain_own (drop n os)
own_drop zero os = refl
own_drop (suc n) [] = refl
own_drop (suc n) (o ∷ os) = own_drop n os

own_append : (xs ys : List Operation) → Closed xs → plain_own (xs ++ ys) ≡ plain_own xs ++ plain_own ys
own_append [] ys c = refl
own_append (x ∷ xs) ys (h, c) =
    let rest = own_append xs ys c in
    let n : length (plain_own xs) ≡ length xs = own_count xs in
    let front : take x.inner (plain_own (xs ++ ys)) ≡ take x.inner (plain_own xs) = ap (take x.inner) rest ∙ take-append-le x.inner (plain_own xs) (plain_own ys) (omega (arith, h, n)) in
    ap (λ (z : List ℕ). own_size (plain_slot x (total z)) x ∷ plain_own (xs ++ ys)) front ∙ ap (λ (z : List ℕ). own_size (plain_slot x (total (take x.inner (plain_own xs)))) x ∷ z) rest

pub own_take : (n : ℕ) (os : List Operation) → n ≤ length os → Closed (take n os) → take n (plain_own os) ≡ plain_own (take n os)
own_take n os le c =
    let front = take n os in
    let behind = drop n os in
    let whole : plain_own os ≡ plain_own front ++ plain_own behind = ap plain_own (sym (take-append-drop n os)) ∙ own_append front behind c in
    let count : length (plain_own front) ≡ n = own_count front ∙ length-take-le n os le in
    ap (take n) whole ∙ take_at (plain_own front) (plain_own behind) n count

pub length_both : (xs ys : List Operation) → Nest xs → plain_length (xs ++ ys) ≡ plain_length xs + plain_length ys
length_both xs ys n = ap total (own_append xs ys (nest_closed n)) ∙ total_append (plain_own xs) (plain_own ys)

-- the operations that the first one holds, and those behind these
pub record IsParted (o : Operation) (rest : List Operation) : Type 0 where
  pub inside : o.inner ≤ length rest
  pub held : Nest (take o.inner rest)
  pub behind : Nest (drop o.inner rest)

pub parted : {o : Operation} {rest : List Operation} → Nest (o ∷ rest) → IsParted o rest
parted (one o rest held behind e f a b) =
    let n : length rest ≡ length held + length behind = ap length e ∙ length-append held behind in
    let front : take o.inner rest ≡ held = ap (take o.inner) e ∙ take_at held behind o.inner (sym f) in
    let back : drop o.inner rest ≡ behind = ap (drop o.inner) e ∙ drop_at held behind o.inner (sym f) in
    record {
      inside = omega (arith, f, n);
      held = subst (λ (z : List Operation). Nest z) (sym front) a;
      behind = subst (λ (z : List Operation). Nest z) (sym back) b;
    }
