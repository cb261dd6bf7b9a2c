-- The next reference changes no size that isn't its own.
use Rattle.std.proofs.Common.{◌≡◌, ◌≤◌, ◌<◌, ◌^◌, ◌⊎◌, ℕ, suc, List, [], ◌∷◌, ◌∙◌, sym, ap, refl, subst, arith, inl, inr, Bool, true, false, Option, Some, None, All}
use Rattle.std.proofs.lemmas.Bool.{cases_Bool}
use Rattle.std.proofs.lemmas.Bool.Decides.{eqb_tells, nat_tests}
use Rattle.std.specs.Prelude.{nat_eq, nat_le, if◌then◌else◌}
use Rattle.expr_ops.specs.Expressions.{Operation}
use Rattle.expr_ops.specs.Sizes.{own_size}
use Rattle.expr_ops.specs.Drafts.{is_typed, is_conversion, is_generic, has_reference, is_slot, first_or, rest_of, with_a, with_ref, with_refs}
use Rattle.expr_ops.proofs.PlaceLaws.{ref_code}

-- OPCODES

both_true : (a b : Bool) → (if a then b else false) ≡ true → (a ≡ true) × (b ≡ true)
both_true true b e = (refl, e)
both_true false b e = let no : false ≡ true = e in absurd (cc)

either_true : (a b : Bool) → (if a then true else b) ≡ true → (a ≡ true) ⊎ (b ≡ true)
either_true true b e = inl refl
either_true false b e = inr e

is_code : (m n : ℕ) → nat_eq m n ≡ true → m ≡ n
is_code m n e = grind (arith, nat_tests)

abbrev is_fixed : ℕ → Bool
is_fixed code = if nat_eq code 153 then true else (if nat_eq code 250 then true else (if nat_eq code 154 then true else (if nat_eq code 253 then true else nat_eq code 160)))

pub at_code : (P : ℕ → Type 0) (code other : ℕ) → code ≡ other → P other → P code
at_code P code other e p = subst P (sym e) p

-- an opcode that has a reference without LEB128
fixed_cases : (P : ℕ → Type 0) (code : ℕ) → is_fixed code ≡ true → P 153 → P 250 → P 154 → P 253 → P 160 → P code
fixed_cases P code e a b c d f =
    elim (either_true (nat_eq code 153) _ e) [
      | inl t ↦ at_code P code 153 (is_code code 153 t) a
      | inr e1 ↦ elim (either_true (nat_eq code 250) _ e1) [
        | inl t ↦ at_code P code 250 (is_code code 250 t) b
        | inr e2 ↦ elim (either_true (nat_eq code 154) _ e2) [
          | inl t ↦ at_code P code 154 (is_code code 154 t) c
          | inr e3 ↦ elim (either_true (nat_eq code 253) _ e3) [ inl t ↦ at_code P code 253 (is_code code 253 t) d | inr t ↦ at_code P code 160 (is_code code 160 t) f ]
        ]
      ]
    ]

-- one of a reference to a base type
pub typed_cases : (P : ℕ → Type 0) (code : ℕ) → is_typed code ≡ true → P 164 → P 165 → P 166 → P 167 → P 168 → P 169 → P code
typed_cases P code e p4 p5 p6 p7 p8 p9 =
    let (low, high) = both_true (nat_le 164 code) (nat_le code 169) e in
    let from : 164 ≤ code = grind (arith, nat_tests) in
    let to : code ≤ 169 = grind (arith, nat_tests) in
    elim (eqb_tells code 164) [
      | inl (t, f) ↦ at_code P code 164 f p4
      | inr (_, n4) ↦ elim (eqb_tells code 165) [
        | inl (t, f) ↦ at_code P code 165 f p5
        | inr (_, n5) ↦ elim (eqb_tells code 166) [
          | inl (t, f) ↦ at_code P code 166 f p6
          | inr (_, n6) ↦ elim (eqb_tells code 167) [
            | inl (t, f) ↦ at_code P code 167 f p7
            | inr (_, n7) ↦ elim (eqb_tells code 168) [
              | inl (t, f) ↦ at_code P code 168 f p8
              | inr (_, n8) ↦
                  let f : code ≡ 169 = omega (arith, from, to, n4, n5, n6, n7, n8) in
                  at_code P code 169 f p9
            ]
          ]
        ]
      ]
    ]

-- THE SIZE OF A SLOT ALONE COUNTS

abbrev pub slot_if : Bool → ℕ → Option ℕ
slot_if b size = if b then Some size else None

abbrev pub coded : ℕ → Operation → Operation
coded code o = record { code = code; a = o.a; s = o.s; block = o.block; jump = o.jump; inner = o.inner }

slot_typed : (a b : Bool) (g : Bool) → g ≡ false → (if a then true else (if b then true else (if g then false else true))) ≡ true
slot_typed true b g e = refl
slot_typed false true g e = refl
slot_typed false false g e = ap (λ (z : Bool). if z then false else true) e

typed_slot : (code a : ℕ) → is_typed code ≡ true → is_generic code a ≡ false → is_slot code a ≡ true
typed_slot code a typed plain =
    ap (λ (z : Bool). if nat_eq code 163 then true else (if nat_eq code 153 then true else (if z then (if is_generic code a then false else true) else false))) typed
    ∙ slot_typed (nat_eq code 163) (nat_eq code 153) (is_generic code a) plain

module _ (o : Operation) (n size : ℕ) where
  typed_same : is_typed o.code ≡ true → is_generic o.code o.a ≡ false → own_size (slot_if (is_slot o.code o.a) size) (with_a n o) ≡ own_size (slot_if (is_slot o.code o.a) size) o
  typed_same typed plain =
      let is = typed_slot o.code o.a typed plain in
      let some : own_size (Some size) (with_a n o) ≡ own_size (Some size) o = typed_cases (λ (c : ℕ). own_size (Some size) (with_a n (coded c o)) ≡ own_size (Some size) (coded c o)) o.code typed refl refl refl refl refl refl in
      subst (λ (b : Bool). own_size (slot_if b size) (with_a n o) ≡ own_size (slot_if b size) o) (sym is) some

  fixed_same : is_fixed o.code ≡ true → own_size (slot_if (is_slot o.code o.a) size) (with_a n o) ≡ own_size (slot_if (is_slot o.code o.a) size) o
  fixed_same fixed =
      fixed_cases (λ (c : ℕ). own_size (slot_if (is_slot c o.a) size) (with_a n (coded c o)) ≡ own_size (slot_if (is_slot c o.a) size) (coded c o)) o.code fixed refl refl refl refl refl

  ref_by : (g : Bool) → is_generic o.code o.a ≡ g → has_reference o.code ≡ true → own_size (slot_if (is_slot o.code o.a) size) (if g then o else with_a n o) ≡ own_size (slot_if (is_slot o.code o.a) size) o
  ref_by true plain e = refl
  ref_by false plain e = elim (either_true (is_typed o.code) (is_fixed o.code) e) [ inl typed ↦ typed_same typed plain | inr fixed ↦ fixed_same fixed ]

  ref_same : has_reference o.code ≡ true → own_size (slot_if (is_slot o.code o.a) size) (with_ref n o) ≡ own_size (slot_if (is_slot o.code o.a) size) o
  ref_same e = ref_by (is_generic o.code o.a) refl e

-- SMALL REFERENCES

abbrev pub AreSmall : List ℕ → Type 0
AreSmall refs = All (λ n. n < 2 ^ 32) refs

first_small : (refs : List ℕ) → AreSmall refs → first_or 0 refs < 2 ^ 32
first_small [] a = omega arith
first_small (n ∷ ns) a = a 0 0 (omega arith)

rest_small : (refs : List ℕ) → AreSmall refs → AreSmall (rest_of refs)
rest_small [] a = a
rest_small (n ∷ ns) a = λ k d lt. a (suc k) d (omega (arith, lt))

here_small : (g : Bool) (n : ℕ) (o : Operation) → is_generic o.code o.a ≡ g → n < 2 ^ 32 → (if g then o else with_a n o).a < 2 ^ 32
here_small true n o e small = let h = is_code o.a 0 (both_true (is_conversion o.code) (nat_eq o.a 0) e).1 in omega (arith, h)
here_small false n o e small = small

ref_inner : (g : Bool) (n : ℕ) (o : Operation) → (if g then o else with_a n o).inner ≡ o.inner
ref_inner true n o = refl
ref_inner false n o = refl

-- THE NEXT

abbrev refs_by : Bool → Operation → Operation → List Operation → List Operation → List Operation
refs_by b x o xs ys = if b then x ∷ xs else (o ∷ ys)

-- an operation with the next reference, and the references that are left
pub record IsNext (refs : List ℕ) (o : Operation) : Type 0 where
  pub new : Operation
  pub rest : List ℕ
  pub listed : (os : List Operation) → with_refs refs (o ∷ os) ≡ new ∷ with_refs rest os
  pub code : new.code ≡ o.code
  pub inner : new.inner ≡ o.inner
  pub same : (size : ℕ) → own_size (slot_if (is_slot o.code o.a) size) new ≡ own_size (slot_if (is_slot o.code o.a) size) o
  pub few : AreSmall refs → has_reference o.code ≡ true → new.a < 2 ^ 32
  pub small : AreSmall refs → AreSmall rest

pub next_of : (refs : List ℕ) (o : Operation) → IsNext refs o
next_of refs o =
    let named = with_ref (first_or 0 refs) o in
    elim (cases_Bool (has_reference o.code)) [
      | inl t ↦ record {
        new = named;
        rest = rest_of refs;
        listed = λ os. ap (λ (b : Bool). refs_by b named o (with_refs (rest_of refs) os) (with_refs refs os)) t;
        code = ref_code (is_generic o.code o.a) (first_or 0 refs) o;
        inner = ref_inner (is_generic o.code o.a) (first_or 0 refs) o;
        same = λ size. ref_same o (first_or 0 refs) size t;
        few = λ small is. here_small (is_generic o.code o.a) (first_or 0 refs) o refl (first_small refs small);
        small = rest_small refs;
      }
      | inr f ↦ record {
        new = o;
        rest = refs;
        listed = λ os. ap (λ (b : Bool). refs_by b named o (with_refs (rest_of refs) os) (with_refs refs os)) f;
        code = refl;
        inner = refl;
        same = λ size. refl;
        few = λ small is. let no : true ≡ false = sym is ∙ f in absurd (cc);
        small = λ small. small;
      }
    ]
