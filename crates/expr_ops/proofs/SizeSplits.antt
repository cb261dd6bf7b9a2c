-- The bytes of an operation are those of its slot, and others that don't depend on its reference.
use Rattle.std.proofs.Common.{◌≡◌, ◌≢◌, ◌≤◌, ◌<◌, ◌+◌, ◌^◌, ℕ, zero, suc, List, [], ◌∷◌, take, drop, ◌∙◌, sym, ap, refl, subst, arith, inl, inr, Bool, true, false, Some}
use Rattle.std.proofs.lemmas.Bool.{ne_eqb}
use Rattle.std.proofs.lemmas.Bool.Decides.{eqb_tells}
use Rattle.std.specs.Prelude.{nat_eq, nat_lt, if◌then◌else◌}
use Rattle.leb_codec.specs.Leb.{least_unsigned_len}
use Rattle.leb_codec.proofs.Lens.{least_below, unsigned_lens}
use Rattle.expr_ops.specs.Expressions.{Operation}
use Rattle.expr_ops.specs.Puts.{call_size}
use Rattle.expr_ops.specs.Sizes.{own_size}
use Rattle.expr_ops.specs.Drafts.{is_typed, is_generic, has_reference, is_slot, with_refs, total}
use Rattle.expr_ops.specs.Shortest.{needed_size, needed_slot, needed_own, needed_sizes, shortest_length, shortest_sizes, fixed_size, fixed_length, LengthsSplit}
use Rattle.expr_ops.proofs.PlainBytes.{plain_size, plain_slot, plain_own}
use Rattle.expr_ops.proofs.NextRefs.{AreSmall, IsNext, next_of, slot_if, coded, typed_cases, at_code}

-- ONE OPERATION

abbrev pub count_if : Bool → ℕ → ℕ
count_if b size = if b then size else 0

typed_by : (b c : Bool) → (if b then (if c then false else true) else false) ≡ true → b ≡ true
typed_by true c e = refl
typed_by false c e = e

slot_typed : (code a : ℕ) → code ≢ 153 → code ≢ 163 → is_slot code a ≡ true → is_typed code ≡ true
slot_typed code a no_call no_entry e =
    let call : nat_eq code 153 ≡ false = ne_eqb code 153 no_call in
    let entry : nat_eq code 163 ≡ false = ne_eqb code 163 no_entry in
    let rest = if is_typed code then (if is_generic code a then false else true) else false in
    let f : rest ≡ true = ap (λ (b : Bool). if b then true else rest) (sym call) ∙ ap (λ (b : Bool). if b then true else (if nat_eq code 153 then true else rest)) (sym entry) ∙ e in
    typed_by (is_typed code) (is_generic code a) f

slot_reference : (code a : ℕ) → code ≢ 153 → code ≢ 163 → is_slot code a ≡ true → has_reference code ≡ true
slot_reference code a no_call no_entry e =
    ap (λ (b : Bool). if b then true else (if nat_eq code 153 then true else (if nat_eq code 250 then true else (if nat_eq code 154 then true else (if nat_eq code 253 then true else nat_eq code 160))))) (slot_typed code a no_call no_entry e)

module _ (o : Operation) (size : ℕ) where
  slot_grows : o.code ≢ 153 → is_slot o.code o.a ≡ true → own_size (Some size) o ≡ own_size (Some 0) o + size
  slot_grows no_call is =
      elim (eqb_tells o.code 163) [
        | inl (t, e) ↦ at_code (λ (c : ℕ). own_size (Some size) (coded c o) ≡ own_size (Some 0) (coded c o) + size) o.code 163 e (omega arith)
        | inr (f, no_entry) ↦
            typed_cases (λ (c : ℕ). own_size (Some size) (coded c o) ≡ own_size (Some 0) (coded c o) + size) o.code (slot_typed o.code o.a no_call no_entry is) (omega arith) (omega arith) (omega arith) (omega arith) (omega arith) (omega arith)
      ]

  split_by : (b : Bool) → (b ≡ true → own_size (Some size) o ≡ own_size (Some 0) o + size) → own_size (slot_if b size) o ≡ own_size (slot_if b 0) o + count_if b size
  split_by true h = h refl
  split_by false h = omega arith

  pub own_split : (o.code ≡ 153 → call_size (Some size) ≡ size) → own_size (slot_if (is_slot o.code o.a) size) o ≡ fixed_size o + count_if (is_slot o.code o.a) size
  own_split sized =
      elim (eqb_tells o.code 153) [
        | inl (t, e) ↦
            let is = sized e in
            at_code (λ (c : ℕ). own_size (slot_if (is_slot c o.a) size) (coded c o) ≡ fixed_size (coded c o) + count_if (is_slot c o.a) size) o.code 153 e (ap (λ (n : ℕ). 1 + n) is)
        | inr (f, no_call) ↦
            let fixed : fixed_size o ≡ own_size (slot_if (is_slot o.code o.a) 0) o = ap (λ (b : Bool). if b then 1 else own_size (slot_if (is_slot o.code o.a) 0) o) f in
            let split = split_by (is_slot o.code o.a) (slot_grows no_call) in
            split ∙ ap (λ (n : ℕ). n + count_if (is_slot o.code o.a) size) (sym fixed)
      ]

-- a call has two bytes or four
call_by : (b : Bool) → call_size (Some (if b then 2 else 4)) ≡ (if b then 2 else 4)
call_by true = refl
call_by false = refl

call_sized : (new : Operation) (held : ℕ) → new.code ≡ 153 → call_size (Some (needed_size new held)) ≡ needed_size new held
call_sized new held e =
    at_code (λ (c : ℕ). call_size (Some (needed_size (coded c new) held)) ≡ needed_size (coded c new) held) new.code 153 e (call_by (nat_lt new.a 65536))

pub needed_split : (refs : List ℕ) (o : Operation) (next : IsNext refs o) (held : ℕ) → own_size (needed_slot o next.new held) next.new ≡ fixed_size o + count_if (is_slot o.code o.a) (needed_size next.new held)
needed_split refs o next held =
    next.same (needed_size next.new held) ∙ own_split o (needed_size next.new held) (λ e. call_sized next.new held (next.code ∙ e))

-- ALL OF THEM

sizes_total : (b : Bool) (size : ℕ) (sizes : List ℕ) → total (if b then size ∷ sizes else sizes) ≡ count_if b size + total sizes
sizes_total true size sizes = refl
sizes_total false size sizes = omega arith

-- what is no slot's doesn't depend on the references
pub lengths_split : LengthsSplit
lengths_split refs [] = refl
lengths_split refs (o ∷ os) =
    let next = next_of refs o in
    let news = with_refs next.rest os in
    let held = total (take o.inner (needed_own os news)) in
    let size = needed_size next.new held in
    let listed = next.listed os in
    let rest : total (needed_own os news) ≡ fixed_length os + total (needed_sizes os news) = lengths_split next.rest os in
    let here = needed_split refs o next held in
    let own : shortest_length refs (o ∷ os) ≡ own_size (needed_slot o next.new held) next.new + total (needed_own os news) = ap (λ (z : List Operation). total (needed_own (o ∷ os) z)) listed in
    let slots : total (shortest_sizes refs (o ∷ os)) ≡ count_if (is_slot o.code o.a) size + total (needed_sizes os news) = ap (λ (z : List Operation). total (needed_sizes (o ∷ os) z)) listed ∙ sizes_total (is_slot o.code o.a) size (needed_sizes os news) in
    omega (arith, own, slots, here, rest)

-- WITH REFERENCES BELOW 2^32

five_bytes : (n : ℕ) → n < 2 ^ 32 → least_unsigned_len n ≤ 5
five_bytes n h = least_below n 5 (record { some = omega arith; below = omega (arith, h) })

call_few : (b : Bool) → (if b then 2 else 4) ≤ 4
call_few true = omega arith
call_few false = omega arith

slot_few : (o new : Operation) (m n : ℕ) → new.code ≡ o.code → m ≤ n → (has_reference o.code ≡ true → new.a < 2 ^ 32) → is_slot o.code o.a ≡ true → needed_size new m ≤ plain_size o n
slot_few o new m n same le small is =
    let at : needed_size (coded o.code new) m ≡ needed_size new m = ap (λ (c : ℕ). needed_size (coded c new) m) (sym same) in
    elim (eqb_tells o.code 163) [
      | inl (t, e) ↦
          let few : needed_size (coded o.code new) m ≤ plain_size o n = at_code (λ (c : ℕ). needed_size (coded c new) m ≤ plain_size (coded c o) n) o.code 163 e (unsigned_lens.rises m n le) in
          omega (arith, at, few)
      | inr (entry, no_entry) ↦ elim (eqb_tells o.code 153) [
        | inl (t, e) ↦
            let few : needed_size (coded o.code new) m ≤ plain_size o n = at_code (λ (c : ℕ). needed_size (coded c new) m ≤ plain_size (coded c o) n) o.code 153 e (call_few (nat_lt new.a 65536)) in
            omega (arith, at, few)
        | inr (call, no_call) ↦
            let five : plain_size o n ≡ 5 = rw entry (rw call refl) in
            let own : needed_size (coded o.code new) m ≡ least_unsigned_len new.a = rw entry (rw call refl) in
            let h = five_bytes new.a (small (slot_reference o.code o.a no_call no_entry is)) in
            omega (arith, at, five, own, h)
      ]
    ]

count_less : (b : Bool) (m n : ℕ) → (b ≡ true → m ≤ n) → count_if b m ≤ count_if b n
count_less true m n h = h refl
count_less false m n h = omega arith

pub plain_call : (o : Operation) (n : ℕ) → o.code ≡ 153 → call_size (Some (plain_size o n)) ≡ plain_size o n
plain_call o n e = at_code (λ (c : ℕ). call_size (Some (plain_size (coded c o) n)) ≡ plain_size (coded c o) n) o.code 153 e refl

-- each of some numbers is no more than that of others at its place
abbrev pub AreLess : List ℕ → List ℕ → Type 0
AreLess [] ys = Unit {0}
AreLess (x ∷ xs) [] = ⊥
AreLess (x ∷ xs) (y ∷ ys) = (x ≤ y) × AreLess xs ys

pub less_total : (xs ys : List ℕ) → AreLess xs ys → total xs ≤ total ys
less_total [] ys a = omega arith
less_total (x ∷ xs) [] a = absurd a
less_total (x ∷ xs) (y ∷ ys) (h, a) = let g = less_total xs ys a in omega (arith, g, h)

pub less_take : (n : ℕ) (xs ys : List ℕ) → AreLess xs ys → AreLess (take n xs) (take n ys)
less_take zero xs ys a = tt
less_take (suc n) [] ys a = tt
less_take (suc n) (x ∷ xs) [] a = absurd a
less_take (suc n) (x ∷ xs) (y ∷ ys) (h, a) = (h, less_take n xs ys a)

pub less_drop : (n : ℕ) (xs ys : List ℕ) → AreLess xs ys → AreLess (drop n xs) (drop n ys)
less_drop zero xs ys a = a
less_drop (suc n) [] ys a = tt
less_drop (suc n) (x ∷ xs) [] a = absurd a
less_drop (suc n) (x ∷ xs) (y ∷ ys) (h, a) = less_drop n xs ys a

-- none has more bytes than where each reference has five or four
pub needed_less : (refs : List ℕ) (os : List Operation) → AreSmall refs → AreLess (needed_own os (with_refs refs os)) (plain_own os)
needed_less refs [] small = tt
needed_less refs (o ∷ os) small =
    let next = next_of refs o in
    let news = with_refs next.rest os in
    let rest = needed_less next.rest os (next.small small) in
    let m = total (take o.inner (needed_own os news)) in
    let n = total (take o.inner (plain_own os)) in
    let held : m ≤ n = less_total (take o.inner (needed_own os news)) (take o.inner (plain_own os)) (less_take o.inner (needed_own os news) (plain_own os) rest) in
    let new = needed_split refs o next m in
    let old : own_size (plain_slot o n) o ≡ fixed_size o + count_if (is_slot o.code o.a) (plain_size o n) = own_split o (plain_size o n) (plain_call o n) in
    let less = count_less (is_slot o.code o.a) (needed_size next.new m) (plain_size o n) (slot_few o next.new m n next.code held (next.few small)) in
    subst (λ (z : List Operation). AreLess (needed_own (o ∷ os) z) (plain_own (o ∷ os))) (sym (next.listed os)) (omega (arith, new, old, less), rest)
