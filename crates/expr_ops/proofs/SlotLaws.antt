-- How many operations have a slot, and how many bytes are no slot's.
use Rattle.std.proofs.Common.{◌≡◌, ◌≢◌, ◌≤◌, ◌+◌, ◌*◌, ℕ, zero, suc, List, [], ◌∷◌, ◌++◌, take, map, ◌∙◌, sym, ap, refl, subst, arith, inl, inr, cond, Bool, true, false, Some, None}
use Rattle.std.proofs.lemmas.Bool.{cases_Bool, ne_eqb}
use Rattle.std.proofs.lemmas.Bool.Decides.{eqb_tells}
use Rattle.std.proofs.lemmas.List.{map-append}
use Rattle.std.proofs.lemmas.List.Sums.{sum_by-append, sum_by-cons}
use Rattle.std.specs.Prelude.{nat_eq, if◌then◌else◌, Option}
use Rattle.expr_ops.specs.Expressions.{Operation}
use Rattle.expr_ops.specs.Drafts.{is_slot, with_refs, total}
use Rattle.expr_ops.specs.Sizes.{own_size}
use Rattle.expr_ops.specs.Shortest.{needed_size, needed_slot, needed_own, needed_sizes, shortest_sizes, fixed_size, fixed_length}
use Rattle.expr_ops.specs.Slots.{slots_among, AreNeeded, NeededAreShortest, SlotsHaveOpcodes}
use Rattle.expr_ops.proofs.NestLaws.{total_append}
use Rattle.expr_ops.proofs.NextRefs.{next_of, at_code, coded}
use Rattle.expr_ops.proofs.OwnSizes.{IsBounded}
use Rattle.expr_ops.proofs.PlainBytes.{plain_size, plain_slot}
use Rattle.expr_ops.proofs.SizeSplits.{count_if, own_split, plain_call, needed_split}

-- ONE OPERATION MORE

abbrev slot_here : Operation → ℕ
slot_here o = cond (is_slot o.code o.a) 1 0

pub slots_more : (o : Operation) (os : List Operation) → slots_among (o ∷ os) ≡ slot_here o + slots_among os
slots_more o os = sum_by-cons slot_here o os

pub slots_append : (xs ys : List Operation) → slots_among (xs ++ ys) ≡ slots_among xs + slots_among ys
slots_append xs ys = sum_by-append slot_here xs ys

pub fixed_append : (xs ys : List Operation) → fixed_length (xs ++ ys) ≡ fixed_length xs + fixed_length ys
fixed_append xs ys = ap total (map-append fixed_size xs ys) ∙ total_append (map fixed_size xs) (map fixed_size ys)

-- EACH HAS ITS OPCODE

some_by : (b : Bool) (m n : ℕ) → 1 ≤ m → 1 ≤ n → 1 ≤ (if b then m else n)
some_by true m n h g = h
some_by false m n h g = g

own_some : (slot : Option ℕ) (o : Operation) → 1 ≤ own_size slot o
own_some slot o = some_by (nat_eq o.code 153) _ _ (omega arith) (some_by (nat_eq o.code 163) _ _ (omega arith) (omega arith))

fixed_some : (o : Operation) → 1 ≤ fixed_size o
fixed_some o = some_by (nat_eq o.code 153) _ _ (omega arith) (own_some (if is_slot o.code o.a then Some 0 else None) o)

one_by : (b : Bool) → cond b 1 0 ≤ 1
one_by true = omega arith
one_by false = omega arith

pub slots_have_opcodes : SlotsHaveOpcodes
slots_have_opcodes [] = omega arith
slots_have_opcodes (o ∷ os) =
    let more = slots_more o os in
    let one = one_by (is_slot o.code o.a) in
    let some = fixed_some o in
    let rest = slots_have_opcodes os in
    omega (arith, more, one, some, rest)

-- THE FIRST OF THEM

slots_taken : (b : Bool) (size m k : ℕ) (sizes : List ℕ) → k ≡ cond b 1 0 + m → total (take k (if b then size ∷ sizes else sizes)) ≡ count_if b size + total (take m sizes)
slots_taken true size m k sizes e =
    let next : k ≡ suc m = omega (arith, e) in
    ap (λ (n : ℕ). total (take n (size ∷ sizes))) next
slots_taken false size m k sizes e =
    let same : k ≡ m = omega (arith, e) in
    let f : total (take k sizes) ≡ total (take m sizes) = ap (λ (n : ℕ). total (take n sizes)) same in
    omega (arith, f)

-- the first bytes are those that are no slot's, and those of the first slots
first_split : (n : ℕ) (refs : List ℕ) (os : List Operation) → total (take n (needed_own os (with_refs refs os))) ≡ fixed_length (take n os) + total (take (slots_among (take n os)) (shortest_sizes refs os))
first_split zero refs os = refl
first_split (suc n) refs [] = refl
first_split (suc n) refs (o ∷ os) =
    let next = next_of refs o in
    let news = with_refs next.rest os in
    let held = total (take o.inner (needed_own os news)) in
    let size = needed_size next.new held in
    let is = is_slot o.code o.a in
    let listed = next.listed os in
    let rest = first_split n next.rest os in
    let here = needed_split refs o next held in
    let own : total (take (suc n) (needed_own (o ∷ os) (with_refs refs (o ∷ os)))) ≡ own_size (needed_slot o next.new held) next.new + total (take n (needed_own os news)) = ap (λ (z : List Operation). total (take (suc n) (needed_own (o ∷ os) z))) listed in
    let slots : total (take (slots_among (take (suc n) (o ∷ os))) (shortest_sizes refs (o ∷ os))) ≡ count_if is size + total (take (slots_among (take n os)) (needed_sizes os news)) =
    ap (λ (z : List Operation). total (take (slots_among (take (suc n) (o ∷ os))) (needed_sizes (o ∷ os) z))) listed
    ∙ slots_taken is size (slots_among (take n os)) (slots_among (take (suc n) (o ∷ os))) (needed_sizes os news) (slots_more o (take n os))
    in
    omega (arith, own, slots, here, rest)

-- SIZES THAT ARE NEEDED

abbrev sizes_if : Bool → ℕ → List ℕ → List ℕ
sizes_if b size sizes = if b then size ∷ sizes else sizes

pub needed_are_shortest : NeededAreShortest
needed_are_shortest refs [] sizes needed = needed
needed_are_shortest refs (o ∷ os) sizes needed =
    let next = next_of refs o in
    let news = with_refs next.rest os in
    let size = needed_size next.new (total (take o.inner (needed_own os news))) in
    let listed = next.listed os in
    let (without, with) = subst (λ (z : List Operation). AreNeeded (o ∷ os) z sizes) listed needed in
    let whole : shortest_sizes refs (o ∷ os) ≡ sizes_if (is_slot o.code o.a) size (needed_sizes os news) = ap (λ (z : List Operation). needed_sizes (o ∷ os) z) listed in
    elim (cases_Bool (is_slot o.code o.a)) [
      | inl is ↦
          let (first, rest, e, f, more) = with is in
          let behind : rest ≡ needed_sizes os news = needed_are_shortest next.rest os rest more in
          let held : fixed_length (take o.inner os) + total (take (slots_among (take o.inner os)) rest) ≡ total (take o.inner (needed_own os news)) =
          ap (λ (z : List ℕ). fixed_length (take o.inner os) + total (take (slots_among (take o.inner os)) z)) behind ∙ sym (first_split o.inner next.rest os)
          in
          let here : first ≡ size = f ∙ ap (needed_size next.new) held in
          e ∙ ap (λ (n : ℕ). n ∷ rest) here ∙ ap (λ (z : List ℕ). size ∷ z) behind ∙ ap (λ (b : Bool). sizes_if b size (needed_sizes os news)) (sym is) ∙ sym whole
      | inr is ↦ needed_are_shortest next.rest os sizes (without is) ∙ ap (λ (b : Bool). sizes_if b size (needed_sizes os news)) (sym is) ∙ sym whole
    ]

-- FIVE BYTES FOR EACH SLOT

-- the bytes of operations, where each slot has five
abbrev pub five_length : List Operation → ℕ
five_length os = fixed_length os + 5 * slots_among os

pub five_append : (xs ys : List Operation) → five_length (xs ++ ys) ≡ five_length xs + five_length ys
five_append xs ys =
    let fixed = fixed_append xs ys in
    let slots = slots_append xs ys in
    omega (arith, fixed, slots)

five_by : (b : Bool) → 5 * cond b 1 0 ≡ count_if b 5
five_by true = refl
five_by false = refl

abbrev five_here : Operation → ℕ
five_here o = fixed_size o + 5 * slot_here o

pub five_more : (o : Operation) (os : List Operation) → five_length (o ∷ os) ≡ five_here o + five_length os
five_more o os = let more = slots_more o os in omega (arith, more)

-- an operation that is no entry_value
pub five_other : (o : Operation) (held n : ℕ) → o.code ≢ 163 → IsBounded (own_size (plain_slot o held) o) n → five_length (o ∷ []) ≤ 3 * n
five_other o held n no_entry bounded =
    let thrice = bounded.thrice in
    let more = five_more o [] in
    elim (eqb_tells o.code 153) [
      | inl (t, e) ↦
          let own : own_size (plain_slot o held) o ≡ 5 = at_code (λ (c : ℕ). own_size (plain_slot (coded c o) held) (coded c o) ≡ 5) o.code 153 e refl in
          let five : five_here o ≡ 6 = at_code (λ (c : ℕ). five_here (coded c o) ≡ 6) o.code 153 e refl in
          omega (arith, thrice, own, five, more)
      | inr (call, no_call) ↦
          let entry : nat_eq o.code 163 ≡ false = ne_eqb o.code 163 no_entry in
          let five : plain_size o held ≡ 5 = rw entry (rw call refl) in
          let own : own_size (plain_slot o held) o ≡ fixed_size o + count_if (is_slot o.code o.a) (plain_size o held) = own_split o (plain_size o held) (plain_call o held) in
          let slot = five_by (is_slot o.code o.a) in
          let same : count_if (is_slot o.code o.a) (plain_size o held) ≡ count_if (is_slot o.code o.a) 5 = ap (count_if (is_slot o.code o.a)) five in
          omega (arith, thrice, more, own, slot, same)
    ]

-- an entry_value, and what it holds
pub five_entry : (o : Operation) (held : List Operation) (body n : ℕ) → o.code ≡ 163 → five_length held ≤ 3 * body → body + 2 ≤ n → five_length (o ∷ held) ≤ 3 * n
five_entry o held body n e thrice within =
    let more = five_more o held in
    let here : five_here o ≡ 6 = at_code (λ (c : ℕ). five_here (coded c o) ≡ 6) o.code 163 e refl in
    omega (arith, more, here, thrice, within)
