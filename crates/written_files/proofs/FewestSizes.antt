-- The sizes of slots that have the fewest bytes, and the bytes of operations that have such slots.
use Rattle.std.proofs.Common.{◌≡◌, ◌≢◌, ◌≤◌, ◌+◌, ℕ, zero, suc, List, [], ◌∷◌, length, take, ◌∙◌, sym, ap, refl, arith, inl, inr, cond, Bool, true, false, Some, None}
use Rattle.std.proofs.lemmas.Bool.{ne_eqb, cases_Bool}
use Rattle.std.proofs.lemmas.Bool.Decides.{eqb_tells}
use Rattle.std.proofs.lemmas.List.{take-take, length-take-le}
use Rattle.std.specs.Prelude.{ℤ, nat_eq, nat_lt, if◌then◌else◌}
use Rattle.leb_codec.specs.Leb.{least_unsigned_len}
use Rattle.expr_ops.specs.Expressions.{Operation, IsBranch}
use Rattle.expr_ops.specs.Puts.{call_size}
use Rattle.expr_ops.specs.Sizes.{known_size, own_size}
use Rattle.expr_ops.specs.Slots.{slots_among}
use Rattle.expr_ops.specs.Table.{operands_of}
use Rattle.expr_ops.specs.Drafts.{is_slot, is_typed, total}
use Rattle.expr_ops.specs.Shortest.{needed_size, needed_slot, needed_own, needed_sizes, fixed_length}
use Rattle.expr_ops.proofs.NestLaws.{Closed}
use Rattle.expr_ops.proofs.NextRefs.{at_code, coded, typed_cases}
use Rattle.expr_ops.proofs.PlaceLaws.{known_aimed}
use Rattle.expr_ops.proofs.SizeSplits.{count_if, own_split}
use Rattle.expr_ops.proofs.SlotLaws.{slots_more}
use Rattle.written_files.specs.inside.FewestBytes.{held_by, fewest_sizes, held_length, fewest_slot, as_written}

-- ONE OPERATION

-- an opcode that is neither a call's, an entry_value's nor one of a reference to a base type has no slot
pub no_slot : (c a : ℕ) → is_typed c ≡ false → c ≢ 153 → c ≢ 163 → is_slot c a ≡ false
no_slot c a plain no_call no_entry = rw (ne_eqb c 163 no_entry) (rw (ne_eqb c 153 no_call) (rw plain refl))

-- a call alone has its size by its opcode
pub fewest_none : (o : Operation) → o.code ≢ 153 → fewest_slot o ≡ None
fewest_none o no_call = let call : nat_eq o.code 153 ≡ false = ne_eqb o.code 153 no_call in rw call refl

-- a number by itself needs its own bytes
pub other_size : (o : Operation) (held : ℕ) → o.code ≢ 153 → o.code ≢ 163 → needed_size o held ≡ least_unsigned_len o.a
other_size o held no_call no_entry =
    let call : nat_eq o.code 153 ≡ false = ne_eqb o.code 153 no_call in
    let entry : nat_eq o.code 163 ≡ false = ne_eqb o.code 163 no_entry in
    rw entry (rw call refl)

typed_any : (o : Operation) (b : Bool) → is_typed o.code ≡ true → own_size (if b then Some (least_unsigned_len o.a) else None) o ≡ own_size None o
typed_any o true typed = typed_cases (λ (c : ℕ). own_size (Some (least_unsigned_len o.a)) (coded c o) ≡ own_size None (coded c o)) o.code typed refl refl refl refl refl refl
typed_any o false typed = refl

-- so an operation with a reference to a base type has one size with a shortest slot and without a slot
pub other_any : (o : Operation) (held : ℕ) (b : Bool) → o.code ≢ 153 → o.code ≢ 163 → is_typed o.code ≡ true → own_size (if b then Some (needed_size o held) else None) o ≡ own_size None o
other_any o held b no_call no_entry typed = ap (λ (n : ℕ). own_size (if b then Some n else None) o) (other_size o held no_call no_entry) ∙ typed_any o b typed

plain_any : (o : Operation) (held : ℕ) → o.code ≢ 153 → o.code ≢ 163 → own_size (needed_slot o o held) o ≡ own_size None o
plain_any o held no_call no_entry = elim (cases_Bool (is_typed o.code)) [
  | inl typed ↦ other_any o held (is_slot o.code o.a) no_call no_entry typed
  | inr plain ↦ ap (λ (b : Bool). own_size (if b then Some (needed_size o held) else None) o) (no_slot o.code o.a plain no_call no_entry)
]

plain_known : (w : Operation) → nat_eq w.code 153 ≡ false → nat_eq w.code 163 ≡ false → own_size None w ≡ 1 + known_size (operands_of w.code) None w
plain_known w call entry = rw call (rw entry refl)

-- what is written of an operation has as many bytes as the operation needs
pub own_needed : (o : Operation) (held : ℕ) (v : ℤ) → ((¬ IsBranch o.code) → v ≡ o.s) → own_size (fewest_slot o) (as_written held v o) ≡ own_size (needed_slot o o held) o
own_needed o held v sign =
    elim (eqb_tells o.code 153) [
      | inl (t, e) ↦ at_code (λ (c : ℕ). own_size (fewest_slot (coded c o)) (as_written held v (coded c o)) ≡ own_size (needed_slot (coded c o) (coded c o) held) (coded c o)) o.code 153 e refl
      | inr (call, no_call) ↦ elim (eqb_tells o.code 163) [
        | inl (t, e) ↦ at_code (λ (c : ℕ). own_size (fewest_slot (coded c o)) (as_written held v (coded c o)) ≡ own_size (needed_slot (coded c o) (coded c o) held) (coded c o)) o.code 163 e refl
        | inr (entry, no_entry) ↦
            let w = as_written held v o in
            let number : w.a ≡ o.a = ap (λ (b : Bool). if b then held else o.a) entry in
            let known = known_aimed None o w number sign refl in
            let slot : own_size (fewest_slot o) w ≡ own_size None w = rw call refl in
            let same : own_size None w ≡ own_size None o = plain_known w call entry ∙ ap (λ (n : ℕ). 1 + n) known ∙ sym (plain_known o call entry) in
            slot ∙ same ∙ sym (plain_any o held no_call no_entry)
      ]
    ]

call_by : (b : Bool) → call_size (Some (if b then 2 else 4)) ≡ (if b then 2 else 4)
call_by true = refl
call_by false = refl

-- its bytes are those of its slot and others
own_parts : (o : Operation) (held : ℕ) → own_size (needed_slot o o held) o ≡ fixed_length (o ∷ []) + count_if (is_slot o.code o.a) (needed_size o held)
own_parts o held =
    let split =
    own_split o (needed_size o held) (λ e. at_code (λ (c : ℕ). call_size (Some (needed_size (coded c o) held)) ≡ needed_size (coded c o) held) o.code 153 e (call_by (nat_lt o.a 65536)))
    in
    omega (arith, split)

-- ALL OF THEM

sizes_total : (b : Bool) (size : ℕ) (sizes : List ℕ) → total (if b then size ∷ sizes else sizes) ≡ count_if b size + total sizes
sizes_total true size sizes = refl
sizes_total false size sizes = omega arith

slots_taken : (b : Bool) (size m k : ℕ) (sizes : List ℕ) → k ≡ cond b 1 0 + m → total (take k (if b then size ∷ sizes else sizes)) ≡ count_if b size + total (take m sizes)
slots_taken true size m k sizes e =
    let next : k ≡ suc m = omega (arith, e) in
    ap (λ (n : ℕ). total (take n (size ∷ sizes))) next
slots_taken false size m k sizes e =
    let same : k ≡ m = omega (arith, e) in
    let f : total (take k sizes) ≡ total (take m sizes) = ap (λ (n : ℕ). total (take n sizes)) same in
    omega (arith, f)

-- the bytes are those of slots and others
needed_split : (os : List Operation) → total (needed_own os os) ≡ fixed_length os + total (needed_sizes os os)
needed_split [] = refl
needed_split (o ∷ os) =
    let held = total (take o.inner (needed_own os os)) in
    let size = needed_size o held in
    let rest = needed_split os in
    let here = own_parts o held in
    let slots = sizes_total (is_slot o.code o.a) size (needed_sizes os os) in
    omega (arith, rest, here, slots)

-- so are those of the first ones
front_split : (n : ℕ) (os : List Operation) → total (take n (needed_own os os)) ≡ fixed_length (take n os) + total (take (slots_among (take n os)) (needed_sizes os os))
front_split zero os = refl
front_split (suc n) [] = refl
front_split (suc n) (o ∷ os) =
    let held = total (take o.inner (needed_own os os)) in
    let size = needed_size o held in
    let is = is_slot o.code o.a in
    let rest = front_split n os in
    let here = own_parts o held in
    let slots : total (take (slots_among (take (suc n) (o ∷ os))) (needed_sizes (o ∷ os) (o ∷ os))) ≡ count_if is size + total (take (slots_among (take n os)) (needed_sizes os os)) =
    slots_taken is size (slots_among (take n os)) (slots_among (take (suc n) (o ∷ os))) (needed_sizes os os) (slots_more o (take n os))
    in
    omega (arith, rest, here, slots)

abbrev sizes_if : Bool → ℕ → List ℕ → List ℕ
sizes_if b size sizes = if b then size ∷ sizes else sizes

-- the fewest sizes are those that are needed
pub fewest_needed : (os : List Operation) → fewest_sizes os ≡ needed_sizes os os
fewest_needed [] = refl
fewest_needed (o ∷ os) =
    let rest = fewest_needed os in
    let held : held_by o os (fewest_sizes os) ≡ total (take o.inner (needed_own os os)) = ap (held_by o os) rest ∙ sym (front_split o.inner os) in
    ap (λ (n : ℕ). sizes_if (is_slot o.code o.a) (needed_size o n) (fewest_sizes os)) held
    ∙ ap (λ (z : List ℕ). sizes_if (is_slot o.code o.a) (needed_size o (total (take o.inner (needed_own os os)))) z) rest

-- and so is the length of what an operation holds
pub held_needed : (o : Operation) (os : List Operation) → held_length o os ≡ total (take o.inner (needed_own os os))
held_needed o os = ap (held_by o os) (fewest_needed os) ∙ sym (front_split o.inner os)

-- THE FIRST OF THEM

-- operations that hold no others than those behind them need no more bytes with further ones
front_own : (n : ℕ) (os : List Operation) → n ≤ length os → Closed (take n os) → take n (needed_own os os) ≡ needed_own (take n os) (take n os)
front_own zero os few closed = refl
front_own (suc n) [] few closed = refl
front_own (suc n) (o ∷ os) few (inside, closed) =
    let front = take n os in
    let rest : take n (needed_own os os) ≡ needed_own front front = front_own n os (omega (arith, few)) closed in
    let long : length front ≡ n = length-take-le n os (omega (arith, few)) in
    let first : take o.inner (needed_own os os) ≡ take o.inner (needed_own front front) =
    sym (take-take o.inner n (needed_own os os) (omega (arith, inside, long))) ∙ ap (take o.inner) rest
    in
    ap (λ (z : List ℕ). own_size (needed_slot o o (total z)) o ∷ take n (needed_own os os)) first
    ∙ ap (λ (z : List ℕ). own_size (needed_slot o o (total (take o.inner (needed_own front front)))) o ∷ z) rest

pub fewest_total : (os : List Operation) → total (needed_own os os) ≡ fixed_length os + total (fewest_sizes os)
fewest_total os = needed_split os ∙ ap (λ (z : List ℕ). fixed_length os + total z) (sym (fewest_needed os))

-- what an operation holds is counted by itself
pub held_total : (o : Operation) (os : List Operation) → o.inner ≤ length os → Closed (take o.inner os) → held_length o os ≡ fixed_length (take o.inner os) + total (fewest_sizes (take o.inner os))
held_total o os few closed = held_needed o os ∙ ap total (front_own o.inner os few closed) ∙ fewest_total (take o.inner os)
