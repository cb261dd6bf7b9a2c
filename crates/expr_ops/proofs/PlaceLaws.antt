-- The places that a writer reckons with are those of the bytes that it writes.
use Rattle.std.proofs.Common.{◌≡◌, ◌≢◌, ◌+◌, ◌<◌, ◌≤◌, ℕ, zero, suc, List, [], ◌∷◌, length, get_or, take, ◌∙◌, sym, ap, refl, subst, arith, inl, inr, Option, Some, None, true, false}
use Rattle.std.proofs.lemmas.List.{length-append, length-map, ext_get_or, get_or-map}
use Rattle.std.proofs.lemmas.Bool.Decides.{eqb_tells}
use Rattle.std.specs.Prelude.{nat_eq, Bool, if◌then◌else◌}
use Rattle.expr_ops.specs.Puts.{call_size}
use Rattle.std.specs.Int.{w64, cast_unsigned}
use Rattle.spelled.specs.Spelled.{Joined}
use Rattle.expr_ops.specs.declared.op.Op.{Op}
use Rattle.expr_ops.specs.declared.table.Shape.{Shape}
use Rattle.expr_ops.specs.declared.table.Shape.TheVariants as shape
use Rattle.expr_ops.specs.declared.table.Operands.{Operands}
use Rattle.expr_ops.specs.declared.table.Operands.TheVariants as operands
use Rattle.expr_ops.specs.declared.write.Draft.{Draft}
use Rattle.expr_ops.specs.Table.{operands_of}
use Rattle.expr_ops.specs.Expressions.{Operation, IsBranch}
use Rattle.expr_ops.specs.Reads.{bytes_in}
use Rattle.expr_ops.specs.Ops.{meant, all_meant}
use Rattle.expr_ops.specs.Sizes.{number_size, part_size, first_size, second_size, operands_size, known_size, own_size}
use Rattle.expr_ops.specs.Drafts.{has_reference, is_generic, is_slot, with_a, with_ref, with_refs, slots_of, first_or, rest_of, all_ops, PutsDraft, sizes_in, total, starts_from, IsAimed, AreAimed, AreDrafts, IsPut}
use Rattle.expr_ops.proofs.PutLaws.{own_len}
use Rattle.expr_ops.proofs.DraftLaws.{no_draft}

module _ (slot : Option ℕ) (o p : Operation) (same_s : p.s ≡ o.s) (same_block : p.block ≡ o.block) where
  first_same : (s : Shape) → p.a ≡ o.a → first_size s slot p ≡ first_size s slot o
  first_same s same_a =
      ap (λ n. part_size s slot n p.s p.block) same_a ∙ ap (λ v. part_size s slot o.a v p.block) same_s ∙ ap (λ b. part_size s slot o.a o.s b) same_block

  second_same : (s : Shape) → second_size s p ≡ second_size s o
  second_same s = ap (λ v. part_size s None (cast_unsigned w64 v) v p.block) same_s ∙ ap (λ b. part_size s None (cast_unsigned w64 o.s) o.s b) same_block

  operands_same : (kinds : Operands) → p.a ≡ o.a → operands_size kinds slot p ≡ operands_size kinds slot o
  operands_same operands.Nothing e = refl
  operands_same (operands.One s) e = first_same s e
  operands_same (operands.Two s t) e = ap (λ n. n + second_size t p) (first_same s e) ∙ ap (λ n. first_size s slot o + n) (second_same t)
  operands_same (operands.Typed s) e = ap (λ n. n + first_size shape.Uleb slot p) (second_same s) ∙ ap (λ n. second_size s o + n) (first_same shape.Uleb e)

  known_same : (kinds : Option Operands) → p.a ≡ o.a → known_size kinds slot p ≡ known_size kinds slot o
  known_same None e = refl
  known_same (Some kinds) e = operands_same kinds e

-- the operands of a branch have two bytes
pub known_aimed : (slot : Option ℕ) (o p : Operation) → p.a ≡ o.a → ((¬ IsBranch o.code) → p.s ≡ o.s) → p.block ≡ o.block → known_size (operands_of o.code) slot p ≡ known_size (operands_of o.code) slot o
known_aimed slot o p same_a same_s same_block =
    elim (eqb_tells o.code 40) [
      | inl (t, e) ↦ subst (λ z. known_size (operands_of z) slot p ≡ known_size (operands_of z) slot o) (sym e) refl
      | inr (f, bra) ↦
          elim (eqb_tells o.code 47) [
            | inl (t, e) ↦ subst (λ z. known_size (operands_of z) slot p ≡ known_size (operands_of z) slot o) (sym e) refl
            | inr (g, skip) ↦ known_same slot o p (same_s (λ b. elim b [ inl x ↦ bra x | inr y ↦ skip y ])) same_block (operands_of o.code) same_a
          ]
    ]

abbrev size_by : Bool → Bool → Option ℕ → ℕ → ℕ → ℕ
size_by call entry slot a rest = if call then 1 + call_size slot else (if entry then 1 + number_size slot a else 1 + rest)

size_entry : (call : Bool) (slot : Option ℕ) (a b m n : ℕ) → ((x : ℕ) × (slot ≡ Some x)) → size_by call true slot a m ≡ size_by call true slot b n
size_entry true slot a b m n h = refl
size_entry false slot a b m n h = subst (λ (z : Option ℕ). 1 + number_size z a ≡ 1 + number_size z b) (sym h.1) refl

size_other : (call : Bool) (slot : Option ℕ) (a b m n : ℕ) → m ≡ n → size_by call false slot a m ≡ size_by call false slot b n
size_other true slot a b m n h = refl
size_other false slot a b m n h = ap (λ k. 1 + k) h

-- aiming changes no size
own_same : (slot : Option ℕ) (o p : Operation) → p.code ≡ o.code → (o.code ≡ 163 → (x : ℕ) × (slot ≡ Some x)) → (o.code ≢ 163 → p.a ≡ o.a) → ((¬ IsBranch o.code) → p.s ≡ o.s) → p.block ≡ o.block → own_size slot p ≡ own_size slot o
own_same slot o p same_code slotted same_a same_s same_block =
    let m = known_size (operands_of o.code) slot p in
    let n = known_size (operands_of o.code) slot o in
    let call = nat_eq o.code 153 in
    let coded : own_size slot p ≡ size_by call (nat_eq o.code 163) slot p.a m = ap (λ c. size_by (nat_eq c 153) (nat_eq c 163) slot p.a (known_size (operands_of c) slot p)) same_code in
    let aimed : size_by call (nat_eq o.code 163) slot p.a m ≡ size_by call (nat_eq o.code 163) slot o.a n =
    elim (eqb_tells o.code 163) [
      | inl (t, e) ↦ subst (λ (z : Bool). size_by call z slot p.a m ≡ size_by call z slot o.a n) (sym t) (size_entry call slot p.a o.a m n (slotted e))
      | inr (f, other) ↦ subst (λ (z : Bool). size_by call z slot p.a m ≡ size_by call z slot o.a n) (sym f) (size_other call slot p.a o.a m n (known_aimed slot o p (same_a other) same_s same_block))
    ] in
    coded ∙ aimed

-- so many bytes are there as the sizes say
pub joined_len : (bytes : List ℕ) (drafts : List Draft) (own : List ℕ) → Joined (PutsDraft bytes) drafts own → length own ≡ total (sizes_in bytes drafts)
joined_len bytes [] own j = ap length j
joined_len bytes (d ∷ ds) own (first, rest, p, j, e) =
    ap length e ∙ length-append first rest ∙ ap (λ k. k + length rest) (own_len d.slot (meant bytes d.op) first p) ∙ ap (λ k. own_size d.slot (meant bytes d.op) + k) (joined_len bytes ds rest j)

starts_take : (bytes : List ℕ) (place : ℕ) (drafts : List Draft) (k : ℕ) → k ≤ length drafts → get_or (starts_from place (sizes_in bytes drafts)) k 0 ≡ place + total (sizes_in bytes (take k drafts))
starts_take bytes place [] zero h = omega arith
starts_take bytes place [] (suc k) h = absurd (omega (arith, h))
starts_take bytes place (d ∷ ds) zero h = omega arith
starts_take bytes place (d ∷ ds) (suc k) h =
    let e = starts_take bytes (place + own_size d.slot (meant bytes d.op)) ds k (omega (arith, h)) in
    omega (arith, e)

pub places_true : (bytes : List ℕ) (drafts : List Draft) (k : ℕ) (own : List ℕ) → k ≤ length drafts → Joined (PutsDraft bytes) (take k drafts) own → length own ≡ get_or (starts_from 0 (sizes_in bytes drafts)) k 0
places_true bytes drafts k own h j = let e = joined_len bytes (take k drafts) own j in let f = starts_take bytes 0 drafts k h in omega (arith, e, f)

branch_of : (m n : ℕ) → m ≡ n → IsBranch m → IsBranch n
branch_of m n e b = subst (λ z. IsBranch z) e b

-- a draft's size is that of the aimed one
module _ (bytes places firsts : List ℕ) (drafts aims : List Draft) (a : AreAimed places firsts drafts aims (length drafts)) (slotted : (k : ℕ) (d : Draft) → k < length drafts → (get_or drafts k d).op.code ≡ 163 → (x : ℕ) × ((get_or drafts k d).slot ≡ Some x)) where
  size_same : (old new : Draft) (k first : ℕ) → IsAimed places first k old new → (old.op.code ≡ 163 → (x : ℕ) × (old.slot ≡ Some x)) → own_size new.slot (meant bytes new.op) ≡ own_size old.slot (meant bytes old.op)
  size_same old new k first i has =
      ap (λ (z : Option ℕ). own_size z (meant bytes new.op)) i.slot
      ∙ own_same old.slot (meant bytes old.op) (meant bytes new.op) i.code has (λ n. i.number (λ e. n (sym i.code ∙ e))) (λ n. i.sign (λ b. n (branch_of new.op.code old.op.code i.code b))) (ap (λ z. bytes_in bytes z) i.bytes)

  pub sizes_same : sizes_in bytes aims ≡ sizes_in bytes drafts
  sizes_same =
      let f = λ (d : Draft). own_size d.slot (meant bytes d.op) in
      let la = length-map aims f in
      let ld = length-map drafts f in
      let n = a.count in
      ext_get_or 0 (sizes_in bytes aims) (sizes_in bytes drafts) (la ∙ n ∙ sym ld) (λ k lt.
      let inside : k < length drafts = omega (arith, lt, la, n) in
      let within : k < length aims = omega (arith, lt, la) in
      get_or-map f aims k no_draft 0 within ∙ size_same (get_or drafts k no_draft) (get_or aims k no_draft) k (get_or firsts k 0) (a.each k no_draft inside) (slotted k no_draft inside) ∙ sym (get_or-map f drafts k no_draft 0 inside))

pub ref_code : (g : Bool) (n : ℕ) (o : Operation) → (if g then o else with_a n o).code ≡ o.code
ref_code true n o = refl
ref_code false n o = refl

code_by : (b : Bool) (x o d : Operation) (xs ys : List Operation) → x.code ≡ o.code → (get_or (if b then x ∷ xs else (o ∷ ys)) 0 d).code ≡ o.code
code_by true x o d xs ys e = e
code_by false x o d xs ys e = refl

later_code : (b : Bool) (x : Operation) (c : ℕ) (o d : Operation) (xs ys : List Operation) (k : ℕ) → (get_or xs k d).code ≡ c → (get_or ys k d).code ≡ c → (get_or (if b then x ∷ xs else (o ∷ ys)) (suc k) d).code ≡ c
later_code true x c o d xs ys k e f = e
later_code false x c o d xs ys k e f = f

-- new references change no opcode
pub refs_code : (refs : List ℕ) (os : List Operation) (k : ℕ) (d : Operation) → (get_or (with_refs refs os) k d).code ≡ (get_or os k d).code
refs_code refs [] k d = refl
refs_code refs (o ∷ os) zero d =
    code_by (has_reference o.code) (with_ref (first_or 0 refs) o) o d (with_refs (rest_of refs) os) (with_refs refs os) (ref_code (is_generic o.code o.a) (first_or 0 refs) o)
refs_code refs (o ∷ os) (suc k) d =
    later_code (has_reference o.code) (with_ref (first_or 0 refs) o) (get_or os k d).code o d (with_refs (rest_of refs) os) (with_refs refs os) k (refs_code (rest_of refs) os k d) (refs_code refs os k d)

later_slot : (b : Bool) (p q : Option ℕ) (xs ys : List (Option ℕ)) (k : ℕ) → ((x : ℕ) × (get_or xs k None ≡ Some x)) → ((x : ℕ) × (get_or ys k None ≡ Some x)) → (x : ℕ) × (get_or (if b then p ∷ xs else (q ∷ ys)) (suc k) None ≡ Some x)
later_slot true p q xs ys k e f = e
later_slot false p q xs ys k e f = f

-- an entry_value has a slot
slot_there : (sizes : List ℕ) (os : List Operation) (k : ℕ) (d : Operation) → (d.code ≢ 163) → (get_or os k d).code ≡ 163 → (x : ℕ) × (get_or (slots_of sizes os) k None ≡ Some x)
slot_there sizes [] k d none e = absurd (none e)
slot_there sizes (o ∷ os) zero d none e =
    subst (λ c. (x : ℕ) × (get_or (if is_slot c o.a then Some (first_or 1 sizes) ∷ slots_of (rest_of sizes) os else (None ∷ slots_of sizes os)) 0 None ≡ Some x)) (sym e) (first_or 1 sizes, refl)
slot_there sizes (o ∷ os) (suc k) d none e =
    later_slot (is_slot o.code o.a) (Some (first_or 1 sizes)) None (slots_of (rest_of sizes) os) (slots_of sizes os) k (slot_there (rest_of sizes) os k d none e) (slot_there sizes os k d none e)

pub slotted_drafts : (refs sizes bytes : List ℕ) (ops : List Op) (drafts : List Draft) → AreDrafts refs sizes bytes ops drafts → (k : ℕ) (d : Draft) → k < length drafts → (get_or drafts k d).op.code ≡ 163 → (x : ℕ) × ((get_or drafts k d).slot ≡ Some x)
slotted_drafts refs sizes bytes ops drafts a k d lt e =
    let os = all_meant bytes ops in
    let none = meant bytes no_draft.op in
    let here : (get_or (all_ops bytes drafts) k none).code ≡ (get_or drafts k d).op.code = ap (λ (z : Operation). z.code) (get_or-map (λ (x : Draft). meant bytes x.op) drafts k d none lt) in
    let renamed : (get_or (with_refs refs os) k none).code ≡ (get_or (all_ops bytes drafts) k none).code = ap (λ (z : List Operation). (get_or z k none).code) (sym a.renamed) in
    let code : (get_or os k none).code ≡ 163 = sym (refs_code refs os k none) ∙ renamed ∙ here ∙ e in
    let h = slot_there sizes os k none (λ z. absurd (omega (arith, z))) code in
    (h.0, sym (get_or-map (λ (x : Draft). x.slot) drafts k d None lt) ∙ ap (λ (z : List (Option ℕ)). get_or z k None) a.slots ∙ h.1)

-- the places that lengths and distances come from are those of the bytes
pub places_put : (refs sizes bytes : List ℕ) (ops : List Op) (made : List ℕ) (p : IsPut refs sizes bytes ops made) (k : ℕ) (own : List ℕ) → k ≤ length p.aims → Joined (PutsDraft bytes) (take k p.aims) own → length own ≡ get_or (starts_from 0 (sizes_in bytes p.drafts)) k 0
places_put refs sizes bytes ops made p k own h j =
    places_true bytes p.aims k own h j ∙ ap (λ (z : List ℕ). get_or (starts_from 0 z) k 0) (sizes_same bytes (starts_from 0 (sizes_in bytes p.drafts)) p.firsts p.drafts p.aims p.aimed (slotted_drafts refs sizes bytes ops p.drafts p.drafted))
