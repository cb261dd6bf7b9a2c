-- What is written of one operation.
use Rattle.std.proofs.Common.{◌≡◌, ◌+◌, ℕ, suc, List, [], ◌∷◌, ◌++◌, length, ◌∙◌, sym, ap, refl, subst, arith, inl, inr, Option, Some, None, false}
use Rattle.std.proofs.lemmas.List.{append_assoc, append-nil, length-append}
use Rattle.std.proofs.lemmas.Bool.{ne_eqb}
use Rattle.std.specs.Prelude.{ℤ, nat_eq, OnOk, OnErr, Result, Ok, Err}
use Rattle.dw_base.specs.declared.fault.NoMemory.{NoMemory}
use Rattle.leb_codec.specs.Digits.{Extends}
use Rattle.std.specs.Int.{w64, cast_unsigned}
use Rattle.byteorder.specs.Numbers.{length-bytes_low_first}
use Rattle.expr_ops.specs.declared.table.Shape.{Shape}
use Rattle.expr_ops.specs.declared.table.Shape.TheVariants as shape
use Rattle.expr_ops.specs.declared.table.Operands.{Operands}
use Rattle.expr_ops.specs.declared.table.Operands.TheVariants as operands
use Rattle.expr_ops.specs.Table.{operands_of}
use Rattle.expr_ops.specs.Heads.{size_of}
use Rattle.expr_ops.specs.Expressions.{Operation}
use Rattle.expr_ops.specs.Puts.{PutsNumber, PutsPart, PutsFirst, PutsSecond, PutsOperands, PutsOwn, Adds, low_bytes, call_size, call_code}
use Rattle.expr_ops.specs.Sizes.{number_size, part_size, first_size, second_size, operands_size, own_size}

pub other_op : (slot : Option ℕ) (o : Operation) (kinds : Operands) (old mid new : List ℕ) → (o.code ≡ 153 → ⊥) → (o.code ≡ 163 → ⊥) → operands_of o.code ≡ Some kinds → mid ≡ old ++ o.code ∷ [] → Adds (PutsOperands kinds slot o) mid new → Adds (PutsOwn slot o) old new
other_op slot o kinds old mid new no_call no_entry known pushed (tail, puts, whole) = (
  o.code ∷ tail,
  inr (inr (no_call, no_entry, (kinds, tail, known, puts, refl))),
  whole ∙ ap (λ z. z ++ tail) pushed ∙ append_assoc old (o.code ∷ []) tail,
)

number_len : (slot : Option ℕ) (n : ℕ) (bytes : List ℕ) → PutsNumber slot n bytes → length bytes ≡ number_size slot n
number_len None n bytes p = p.1
number_len (Some size) n bytes p = p.1

low_len : (size n : ℕ) → length (low_bytes size n) ≡ size
low_len size n = length-bytes_low_first 0 size n

part_len : (s : Shape) (slot : Option ℕ) (n : ℕ) (v : ℤ) (block bytes : List ℕ) → PutsPart s slot n v block bytes → length bytes ≡ part_size s slot n v block
part_len (shape.Unsigned w) slot n v block bytes p = ap length p ∙ low_len (size_of w) n
part_len (shape.Signed w) slot n v block bytes p = ap length p ∙ low_len (size_of w) (cast_unsigned w64 v)
part_len shape.Uleb slot n v block bytes p = number_len slot n bytes p
part_len shape.Sleb slot n v block bytes p = p.1
part_len shape.Counted slot n v block bytes (head, q, e) = ap length e ∙ length-append head block ∙ ap (λ k. k + length block) q.1
part_len shape.ByteCounted slot n v block bytes p = ap length p ∙ length-append (low_bytes 1 (length block)) block ∙ ap (λ k. k + length block) (low_len 1 (length block))

first_len : (s : Shape) (slot : Option ℕ) (o : Operation) (bytes : List ℕ) → PutsFirst s slot o bytes → length bytes ≡ first_size s slot o
first_len s slot o bytes p = part_len s slot o.a o.s o.block bytes p

second_len : (s : Shape) (o : Operation) (bytes : List ℕ) → PutsSecond s o bytes → length bytes ≡ second_size s o
second_len s o bytes p = part_len s None (cast_unsigned w64 o.s) o.s o.block bytes p

both_len : (a b : List ℕ) (bytes : List ℕ) (m n : ℕ) → bytes ≡ a ++ b → length a ≡ m → length b ≡ n → length bytes ≡ m + n
both_len a b bytes m n e p q = ap length e ∙ length-append a b ∙ ap (λ k. k + length b) p ∙ ap (λ k. m + k) q

operands_len : (kinds : Operands) (slot : Option ℕ) (o : Operation) (bytes : List ℕ) → PutsOperands kinds slot o bytes → length bytes ≡ operands_size kinds slot o
operands_len operands.Nothing slot o bytes p = ap length p
operands_len (operands.One s) slot o bytes p = first_len s slot o bytes p
operands_len (operands.Two s t) slot o bytes (a, b, p, q, e) = both_len a b bytes (first_size s slot o) (second_size t o) e (first_len s slot o a p) (second_len t o b q)
operands_len (operands.Typed s) slot o bytes (a, b, p, q, e) = both_len a b bytes (second_size s o) (first_size shape.Uleb slot o) e (second_len s o a p) (first_len shape.Uleb slot o b q)

one_more : (x : ℕ) (xs bytes : List ℕ) (n : ℕ) → bytes ≡ x ∷ xs → length xs ≡ n → length bytes ≡ 1 + n
one_more x xs bytes n e p =
    let h : length bytes ≡ suc (length xs) = ap length e in
    omega (arith, h, p)

-- an operation has as many bytes as its size says
pub own_len : (slot : Option ℕ) (o : Operation) (bytes : List ℕ) → PutsOwn slot o bytes → length bytes ≡ own_size slot o
own_len slot o bytes (inl (call, p)) = rw call (one_more (call_code slot) (low_bytes (call_size slot) o.a) bytes (call_size slot) p (low_len (call_size slot) o.a))
own_len slot o bytes (inr (inl (entry, (tail, p, e)))) = rw entry (one_more 163 tail bytes (number_size slot o.a) e (number_len slot o.a tail p))
own_len slot o bytes (inr (inr (no_call, no_entry, (kinds, tail, known, puts, e)))) =
    let call : nat_eq o.code 153 ≡ false = ne_eqb o.code 153 no_call in
    let entry : nat_eq o.code 163 ≡ false = ne_eqb o.code 163 no_entry in
    rw call (rw entry (rw known (one_more o.code tail bytes (operands_size kinds slot o) e (operands_len kinds slot o tail puts))))

-- the sum as it is found
pub own_known : (slot : Option ℕ) (o : Operation) (kinds : Operands) (found : ℕ) → (o.code ≡ 153 → ⊥) → (o.code ≡ 163 → ⊥) → operands_of o.code ≡ Some kinds → found ≡ operands_size kinds slot o → 1 + found ≡ own_size slot o
own_known slot o kinds found no_call no_entry known finds =
    let call : nat_eq o.code 153 ≡ false = ne_eqb o.code 153 no_call in
    let entry : nat_eq o.code 163 ≡ false = ne_eqb o.code 163 no_entry in
    rw call (rw entry (rw known (ap (λ (n : ℕ). 1 + n) finds)))

module _ (T : Type 0) (r : Result T NoMemory) (s : Shape) (slot : Option ℕ) (old new : List ℕ) where
  -- the same operand, by what it is known to be
  pub part_same : (m n : ℕ) (v w : ℤ) (a b : List ℕ) → m ≡ n → v ≡ w → a ≡ b → OnOk r (Adds (PutsPart s slot m v a) old new) → OnOk r (Adds (PutsPart s slot n w b) old new)
  part_same m n v w a b d e f p =
      subst (λ (x : ℕ). OnOk r (Adds (PutsPart s slot x w b) old new)) d (subst (λ (x : ℤ). OnOk r (Adds (PutsPart s slot m x b) old new)) e (subst (λ (x : List ℕ). OnOk r (Adds (PutsPart s slot m v x) old new)) f p))

pub on_err_any : {T E P : Type 0} (r : Result T E) → P → OnErr r P
on_err_any (Ok x) p = tt
on_err_any (Err e) p = p

pub unchanged : (old new : List ℕ) → new ≡ old → Extends old new
unchanged old new e = ([], e ∙ sym (append-nil old))
