-- Bytes begin with an operation or have a fault there.
use Rattle.std.proofs.Common.{◌≡◌, ◌≤◌, ◌<◌, ◌+◌, ◌^◌, ◌⊎◌, ℕ, zero, suc, List, [], ◌∷◌, ◌++◌, length, get_or, take, drop, ◌∙◌, sym, ap, refl, subst, arith, inl, inr, Option, Some, None}
use Rattle.std.proofs.lemmas.List.{append_assoc, length-append, take-append-drop, length-take-le, get_or_append_left}
use Rattle.std.proofs.lemmas.Bool.{cases_lt}
use Rattle.std.specs.Prelude.{ℤ, pos, negsuc, FitsSigned}
use Rattle.std.specs.Int.{w64}
use Rattle.spelled.specs.Spelled.{AreBytes, Then, FaultThen}
use Rattle.spelled.proofs.Parts.{bytes_after}
use Rattle.leb_codec.specs.Leb.{weighed, signed_weighed, IsLeb, IsShort, IsWideUnsigned, IsWideSigned, Uleb, Sleb}
use Rattle.leb_codec.proofs.Lebs.{IsLeb-front}
use Rattle.fixed_width.specs.Numbers.{number}
use Rattle.dw_base.specs.declared.fault.Kind.TheVariants as kind
use Rattle.expr_ops.specs.declared.table.Shape.{Shape}
use Rattle.expr_ops.specs.declared.table.Shape.TheVariants as shape
use Rattle.expr_ops.specs.declared.table.Operands.{Operands}
use Rattle.expr_ops.specs.declared.table.Operands.TheVariants as operands
use Rattle.expr_ops.specs.Table.{operands_of}
use Rattle.expr_ops.specs.Heads.{size_of, signed_of, SpellsPart, SpellsOperands, SpellsHead, bare, holding, holding_two}
use Rattle.expr_ops.specs.Heads.Part.{Unsigned, Signed, Data}
use Rattle.expr_ops.specs.HeadFaults.{FaultPartAt, FaultOperands, FaultHead}

-- bytes begin with what spells something
abbrev pub Begins : {V : Type 0} → (V → List ℕ → Type 0) → List ℕ → Type 0
Begins {V} S bytes = (v : V) × (front : List ℕ) × (rest : List ℕ) × S v front × (bytes ≡ front ++ rest)

-- or they have a fault
abbrev pub Decided : {V K : Type 0} → (V → List ℕ → Type 0) → (K → ℕ → List ℕ → Type 0) → List ℕ → Type 0
Decided {V} {K} S F bytes = Begins S bytes ⊎ ((k : K) × (at : ℕ) × F k at bytes)

-- what stands before others in bytes
pub bytes_before : (a b : List ℕ) → AreBytes (a ++ b) → AreBytes a
bytes_before a b small k inside =
    let all : length (a ++ b) ≡ length a + length b = length-append a b in
    subst (λ (n : ℕ). n < 256) (get_or_append_left a b 0 k inside) (small k (omega arith))

-- NUMBERS

-- no byte of the first k ends a number
leb_from : (n k : ℕ) (bytes : List ℕ) → n + k ≡ length bytes → AreBytes bytes → ((j : ℕ) → j < k → 128 ≤ get_or bytes j 0) → IsShort bytes ⊎ ((len : ℕ) × (len ≤ length bytes) × IsLeb (take len bytes))
leb_from zero k bytes e small more = inl (λ j lt. more j (omega arith))
leb_from (suc n) k bytes e small more = elim (cases_lt (get_or bytes k 0) 128) [
  | inl last ↦ inr (k + 1, omega arith, IsLeb-front bytes k (omega arith) small more last)
  | inr next ↦
      leb_from n (k + 1) bytes (omega arith) small (λ j lt. elim (cases_lt j k) [
        | inl before ↦ more j before
        | inr at ↦ let same : k ≡ j = omega arith in subst (λ (z : ℕ). 128 ≤ get_or bytes z 0) same next
      ])
]

leb_or_short : (bytes : List ℕ) → AreBytes bytes → IsShort bytes ⊎ ((len : ℕ) × (len ≤ length bytes) × IsLeb (take len bytes))
leb_or_short bytes small = leb_from (length bytes) 0 bytes (omega arith) small (λ j lt. absurd (omega arith))

uleb_decided : (bytes : List ℕ) → AreBytes bytes → Begins Uleb bytes ⊎ (IsShort bytes ⊎ IsWideUnsigned bytes)
uleb_decided bytes small = elim (leb_or_short bytes small) [
  | inl short ↦ inr (inl short)
  | inr (len, within, leb) ↦
      elim (cases_lt (weighed 0 (take len bytes)) (2 ^ 64)) [
        | inl fits ↦ inl (weighed 0 (take len bytes), take len bytes, drop len bytes, ((leb, refl), fits), sym (take-append-drop len bytes))
        | inr wide ↦ inr (inr (len, within, leb, wide))
      ]
]

fits_decided : (v : ℤ) → FitsSigned w64 v ⊎ (¬ FitsSigned w64 v)
fits_decided (pos n) = elim (cases_lt n (2 ^ 63)) [
  | inl less ↦ inl (record { sfits = less })
  | inr over ↦ inr (λ f. let less : n < 2 ^ 63 = f.sfits in absurd (omega arith))
]
fits_decided (negsuc n) = elim (cases_lt n (2 ^ 63)) [
  | inl less ↦ inl (record { sfits = less })
  | inr over ↦ inr (λ f. let less : n < 2 ^ 63 = f.sfits in absurd (omega arith))
]

sleb_decided : (bytes : List ℕ) → AreBytes bytes → Begins Sleb bytes ⊎ (IsShort bytes ⊎ IsWideSigned bytes)
sleb_decided bytes small = elim (leb_or_short bytes small) [
  | inl short ↦ inr (inl short)
  | inr (len, within, leb) ↦
      elim (fits_decided (signed_weighed (take len bytes))) [
        | inl fits ↦ inl (signed_weighed (take len bytes), take len bytes, drop len bytes, ((leb, refl), fits), sym (take-append-drop len bytes))
        | inr wide ↦ inr (inr (len, within, leb, wide))
      ]
]

-- OPERANDS

counted_decided : (bytes : List ℕ) → AreBytes bytes → Decided (SpellsPart shape.Counted) (FaultPartAt shape.Counted) bytes
counted_decided bytes small = elim (uleb_decided bytes small) [
  | inr (inl short) ↦ inr (kind.Short, 0, (inl short, refl))
  | inr (inr wide) ↦ inr (kind.LebWide, 0, (wide, refl))
  | inl (count, head, rest, counted, whole) ↦
      elim (cases_lt (length rest) count) [
        | inl less ↦ inr (kind.Short, 0, (inr (record { head = head; body = rest; count = count; counted = counted; whole = whole; short = less }), refl))
        | inr room ↦
            let body = take count rest in
            let long : count ≡ length body = sym (length-take-le count rest room) in inl (
              Data body,
              head ++ body,
              drop count rest,
              (body, record { head = head; count = subst (λ (z : ℕ). Uleb z head) long counted; whole = refl }, refl),
              whole ∙ ap (λ z. head ++ z) (sym (take-append-drop count rest)) ∙ sym (append_assoc head body (drop count rest)),
            )
      ]
]

byte_counted_decided : (bytes : List ℕ) → Decided (SpellsPart shape.ByteCounted) (FaultPartAt shape.ByteCounted) bytes
byte_counted_decided [] = inr (kind.Short, 0, (inl refl, refl))
byte_counted_decided (count ∷ rest) = elim (cases_lt (length rest) count) [
  | inl less ↦ inr (kind.Short, 0, (inr (count, rest, refl, less), refl))
  | inr room ↦
      let body = take count rest in
      let long : length body ≡ count = length-take-le count rest room in inl (
        Data body,
        length body ∷ body,
        drop count rest,
        (body, refl, refl),
        ap (λ z. z ∷ rest) (sym long) ∙ ap (λ z. length body ∷ z) (sym (take-append-drop count rest)),
      )
]

part_decided : (s : Shape) (bytes : List ℕ) → AreBytes bytes → Decided (SpellsPart s) (FaultPartAt s) bytes
part_decided (shape.Unsigned w) bytes small = elim (cases_lt (length bytes) (size_of w)) [
  | inl less ↦ inr (kind.Short, 0, (less, refl))
  | inr room ↦ inl (Unsigned (number (size_of w) (take (size_of w) bytes)), take (size_of w) bytes, drop (size_of w) bytes, (length-take-le (size_of w) bytes room, refl), sym (take-append-drop (size_of w) bytes))
]
part_decided (shape.Signed w) bytes small = elim (cases_lt (length bytes) (size_of w)) [
  | inl less ↦ inr (kind.Short, 0, (less, refl))
  | inr room ↦ inl (Signed (signed_of w (number (size_of w) (take (size_of w) bytes))), take (size_of w) bytes, drop (size_of w) bytes, (length-take-le (size_of w) bytes room, refl), sym (take-append-drop (size_of w) bytes))
]
part_decided shape.Uleb bytes small = elim (uleb_decided bytes small) [
  | inl (n, front, rest, s, whole) ↦ inl (Unsigned n, front, rest, (n, s, refl), whole)
  | inr (inl short) ↦ inr (kind.Short, 0, (short, refl))
  | inr (inr wide) ↦ inr (kind.LebWide, 0, (wide, refl))
]
part_decided shape.Sleb bytes small = elim (sleb_decided bytes small) [
  | inl (v, front, rest, s, whole) ↦ inl (Signed v, front, rest, (v, s, refl), whole)
  | inr (inl short) ↦ inr (kind.Short, 0, (short, refl))
  | inr (inr wide) ↦ inr (kind.LebWide, 0, (wide, refl))
]
part_decided shape.Counted bytes small = counted_decided bytes small
part_decided shape.ByteCounted bytes small = byte_counted_decided bytes

-- two things, one after the other
then_decided : {V W K : Type 0} (S : V → List ℕ → Type 0) (T : V → W → List ℕ → Type 0) (F : K → ℕ → List ℕ → Type 0) (G : V → K → ℕ → List ℕ → Type 0) → ((bytes : List ℕ) → AreBytes bytes → Decided S F bytes) → ((v : V) (bytes : List ℕ) → AreBytes bytes → Decided (T v) (G v) bytes) → (bytes : List ℕ) → AreBytes bytes → Decided (Then S T) (FaultThen S F G) bytes
then_decided {V} {W} {K} S T F G first second bytes small = elim (first bytes small) [
  | inr (k, at, f) ↦ inr (k, at, inl f)
  | inl (v, front, rest, s, whole) ↦
      elim (second v rest (bytes_after front rest (subst (λ (z : List ℕ). AreBytes z) whole small))) [
        | inr (k, at, g) ↦ inr (k, length front + at, inr (v, front, rest, at, s, g, whole, refl))
        | inl (w, body, behind, t, more) ↦ inl ((v, w), front ++ body, behind, (front, body, s, t, refl), whole ∙ ap (λ z. front ++ z) more ∙ sym (append_assoc front body behind))
      ]
]

operands_decided : (code : ℕ) (o : Operands) (bytes : List ℕ) → AreBytes bytes → Decided (SpellsOperands code o) (FaultOperands o) bytes
operands_decided code operands.Nothing bytes small = inl (bare code, [], bytes, (refl, refl), refl)
operands_decided code (operands.One s) bytes small = elim (part_decided s bytes small) [
  | inl (p, front, rest, t, whole) ↦ inl (holding code p, front, rest, (p, t, refl), whole)
  | inr f ↦ inr f
]
operands_decided code (operands.Two s t) bytes small = elim (then_decided (SpellsPart s) (λ _. SpellsPart t) (FaultPartAt s) (λ _. FaultPartAt t) (part_decided s) (λ _. part_decided t) bytes small) [
  | inl (p, front, rest, both, whole) ↦ inl (holding_two code p.0 p.1, front, rest, (p, both, refl), whole)
  | inr f ↦ inr f
]
operands_decided code (operands.Typed s) bytes small = elim (then_decided (SpellsPart s) (λ _. SpellsPart shape.Uleb) (FaultPartAt s) (λ _. FaultPartAt shape.Uleb) (part_decided s) (λ _. part_decided shape.Uleb) bytes small) [
  | inl (p, front, rest, both, whole) ↦ inl (holding_two code p.1 p.0, front, rest, (p, both, refl), whole)
  | inr f ↦ inr f
]

-- OPERATIONS

head_with : (code : ℕ) (tail : List ℕ) (known : Option Operands) → operands_of code ≡ known → AreBytes (code ∷ tail) → Decided SpellsHead FaultHead (code ∷ tail)
head_with code tail None e small = inr (kind.Op, 0, (code, tail, refl, inl (e, refl, refl)))
head_with code tail (Some o) e small = elim (operands_decided code o tail (bytes_after (code ∷ []) tail small)) [
  | inr (k, at, f) ↦ inr (k, 1 + at, (code, tail, refl, inr (o, e, at, f, refl)))
  | inl (head, front, rest, s, whole) ↦
      let all : code ∷ tail ≡ (code ∷ front) ++ rest = ap (λ z. code ∷ z) whole in inl (
        head,
        code ∷ front,
        rest,
        record {
          code = code;
          operands = o;
          tail = front;
          known = e;
          small = bytes_before (code ∷ front) rest (subst (λ (z : List ℕ). AreBytes z) all small);
          whole = refl;
          spelled = s;
        },
        all,
      )
]

pub head_decided : (code : ℕ) (tail : List ℕ) → AreBytes (code ∷ tail) → Decided SpellsHead FaultHead (code ∷ tail)
head_decided code tail small = head_with code tail (operands_of code) refl small
