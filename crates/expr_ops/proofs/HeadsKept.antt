-- What was read of an operation can be written again: its numbers fit its operands, and the fields that its opcode lacks are 0.
use Rattle.std.proofs.Common.{◌≡◌, ◌≢◌, ◌<◌, ◌≤◌, ◌+◌, ◌-◌, ◌%◌, ◌^◌, ℕ, zero, suc, List, [], ◌∷◌, ◌++◌, length, get_or, ◌∙◌, sym, ap, refl, subst, arith, inl, inr, Bool, true, false, Option, Some, None}
use Rattle.std.proofs.Math.Nat.{div-one, mod-eq_of_lt}
use Rattle.std.proofs.lemmas.List.{append-nil, get_or_append_left, length-append}
use Rattle.std.proofs.lemmas.Bool.{cases_lt, ne_eqb, le-ltb}
use Rattle.std.proofs.lemmas.Int.{ints, to_z_pos, of_z-to_z}
use Rattle.std.specs.Prelude.{ℤ, pos, negsuc, ◌+ℤ◌, nat_eq, if◌then◌else◌, ◌⊎◌}
use Rattle.std.specs.Int.{w8, w16, w32, w64, cast_signed, cast_unsigned}
use Rattle.byteorder.specs.Endian.{little_number}
use Rattle.byteorder.specs.Numbers.{little_from-bytes}
use Rattle.fixed_width.specs.Numbers.{number}
use Rattle.fixed_width.proofs.Numbers.{number_small}
use Rattle.spelled.specs.Spelled.{AreBytes}
use Rattle.spelled.proofs.Parts.{bytes_after}
use Rattle.expr_ops.specs.declared.table.Width.{Width}
use Rattle.expr_ops.specs.declared.table.Width.TheVariants.{One, Two, Four, Eight}
use Rattle.expr_ops.specs.declared.table.Shape.{Shape}
use Rattle.expr_ops.specs.declared.table.Shape.TheVariants as shape
use Rattle.expr_ops.specs.declared.table.Operands.{Operands}
use Rattle.expr_ops.specs.declared.table.Operands.TheVariants as operands
use Rattle.expr_ops.specs.Table.{operands_of}
use Rattle.expr_ops.specs.Heads.{size_of, signed_of, Part, Head, SpellsPart, SpellsOperands, SpellsHead, bare, holding, holding_two}
use Rattle.expr_ops.specs.Heads.Part.{Unsigned, Signed, Data}
use Rattle.expr_ops.specs.Expressions.{Operation}
use Rattle.expr_ops.specs.Puts.{low_bytes, call_size, PutsOperands, PutsOwn}
use Rattle.expr_ops.specs.Fits.{FitsPart, FitsOperands, part_of, head_of}
use Rattle.expr_ops.specs.Drafts.{is_typed, has_reference, with_a}
use Rattle.expr_ops.specs.Writing.{reference_limit}
use Rattle.expr_ops.proofs.HeadLaws.{some_same}
use Rattle.expr_ops.proofs.BlockLaws.{code_of_head}
use Rattle.expr_ops.proofs.PutSpells.{head_spelled}

-- THE TABLE

abbrev is_number : Shape → Bool
is_number (shape.Unsigned w) = true
is_number shape.Uleb = true
is_number _ = false

abbrev is_behind : Shape → Bool
is_behind shape.Uleb = true
is_behind shape.Sleb = true
is_behind shape.ByteCounted = true
is_behind _ = false

-- the first of two operands is a number without a sign
abbrev is_well : Operands → Bool
is_well operands.Nothing = true
is_well (operands.One s) = true
is_well (operands.Two s t) = if is_number s then is_behind t else false
is_well (operands.Typed s) = is_number s

abbrev is_uleb : Shape → Bool
is_uleb shape.Uleb = true
is_uleb _ = false

abbrev is_four_wide : Width → Bool
is_four_wide Four = true
is_four_wide _ = false

abbrev is_four : Shape → Bool
is_four (shape.Unsigned w) = is_four_wide w
is_four _ = false

-- `a` stands as a ULEB
abbrev has_uleb : Operands → Bool
has_uleb operands.Nothing = false
has_uleb (operands.One s) = is_uleb s
has_uleb (operands.Two s t) = is_uleb s
has_uleb (operands.Typed s) = true

-- `a` stands in four bytes
abbrev has_four : Operands → Bool
has_four operands.Nothing = false
has_four (operands.One s) = is_four s
has_four (operands.Two s t) = is_four s
has_four (operands.Typed s) = false

abbrev is_row : ℕ → Option Operands → Bool
is_row code None = true
is_row code (Some o) = if is_well o then (if is_typed code then has_uleb o else (if has_reference code then has_four o else true)) else false

are_rows : ℕ → Bool
are_rows zero = true
are_rows (suc n) = if is_row n (operands_of n) then are_rows n else false

all_rows : are_rows 256 ≡ true
unfolding are_rows
all_rows = refl

both_true : (a b : Bool) → (if a then b else false) ≡ true → (a ≡ true) × (b ≡ true)
both_true true b e = (refl, e)
both_true false b e = let no : false ≡ true = e in absurd (cc)

row_at : (n code : ℕ) → code < n → are_rows n ≡ true → is_row code (operands_of code) ≡ true
unfolding are_rows
row_at zero code lt e = absurd (omega arith)
row_at (suc n) code lt e =
    let (here, below) = both_true (is_row n (operands_of n)) (are_rows n) e in
    elim (cases_lt code n) [
      | inl less ↦ row_at n code less below
      | inr other ↦
          let same : n ≡ code = omega arith in
          subst (λ (z : ℕ). is_row z (operands_of z) ≡ true) same here
    ]

row_parts : (w t u r f : Bool) → (if w then (if t then u else (if r then f else true)) else false) ≡ true → (w ≡ true) × (t ≡ true → u ≡ true) × (t ≡ false → r ≡ true → f ≡ true)
row_parts false t u r f e = let no : false ≡ true = e in absurd (cc)
row_parts true true u r f e = (refl, λ _. e, λ x. let no : true ≡ false = x in absurd (cc))
row_parts true false u true f e = (refl, λ x. let no : false ≡ true = x in absurd (cc), λ _ _. e)
row_parts true false u false f e = (refl, λ x. let no : false ≡ true = x in absurd (cc), λ _ y. let no : false ≡ true = y in absurd (cc))

table_row : (code : ℕ) (kinds : Operands) → code < 256 → operands_of code ≡ Some kinds → (is_well kinds ≡ true) × (is_typed code ≡ true → has_uleb kinds ≡ true) × (is_typed code ≡ false → has_reference code ≡ true → has_four kinds ≡ true)
table_row code kinds below known =
    let row : is_row code (Some kinds) ≡ true = subst (λ (z : Option Operands). is_row code z ≡ true) known (row_at 256 code below all_rows) in
    row_parts (is_well kinds) (is_typed code) (has_uleb kinds) (has_reference code) (has_four kinds) row

-- NUMBERS WITH A SIGN

low_mod : (size n : ℕ) → number size (low_bytes size n) ≡ n % 256 ^ size
unfolding number
low_mod size n =
    ap (little_number size) (sym (append-nil (low_bytes size n))) ∙ little_from-bytes size 0 n [] ∙ ap (λ (y : ℕ). y % 256 ^ size) (div-one n)

-- the low bits of 64 are those of fewer, whatever the sign is
back_one : (m : ℕ) → m < 256 → cast_unsigned w64 (cast_signed w8 m) % 256 ≡ m
back_one m h = elim (cases_lt m 128) [
  | inl low ↦
      let e : cast_signed w8 m ≡ pos m = to_z_pos w8 m low in
      let f : m % 256 ≡ m = omega arith in
      ap (λ z. cast_unsigned w64 z % 256) e ∙ f
  | inr high ↦
      let e : cast_signed w8 m ≡ negsuc (256 - suc m) = rw (le-ltb m 128 high) refl in
      let f : (18446744073709551616 - suc (256 - suc m)) % 256 ≡ m = omega arith in
      ap (λ z. cast_unsigned w64 z % 256) e ∙ f
]

back_two : (m : ℕ) → m < 65536 → cast_unsigned w64 (cast_signed w16 m) % 65536 ≡ m
back_two m h = elim (cases_lt m 32768) [
  | inl low ↦
      let e : cast_signed w16 m ≡ pos m = to_z_pos w16 m low in
      let f : m % 65536 ≡ m = omega arith in
      ap (λ z. cast_unsigned w64 z % 65536) e ∙ f
  | inr high ↦
      let e : cast_signed w16 m ≡ negsuc (65536 - suc m) = rw (le-ltb m 32768 high) refl in
      let f : (18446744073709551616 - suc (65536 - suc m)) % 65536 ≡ m = omega arith in
      ap (λ z. cast_unsigned w64 z % 65536) e ∙ f
]

back_four : (m : ℕ) → m < 4294967296 → cast_unsigned w64 (cast_signed w32 m) % 4294967296 ≡ m
back_four m h = elim (cases_lt m 2147483648) [
  | inl low ↦
      let e : cast_signed w32 m ≡ pos m = to_z_pos w32 m low in
      let f : m % 4294967296 ≡ m = omega arith in
      ap (λ z. cast_unsigned w64 z % 4294967296) e ∙ f
  | inr high ↦
      let e : cast_signed w32 m ≡ negsuc (4294967296 - suc m) = rw (le-ltb m 2147483648 high) refl in
      let f : (18446744073709551616 - suc (4294967296 - suc m)) % 4294967296 ≡ m = omega arith in
      ap (λ z. cast_unsigned w64 z % 4294967296) e ∙ f
]

signed_back : (w : Width) (m : ℕ) → m < 256 ^ size_of w → signed_of w (number (size_of w) (low_bytes (size_of w) (cast_unsigned w64 (signed_of w m)))) ≡ signed_of w m
signed_back One m h = ap (signed_of One) (low_mod 1 (cast_unsigned w64 (cast_signed w8 m)) ∙ back_one m h)
signed_back Two m h = ap (signed_of Two) (low_mod 2 (cast_unsigned w64 (cast_signed w16 m)) ∙ back_two m h)
signed_back Four m h = ap (signed_of Four) (low_mod 4 (cast_unsigned w64 (cast_signed w32 m)) ∙ back_four m h)
signed_back Eight m h = ap (signed_of Eight) (low_mod 8 (cast_unsigned w64 (cast_signed w64 m)) ∙ ap (λ (y : ℕ). y % 256 ^ 8) (of_z-to_z w64 m h) ∙ mod-eq_of_lt h)

-- a short distance has its two low bytes
distance_by : (v : ℤ) (x y : ℕ) → x ≤ y + 32767 → y ≤ x + 32768 → pos x ≡ pos y +ℤ v → cast_signed w16 (cast_unsigned w64 v % 65536) ≡ v
distance_by (pos n) x y p q e =
    let small : n < 32768 = omega (arith, ints) in
    let f : n % 65536 ≡ n = omega arith in
    ap (cast_signed w16) f ∙ to_z_pos w16 n small
distance_by (negsuc n) x y p q e =
    let small : n < 32768 = omega (arith, ints) in
    let f : (18446744073709551616 - suc n) % 65536 ≡ 65536 - suc n = omega arith in
    let high : 32768 ≤ 65536 - suc n = omega arith in
    let g : cast_signed w16 (65536 - suc n) ≡ negsuc (65536 - suc (65536 - suc n)) = rw (le-ltb (65536 - suc n) 32768 high) refl in
    let back : 65536 - suc (65536 - suc n) ≡ n = omega arith in
    ap (cast_signed w16) f ∙ g ∙ ap negsuc back

pub distance_back : (v : ℤ) (x y : ℕ) → x ≤ y + 32767 → y ≤ x + 32768 → pos x ≡ pos y +ℤ v → FitsPart (shape.Signed Two) 0 v []
distance_back v x y p q e = ap (cast_signed w16) (low_mod 2 (cast_unsigned w64 v)) ∙ distance_by v x y p q e

-- WHAT WAS READ FITS

bytes_front : (a b : List ℕ) → AreBytes (a ++ b) → AreBytes a
bytes_front a b small k inside =
    let e : get_or (a ++ b) k 0 ≡ get_or a k 0 = get_or_append_left a b 0 k inside in
    let all : length (a ++ b) ≡ length a + length b = length-append a b in
    let s = small k (omega arith) in
    omega (arith, s, e)

-- all fields of an opcode with its operands
abbrev pub full : Head → ℕ → ℕ → Operation
full head jump inner = record { code = head.code; a = head.a; s = head.s; block = head.block; jump = jump; inner = inner }

abbrev Kept : ℕ → Operands → Head → Type 0
Kept code kinds head = (jump inner : ℕ) → FitsOperands kinds (full head jump inner) × (head_of code kinds (full head jump inner) ≡ head)

kept_as : (code : ℕ) (kinds : Operands) (head other : Head) → head ≡ other → Kept code kinds other → Kept code kinds head
kept_as code kinds head other e k = subst (λ (z : Head). Kept code kinds z) (sym e) k

one_kept : (code : ℕ) (s : Shape) (head : Head) (bytes : List ℕ) → AreBytes bytes → SpellsOperands code (operands.One s) head bytes → Kept code (operands.One s) head
one_kept code (shape.Unsigned w) head bytes small (p, s, f) =
    let n = number (size_of w) bytes in
    kept_as code (operands.One (shape.Unsigned w)) head (holding code (Unsigned n)) (f ∙ ap (holding code) s.1) (λ jump inner. (number_small (size_of w) bytes small, refl))
one_kept code (shape.Signed w) head bytes small (p, s, f) =
    let n = number (size_of w) bytes in
    kept_as code (operands.One (shape.Signed w)) head (holding code (Signed (signed_of w n))) (f ∙ ap (holding code) s.1) (λ jump inner. (signed_back w n (number_small (size_of w) bytes small), refl))
one_kept code shape.Uleb head bytes small (p, (n, u, e), f) =
    kept_as code (operands.One shape.Uleb) head (holding code (Unsigned n)) (f ∙ ap (holding code) e) (λ jump inner. (u.1, refl))
one_kept code shape.Sleb head bytes small (p, (v, u, e), f) =
    kept_as code (operands.One shape.Sleb) head (holding code (Signed v)) (f ∙ ap (holding code) e) (λ jump inner. (u.1, refl))
one_kept code shape.Counted head bytes small (p, (body, c, e), f) =
    let whole : AreBytes (c.head ++ body) = subst (λ (z : List ℕ). AreBytes z) c.whole small in
    kept_as code (operands.One shape.Counted) head (holding code (Data body)) (f ∙ ap (holding code) e) (λ jump inner. ((c.count.1, bytes_after c.head body whole), refl))
one_kept code shape.ByteCounted head bytes small (p, (body, g, e), f) =
    let whole : AreBytes (length body ∷ body) = subst (λ (z : List ℕ). AreBytes z) g small in
    let long : length body < 256 = whole 0 (omega arith) in
    kept_as code (operands.One shape.ByteCounted) head (holding code (Data body)) (f ∙ ap (holding code) e) (λ jump inner. ((long, bytes_after (length body ∷ []) body whole), refl))

wide : (w : Width) (n : ℕ) → n < 256 ^ size_of w → n < 2 ^ 64
wide One n h = omega (arith, h)
wide Two n h = omega (arith, h)
wide Four n h = omega (arith, h)
wide Eight n h = omega (arith, h)

-- a number without a sign
record IsKeptNumber (s : Shape) (p : Part) : Type 0 where
  n : ℕ
  is : p ≡ Unsigned n
  below : n < 2 ^ 64
  fits : (v : ℤ) (block : List ℕ) → FitsPart s n v block
  part : (v : ℤ) (block : List ℕ) → part_of s n v block ≡ Unsigned n

number_kept : (s : Shape) (p : Part) (bytes : List ℕ) → is_number s ≡ true → AreBytes bytes → SpellsPart s p bytes → IsKeptNumber s p
number_kept (shape.Unsigned w) p bytes e small s =
    let fits = number_small (size_of w) bytes small in
    record { n = number (size_of w) bytes; is = s.1; below = wide w (number (size_of w) bytes) fits; fits = λ v block. fits; part = λ v block. refl }
number_kept shape.Uleb p bytes e small (n, u, f) =
    record { n = n; is = f; below = u.1; fits = λ v block. u.1; part = λ v block. refl }
number_kept (shape.Signed w) p bytes e small s = let no : false ≡ true = e in absurd (cc)
number_kept shape.Sleb p bytes e small s = let no : false ≡ true = e in absurd (cc)
number_kept shape.Counted p bytes e small s = let no : false ≡ true = e in absurd (cc)
number_kept shape.ByteCounted p bytes e small s = let no : false ≡ true = e in absurd (cc)

two_kept : (code : ℕ) (s t : Shape) (head : Head) (bytes : List ℕ) → is_number s ≡ true → is_behind t ≡ true → AreBytes bytes → SpellsOperands code (operands.Two s t) head bytes → Kept code (operands.Two s t) head
two_kept code s shape.Uleb head bytes first second small (p, (a, b, q, (m, u, g), e), f) =
    let whole : AreBytes (a ++ b) = subst (λ (z : List ℕ). AreBytes z) e small in
    let k = number_kept s p.0 a first (bytes_front a b whole) q in
    let v = cast_signed w64 m in
    let back : cast_unsigned w64 v ≡ m = of_z-to_z w64 m u.1 in
    kept_as code (operands.Two s shape.Uleb) head (holding_two code (Unsigned k.n) (Unsigned m)) (f ∙ ap (λ z. holding_two code z p.1) k.is ∙ ap (λ z. holding_two code (Unsigned k.n) z) g) (λ jump inner. (
      (k.fits v [], subst (λ (z : ℕ). z < 2 ^ 64) (sym back) u.1),
      ap (λ z. holding_two code z (Unsigned (cast_unsigned w64 v))) (k.part v []) ∙ ap (λ (z : ℕ). holding_two code (Unsigned k.n) (Unsigned z)) back,
    ))
two_kept code s shape.Sleb head bytes first second small (p, (a, b, q, (v, u, g), e), f) =
    let whole : AreBytes (a ++ b) = subst (λ (z : List ℕ). AreBytes z) e small in
    let k = number_kept s p.0 a first (bytes_front a b whole) q in
    kept_as code (operands.Two s shape.Sleb) head (holding_two code (Unsigned k.n) (Signed v)) (f ∙ ap (λ z. holding_two code z p.1) k.is ∙ ap (λ z. holding_two code (Unsigned k.n) z) g) (λ jump inner. (
      (k.fits v [], u.1),
      ap (λ z. holding_two code z (Signed v)) (k.part v []),
    ))
two_kept code s shape.ByteCounted head bytes first second small (p, (a, b, q, (body, h, g), e), f) =
    let whole : AreBytes (a ++ b) = subst (λ (z : List ℕ). AreBytes z) e small in
    let k = number_kept s p.0 a first (bytes_front a b whole) q in
    let counted : AreBytes (length body ∷ body) = subst (λ (z : List ℕ). AreBytes z) h (bytes_after a b whole) in
    let long : length body < 256 = counted 0 (omega arith) in
    kept_as code (operands.Two s shape.ByteCounted) head (holding_two code (Unsigned k.n) (Data body)) (f ∙ ap (λ z. holding_two code z p.1) k.is ∙ ap (λ z. holding_two code (Unsigned k.n) z) g) (λ jump inner. (
      (k.fits (pos 0) body, (long, bytes_after (length body ∷ []) body counted)),
      ap (λ z. holding_two code z (Data body)) (k.part (pos 0) body),
    ))
two_kept code s (shape.Unsigned w) head bytes first second small h = let no : false ≡ true = second in absurd (cc)
two_kept code s (shape.Signed w) head bytes first second small h = let no : false ≡ true = second in absurd (cc)
two_kept code s shape.Counted head bytes first second small h = let no : false ≡ true = second in absurd (cc)

typed_kept : (code : ℕ) (s : Shape) (head : Head) (bytes : List ℕ) → is_number s ≡ true → AreBytes bytes → SpellsOperands code (operands.Typed s) head bytes → Kept code (operands.Typed s) head
typed_kept code s head bytes first small (p, (a, b, q, (m, u, g), e), f) =
    let whole : AreBytes (a ++ b) = subst (λ (z : List ℕ). AreBytes z) e small in
    let k = number_kept s p.0 a first (bytes_front a b whole) q in
    let v = cast_signed w64 k.n in
    let back : cast_unsigned w64 v ≡ k.n = of_z-to_z w64 k.n k.below in
    kept_as code (operands.Typed s) head (holding_two code (Unsigned m) (Unsigned k.n)) (f ∙ ap (λ z. holding_two code z p.0) g ∙ ap (λ z. holding_two code (Unsigned m) z) k.is) (λ jump inner. (
      (subst (λ (z : ℕ). FitsPart s z v []) (sym back) (k.fits v []), u.1),
      ap (λ (z : ℕ). holding_two code (Unsigned m) (part_of s z v [])) back ∙ ap (λ z. holding_two code (Unsigned m) z) (k.part v []),
    ))

kept : (code : ℕ) (kinds : Operands) (head : Head) (bytes : List ℕ) → is_well kinds ≡ true → AreBytes bytes → SpellsOperands code kinds head bytes → Kept code kinds head
kept code operands.Nothing head bytes w small s = kept_as code operands.Nothing head (bare code) s.1 (λ jump inner. (tt, refl))
kept code (operands.One s) head bytes w small h = one_kept code s head bytes small h
kept code (operands.Two s t) head bytes w small h =
    let (first, second) = both_true (is_number s) (is_behind t) w in
    two_kept code s t head bytes first second small h
kept code (operands.Typed s) head bytes w small h = typed_kept code s head bytes w small h

-- ANOTHER REFERENCE

abbrev pub head_a : ℕ → Head → Head
head_a n head = record { code = head.code; a = n; s = head.s; block = head.block }

two_a : (code x y : ℕ) (q : Part) → holding_two code (Unsigned x) q ≡ head_a x (holding_two code (Unsigned y) q)
two_a code x y (Unsigned m) = refl
two_a code x y (Signed v) = refl
two_a code x y (Data body) = refl

abbrev Refits : ℕ → Operands → ℕ → Operation → Type 0
Refits code kinds x o = FitsOperands kinds (with_a x o) × (head_of code kinds (with_a x o) ≡ head_a x (head_of code kinds o))

one_uleb : (code : ℕ) (s : Shape) (x : ℕ) (o : Operation) → is_uleb s ≡ true → x < 2 ^ 64 → Refits code (operands.One s) x o
one_uleb code shape.Uleb x o e h = (h, refl)
one_uleb code (shape.Unsigned w) x o e h = let no : false ≡ true = e in absurd (cc)
one_uleb code (shape.Signed w) x o e h = let no : false ≡ true = e in absurd (cc)
one_uleb code shape.Sleb x o e h = let no : false ≡ true = e in absurd (cc)
one_uleb code shape.Counted x o e h = let no : false ≡ true = e in absurd (cc)
one_uleb code shape.ByteCounted x o e h = let no : false ≡ true = e in absurd (cc)

two_uleb : (code : ℕ) (s t : Shape) (x : ℕ) (o : Operation) → is_uleb s ≡ true → x < 2 ^ 64 → FitsOperands (operands.Two s t) o → Refits code (operands.Two s t) x o
two_uleb code shape.Uleb t x o e h f = ((h, f.1), two_a code x o.a (part_of t (cast_unsigned w64 o.s) o.s o.block))
two_uleb code (shape.Unsigned w) t x o e h f = let no : false ≡ true = e in absurd (cc)
two_uleb code (shape.Signed w) t x o e h f = let no : false ≡ true = e in absurd (cc)
two_uleb code shape.Sleb t x o e h f = let no : false ≡ true = e in absurd (cc)
two_uleb code shape.Counted t x o e h f = let no : false ≡ true = e in absurd (cc)
two_uleb code shape.ByteCounted t x o e h f = let no : false ≡ true = e in absurd (cc)

uleb_refits : (code : ℕ) (kinds : Operands) (x : ℕ) (o : Operation) → has_uleb kinds ≡ true → x < 2 ^ 64 → FitsOperands kinds o → Refits code kinds x o
uleb_refits code operands.Nothing x o e h f = let no : false ≡ true = e in absurd (cc)
uleb_refits code (operands.One s) x o e h f = one_uleb code s x o e h
uleb_refits code (operands.Two s t) x o e h f = two_uleb code s t x o e h f
uleb_refits code (operands.Typed s) x o e h f = ((f.0, h), two_a code x o.a (part_of s (cast_unsigned w64 o.s) o.s o.block))

four_fits : (w : Width) (x : ℕ) → is_four_wide w ≡ true → x < 2 ^ 32 → x < 256 ^ size_of w
four_fits Four x e h = h
four_fits One x e h = let no : false ≡ true = e in absurd (cc)
four_fits Two x e h = let no : false ≡ true = e in absurd (cc)
four_fits Eight x e h = let no : false ≡ true = e in absurd (cc)

one_four : (code : ℕ) (s : Shape) (x : ℕ) (o : Operation) → is_four s ≡ true → x < 2 ^ 32 → Refits code (operands.One s) x o
one_four code (shape.Unsigned w) x o e h = (four_fits w x e h, refl)
one_four code shape.Uleb x o e h = let no : false ≡ true = e in absurd (cc)
one_four code (shape.Signed w) x o e h = let no : false ≡ true = e in absurd (cc)
one_four code shape.Sleb x o e h = let no : false ≡ true = e in absurd (cc)
one_four code shape.Counted x o e h = let no : false ≡ true = e in absurd (cc)
one_four code shape.ByteCounted x o e h = let no : false ≡ true = e in absurd (cc)

two_four : (code : ℕ) (s t : Shape) (x : ℕ) (o : Operation) → is_four s ≡ true → x < 2 ^ 32 → FitsOperands (operands.Two s t) o → Refits code (operands.Two s t) x o
two_four code (shape.Unsigned w) t x o e h f = ((four_fits w x e h, f.1), two_a code x o.a (part_of t (cast_unsigned w64 o.s) o.s o.block))
two_four code shape.Uleb t x o e h f = let no : false ≡ true = e in absurd (cc)
two_four code (shape.Signed w) t x o e h f = let no : false ≡ true = e in absurd (cc)
two_four code shape.Sleb t x o e h f = let no : false ≡ true = e in absurd (cc)
two_four code shape.Counted t x o e h f = let no : false ≡ true = e in absurd (cc)
two_four code shape.ByteCounted t x o e h f = let no : false ≡ true = e in absurd (cc)

four_refits : (code : ℕ) (kinds : Operands) (x : ℕ) (o : Operation) → has_four kinds ≡ true → x < 2 ^ 32 → FitsOperands kinds o → Refits code kinds x o
four_refits code operands.Nothing x o e h f = let no : false ≡ true = e in absurd (cc)
four_refits code (operands.One s) x o e h f = one_four code s x o e h
four_refits code (operands.Two s t) x o e h f = two_four code s t x o e h f
four_refits code (operands.Typed s) x o e h f = let no : false ≡ true = e in absurd (cc)

-- the number that a reference has, new or old
abbrev pub Refers : ℕ → ℕ → Option ℕ → ℕ → Type 0
Refers code old slot x = (has_reference code ≡ false → x ≡ old) × (has_reference code ≡ true → x < reference_limit code slot)

limit_typed : (b c : Bool) (x n : ℕ) → b ≡ true → x < (if b then 2 ^ 64 else (if c then n else 2 ^ 32)) → x < 2 ^ 64
limit_typed true c x n e h = h
limit_typed false c x n e h = let no : false ≡ true = e in absurd (cc)

limit_four : (b c : Bool) (x n : ℕ) → b ≡ false → c ≡ false → x < (if b then 2 ^ 64 else (if c then n else 2 ^ 32)) → x < 2 ^ 32
limit_four true c x n e f h = let no : true ≡ false = e in absurd (cc)
limit_four false true x n e f h = let no : true ≡ false = f in absurd (cc)
limit_four false false x n e f h = h

typed_has : (b c : Bool) → b ≡ true → (if b then true else c) ≡ true
typed_has true c e = refl
typed_has false c e = let no : false ≡ true = e in absurd (cc)

either : (b : Bool) → (b ≡ true) ⊎ (b ≡ false)
either true = inl refl
either false = inr refl

refits : (code : ℕ) (kinds : Operands) (slot : Option ℕ) (x : ℕ) (o : Operation) → code < 256 → operands_of code ≡ Some kinds → code ≢ 153 → Refers code o.a slot x → FitsOperands kinds o → Refits code kinds x o ⊎ (x ≡ o.a)
refits code kinds slot x o below known other r f =
    let row = table_row code kinds below known in
    elim (either (is_typed code)) [
      | inl typed ↦
          let has : has_reference code ≡ true = typed_has (is_typed code) _ typed in
          inl (uleb_refits code kinds x o (row.1 typed) (limit_typed (is_typed code) (nat_eq code 153) x (256 ^ call_size slot) typed (r.1 has)) f)
      | inr plain ↦
          elim (either (has_reference code)) [
            | inl has ↦ inl (four_refits code kinds x o (row.2 plain has) (limit_four (is_typed code) (nat_eq code 153) x (256 ^ call_size slot) plain (ne_eqb code 153 other) (r.1 has)) f)
            | inr none ↦ inr (r.0 none)
          ]
    ]

-- what was read of an opcode
pub record IsReadAs (head : Head) (kinds : Operands) (tail : List ℕ) : Type 0 where
  pub known : operands_of head.code ≡ Some kinds
  pub below : head.code < 256
  pub small : AreBytes tail
  pub spelled : SpellsOperands head.code kinds head tail

pub read_as : (head : Head) (old : List ℕ) (s : SpellsHead head old) → IsReadAs head s.operands s.tail
read_as head old s =
    let same : head.code ≡ s.code = code_of_head s.code s.operands head s.tail s.spelled in
    let whole : AreBytes (s.code ∷ s.tail) = subst (λ (z : List ℕ). AreBytes z) s.whole s.small in
    let below : s.code < 256 = whole 0 (omega arith) in
    record {
      known = ap operands_of same ∙ s.known;
      below = omega (arith, below, same);
      small = bytes_after (s.code ∷ []) s.tail whole;
      spelled = subst (λ (c : ℕ). SpellsOperands c s.operands head s.tail) (sym same) s.spelled;
    }

pub puts_spelled : (kinds : Operands) (slot : Option ℕ) (o : Operation) (own : List ℕ) → o.code ≢ 153 → o.code ≢ 163 → o.code < 256 → operands_of o.code ≡ Some kinds → FitsOperands kinds o → PutsOwn slot o own → SpellsHead (head_of o.code kinds o) own
puts_spelled kinds slot o own no_call no_entry below known fits (inl (call, p)) = absurd (no_call call)
puts_spelled kinds slot o own no_call no_entry below known fits (inr (inl (entry, p))) = absurd (no_entry entry)
puts_spelled kinds slot o own no_call no_entry below known fits (inr (inr (a, b, (found, tail, is, puts, e)))) =
    let same : found ≡ kinds = some_same found kinds (sym is ∙ known) in
    let p : PutsOperands kinds slot o tail = subst (λ (z : Operands). PutsOperands z slot o tail) same puts in
    subst (λ (z : List ℕ). SpellsHead (head_of o.code kinds o) z) (sym e) (head_spelled kinds slot o tail below known fits p)

-- an opcode other than a call, an entry_value and a branch
pub other_spelled : (head : Head) (old : List ℕ) (jump : ℕ) (slot : Option ℕ) (x : ℕ) (own : List ℕ) → SpellsHead head old → head.code ≢ 153 → head.code ≢ 163 → Refers head.code head.a slot x → PutsOwn slot (with_a x (full head jump 0)) own → SpellsHead (head_a x head) own
other_spelled head old jump slot x own s no_call no_entry r puts =
    let i = read_as head old s in
    let o = full head jump 0 in
    let well = (table_row head.code s.operands i.below i.known).0 in
    let k = kept head.code s.operands head s.tail well i.small i.spelled jump 0 in
    let fits : Refits head.code s.operands x o = elim (refits head.code s.operands slot x o i.below i.known no_call r k.0) [
      | inl found ↦ found
      | inr same ↦ subst (λ (z : ℕ). Refits head.code s.operands z o) (sym same) (k.0, k.1 ∙ sym (ap (head_a head.a) k.1))
    ] in
    let is : head_of head.code s.operands (with_a x o) ≡ head_a x head = fits.1 ∙ ap (head_a x) k.1 in
    subst (λ (z : Head). SpellsHead z own) is (puts_spelled s.operands slot (with_a x o) own no_call no_entry i.below i.known fits.0 puts)
