-- An operation is written with few more bytes than it was read from.
use Rattle.std.proofs.Common.{◌≡◌, ◌≢◌, ◌≤◌, ◌<◌, ◌+◌, ◌*◌, ◌^◌, ℕ, suc, List, [], ◌∷◌, ◌++◌, length, ◌∙◌, sym, ap, refl, subst, arith, inl, inr, Bool, true, false, Option, Some, None}
use Rattle.std.proofs.lemmas.List.{length-append}
use Rattle.std.proofs.lemmas.Bool.{ne_eqb}
use Rattle.std.proofs.lemmas.Bool.Decides.{eqb_tells}
use Rattle.std.proofs.lemmas.Int.{of_z-to_z}
use Rattle.std.proofs.Math.Nat.{pow-succ'}
use Rattle.std.specs.Prelude.{ℤ, nat_eq, nat_le, if◌then◌else◌}
use Rattle.std.specs.Int.{w64, cast_unsigned}
use Rattle.leb_codec.specs.Leb.{Uleb, least_unsigned_len}
use Rattle.leb_codec.proofs.Lens.{least_unsigned, least_below, unsigned_lens}
use Rattle.leb_codec.proofs.SpellingLaws.{unsigned_spellings, signed_spellings}
use Rattle.fixed_width.specs.Numbers.{number}
use Rattle.expr_ops.specs.declared.table.Width.{Width}
use Rattle.expr_ops.specs.declared.table.Width.TheVariants as width
use Rattle.expr_ops.specs.declared.table.Shape.{Shape}
use Rattle.expr_ops.specs.declared.table.Shape.TheVariants as shape
use Rattle.expr_ops.specs.declared.table.Operands.{Operands}
use Rattle.expr_ops.specs.declared.table.Operands.TheVariants as operands
use Rattle.expr_ops.specs.Table.{Row, look_up, low_rows, middle_rows, high_rows, operands_of}
use Rattle.expr_ops.specs.Heads.{size_of, Part, Head, SpellsPart, SpellsOperands, SpellsHead, holding, holding_two}
use Rattle.expr_ops.specs.Heads.Part.{Unsigned, Signed, Data}
use Rattle.expr_ops.specs.Expressions.{Operation, IsBranch, plain_code, kept_sign, kept_block, operation_of}
use Rattle.expr_ops.specs.Sizes.{number_size, part_size, operands_size, known_size, own_size}
use Rattle.expr_ops.specs.Drafts.{is_slot}
use Rattle.expr_ops.specs.inside.Leads.{is_number, is_led}
use Rattle.expr_ops.proofs.PlainBytes.{plain_size, plain_slot}
use Rattle.expr_ops.proofs.HeadLaws.{some_same}
use Rattle.expr_ops.proofs.BlockLaws.{code_of_head}
use Rattle.expr_ops.proofs.PlaceLaws.{known_aimed}

-- a number takes at most four bytes more than those that it was read from
abbrev pub IsRoomy : Option ℕ → Type 0
IsRoomy slot = (n : ℕ) (bytes : List ℕ) → Uleb n bytes → number_size slot n ≤ length bytes + 4

roomy_none : IsRoomy None
roomy_none n bytes u = let h = unsigned_spellings.no_shorter bytes n u.0 in omega (arith, h)

roomy_five : IsRoomy (Some 5)
roomy_five n bytes u = let h : 0 < length bytes = u.0.0.filled in omega (arith, h)

roomy_if : (b : Bool) (size : ℕ) → size ≡ 5 → IsRoomy (if b then Some size else None)
roomy_if true size e = subst (λ (n : ℕ). IsRoomy (Some n)) (sym e) roomy_five
roomy_if false size e = roomy_none

width_some : (w : Width) → 1 ≤ size_of w
width_some width.One = omega arith
width_some width.Two = omega arith
width_some width.Four = omega arith
width_some width.Eight = omega arith

-- so many bytes, where as many as `len` were read
pub record IsWithin (size len more : ℕ) : Type 0 where
  pub few : size ≤ len + more
  pub some : 1 ≤ len

abbrev held_size : Shape → Option ℕ → Head → ℕ
held_size s slot h = part_size s slot h.a h.s h.block

counted_long : (head body bytes : List ℕ) → Uleb (length body) head → bytes ≡ head ++ body → IsWithin (least_unsigned_len (length body) + length body) (length bytes) 0
counted_long head body bytes u e =
    let n : length bytes ≡ length head + length body = ap length e ∙ length-append head body in
    let h = unsigned_spellings.no_shorter head (length body) u.0 in
    let f : 0 < length head = u.0.0.filled in
    record { few = omega (arith, n, h); some = omega (arith, n, f) }

wider : (size len m n : ℕ) → m ≤ n → IsWithin size len m → IsWithin size len n
wider size len m n le w = let h = w.few in record { few = omega (arith, h, le); some = w.some }

-- THE FIRST OPERAND

module _ (slot : Option ℕ) (roomy : IsRoomy slot) where
  one_long : (code : ℕ) (s : Shape) (p : Part) (bytes : List ℕ) → SpellsPart s p bytes → IsWithin (held_size s slot (holding code p)) (length bytes) 4
  one_long code (shape.Unsigned w) p bytes s = let h = width_some w in let n = s.0 in record { few = omega (arith, n); some = omega (arith, n, h) }
  one_long code (shape.Signed w) p bytes s = let h = width_some w in let n = s.0 in record { few = omega (arith, n); some = omega (arith, n, h) }
  one_long code shape.Uleb p bytes (n, u, e) =
      let h : 0 < length bytes = u.0.0.filled in
      subst (λ (z : Part). IsWithin (held_size shape.Uleb slot (holding code z)) (length bytes) 4) (sym e) (record { few = roomy n bytes u; some = h })
  one_long code shape.Sleb p bytes (v, u, e) =
      let h : 0 < length bytes = u.0.0.filled in
      let n = signed_spellings.no_shorter bytes v u.0 in
      subst (λ (z : Part). IsWithin (held_size shape.Sleb slot (holding code z)) (length bytes) 4) (sym e) (record { few = omega (arith, n); some = h })
  one_long code shape.Counted p bytes (body, c, e) =
      subst (λ (z : Part). IsWithin (held_size shape.Counted slot (holding code z)) (length bytes) 4) (sym e) (wider (least_unsigned_len (length body) + length body) (length bytes) 0 4 (omega arith) (counted_long c.head body bytes c.count c.whole))
  one_long code shape.ByteCounted p bytes (body, w, e) =
      let n : length bytes ≡ suc (length body) = ap length w in
      subst (λ (z : Part). IsWithin (held_size shape.ByteCounted slot (holding code z)) (length bytes) 4) (sym e) (record { few = omega (arith, n); some = omega (arith, n) })

-- THE SECOND

abbrev other_size : Shape → Head → ℕ
other_size s h = part_size s None (cast_unsigned w64 h.s) h.s h.block

other_long : (code n : ℕ) (s : Shape) (p : Part) (bytes : List ℕ) → SpellsPart s p bytes → IsWithin (other_size s (holding_two code (Unsigned n) p)) (length bytes) 0
other_long code n (shape.Unsigned w) p bytes s = let h = width_some w in let k = s.0 in record { few = omega (arith, k); some = omega (arith, k, h) }
other_long code n (shape.Signed w) p bytes s = let h = width_some w in let k = s.0 in record { few = omega (arith, k); some = omega (arith, k, h) }
other_long code n shape.Uleb p bytes (m, u, e) =
    let h : 0 < length bytes = u.0.0.filled in
    let back = of_z-to_z w64 m u.1 in
    let k = unsigned_spellings.no_shorter bytes m u.0 in
    subst (λ (z : Part). IsWithin (other_size shape.Uleb (holding_two code (Unsigned n) z)) (length bytes) 0) (sym e) (subst (λ (z : ℕ). IsWithin (least_unsigned_len z) (length bytes) 0) (sym back) (record { few = omega (arith, k); some = h }))
other_long code n shape.Sleb p bytes (v, u, e) =
    let h : 0 < length bytes = u.0.0.filled in
    let k = signed_spellings.no_shorter bytes v u.0 in
    subst (λ (z : Part). IsWithin (other_size shape.Sleb (holding_two code (Unsigned n) z)) (length bytes) 0) (sym e) (record { few = omega (arith, k); some = h })
other_long code n shape.Counted p bytes (body, c, e) =
    subst (λ (z : Part). IsWithin (other_size shape.Counted (holding_two code (Unsigned n) z)) (length bytes) 0) (sym e) (counted_long c.head body bytes c.count c.whole)
other_long code n shape.ByteCounted p bytes (body, w, e) =
    let k : length bytes ≡ suc (length body) = ap length w in
    subst (λ (z : Part). IsWithin (other_size shape.ByteCounted (holding_two code (Unsigned n) z)) (length bytes) 0) (sym e) (record { few = omega (arith, k); some = omega (arith, k) })

-- each row's first of two is a number without a sign
abbrev are_led : List Row → Bool
are_led [] = true
are_led (row ∷ rows) = if is_led row.operands then are_led rows else false

both_true : (a b : Bool) → (if a then b else false) ≡ true → (a ≡ true) × (b ≡ true)
both_true true b e = (refl, e)
both_true false b e = let no : false ≡ true = e in absurd (cc)

led_if : (b : Bool) (x y : Option Operands) → is_led x ≡ true → is_led y ≡ true → is_led (if b then x else y) ≡ true
led_if true x y e f = e
led_if false x y e f = f

look_led : (rows : List Row) (code : ℕ) → are_led rows ≡ true → is_led (look_up rows code) ≡ true
look_led [] code e = refl
look_led (row ∷ rows) code e =
    let (here, below) = both_true (is_led row.operands) (are_led rows) e in
    led_if _ row.operands (look_up rows code) here (look_led rows code below)

pub table_led : (code : ℕ) → is_led (operands_of code) ≡ true
table_led code =
    let upper = led_if (nat_le code 147) (look_up middle_rows code) (look_up high_rows code) (look_led middle_rows code refl) (look_led high_rows code refl) in
    led_if (nat_le code 47) (look_up low_rows code) (if nat_le code 147 then look_up middle_rows code else look_up high_rows code) (look_led low_rows code refl) upper

two_a : (code n : ℕ) (q : Part) → (holding_two code (Unsigned n) q).a ≡ n
two_a code n (Unsigned m) = refl
two_a code n (Signed v) = refl
two_a code n (Data b) = refl

module _ (slot : Option ℕ) (roomy : IsRoomy slot) where
  -- the first of two, whatever the second is
  lead_long : (code : ℕ) (s : Shape) (p q : Part) (bytes : List ℕ) → is_number s ≡ true → SpellsPart s p bytes → (n : ℕ) × (p ≡ Unsigned n) × IsWithin (held_size s slot (holding_two code (Unsigned n) q)) (length bytes) 4
  lead_long code (shape.Unsigned w) p q bytes e s =
      let h = width_some w in
      let k = s.0 in
      (number (size_of w) bytes, s.1, record { few = omega (arith, k); some = omega (arith, k, h) })
  lead_long code shape.Uleb p q bytes e (n, u, f) =
      let h : 0 < length bytes = u.0.0.filled in
      (n, f, subst (λ (z : ℕ). IsWithin (number_size slot z) (length bytes) 4) (sym (two_a code n q)) (record { few = roomy n bytes u; some = h }))
  lead_long code (shape.Signed w) p q bytes e s = let no : false ≡ true = e in absurd (cc)
  lead_long code shape.Sleb p q bytes e s = let no : false ≡ true = e in absurd (cc)
  lead_long code shape.Counted p q bytes e s = let no : false ≡ true = e in absurd (cc)
  lead_long code shape.ByteCounted p q bytes e s = let no : false ≡ true = e in absurd (cc)

-- ALL OPERANDS

-- the operation of a head, with all that stands in the fields
abbrev whole_of : Head → Operation
whole_of h = record { code = h.code; a = h.a; s = h.s; block = h.block; jump = 0; inner = 0 }

sum_long : (m n : ℕ) (a b bytes : List ℕ) → IsWithin m (length a) 4 → IsWithin n (length b) 0 → bytes ≡ a ++ b → IsWithin (m + n) (length bytes) 4
sum_long m n a b bytes x y e =
    let k : length bytes ≡ length a + length b = ap length e ∙ length-append a b in
    let xf = x.few in
    let xs = x.some in
    let yf = y.few in
    record { few = omega (arith, k, xf, yf); some = omega (arith, k, xs) }

sum_long_behind : (m n : ℕ) (a b bytes : List ℕ) → IsWithin m (length a) 0 → IsWithin n (length b) 4 → bytes ≡ a ++ b → IsWithin (m + n) (length bytes) 4
sum_long_behind m n a b bytes x y e =
    let k : length bytes ≡ length a + length b = ap length e ∙ length-append a b in
    let xf = x.few in
    let xs = x.some in
    let yf = y.few in
    record { few = omega (arith, k, xf, yf); some = omega (arith, k, xs) }

-- with the opcode
pub record IsBounded (size len : ℕ) : Type 0 where
  pub few : size ≤ len + 4
  pub thrice : size ≤ 3 * len

bounded_none : (tail : List ℕ) → IsBounded (1 + 0) (1 + length tail)
bounded_none tail = record { few = omega arith; thrice = omega arith }

bounded_by : (size len : ℕ) → IsWithin size len 4 → IsBounded (1 + size) (1 + len)
bounded_by size len w = let f = w.few in let s = w.some in record { few = omega (arith, f); thrice = omega (arith, f, s) }

module _ (slot : Option ℕ) (roomy : IsRoomy slot) where
  operands_long : (code : ℕ) (kinds : Operands) (h : Head) (tail : List ℕ) → is_led (Some kinds) ≡ true → SpellsOperands code kinds h tail → IsBounded (1 + operands_size kinds slot (whole_of h)) (1 + length tail)
  operands_long code operands.Nothing h tail led s = bounded_none tail
  operands_long code (operands.One s) h tail led (p, x, e) =
      subst (λ (z : Head). IsBounded (1 + held_size s slot z) (1 + length tail)) (sym e) (bounded_by (held_size s slot (holding code p)) (length tail) (one_long slot roomy code s p tail x))
  operands_long code (operands.Two s t) h tail led (p, (a, b, x, y, w), e) =
      let (n, f, lead) = lead_long slot roomy code s p.0 p.1 a led x in
      let same : h ≡ holding_two code (Unsigned n) p.1 = e ∙ ap (λ (z : Part). holding_two code z p.1) f in
      let to = holding_two code (Unsigned n) p.1 in
      subst (λ (z : Head). IsBounded (1 + (held_size s slot z + other_size t z)) (1 + length tail)) (sym same) (bounded_by (held_size s slot to + other_size t to) (length tail) (sum_long (held_size s slot to) (other_size t to) a b tail lead (other_long code n t p.1 b y) w))
  operands_long code (operands.Typed s) h tail led (p, (a, b, x, y, w), e) =
      let (n, f, lead) = lead_long slot roomy code shape.Uleb p.1 p.0 b refl y in
      let same : h ≡ holding_two code (Unsigned n) p.0 = e ∙ ap (λ (z : Part). holding_two code z p.0) f in
      let to = holding_two code (Unsigned n) p.0 in
      subst (λ (z : Head). IsBounded (1 + (other_size s z + held_size shape.Uleb slot z)) (1 + length tail)) (sym same) (bounded_by (other_size s to + held_size shape.Uleb slot to) (length tail) (sum_long_behind (other_size s to) (held_size shape.Uleb slot to) a b tail (other_long code n s p.0 a x) lead w))

-- ONE OPERATION

-- an opcode that is neither a call nor an entry_value
own_other : (slot : Option ℕ) (o : Operation) → o.code ≢ 153 → o.code ≢ 163 → own_size slot o ≡ 1 + known_size (operands_of o.code) slot o
own_other slot o no_call no_entry =
    let call : nat_eq o.code 153 ≡ false = ne_eqb o.code 153 no_call in
    let entry : nat_eq o.code 163 ≡ false = ne_eqb o.code 163 no_entry in
    rw call (rw entry refl)

roomy_slot : (o : Operation) (held : ℕ) → o.code ≢ 153 → o.code ≢ 163 → IsRoomy (plain_slot o held)
roomy_slot o held no_call no_entry =
    let call : nat_eq o.code 153 ≡ false = ne_eqb o.code 153 no_call in
    let entry : nat_eq o.code 163 ≡ false = ne_eqb o.code 163 no_entry in
    let five : plain_size o held ≡ 5 = rw entry (rw call refl) in
    roomy_if (is_slot o.code o.a) (plain_size o held) five

kept_one : (code : ℕ) (s : ℤ) → (¬ IsBranch code) → kept_sign code s ≡ s
kept_one code s none =
    let bra : nat_eq code 40 ≡ false = ne_eqb code 40 (λ e. none (inl e)) in
    let skip : nat_eq code 47 ≡ false = ne_eqb code 47 (λ e. none (inr e)) in
    rw bra (rw skip refl)

kept_whole : (code : ℕ) (block : List ℕ) → code ≢ 163 → kept_block code block ≡ block
kept_whole code block h = let e : nat_eq code 163 ≡ false = ne_eqb code 163 h in rw e refl

pub same_code : (code : ℕ) → code ≢ 152 → plain_code code ≡ code
same_code code h = let e : nat_eq code 152 ≡ false = ne_eqb code 152 h in rw e refl

-- the operation by its opcode
abbrev coded : ℕ → Head → ℕ → ℕ → Operation
coded code head jump n = record { code = plain_code code; a = head.a; s = kept_sign code head.s; block = kept_block code head.block; jump = jump; inner = n }

module _ (head : Head) (b : List ℕ) (jump n held : ℕ) (s : SpellsHead head b) where
  known_here : operands_of head.code ≡ Some s.operands
  known_here = ap operands_of (code_of_head s.code s.operands head s.tail s.spelled) ∙ s.known

  long_here : length b ≡ 1 + length s.tail
  long_here = let e : length b ≡ suc (length s.tail) = ap length s.whole in omega (arith, e)

  -- call2 and call4 get four bytes
  call_long : (w : Width) → operands_of head.code ≡ Some (operands.One (shape.Unsigned w)) → own_size (plain_slot (operation_of head jump n) held) (operation_of head jump n) ≡ 5 → IsBounded (own_size (plain_slot (operation_of head jump n) held) (operation_of head jump n)) (length b)
  call_long w k five =
      let kinds : s.operands ≡ operands.One (shape.Unsigned w) = some_same s.operands (operands.One (shape.Unsigned w)) (sym known_here ∙ k) in
      let p : SpellsOperands s.code (operands.One (shape.Unsigned w)) head s.tail = subst (λ (z : Operands). SpellsOperands s.code z head s.tail) kinds s.spelled in
      let tail : length s.tail ≡ size_of w = p.1.0 in
      let some = width_some w in
      let all = long_here in
      record { few = omega (arith, five, all, tail, some); thrice = omega (arith, five, all, tail, some) }

  plain_long : head.code ≢ 152 → head.code ≢ 153 → head.code ≢ 163 → IsBounded (own_size (plain_slot (operation_of head jump n) held) (operation_of head jump n)) (length b)
  plain_long no_two no_four no_entry =
      let o = operation_of head jump n in
      let same : o.code ≡ head.code = same_code head.code no_two in
      let no_call : o.code ≢ 153 = λ e. no_four (sym same ∙ e) in
      let no_value : o.code ≢ 163 = λ e. no_entry (sym same ∙ e) in
      let slot = plain_slot o held in
      let first : own_size slot o ≡ 1 + known_size (operands_of o.code) slot o = own_other slot o no_call no_value in
      let second : known_size (operands_of o.code) slot o ≡ known_size (operands_of head.code) slot o = ap (λ (c : ℕ). known_size (operands_of c) slot o) same in
      let third : known_size (operands_of head.code) slot o ≡ known_size (operands_of head.code) slot (whole_of head) =
      known_aimed slot (whole_of head) o refl (kept_one head.code head.s) (kept_whole head.code head.block no_entry)
      in
      let fourth : known_size (operands_of head.code) slot (whole_of head) ≡ operands_size s.operands slot (whole_of head) = ap (λ (z : Option Operands). known_size z slot (whole_of head)) known_here in
      let led : is_led (Some s.operands) ≡ true = ap is_led (sym known_here) ∙ table_led head.code in
      let size : own_size slot o ≡ 1 + operands_size s.operands slot (whole_of head) = first ∙ ap (λ (k : ℕ). 1 + k) (second ∙ third ∙ fourth) in
      subst (λ (z : ℕ). IsBounded (own_size slot o) z) (sym long_here) (subst (λ (z : ℕ). IsBounded z (1 + length s.tail)) (sym size) (operands_long slot (roomy_slot o held no_call no_value) s.code s.operands head s.tail led s.spelled))

  pub other_long_head : head.code ≢ 163 → IsBounded (own_size (plain_slot (operation_of head jump n) held) (operation_of head jump n)) (length b)
  other_long_head no_entry =
      elim (eqb_tells head.code 152) [
        | inl (t, e) ↦ call_long width.Two (ap operands_of e) (subst (λ (c : ℕ). own_size (plain_slot (coded c head jump n) held) (coded c head jump n) ≡ 5) (sym e) refl)
        | inr (f, no_two) ↦
            elim (eqb_tells head.code 153) [
              | inl (t, e) ↦ call_long width.Four (ap operands_of e) (subst (λ (c : ℕ). own_size (plain_slot (coded c head jump n) held) (coded c head jump n) ≡ 5) (sym e) refl)
              | inr (g, no_four) ↦ plain_long no_two no_four no_entry
            ]
      ]

-- THE LENGTH OF AN ENTRY_VALUE

-- three times a number takes at most one byte more
least_thrice : (n : ℕ) → least_unsigned_len (3 * n) ≤ least_unsigned_len n + 1
least_thrice n =
    let l = least_unsigned_len n in
    let below : n < 128 ^ l = (least_unsigned n).enough.below in
    let power : 128 ^ suc l ≡ 128 * 128 ^ l = pow-succ' 128 l in
    let h = least_below (3 * n) (suc l) (record { some = omega arith; below = omega (arith, below, power) }) in
    omega (arith, h)

-- an entry_value and what it holds, which are `more` operations in so many bytes
pub record IsEntryBounded (size len more body : ℕ) : Type 0 where
  pub few : size ≤ len + 4 * suc more
  pub thrice : size ≤ 3 * len
  pub within : body + 2 ≤ len

held_block : (code : ℕ) (p : Part) (body : List ℕ) → p ≡ Data body → (holding code p).block ≡ body
held_block code p body e = ap (λ (z : Part). (holding code z).block) e

pub entry_long : (head : Head) (b : List ℕ) (jump n held more : ℕ) → SpellsHead head b → head.code ≡ 163 → held ≤ 3 * length head.block → held ≤ length head.block + 4 * more → IsEntryBounded (own_size (plain_slot (operation_of head jump n) held) (operation_of head jump n) + held) (length b) more (length head.block)
entry_long head b jump n held more s e most few =
    let known : operands_of head.code ≡ Some s.operands = ap operands_of (code_of_head s.code s.operands head s.tail s.spelled) ∙ s.known in
    let kinds : s.operands ≡ operands.One shape.Counted = some_same s.operands (operands.One shape.Counted) (sym known ∙ ap operands_of e) in
    let (p, (body, c, pe), he) = subst (λ (z : Operands). SpellsOperands s.code z head s.tail) kinds s.spelled in
    let block : head.block ≡ body = ap (λ (z : Head). z.block) he ∙ held_block s.code p body pe in
    let size : length head.block ≡ length body = ap length block in
    let all : length b ≡ suc (length s.tail) = ap length s.whole in
    let tail : length s.tail ≡ length c.head + length body = ap length c.whole ∙ length-append c.head body in
    let short = unsigned_spellings.no_shorter c.head (length body) c.count.0 in
    let some : 0 < length c.head = c.count.0.0.filled in
    let up = unsigned_lens.rises held (3 * length body) (omega (arith, most, size)) in
    let three = least_thrice (length body) in
    let own : own_size (plain_slot (operation_of head jump n) held) (operation_of head jump n) ≡ 1 + least_unsigned_len held =
    subst (λ (c : ℕ). own_size (plain_slot (coded c head jump n) held) (coded c head jump n) ≡ 1 + least_unsigned_len held) (sym e) refl
    in
    record {
      few = omega (arith, own, up, three, short, some, all, tail, size, few);
      thrice = omega (arith, own, up, three, short, some, all, tail, size, most);
      within = omega (arith, some, all, tail, size);
    }
