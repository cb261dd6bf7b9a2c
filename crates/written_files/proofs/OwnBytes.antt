-- An operation has the bytes that are written of it: those up to where the next one begins.
use Rattle.std.proofs.Common.{◌≡◌, ◌≢◌, ◌+◌, ◌⊎◌, ℕ, zero, suc, List, ◌∷◌, ◌++◌, length, drop, ◌∙◌, sym, ap, subst, arith, inl, inr, Bool, true, false, Option, Some, None, refl}
use Rattle.std.proofs.lemmas.Bool.{ne_eqb}
use Rattle.std.proofs.lemmas.Bool.Decides.{eqb_tells}
use Rattle.std.proofs.lemmas.List.{append_assoc, append_cancel_left, length-append, take-append-drop}
use Rattle.std.specs.Prelude.{ℤ, nat_eq, if◌then◌else◌}
use Rattle.std.specs.Int.{w64, cast_unsigned, bytes_low_first}
use Rattle.spelled.proofs.Joins.{regroup}
use Rattle.spelled.proofs.Parts.{same_front}
use Rattle.leb_codec.specs.Leb.{IsLeb}
use Rattle.leb_codec.proofs.Fronts.{leb_front}
use Rattle.expr_ops.specs.declared.op.Op.{Op}
use Rattle.expr_ops.specs.declared.table.Width.TheVariants.{Two, Four}
use Rattle.expr_ops.specs.declared.table.Shape.{Shape}
use Rattle.expr_ops.specs.declared.table.Shape.TheVariants as shape
use Rattle.expr_ops.specs.declared.table.Operands.{Operands}
use Rattle.expr_ops.specs.declared.table.Operands.TheVariants as operands
use Rattle.expr_ops.specs.Table.{operands_of}
use Rattle.expr_ops.specs.Heads.{Part, Head, size_of, SpellsPart, SpellsOperands, holding, holding_two}
use Rattle.expr_ops.specs.Heads.Part.{Unsigned, Data}
use Rattle.expr_ops.specs.Expressions.{Operation, plain_code, kept_block}
use Rattle.expr_ops.specs.Ops.{meant, held_bytes, IsLead}
use Rattle.expr_ops.specs.Puts.{PutsNumber, PutsPart, PutsOperands, PutsOwn, call_code, call_size, low_bytes}
use Rattle.expr_ops.specs.inside.Leads.{is_led, is_number}
use Rattle.expr_ops.proofs.HeadLaws.{first_of, rest_of, some_same}
use Rattle.expr_ops.proofs.BlockLaws.{code_of_head}
use Rattle.expr_ops.proofs.OwnSizes.{same_code, table_led}
use Rattle.expr_ops.proofs.Chains.{not_held, is_held}
use Rattle.expr_ops.proofs.ChainLaws.{lead_long}
use Rattle.written_files.specs.inside.FewestBytes.{as_written}

-- ONE OPERAND

low_from : (first size n : ℕ) → length (bytes_low_first first size n) ≡ size
low_from first zero n = refl
low_from first (suc size) n = ap suc (low_from (suc first) size n)

low_len : (size n : ℕ) → length (low_bytes size n) ≡ size
low_len size n = low_from 0 size n

number_leb : (slot : Option ℕ) (n : ℕ) (bytes : List ℕ) → PutsNumber slot n bytes → IsLeb bytes
number_leb None n bytes p = p.0.0
number_leb (Some size) n bytes p = p.0.0

-- what is read of an operand and what is written of it are as many bytes, where blocks are the same
part_long : (s : Shape) (slot : Option ℕ) (n : ℕ) (v : ℤ) (block : List ℕ) (p : Part) (a b x y : List ℕ) → ((body : List ℕ) → p ≡ Data body → block ≡ body) → SpellsPart s p a → PutsPart s slot n v block b → a ++ x ≡ b ++ y → length a ≡ length b
part_long (shape.Unsigned w) slot n v block p a b x y same s q h = s.0 ∙ sym (ap length q ∙ low_len (size_of w) n)
part_long (shape.Signed w) slot n v block p a b x y same s q h = s.0 ∙ sym (ap length q ∙ low_len (size_of w) (cast_unsigned w64 v))
part_long shape.Uleb slot n v block p a b x y same s q h = ap length (leb_front a b x y s.1.0.0 (number_leb slot n b q) h)
part_long shape.Sleb slot n v block p a b x y same s q h = ap length (leb_front a b x y s.1.0.0 q.0.0 h)
part_long shape.Counted slot n v block p a b x y same (body, c, e) (head, q, f) h =
    let g : c.head ++ (body ++ x) ≡ head ++ (block ++ y) =
    regroup c.head body x head block y (ap (λ z. z ++ x) (sym c.whole) ∙ h ∙ ap (λ z. z ++ y) f)
    in
    let front : c.head ≡ head = leb_front c.head head (body ++ x) (block ++ y) c.count.0.0 q.0.0 g in
    let one : length a ≡ length c.head + length body = ap length c.whole ∙ length-append c.head body in
    let two : length b ≡ length head + length block = ap length f ∙ length-append head block in
    let heads : length c.head ≡ length head = ap length front in
    let blocks : length block ≡ length body = ap length (same body e) in
    omega (arith, one, two, heads, blocks)
part_long shape.ByteCounted slot n v block p a b x y same (body, w, e) q h =
    let one : length a ≡ suc (length body) = ap length w in
    let two : length b ≡ length (low_bytes 1 (length block)) + length block = ap length q ∙ length-append (low_bytes 1 (length block)) block in
    let byte = low_len 1 (length block) in
    let blocks : length block ≡ length body = ap length (same body e) in
    omega (arith, one, two, byte, blocks)

-- OPERANDS

holding_block : (code : ℕ) (block : List ℕ) (head : Head) (p : Part) → block ≡ head.block → head ≡ holding code p → (body : List ℕ) → p ≡ Data body → block ≡ body
holding_block code block head p e f body g = e ∙ ap (λ (z : Head). z.block) (f ∙ ap (holding code) g)

-- the first of two is a number, so that the second one alone can be a block
led_number : (s : Shape) (p : Part) (a : List ℕ) → is_number s ≡ true → SpellsPart s p a → (n : ℕ) × (p ≡ Unsigned n)
led_number (shape.Unsigned w) p a led s = (_, s.1)
led_number (shape.Signed w) p a led s = let no : false ≡ true = led in absurd (cc)
led_number shape.Uleb p a led s = (s.0, s.2)
led_number shape.Sleb p a led s = let no : false ≡ true = led in absurd (cc)
led_number shape.Counted p a led s = let no : false ≡ true = led in absurd (cc)
led_number shape.ByteCounted p a led s = let no : false ≡ true = led in absurd (cc)

two_block : (code n : ℕ) (block : List ℕ) (head : Head) (p q : Part) → block ≡ head.block → head ≡ holding_two code p q → p ≡ Unsigned n → (body : List ℕ) → q ≡ Data body → block ≡ body
two_block code n block head p q e f g body h =
    e ∙ ap (λ (z : Head). z.block) (f ∙ ap (λ (z : Part). holding_two code z q) g ∙ ap (λ (z : Part). holding_two code (Unsigned n) z) h)

first_none : (code n : ℕ) (p : Part) (body : List ℕ) → p ≡ Unsigned n → p ≡ Data body → ⊥
first_none code n p body e f = let no : Unsigned n ≡ Data body = sym e ∙ f in absurd (cc)

-- a number without a sign that is read where one is written is the same bytes
pub number_front : (s : Shape) (slot : Option ℕ) (n : ℕ) (v : ℤ) (block : List ℕ) (p : Part) (a b x y : List ℕ) → is_number s ≡ true → SpellsPart s p a → PutsPart s slot n v block b → a ++ x ≡ b ++ y → (a ≡ b) × (x ≡ y)
number_front s slot n v block p a b x y led w q h =
    let (m, is) = led_number s p a led w in
    let long : length a ≡ length b = part_long s slot n v block p a b x y (λ body f. absurd (first_none 0 m p body is f)) w q h in
    let same : a ≡ b = same_front a b x y long h in
    (same, append_cancel_left b x y (ap (λ z. z ++ x) (sym same) ∙ h))

both_long : (a b c d whole other x y : List ℕ) → length a ≡ length c → whole ≡ a ++ b → other ≡ c ++ d → whole ++ x ≡ other ++ y → (b ++ x ≡ d ++ y → length b ≡ length d) → length whole ≡ length other
both_long a b c d whole other x y first e f h second =
    let g : a ++ (b ++ x) ≡ c ++ (d ++ y) = regroup a b x c d y (ap (λ z. z ++ x) (sym e) ∙ h ∙ ap (λ z. z ++ y) f) in
    let same : a ≡ c = same_front a c (b ++ x) (d ++ y) first g in
    let rest : b ++ x ≡ d ++ y = append_cancel_left c (b ++ x) (d ++ y) (ap (λ z. z ++ (b ++ x)) (sym same) ∙ g) in
    let one : length whole ≡ length a + length b = ap length e ∙ length-append a b in
    let two : length other ≡ length c + length d = ap length f ∙ length-append c d in
    let behind = second rest in
    omega (arith, first, one, two, behind)

front_of : (a b x y : List ℕ) (whole other : List ℕ) (c d : List ℕ) → whole ≡ a ++ b → other ≡ c ++ d → whole ++ x ≡ other ++ y → a ++ (b ++ x) ≡ c ++ (d ++ y)
front_of a b x y whole other c d e f h = regroup a b x c d y (ap (λ z. z ++ x) (sym e) ∙ h ∙ ap (λ z. z ++ y) f)

module _ (code : ℕ) (slot : Option ℕ) (o : Operation) (head : Head) (x y : List ℕ) (same : o.block ≡ head.block) where
  operands_long : (kinds : Operands) (a b : List ℕ) → is_led (Some kinds) ≡ true → SpellsOperands code kinds head a → PutsOperands kinds slot o b → a ++ x ≡ b ++ y → length a ≡ length b
  operands_long operands.Nothing a b led s q h = ap length s.0 ∙ sym (ap length q)
  operands_long (operands.One s) a b led (p, w, e) q h = part_long s slot o.a o.s o.block p a b x y (holding_block code o.block head p same e) w q h
  operands_long (operands.Two s t) a b led ((p, r), (a1, a2, w1, w2, ea), e) (b1, b2, q1, q2, eb) h =
      let (n, is) = led_number s p a1 led w1 in
      let first : length a1 ≡ length b1 =
      part_long s slot o.a o.s o.block p a1 b1 (a2 ++ x) (b2 ++ y) (λ body f. absurd (first_none code n p body is f)) w1 q1 (front_of a1 a2 x y a b b1 b2 ea eb h)
      in
      both_long a1 a2 b1 b2 a b x y first ea eb h (λ g. part_long t None (cast_unsigned w64 o.s) o.s o.block r a2 b2 x y (two_block code n o.block head p r same e is) w2 q2 g)
  operands_long (operands.Typed s) a b led ((p, r), (a1, a2, w1, w2, ea), e) (b1, b2, q1, q2, eb) h =
      let is : r ≡ Unsigned w2.0 = w2.2 in
      let first : length a1 ≡ length b1 =
      part_long s None (cast_unsigned w64 o.s) o.s o.block p a1 b1 (a2 ++ x) (b2 ++ y) (two_block code w2.0 o.block head r p same e is) w1 q1 (front_of a1 a2 x y a b b1 b2 ea eb h)
      in
      both_long a1 a2 b1 b2 a b x y first ea eb h (λ g. part_long shape.Uleb slot o.a o.s o.block r a2 b2 x y (λ body f. absurd (first_none code w2.0 r body is f)) w2 q2 g)

-- THE BYTES OF AN OPERATION

-- call2 with two bytes, or call4 with four
abbrev IsCallOf : ℕ → ℕ → Type 0
IsCallOf code size = ((code ≡ 152) × (size ≡ 2)) ⊎ ((code ≡ 153) × (size ≡ 4))

call_by : (b : Bool) → IsCallOf (if b then 152 else 153) (if b then 2 else 4)
call_by true = inl (refl, refl)
call_by false = inr (refl, refl)

call_either : (slot : Option ℕ) → IsCallOf (call_code slot) (call_size slot)
call_either None = inr (refl, refl)
call_either (Some size) = call_by (nat_eq size 2)

unsigned_long : (code : ℕ) (kinds : Operands) (head : Head) (tail : List ℕ) → SpellsOperands code kinds head tail → (kinds ≡ operands.One (shape.Unsigned Two) → length tail ≡ 2) × (kinds ≡ operands.One (shape.Unsigned Four) → length tail ≡ 4)
unsigned_long code kinds head tail s = (
  λ e. let (p, w, f) : SpellsOperands code (operands.One (shape.Unsigned Two)) head tail = subst (λ (z : Operands). SpellsOperands code z head tail) e s in w.0,
  λ e. let (p, w, f) : SpellsOperands code (operands.One (shape.Unsigned Four)) head tail = subst (λ (z : Operands). SpellsOperands code z head tail) e s in w.0,
)

plain_entry : (code : ℕ) → plain_code code ≡ 163 → code ≡ 163
plain_entry code e = elim (eqb_tells code 152) [
  | inl (t, f) ↦ let g : plain_code code ≡ 153 = ap plain_code f in absurd (omega (arith, e, g))
  | inr (t, other) ↦ sym (same_code code other) ∙ e
]

plain_other : (code : ℕ) → plain_code code ≢ 153 → code ≢ 152
plain_other code n e = n (ap plain_code e)

kept_other : (code : ℕ) (block : List ℕ) → code ≢ 163 → kept_block code block ≡ block
kept_other code block h = rw (ne_eqb code 163 h) refl

-- what begins the bytes of an operation
module _ (outer : List ℕ) (at size : ℕ) (op : Op) (slot : Option ℕ) (held : ℕ) (distance : ℤ) (own rest : List ℕ) (l : IsLead outer at size op) (stands : drop at outer ≡ own ++ rest) where
  same_bytes : (c : ℕ) (tail : List ℕ) → own ≡ c ∷ tail → (l.spelled.code ≡ c) × (l.spelled.tail ++ drop (size + held_bytes l.head) (drop at outer) ≡ tail ++ rest)
  same_bytes c tail e =
      let n = size + held_bytes l.head in
      let g : l.spelled.code ∷ (l.spelled.tail ++ drop n (drop at outer)) ≡ c ∷ (tail ++ rest) =
      ap (λ z. z ++ drop n (drop at outer)) (sym l.spelled.whole) ∙ take-append-drop n (drop at outer) ∙ stands ∙ ap (λ z. z ++ rest) e
      in
      (ap first_of g, ap rest_of g)

  head_code : l.head.code ≡ l.spelled.code
  head_code = code_of_head l.spelled.code l.spelled.operands l.head l.spelled.tail l.spelled.spelled

  long_here : size + held_bytes l.head ≡ suc (length l.spelled.tail)
  long_here = sym (lead_long outer at size op l) ∙ ap length l.spelled.whole

  op_code : op.code ≡ plain_code l.head.code
  op_code = ap (λ (z : Operation). z.code) l.means

  call_long : (n : ℕ) → own ≡ call_code slot ∷ low_bytes (call_size slot) n → size ≡ length own
  call_long n e =
      let (c, same) = same_bytes (call_code slot) (low_bytes (call_size slot) n) e in
      let s = l.spelled in
      let all = long_here in
      let u = unsigned_long s.code s.operands l.head s.tail s.spelled in
      let written : length own ≡ suc (call_size slot) = ap length e ∙ ap suc (low_len (call_size slot) n) in
      elim (call_either slot) [
        | inl (code, two) ↦
            let tail = u.0 (some_same s.operands (operands.One (shape.Unsigned Two)) (sym s.known ∙ ap operands_of (c ∙ code))) in
            let none : held_bytes l.head ≡ 0 =
            not_held l.head (λ f. let g : 152 ≡ 163 = sym (head_code ∙ c ∙ code) ∙ f in absurd (omega (arith, g)))
            in
            omega (arith, all, written, two, tail, none)
        | inr (code, four) ↦
            let tail = u.1 (some_same s.operands (operands.One (shape.Unsigned Four)) (sym s.known ∙ ap operands_of (c ∙ code))) in
            let none : held_bytes l.head ≡ 0 =
            not_held l.head (λ f. let g : 153 ≡ 163 = sym (head_code ∙ c ∙ code) ∙ f in absurd (omega (arith, g)))
            in
            omega (arith, all, written, four, tail, none)
      ]

  entry_long : (n : ℕ) (tail : List ℕ) → op.code ≡ 163 → PutsNumber slot n tail → own ≡ 163 ∷ tail → size ≡ length own
  entry_long n tail code q e =
      let s = l.spelled in
      let (c, same) = same_bytes 163 tail e in
      let entry : l.head.code ≡ 163 = head_code ∙ c in
      let all = long_here in
      let is : s.operands ≡ operands.One shape.Counted = some_same s.operands (operands.One shape.Counted) (sym s.known ∙ ap operands_of c) in
      let (p, (body, counted, f), g) : SpellsOperands s.code (operands.One shape.Counted) l.head s.tail =
      subst (λ (z : Operands). SpellsOperands s.code z l.head s.tail) is s.spelled
      in
      let block : l.head.block ≡ body = ap (λ (z : Head). z.block) (g ∙ ap (holding s.code) f) in
      let held_is : held_bytes l.head ≡ length l.head.block = is_held l.head entry in
      let rests = drop (size + held_bytes l.head) (drop at outer) in
      let fronts : counted.head ++ (body ++ rests) ≡ tail ++ rest =
      sym (ap (λ z. z ++ rests) counted.whole ∙ append_assoc counted.head body rests) ∙ same
      in
      let one : length counted.head ≡ length tail =
      ap length (leb_front counted.head tail (body ++ rests) rest counted.count.0.0 (number_leb slot n tail q) fronts)
      in
      let tails : length s.tail ≡ length counted.head + length body = ap length counted.whole ∙ length-append counted.head body in
      let written : length own ≡ suc (length tail) = ap length e in
      let blocks : length l.head.block ≡ length body = ap length block in
      omega (arith, all, held_is, one, tails, written, blocks)

  other_long : (o : Operation) (kinds : Operands) (tail : List ℕ) → o.code ≡ op.code → o.block ≡ (meant outer op).block → o.code ≢ 153 → o.code ≢ 163 → operands_of o.code ≡ Some kinds → PutsOperands kinds slot o tail → own ≡ o.code ∷ tail → size ≡ length own
  other_long o kinds tail code block no_call no_entry known q e =
      let s = l.spelled in
      let (c, same) = same_bytes o.code tail e in
      let is : s.operands ≡ kinds = some_same s.operands kinds (sym s.known ∙ ap operands_of c ∙ known) in
      let w : SpellsOperands s.code kinds l.head s.tail = subst (λ (z : Operands). SpellsOperands s.code z l.head s.tail) is s.spelled in
      let led : is_led (Some kinds) ≡ true = ap is_led (sym known) ∙ table_led o.code in
      let no_held : l.head.code ≢ 163 = λ f. no_entry (sym c ∙ sym head_code ∙ f) in
      let none : held_bytes l.head ≡ 0 = not_held l.head no_held in
      let blocks : o.block ≡ l.head.block = block ∙ ap (λ (z : Operation). z.block) l.means ∙ kept_other l.head.code l.head.block no_held in
      let long = operands_long s.code slot o l.head (drop (size + held_bytes l.head) (drop at outer)) rest blocks kinds s.tail tail led w q same in
      let all = long_here in
      let written : length own ≡ suc (length tail) = ap length e in
      omega (arith, all, written, long, none)

  -- its size is that of what is written of it
  pub own_sized : PutsOwn slot (as_written held distance (meant outer op)) own → size ≡ length own
  own_sized (inl (call, e)) = call_long (as_written held distance (meant outer op)).a e
  own_sized (inr (inl (entry, (tail, q, e)))) = entry_long (as_written held distance (meant outer op)).a tail entry q e
  own_sized (inr (inr (no_call, no_entry, (kinds, tail, known, q, e)))) = other_long (as_written held distance (meant outer op)) kinds tail refl refl no_call no_entry known q e
