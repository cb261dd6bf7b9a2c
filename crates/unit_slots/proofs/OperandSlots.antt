-- The slots of operations among their operands.
use Rattle.std.proofs.Common.{◌≡◌, ◌≢◌, ◌≤◌, ◌+◌, ◌-◌, ◌⊎◌, inl, inr, ℕ, suc, List, [], ◌∷◌, ◌++◌, length, take, drop, ◌∙◌, sym, ap, subst, refl, arith}
use Rattle.std.specs.Prelude.{Bool, true, false, Some, None, nat_eq, if◌then◌else◌, slice_index}
use Rattle.std.proofs.lemmas.List.{append_assoc, length-append, drop-drop, take-append-drop, get_or-drop}
use Rattle.std.proofs.lemmas.Bool.Decides.{eqb_tells}
use Rattle.leb_codec.specs.Leb.{Uleb}
use Rattle.expr_ops.specs.declared.op.Op.{Op}
use Rattle.expr_ops.specs.declared.table.Operands.{Operands}
use Rattle.expr_ops.specs.declared.table.Operands.TheVariants as operands
use Rattle.expr_ops.specs.declared.table.Shape.{Shape}
use Rattle.expr_ops.specs.declared.table.Shape.TheVariants as shape
use Rattle.expr_ops.specs.declared.table.Width.{Width}
use Rattle.expr_ops.specs.declared.table.Width.TheVariants as width
use Rattle.expr_ops.specs.Drafts.{is_slot, is_typed, is_generic}
use Rattle.expr_ops.specs.Expressions.{Operation, plain_code}
use Rattle.expr_ops.specs.Heads.{size_of, Part, Head, holding, SpellsPart, SpellsOperands}
use Rattle.expr_ops.specs.Ops.{held_bytes, IsLead}
use Rattle.expr_ops.specs.Table.{operands_of}
use Rattle.expr_ops.proofs.BlockLaws.{code_of_head}
use Rattle.expr_ops.proofs.Chains.{not_held, is_held}
use Rattle.expr_ops.proofs.ChainLaws.{lead_long}
use Rattle.expr_ops.proofs.NextRefs.{typed_cases}
use Rattle.expr_ops.proofs.ReadLaws.{rest_and}
use Rattle.expr_ops.proofs.HeadLaws.{part_once, some_same}
use Rattle.unit_slots.specs.Standing.{BeginsWith, IsSizeOf}
use Rattle.unit_slots.specs.inside.Added.{Begins, IsEndOf, IsNumber}
use Rattle.unit_slots.proofs.NumberEnds.{size_is, rest_is}

-- WHICH OPERATIONS HAVE A SLOT

typed_by : (b c : Bool) → (if b then (if c then false else true) else false) ≡ true → b ≡ true
typed_by true c e = refl
typed_by false c e = e

-- what holds of the opcodes of slots in ULEB128
pub slot_codes : (P : ℕ → Type 0) (code a : ℕ) → is_slot code a ≡ true → code ≢ 153 → P 163 → P 164 → P 165 → P 166 → P 167 → P 168 → P 169 → P code
slot_codes P code a slot no_call entry p4 p5 p6 p7 p8 p9 =
    elim (eqb_tells code 163) [
      | inl (same, is) ↦ subst P (sym is) entry
      | inr (no_entry, other) ↦ elim (eqb_tells code 153) [
        | inl (same, is) ↦ absurd (no_call is)
        | inr (not_call, apart) ↦
            let rest : Bool = if is_typed code then (if is_generic code a then false else true) else false in
            let typed : rest ≡ true = ap (λ (b : Bool). if b then true else rest) (sym not_call) ∙ ap (λ (b : Bool). if b then true else (if nat_eq code 153 then true else rest)) (sym no_entry) ∙ slot in
            typed_cases P code (typed_by (is_typed code) (is_generic code a) typed) p4 p5 p6 p7 p8 p9
      ]
    ]

-- the operands of these
abbrev HoldsUleb : Operands → Type 0
HoldsUleb (operands.One shape.Uleb) = Unit {0}
HoldsUleb (operands.One shape.Counted) = Unit {0}
HoldsUleb (operands.Two shape.Uleb t) = Unit {0}
HoldsUleb (operands.Typed (shape.Unsigned w)) = Unit {0}
HoldsUleb (operands.Typed shape.Uleb) = Unit {0}
HoldsUleb other = ⊥

slot_operands : (code a : ℕ) (kinds : Operands) → is_slot code a ≡ true → code ≢ 153 → operands_of code ≡ Some kinds → HoldsUleb kinds
slot_operands code a kinds slot other =
    slot_codes (λ (n : ℕ). operands_of n ≡ Some kinds → HoldsUleb kinds) code a slot other
    (λ known. subst HoldsUleb (some_same (operands.One shape.Counted) kinds known) tt)
    (λ known. subst HoldsUleb (some_same (operands.Two shape.Uleb shape.ByteCounted) kinds known) tt)
    (λ known. subst HoldsUleb (some_same (operands.Typed shape.Uleb) kinds known) tt)
    (λ known. subst HoldsUleb (some_same (operands.Typed (shape.Unsigned width.One)) kinds known) tt)
    (λ known. subst HoldsUleb (some_same (operands.Typed (shape.Unsigned width.One)) kinds known) tt)
    (λ known. subst HoldsUleb (some_same (operands.One shape.Uleb) kinds known) tt)
    (λ known. subst HoldsUleb (some_same (operands.One shape.Uleb) kinds known) tt)

-- OPERANDS BEHIND AN OPCODE

-- the operands of an operation stand behind its opcode, which has so many bytes with them, but for those of an expression that it holds
pub record HasOperandsAt (bytes : List ℕ) (op : Op) (size : ℕ) (kinds : Operands) : Type 0 where
  pub head : Head
  pub tail : List ℕ
  pub rest : List ℕ
  pub spelled : SpellsOperands op.code kinds head tail
  pub coded : head.code ≡ op.code
  pub whole : drop (op.at + 1) bytes ≡ tail ++ rest
  pub long : size + held_bytes head ≡ suc (length tail)

back : (at : ℕ) → at ≡ at + 0
back at = omega arith

plain_same : (code : ℕ) → code ≢ 152 → plain_code code ≡ code
plain_same code other = elim (eqb_tells code 152) [
  | inl (same, is) ↦ absurd (other is)
  | inr (not_same, apart) ↦ ap (λ (b : Bool). if b then 153 else code) not_same
]

module _ (bytes : List ℕ) (op : Op) (size : ℕ) (lead : IsLead bytes op.at size op) where
  abbrev own : List ℕ
  own = take (size + held_bytes lead.head) (drop op.at bytes)

  abbrev more : List ℕ
  more = drop (size + held_bytes lead.head) (drop op.at bytes)

  whole : drop op.at bytes ≡ lead.spelled.code ∷ (lead.spelled.tail ++ more)
  whole = sym (take-append-drop (size + held_bytes lead.head) (drop op.at bytes)) ∙ ap (λ (z : List ℕ). z ++ more) lead.spelled.whole

  behind_code : drop (op.at + 1) bytes ≡ lead.spelled.tail ++ more
  behind_code = sym (drop-drop 1 op.at bytes) ∙ ap (drop 1) whole

  own_long : size + held_bytes lead.head ≡ suc (length lead.spelled.tail)
  own_long = sym (lead_long bytes op.at size op lead) ∙ ap length lead.spelled.whole

  code_there : slice_index bytes op.at ≡ lead.spelled.code
  code_there = ap (slice_index bytes) (back op.at) ∙ sym (get_or-drop op.at bytes 0 0) ∙ ap (λ (z : List ℕ). slice_index z 0) whole

  same_code : lead.head.code ≡ lead.spelled.code
  same_code = code_of_head lead.spelled.code lead.spelled.operands lead.head lead.spelled.tail lead.spelled.spelled

  op_code : op.code ≡ plain_code lead.head.code
  op_code = ap (λ (o : Operation). o.code) lead.means

  -- an operation other than a call keeps its opcode
  pub operands_there : (kinds : Operands) → op.code ≢ 153 → operands_of op.code ≡ Some kinds → HasOperandsAt bytes op size kinds
  operands_there kinds no_call known =
      let other : lead.head.code ≢ 152 = λ is. no_call (op_code ∙ ap plain_code is) in
      let coded : op.code ≡ lead.spelled.code = op_code ∙ plain_same lead.head.code other ∙ same_code in
      let same : lead.spelled.operands ≡ kinds = some_same lead.spelled.operands kinds (sym lead.spelled.known ∙ ap operands_of (sym coded) ∙ known) in
      record {
        head = lead.head;
        tail = lead.spelled.tail;
        rest = more;
        spelled = subst (λ (k : Operands). SpellsOperands op.code k lead.head lead.spelled.tail) same (subst (λ (n : ℕ). SpellsOperands n lead.spelled.operands lead.head lead.spelled.tail) (sym coded) lead.spelled.spelled);
        coded = same_code ∙ sym coded;
        whole = behind_code;
        long = own_long;
      }

  -- of a call it is one of two
  call_code : op.code ≡ 153 → (lead.head.code ≡ 152) ⊎ (lead.head.code ≡ 153)
  call_code call = elim (eqb_tells lead.head.code 152) [
    | inl (same, is) ↦ inl is
    | inr (not_same, other) ↦ inr (sym (plain_same lead.head.code other) ∙ sym op_code ∙ call)
  ]

  call_long : (code : ℕ) (w : Width) → lead.head.code ≡ code → (code ≡ 163 → ⊥) → operands_of code ≡ Some (operands.One (shape.Unsigned w)) → size ≡ suc (size_of w)
  call_long code w is no_entry known =
      let same : lead.spelled.operands ≡ operands.One (shape.Unsigned w) = some_same lead.spelled.operands (operands.One (shape.Unsigned w)) (sym lead.spelled.known ∙ ap operands_of (sym same_code ∙ is) ∙ known) in
      let (part, (long, told), held) : SpellsOperands lead.spelled.code (operands.One (shape.Unsigned w)) lead.head lead.spelled.tail = subst (λ (k : Operands). SpellsOperands lead.spelled.code k lead.head lead.spelled.tail) same lead.spelled.spelled in
      let none : held_bytes lead.head ≡ 0 = not_held lead.head (λ entry. no_entry (sym is ∙ entry)) in
      let all = own_long in
      omega (arith, all, none, long)

  pub call_two : op.code ≡ 153 → slice_index bytes op.at ≡ 152 → size ≡ 3
  call_two call is = call_long 152 width.Two (same_code ∙ sym code_there ∙ is) (λ wrong. absurd (omega (arith, wrong))) refl

  pub call_four : op.code ≡ 153 → slice_index bytes op.at ≢ 152 → size ≡ 5
  call_four call other = elim (call_code call) [
    | inl two ↦ absurd (other (code_there ∙ sym same_code ∙ two))
    | inr four ↦ call_long 153 width.Four four (λ wrong. absurd (omega (arith, wrong))) refl
  ]

  pub call_size : (n : ℕ) → op.code ≡ 153 → slice_index bytes op.at ≢ 152 → n ≡ 4 → IsSizeOf bytes op n
  call_size n call other is = elim (call_code call) [
    | inl two ↦ absurd (other (code_there ∙ sym same_code ∙ two))
    | inr four ↦ record { call = λ also. inr (code_there ∙ sym same_code ∙ four, is); other = λ no_call. absurd (no_call call) }
  ]

-- THE SLOT AMONG THEM

held_none : (head : Head) → head.block ≡ [] → held_bytes head ≡ 0
held_none head none = elim (eqb_tells head.code 163) [
  | inl (same, is) ↦ is_held head is ∙ ap length none
  | inr (not_same, other) ↦ not_held head other
]

held_few : (head : Head) → held_bytes head ≤ length head.block
held_few head = elim (eqb_tells head.code 163) [
  | inl (same, is) ↦ let all = is_held head is in omega (arith, all)
  | inr (not_same, other) ↦ let none = not_held head other in omega (arith, none)
]

-- an entry_value has one operand
no_entry : (head : Head) (code : ℕ) (kinds : Operands) → head.code ≡ code → operands_of code ≡ Some kinds → (operands.One shape.Counted ≡ kinds → ⊥) → held_bytes head ≡ 0
no_entry head code kinds is known other = not_held head (λ entry. other (some_same (operands.One shape.Counted) kinds (ap operands_of (sym entry ∙ is) ∙ known)))

module _ (bytes : List ℕ) (op : Op) (size : ℕ) (slot : is_slot op.code op.a ≡ true) (no_call : op.code ≢ 153) where
  -- the only operand
  number_of_one : (s : Shape) → HoldsUleb (operands.One s) → HasOperandsAt bytes op size (operands.One s) → (n : ℕ) × (first : List ℕ) × (rest : List ℕ) × Uleb n first × (drop (op.at + 1) bytes ≡ first ++ rest) × (length first + 1 ≤ size)
  number_of_one (shape.Unsigned w) wrong there = absurd wrong
  number_of_one (shape.Signed w) wrong there = absurd wrong
  number_of_one shape.Sleb wrong there = absurd wrong
  number_of_one shape.ByteCounted wrong there = absurd wrong
  number_of_one shape.Uleb one there =
      let (p, (n, uleb, is), head) = there.spelled in
      let none : held_bytes there.head ≡ 0 = held_none there.head (ap (λ (h : Head). h.block) head ∙ ap (λ (q : Part). (holding op.code q).block) is) in
      let long = there.long in
      (n, there.tail, there.rest, uleb, there.whole, omega (arith, none, long))
  number_of_one shape.Counted one there =
      let (p, (body, counted, is), head) = there.spelled in
      let block : there.head.block ≡ body = ap (λ (h : Head). h.block) head ∙ ap (λ (q : Part). (holding op.code q).block) is in
      let few : held_bytes there.head ≤ length body = subst (λ (z : List ℕ). held_bytes there.head ≤ length z) block (held_few there.head) in
      let parts : length there.tail ≡ length counted.head + length body = ap length counted.whole ∙ length-append counted.head body in
      let long = there.long in
      (length body, counted.head, body ++ there.rest, counted.count, there.whole ∙ ap (λ (z : List ℕ). z ++ there.rest) counted.whole ∙ append_assoc counted.head body there.rest, omega (arith, few, parts, long))

  -- the first of two
  number_of_two : (s t : Shape) → operands_of op.code ≡ Some (operands.Two s t) → HoldsUleb (operands.Two s t) → HasOperandsAt bytes op size (operands.Two s t) → (n : ℕ) × (first : List ℕ) × (rest : List ℕ) × Uleb n first × (drop (op.at + 1) bytes ≡ first ++ rest) × (length first + 1 ≤ size)
  number_of_two (shape.Unsigned w) t known wrong there = absurd wrong
  number_of_two (shape.Signed w) t known wrong there = absurd wrong
  number_of_two shape.Sleb t known wrong there = absurd wrong
  number_of_two shape.Counted t known wrong there = absurd wrong
  number_of_two shape.ByteCounted t known wrong there = absurd wrong
  number_of_two shape.Uleb t known two there =
      let (p, (first, second, (n, uleb, is), other, both), head) = there.spelled in
      let none : held_bytes there.head ≡ 0 = no_entry there.head op.code (operands.Two shape.Uleb t) there.coded known (λ wrong. absurd cc) in
      let parts : length there.tail ≡ length first + length second = ap length both ∙ length-append first second in
      let long = there.long in
      (n, first, second ++ there.rest, uleb, there.whole ∙ ap (λ (z : List ℕ). z ++ there.rest) both ∙ append_assoc first second there.rest, omega (arith, none, parts, long))

  abbrev Known : Operands → Type 0
  Known kinds = operands_of op.code ≡ Some kinds

  holds : (kinds : Operands) → Known kinds → HoldsUleb kinds
  holds kinds known = slot_operands op.code op.a kinds slot no_call known

  pub none_unknown : operands_of op.code ≡ None → ⊥
  none_unknown none =
      slot_codes (λ (n : ℕ). operands_of n ≡ None → ⊥) op.code op.a slot no_call
      (λ (e : Some (operands.One shape.Counted) ≡ None). absurd cc)
      (λ (e : Some (operands.Two shape.Uleb shape.ByteCounted) ≡ None). absurd cc)
      (λ (e : Some (operands.Typed shape.Uleb) ≡ None). absurd cc)
      (λ (e : Some (operands.Typed (shape.Unsigned width.One)) ≡ None). absurd cc)
      (λ (e : Some (operands.Typed (shape.Unsigned width.One)) ≡ None). absurd cc)
      (λ (e : Some (operands.One shape.Uleb) ≡ None). absurd cc)
      (λ (e : Some (operands.One shape.Uleb) ≡ None). absurd cc)
      none

  pub nothing_unknown : Known operands.Nothing → ⊥
  nothing_unknown known = holds operands.Nothing known

  pub typed_number : (s : Shape) → Known (operands.Typed s) → IsNumber s
  typed_number s known = number_led s (holds (operands.Typed s) known)
    where
      number_led : (s : Shape) → HoldsUleb (operands.Typed s) → IsNumber s
      number_led (shape.Unsigned w) led = tt
      number_led shape.Uleb led = tt
      number_led other led = absurd led

  module _ (lead : IsLead bytes op.at size op) where
    there : (kinds : Operands) → Known kinds → HasOperandsAt bytes op size kinds
    there kinds known = operands_there bytes op size lead kinds no_call known

    pub one_begins : (s : Shape) → Known (operands.One s) → Begins Uleb (drop (op.at + 1) bytes)
    one_begins s known =
        let (n, first, rest, uleb, whole, fits) = number_of_one s (holds (operands.One s) known) (there (operands.One s) known) in
        (n, first, rest, uleb, whole)

    pub one_room : (s : Shape) → Known (operands.One s) → (n : ℕ) → BeginsWith n (drop (op.at + 1) bytes) → n + 1 ≤ size
    one_room s known n begins =
        let (m, first, rest, uleb, whole, fits) = number_of_one s (holds (operands.One s) known) (there (operands.One s) known) in
        let is : n ≡ length first = size_is n (drop (op.at + 1) bytes) m first rest begins uleb whole in
        omega (arith, is, fits)

    pub two_begins : (s t : Shape) → Known (operands.Two s t) → Begins Uleb (drop (op.at + 1) bytes)
    two_begins s t known =
        let (n, first, rest, uleb, whole, fits) = number_of_two s t known (holds (operands.Two s t) known) (there (operands.Two s t) known) in
        (n, first, rest, uleb, whole)

    pub two_room : (s t : Shape) → Known (operands.Two s t) → (n : ℕ) → BeginsWith n (drop (op.at + 1) bytes) → n + 1 ≤ size
    two_room s t known n begins =
        let (m, first, rest, uleb, whole, fits) = number_of_two s t known (holds (operands.Two s t) known) (there (operands.Two s t) known) in
        let is : n ≡ length first = size_is n (drop (op.at + 1) bytes) m first rest begins uleb whole in
        omega (arith, is, fits)

    pub typed_begins : (s : Shape) → Known (operands.Typed s) → Begins (SpellsPart s) (drop (op.at + 1) bytes)
    typed_begins s known =
        let o = there (operands.Typed s) known in
        let (p, (first, second, one, other, both), head) = o.spelled in
        (p.0, first, second ++ o.rest, one, o.whole ∙ ap (λ (z : List ℕ). z ++ o.rest) both ∙ append_assoc first second o.rest)

    -- the number of a base type stands last
    typed_last : (s : Shape) (end : ℕ) → Known (operands.Typed s) → IsEndOf (SpellsPart s) bytes (op.at + 1) end → (n : ℕ) × (first : List ℕ) × (rest : List ℕ) × Uleb n first × (drop end bytes ≡ first ++ rest) × (length first + 1 ≤ size)
    typed_last s end known ends =
        let o = there (operands.Typed s) known in
        let (p, (first, second, one, (n, uleb, is), both), head) = o.spelled in
        let split : drop (op.at + 1) bytes ≡ first ++ (second ++ o.rest) = o.whole ∙ ap (λ (z : List ℕ). z ++ o.rest) both ∙ append_assoc first second o.rest in
        let behind : drop end bytes ≡ second ++ o.rest = rest_is (SpellsPart s) bytes (op.at + 1) end p.0 first (second ++ o.rest) (part_once s) ends one split in
        let none : held_bytes o.head ≡ 0 = no_entry o.head op.code (operands.Typed s) o.coded known (λ wrong. absurd cc) in
        let parts : length o.tail ≡ length first + length second = ap length both ∙ length-append first second in
        let long = o.long in
        (n, second, o.rest, uleb, behind, omega (arith, none, parts, long))

    pub last_begins : (s : Shape) (end : ℕ) → Known (operands.Typed s) → IsEndOf (SpellsPart s) bytes (op.at + 1) end → Begins Uleb (drop end bytes)
    last_begins s end known ends =
        let (n, first, rest, uleb, whole, fits) = typed_last s end known ends in
        (n, first, rest, uleb, whole)

    pub typed_room : (s : Shape) (end : ℕ) → Known (operands.Typed s) → IsEndOf (SpellsPart s) bytes (op.at + 1) end → (n : ℕ) → BeginsWith n (drop end bytes) → n + 1 ≤ size
    typed_room s end known ends n begins =
        let (m, first, rest, uleb, whole, fits) = typed_last s end known ends in
        let is : n ≡ length first = size_is n (drop end bytes) m first rest begins uleb whole in
        omega (arith, is, fits)

  pub typed_size : (s : Shape) (end n : ℕ) → Known (operands.Typed s) → IsEndOf (SpellsPart s) bytes (op.at + 1) end → BeginsWith n (drop end bytes) → IsSizeOf bytes op n
  typed_size s end n known ends begins = record {
    call = λ call. absurd (no_call call);
    other = λ _. (operands.Typed s, known, (ends.thing, take (end - (op.at + 1)) (drop (op.at + 1) bytes), drop end bytes, ends.spelled, rest_and bytes (op.at + 1) end ends.starts, begins));
  }
