-- The sizes of the slots of operations that stand in their fewest bytes.
use Rattle.std.proofs.Common.{◌≡◌, ◌≢◌, ◌≤◌, ◌+◌, ◌-◌, ◌∙◌, ◌++◌, inl, inr, ℕ, suc, List, [], ◌∷◌, length, drop, cond, sym, ap, subst, refl, arith, add-zero}
use Rattle.std.specs.Prelude.{Bool, true, false, Option, Some, None, if◌then◌else◌, nat_eq, nat_lt, slice_index}
use Rattle.std.specs.Int.{w64, cast_unsigned}
use Rattle.std.specs.List.{AllZip}
use Rattle.std.proofs.lemmas.Bool.Decides.{eqb_tells}
use Rattle.std.proofs.lemmas.List.{append_assoc, append_cancel_left, drop-drop, drop_at, get_or-drop, length-drop}
use Rattle.spelled.proofs.Parts.{same_front}
use Rattle.leb_codec.specs.Leb.{Uleb, ShortestUnsigned, least_unsigned_len}
use Rattle.leb_codec.proofs.Fronts.{leb_front}
use Rattle.expr_ops.specs.declared.op.Op.{Op}
use Rattle.expr_ops.specs.declared.table.Operands.{Operands}
use Rattle.expr_ops.specs.declared.table.Operands.TheVariants as operands
use Rattle.expr_ops.specs.declared.table.Shape.{Shape}
use Rattle.expr_ops.specs.declared.table.Shape.TheVariants as shape
use Rattle.expr_ops.specs.declared.table.Width.{Width}
use Rattle.expr_ops.specs.declared.table.Width.TheVariants as width
use Rattle.expr_ops.specs.Drafts.{is_slot}
use Rattle.expr_ops.specs.Expressions.{Operation}
use Rattle.expr_ops.specs.Heads.{size_of, Part, SpellsPart}
use Rattle.expr_ops.specs.Ops.{meant, all_meant, IsLead, Chain}
use Rattle.expr_ops.specs.Puts.{PutsOwn, PutsOperands, PutsSecond, PutsCall, call_code, call_size as call_bytes, low_bytes}
use Rattle.expr_ops.specs.Shortest.{needed_size}
use Rattle.expr_ops.specs.Table.{operands_of}
use Rattle.expr_ops.proofs.HeadLaws.{some_same}
use Rattle.form_codec.specs.declared.form.Width.TheVariants as form_width
use Rattle.form_codec.proofs.WriteLaws.{low_len}
use Rattle.written_files.specs.inside.FewestBytes.{fewest_sizes, held_length, fewest_slot, as_written, StandsShortest, AreShortest}
use Rattle.unit_slots.specs.Standing.{BeginsWith, IsCallSize, IsSizeOf, slotted}
use Rattle.unit_slots.specs.inside.Added.{Begins, IsEndOf}
use Rattle.unit_slots.proofs.NumberEnds.{end_is}
use Rattle.unit_slots.proofs.OperandSlots.{slot_codes, one_begins, two_begins, typed_begins, last_begins, typed_size}

-- a number that begins some bytes, and is shortest there, has the fewest bytes
shortest_begins : (bytes : List ℕ) (n : ℕ) (first rest : List ℕ) → ShortestUnsigned n first → bytes ≡ first ++ rest → Begins Uleb bytes → BeginsWith (least_unsigned_len n) bytes
shortest_begins bytes n first rest short whole (m, own, more, spelled, there) =
    let same : first ≡ own = leb_front first own rest more short.0.0 spelled.0.0 (sym whole ∙ there) in
    record { number = m; first = own; rest = more; spelled = spelled; whole = there; sized = sym short.1 ∙ ap length same }

-- a number of a width has its bytes
low_long : (w : Width) (n : ℕ) → length (low_bytes (size_of w) n) ≡ size_of w
low_long width.One n = low_len form_width.One n
low_long width.Two n = low_len form_width.Two n
low_long width.Four n = low_len form_width.Four n
low_long width.Eight n = low_len form_width.Eight n

-- CALLS

abbrev coded_call : Bool → ℕ
coded_call b = call_code (Some (if b then 2 else 4))

call_sized : (b : Bool) (code : ℕ) → code ≡ coded_call b → IsCallSize code (if b then 2 else 4)
call_sized true code is = inl (is, refl)
call_sized false code is = inr (is, refl)

-- WHAT OTHER SLOTS STAND IN

-- operands of which one is a number in ULEB128 that has no block behind it
abbrev HoldsPlain : Operands → Type 0
HoldsPlain (operands.One shape.Uleb) = Unit {0}
HoldsPlain (operands.Two shape.Uleb t) = Unit {0}
HoldsPlain (operands.Typed (shape.Unsigned w)) = Unit {0}
HoldsPlain (operands.Typed shape.Uleb) = Unit {0}
HoldsPlain other = ⊥

plain_operands : (code a : ℕ) (kinds : Operands) → is_slot code a ≡ true → code ≢ 153 → code ≢ 163 → operands_of code ≡ Some kinds → HoldsPlain kinds
plain_operands code a kinds slot no_call no_entry known =
    slot_codes (λ (n : ℕ). n ≢ 163 → operands_of n ≡ Some kinds → HoldsPlain kinds) code a slot no_call
    (λ other known. absurd (other refl))
    (λ other known. subst HoldsPlain (some_same (operands.Two shape.Uleb shape.ByteCounted) kinds known) tt)
    (λ other known. subst HoldsPlain (some_same (operands.Typed shape.Uleb) kinds known) tt)
    (λ other known. subst HoldsPlain (some_same (operands.Typed (shape.Unsigned width.One)) kinds known) tt)
    (λ other known. subst HoldsPlain (some_same (operands.Typed (shape.Unsigned width.One)) kinds known) tt)
    (λ other known. subst HoldsPlain (some_same (operands.One shape.Uleb) kinds known) tt)
    (λ other known. subst HoldsPlain (some_same (operands.One shape.Uleb) kinds known) tt)
    no_entry known

-- ONE OPERATION

-- An operation that stands somewhere, and what it is written as there.
module _ (bytes : List ℕ) (op : Op) (size : ℕ) (slot : is_slot op.code op.a ≡ true) (lead : IsLead bytes op.at size op) (o : Operation) (same : o.code ≡ op.code) (rest : List ℕ) where
  -- what follows its opcode
  behind : (code : ℕ) (tail : List ℕ) → drop op.at bytes ≡ (code ∷ tail) ++ rest → drop (op.at + 1) bytes ≡ tail ++ rest
  behind code tail whole = sym (drop-drop 1 op.at bytes) ∙ ap (drop 1) whole

  first_is : (code : ℕ) (tail : List ℕ) → drop op.at bytes ≡ (code ∷ tail) ++ rest → slice_index bytes op.at ≡ code
  first_is code tail whole = ap (slice_index bytes) (sym (add-zero op.at)) ∙ sym (get_or-drop op.at bytes 0 0) ∙ ap (λ (z : List ℕ). slice_index z 0) whole

  within : (code : ℕ) (tail : List ℕ) → drop op.at bytes ≡ (code ∷ tail) ++ rest → op.at + 1 ≤ length bytes
  within code tail whole =
      let left : length (drop op.at bytes) ≡ length bytes - op.at = length-drop op.at bytes in
      let some : length (drop op.at bytes) ≡ suc (length (tail ++ rest)) = ap length whole in
      omega (arith, left, some)

  call_stands : (b : Bool) (own : List ℕ) → op.code ≡ 153 → drop op.at bytes ≡ own ++ rest → PutsCall (Some (if b then 2 else 4)) o.a own → IsSizeOf bytes op (if b then 2 else 4)
  call_stands b own call whole put =
      let tail : List ℕ = low_bytes (call_bytes (Some (if b then 2 else 4))) o.a in
      let parts : drop op.at bytes ≡ (coded_call b ∷ tail) ++ rest = whole ∙ ap (λ (z : List ℕ). z ++ rest) put in
      record { call = λ _. call_sized b (slice_index bytes op.at) (first_is (coded_call b) tail parts); other = λ no_call. absurd (no_call call) }

  one_stands : (s : Shape) (tail : List ℕ) → (no_call : op.code ≢ 153) → operands_of op.code ≡ Some (operands.One s) → drop (op.at + 1) bytes ≡ tail ++ rest → ShortestUnsigned o.a tail → IsSizeOf bytes op (least_unsigned_len o.a)
  one_stands s tail no_call known whole short = record {
    call = λ call. absurd (no_call call);
    other = λ _. (operands.One s, known, shortest_begins (drop (op.at + 1) bytes) o.a tail rest short whole (one_begins bytes op size slot no_call lead s known));
  }

  two_stands : (s t : Shape) (first second : List ℕ) → (no_call : op.code ≢ 153) → operands_of op.code ≡ Some (operands.Two s t) → drop (op.at + 1) bytes ≡ (first ++ second) ++ rest → ShortestUnsigned o.a first → IsSizeOf bytes op (least_unsigned_len o.a)
  two_stands s t first second no_call known whole short = record {
    call = λ call. absurd (no_call call);
    other = λ _. (operands.Two s t, known, shortest_begins (drop (op.at + 1) bytes) o.a first (second ++ rest) short (whole ∙ append_assoc first second rest) (two_begins bytes op size slot no_call lead s t known));
  }

  -- what stands before the number of a base type ends by itself
  part_front : (s : Shape) (first own : List ℕ) (part : Part) (x y : List ℕ) → HoldsPlain (operands.Typed s) → PutsSecond s o first → SpellsPart s part own → first ++ x ≡ own ++ y → first ≡ own
  part_front (shape.Unsigned w) first own part x y plain put spelled h =
      same_front first own x y (ap length put ∙ low_long w (cast_unsigned w64 o.s) ∙ sym spelled.0) h
  part_front shape.Uleb first own part x y plain put (n, spelled, is) h = leb_front first own x y put.0.0 spelled.0.0 h
  part_front s first own part x y plain put spelled h = absurd plain

  typed_stands : (s : Shape) (first second : List ℕ) → HoldsPlain (operands.Typed s) → (no_call : op.code ≢ 153) → operands_of op.code ≡ Some (operands.Typed s) → op.at + 1 ≤ length bytes → drop (op.at + 1) bytes ≡ (first ++ second) ++ rest → PutsSecond s o first → ShortestUnsigned o.a second → IsSizeOf bytes op (least_unsigned_len o.a)
  typed_stands s first second plain no_call known inside whole put short =
      let (part, own, more, spelled, there) = typed_begins bytes op size slot no_call lead s known in
      let parts : first ++ (second ++ rest) ≡ own ++ more = sym (append_assoc first second rest) ∙ sym whole ∙ there in
      let front : first ≡ own = part_front s first own part (second ++ rest) more plain put spelled parts in
      let left : more ≡ second ++ rest = sym (append_cancel_left own (second ++ rest) more (ap (λ (z : List ℕ). z ++ (second ++ rest)) (sym front) ∙ parts)) in
      let end : ℕ = op.at + 1 + length own in
      let ends : IsEndOf (SpellsPart s) bytes (op.at + 1) end = end_is (SpellsPart s) bytes (op.at + 1) end part own more inside spelled there refl in
      let after : drop end bytes ≡ second ++ rest = sym (drop-drop (length own) (op.at + 1) bytes) ∙ ap (drop (length own)) there ∙ drop_at own more (length own) refl ∙ left in
      typed_size bytes op size slot no_call s end (least_unsigned_len o.a) known ends (shortest_begins (drop end bytes) o.a second rest short after (last_begins bytes op size slot no_call lead s end known ends))

  plain_stands : (kinds : Operands) (tail : List ℕ) → HoldsPlain kinds → (no_call : op.code ≢ 153) → operands_of op.code ≡ Some kinds → op.at + 1 ≤ length bytes → drop (op.at + 1) bytes ≡ tail ++ rest → PutsOperands kinds None o tail → IsSizeOf bytes op (least_unsigned_len o.a)
  plain_stands operands.Nothing tail plain no_call known inside whole put = absurd plain
  plain_stands (operands.One shape.Uleb) tail plain no_call known inside whole put = one_stands shape.Uleb tail no_call known whole put
  plain_stands (operands.One s) tail plain no_call known inside whole put = absurd plain
  plain_stands (operands.Two shape.Uleb t) tail plain no_call known inside whole (first, second, p, q, parts) = two_stands shape.Uleb t first second no_call known (whole ∙ ap (λ (z : List ℕ). z ++ rest) parts) p
  plain_stands (operands.Two s t) tail plain no_call known inside whole put = absurd plain
  plain_stands (operands.Typed s) tail plain no_call known inside whole (first, second, p, q, parts) = typed_stands s first second plain no_call known inside (whole ∙ ap (λ (z : List ℕ). z ++ rest) parts) p q

  -- an operation other than a call
  other_stands : (own : List ℕ) → op.code ≢ 153 → drop op.at bytes ≡ own ++ rest → PutsOwn None o own → IsSizeOf bytes op (least_unsigned_len o.a)
  other_stands own no_call whole (inl (call, put)) = absurd (no_call (sym same ∙ call))
  other_stands own no_call whole (inr (inl (entry, (tail, short, parts)))) =
      one_stands shape.Counted tail no_call (ap operands_of (sym same ∙ entry)) (behind 163 tail (whole ∙ ap (λ (z : List ℕ). z ++ rest) parts)) short
  other_stands own no_call whole (inr (inr (not_call, no_entry, (kinds, tail, known, put, parts)))) =
      let all : drop op.at bytes ≡ (o.code ∷ tail) ++ rest = whole ∙ ap (λ (z : List ℕ). z ++ rest) parts in
      let also : operands_of op.code ≡ Some kinds = ap operands_of (sym same) ∙ known in
      plain_stands kinds tail (plain_operands op.code op.a kinds slot no_call (λ entry. no_entry (same ∙ entry)) also) no_call also (within o.code tail all) (behind o.code tail all) put

  -- a call of two bytes or four
  put_call : (b : Bool) (own : List ℕ) → op.code ≡ 153 → drop op.at bytes ≡ own ++ rest → PutsOwn (Some (if b then 2 else 4)) o own → IsSizeOf bytes op (if b then 2 else 4)
  put_call b own call whole (inl (is, put)) = call_stands b own call whole put
  put_call b own call whole (inr (inl (entry, put))) = absurd (omega (arith, entry, same, call))
  put_call b own call whole (inr (inr (not_call, no_entry, put))) = absurd (not_call (same ∙ call))

-- The slot of an operation that stands in its fewest bytes has those that its number needs.
fewest_stands : (bytes : List ℕ) (op : Op) (behind : List Op) (size : ℕ) → is_slot op.code op.a ≡ true → IsLead bytes op.at size op → StandsShortest bytes op behind → IsSizeOf bytes op (needed_size (meant bytes op) (held_length (meant bytes op) (all_meant bytes behind)))
fewest_stands bytes op behind size slot lead stands =
    let held : ℕ = held_length (meant bytes op) (all_meant bytes behind) in
    let o : Operation = as_written held stands.distance (meant bytes op) in
    let few : ℕ = if nat_lt op.a 65536 then 2 else 4 in
    elim (eqb_tells op.code 163) [
      | inl (entry, is) ↦
          let no_call : op.code ≢ 153 = λ call. absurd (omega (arith, is, call)) in
          let slot_is : fewest_slot (meant bytes op) ≡ None = ap (λ (n : ℕ). if nat_eq n 153 then Some few else None) is in
          let put : PutsOwn None o stands.own = subst (λ (z : Option ℕ). PutsOwn z o stands.own) slot_is stands.put in
          let number : o.a ≡ held = ap (λ (b : Bool). if b then held else op.a) entry in
          let size_is : needed_size (meant bytes op) held ≡ least_unsigned_len held = ap (λ (b : Bool). if b then least_unsigned_len held else (if nat_eq op.code 153 then few else least_unsigned_len op.a)) entry in
          subst (IsSizeOf bytes op) (ap least_unsigned_len number ∙ sym size_is) (other_stands bytes op size slot lead o refl stands.rest stands.own no_call stands.stands put)
      | inr (entry, no_entry) ↦ elim (eqb_tells op.code 153) [
        | inl (test, call) ↦
            let slot_is : fewest_slot (meant bytes op) ≡ Some few = ap (λ (b : Bool). if b then Some few else None) test in
            let put : PutsOwn (Some few) o stands.own = subst (λ (z : Option ℕ). PutsOwn z o stands.own) slot_is stands.put in
            let size_is : needed_size (meant bytes op) held ≡ few = ap (λ (b : Bool). if b then least_unsigned_len held else (if nat_eq op.code 153 then few else least_unsigned_len op.a)) entry ∙ ap (λ (b : Bool). if b then few else least_unsigned_len op.a) test in
            subst (IsSizeOf bytes op) (sym size_is) (put_call bytes op size slot lead o refl stands.rest (nat_lt op.a 65536) stands.own call stands.stands put)
        | inr (test, no_call) ↦
            let slot_is : fewest_slot (meant bytes op) ≡ None = ap (λ (b : Bool). if b then Some few else None) test in
            let put : PutsOwn None o stands.own = subst (λ (z : Option ℕ). PutsOwn z o stands.own) slot_is stands.put in
            let number : o.a ≡ op.a = ap (λ (b : Bool). if b then held else op.a) entry in
            let size_is : needed_size (meant bytes op) held ≡ least_unsigned_len op.a = ap (λ (b : Bool). if b then least_unsigned_len held else (if nat_eq op.code 153 then few else least_unsigned_len op.a)) entry ∙ ap (λ (b : Bool). if b then few else least_unsigned_len op.a) test in
            subst (IsSizeOf bytes op) (ap least_unsigned_len number ∙ sym size_is) (other_stands bytes op size slot lead o refl stands.rest stands.own no_call stands.stands put)
      ]
    ]

-- ALL OPERATIONS

zip_more : (bytes : List ℕ) (b : Bool) (op : Op) (ops : List Op) (n : ℕ) (sizes : List ℕ) → (b ≡ true → IsSizeOf bytes op n) → AllZip (IsSizeOf bytes) ops sizes → AllZip (IsSizeOf bytes) (cond b (op ∷ ops) ops) (if b then n ∷ sizes else sizes)
zip_more bytes true op ops n sizes here rest = (here refl, rest)
zip_more bytes false op ops n sizes here rest = rest

-- the slots of operations have their fewest bytes
pub operations_fewest : (bytes : List ℕ) (ops : List Op) (at end : ℕ) → Chain bytes at ops end → AreShortest bytes ops → AllZip (IsSizeOf bytes) (slotted ops) (fewest_sizes (all_meant bytes ops))
operations_fewest bytes [] at end chain each = tt
operations_fewest bytes (op ∷ ops) at end (here, (size, lead, more)) (stands, others) =
    let own : IsLead bytes op.at size op = subst (λ (n : ℕ). IsLead bytes n size op) (sym here) lead in
    zip_more bytes (is_slot op.code op.a) op (slotted ops) (needed_size (meant bytes op) (held_length (meant bytes op) (all_meant bytes ops))) (fewest_sizes (all_meant bytes ops)) (λ slot. fewest_stands bytes op ops size slot own stands)
    (operations_fewest bytes ops (at + size) end more others)
