-- Opcodes that step to a row, or to the end of a sequence.
use Rattle.std.proofs.Common.{◌≡◌, ◌≤◌, ◌<◌, ◌+◌, ◌-◌, ◌*◌, ◌/◌, ◌%◌, ◌^◌, ◌==◌, ◌∙◌, ℕ, zero, suc, [], ◌∷◌, ◌++◌, replicate, sym, ap, refl, arith}
use Rattle.std.specs.Prelude.{ℤ, pos, negsuc, ◌+ℤ◌, not}
use Rattle.std.proofs.lemmas.Int.{ints}
use Rattle.leb_codec.specs.Leb.{least_unsigned_len, least_signed_len}
use Rattle.leb_codec.specs.LineCosts.{advance_pc_bytes, advance_line_bytes}
use Rattle.line_machine.specs.declared.head.Head.{Head}
use Rattle.line_machine.specs.declared.opcode.Opcode.TheVariants.{AdvancePc, AdvanceLine, ConstAddPc, FixedAdvancePc, SetAddress}
use Rattle.line_machine.specs.declared.registers.Registers.{Registers}
use Rattle.line_machine.specs.Rows.{advanced}
use Rattle.line_machine.specs.Class.{with_pair}
use Rattle.line_step.specs.declared.way.Advance.{Advance}
use Rattle.line_step.specs.declared.way.AddressOpcodes.{AddressOpcodes}
use Rattle.line_step.specs.declared.way.AddressOpcodes.TheVariants.{SetAddress as ByAddress, AdvanceBy}
use Rattle.line_step.specs.declared.way.AddressWay.{AddressWay}
use Rattle.line_step.specs.Ways.{opcodes_bytes, IsAdvance, Advances, IsAddressWay}
use Rattle.line_step.proofs.Parts.{pc_none, pc_some, line_none}
use Rattle.line_params.specs.Order.{opcode_if, fixed_opcodes, advance_opcodes, address_opcodes, line_opcodes}
use Rattle.line_params.specs.inside.Appended.{IsFull, IsFullAdvance}
use Rattle.line_params.proofs.Doing.{Does, does_none, does_append, does_same, does_one, does_change, size_code, size_uleb, size_sleb, size_fixed, size_address}
use Rattle.line_params.proofs.Full.{way_full}

advanced_none : (r : Registers) → r.address < 2 ^ 64 → r ≡ advanced 0 r
advanced_none r fits =
    let e : r.address ≡ (r.address + 0) % 2 ^ 64 = omega arith in
    ap (λ z. record r { address = z }) e

advanced_sum : (a b c : ℕ) (r : Registers) → a + b ≡ c → advanced b (advanced a r) ≡ advanced c r
advanced_sum a b c r e =
    let f : ((r.address + a) % 2 ^ 64 + b) % 2 ^ 64 ≡ (r.address + c) % 2 ^ 64 = omega arith in
    ap (λ z. record r { address = z }) f

module _ (head : Head) (base : ℤ) (range : ℕ) where
  does_const : (count : ℕ) (r : Registers) → r.address < 2 ^ 64 → Does (with_pair head base range) r (replicate count ConstAddPc) [] (advanced (count * (242 / range * head.min)) r) count
  does_const zero r fits =
      let e : 0 ≡ 0 * (242 / range * head.min) = omega arith in
      does_same (with_pair head base range) r r (advanced (0 * (242 / range * head.min)) r) [] [] 0 0 (advanced_none r fits ∙ ap (λ z. advanced z r) e) refl (does_none (with_pair head base range) r)
  does_const (suc count) r fits =
      let unit = 242 / range * head.min in
      let s = advanced unit r in
      let one : Does (with_pair head base range) r (ConstAddPc ∷ []) [] s 1 = does_one (with_pair head base range) r ConstAddPc 1 tt (size_code 8) in
      let all = does_append (with_pair head base range) r s (advanced (count * unit) s) (ConstAddPc ∷ []) (replicate count ConstAddPc) [] [] 1 count one (does_const count s (omega arith)) in
      let sum : unit + count * unit ≡ suc count * unit = omega arith in
      does_same (with_pair head base range) r (advanced (count * unit) s) (advanced (suc count * unit) r) (replicate (suc count) ConstAddPc) [] (1 + count) (suc count) (advanced_sum unit (count * unit) (suc count * unit) r sum) (omega arith) all

  does_greatest : (count : ℕ) (r : Registers) → r.address < 2 ^ 64 → Does (with_pair head base range) r (replicate count (FixedAdvancePc 65535)) [] (advanced (65535 * count) r) (3 * count)
  does_greatest zero r fits =
      does_same (with_pair head base range) r r (advanced (65535 * 0) r) [] [] 0 (3 * 0) (advanced_none r fits) refl (does_none (with_pair head base range) r)
  does_greatest (suc count) r fits =
      let s = advanced 65535 r in
      let one : Does (with_pair head base range) r (FixedAdvancePc 65535 ∷ []) [] s 3 = does_one (with_pair head base range) r (FixedAdvancePc 65535) 3 tt (size_fixed 9 2 65535) in
      let all = does_append (with_pair head base range) r s (advanced (65535 * count) s) (FixedAdvancePc 65535 ∷ []) (replicate count (FixedAdvancePc 65535)) [] [] 3 (3 * count) one (does_greatest count s (omega arith)) in
      does_same (with_pair head base range) r (advanced (65535 * count) s) (advanced (65535 * suc count) r) (replicate (suc count) (FixedAdvancePc 65535)) [] (3 + 3 * count) (3 * suc count) (advanced_sum 65535 (65535 * count) (65535 * suc count) r (omega arith)) (omega arith) all

  does_fixed : (count total : ℕ) (r : Registers) → r.address < 2 ^ 64 → total ≤ 65535 * count → 65535 * (count - 1) ≤ total → Does (with_pair head base range) r (fixed_opcodes count total) [] (advanced total r) (3 * count)
  does_fixed zero total r fits room needed =
      let e : 0 ≡ total = omega arith in
      does_same (with_pair head base range) r r (advanced total r) [] [] 0 (3 * 0) (advanced_none r fits ∙ ap (λ z. advanced z r) e) refl (does_none (with_pair head base range) r)
  does_fixed (suc others) total r fits room needed =
      let s = advanced (65535 * others) r in
      let last = total - 65535 * others in
      let one : Does (with_pair head base range) s (FixedAdvancePc last ∷ []) [] (advanced last s) 3 = does_one (with_pair head base range) s (FixedAdvancePc last) 3 tt (size_fixed 9 2 last) in
      let all = does_append (with_pair head base range) r s (advanced last s) (replicate others (FixedAdvancePc 65535)) (FixedAdvancePc last ∷ []) [] [] (3 * others) 3 (does_greatest others r fits) one in
      does_same (with_pair head base range) r (advanced last s) (advanced total r) (fixed_opcodes (suc others) total) [] (3 * others + 3) (3 * suc others) (advanced_sum (65535 * others) last total r (omega arith)) (omega arith) all

  does_operand : (q : ℕ) (r : Registers) → r.address < 2 ^ 64 → q * head.min < 2 ^ 64 → Does (with_pair head base range) r (opcode_if (not (q == 0)) (AdvancePc q)) [] (advanced (q * head.min) r) (advance_pc_bytes q)
  does_operand q r fits product =
      does_change (with_pair head base range) r (advanced (q * head.min) r) q 0 (AdvancePc q) (advance_pc_bytes q)
      (λ ne. does_same (with_pair head base range) r (advanced (q * head.min) r) (advanced (q * head.min) r) (AdvancePc q ∷ []) [] (1 + least_unsigned_len q) (advance_pc_bytes q) refl (sym (pc_some q (omega (arith, ne)))) (does_one (with_pair head base range) r (AdvancePc q) (1 + least_unsigned_len q) product (size_uleb 2 q)))
      (λ e.
      let by : 0 ≡ q * head.min = omega (arith, ap (λ z. z * head.min) e) in
      does_same (with_pair head base range) r r (advanced (q * head.min) r) [] [] 0 (advance_pc_bytes q) (advanced_none r fits ∙ ap (λ z. advanced z r) by) (sym (ap advance_pc_bytes e ∙ pc_none)) (does_none (with_pair head base range) r))

  does_advance : (distance : ℕ) (a : Advance) (r : Registers) → r.address < 2 ^ 64 → distance < 2 ^ 64 → IsAdvance range head.min distance a → IsFull a → Does (with_pair head base range) r (advance_opcodes a) [] (advanced distance r) (advance_pc_bytes a.operand + a.const_adds + 3 * a.fixed_adds)
  does_advance distance a r fits below is full =
      let pc = a.operand * head.min in
      let const = a.const_adds * (242 / range * head.min) in
      let exact : pc + const + a.fixed_sum ≡ distance = omega (arith, is.exact) in
      let product : pc < 2 ^ 64 = omega arith in
      let s = advanced pc r in
      let t = advanced const s in
      let operand = opcode_if (not (a.operand == 0)) (AdvancePc a.operand) in
      let consts = replicate a.const_adds ConstAddPc in
      let two = does_append (with_pair head base range) r s t operand consts [] [] (advance_pc_bytes a.operand) a.const_adds (does_operand a.operand r fits product) (does_const a.const_adds s (omega arith)) in
      let all = does_append (with_pair head base range) r t (advanced a.fixed_sum t) (operand ++ consts) (fixed_opcodes a.fixed_adds a.fixed_sum) [] [] (advance_pc_bytes a.operand + a.const_adds) (3 * a.fixed_adds) two (does_fixed a.fixed_adds a.fixed_sum t (omega arith) full.room full.needed) in
      let reached = ap (advanced a.fixed_sum) (advanced_sum pc const (pc + const) r refl) ∙ advanced_sum (pc + const) a.fixed_sum distance r exact in
      does_same (with_pair head base range) r (advanced a.fixed_sum t) (advanced distance r) (advance_opcodes a) [] (advance_pc_bytes a.operand + a.const_adds + 3 * a.fixed_adds) (advance_pc_bytes a.operand + a.const_adds + 3 * a.fixed_adds) reached refl all

  does_opcodes : (distance to bytes : ℕ) (opcodes : AddressOpcodes) (r : Registers) → r.address < 2 ^ 64 → distance < 2 ^ 64 → to ≡ (r.address + distance) % 2 ^ 64 → bytes ≡ opcodes_bytes opcodes → Advances range head.min distance opcodes → IsFullAdvance opcodes → Does (with_pair head base range) r (address_opcodes to opcodes) [] (record r { address = to }) bytes
  does_opcodes distance to bytes ByAddress r fits below e size is full =
      does_same (with_pair head base range) r (record r { address = to }) (record r { address = to }) (SetAddress to ∷ []) [] 11 bytes refl (sym size) (does_one (with_pair head base range) r (SetAddress to) 11 tt (size_address to))
  does_opcodes distance to bytes (AdvanceBy a) r fits below e size is full =
      let same : advance_pc_bytes a.operand + a.const_adds + 3 * a.fixed_adds ≡ bytes = omega arith in
      does_same (with_pair head base range) r (advanced distance r) (record r { address = to }) (advance_opcodes a) [] (advance_pc_bytes a.operand + a.const_adds + 3 * a.fixed_adds) bytes (ap (λ z. record r { address = z }) (sym e)) same (does_advance distance a r fits below is full)

  -- the way that is taken over a distance
  pub does_way : (distance to : ℕ) (way : AddressWay) (r : Registers) → r.address < 2 ^ 64 → distance < 2 ^ 64 → to ≡ (r.address + distance) % 2 ^ 64 → IsAddressWay range head.min distance way → Does (with_pair head base range) r (address_opcodes to way.opcodes) [] (record r { address = to }) way.bytes
  does_way distance to way r fits below e is =
      does_opcodes distance to way.bytes way.opcodes r fits below e is.bytes is.advances (way_full range head.min distance way is)

line_left : (z : ℤ) → z +ℤ pos 0 ≡ z
line_left z = omega (arith, ints)

some_line : (n : ℕ) → 1 + least_signed_len (pos (suc n)) ≡ advance_line_bytes (pos (suc n))
unfolding advance_line_bytes
some_line n = refl

back_line : (n : ℕ) → 1 + least_signed_len (negsuc n) ≡ advance_line_bytes (negsuc n)
unfolding advance_line_bytes
back_line n = refl

pub does_line : (head : Head) (r : Registers) (line : ℤ) → Does head r (line_opcodes line) [] (record r { line = r.line +ℤ line }) (advance_line_bytes line)
does_line head r (pos zero) =
    does_same head r r (record r { line = r.line +ℤ pos 0 }) [] [] 0 (advance_line_bytes (pos 0)) (ap (λ z. record r { line = z }) (sym (line_left r.line))) (sym line_none) (does_none head r)
does_line head r (pos (suc n)) =
    does_same head r (record r { line = r.line +ℤ pos (suc n) }) (record r { line = r.line +ℤ pos (suc n) }) (AdvanceLine (pos (suc n)) ∷ []) [] (1 + least_signed_len (pos (suc n))) (advance_line_bytes (pos (suc n))) refl (some_line n) (does_one head r (AdvanceLine (pos (suc n))) (1 + least_signed_len (pos (suc n))) tt (size_sleb 3 (pos (suc n))))
does_line head r (negsuc n) =
    does_same head r (record r { line = r.line +ℤ negsuc n }) (record r { line = r.line +ℤ negsuc n }) (AdvanceLine (negsuc n) ∷ []) [] (1 + least_signed_len (negsuc n)) (advance_line_bytes (negsuc n)) refl (back_line n) (does_one head r (AdvanceLine (negsuc n)) (1 + least_signed_len (negsuc n)) tt (size_sleb 3 (negsuc n)))
