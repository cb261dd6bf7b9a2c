-- What the reader of opcodes has found is an opcode, or a fault.
use Rattle.std.proofs.Common.{◌≡◌, ◌≢◌, ◌≤◌, ◌<◌, ◌+◌, ◌-◌, ℕ, suc, List, ◌∷◌, ◌++◌, length, take, drop, ◌∙◌, sym, ap, refl, subst, arith, inl, inr}
use Rattle.std.proofs.lemmas.List.{take-append-drop, length-drop, drop-drop}
use Rattle.std.specs.Prelude.{slice_index}
use Rattle.leb_codec.specs.Leb.{Uleb}
use Rattle.dw_base.specs.declared.fault.Kind.{Kind}
use Rattle.dw_base.specs.declared.fault.Kind.TheVariants.{LebWide, Short, LineOp}
use Rattle.dw_base.specs.declared.fault.Fault.{Fault}
use Rattle.line_machine.specs.declared.opcode.Opcode.{Opcode}
use Rattle.line_machine.specs.declared.opcode.Opcode.TheVariants.{EndSequence, SetAddress, SetDiscriminator}
use Rattle.fixed_width.specs.Numbers.{number_at}
use Rattle.line_machine.specs.Opcodes.{WithUleb, WithFixed, SpellsOperation, SpellsExtended, SpellsOpcode}
use Rattle.line_machine.specs.Faults.{FaultOpcode, IsSized, IsWrongCount}
use Rattle.line_machine.specs.inside.Readings.{FaultOperation}
use Rattle.line_machine.proofs.Parts.{first_at, part_from, number_part}
use Rattle.spelled.proofs.Parts.{take_sum, length_part, bytes_part}
use Rattle.spelled.specs.Spelled.{AreBytes}

-- a code and a number of fixed width
pub fixed_read : (code n value at count : ℕ) (bytes : List ℕ) → at + count ≤ length bytes → count ≡ suc n → slice_index bytes at ≡ code → value ≡ number_at n (at + 1) bytes → AreBytes bytes → WithFixed code n value (take count (drop at bytes))
fixed_read code n value at count bytes inside e here is all = record {
  operand = take n (drop (at + 1) bytes);
  size = length_part (at + 1) n bytes (omega arith);
  bounded = bytes_part (at + 1) n bytes all (omega arith);
  number = is ∙ number_part n (at + 1) bytes;
  whole = ap (λ k. take k (drop at bytes)) e ∙ part_from at n bytes (omega arith) ∙ ap (λ c. c ∷ take n (drop (at + 1) bytes)) here;
}

-- a code and a ULEB128
pub uleb_read : (code value at count end : ℕ) (bytes : List ℕ) → end ≤ length bytes → at + 1 < end → end ≡ at + count → slice_index bytes at ≡ code → Uleb value (take (end - (at + 1)) (drop (at + 1) bytes)) → WithUleb code value (take count (drop at bytes))
uleb_read code value at count end bytes inside more e here u =
    let n = end - (at + 1) in
    let size : count ≡ suc n = omega arith in (
      take n (drop (at + 1) bytes),
      u,
      ap (λ k. take k (drop at bytes)) size ∙ part_from at n bytes (omega arith) ∙ ap (λ c. c ∷ take n (drop (at + 1) bytes)) here,
    )

-- a ULEB128 of another length than is said
pub wrong_count : (value at count end : ℕ) (bytes : List ℕ) → end ≤ length bytes → at + 1 < end → end ≢ at + count → slice_index bytes at ≡ 4 → Uleb value (take (end - (at + 1)) (drop (at + 1) bytes)) → IsWrongCount count (slice_index bytes at) (drop (at + 1) bytes)
wrong_count value at count end bytes inside more other here u =
    let n = end - (at + 1) in
    let size : length (take n (drop (at + 1) bytes)) ≡ n = length_part (at + 1) n bytes (omega arith) in
    inr (inr (inl (here, (take n (drop (at + 1) bytes), drop n (drop (at + 1) bytes), u.0.0, sym (take-append-drop n (drop (at + 1) bytes)), λ e. other (omega (arith, e, size))))))

pub wrong_operand : (value at count end : ℕ) (bytes : List ℕ) (f : Fault) → f.kind ≡ LineOp → f.place ≡ 0 → end ≤ length bytes → at + 1 < end → end ≢ at + count → slice_index bytes at ≡ 4 → Uleb value (take (end - (at + 1)) (drop (at + 1) bytes)) → FaultOperation at count f.kind f.place bytes
wrong_operand value at count end bytes f k p inside more other here u =
    subst (λ (z : Kind). FaultOperation at count z f.place bytes) (sym k) (p, wrong_count value at count end bytes inside more other here u)

-- a fault is one of a kind and a place
pub fault_is : (base : ℕ) (f : Fault) (kind : Kind) (place : ℕ) (bytes : List ℕ) → f.kind ≡ kind → f.place ≡ place → FaultOpcode base kind place bytes → FaultOpcode base f.kind f.place bytes
fault_is base f kind place bytes k p h =
    subst (λ (z : Kind). FaultOpcode base z f.place bytes) (sym k) (subst (λ (z : ℕ). FaultOpcode base kind z bytes) (sym p) h)

-- the length of an extended opcode, and what follows it
sized : (rest : List ℕ) (count end : ℕ) → 1 < end → end ≤ length rest → Uleb count (take (end - 1) (drop 1 rest)) → IsSized (drop 1 rest) (take (end - 1) (drop 1 rest)) count (drop end rest)
sized rest count end some inside u =
    let n = end - 1 in
    let e : 1 + n ≡ end = omega arith in
    record {
      number = u;
      whole = sym (take-append-drop n (drop 1 rest)) ∙ ap (λ z. take n (drop 1 rest) ++ z) (drop-drop n 1 rest ∙ ap (λ k. drop k rest) e);
    }

sized_from : (rest : List ℕ) (count end : ℕ) → 1 < end → end < length rest → slice_index rest end ≡ 4 → Uleb count (take (end - 1) (drop 1 rest)) → IsSized (drop 1 rest) (take (end - 1) (drop 1 rest)) count (4 ∷ drop (end + 1) rest)
sized_from rest count end some inside here u =
    let s = sized rest count end some (omega arith) u in
    record {
      number = u;
      whole = s.whole ∙ ap (λ z. take (end - 1) (drop 1 rest) ++ z) (first_at end rest inside ∙ ap (λ c. c ∷ drop (end + 1) rest) here);
    }

-- the length is 0
pub no_length : (base count end : ℕ) (rest : List ℕ) (f : Fault) → f.kind ≡ LineOp → f.place ≡ 0 → 0 < length rest → slice_index rest 0 ≡ 0 → 1 < end → end ≤ length rest → Uleb count (take (end - 1) (drop 1 rest)) → count ≡ 0 → FaultOpcode base f.kind f.place rest
no_length base count end rest f k p filled zero_there some inside u none =
    fault_is base f LineOp 0 rest k p (filled, zero_there, (take (end - 1) (drop 1 rest), count, drop end rest, sized rest count end some inside u, inl none, refl))

-- the opcode leaves the program
pub leaves : (base count end : ℕ) (rest : List ℕ) (f : Fault) → f.kind ≡ Short → f.place ≡ 0 → 0 < length rest → slice_index rest 0 ≡ 0 → 1 < end → end ≤ length rest → Uleb count (take (end - 1) (drop 1 rest)) → length rest - end < count → FaultOpcode base f.kind f.place rest
leaves base count end rest f k p filled zero_there some inside u over =
    let size : length (drop end rest) ≡ length rest - end = length-drop end rest in
    fault_is base f Short 0 rest k p (inr (filled, zero_there, inr (inl (take (end - 1) (drop 1 rest), count, drop end rest, sized rest count end some inside u, omega arith, refl))))

-- the fault of what follows the length
pub operation_fault : (base count end : ℕ) (rest : List ℕ) (kind : Kind) (place : ℕ) → 0 < length rest → slice_index rest 0 ≡ 0 → 1 < end → 0 < count → end + count ≤ length rest → Uleb count (take (end - 1) (drop 1 rest)) → FaultOperation end count kind place rest → FaultOpcode base kind place rest
operation_fault base count end rest Short place filled zero_there some counted inside u (p, here, short) =
    let size : length (take (end - 1) (drop 1 rest)) ≡ end - 1 = length_part 1 (end - 1) rest (omega arith) in
    inr (filled, zero_there, inr (inr (take (end - 1) (drop 1 rest), count, drop (end + 1) rest, sized_from rest count end some (omega arith) here u, counted, short, omega arith)))
operation_fault base count end rest LebWide place filled zero_there some counted inside u (p, here, wide) =
    let size : length (take (end - 1) (drop 1 rest)) ≡ end - 1 = length_part 1 (end - 1) rest (omega arith) in
    inr (filled, zero_there, inr (take (end - 1) (drop 1 rest), count, drop (end + 1) rest, sized_from rest count end some (omega arith) here u, counted, wide, omega arith))
operation_fault base count end rest LineOp place filled zero_there some counted inside u (p, wrong) =
    let cons : drop end rest ≡ slice_index rest end ∷ drop (end + 1) rest = first_at end rest (omega arith) in
    let size : length (drop end rest) ≡ length rest - end = length-drop end rest in
    let same : IsWrongCount count (slice_index (drop end rest) 0) (drop 1 (drop end rest)) =
    subst (λ (z : List ℕ). IsWrongCount count (slice_index z 0) (drop 1 z)) (sym cons) wrong
    in
    (filled, zero_there, (take (end - 1) (drop 1 rest), count, drop end rest, sized rest count end some (omega arith) u, inr (omega arith, same), p))
operation_fault base count end rest _ place filled zero_there some counted inside u f = absurd f

extended : (count end : ℕ) (rest : List ℕ) (op : Opcode) → 0 < length rest → slice_index rest 0 ≡ 0 → 1 < end → end + count ≤ length rest → Uleb count (take (end - 1) (drop 1 rest)) → SpellsOperation op (take count (drop end rest)) → SpellsExtended op (take (end + count) rest)
extended count end rest op filled zero_there some inside u s =
    let n = end - 1 in
    let size : length (take count (drop end rest)) ≡ count = length_part end count rest inside in
    let e : 1 + n ≡ end = omega arith in
    let f : end + count ≡ suc (n + count) = omega arith in
    record {
      size = take n (drop 1 rest);
      body = take count (drop end rest);
      counted = subst (λ (z : ℕ). Uleb z (take n (drop 1 rest))) (sym size) u;
      operation = s;
      whole =
          ap (λ k. take k rest) f ∙ part_from 0 (n + count) rest filled ∙ ap (λ c. c ∷ take (n + count) (drop 1 rest)) zero_there
          ∙ ap (λ z. 0 ∷ z) (take_sum n count (drop 1 rest) ∙ ap (λ z. take n (drop 1 rest) ++ take count z) (drop-drop n 1 rest ∙ ap (λ k. drop k rest) e));
    }

-- the extended opcode
pub extended_read : (base count end : ℕ) (rest : List ℕ) (op : Opcode) → 0 < length rest → slice_index rest 0 ≡ 0 → 1 < end → end + count ≤ length rest → Uleb count (take (end - 1) (drop 1 rest)) → SpellsOperation op (take count (drop end rest)) → SpellsOpcode base op (take (end + count) rest)
extended_read base count end rest EndSequence filled zero_there some inside u s = extended count end rest EndSequence filled zero_there some inside u s
extended_read base count end rest (SetAddress a) filled zero_there some inside u s = extended count end rest (SetAddress a) filled zero_there some inside u s
extended_read base count end rest (SetDiscriminator v) filled zero_there some inside u s = extended count end rest (SetDiscriminator v) filled zero_there some inside u s
extended_read base count end rest _ filled zero_there some inside u s = absurd s
