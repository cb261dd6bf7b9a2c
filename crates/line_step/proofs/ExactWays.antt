-- Laws of special opcodes that make a step alone.
use Rattle.std.proofs.Common.{◌≡◌, ◌≤◌, ◌<◌, ◌+◌, ◌*◌, ◌/◌, ◌%◌, ℕ, ◌∙◌, ap, subst, sym, arith, inl, inr}
use Rattle.std.specs.Prelude.{ℤ, pos, ◌-ℤ◌}
use Rattle.std.proofs.lemmas.Int.{ints}
use Rattle.std.proofs.lemmas.Bool.{cases_lt}
use Rattle.std.proofs.lemmas.Nat.{div-mul-add, mod-mul-add}
use Rattle.std.proofs.Math.Nat.{mul-le-mul, mul-div_left, div-add-mod}
use Rattle.leb_codec.specs.LineCosts.{advance_line_bytes, address_distance, AdvanceWithin, RowWithin, SpecialWithin, StepWithin}
use Rattle.line_step.specs.declared.way.AddressOpcodes.TheVariants.{AdvanceBy}
use Rattle.line_step.specs.declared.way.AddressWay.{AddressWay}
use Rattle.line_step.specs.declared.way.RowOpcode.{RowOpcode}
use Rattle.line_step.specs.declared.way.RowOpcode.TheVariants.{Copy, Special}
use Rattle.line_step.specs.Ways.{IsAddressWay, IsRowWay, opcode_number, OpcodeWithin}
use Rattle.line_step.proofs.Forms.{within_none}
use Rattle.line_step.proofs.NearWays.{nowhere}
use Rattle.line_step.proofs.Parts.{pc_none, line_none, line_some, zero_or}
use Rattle.line_step.proofs.RowWays.{opcode_is}

-- no opcode, where the address stays
abbrev no_advance : AddressWay
no_advance = record { opcodes = AdvanceBy (record { operand = 0; const_adds = 0; fixed_adds = 0; fixed_sum = 0 }); bytes = 0 }

stays : (range scale d : ℕ) → d ≡ 0 → IsAddressWay range scale d no_advance
stays range scale d none = record {
  bytes = omega (arith, pc_none);
  advances = record { exact = omega (arith, none); fixed = omega arith };
  least = record { enough = nowhere range scale d none; least = λ n within. omega arith };
  set = (λ same. cc, λ most. absurd (omega (arith, most)));
  first = λ form. record { fewest_fixed = omega arith; fewest_const = λ same. omega arith; least_sum = λ same same'. omega arith };
}

line_free : (z : ℤ) → advance_line_bytes z ≡ 0 → z ≡ pos 0
line_free z free = elim (zero_or z) [ inl none ↦ none | inr some ↦ absurd (omega (arith, line_some z some, free)) ]

-- one byte is the row's opcode alone
row_alone : (range scale : ℕ) (line : ℤ) (d n : ℕ) → RowWithin range scale line d n → n ≤ 1 → (line ≡ pos 0) × (d ≡ 0)
row_alone range scale line d n (a, within, cost) few =
    let none : a ≡ 0 = omega (arith, cost) in
    (line_free line (omega (arith, cost)), within_none range scale d (subst (λ (x : ℕ). AdvanceWithin range scale d x) none within))

step_some : (base : ℤ) (range scale : ℕ) (line : ℤ) (d n : ℕ) → StepWithin base range scale line d n → 1 ≤ n
step_some base range scale line d n (inl (a, within, cost)) = omega (arith, cost)
step_some base range scale line d n (inr (s, few, (a, within, cost))) = omega (arith, cost)

-- the distance by its instructions, as the program computes them
pub instructions_are : (d s scale : ℕ) → s ≡ scale → d % s ≡ 0 → d ≡ d / s * scale
instructions_are d s scale same rest = omega (arith, div-add-mod d s, ap (λ x. d / s * x) same, rest)

-- few instructions don't wrap the address
advance_small : (part scale : ℕ) → part ≤ 242 → scale ≤ 255 → part * scale ≤ 242 * 255
advance_small part scale few small = mul-le-mul {n₁ = part} {m₁ = scale} {n₂ = 242} {m₂ = 255} few small

none_left : (x d : ℕ) → x ≤ 242 * 255 → d ≡ x → address_distance x d ≡ 0
none_left x d small same = omega arith

all_taken : (x d : ℕ) → x ≤ 242 * 255 → d ≤ 242 * 255 → address_distance x d ≡ 0 → x ≡ d
all_taken x d small small' none = omega arith

part_few : (s range : ℕ) → s ≤ 242 → s / range ≤ 242
part_few s range few = omega arith

-- a special opcode that makes the step alone is this one
alone_is : (base : ℤ) (range scale : ℕ) (line : ℤ) (d part added s n : ℕ) → 0 < scale → scale ≤ 255 → part ≤ 242 → d ≡ part * scale → line -ℤ base ≡ pos added → s ≤ 242 → SpecialWithin base range scale line d s n → n ≤ 1 → s ≡ part * range + added
alone_is base range scale line d part added s n scaled small few exact line_is few' w short =
    let alone = row_alone range scale _ _ n w short in
    let taken : s / range * scale ≡ part * scale = all_taken (s / range * scale) d (advance_small (s / range) scale (part_few s range few') small) (omega (arith, exact, advance_small part scale few small)) alone.1 ∙ exact in
    let same : s / range ≡ part = sym (mul-div_left (s / range) scaled) ∙ ap (λ x. x / scale) taken ∙ mul-div_left part scaled in
    let rest : s % range ≡ added = omega (arith, ints, alone.0, line_is) in
    omega (arith, opcode_is s range part same, rest)

-- no lower opcode makes the step alone
none_lower : (base : ℤ) (range scale : ℕ) (line : ℤ) (d part added special : ℕ) → 0 < scale → scale ≤ 255 → part ≤ 242 → d ≡ part * scale → line -ℤ base ≡ pos added → special ≡ part * range + added → (line ≡ pos 0 → d ≡ 0 → ⊥) → (lower : RowOpcode) (n : ℕ) → opcode_number lower < 13 + special → OpcodeWithin base range scale line d lower n → 1 < n
none_lower base range scale line d part added special scaled small few exact line_is is some Copy n less w =
    elim (cases_lt 1 n) [
      | inl more ↦ more
      | inr short ↦ let alone = row_alone range scale line d n w short in absurd (some alone.0 alone.1)
    ]
none_lower base range scale line d part added special scaled small few exact line_is is some (Special s) n less (few', w) =
    elim (cases_lt 1 n) [
      | inl more ↦ more
      | inr short ↦ absurd (omega (arith, less, is, alone_is base range scale line d part added s n scaled small few exact line_is few' w short))
    ]

-- the special opcode that makes a step alone, where copy doesn't
pub exact_row : (base : ℤ) (range scale : ℕ) (line : ℤ) (d part added special : ℕ) → 0 < scale → scale ≤ 255 → part ≤ 242 → d ≡ part * scale → line -ℤ base ≡ pos added → added < range → special ≡ part * range + added → special ≤ 242 → (line ≡ pos 0 → d ≡ 0 → ⊥) → IsRowWay base range scale line d (record { address = no_advance; line = pos 0; opcode = Special special; bytes = 1 })
exact_row base range scale line d part added special scaled small few exact line_is below is most some =
    let same : special / range ≡ part = ap (λ x. x / range) is ∙ div-mul-add part range added below in
    let rest : special % range ≡ added = ap (λ x. x % range) is ∙ mod-mul-add part range added below in
    let exact' : d ≡ special / range * scale = exact ∙ ap (λ x. x * scale) (sym same) in
    let left : pos 0 ≡ line -ℤ base -ℤ pos (special % range) = omega (arith, ints, line_is, rest) in
    let none : address_distance (special / range * scale) d ≡ 0 = none_left (special / range * scale) d (advance_small (special / range) scale (part_few special range most) small) exact' in
    let way : IsAddressWay range scale (address_distance (special / range * scale) d) no_advance = stays range scale (address_distance (special / range * scale) d) none in
    record {
      bytes = omega (arith, line_none);
      opcode = omega arith;
      line_operand = left;
      address = way;
      least = record {
        enough = inr (special, most, (0, way.least.enough, omega (arith, line_none, ap advance_line_bytes left)));
        least = step_some base range scale line d;
      };
      first = none_lower base range scale line d part added special scaled small few exact line_is is some;
    }
