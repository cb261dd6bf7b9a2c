-- Laws of the search for the best step.
use Rattle.std.proofs.Common.{◌≡◌, ◌≤◌, ◌<◌, ◌+◌, ◌-◌, ◌*◌, ◌/◌, ◌%◌, ◌^◌, ◌⊎◌, ℕ, min, ◌∙◌, ap, refl, subst, arith, inl, inr, sym}
use Rattle.std.specs.Prelude.{ℤ, pos, neg_ℤ, ◌-ℤ◌, ◌≤ℤ◌}
use Rattle.std.proofs.lemmas.Int.{ints}
use Rattle.std.proofs.lemmas.Bool.{cases_lt}
use Rattle.std.proofs.lemmas.Nat.{div-mul-add, mod-mul-add, le-div}
use Rattle.std.proofs.Math.Nat.{div-add-mod, mul-le-mul, mul-le-mul_right, div-mul-le_self}
use Rattle.leb_codec.specs.Leb.{least_signed_len}
use Rattle.leb_codec.specs.LineCosts.{IsLeastCost, advance_line_bytes, address_distance, AdvanceWithin, SpecialWithin, StepWithin}
use Rattle.line_step.specs.declared.way.AddressWay.{AddressWay}
use Rattle.line_step.specs.declared.way.RowOpcode.{RowOpcode}
use Rattle.line_step.specs.declared.way.RowOpcode.TheVariants.{Copy, Special}
use Rattle.line_step.specs.declared.way.RowWay.{RowWay}
use Rattle.line_step.specs.Ways.{IsAddressWay, IsRowWay, opcode_number, line_before, distance_before, OpcodeWithin}
use Rattle.line_step.specs.inside.Search.{IsRemainderFor, IsLinePart, IsOfPart, IsBestOfPart, IsOfParts, IsBestOfParts}
use Rattle.line_step.proofs.Parts.{line_opcode}
use Rattle.line_step.proofs.Remainders.{near_len}

pub div_rises : (s t range : ℕ) → 0 < range → s ≤ t → s / range ≤ t / range
div_rises s t range some h = le-div (s / range) t range some (omega (arith, div-mul-le_self s range))

-- a special opcode by its address part and its remainder
pub opcode_is : (s range part : ℕ) → s / range ≡ part → part * range + s % range ≡ s
opcode_is s range part same =
    let e : part * range ≡ s / range * range = ap (λ x. x * range) (sym same) in
    omega (arith, e, div-add-mod s range)

remainder_fits : (s range part : ℕ) → 0 < range → s ≤ 242 → s / range ≡ part → s % range ≤ min (range - 1) (242 - part * range)
remainder_fits s range part some few same =
    let less : s % range < range = omega arith in
    omega (arith, opcode_is s range part same, less)

-- the special opcode with the best remainder
pub best_part : (distance left : ℤ) (range part most rem : ℕ) → 0 < range → most ≡ min (range - 1) (242 - part * range) → part ≤ 242 / range → rem ≤ most → IsRemainderFor distance most rem → left ≡ distance -ℤ pos rem → IsLinePart distance range part (part * range + rem) left
best_part distance left range part most rem some is inside within best left_is =
    let filled : part * range ≤ 242 / range * range = mul-le-mul_right range inside in
    let within242 : part * range ≤ 242 = omega (arith, filled, div-mul-le_self 242 range) in
    let below : rem < range = omega arith in
    let rest : (part * range + rem) % range ≡ rem = mod-mul-add part range rem below in
    record {
      few = omega arith;
      of_part = div-mul-add part range rem below;
      left_is = omega (arith, ints, left_is, rest);
      fewest = λ s few same.
          let low = best.fewest (s % range) (omega (arith, is, remainder_fits s range part some few same)) in
          omega (arith, low, ap advance_line_bytes left_is);
      first = λ s lower same.
          let low = best.first (s % range) (omega (arith, opcode_is s range part same, lower)) in
          omega (arith, low, ap advance_line_bytes left_is);
    }

-- what a step by a special opcode of a part has at least
pub part_low : (base : ℤ) (range scale : ℕ) (line : ℤ) (d part special : ℕ) (left : ℤ) (bytes : ℕ) → IsLinePart (line -ℤ base) range part special left → bytes ≡ advance_line_bytes left → (s n : ℕ) → s ≤ 242 → s / range ≡ part → SpecialWithin base range scale line d s n → (a : ℕ) × AdvanceWithin range scale (address_distance (part * scale) d) a × (1 + bytes + a ≤ n)
part_low base range scale line d part special left bytes best is s n few same (a, within, cost) = (
  a,
  subst (λ (x : ℕ). AdvanceWithin range scale (address_distance (x * scale) d) a) same within,
  omega (arith, best.fewest s few same, cost, is),
)

-- the same of those below the best one
part_lower : (base : ℤ) (range scale : ℕ) (line : ℤ) (d part special : ℕ) (left : ℤ) (bytes : ℕ) → IsLinePart (line -ℤ base) range part special left → bytes ≡ advance_line_bytes left → (s n : ℕ) → 13 + s < 13 + special → s / range ≡ part → SpecialWithin base range scale line d s n → (a : ℕ) × AdvanceWithin range scale (address_distance (part * scale) d) a × (1 + bytes + a < n)
part_lower base range scale line d part special left bytes best is s n lower same (a, within, cost) = (
  a,
  subst (λ (x : ℕ). AdvanceWithin range scale (address_distance (x * scale) d) a) same within,
  omega (arith, best.first s (omega (arith, lower)) same, cost, is),
)

-- where a limit is no more than the line part
pub line_long : (base : ℤ) (range scale : ℕ) (line : ℤ) (d part special : ℕ) (left : ℤ) (bytes limit : ℕ) → IsLinePart (line -ℤ base) range part special left → bytes ≡ advance_line_bytes left → limit ≤ 1 + bytes → (s n : ℕ) → s ≤ 242 → s / range ≡ part → SpecialWithin base range scale line d s n → limit ≤ n
line_long base range scale line d part special left bytes limit best is long s n few same w =
    let low = part_low base range scale line d part special left bytes best is s n few same w in
    omega (arith, low.2, long)

-- where a limit is no more than the line part and the address part
pub both_long : (base : ℤ) (range scale : ℕ) (line : ℤ) (d part special : ℕ) (left : ℤ) (bytes far address limit : ℕ) → IsLinePart (line -ℤ base) range part special left → bytes ≡ advance_line_bytes left → far ≡ address_distance (part * scale) d → IsLeastCost (AdvanceWithin range scale far) address → limit ≤ 1 + bytes + address → (s n : ℕ) → s ≤ 242 → s / range ≡ part → SpecialWithin base range scale line d s n → limit ≤ n
both_long base range scale line d part special left bytes far address limit best is far_is least long s n few same w =
    let low = part_low base range scale line d part special left bytes best is s n few same w in
    omega (arith, low.2, long, least.least low.0 (subst (λ (x : ℕ). AdvanceWithin range scale x low.0) (sym far_is) low.1))

-- the distance before a special opcode, as the program computes it
pub far_is : (d part scale x y : ℕ) → x ≡ part → y ≡ scale → part ≤ 255 → scale ≤ 255 → (d + (18446744073709551616 - x * y)) % 18446744073709551616 ≡ address_distance (part * scale) d
far_is d part scale x y e f few small =
    let p : part * scale ≤ 255 * 255 = mul-le-mul {n₁ = part} {m₁ = scale} {n₂ = 255} {m₂ = 255} few small in
    let same : x * y ≡ part * scale = ap (λ v. v * y) e ∙ ap (λ v. part * v) f in
    omega (arith, same, p)

-- the step by the special opcode with the best remainder
pub part_best : (base : ℤ) (range scale : ℕ) (line : ℤ) (d part special : ℕ) (left : ℤ) (bytes far : ℕ) (address : AddressWay) → IsLinePart (line -ℤ base) range part special left → bytes ≡ advance_line_bytes left → far ≡ address_distance (part * scale) d → IsAddressWay range scale far address → IsBestOfPart base range scale line d part (record { address = address; line = left; opcode = Special special; bytes = 1 + bytes + address.bytes })
part_best base range scale line d part special left bytes far address best is far_is way =
    let way' : IsAddressWay range scale (address_distance (part * scale) d) address = subst (λ (x : ℕ). IsAddressWay range scale x address) far_is way in
    record {
      step_is = record {
        bytes = omega (arith, is);
        line_operand = best.left_is;
        address = subst (λ (x : ℕ). IsAddressWay range scale (address_distance (x * scale) d) address) (sym best.of_part) way';
      };
      of_part = (best.few, best.of_part);
      fewest = λ s n few same w.
          let low = part_low base range scale line d part special left bytes best is s n few same w in
          omega (arith, way'.least.least low.0 low.1, low.2);
      first = λ s n lower same w.
          let low = part_lower base range scale line d part special left bytes best is s n lower same w in
          omega (arith, way'.least.least low.0 low.1, low.2);
    }

-- one more address part
parts_cases : (range part s : ℕ) → s / range < part + 1 → (s / range < part) ⊎ (s / range ≡ part)
parts_cases range part s less = elim (cases_lt (s / range) part) [ inl before ↦ inl before | inr last ↦ inr (omega arith) ]

of_more : (range part : ℕ) (opcode : RowOpcode) → IsOfParts range part opcode → IsOfParts range (part + 1) opcode
of_more range part Copy h = tt
of_more range part (Special s) (few, less) = (few, omega arith)

keep_fewest : (base : ℤ) (range scale : ℕ) (line : ℤ) (d part : ℕ) (best : RowWay) → IsBestOfParts base range scale line d part best → ((s n : ℕ) → s ≤ 242 → s / range ≡ part → SpecialWithin base range scale line d s n → best.bytes ≤ n) → (opcode : RowOpcode) (n : ℕ) → IsOfParts range (part + 1) opcode → OpcodeWithin base range scale line d opcode n → best.bytes ≤ n
keep_fewest base range scale line d part best h low Copy n of w = h.fewest Copy n tt w
keep_fewest base range scale line d part best h low (Special s) n (few, less) w =
    elim (parts_cases range part s less) [
      | inl before ↦ h.fewest (Special s) n (few, before) w
      | inr last ↦ low s n few last w.1
    ]

-- opcodes of earlier parts are lower
not_lower : (range part s : ℕ) (opcode : RowOpcode) → 0 < range → IsOfParts range part opcode → s / range ≡ part → 13 + s < opcode_number opcode → ⊥
not_lower range part s Copy some of same lower = omega (arith, lower)
not_lower range part s (Special t) some (few, less) same lower =
    let rises : s / range ≤ t / range = div_rises s t range some (omega (arith, lower)) in
    omega (arith, rises, less, same)

keep_first : (base : ℤ) (range scale : ℕ) (line : ℤ) (d part : ℕ) (best : RowWay) → 0 < range → IsBestOfParts base range scale line d part best → (opcode : RowOpcode) (n : ℕ) → IsOfParts range (part + 1) opcode → opcode_number opcode < opcode_number best.opcode → OpcodeWithin base range scale line d opcode n → best.bytes < n
keep_first base range scale line d part best some h Copy n of lower w = h.first Copy n tt lower w
keep_first base range scale line d part best some h (Special s) n (few, less) lower w =
    elim (parts_cases range part s less) [
      | inl before ↦ h.first (Special s) n (few, before) lower w
      | inr last ↦ absurd (not_lower range part s best.opcode some h.of_parts last lower)
    ]

-- a step that is as short as those of the next part
pub keep_step : (base : ℤ) (range scale : ℕ) (line : ℤ) (d part : ℕ) (best : RowWay) → 0 < range → IsBestOfParts base range scale line d part best → ((s n : ℕ) → s ≤ 242 → s / range ≡ part → SpecialWithin base range scale line d s n → best.bytes ≤ n) → IsBestOfParts base range scale line d (part + 1) best
keep_step base range scale line d part best some h low = record {
  step_is = h.step_is;
  of_parts = of_more range part best.opcode h.of_parts;
  fewest = keep_fewest base range scale line d part best h low;
  first = keep_first base range scale line d part best some h;
}

of_next : (range part : ℕ) (opcode : RowOpcode) → IsOfPart range part opcode → IsOfParts range (part + 1) opcode
of_next range part Copy h = tt
of_next range part (Special s) (few, same) = (few, omega arith)

take_fewest : (base : ℤ) (range scale : ℕ) (line : ℤ) (d part : ℕ) (best way : RowWay) → IsBestOfParts base range scale line d part best → IsBestOfPart base range scale line d part way → way.bytes < best.bytes → (opcode : RowOpcode) (n : ℕ) → IsOfParts range (part + 1) opcode → OpcodeWithin base range scale line d opcode n → way.bytes ≤ n
take_fewest base range scale line d part best way h new less Copy n of w = omega (arith, h.fewest Copy n tt w)
take_fewest base range scale line d part best way h new less (Special s) n (few, of) w =
    elim (parts_cases range part s of) [
      | inl before ↦ omega (arith, h.fewest (Special s) n (few, before) w)
      | inr last ↦ new.fewest s n few last w.1
    ]

take_first : (base : ℤ) (range scale : ℕ) (line : ℤ) (d part : ℕ) (best way : RowWay) → IsBestOfParts base range scale line d part best → IsBestOfPart base range scale line d part way → way.bytes < best.bytes → (opcode : RowOpcode) (n : ℕ) → IsOfParts range (part + 1) opcode → opcode_number opcode < opcode_number way.opcode → OpcodeWithin base range scale line d opcode n → way.bytes < n
take_first base range scale line d part best way h new less Copy n of lower w = omega (arith, h.fewest Copy n tt w)
take_first base range scale line d part best way h new less (Special s) n (few, of) lower w =
    elim (parts_cases range part s of) [
      | inl before ↦ omega (arith, h.fewest (Special s) n (few, before) w)
      | inr last ↦ new.first s n lower last w.1
    ]

-- a step that is shorter than those before
pub take_step : (base : ℤ) (range scale : ℕ) (line : ℤ) (d part : ℕ) (best way : RowWay) → IsBestOfParts base range scale line d part best → IsBestOfPart base range scale line d part way → way.bytes < best.bytes → IsBestOfParts base range scale line d (part + 1) way
take_step base range scale line d part best way h new less = record {
  step_is = new.step_is;
  of_parts = of_next range part way.opcode new.of_part;
  fewest = take_fewest base range scale line d part best way h new less;
  first = take_first base range scale line d part best way h new less;
}

copy_fewest : (base : ℤ) (range scale : ℕ) (line : ℤ) (d bytes : ℕ) (address : AddressWay) → IsAddressWay range scale d address → bytes ≡ 1 + advance_line_bytes line + address.bytes → (opcode : RowOpcode) (n : ℕ) → IsOfParts range 0 opcode → OpcodeWithin base range scale line d opcode n → bytes ≤ n
copy_fewest base range scale line d bytes address way is Copy n of (a, within, cost) = omega (arith, is, way.least.least a within, cost)
copy_fewest base range scale line d bytes address way is (Special s) n (few, less) w = absurd (omega (arith, less))

copy_first : (base : ℤ) (range scale : ℕ) (line : ℤ) (d bytes : ℕ) (opcode : RowOpcode) (n : ℕ) → IsOfParts range 0 opcode → opcode_number opcode < 1 → OpcodeWithin base range scale line d opcode n → bytes < n
copy_first base range scale line d bytes Copy n of lower w = absurd (omega (arith, lower))
copy_first base range scale line d bytes (Special s) n (few, less) lower w = absurd (omega (arith, less))

-- the step by copy
pub copy_step : (base : ℤ) (range scale : ℕ) (line operand : ℤ) (d bytes : ℕ) (address : AddressWay) → IsAddressWay range scale d address → operand ≡ line → bytes ≡ advance_line_bytes line → IsBestOfParts base range scale line d 0 (record { address = address; line = operand; opcode = Copy; bytes = 1 + bytes + address.bytes })
copy_step base range scale line operand d bytes address way same is = record {
  step_is = record {
    bytes = omega (arith, is, ap advance_line_bytes same);
    line_operand = same;
    address = way;
  };
  of_parts = tt;
  fewest = copy_fewest base range scale line d (1 + bytes + address.bytes) address way (omega (arith, is));
  first = copy_first base range scale line d (1 + bytes + address.bytes);
}

number_few : (range parts : ℕ) (opcode : RowOpcode) → IsOfParts range parts opcode → opcode_number opcode ≤ 255
number_few range parts Copy of = omega arith
number_few range parts (Special s) (few, less) = omega arith

step_enough : (base : ℤ) (range scale : ℕ) (line operand : ℤ) (d parts bytes : ℕ) (address : AddressWay) (opcode : RowOpcode) → IsOfParts range parts opcode → bytes ≡ 1 + advance_line_bytes operand + address.bytes → operand ≡ line_before base range line opcode → IsAddressWay range scale (distance_before range scale d opcode) address → StepWithin base range scale line d bytes
step_enough base range scale line operand d parts bytes address Copy of is same way =
    inl (address.bytes, way.least.enough, omega (arith, is, ap advance_line_bytes same))
step_enough base range scale line operand d parts bytes address (Special s) (few, less) is same way =
    inr (s, few, (address.bytes, way.least.enough, omega (arith, is, ap advance_line_bytes same)))

step_least : (base : ℤ) (range scale : ℕ) (line : ℤ) (d parts : ℕ) (best : RowWay) → 0 < range → 242 / range < parts → IsBestOfParts base range scale line d parts best → (n : ℕ) → StepWithin base range scale line d n → best.bytes ≤ n
step_least base range scale line d parts best some all h n (inl plain) = h.fewest Copy n tt plain
step_least base range scale line d parts best some all h n (inr (s, few, w)) =
    let rises : s / range ≤ 242 / range = div_rises s 242 range some few in
    h.fewest (Special s) n (few, omega (arith, rises)) (few, w)

step_first : (base : ℤ) (range scale : ℕ) (line : ℤ) (d parts : ℕ) (best : RowWay) → 0 < range → 242 / range < parts → IsBestOfParts base range scale line d parts best → (lower : RowOpcode) (n : ℕ) → opcode_number lower < opcode_number best.opcode → OpcodeWithin base range scale line d lower n → best.bytes < n
step_first base range scale line d parts best some all h Copy n less w = h.first Copy n tt less w
step_first base range scale line d parts best some all h (Special s) n less (few, w) =
    let rises : s / range ≤ 242 / range = div_rises s 242 range some few in
    h.first (Special s) n (few, omega (arith, rises)) less (few, w)

-- all parts are visited
pub step_done : (base : ℤ) (range scale : ℕ) (line : ℤ) (d parts : ℕ) (best : RowWay) → 0 < range → 242 / range < parts → IsBestOfParts base range scale line d parts best → IsRowWay base range scale line d best
step_done base range scale line d parts best some all h = record {
  bytes = h.step_is.bytes;
  opcode = number_few range parts best.opcode h.of_parts;
  line_operand = h.step_is.line_operand;
  address = h.step_is.address;
  least = record {
    enough = step_enough base range scale line best.line d parts best.bytes best.address best.opcode h.of_parts h.step_is.bytes h.step_is.line_operand h.step_is.address;
    least = step_least base range scale line d parts best some all h;
  };
  first = step_first base range scale line d parts best some all h;
}

-- a step has few bytes: copy after advance_line and set_address
pub step_few : (base : ℤ) (range scale : ℕ) (line : ℤ) (d n : ℕ) → neg_ℤ (pos (2 ^ 32)) ≤ℤ line → line ≤ℤ pos (2 ^ 32) → IsLeastCost (StepWithin base range scale line d) n → n ≤ 18
step_few base range scale line d n low high h =
    let few = near_len line (least_signed_len line) refl (omega (arith, ints)) (omega (arith, ints)) in
    let short = line_opcode line in
    h.least 18 (inl (11, inl (omega arith), omega (arith, few, short)))
