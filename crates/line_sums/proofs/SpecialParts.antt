-- Laws of the special opcodes of a row by their parts.
use Rattle.std.proofs.Common.{◌≡◌, ◌≤◌, ◌<◌, ◌+◌, ◌-◌, ◌*◌, ◌/◌, ◌%◌, ◌⊎◌, ◌∙◌, ℕ, min, ap, sym, subst, arith, inl, inr}
use Rattle.std.specs.Prelude.{ℤ, pos, ◌-ℤ◌, false}
use Rattle.std.proofs.lemmas.Bool.{cases_lt}
use Rattle.std.proofs.lemmas.Nat.{div-mul-add, mod-mul-add}
use Rattle.std.proofs.Math.Nat.{div-add-mod, mul-le-mul_right, div-mul-le_self}
use Rattle.leb_codec.specs.LineCosts.{IsLeastCost, AdvanceWithin, RowWithin, StepWithin, address_distance, advance_line_bytes, line_left}
use Rattle.line_step.specs.Formulas.{PartWithin}
use Rattle.line_step.proofs.RowWays.{div_rises, opcode_is}
use Rattle.line_sums.specs.declared.window.Windows.{Windows}
use Rattle.line_sums.specs.inside.Windows.{BeforeSpecial, IsReached, AreWindows, IsLineCost}

-- the special opcode of a part and a remainder is reached with what the part takes
reached : (range scale d part r bytes : ℕ) → r < range → part * range + r ≤ 242 → AdvanceWithin range scale (address_distance (part * scale) d) bytes → (s : ℕ) × (s ≤ 242) × (s % range ≡ r) × BeforeSpecial range scale d s bytes
reached range scale d part r bytes less few within =
    (part * range + r, few, mod-mul-add part range r less, subst (λ (x : ℕ). AdvanceWithin range scale (address_distance (x * scale) d) bytes) (sym (div-mul-add part range r less)) within)

pub wide_reached : (range scale d parts bytes : ℕ) → 0 < range → parts ≡ 242 / range → IsLeastCost (PartWithin range scale d parts) bytes → IsReached range scale d (range - 1) bytes
wide_reached range scale d parts bytes some is least = record {
  opcode = λ r few.
      let part = least.enough.0 in
      let next : (part + 1) * range ≤ 242 / range * range = mul-le-mul_right range (omega (arith, least.enough.1, is)) in
      let split : (part + 1) * range ≡ part * range + range = grind arith in
      reached range scale d part r bytes (omega arith) (omega (arith, next, split, div-mul-le_self 242 range)) least.enough.2;
}

pub last_reached : (range scale d bytes : ℕ) → 0 < range → IsLeastCost (AdvanceWithin range scale (address_distance (242 / range * scale) d)) bytes → IsReached range scale d (242 % range) bytes
last_reached range scale d bytes some least = record {
  opcode = λ r few.
      let below : 242 % range < range = omega arith in
      reached range scale d (242 / range) r bytes (omega arith) (omega (arith, div-add-mod 242 range)) least.enough;
}

-- a special opcode is of a part before the last, or of the last
of_part : (range scale d s n : ℕ) → 0 < range → s ≤ 242 → BeforeSpecial range scale d s n → ((s % range ≤ range - 1) × PartWithin range scale d (242 / range) n) ⊎ ((s % range ≤ 242 % range) × AdvanceWithin range scale (address_distance (242 / range * scale) d) n)
of_part range scale d s n some few within =
    elim (cases_lt (s / range) (242 / range)) [
      | inl before ↦ inl (let below : s % range < range = omega arith in omega arith, (s / range, before, within))
      | inr last ↦
          let same : s / range ≡ 242 / range = omega (arith, div_rises s 242 range some few) in
          inr (omega (arith, opcode_is s range (242 / range) same, div-add-mod 242 range), subst (λ (x : ℕ). AdvanceWithin range scale (address_distance (x * scale) d) n) same within)
    ]

-- the windows that the program takes: of both kinds, of those that add every number where the others take no fewer bytes, and of
-- the last alone
pub both_windows : (range scale d parts : ℕ) (w : Windows) → w.is_one ≡ false → 0 < range → parts ≡ 242 / range → w.wide.most ≡ range - 1 → IsLeastCost (PartWithin range scale d parts) w.wide.address → w.last.most ≡ 242 % range → IsLeastCost (AdvanceWithin range scale (address_distance (242 / range * scale) d)) w.last.address → AreWindows range scale d w
both_windows range scale d parts w differ some is wide_is wide last_is last = record {
  wide = rw wide_is (wide_reached range scale d parts w.wide.address some is wide);
  last = rw last_is (last_reached range scale d w.last.address some last);
  covers = λ s n few within.
      elim (of_part range scale d s n some few within) [
        | inl p ↦ inl (omega (arith, wide_is, p.0), wide.least n (subst (λ (x : ℕ). PartWithin range scale d x n) (sym is) p.1))
        | inr p ↦ inr (omega (arith, last_is, p.0), last.least n p.1)
      ];
  one = λ h. absurd (cc);
}

pub wide_windows : (range scale d parts : ℕ) (w : Windows) → 0 < range → parts ≡ 242 / range → w.wide.most ≡ range - 1 → IsLeastCost (PartWithin range scale d parts) w.wide.address → ((n : ℕ) → AdvanceWithin range scale (address_distance (242 / range * scale) d) n → w.wide.address ≤ n) → w.last ≡ w.wide → AreWindows range scale d w
wide_windows range scale d parts w some is wide_is wide low same =
    let reach : IsReached range scale d w.wide.most w.wide.address = rw wide_is (wide_reached range scale d parts w.wide.address some is wide) in
    record {
      wide = reach;
      last = rw same reach;
      covers = λ s n few within.
          let below : s % range < range = omega arith in
          elim (of_part range scale d s n some few within) [
            | inl p ↦ inl (omega (arith, wide_is), wide.least n (subst (λ (x : ℕ). PartWithin range scale d x n) (sym is) p.1))
            | inr p ↦ inl (omega (arith, wide_is), low n p.1)
          ];
      one = λ h. same;
    }

pub last_windows : (range scale d : ℕ) (w : Windows) → 0 < range → 242 / range ≡ 0 → w.last.most ≡ 242 % range → IsLeastCost (AdvanceWithin range scale (address_distance (242 / range * scale) d)) w.last.address → w.wide ≡ w.last → AreWindows range scale d w
last_windows range scale d w some none last_is last same =
    let reach : IsReached range scale d w.last.most w.last.address = rw last_is (last_reached range scale d w.last.address some last) in
    record {
      wide = rw same reach;
      last = reach;
      covers = λ s n few within.
          elim (of_part range scale d s n some few within) [
            | inl p ↦ absurd (omega (arith, none, p.1.1))
            | inr p ↦ inr (omega (arith, last_is, p.0), last.least n p.1)
          ];
      one = λ h. sym same;
    }

-- the least of the bytes by copy and by both kinds of special opcodes
pub step_least : (base : ℤ) (range scale : ℕ) (line : ℤ) (d copy wide last bytes : ℕ) (w : Windows) → AreWindows range scale d w → IsLeastCost (RowWithin range scale line d) copy → IsLineCost (line -ℤ base) w.wide.most wide → IsLineCost (line -ℤ base) w.last.most last → bytes ≡ min (min copy (1 + w.wide.address + wide)) (1 + w.last.address + last) → IsLeastCost (StepWithin base range scale line d) bytes
step_least base range scale line d copy wide last bytes w windows by_copy wide_line last_line is = record {
  enough = taken (cases_lt (1 + w.last.address + last) (min copy (1 + w.wide.address + wide))) (cases_lt (1 + w.wide.address + wide) copy);
  least = λ n within. low n within;
}
  where
    by_special : (s most cost a n : ℕ) → IsLineCost (line -ℤ base) most cost → s % range ≤ most → 1 + advance_line_bytes (line_left base range line s) + a ≤ n → 1 + a + cost ≤ n
    by_special s most cost a n line_cost inside fits = omega (arith, line_cost.fewest (s % range) inside)

    low : (n : ℕ) → StepWithin base range scale line d n → bytes ≤ n
    low n (inl row) = let l = by_copy.least n row in omega (arith, is)
    low n (inr (s, few, (a, within, fits))) =
        elim (windows.covers s a few within) [
          | inl p ↦ let l = by_special s w.wide.most wide a n wide_line p.0 fits in omega (arith, is, p.1)
          | inr p ↦ let l = by_special s w.last.most last a n last_line p.0 fits in omega (arith, is, p.1)
        ]

    special : (most address cost : ℕ) → IsReached range scale d most address → IsLineCost (line -ℤ base) most cost → bytes ≡ 1 + address + cost → StepWithin base range scale line d bytes
    special most address cost reach line_cost same =
        let r = line_cost.taken in
        let s = reach.opcode r.0 r.1 in
        let left : advance_line_bytes (line_left base range line s.0) ≡ cost = ap (λ (x : ℕ). advance_line_bytes (line -ℤ base -ℤ pos x)) s.2 ∙ sym r.2 in
        inr (s.0, s.1, (address, s.3, omega (arith, left, same)))

    taken : ((1 + w.last.address + last < min copy (1 + w.wide.address + wide)) ⊎ (min copy (1 + w.wide.address + wide) ≤ 1 + w.last.address + last)) → ((1 + w.wide.address + wide < copy) ⊎ (copy ≤ 1 + w.wide.address + wide)) → StepWithin base range scale line d bytes
    taken (inl last_less) other = special w.last.most w.last.address last windows.last last_line (omega (arith, is))
    taken (inr more) (inl wide_less) = special w.wide.most w.wide.address wide windows.wide wide_line (omega (arith, is))
    taken (inr more) (inr copy_less) = let e : bytes ≡ copy = omega (arith, is) in rw e (inl by_copy.enough)

pub copy_least : (range scale : ℕ) (line : ℤ) (d line_cost address copy : ℕ) → line_cost ≡ advance_line_bytes line → IsLeastCost (AdvanceWithin range scale d) address → copy ≡ 1 + line_cost + address → IsLeastCost (RowWithin range scale line d) copy
copy_least range scale line d line_cost address copy line_is least is = record {
  enough = (address, least.enough, omega (arith, line_is, is));
  least = λ n within. let low = least.least within.0 within.1 in omega (arith, line_is, is, within.2);
}
