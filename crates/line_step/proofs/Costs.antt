-- The costs are formulas.
use Rattle.std.proofs.Common.{◌≡◌, ◌≤◌, ◌<◌, ◌+◌, ◌*◌, ◌/◌, ◌%◌, ◌^◌, ◌==◌, if◌then◌else◌, ℕ, refl, subst, arith, inl, inr, sym}
use Rattle.std.specs.Prelude.{ℤ, pos, ◌-ℤ◌}
use Rattle.leb_codec.specs.Leb.{least_unsigned_len}
use Rattle.leb_codec.specs.LineCosts.{IsLeastCost, advance_pc_bytes, advance_line_bytes, address_distance, AdvanceForm, AdvanceWithin, RowWithin, StepWithin, EndWithin}
use Rattle.line_step.specs.Formulas.{sum_bytes, Reaches, IsAdvanceCost, special_bytes, IsStepCost, CostFormulas}

-- the bytes of advance_pc, written out
pc_is : (q : ℕ) → advance_pc_bytes q ≡ (if q == 0 then 0 else 1 + least_unsigned_len q)
unfolding advance_pc_bytes
pc_is q = refl

form_of : (range scale d k j q f n : ℕ) → Reaches range scale d k j q f → sum_bytes k j q ≤ n → AdvanceForm range scale d n
form_of range scale d k j q f n (exact, fixed) cost = record {
  const_adds = k;
  fixed_adds = j;
  operand = q;
  fixed_sum = f;
  exact = exact;
  fixed = fixed;
  cost = omega (arith, cost, pc_is q);
}

form_cost : (range scale d n : ℕ) (a : AdvanceForm range scale d n) → sum_bytes a.const_adds a.fixed_adds a.operand ≤ n
form_cost range scale d n a = omega (arith, a.cost, pc_is a.operand)

to_formula : (range scale d n : ℕ) → IsLeastCost (AdvanceWithin range scale d) n → IsAdvanceCost range scale d n
to_formula range scale d n h = record {
  most = h.least 11 (inl (omega arith));
  least = λ k j q f r. h.least (sum_bytes k j q) (inr (form_of range scale d k j q f (sum_bytes k j q) r (omega arith)));
  taken =
      elim h.enough [
        | inl many ↦ let e : n ≡ 11 = omega (arith, h.least 11 (inl (omega arith))) in inl e
        | inr a ↦
            let low = form_cost range scale d n a in
            let high = h.least (sum_bytes a.const_adds a.fixed_adds a.operand) (inr (form_of range scale d a.const_adds a.fixed_adds a.operand a.fixed_sum (sum_bytes a.const_adds a.fixed_adds a.operand) (a.exact, a.fixed) (omega arith))) in
            inr (a.const_adds, a.fixed_adds, a.operand, a.fixed_sum, (a.exact, a.fixed), omega (arith, low, high))
      ];
}

of_formula : (range scale d n : ℕ) → IsAdvanceCost range scale d n → IsLeastCost (AdvanceWithin range scale d) n
of_formula range scale d n h = record {
  enough =
      elim h.taken [
        | inl most ↦ inl (omega (arith, most))
        | inr (k, j, q, f, r, same) ↦ inr (form_of range scale d k j q f n r (omega (arith, same)))
      ];
  least = λ fewer w.
      elim w [
        | inl many ↦ omega (arith, h.most)
        | inr a ↦ omega (arith, h.least a.const_adds a.fixed_adds a.operand a.fixed_sum (a.exact, a.fixed), form_cost range scale d fewer a)
      ];
}

within_cost : (range scale d a n : ℕ) → IsAdvanceCost range scale d a → AdvanceWithin range scale d n → a ≤ n
within_cost range scale d a n h w = (of_formula range scale d a h).least n w

cost_within : (range scale d a : ℕ) → IsAdvanceCost range scale d a → AdvanceWithin range scale d a
cost_within range scale d a h = (of_formula range scale d a h).enough

-- a row opcode's least bytes, from the cost of its address part
row_within : (range scale : ℕ) (line : ℤ) (d a : ℕ) → IsAdvanceCost range scale d a → RowWithin range scale line d (1 + advance_line_bytes line + a)
row_within range scale line d a h = (a, cost_within range scale d a h, omega arith)

row_least : (range scale : ℕ) (line : ℤ) (d a n : ℕ) → IsAdvanceCost range scale d a → RowWithin range scale line d n → 1 + advance_line_bytes line + a ≤ n
row_least range scale line d a n h (b, within, cost) = omega (arith, within_cost range scale d a b h within)

distance_fits : (from to : ℕ) → address_distance from to < 2 ^ 64
distance_fits from to = omega arith

step_to : (base : ℤ) (range scale : ℕ) (dl : ℤ) (d n : ℕ) (advance : ℕ → ℕ) → d < 2 ^ 64 → ((x : ℕ) → x < 2 ^ 64 → IsAdvanceCost range scale x (advance x)) → IsLeastCost (StepWithin base range scale dl d) n → IsStepCost advance base range scale dl d n
step_to base range scale dl d n advance fits costs h = record {
  copy = h.least (1 + advance_line_bytes dl + advance d) (inl (row_within range scale dl d (advance d) (costs d fits)));
  special = λ s few. h.least (special_bytes advance base range scale dl d s) (inr (s, few, row_within range scale (dl -ℤ base -ℤ pos (s % range)) (address_distance (s / range * scale) d) (advance (address_distance (s / range * scale) d)) (costs (address_distance (s / range * scale) d) (distance_fits (s / range * scale) d))));
  taken =
      elim h.enough [
        | inl w ↦
            let low = row_least range scale dl d (advance d) n (costs d fits) w in
            let high = h.least (1 + advance_line_bytes dl + advance d) (inl (row_within range scale dl d (advance d) (costs d fits))) in
            inl (omega (arith, low, high))
        | inr (s, few, w) ↦
            let far = address_distance (s / range * scale) d in
            let left = dl -ℤ base -ℤ pos (s % range) in
            let cost = costs far (distance_fits (s / range * scale) d) in
            let low = row_least range scale left far (advance far) n cost w in
            let high = h.least (1 + advance_line_bytes left + advance far) (inr (s, few, row_within range scale left far (advance far) cost)) in
            inr (s, few, omega (arith, low, high))
      ];
}

step_of : (base : ℤ) (range scale : ℕ) (dl : ℤ) (d n : ℕ) (advance : ℕ → ℕ) → d < 2 ^ 64 → ((x : ℕ) → x < 2 ^ 64 → IsAdvanceCost range scale x (advance x)) → IsStepCost advance base range scale dl d n → IsLeastCost (StepWithin base range scale dl d) n
step_of base range scale dl d n advance fits costs h = record {
  enough =
      elim h.taken [
        | inl same ↦ inl (subst (λ (x : ℕ). RowWithin range scale dl d x) (sym same) (row_within range scale dl d (advance d) (costs d fits)))
        | inr (s, few, same) ↦
            let far = address_distance (s / range * scale) d in
            let left = dl -ℤ base -ℤ pos (s % range) in
            inr (s, few, subst (λ (x : ℕ). RowWithin range scale left far x) (sym same) (row_within range scale left far (advance far) (costs far (distance_fits (s / range * scale) d))))
      ];
  least = λ fewer w.
      elim w [
        | inl plain ↦ omega (arith, h.copy, row_least range scale dl d (advance d) fewer (costs d fits) plain)
        | inr (s, few, other) ↦
            let far = address_distance (s / range * scale) d in
            let left = dl -ℤ base -ℤ pos (s % range) in
            omega (arith, h.special s few, row_least range scale left far (advance far) fewer (costs far (distance_fits (s / range * scale) d)) other)
      ];
}

end_row : (range scale d a : ℕ) → IsAdvanceCost range scale d a → IsLeastCost (EndWithin range scale d) (3 + a)
end_row range scale d a h = record {
  enough = (a, cost_within range scale d a h, omega arith);
  least = λ fewer (b, within, cost). omega (arith, within_cost range scale d a b h within);
}

pub cost_formulas : CostFormulas
cost_formulas = record {
  advance = λ range scale d n. (to_formula range scale d n, of_formula range scale d n);
  step = λ base range scale dl d n advance fits costs. (step_to base range scale dl d n advance fits costs, step_of base range scale dl d n advance fits costs);
  end_row = end_row;
}
