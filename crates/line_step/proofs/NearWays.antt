-- Laws of distances that few bytes go.
use Rattle.std.proofs.Common.{◌≡◌, ◌≤◌, ◌<◌, ◌+◌, ◌*◌, ◌/◌, ◌⊎◌, ◌∙◌, ℕ, ap, sym, subst, arith, inl, inr}
use Rattle.std.proofs.lemmas.Bool.{cases_lt}
use Rattle.std.proofs.Math.Nat.{mul-le-mul_right, le_of_mul-le-mul_right}
use Rattle.leb_codec.specs.Leb.{least_unsigned_len}
use Rattle.leb_codec.specs.LineCosts.{IsLeastCost, AdvanceForm, AdvanceWithin}
use Rattle.line_step.proofs.Forms.{form_none, form_fixed}
use Rattle.line_step.proofs.Parts.{pc_none, pc_some, pc_short, pc_two, pc_below}
use Rattle.line_step.proofs.Reaches.{form_reaches, operand_of_far}

one_times : (n : ℕ) → 1 * n ≡ n
one_times n = omega arith

-- one byte goes nowhere, or as far as const_add_pc
form_one : (range scale x : ℕ) → AdvanceForm range scale x 1 → (x ≡ 0) ⊎ (x ≡ 242 / range * scale)
form_one range scale x a =
    elim (cases_lt 0 a.operand) [
      | inl some ↦ absurd (omega (arith, pc_two a.operand some, a.cost))
      | inr none ↦
          let zero_operand : a.operand ≡ 0 = omega arith in
          let q : a.operand * scale ≡ 0 = ap (λ v. v * scale) zero_operand ∙ omega arith in
          elim (cases_lt 0 a.const_adds) [
            | inl some ↦
                let k : a.const_adds ≡ 1 = omega (arith, a.cost) in
                let e : a.const_adds * (242 / range) * scale ≡ 242 / range * scale = ap (λ v. v * (242 / range) * scale) k ∙ ap (λ v. v * scale) (one_times (242 / range)) in
                inr (omega (arith, a.exact, a.fixed, a.cost, q, e))
            | inr no_adds ↦
                let k : a.const_adds ≡ 0 = omega arith in
                let e : a.const_adds * (242 / range) * scale ≡ 0 = ap (λ v. v * (242 / range) * scale) k ∙ omega arith in
                inl (omega (arith, a.exact, a.fixed, a.cost, q, e))
          ]
    ]

-- how far no byte or one goes
pub near : (range scale x a : ℕ) → AdvanceWithin range scale x a → a ≤ 1 → (x ≡ 0) ⊎ ((a ≡ 1) × (x ≡ 242 / range * scale))
near range scale x a (inl many) few = absurd (omega arith)
near range scale x a (inr form) few =
    elim (cases_lt 0 a) [
      | inl some ↦
          let one : a ≡ 1 = omega arith in
          elim (form_one range scale x (subst (λ (n : ℕ). AdvanceForm range scale x n) one form)) [ inl none ↦ inl none | inr all ↦ inr (one, all) ]
      | inr none ↦
          let none' : a ≡ 0 = omega arith in
          inl (form_none range scale x (subst (λ (n : ℕ). AdvanceForm range scale x n) none' form))
    ]

pub nowhere : (range scale d : ℕ) → d ≡ 0 → AdvanceWithin range scale d 0
nowhere range scale d none = inr (record { const_adds = 0; fixed_adds = 0; operand = 0; fixed_sum = 0; exact = omega (arith, none); fixed = omega arith; cost = omega (arith, pc_none) })

-- the same distance is the same number of instructions
same_count : (a b scale : ℕ) → 0 < scale → a * scale ≡ b * scale → a ≡ b
same_count a b scale some same =
    let low : a ≤ b = le_of_mul-le-mul_right (omega (arith, same)) some in
    let high : b ≤ a = le_of_mul-le-mul_right (omega (arith, same)) some in
    omega (arith, low, high)

no_count : (q scale : ℕ) → 0 < scale → q * scale ≡ 0 → q ≡ 0
no_count q scale some none = same_count q 0 scale some (omega (arith, none))

-- the bytes of whole instructions by cases on their number

pub whole_none : (range scale d q : ℕ) → d ≡ q * scale → q ≡ 0 → IsLeastCost (AdvanceWithin range scale d) 0
whole_none range scale d q is none = record {
  enough = nowhere range scale d (is ∙ ap (λ v. v * scale) none ∙ omega arith);
  least = λ n within. omega arith;
}

pub whole_once : (range scale d q once : ℕ) → 0 < scale → d ≡ q * scale → once ≡ 242 / range → q ≡ once → (q ≡ 0 → ⊥) → IsLeastCost (AdvanceWithin range scale d) 1
whole_once range scale d q once scaled is once_is all some = record {
  enough = inr (record { const_adds = 1; fixed_adds = 0; operand = 0; fixed_sum = 0; exact = omega (arith, is, ap (λ v. v * scale) (one_times (242 / range)), ap (λ v. v * scale) (all ∙ once_is)); fixed = omega arith; cost = omega (arith, pc_none) });
  least = λ n within.
      elim (cases_lt 0 n) [
        | inl one ↦ one
        | inr none ↦
            elim (near range scale d n within (omega arith)) [
              | inl zero ↦ absurd (some (no_count q scale scaled (sym is ∙ zero)))
              | inr one ↦ omega (arith, one.0)
            ]
      ];
}

pub whole_two : (range scale d q once : ℕ) → 0 < scale → d ≡ q * scale → once ≡ 242 / range → (q ≡ 0 → ⊥) → (q ≡ once → ⊥) → (q < 128) ⊎ (q ≡ 2 * once) → IsLeastCost (AdvanceWithin range scale d) 2
whole_two range scale d q once scaled is once_is some other short = record {
  enough =
      elim short [
        | inl few ↦ inr (record { const_adds = 0; fixed_adds = 0; operand = q; fixed_sum = 0; exact = omega (arith, is); fixed = omega arith; cost = omega (arith, pc_short q 1 (omega arith) few) })
        | inr twice ↦ inr (record { const_adds = 2; fixed_adds = 0; operand = 0; fixed_sum = 0; exact = omega (arith, is, ap (λ v. v * scale) (twice ∙ ap (λ v. 2 * v) once_is)); fixed = omega arith; cost = omega (arith, pc_none) })
      ];
  least = λ n within.
      elim (cases_lt 1 n) [
        | inl two ↦ two
        | inr few ↦
            elim (near range scale d n within few) [
              | inl zero ↦ absurd (some (no_count q scale scaled (sym is ∙ zero)))
              | inr one ↦ absurd (other (same_count q (242 / range) scale scaled (sym is ∙ one.1) ∙ sym once_is))
            ]
      ];
}

-- two bytes that make many instructions are const_add_pc
two_consts : (range scale q n : ℕ) → 0 < scale → 128 ≤ q → n ≤ 2 → AdvanceForm range scale (q * scale) n → (q ≡ 242 / range) ⊎ (q ≡ 2 * (242 / range))
two_consts range scale q n scaled many few a =
    let no_fixed : a.fixed_adds ≡ 0 = omega (arith, a.cost) in
    let split : (a.const_adds * (242 / range) + a.operand) * scale ≡ a.const_adds * (242 / range) * scale + a.operand * scale = grind arith in
    let count : a.const_adds * (242 / range) + a.operand ≡ q = same_count (a.const_adds * (242 / range) + a.operand) q scale scaled (omega (arith, split, a.exact, a.fixed, no_fixed)) in
    elim (cases_lt 0 a.operand) [
      | inl operand ↦
          let none : a.const_adds ≡ 0 = omega (arith, a.cost, pc_two a.operand operand) in
          let e : a.const_adds * (242 / range) ≡ 0 = ap (λ v. v * (242 / range)) none ∙ omega arith in
          absurd (omega (arith, count, e, many, pc_below a.operand 1 operand (omega (arith, a.cost))))
      | inr no_operand ↦
          elim (cases_lt 1 a.const_adds) [
            | inl twice ↦
                let two : a.const_adds ≡ 2 = omega (arith, twice, a.cost) in
                let e : a.const_adds * (242 / range) ≡ 2 * (242 / range) = ap (λ v. v * (242 / range)) two in
                inr (omega (arith, count, e, no_operand))
            | inr once ↦
                let most : a.const_adds * (242 / range) ≤ 1 * (242 / range) = mul-le-mul_right (242 / range) once in
                elim (cases_lt 0 a.const_adds) [
                  | inl some ↦
                      let one : a.const_adds ≡ 1 = omega (arith, once, some) in
                      let e : a.const_adds * (242 / range) ≡ 1 * (242 / range) = ap (λ v. v * (242 / range)) one in
                      inl (omega (arith, count, e, no_operand))
                  | inr none ↦
                      let zero : a.const_adds ≡ 0 = omega arith in
                      let e : a.const_adds * (242 / range) ≡ 0 = ap (λ v. v * (242 / range)) zero ∙ omega arith in
                      absurd (omega (arith, count, e, many, no_operand))
                ]
          ]
    ]

-- other numbers of instructions take three bytes or more
many_three : (range scale d q once n : ℕ) → 0 < scale → d ≡ q * scale → once ≡ 242 / range → 128 ≤ q → (q ≡ once → ⊥) → (q ≡ 2 * once → ⊥) → AdvanceForm range scale d n → 3 ≤ n
many_three range scale d q once n scaled is once_is many other other' a =
    elim (cases_lt 2 n) [
      | inl three ↦ three
      | inr few ↦
          elim (two_consts range scale q n scaled many few (subst (λ (x : ℕ). AdvanceForm range scale x n) is a)) [
            | inl one ↦ absurd (other (one ∙ sym once_is))
            | inr two ↦ absurd (other' (two ∙ ap (λ v. 2 * v) (sym once_is)))
          ]
    ]

pub whole_close : (range scale d q once : ℕ) → 0 < scale → d ≡ q * scale → once ≡ 242 / range → 128 ≤ q → (q ≡ once → ⊥) → (q ≡ 2 * once → ⊥) → d ≤ 65535 → IsLeastCost (AdvanceWithin range scale d) 3
whole_close range scale d q once scaled is once_is many other other' close = record {
  enough = inr (form_fixed range scale d close);
  least = λ n within.
      elim within [
        | inl most ↦ omega arith
        | inr a ↦ many_three range scale d q once n scaled is once_is many other other' a
      ];
}

pub whole_far : (range scale d q once len : ℕ) → 0 < scale → d ≡ q * scale → once ≡ 242 / range → 128 ≤ q → (q ≡ once → ⊥) → (q ≡ 2 * once → ⊥) → 65535 < d → len ≡ least_unsigned_len q → len ≤ 10 → IsLeastCost (AdvanceWithin range scale d) (1 + len)
whole_far range scale d q once len scaled is once_is many other other' far len_is few =
    let bytes = pc_some q (omega (arith, many)) in
    record {
      enough = inr (record { const_adds = 0; fixed_adds = 0; operand = q; fixed_sum = 0; exact = omega (arith, is); fixed = omega arith; cost = omega (arith, bytes, len_is) });
      least = λ n within.
          elim within [
            | inl most ↦ omega (arith, few)
            | inr a ↦
                let three = many_three range scale d q once n scaled is once_is many other other' a in
                let short = operand_of_far range scale d q n scaled far three (form_reaches range scale d d n (omega arith) a) (λ most h. le_of_mul-le-mul_right (omega (arith, h, is)) scaled) in
                omega (arith, short, bytes, len_is)
          ];
    }
