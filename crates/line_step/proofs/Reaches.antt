-- Laws of how far opcodes advance an address at most.
use Rattle.std.proofs.Common.{◌≡◌, ◌≤◌, ◌<◌, ◌+◌, ◌-◌, ◌*◌, ◌/◌, ◌%◌, ◌^◌, ◌⊎◌, ◌∙◌, ℕ, zero, suc, max, min, ap, arith, inl, inr}
use Rattle.std.proofs.lemmas.Bool.{cases_lt}
use Rattle.std.proofs.Math.Nat.{mul-le-mul, mul-le-mul_right, div-add-mod, pow-succ'}
use Rattle.leb_codec.specs.Leb.{least_unsigned_len}
use Rattle.leb_codec.specs.LineCosts.{IsLeastCost, AdvanceForm, advance_pc_bytes}
use Rattle.line_step.specs.inside.Reaching.{ReachForm, ReachWithin, ReachFixedWithin}
use Rattle.line_step.proofs.Parts.{pc_none, pc_some, pc_below, pc_short, pc_two, pc_free}
use Rattle.line_step.proofs.Powers.{pow128}

-- what opcodes reach that advance by exactly so much
pub form_reaches : (range scale x distance n : ℕ) → distance ≤ x → AdvanceForm range scale x n → ReachForm range scale distance n
form_reaches range scale x distance n within a = record {
  const_adds = a.const_adds;
  fixed_adds = a.fixed_adds;
  operand = a.operand;
  far = omega (arith, within, a.exact, a.fixed);
  cost = a.cost;
}

-- the same with one fixed_advance_pc or more
pub fixed_form_reaches : (range scale x distance n : ℕ) → distance ≤ x → (a : AdvanceForm range scale x n) → 1 ≤ a.fixed_adds → (form : ReachForm range scale distance n) × (1 ≤ form.fixed_adds)
unfolding form_reaches
fixed_form_reaches range scale x distance n within a one = (form_reaches range scale x distance n within a, one)

-- an operand of some bytes
operand_below : (q n : ℕ) → advance_pc_bytes q ≤ 1 + n → q < 128 ^ n
operand_below q n few =
    elim (cases_lt 0 q) [
      | inl some ↦ pc_below q n some few
      | inr none ↦ let power = pow128 0 n (omega arith) in omega (arith, none, power)
    ]

-- a byte more in the operand reaches farther than as many const_add_pc and fixed_advance_pc as there are bytes
room : (k : ℕ) → 22087 * (k + 4) + 128 ^ (k + 2) ≤ 128 ^ (k + 3)
room zero = omega arith
room (suc k) =
    let a : suc k + 2 ≡ suc (k + 2) = omega arith in
    let b : suc k + 3 ≡ suc (k + 3) = omega arith in
    omega (arith, ap (λ (m : ℕ). 128 ^ m) a, ap (λ (m : ℕ). 128 ^ m) b, pow-succ' 128 (k + 2), pow-succ' 128 (k + 3), room k)

instructions_four : (k j q m : ℕ) → k + 3 * j + advance_pc_bytes q ≤ m + 4 → 242 * k + 65535 * j + q < 128 ^ (m + 3)
instructions_four k j q m cost =
    elim (cases_lt 0 (k + j)) [
      | inl some ↦
          let low = operand_below q (m + 2) (omega (arith, cost, some)) in
          omega (arith, low, room m, cost)
      | inr none ↦ let low = operand_below q (m + 3) (omega (arith, cost)) in omega (arith, low, none)
    ]

-- as if each instruction were as long as the scale
spread : (range scale k j q : ℕ) → 0 < scale → k * (242 / range) * scale + q * scale + 65535 * j ≤ (242 * k + 65535 * j + q) * scale
spread range scale k j q some =
    let most : 242 / range ≤ 242 = omega arith in
    let each : k * (242 / range) ≤ k * 242 = mul-le-mul {n₁ = k} {m₁ = 242 / range} {n₂ = k} {m₂ = 242} (omega arith) most in
    let consts : k * (242 / range) * scale ≤ k * 242 * scale = mul-le-mul_right scale each in
    let fixed : 65535 * j * 1 ≤ 65535 * j * scale = mul-le-mul {n₁ = 65535 * j} {m₁ = 1} {n₂ = 65535 * j} {m₂ = scale} (omega arith) some in
    let split : (242 * k + 65535 * j + q) * scale ≡ k * 242 * scale + 65535 * j * scale + q * scale = grind arith in
    omega (arith, consts, fixed, split)

pub far_four : (range scale distance n : ℕ) → 0 < scale → 4 ≤ n → ReachForm range scale distance n → distance ≤ (128 ^ (n - 1) - 1) * scale
far_four range scale distance n some four a =
    let units : 242 * a.const_adds + 65535 * a.fixed_adds + a.operand < 128 ^ (n - 4 + 3) = instructions_four a.const_adds a.fixed_adds a.operand (n - 4) (omega (arith, a.cost)) in
    let same : 128 ^ (n - 4 + 3) ≡ 128 ^ (n - 1) = ap (λ (m : ℕ). 128 ^ m) (omega arith) in
    let all : (242 * a.const_adds + 65535 * a.fixed_adds + a.operand) * scale ≤ (128 ^ (n - 1) - 1) * scale = mul-le-mul_right scale (omega (arith, units, same)) in
    omega (arith, a.far, spread range scale a.const_adds a.fixed_adds a.operand some, all)

-- without fixed_advance_pc
far_plain : (range scale distance n most : ℕ) (a : ReachForm range scale distance n) → 0 < scale → a.fixed_adds ≡ 0 → 242 * a.const_adds + a.operand ≤ most → distance ≤ most * scale
far_plain range scale distance n most a some none few =
    let all : (242 * a.const_adds + 65535 * a.fixed_adds + a.operand) * scale ≤ most * scale = mul-le-mul_right scale (omega (arith, none, few)) in
    omega (arith, a.far, spread range scale a.const_adds a.fixed_adds a.operand some, all)

-- no operand
far_consts : (range scale distance n : ℕ) (a : ReachForm range scale distance n) → a.fixed_adds ≡ 0 → a.operand ≡ 0 → distance ≤ a.const_adds * (242 / range * scale)
far_consts range scale distance n a no_fixed no_operand =
    let none : a.operand * scale ≡ 0 = ap (λ v. v * scale) no_operand ∙ omega arith in
    let split : a.const_adds * (242 / range) * scale ≡ a.const_adds * (242 / range * scale) = grind arith in
    omega (arith, a.far, none, split, no_fixed)

pub far_three : (range scale distance n : ℕ) → 0 < scale → n ≤ 3 → ReachForm range scale distance n → (distance ≤ 65535) ⊎ (distance ≤ 16383 * scale)
far_three range scale distance n some few a =
    elim (cases_lt 0 a.fixed_adds) [
      | inl fixed ↦
          let one : a.fixed_adds ≡ 1 = omega (arith, a.cost) in
          let no_consts : a.const_adds ≡ 0 = omega (arith, a.cost) in
          let no_operand : a.operand ≡ 0 = pc_free a.operand (omega (arith, a.cost)) in
          let none : a.operand * scale ≡ 0 = ap (λ v. v * scale) no_operand ∙ omega arith in
          let none' : a.const_adds * (242 / range) * scale ≡ 0 = ap (λ v. v * (242 / range) * scale) no_consts ∙ omega arith in
          inl (omega (arith, a.far, none, none', one))
      | inr no_fixed ↦
          elim (cases_lt 0 a.const_adds) [
            | inl consts ↦
                let low : a.operand < 128 = operand_below a.operand 1 (omega (arith, a.cost)) in
                inr (far_plain range scale distance n 16383 a some (omega arith) (omega (arith, low, a.cost)))
            | inr no_consts ↦
                let low : a.operand < 16384 = operand_below a.operand 2 (omega (arith, a.cost)) in
                inr (far_plain range scale distance n 16383 a some (omega arith) (omega (arith, low)))
          ]
    ]

pub far_two : (range scale distance n : ℕ) → 0 < scale → n ≤ 2 → ReachForm range scale distance n → (distance ≤ 2 * (242 / range * scale)) ⊎ (distance ≤ 127 * scale)
far_two range scale distance n some few a =
    let no_fixed : a.fixed_adds ≡ 0 = omega (arith, a.cost) in
    elim (cases_lt 0 a.operand) [
      | inl operand ↦
          let two = pc_two a.operand operand in
          let low : a.operand < 128 = operand_below a.operand 1 (omega (arith, a.cost)) in
          inr (far_plain range scale distance n 127 a some no_fixed (omega (arith, low, two, a.cost)))
      | inr no_operand ↦
          let far = far_consts range scale distance n a no_fixed (omega arith) in
          let most : a.const_adds * (242 / range * scale) ≤ 2 * (242 / range * scale) = mul-le-mul_right (242 / range * scale) (omega (arith, a.cost)) in
          inl (omega (arith, far, most))
    ]

pub far_one : (range scale distance n : ℕ) → n ≤ 1 → ReachForm range scale distance n → distance ≤ n * (242 / range * scale)
far_one range scale distance n few a =
    let no_operand : a.operand ≡ 0 = elim (cases_lt 0 a.operand) [ inl some ↦ absurd (omega (arith, pc_two a.operand some, a.cost)) | inr none ↦ omega arith ] in
    let far = far_consts range scale distance n a (omega (arith, a.cost)) no_operand in
    let most : a.const_adds * (242 / range * scale) ≤ n * (242 / range * scale) = mul-le-mul_right (242 / range * scale) (omega (arith, a.cost)) in
    omega (arith, far, most)

-- how far const_add_pc does, as the program computes it
once_is : (range scale x y : ℕ) → x ≡ 242 / range → y ≡ scale → x * y ≡ 242 / range * scale
once_is range scale x y e f = ap (λ v. v * y) e ∙ ap (λ v. 242 / range * v) f

-- by const_add_pc alone
consts_reach : (range scale distance k : ℕ) → distance ≤ k * (242 / range * scale) → ReachForm range scale distance k
consts_reach range scale distance k h = record {
  const_adds = k;
  fixed_adds = 0;
  operand = 0;
  far = let split : k * (242 / range) * scale ≡ k * (242 / range * scale) = grind arith in omega (arith, h, split);
  cost = omega (arith, pc_none);
}

-- by advance_pc alone
operand_reaches : (range scale distance q n : ℕ) → distance ≤ q * scale → advance_pc_bytes q ≤ n → ReachForm range scale distance n
operand_reaches range scale distance q n h cost = record {
  const_adds = 0;
  fixed_adds = 0;
  operand = q;
  far = omega (arith, h);
  cost = omega (arith, cost);
}

-- by fixed_advance_pc alone
fixed_reaches : (range scale distance : ℕ) → distance ≤ 65535 → ReachForm range scale distance 3
fixed_reaches range scale distance h = record {
  const_adds = 0;
  fixed_adds = 1;
  operand = 0;
  far = omega (arith, h);
  cost = omega (arith, pc_none);
}

-- the bytes by cases on the distance

pub reach_none : (range scale distance : ℕ) → distance ≡ 0 → IsLeastCost (ReachWithin range scale distance) 0
reach_none range scale distance none = record {
  enough = inr (consts_reach range scale distance 0 (omega (arith, none)));
  least = λ n within. omega arith;
}

pub reach_one : (range scale distance x y : ℕ) → x ≡ 242 / range → y ≡ scale → 0 < distance → distance ≤ x * y → IsLeastCost (ReachWithin range scale distance) 1
reach_one range scale distance x y e f some near =
    let once = once_is range scale x y e f in
    record {
      enough = inr (consts_reach range scale distance 1 (omega (arith, near, once)));
      least = λ n within.
          elim within [
            | inl many ↦ omega arith
            | inr a ↦
                elim (cases_lt 0 n) [
                  | inl one ↦ one
                  | inr none ↦
                      let far = far_one range scale distance n (omega arith) a in
                      let zero' : n * (242 / range * scale) ≡ 0 = ap (λ v. v * (242 / range * scale)) (let z : n ≡ 0 = omega arith in z) ∙ omega arith in
                      absurd (omega (arith, far, zero'))
                ]
          ];
    }

pub reach_two : (range scale distance x y : ℕ) → x ≡ 242 / range → y ≡ scale → x * y < distance → distance ≤ max (2 * (x * y)) (127 * y) → IsLeastCost (ReachWithin range scale distance) 2
reach_two range scale distance x y e f far near =
    let once = once_is range scale x y e f in
    record {
      enough =
          elim (cases_lt (2 * (x * y)) distance) [
            | inr consts ↦ inr (consts_reach range scale distance 2 (omega (arith, consts, once)))
            | inl operand ↦ inr (operand_reaches range scale distance 127 2 (omega (arith, operand, near, f)) (pc_short 127 1 (omega arith) (omega arith)))
          ];
      least = λ n within.
          elim within [
            | inl many ↦ omega arith
            | inr a ↦
                elim (cases_lt 1 n) [
                  | inl two ↦ two
                  | inr few ↦
                      let low = far_one range scale distance n few a in
                      let most : n * (242 / range * scale) ≤ 1 * (242 / range * scale) = mul-le-mul_right (242 / range * scale) few in
                      absurd (omega (arith, low, most, once, far))
                ]
          ];
    }

pub reach_three : (range scale distance x y fixed : ℕ) → 0 < scale → x ≡ 242 / range → y ≡ scale → fixed ≡ 65535 → max (2 * (x * y)) (127 * y) < distance → distance ≤ max fixed (16383 * y) → IsLeastCost (ReachWithin range scale distance) 3
reach_three range scale distance x y fixed some e f fixed_is far near =
    let once = once_is range scale x y e f in
    record {
      enough =
          elim (cases_lt 65535 distance) [
            | inr close ↦ inr (fixed_reaches range scale distance close)
            | inl operand ↦ inr (operand_reaches range scale distance 16383 3 (omega (arith, operand, near, fixed_is, f)) (pc_short 16383 2 (omega arith) (omega arith)))
          ];
      least = λ n within.
          elim within [
            | inl many ↦ omega arith
            | inr a ↦
                elim (cases_lt 2 n) [
                  | inl three ↦ three
                  | inr few ↦ elim (far_two range scale distance n some few a) [ inl low ↦ absurd (omega (arith, low, once, far)) | inr low ↦ absurd (omega (arith, low, f, far)) ]
                ]
          ];
    }

-- the least operand that reaches a distance
reached : (distance scale : ℕ) → 0 < scale → 0 < distance → distance ≤ ((distance - 1) / scale + 1) * scale
reached distance scale some far =
    let split : ((distance - 1) / scale + 1) * scale ≡ (distance - 1) / scale * scale + scale = grind arith in
    let rest : (distance - 1) % scale < scale = omega arith in
    omega (arith, split, div-add-mod (distance - 1) scale, rest)

operand_most : (distance scale most : ℕ) → 0 < distance → distance ≤ most * scale → 0 < scale → (distance - 1) / scale + 1 ≤ most
operand_most distance scale most far within some =
    elim (cases_lt ((distance - 1) / scale) most) [
      | inl less ↦ omega arith
      | inr more ↦
          let p : most * scale ≤ (distance - 1) / scale * scale = mul-le-mul_right scale more in
          absurd (omega (arith, p, within, far, div-add-mod (distance - 1) scale))
    ]

-- an operand that reaches no farther than the bytes do
pub operand_of_far : (range scale distance q n : ℕ) → 0 < scale → 65535 < distance → 3 ≤ n → ReachForm range scale distance n → ((most : ℕ) → distance ≤ most * scale → q ≤ most) → advance_pc_bytes q ≤ n
operand_of_far range scale distance q n some far three a least =
    elim (cases_lt 3 n) [
      | inl four ↦
          let low : q ≤ 128 ^ (n - 1) - 1 = least (128 ^ (n - 1) - 1) (far_four range scale distance n some four a) in
          let power = pow128 0 (n - 1) (omega arith) in
          let short = pc_short q (n - 1) (omega arith) (omega (arith, low, power)) in
          omega (arith, short)
      | inr few ↦
          elim (far_three range scale distance n some few a) [
            | inl near ↦ absurd (omega (arith, near))
            | inr near ↦
                let low : q ≤ 16383 = least 16383 near in
                let short = pc_short q 2 (omega arith) (omega (arith, low)) in
                omega (arith, short)
          ]
    ]

pub reach_more : (range scale distance y fixed len : ℕ) → 0 < scale → y ≡ scale → fixed ≡ 65535 → max fixed (16383 * y) < distance → len ≡ least_unsigned_len ((distance - 1) / y + 1) → len ≤ 10 → IsLeastCost (ReachWithin range scale distance) (1 + len)
reach_more range scale distance y fixed len some f fixed_is past len_is few =
    let far : 65535 < distance = omega (arith, past, fixed_is) in
    let q = (distance - 1) / y + 1 in
    let bytes : advance_pc_bytes q ≡ 1 + len = omega (arith, pc_some q (omega arith), len_is) in
    let same : q * y ≡ q * scale = ap (λ v. q * v) f in
    let some' : 0 < y = omega arith in
    record {
      enough = inr (operand_reaches range scale distance q (1 + len) (omega (arith, same, reached distance y some' (omega arith))) (omega (arith, bytes)));
      least = λ n within.
          elim within [
            | inl many ↦ omega (arith, few)
            | inr a ↦
                elim (cases_lt 2 n) [
                  | inl three ↦
                      let low = operand_of_far range scale distance q n some far three a (λ most h. operand_most distance y most (omega arith) (let m : most * y ≡ most * scale = ap (λ v. most * v) f in omega (arith, h, m)) some') in
                      omega (arith, low, bytes)
                  | inr small ↦ elim (far_three range scale distance n some (omega arith) a) [ inl near ↦ absurd (omega (arith, near)) | inr near ↦ absurd (omega (arith, near, f, past)) ]
                ]
          ];
    }

-- with one fixed_advance_pc or more
pub reach_fixed : (range scale distance rest bytes : ℕ) → rest ≡ distance - 65535 → IsLeastCost (ReachWithin range scale rest) bytes → IsLeastCost (ReachFixedWithin range scale distance) (min 11 (3 + bytes))
reach_fixed range scale distance rest bytes is least = record {
  enough =
      elim (cases_lt (3 + bytes) 11) [
        | inl few ↦
            elim least.enough [
              | inl many ↦ absurd (omega arith)
              | inr a ↦ inr (record { const_adds = a.const_adds; fixed_adds = a.fixed_adds + 1; operand = a.operand; far = omega (arith, a.far, is); cost = omega (arith, a.cost) }, omega arith)
            ]
        | inr many ↦ inl (omega arith)
      ];
  least = λ n within.
      elim within [
        | inl many ↦ omega arith
        | inr (a, some) ↦
            let low = least.least (n - 3) (inr (record { const_adds = a.const_adds; fixed_adds = a.fixed_adds - 1; operand = a.operand; far = omega (arith, a.far, is, some); cost = omega (arith, a.cost, some) })) in
            omega (arith, low, a.cost, some)
      ];
}
