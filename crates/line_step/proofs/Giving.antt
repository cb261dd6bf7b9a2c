-- Opcodes that reach a distance can make it exactly where something gives way: the special opcode behind them, or a fixed_advance_pc.
use Rattle.std.proofs.Common.{◌≡◌, ◌≤◌, ◌<◌, ◌+◌, ◌-◌, ◌*◌, ◌/◌, ◌%◌, ◌^◌, ◌∙◌, ℕ, ap, sym, subst, arith, inl, inr}
use Rattle.std.proofs.lemmas.Bool.{cases_lt}
use Rattle.std.proofs.lemmas.Nat.{le-div}
use Rattle.std.proofs.Math.Nat.{mul-le-mul, mul-le-mul_right, div-add-mod, mul-mod_left}
use Rattle.leb_codec.specs.LineCosts.{IsLeastCost, AdvanceForm, AdvanceWithin, address_distance}
use Rattle.line_step.specs.Formulas.{PartWithin}
use Rattle.line_step.specs.inside.Reaching.{ReachForm, ReachWithin, ReachFixedWithin}
use Rattle.line_step.proofs.Forms.{form_fixed, form_more}
use Rattle.line_step.proofs.Parts.{pc_none, pc_rises}
use Rattle.line_step.proofs.Reaches.{form_reaches, fixed_form_reaches, far_two}

-- a distance by no more than some const_add_pc, operand of advance_pc and sum of fixed_advance_pc; `unit` is the instructions of const_add_pc
record Split (unit scale distance const_adds operand limit : ℕ) : Type 0 where
  consts : ℕ
  instructions : ℕ
  rest : ℕ
  fewer : consts ≤ const_adds
  less : instructions ≤ operand
  short : rest ≤ limit
  exact : consts * unit * scale + instructions * scale + rest ≡ distance

split_three : (a b c s : ℕ) → (a + b + c) * s ≡ a * s + b * s + c * s
split_three a b c s = grind arith

rest_less : (a b : ℕ) → 0 < b → a % b < b
rest_less a b some = omega arith

quotient_below : (a b k : ℕ) → a < k * b → a / b < k
quotient_below a b k h =
    elim (cases_lt (a / b) k) [
      | inl less ↦ less
      | inr more ↦ let p : k * b ≤ a / b * b = mul-le-mul_right b more in absurd (omega (arith, p, h, div-add-mod a b))
    ]

times_some : (a b c : ℕ) → c < a * b → 0 < b
times_some a b c h =
    elim (cases_lt 0 b) [
      | inl some ↦ some
      | inr none ↦ let e : a * b ≡ 0 = ap (λ v. a * v) (let z : b ≡ 0 = omega arith in z) ∙ omega arith in absurd (omega (arith, h, e))
    ]

-- what is left of a distance after some of its instructions
left_after : (scale d taken : ℕ) → 0 < scale → taken ≤ d / scale → d / scale < taken + 1 → taken * scale ≤ d
left_after scale d taken some within last =
    let p : taken * scale ≤ d / scale * scale = mul-le-mul_right scale within in
    omega (arith, p, div-add-mod d scale)

-- fixed_advance_pc gives way
split_fixed : (unit scale d k q limit : ℕ) → 0 < scale → unit * scale ≤ limit → scale ≤ limit → d ≤ k * unit * scale + q * scale + limit → Split unit scale d k q limit
split_fixed unit scale d k q limit some once_short short far =
    let all = d / scale in
    let whole = div-add-mod d scale in
    let rest = rest_less d scale some in
    elim (cases_lt all (k * unit)) [
      | inl less ↦
          let positive = times_some k unit all less in
          let down : all / unit * unit * scale ≤ all * scale = mul-le-mul_right scale (omega (arith, div-add-mod all unit)) in
          let up : (all + 1) * scale ≤ (all / unit * unit + unit) * scale = mul-le-mul_right scale (omega (arith, div-add-mod all unit, rest_less all unit positive)) in
          let down_split : (all + 1) * scale ≡ all * scale + scale = grind arith in
          let up_split : (all / unit * unit + unit) * scale ≡ all / unit * unit * scale + unit * scale = grind arith in
          record {
            consts = all / unit;
            instructions = 0;
            rest = d - all / unit * unit * scale;
            fewer = omega (arith, quotient_below all unit k less);
            less = omega arith;
            short = omega (arith, up, down_split, up_split, whole, rest, once_short);
            exact = omega (arith, down, whole);
          }
      | inr more ↦
          elim (cases_lt q (all - k * unit)) [
            | inl beyond ↦
                let down : (k * unit + q + 0) * scale ≤ all * scale = mul-le-mul_right scale (omega (arith, beyond)) in
                record {
                  consts = k;
                  instructions = q;
                  rest = d - (k * unit + q + 0) * scale;
                  fewer = omega arith;
                  less = omega arith;
                  short = omega (arith, split_three (k * unit) q 0 scale, far);
                  exact = omega (arith, split_three (k * unit) q 0 scale, down, whole);
                }
            | inr within ↦
                let same : (k * unit + (all - k * unit) + 0) * scale ≡ all * scale = ap (λ v. v * scale) (let e : k * unit + (all - k * unit) + 0 ≡ all = omega (arith, more) in e) in
                record {
                  consts = k;
                  instructions = all - k * unit;
                  rest = d % scale;
                  fewer = omega arith;
                  less = within;
                  short = omega (arith, rest, short);
                  exact = omega (arith, split_three (k * unit) (all - k * unit) 0 scale, same, whole);
                }
          ]
    ]

-- the part of a special opcode, and the opcodes before it
record PartSplit (unit scale distance const_adds operand limit : ℕ) : Type 0 where
  part : ℕ
  below : part < unit
  within : part * scale ≤ distance
  before : Split unit scale (distance - part * scale) const_adds operand limit

-- a split of whole instructions
whole_split : (unit scale d k q limit part consts instructions : ℕ) → part < unit → consts ≤ k → instructions ≤ q → d ≡ (consts * unit + instructions + part) * scale → PartSplit unit scale d k q limit
whole_split unit scale d k q limit part consts instructions below fewer less is =
    let split = split_three (consts * unit) instructions part scale in
    record {
      part = part;
      below = below;
      within = omega (arith, is, split);
      before = record {
        consts = consts;
        instructions = instructions;
        rest = 0;
        fewer = fewer;
        less = less;
        short = omega arith;
        exact = omega (arith, is, split);
      };
    }

-- the special opcode gives way
split_part : (unit scale d k q limit : ℕ) → 0 < unit → d % scale ≡ 0 → d - (unit - 1) * scale ≤ k * unit * scale + q * scale + limit → PartSplit unit scale d k q limit
split_part unit scale d k q limit positive none far =
    let all = d / scale in
    let whole : d ≡ all * scale = omega (arith, div-add-mod d scale, none) in
    elim (cases_lt all (k * unit)) [
      | inl less ↦
          let sum : all ≡ all / unit * unit + 0 + all % unit = omega (arith, div-add-mod all unit) in
          whole_split unit scale d k q limit (all % unit) (all / unit) 0 (rest_less all unit positive) (omega (arith, quotient_below all unit k less)) (omega arith) (whole ∙ ap (λ v. v * scale) sum)
      | inr more ↦
          elim (cases_lt (all - k * unit) unit) [
            | inl near ↦
                let sum : all ≡ k * unit + 0 + (all - k * unit) = omega (arith, more) in
                whole_split unit scale d k q limit (all - k * unit) k 0 near (omega arith) (omega arith) (whole ∙ ap (λ v. v * scale) sum)
            | inr past ↦
                elim (cases_lt q (all - k * unit - (unit - 1))) [
                  | inl beyond ↦
                      let down : (k * unit + q + (unit - 1)) * scale ≤ all * scale = mul-le-mul_right scale (omega (arith, beyond)) in
                      let split = split_three (k * unit) q (unit - 1) scale in
                      record {
                        part = unit - 1;
                        below = omega (arith, positive);
                        within = omega (arith, down, split, whole);
                        before = record {
                          consts = k;
                          instructions = q;
                          rest = d - (k * unit + q + (unit - 1)) * scale;
                          fewer = omega arith;
                          less = omega arith;
                          short = omega (arith, split, far);
                          exact = omega (arith, split, down, whole);
                        };
                      }
                  | inr within ↦
                      let sum : all ≡ k * unit + (all - k * unit - (unit - 1)) + (unit - 1) = omega (arith, more, past, positive) in
                      whole_split unit scale d k q limit (unit - 1) k (all - k * unit - (unit - 1)) (omega (arith, positive)) (omega arith) within (whole ∙ ap (λ v. v * scale) sum)
                ]
          ]
    ]

-- opcodes of a split
split_form : (range scale d e n : ℕ) (a : ReachForm range scale e n) → Split (242 / range) scale d a.const_adds a.operand (65535 * a.fixed_adds) → AdvanceForm range scale d n
split_form range scale d e n a split = record {
  const_adds = split.consts;
  fixed_adds = a.fixed_adds;
  operand = split.instructions;
  fixed_sum = split.rest;
  exact = split.exact;
  fixed = split.short;
  cost = omega (arith, a.cost, split.fewer, pc_rises split.instructions a.operand split.less);
}

reach_small : (range scale : ℕ) → scale ≤ 255 → 242 / range * scale ≤ 61710
reach_small range scale small = mul-le-mul {n₁ = 242 / range} {m₁ = scale} {n₂ = 242} {m₂ = 255} (omega arith) small

fixed_form : (range scale d n : ℕ) (a : ReachForm range scale d n) → 0 < scale → scale ≤ 255 → 1 ≤ a.fixed_adds → AdvanceForm range scale d n
fixed_form range scale d n a some small one =
    split_form range scale d d n a (split_fixed (242 / range) scale d a.const_adds a.operand (65535 * a.fixed_adds) some (omega (arith, reach_small range scale small, one)) (omega (arith, small, one)) a.far)

-- without fixed_advance_pc only whole instructions are made
fixed_wanted : (range scale d x part n : ℕ) (a : AdvanceForm range scale x n) → d ≡ x + part * scale → (d % scale ≡ 0 → ⊥) → 1 ≤ a.fixed_adds
fixed_wanted range scale d x part n a is odd =
    elim (cases_lt 0 a.fixed_adds) [
      | inl some ↦ some
      | inr none ↦
          let sum : d ≡ (a.const_adds * (242 / range) + a.operand + part) * scale = omega (arith, is, split_three (a.const_adds * (242 / range)) a.operand part scale, a.exact, a.fixed, none) in
          absurd (odd (ap (λ v. v % scale) sum ∙ mul-mod_left (a.const_adds * (242 / range) + a.operand + part) scale))
    ]

-- a distance with a part of an instruction
pub odd_least : (range scale d y bytes : ℕ) → 0 < scale → scale ≤ 255 → y ≡ scale → (d % y ≡ 0 → ⊥) → IsLeastCost (ReachFixedWithin range scale d) bytes → IsLeastCost (AdvanceWithin range scale d) bytes
odd_least range scale d y bytes some small f odd least = record {
  enough =
      elim least.enough [
        | inl many ↦ inl many
        | inr (a, one) ↦ inr (fixed_form range scale d bytes a some small one)
      ];
  least = λ n within.
      elim within [
        | inl many ↦ least.least n (inl many)
        | inr a ↦
            let one = fixed_wanted range scale d d 0 n a (omega arith) (λ e. odd (ap (λ v. d % v) f ∙ e)) in
            least.least n (inr (fixed_form_reaches range scale d d n (omega arith) a one))
      ];
}

-- what is left before a special opcode
left_near : (scale d part : ℕ) → d < 2 ^ 64 → part * scale ≤ d → address_distance (part * scale) d ≡ d - part * scale
left_near scale d part fits within = omega (arith, fits, within)

left_far : (scale d part : ℕ) → part * scale ≤ 61710 → d < part * scale → 2 ^ 64 - 61710 ≤ address_distance (part * scale) d
left_far scale d part small over = omega (arith, small, over)

part_within : (range scale d part n : ℕ) → part < 242 / range → d < 2 ^ 64 → part * scale ≤ d → AdvanceForm range scale (d - part * scale) n → PartWithin range scale d (242 / range) n
part_within range scale d part n below fits within a =
    (part, below, inr (subst (λ (x : ℕ). AdvanceForm range scale x n) (sym (left_near scale d part fits within)) a))

-- parts below the last take no more than this of a distance
part_most : (unit scale part : ℕ) → part < unit → part * scale ≤ (unit - 1) * scale
part_most unit scale part below = mul-le-mul_right scale (omega (arith, below))

taken_most : (unit scale : ℕ) → (unit - 1) * scale ≤ unit * scale
taken_most unit scale = mul-le-mul_right scale (omega arith)

-- what a part leaves is at least what the greatest part does
left_least : (range scale d part : ℕ) → scale ≤ 255 → d < 2 ^ 64 → part < 242 / range → d - (242 / range - 1) * scale ≤ address_distance (part * scale) d
left_least range scale d part small fits below =
    let most = part_most (242 / range) scale part below in
    let reach = reach_small range scale small in
    let taken = taken_most (242 / range) scale in
    elim (cases_lt d (part * scale)) [
      | inl over ↦ omega (arith, left_far scale d part (omega (arith, most, taken, reach)) over, most)
      | inr within ↦ omega (arith, left_near scale d part fits within, most)
    ]

-- what a special opcode of a part below the last takes at most, as the program computes it
taken_is : (range scale x y : ℕ) → x ≡ 242 / range - 1 → y ≡ scale → x * y ≡ (242 / range - 1) * scale
taken_is range scale x y e f = ap (λ v. v * y) e ∙ ap (λ v. (242 / range - 1) * v) f

pub some_part : (range : ℕ) → 0 < range → range ≤ 242 → 0 < 242 / range
some_part range some few = omega (arith, le-div 1 242 range some (omega (arith, few)))

pub whole_before : (range scale d x y left bytes : ℕ) → scale ≤ 255 → d < 2 ^ 64 → 0 < 242 / range → x ≡ 242 / range - 1 → y ≡ scale → left ≡ d - x * y → d % y ≡ 0 → IsLeastCost (ReachWithin range scale left) bytes → IsLeastCost (PartWithin range scale d (242 / range)) bytes
whole_before range scale d x y left bytes small fits positive e f is none least =
    let left_is : left ≡ d - (242 / range - 1) * scale = omega (arith, is, taken_is range scale x y e f) in
    let whole : d % scale ≡ 0 = ap (λ v. d % v) (sym f) ∙ none in
    record {
      enough =
          elim least.enough [
            | inl many ↦ (0, positive, inl many)
            | inr a ↦
                let split = split_part (242 / range) scale d a.const_adds a.operand (65535 * a.fixed_adds) positive whole (omega (arith, left_is, a.far)) in
                part_within range scale d split.part bytes split.below fits split.within (split_form range scale (d - split.part * scale) left bytes a split.before)
          ];
      least = λ n (part, below, within).
          elim within [
            | inl many ↦ least.least n (inl many)
            | inr a ↦ least.least n (inr (form_reaches range scale (address_distance (part * scale) d) left n (omega (arith, left_is, left_least range scale d part small fits below)) a))
          ];
    }

-- a part that leaves less than an instruction
last_part : (range scale d n : ℕ) → 0 < scale → scale ≤ 255 → d < 2 ^ 64 → d < (242 / range - 1) * scale → 3 ≤ n → PartWithin range scale d (242 / range) n
last_part range scale d n some small fits over three =
    let all = d / scale in
    let whole = div-add-mod d scale in
    let rest = rest_less d scale some in
    let below : all < 242 / range =
    elim (cases_lt all (242 / range)) [
      | inl less ↦ less
      | inr more ↦
          let p : (242 / range - 1) * scale ≤ all * scale = mul-le-mul_right scale (omega (arith, more)) in
          absurd (omega (arith, p, whole, over))
    ]
    in
    part_within range scale d all n below fits (omega (arith, whole)) (form_more range scale (d - all * scale) 3 n three (form_fixed range scale (d - all * scale) (omega (arith, whole, rest, small))))

-- so far no opcodes of two bytes go
three_wanted : (range scale x n : ℕ) → 0 < scale → scale ≤ 255 → 2 ^ 64 - 61710 ≤ x → AdvanceForm range scale x n → 3 ≤ n
three_wanted range scale x n some small far a =
    elim (cases_lt n 3) [
      | inl few ↦
          let reach = reach_small range scale small in
          elim (far_two range scale x n some (omega (arith, few)) (form_reaches range scale x x n (omega arith) a)) [
            | inl near ↦ absurd (omega (arith, near, reach, far))
            | inr near ↦ absurd (omega (arith, near, small, far))
          ]
      | inr three ↦ three
    ]

pub odd_before : (range scale d x y left bytes : ℕ) → 0 < scale → scale ≤ 255 → d < 2 ^ 64 → 0 < 242 / range → x ≡ 242 / range - 1 → y ≡ scale → left ≡ d - x * y → (d % y ≡ 0 → ⊥) → IsLeastCost (ReachFixedWithin range scale left) bytes → IsLeastCost (PartWithin range scale d (242 / range)) bytes
odd_before range scale d x y left bytes some small fits positive e f is odd least =
    let left_is : left ≡ d - (242 / range - 1) * scale = omega (arith, is, taken_is range scale x y e f) in
    record {
      enough =
          elim least.enough [
            | inl many ↦ (0, positive, inl many)
            | inr (a, one) ↦
                elim (cases_lt d ((242 / range - 1) * scale)) [
                  | inl over ↦ last_part range scale d bytes some small fits over (omega (arith, a.cost, one))
                  | inr within ↦
                      let form = fixed_form range scale left bytes a some small one in
                      part_within range scale d (242 / range - 1) bytes (omega (arith, positive)) fits within (subst (λ (v : ℕ). AdvanceForm range scale v bytes) left_is form)
                ]
          ];
      least = λ n (part, below, within).
          elim within [
            | inl many ↦ least.least n (inl many)
            | inr a ↦
                let most = part_most (242 / range) scale part below in
                elim (cases_lt d (part * scale)) [
                  | inl over ↦
                      let reach = reach_small range scale small in
                      let taken = taken_most (242 / range) scale in
                      let far = left_far scale d part (omega (arith, most, taken, reach)) over in
                      let three = three_wanted range scale (address_distance (part * scale) d) n some small far a in
                      least.least n (inr (record { const_adds = 0; fixed_adds = 1; operand = 0; far = omega (arith, left_is, over, most); cost = omega (arith, three, pc_none) }, omega arith))
                  | inr inside ↦
                      let near = left_near scale d part fits inside in
                      let one = fixed_wanted range scale d (address_distance (part * scale) d) part n a (omega (arith, near, inside)) (λ none. odd (ap (λ v. d % v) f ∙ none)) in
                      least.least n (inr (fixed_form_reaches range scale (address_distance (part * scale) d) left n (omega (arith, left_is, left_least range scale d part small fits below)) a one))
                ]
          ];
    }
