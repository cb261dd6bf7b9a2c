-- Laws of address distances: sums of opcodes, how far they reach, and the triangle with the wrap.
use Rattle.std.proofs.Common.{◌≡◌, ◌≤◌, ◌<◌, ◌+◌, ◌-◌, ◌*◌, ◌/◌, ◌%◌, ◌^◌, ◌⊎◌, ℕ, ◌∙◌, ap, refl, subst, arith, inl, inr}
use Rattle.std.proofs.lemmas.Bool.{cases_lt}
use Rattle.std.proofs.Math.Nat.{mul-le-mul}
use Rattle.leb_codec.specs.Leb.{least_unsigned_len}
use Rattle.leb_codec.specs.LineCosts.{advance_pc_bytes, address_distance, AdvanceForm, AdvanceWithin}
use Rattle.line_step.specs.Laws.{AddressLaws, DistanceLaws}
use Rattle.line_step.proofs.Powers.{pow128}
use Rattle.line_step.proofs.Parts.{pc_none, pc_some, pc_sum, pc_below, pc_two}

pub form_sum : (range scale d e n l : ℕ) → AdvanceForm range scale d n → AdvanceForm range scale e l → AdvanceForm range scale (d + e) (n + l)
form_sum range scale d e n l a b = record {
  const_adds = a.const_adds + b.const_adds;
  fixed_adds = a.fixed_adds + b.fixed_adds;
  operand = a.operand + b.operand;
  fixed_sum = a.fixed_sum + b.fixed_sum;
  exact = omega (arith, a.exact, b.exact);
  fixed = omega (arith, a.fixed, b.fixed);
  cost = omega (arith, a.cost, b.cost, pc_sum a.operand b.operand);
}

pub form_more : (range scale d n l : ℕ) → n ≤ l → AdvanceForm range scale d n → AdvanceForm range scale d l
form_more range scale d n l h a = record {
  const_adds = a.const_adds;
  fixed_adds = a.fixed_adds;
  operand = a.operand;
  fixed_sum = a.fixed_sum;
  exact = a.exact;
  fixed = a.fixed;
  cost = omega (arith, a.cost);
}

-- how far n bytes can advance, if they are at most 10
abbrev pub IsReach : ℕ → ℕ → Type 0
IsReach d n = (d < 2 ^ 20) ⊎ ((2 ≤ n) × (d < 2 ^ 20 + 255 * 128 ^ (n - 1)))

-- the parts but for advance_pc
rest_small : (unit scale k j f n : ℕ) → unit ≤ 242 → scale ≤ 255 → f ≤ 65535 * j → k + 3 * j ≤ n → n ≤ 10 → k * unit * scale + f < 2 ^ 20
rest_small unit scale k j f n u s fixed cost few =
    let a : k ≤ 10 = omega arith in
    let b : k * unit ≤ 10 * 242 = mul-le-mul {n₁ = k} {m₁ = unit} {n₂ = 10} {m₂ = 242} a u in
    let c : k * unit * scale ≤ 2420 * 255 = mul-le-mul {n₁ = k * unit} {m₁ = scale} {n₂ = 2420} {m₂ = 255} (omega arith) s in
    omega arith

unit_small : (r : ℕ) → 242 / r ≤ 242
unit_small r = omega arith

pub reach : (range scale d n : ℕ) → scale ≤ 255 → n ≤ 10 → AdvanceForm range scale d n → IsReach d n
reach range scale d n s few a =
    let small = rest_small (242 / range) scale a.const_adds a.fixed_adds a.fixed_sum n (unit_small range) s a.fixed (omega (arith, a.cost)) few in
    elim (cases_lt 0 a.operand) [
      | inl some ↦
          let two = pc_two a.operand some in
          let low : a.operand < 128 ^ (n - 1) = pc_below a.operand (n - 1) some (omega (arith, two, a.cost)) in
          let far : a.operand * scale ≤ 128 ^ (n - 1) * 255 = mul-le-mul {n₁ = a.operand} {m₁ = scale} {n₂ = 128 ^ (n - 1)} {m₂ = 255} (omega arith) s in
          inr (omega (arith, two, a.cost), omega (arith, a.exact, small, far))
      | inr none ↦
          let zero : a.operand ≡ 0 = omega arith in
          let e : a.operand * scale ≡ 0 = ap (λ x. x * scale) zero ∙ omega arith in
          inl (omega (arith, a.exact, small, e))
    ]

-- no bytes advance by nothing
pub form_none : (range scale d : ℕ) → AdvanceForm range scale d 0 → d ≡ 0
form_none range scale d a =
    elim (cases_lt 0 a.operand) [
      | inl some ↦ absurd (omega (arith, pc_two a.operand some, a.cost))
      | inr none ↦
          let zero : a.operand ≡ 0 = omega arith in
          let e : a.operand * scale ≡ 0 = ap (λ x. x * scale) zero ∙ omega arith in
          let k : a.const_adds ≡ 0 = omega (arith, a.cost) in
          let c : a.const_adds * (242 / range) * scale ≡ 0 = ap (λ x. x * (242 / range) * scale) k ∙ omega arith in
          omega (arith, a.exact, a.fixed, a.cost, e, c)
    ]

-- one that goes far beside one that doesn't
one_far : (range scale d e n l : ℕ) → n + l ≤ 10 → AdvanceForm range scale d n → d < 2 ^ 20 → e < 2 ^ 64 → 2 ≤ l → e < 2 ^ 20 + 255 * 128 ^ (l - 1) → d + e < 2 ^ 64
one_far range scale d e n l few a small fits two far =
    elim (cases_lt l 10) [
      | inl less ↦
          let power : 128 ^ (l - 1) ≤ 128 ^ 8 = pow128 (l - 1) 8 (omega arith) in
          omega arith
      | inr ten ↦
          let n0 : n ≡ 0 = omega arith in
          let none : d ≡ 0 = form_none range scale d (subst (λ (x : ℕ). AdvanceForm range scale d x) n0 a) in
          omega arith
    ]

-- at most 10 bytes don't wrap the address
pub no_wrap : (range scale d e n l : ℕ) → scale ≤ 255 → n + l ≤ 10 → AdvanceForm range scale d n → AdvanceForm range scale e l → d < 2 ^ 64 → e < 2 ^ 64 → d + e < 2 ^ 64
no_wrap range scale d e n l s few a b fits fits' =
    elim (reach range scale d n s (omega arith) a) [
      | inl small ↦
          elim (reach range scale e l s (omega arith) b) [
            | inl small' ↦ omega arith
            | inr far' ↦ one_far range scale d e n l few a small fits' far'.0 far'.1
          ]
      | inr far ↦
          elim (reach range scale e l s (omega arith) b) [
            | inl small' ↦
                let h = one_far range scale e d l n (omega arith) b small' fits far.0 far.1 in
                omega (arith, h)
            | inr far' ↦
                let power : 128 ^ (n - 1) ≤ 128 ^ 7 = pow128 (n - 1) 7 (omega (arith, far, far')) in
                let power' : 128 ^ (l - 1) ≤ 128 ^ 7 = pow128 (l - 1) 7 (omega (arith, far, far')) in
                omega (arith, far, far')
          ]
    ]

distance_sum : (from to d e : ℕ) → e ≡ address_distance (from + d) to → d + e < 2 ^ 64 → d + e ≡ address_distance from to
distance_sum from to d e same fits = omega arith

distance_below : (from to : ℕ) → address_distance from to < 2 ^ 64
distance_below from to = omega arith

pub triangle : (range scale : ℕ) → scale ≤ 255 → (from to d n m : ℕ) → d < 2 ^ 64 → AdvanceForm range scale d n → AdvanceWithin range scale (address_distance (from + d) to) m → AdvanceWithin range scale (address_distance from to) (n + m)
triangle range scale s from to d n m fits a (inl many) = inl (omega arith)
triangle range scale s from to d n m fits a (inr b) =
    let e = address_distance (from + d) to in
    elim (cases_lt 10 (n + m)) [
      | inl many ↦ inl (omega arith)
      | inr few ↦
          let sum : d + e < 2 ^ 64 = no_wrap range scale d e n m s few a b fits (distance_below (from + d) to) in
          inr (subst (λ (x : ℕ). AdvanceForm range scale x (n + m)) (distance_sum from to d e refl sum) (form_sum range scale d e n m a b))
    ]

pub form_pc : (range scale q : ℕ) → AdvanceForm range scale (q * scale) (1 + least_unsigned_len q)
form_pc range scale q = record {
  const_adds = 0;
  fixed_adds = 0;
  operand = q;
  fixed_sum = 0;
  exact = omega arith;
  fixed = omega arith;
  cost = elim (cases_lt 0 q) [ inl some ↦ omega (arith, pc_some q some) | inr none ↦ let e : q ≡ 0 = omega arith in omega (arith, ap advance_pc_bytes e, pc_none) ];
}

pub form_const : (range scale : ℕ) → AdvanceForm range scale (242 / range * scale) 1
form_const range scale = record {
  const_adds = 1;
  fixed_adds = 0;
  operand = 0;
  fixed_sum = 0;
  exact = omega arith;
  fixed = omega arith;
  cost = omega (arith, pc_none);
}

pub form_fixed : (range scale f : ℕ) → f ≤ 65535 → AdvanceForm range scale f 3
form_fixed range scale f small = record {
  const_adds = 0;
  fixed_adds = 1;
  operand = 0;
  fixed_sum = f;
  exact = omega arith;
  fixed = omega arith;
  cost = omega (arith, pc_none);
}

pub form_zero : (range scale : ℕ) → AdvanceForm range scale 0 0
form_zero range scale = record {
  const_adds = 0;
  fixed_adds = 0;
  operand = 0;
  fixed_sum = 0;
  exact = omega arith;
  fixed = omega arith;
  cost = omega (arith, pc_none);
}

const_small : (r scale : ℕ) → scale ≤ 255 → 242 / r * scale < 2 ^ 64
const_small r scale s =
    let p : 242 / r * scale ≤ 242 * 255 = mul-le-mul {n₁ = 242 / r} {m₁ = scale} {n₂ = 242} {m₂ = 255} (unit_small r) s in
    omega arith

within_more : (range scale d n m : ℕ) → n ≤ m → AdvanceWithin range scale d n → AdvanceWithin range scale d m
within_more range scale d n m h (inl many) = inl (omega arith)
within_more range scale d n m h (inr a) = inr (form_more range scale d n m h a)

pub within_none : (range scale d : ℕ) → AdvanceWithin range scale d 0 → d ≡ 0
within_none range scale d (inl many) = absurd (omega arith)
within_none range scale d (inr a) = form_none range scale d a

pub address_laws : (range scale : ℕ) → scale ≤ 255 → AddressLaws range scale
address_laws range scale s = record {
  more = within_more range scale;
  most = λ d. inl (omega arith);
  none = inr (form_zero range scale);
  some = within_none range scale;
  sum = form_sum range scale;
  triangle = triangle range scale s;
  advance_pc = λ from to q m fits. triangle range scale s from to (q * scale) (1 + least_unsigned_len q) m fits (form_pc range scale q);
  const_add_pc = λ from to m. triangle range scale s from to (242 / range * scale) 1 m (const_small range scale s) (form_const range scale);
  fixed_advance_pc = λ from to f m h. triangle range scale s from to f 3 m (omega arith) (form_fixed range scale f h);
  set_address = λ from to at m w. inl (omega arith);
}

distance_self : (at : ℕ) → address_distance at at ≡ 0
distance_self at = omega arith

distance_reaches : (from to : ℕ) → (from + address_distance from to) % 2 ^ 64 ≡ to % 2 ^ 64
distance_reaches from to = omega arith

distance_from : (from to : ℕ) → address_distance (from % 2 ^ 64) to ≡ address_distance from to
distance_from from to = omega arith

distance_to : (from to : ℕ) → address_distance from (to % 2 ^ 64) ≡ address_distance from to
distance_to from to = omega arith

pub distance_before : (from at d : ℕ) → address_distance d (address_distance from (at + d)) ≡ address_distance from at
distance_before from at d = omega arith

pub distance_laws : DistanceLaws
distance_laws = record {
  self = distance_self;
  below = distance_below;
  reaches = distance_reaches;
  from_wraps = distance_from;
  to_wraps = distance_to;
  before = distance_before;
}
