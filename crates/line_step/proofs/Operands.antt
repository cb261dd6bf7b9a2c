-- Laws of the operand of advance_pc that leaves little of a distance.
use Rattle.std.proofs.Common.{◌≡◌, ◌≤◌, ◌<◌, ◌+◌, ◌-◌, ◌*◌, ◌/◌, ◌^◌, ℕ, min, ◌∙◌, ap, arith, inl, inr}
use Rattle.std.proofs.lemmas.Bool.{cases_lt}
use Rattle.std.proofs.Math.Nat.{mul-le-mul_right}
use Rattle.leb_codec.specs.Leb.{least_unsigned_len}
use Rattle.leb_codec.specs.LineCosts.{advance_pc_bytes}
use Rattle.leb_codec.proofs.Lens.{unsigned_lens}
use Rattle.line_step.specs.inside.Search.{IsOperandFor}
use Rattle.line_step.proofs.Parts.{pc_none, pc_some, pc_rises, pc_below, pc_short, pc_free}

-- no advance_pc is wanted
pub none_wanted : (d scale limit : ℕ) → d ≤ limit → IsOperandFor d scale limit 0
none_wanted d scale limit few = record {
  within = omega arith;
  left = omega arith;
  fewest = λ q f exact most. omega (arith, pc_none);
  first = λ q f exact most free.
      let none : q ≡ 0 = pc_free q (omega (arith, free, pc_none)) in
      let e : q * scale ≡ 0 = ap (λ x. x * scale) none ∙ omega arith in
      omega (arith, exact, e);
}

quotient_least : (need scale q : ℕ) → need < q * scale → need / scale + 1 ≤ q
quotient_least need scale q h =
    elim (cases_lt (need / scale) q) [
      | inl less ↦ omega arith
      | inr most ↦
          let p : q * scale ≤ need / scale * scale = mul-le-mul_right scale most in
          absurd (omega arith)
    ]

-- each operand is at least this
operand_least : (d scale limit q f : ℕ) → limit < d → q * scale + f ≡ d → f ≤ limit → (d - limit - 1) / scale + 1 ≤ q
operand_least d scale limit q f many exact most = quotient_least (d - limit - 1) scale q (omega arith)

-- and at most this
operand_most : (d scale q f : ℕ) → 0 < scale → q * scale + f ≡ d → q ≤ d / scale
operand_most d scale q f some exact =
    elim (cases_lt (d / scale) q) [
      | inl less ↦
          let p : (d / scale + 1) * scale ≤ q * scale = mul-le-mul_right scale (omega arith) in
          absurd (omega arith)
      | inr most ↦ most
    ]

-- no operand is right
pub none_right : (d scale limit q f : ℕ) → 0 < scale → limit < d → d / scale < (d - limit - 1) / scale + 1 → q * scale + f ≡ d → f ≤ limit → ⊥
none_right d scale limit q f some many odd exact most =
    let low = operand_least d scale limit q f many exact most in
    let high = operand_most d scale q f some exact in
    omega (arith, low, high)

-- the least operand is long already
pub too_long : (d scale limit len q f : ℕ) → limit < d → len ≡ least_unsigned_len ((d - limit - 1) / scale + 1) → 9 < len → q * scale + f ≡ d → f ≤ limit → 11 ≤ advance_pc_bytes q
too_long d scale limit len q f many is long exact most =
    let low = operand_least d scale limit q f many exact most in
    omega (arith, pc_some q (omega (arith, low)), unsigned_lens.rises ((d - limit - 1) / scale + 1) q low)

-- the greatest operand of as few bytes as the least
pub least_operand : (d scale limit len greatest : ℕ) → 0 < scale → limit < d → (d - limit - 1) / scale + 1 ≤ d / scale → len ≡ least_unsigned_len ((d - limit - 1) / scale + 1) → 1 ≤ len → greatest + 1 ≡ 128 ^ len → IsOperandFor d scale limit (min (d / scale) greatest)
least_operand d scale limit len greatest some many even is one top =
    let least = (d - limit - 1) / scale + 1 in
    let q = min (d / scale) greatest in
    let some' : 0 < least = omega arith in
    let below : least < 128 ^ len = pc_below least len some' (omega (arith, pc_some least some')) in
    let low : least ≤ q = omega arith in
    let high : q ≤ d / scale = omega arith in
    let inside : q * scale ≤ d / scale * scale = mul-le-mul_right scale high in
    let filled : least * scale ≤ q * scale = mul-le-mul_right scale low in
    let short : advance_pc_bytes q ≤ 1 + len = pc_short q len one (omega arith) in
    record {
      within = omega arith;
      left = omega arith;
      fewest = λ p f exact most.
          let from = operand_least d scale limit p f many exact most in
          omega (arith, short, pc_rises least p from, pc_some least some');
      first = λ p f exact most few.
          let from = operand_least d scale limit p f many exact most in
          let to = operand_most d scale p f some exact in
          let fits : p < 128 ^ len = pc_below p len (omega (arith, from)) (omega (arith, few, short)) in
          let less : p ≤ q = omega (arith, to, fits) in
          let far : p * scale ≤ q * scale = mul-le-mul_right scale less in
          omega (arith, far, exact);
    }
