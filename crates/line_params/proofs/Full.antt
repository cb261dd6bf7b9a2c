-- The ways that are taken use no more fixed_advance_pc than their sum needs.
use Rattle.std.proofs.Common.{◌≡◌, ◌<◌, ◌+◌, ◌-◌, ◌*◌, ℕ, inl, inr, arith}
use Rattle.std.proofs.lemmas.Bool.{cases_lt}
use Rattle.leb_codec.specs.LineCosts.{IsLeastCost, advance_pc_bytes, AdvanceForm, AdvanceWithin}
use Rattle.line_step.specs.declared.way.Advance.{Advance}
use Rattle.line_step.specs.declared.way.AddressOpcodes.{AddressOpcodes}
use Rattle.line_step.specs.declared.way.AddressOpcodes.TheVariants.{SetAddress, AdvanceBy}
use Rattle.line_step.specs.declared.way.AddressWay.{AddressWay}
use Rattle.line_step.specs.Ways.{opcodes_bytes, IsAdvance, Advances, IsAddressWay}
use Rattle.line_params.specs.inside.Appended.{IsFullAdvance}

-- one fixed_advance_pc less would be enough
form_fewer : (range scale distance bytes : ℕ) (a : Advance) → bytes ≡ a.const_adds + 3 * a.fixed_adds + advance_pc_bytes a.operand → IsAdvance range scale distance a → a.fixed_sum < 65535 * (a.fixed_adds - 1) → AdvanceForm range scale distance (bytes - 3)
form_fewer range scale distance bytes a size is less = record {
  const_adds = a.const_adds;
  fixed_adds = a.fixed_adds - 1;
  operand = a.operand;
  fixed_sum = a.fixed_sum;
  exact = is.exact;
  fixed = omega arith;
  cost = omega arith;
}

opcodes_full : (range scale distance bytes : ℕ) (opcodes : AddressOpcodes) → bytes ≡ opcodes_bytes opcodes → Advances range scale distance opcodes → IsLeastCost (AdvanceWithin range scale distance) bytes → IsFullAdvance opcodes
opcodes_full range scale distance bytes SetAddress size is least = tt
opcodes_full range scale distance bytes (AdvanceBy a) size is least = record {
  room = is.fixed;
  needed =
      elim (cases_lt a.fixed_sum (65535 * (a.fixed_adds - 1))) [
        | inl less ↦
            let low = least.least (bytes - 3) (inr (form_fewer range scale distance bytes a size is less)) in
            absurd (omega arith)
        | inr enough ↦ enough
      ];
}

pub way_full : (range scale distance : ℕ) (way : AddressWay) → IsAddressWay range scale distance way → IsFullAdvance way.opcodes
way_full range scale distance way is = opcodes_full range scale distance way.bytes way.opcodes is.bytes is.advances is.least
