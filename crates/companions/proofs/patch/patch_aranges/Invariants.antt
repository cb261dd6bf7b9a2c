use Rattle.std.proofs.Common.{◌≡◌, ℕ, length, slice_index}
use Rattle.companions.specs.Aranges.{IsOutside}
use Rattle.companions.proofs.Patching.{IsPatchedTo}
use Rattle.companions.proofs.patch.patch_aranges.Given as goal

abbrev pub invariant-loop-set : goal.invariant-loop-set
invariant-loop-set l = record {
  patched : IsPatchedTo l.starts.items l.sets.items l.section l.set-index;
  others : (k : ℕ) → IsOutside l.sets.items k → slice_index l.section k ≡ slice_index l.fn.section k;
  size : length l.section ≡ length l.fn.section;
}
