-- Laws of the ways that are kept.
use Rattle.std.proofs.Common.{◌≡◌, ◌<◌, ◌∙◌, ℕ, List, sym, subst, ap, length, replicate}
use Rattle.std.proofs.Math.ListN.{set}
use Rattle.std.proofs.lemmas.List.{length-set, length-replicate}
use Rattle.std.proofs.lemmas.List.Elements.{All-set, All-replicate, All-same}
use Rattle.line_sums.specs.declared.ways.Way.{Way}
use Rattle.line_sums.specs.inside.Ways.{IsWay, IsKept, AreKept}

-- a way that names what it was found for may be kept
pub found_kept : (range scale distance : ℕ) (way : Way) → 0 < range → way.range ≡ range → way.distance ≡ distance → IsWay range scale distance way → IsKept scale way
found_kept range scale distance way some range_is distance_is right = record {
  some = subst (λ (x : ℕ). 0 < x) (sym range_is) some;
  right = subst (λ (x : ℕ). IsWay x scale way.distance way) (sym range_is) (subst (λ (x : ℕ). IsWay range scale x way) (sym distance_is) right);
}

pub same_kept : (scale count : ℕ) (way : Way) (ways : List Way) → 0 < scale → count ≡ 128 → ways ≡ replicate count way → IsKept scale way → AreKept scale ways
same_kept scale count way ways some count_is is kept = record {
  some = some;
  size = ap length is ∙ length-replicate count way ∙ count_is;
  each = All-same (IsKept scale) ways (replicate count way) is (All-replicate (IsKept scale) count way kept);
}

pub one_kept : (scale place : ℕ) (way : Way) (ways : List Way) → AreKept scale ways → IsKept scale way → AreKept scale (set ways place way)
one_kept scale place way ways are kept = record {
  some = are.some;
  size = length-set ways place way ∙ are.size;
  each = All-set (IsKept scale) ways place way kept are.each;
}
