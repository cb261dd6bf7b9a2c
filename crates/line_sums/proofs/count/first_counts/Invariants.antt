use Rattle.std.proofs.Common.{◌≡◌, ◌<◌, ◌+◌, ◌^◌, ℕ, drop}
use Rattle.std.specs.Prelude.{pos, All}
use Rattle.line_sums.specs.declared.step.Step.{Step}
use Rattle.line_sums.specs.Steps.{steps_from, steps_of}
use Rattle.line_sums.specs.Counting.{counted_price, price_of, HasCountedLine}
use Rattle.line_sums.specs.Ordered.{counted_from, first_counts}
use Rattle.line_sums.specs.inside.Places.{ArePlaces}
use Rattle.line_sums.proofs.count.first_counts.Given as goal

abbrev pub invariant-loop-row : goal.invariant-loop-row
invariant-loop-row l = record {
  places : ArePlaces l.places l.counted.items;
  lines : All HasCountedLine l.counted.items;
  line : l.place.line < 2 ^ 32;
  firsts : counted_from l.counted.items (steps_from (pos l.place.line) l.place.address (drop l.row-index l.rows)) ≡ first_counts (steps_of l.rows);
  prices : (price : Step → ℕ) → counted_price price l.counted.items + price_of price (steps_from (pos l.place.line) l.place.address (drop l.row-index l.rows)) ≡ price_of price (steps_of l.rows);
}
