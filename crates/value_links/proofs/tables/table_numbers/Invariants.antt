use Rattle.std.proofs.Common.{◌≡◌, ℕ, ◌<◌, length, get_or}
use Rattle.entry_read.specs.Heads.{head_numbered}
use Rattle.value_links.proofs.tables.table_numbers.Given as goal

abbrev pub invariant-loop-head : goal.invariant-loop-head
invariant-loop-head l = record {
  count : length l.numbers.items ≡ l.head-index;
  inside : (u : ℕ) → u < l.head-index → get_or l.numbers.items u 0 < length l.places;
  each : (u : ℕ) → u < l.head-index → get_or l.places (get_or l.numbers.items u 0) 0 ≡ (head_numbered l.heads u).table;
}
