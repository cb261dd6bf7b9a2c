use Rattle.std.proofs.Common.{◌≡◌, ◌<◌, ◌+◌, ◌↔◌, ℕ, Bool, true, false, List, length, get_or, IsTrue, MatchBool, refl, arith}
use Rattle.std.proofs.lemmas.Bool.{false≢true}
use Rattle.std.specs.List.Sorted.{IsNonDecreasing}
use Rattle.std.proofs.lemmas.List.Sorted.{non_decreasing_from_is_sorted}
use Rattle.leb_codec.specs.Layout.{steps_to}
use Rattle.slot_layout.specs.Rows.{form_of}
use Rattle.check_units.proofs.dealing.has_its_ranks.Goals as goal

decides : (own : List ℕ) (count : ℕ) (r : Bool) → length own ≡ count → MatchBool r (IsNonDecreasing own) ((k : ℕ) × (k + 1 < length own) × ((d : ℕ) → get_or own (k + 1) d < get_or own k d)) → IsTrue r ↔ ((length own ≡ count) × IsNonDecreasing own)
decides own count true there sorted = (λ _. (there, sorted), λ _. refl)
decides own count false there (k, inside, falls) = (λ e. absurd (false≢true e), λ h. absurd (omega (arith, h.1 k (k + 1) 0 (omega arith) inside, falls 0)))

pub returns-then-own-steps_from_smallest : goal.returns-then-own-steps_from_smallest
returns-then-own-steps_from_smallest c =
    decides c.args.own.now (steps_to (form_of c.args.kind) c.args.size) c.is_sorted.result (omega arith) (non_decreasing_from_is_sorted c.args.own.now c.is_sorted.result c.is_sorted.ensures.cases)
