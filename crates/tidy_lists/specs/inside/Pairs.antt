-- Pairs of things of the old file and of the written file, by their numbers.
use Rattle.std.specs.Prelude.{◌↔◌, ◌<◌, ℕ, List, length}
use Rattle.std.specs.List.{Contains}
use Rattle.list_model.specs.declared.entry.ListKind.{ListKind}
use Rattle.value_links.specs.Reading.{Reading, lists_of}
use Rattle.tidy_lists.specs.declared.followers.Follower.{Follower}
use Rattle.tidy_lists.specs.Followers.{Follows, RunFollows}

-- the pairs are those of which something holds, and each thing has one
pub record ArePairs (Holds : ℕ → ℕ → Type 0) (count : ℕ) (pairs : List Follower) : Type 0 where
  pub those : (k m : ℕ) → Contains pairs (record { old = k; new = m }) ↔ Holds k m
  pub each : (k : ℕ) → k < count → (m : ℕ) × Holds k m

abbrev pub AreListPairs : ListKind → Reading → Reading → List Follower → Type 0
AreListPairs kind r s pairs = ArePairs (Follows kind r s) (length (lists_of r kind)) pairs

abbrev pub AreRunPairs : Reading → Reading → List Follower → Type 0
AreRunPairs r s pairs = ArePairs (RunFollows r s) (length r.views) pairs
