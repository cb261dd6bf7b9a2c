-- The operations of a unit's expressions, in one flat list: those of an expression stand one after the other, and expressions follow in
-- the order of their values.
use Rattle.std.specs.Prelude.{◌≡◌, ◌≤◌, ◌<◌, ◌-◌, ◌^◌, ℕ, List, [], ◌∷◌, ◌++◌, length, take, drop, slice_index_or, nat_eq, if◌then◌else◌, Bool, false}
use Rattle.expr_ops.specs.declared.op.Op.{Op}
use Rattle.entry_arena.specs.declared.operations.Run.{Run}
use Rattle.entry_arena.specs.declared.operations.OpRange.{OpRange}

-- All operations, and for each value that has any where its first one stands among them.
pub record HeldOps : Type 0 where
  pub ops : List Op
  pub runs : List Run

abbrev pub no_operations : HeldOps
no_operations = record { ops = []; runs = [] }

-- the run with a number; past the end there is none, and one of zeros stands for it
abbrev pub run_at : List Run → ℕ → Run
run_at runs i = slice_index_or runs i (record { value = 0; first = 0 })

-- the last run is that of a value
abbrev pub ends_with : List Run → ℕ → Bool
ends_with [] value = false
ends_with (r ∷ []) value = nat_eq r.value value
ends_with (r ∷ rs) value = ends_with rs value

-- one more operation of a value at the end
abbrev pub with_op : HeldOps → ℕ → Op → HeldOps
with_op h value op = record {
  ops = h.ops ++ op ∷ [];
  runs = if ends_with h.runs value then h.runs else h.runs ++ (record { value = value; first = length h.ops }) ∷ [];
}

-- where the operations of the next run begin, or all end
abbrev pub next_first : List Run → ℕ → ℕ
next_first [] count = count
next_first (r ∷ rs) count = r.first

-- the range of a value's operations among all of so many; 0, 0 where it has none
abbrev pub range_among : List Run → ℕ → ℕ → OpRange
range_among [] count value = record { first = 0; count = 0 }
range_among (r ∷ rs) count value = if nat_eq r.value value then (record { first = r.first; count = next_first rs count - r.first }) else range_among rs count value

abbrev pub range_of : HeldOps → ℕ → OpRange
range_of h value = range_among h.runs (length h.ops) value

-- so many of a list from a place on, one for each operation of a value
abbrev pub for_value : {A : Type 0} → HeldOps → List A → ℕ → List A
for_value h items value = take (range_of h value).count (drop (range_of h value).first items)

-- the operations of a value
abbrev pub ops_of : HeldOps → ℕ → List Op
ops_of h value = for_value h h.ops value

-- Runs rise by values and by places, the first begins with the first operation, and each has one. Numbers of 32 bits name all.
pub record AreRuns (h : HeldOps) : Type 0 where
  pub rising : (i j : ℕ) → i < j → j < length h.runs → ((run_at h.runs i).value < (run_at h.runs j).value) × ((run_at h.runs i).first < (run_at h.runs j).first)
  pub first : 0 < length h.runs → (run_at h.runs 0).first ≡ 0
  pub some : (i : ℕ) → i < length h.runs → (run_at h.runs i).first < length h.ops
  pub all : h.runs ≡ [] → h.ops ≡ []
  pub few : length h.ops < 2 ^ 32

-- the value isn't before that of the last operation
abbrev pub ComesLast : List Run → ℕ → Type 0
ComesLast runs value = (i : ℕ) → i < length runs → (run_at runs i).value ≤ value
