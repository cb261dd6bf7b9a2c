-- What is known of the last items of a list: how many bytes are left under each base, and the base that is best set before them.
use Rattle.std.specs.Prelude.{◌≡◌, ◌≤◌, ◌<◌, ◌+◌, ◌-◌, ◌*◌, ◌^◌, ℕ, List, length, slice_index_or, Option, Some, None}
use Rattle.leb_codec.specs.Leb.{least_unsigned_len}
use Rattle.leb_codec.specs.LineCosts.{IsLeastCost}
use Rattle.list_model.specs.declared.context.Context.{Context}
use Rattle.list_model.specs.Items.{Bounds, IsIndexed}
use Rattle.list_model.specs.Costs.{BaseWithin}
use Rattle.list_model.specs.Potentials.{OnFrom}
use Rattle.list_least.specs.declared.runs.Run.{Run}
use Rattle.list_least.specs.declared.cheapest.Choice.{Choice}
use Rattle.list_least.specs.declared.tail.Tail.{Tail}

-- the run with a number, from 0
abbrev pub run_at : List Run → ℕ → Run
run_at runs i = slice_index_or runs i (record { upto = 0; gain = 0 })

-- the runs go down
abbrev pub GoDown : List Run → Type 0
GoDown runs = (i : ℕ) → i + 1 < length runs → (run_at runs (i + 1)).upto < (run_at runs i).upto

-- the first run begins at the greatest address
pub record StartAtTop (runs : List Run) : Type 0 where
  pub some : 0 < length runs
  pub first : (run_at runs 0).upto + 1 ≡ 2 ^ 64

-- a base is one of those of a run: from where it begins down to the next one
pub record IsIn (runs : List Run) (i base : ℕ) : Type 0 where
  pub inside : i < length runs
  pub upto : base ≤ (run_at runs i).upto
  pub beyond : i + 1 < length runs → (run_at runs (i + 1)).upto < base

-- the least cost is less than a number by so much
abbrev pub IsLess : (ℕ → Type 0) → ℕ → ℕ → Type 0
IsLess F under gain = (gain ≤ under) × IsLeastCost F (under - gain)

-- under each base of a run, the bytes that are left for items are less than a number by the gain of the run
abbrev pub AreLeft : List ℕ → Context → List Bounds → List ℕ → ℕ → List Run → Type 0
AreLeft addr context items potentials under runs = (i base : ℕ) → IsIn runs i base → IsLess (OnFrom addr context base items potentials) under (run_at runs i).gain

-- so many bytes set a base: by its index where there is one
abbrev pub IsSet : List ℕ → Context → Option ℕ → ℕ → ℕ → Type 0
IsSet addr context None base bytes = bytes ≡ 9
IsSet addr context (Some index) base bytes = IsIndexed addr context index base × (bytes ≡ 1 + least_unsigned_len index)

-- a base that is set before items at the least cost of all, and the bytes from there on
pub record IsReady (addr : List ℕ) (context : Context) (items : List Bounds) (potentials : List ℕ) (before : Choice) : Type 0 where
  pub set : ℕ
  pub left : ℕ
  pub is : IsSet addr context before.index before.base set
  pub fits : before.base < 2 ^ 64
  pub behind : IsLeastCost (OnFrom addr context before.base items potentials) left
  pub sum : before.bytes ≡ set + left
  pub least : (base n m : ℕ) → base < 2 ^ 64 → BaseWithin addr context base n → OnFrom addr context base items potentials m → before.bytes ≤ n + m

-- a tail is that of some items with potentials
pub record IsTailOf (addr : List ℕ) (context : Context) (items : List Bounds) (potentials : List ℕ) (tail : Tail) : Type 0 where
  pub few : length items ≤ 16384
  pub left : AreLeft addr context items potentials tail.under tail.runs.items
  pub ready : IsReady addr context items potentials tail.before
  pub top : StartAtTop tail.runs.items
  pub down : GoDown tail.runs.items
  pub gains : (i : ℕ) → i < length tail.runs.items → (run_at tail.runs.items i).gain ≤ tail.most
  pub low : tail.most ≤ 17 * length items
  pub little : tail.under ≤ 1 + 17 * length items
  pub near : tail.before.bytes ≤ 10 + 17 * length items

-- a tail is that of some items
abbrev pub IsTail : Tail → Type 0
IsTail tail = (addr : List ℕ) × (context : Context) × (items : List Bounds) × (potentials : List ℕ) × IsTailOf addr context items potentials tail
