-- What the search for the shortest bytes knows on its way, from the last item to the first.
-- Inner functions and proofs alone need what stands here.
use Rattle.std.specs.Prelude.{◌≡◌, ◌≤◌, ◌<◌, ◌+◌, ◌-◌, ◌^◌, ◌⊎◌, ℕ, List, [], ◌∷◌, length, if◌then◌else◌, false, slice_index_or, min, nat_lt, ◌++◌, Option, Some, None, unwrap_or}
use Rattle.leb_codec.specs.LineCosts.{IsLeastCost}
use Rattle.list_model.specs.declared.context.Context.{Context}
use Rattle.list_model.specs.Items.{Bounds}
use Rattle.list_model.specs.Items.Bounds.{between, elsewhere}
use Rattle.list_model.specs.Costs.{ItemWithin, BaseWithin}
use Rattle.list_model.specs.Potentials.{OnFrom}
use Rattle.leb_codec.specs.Leb.{least_unsigned_len}
use Rattle.list_model.specs.declared.item.Item.{Item}
use Rattle.list_least.specs.Plans.{bounds_of, item_at}
use Rattle.list_least.specs.Tails.{run_at, StartAtTop, GoDown, IsIn, IsLess, AreLeft, IsSet, IsReady, IsTailOf}
use Rattle.list_least.specs.inside.Lookups.{IsIndexOf}
use Rattle.list_least.specs.declared.costs.Costs.{Costs}
use Rattle.list_least.specs.declared.costs.Piece.{Piece}
use Rattle.list_least.specs.declared.runs.Run.{Run}
use Rattle.list_least.specs.declared.cheapest.Choice.{Choice}
use Rattle.list_least.specs.declared.tail.Step.{Step}

-- n bytes are enough for an item under every base
abbrev pub FreeWithin : List ℕ → Context → Bounds → ℕ → Type 0
FreeWithin addr context item n = (base : ℕ) → ItemWithin addr context base item n

-- what is kept of an item
abbrev pub kept_bounds : Costs → Bounds
kept_bounds costs = if costs.whole then elsewhere else between costs.start costs.end

-- what an item costs under every base, and the least indexes of its addresses
pub record AreCosts (addr : List ℕ) (context : Context) (item : Bounds) (costs : Costs) : Type 0 where
  pub bounds : kept_bounds costs ≡ item
  pub indexes : costs.whole ≡ false → IsIndexOf addr context costs.start costs.first × IsIndexOf addr context costs.end costs.last
  pub free : IsLeastCost (FreeWithin addr context item) costs.free
  pub few : costs.free ≤ 17

-- the costs of the item with a number, from 0
abbrev pub costs_at : List Costs → ℕ → Costs
costs_at all i = slice_index_or all i (record { start = 0; end = 0; whole = false; first = None; last = None; free = 0 })

-- what the first items cost
pub record AreCostsTo (addr : List ℕ) (context : Context) (items : List Item) (n : ℕ) (all : List Costs) : Type 0 where
  pub same : length all ≡ n
  pub each : (i : ℕ) → i < n → AreCosts addr context (bounds_of (item_at items i)) (costs_at all i)

-- what each of some items costs
abbrev pub AreAllCosts : List ℕ → Context → List Item → List Costs → Type 0
AreAllCosts addr context items all = AreCostsTo addr context items (length items) all

-- This is what some item costs.
abbrev pub AreSomeCosts : Costs → Type 0
AreSomeCosts costs = (addr : List ℕ) × (context : Context) × (item : Bounds) × AreCosts addr context item costs

-- This is what each of some items costs.
abbrev pub AreKnownCosts : List Costs → Type 0
AreKnownCosts all = (addr : List ℕ) × (context : Context) × (items : List Item) × AreAllCosts addr context items all

-- so many bytes are an item's under a base
abbrev pub IsBytesUnder : Costs → ℕ → ℕ → Type 0
IsBytesUnder costs base bytes = (addr : List ℕ) (context : Context) (item : Bounds) → AreCosts addr context item costs → IsLeastCost (ItemWithin addr context base item) bytes

-- what an item costs under each base from one down to another
pub record IsPiece (addr : List ℕ) (context : Context) (item : Bounds) (top : ℕ) (piece : Piece) : Type 0 where
  pub cost : (base : ℕ) → piece.bottom ≤ base → base ≤ top → IsLeastCost (ItemWithin addr context base item) piece.cost
  pub few : piece.cost ≤ 17
  pub below : piece.bottom ≤ top

-- the bytes of an address, by its index where it has one
abbrev pub address_bytes : Option ℕ → ℕ
address_bytes None = 8
address_bytes (Some index) = min (least_unsigned_len index) 8

-- the bytes of two addresses, by their indexes where both have one
abbrev pub both_bytes : Option ℕ → Option ℕ → ℕ
both_bytes (Some first) (Some last) = min (least_unsigned_len first + least_unsigned_len last) 16
both_bytes _ _ = 16

-- the bytes of an item between two addresses that have these indexes, by entries that need no base
abbrev pub free_of : ℕ → ℕ → Option ℕ → Option ℕ → ℕ
free_of start end first last = if nat_lt end start then 1 + both_bytes first last else 1 + min (both_bytes first last) (address_bytes first + least_unsigned_len (end - start))

-- ---- bases with as many bytes

-- each run begins at this base or above it
abbrev pub BeginFrom : List Run → ℕ → Type 0
BeginFrom runs bottom = (i : ℕ) → i < length runs → bottom ≤ (run_at runs i).upto

-- n bytes are enough for an item and what follows it under its base
pub record ItemFirst (addr : List ℕ) (context : Context) (base : ℕ) (item : Bounds) (items : List Bounds) (potentials : List ℕ) (n : ℕ) : Type 0 where
  pub first : ℕ
  pub rest : ℕ
  pub one : ItemWithin addr context base item first
  pub others : OnFrom addr context base items potentials rest
  pub sum : first + rest ≤ n

-- the same under each base of a run, from one up, for an item and those behind it where the base stays
abbrev pub AreLeftBehind : List ℕ → Context → Bounds → List Bounds → List ℕ → ℕ → List Run → ℕ → Type 0
AreLeftBehind addr context item items potentials under runs bottom = (i base : ℕ) → IsIn runs i base → bottom ≤ base → IsLess (ItemFirst addr context base item items potentials) under (run_at runs i).gain

-- the same under each base from one down to another, for items
abbrev pub IsLeftBetween : List ℕ → Context → List Bounds → List ℕ → ℕ → ℕ → ℕ → ℕ → Type 0
IsLeftBetween addr context items potentials under top bottom gain = (base : ℕ) → bottom ≤ base → base ≤ top → IsLess (OnFrom addr context base items potentials) under gain

-- a run is at the end, or its bytes are those of the run there, which goes on
abbrev pub IsPushed : List Run → Run → List Run → Type 0
IsPushed old run new = (new ≡ old ++ run ∷ []) ⊎ ((i : ℕ) × (i + 1 ≡ length old) × ((run_at old i).gain ≡ run.gain) × (new ≡ old))

-- the last runs are those of an item from one base down to another, where so many bytes are left for those behind it
pub record AddsDown (costs : Costs) (gain top bottom : ℕ) (old new : List Run) : Type 0 where
  pub down : GoDown new
  pub from : BeginFrom new bottom
  pub some : 0 < length new
  pub first : ((old ≡ []) × ((run_at new 0).upto ≡ top)) ⊎ ((0 < length old) × ((run_at new 0).upto ≡ (run_at old 0).upto))
  pub small : (i : ℕ) → i < length new → ((run_at new i).gain ≤ gain + 17) ⊎ ((j : ℕ) × (j < length old) × ((run_at new i).gain ≡ (run_at old j).gain))
  pub left_behind : (addr : List ℕ) (context : Context) (item : Bounds) (items : List Bounds) (potentials : List ℕ) (under : ℕ) →
      AreCosts addr context item costs → IsLeftBetween addr context items potentials under top bottom gain →
      AreLeftBehind addr context item items potentials (under + costs.free) old (top + 1) →
      AreLeftBehind addr context item items potentials (under + costs.free) new bottom

-- the base above those of a run with a number, or 0 past the last run
pub record IsAbove (runs : List Run) (i bottom : ℕ) : Type 0 where
  pub inner : i < length runs → bottom ≡ (run_at runs i).upto + 1
  pub last : i ≡ length runs → bottom ≡ 0

-- The runs of an item are those of the bases of the first i runs of what is behind it.
pub record IsBehindTo (costs : Costs) (most : ℕ) (old : List Run) (i : ℕ) (new : List Run) : Type 0 where
  pub bottom : ℕ
  pub above : IsAbove old i bottom
  pub down : GoDown new
  pub from : BeginFrom new bottom
  pub none : i ≡ 0 → new ≡ []
  pub top : 0 < i → StartAtTop new
  pub small : (j : ℕ) → j < length new → (run_at new j).gain ≤ most + 17
  pub left_behind : (addr : List ℕ) (context : Context) (item : Bounds) (items : List Bounds) (potentials : List ℕ) (under : ℕ) →
      AreCosts addr context item costs → AreLeft addr context items potentials under old →
      AreLeftBehind addr context item items potentials (under + costs.free) new bottom

-- so many bytes are enough to set some base from one up to another, and no fewer
pub record IsBaseBetween (addr : List ℕ) (context : Context) (from to bytes : ℕ) : Type 0 where
  pub least : (base n : ℕ) → from ≤ base → base ≤ to → BaseWithin addr context base n → bytes ≤ n
  pub base : ℕ
  pub above : from ≤ base
  pub below : base ≤ to
  pub enough : BaseWithin addr context base bytes

-- the bytes of a base of the run with a number, and of what is left under it
pub record IsRunBytes (addr : List ℕ) (context : Context) (under : ℕ) (runs : List Run) (i bytes : ℕ) : Type 0 where
  pub lowest : ℕ
  pub set : ℕ
  pub above : IsAbove runs (i + 1) lowest
  pub between : IsBaseBetween addr context lowest (run_at runs i).upto set
  pub sum : bytes ≡ set + (under - (run_at runs i).gain)

-- a base that is set, and what is left under it by the runs
pub record IsChoiceAt (addr : List ℕ) (context : Context) (under : ℕ) (runs : List Run) (choice : Choice) : Type 0 where
  pub i : ℕ
  pub set : ℕ
  pub in_run : IsIn runs i choice.base
  pub is : IsSet addr context choice.index choice.base set
  pub sum : choice.bytes ≡ set + (under - (run_at runs i).gain)

-- a base that is set before an item, and the bytes from there on
pub record IsChosen (addr : List ℕ) (context : Context) (item : Bounds) (items : List Bounds) (potentials : List ℕ) (choice : Choice) : Type 0 where
  pub set : ℕ
  pub left : ℕ
  pub is : IsSet addr context choice.index choice.base set
  pub behind : IsLeastCost (ItemFirst addr context choice.base item items potentials) left
  pub sum : choice.bytes ≡ set + left

-- for each item, one that takes as many bytes as its potential
abbrev pub AreChosen : List ℕ → Context → List Bounds → List ℕ → List Choice → Type 0
AreChosen addr context (item ∷ items) (p ∷ ps) (choice ∷ choices) = (choice.bytes ≡ p) × IsChosen addr context item items ps choice × AreChosen addr context items ps choices
AreChosen addr context [] [] [] = Unit {0}
AreChosen addr context _ _ _ = ⊥

-- the same before an item and those behind it, where the base stays for the item
pub record IsNear (addr : List ℕ) (context : Context) (item : Bounds) (items : List Bounds) (potentials : List ℕ) (choice : Choice) : Type 0 where
  pub chosen : IsChosen addr context item items potentials choice
  pub fits : choice.base < 2 ^ 64
  pub least : (base n m : ℕ) → base < 2 ^ 64 → BaseWithin addr context base n → ItemFirst addr context base item items potentials m → choice.bytes ≤ n + m

-- where a base that was the best before the items behind an item is set before it, at the cost of the item without a base
abbrev pub as_before : Costs → Choice → Choice
as_before costs before = record { bytes = before.bytes + costs.free; base = before.base; index = before.index }

-- the best of that base and those of the first i runs
pub record IsNearTo (addr : List ℕ) (context : Context) (costs : Costs) (under : ℕ) (runs : List Run) (before : Choice) (i : ℕ) (best : Choice) : Type 0 where
  pub most : best.bytes ≤ before.bytes + costs.free
  pub one : IsChoiceAt addr context under runs best ⊎ (best ≡ as_before costs before)
  pub least : (item : Bounds) (items : List Bounds) (potentials : List ℕ) →
      AreCosts addr context item costs → IsReady addr context items potentials before → AreLeftBehind addr context item items potentials under runs 0 →
      (j base n : ℕ) → j < i → base < 2 ^ 64 → IsIn runs j base → BaseWithin addr context base n → best.bytes ≤ n + (under - (run_at runs j).gain)

-- bases of new runs have those of old ones, lowered
pub record IsLoweredTo (by : ℕ) (old : List Run) (i : ℕ) (new : List Run) : Type 0 where
  pub bottom : ℕ
  pub above : IsAbove old i bottom
  pub down : GoDown new
  pub from : BeginFrom new bottom
  pub none : i ≡ 0 → new ≡ []
  pub top : 0 < i → StartAtTop new
  pub small : (j : ℕ) → j < length new → (k : ℕ) × (k < length old) × ((run_at new j).gain ≡ (run_at old k).gain - by)
  pub each : (j base : ℕ) → IsIn new j base → bottom ≤ base → (k : ℕ) × IsIn old k base × ((run_at new j).gain ≡ (run_at old k).gain - by)

-- the same of all runs
pub record IsLowered (by : ℕ) (old new : List Run) : Type 0 where
  pub down : GoDown new
  pub top : StartAtTop new
  pub small : (j : ℕ) → j < length new → (k : ℕ) × (k < length old) × ((run_at new j).gain ≡ (run_at old k).gain - by)
  pub each : (j base : ℕ) → IsIn new j base → (k : ℕ) × IsIn old k base × ((run_at new j).gain ≡ (run_at old k).gain - by)

-- an item is put before the tail of others, with a potential or else with its greatest
pub record IsStep (addr : List ℕ) (context : Context) (item : Bounds) (items : List Bounds) (potentials : List ℕ) (given : Option ℕ) (step : Step) : Type 0 where
  pub near : IsNear addr context item items potentials step.choice
  pub tail : length items < 16384 → IsTailOf addr context (item ∷ items) (unwrap_or given step.choice.bytes ∷ potentials) step.tail
