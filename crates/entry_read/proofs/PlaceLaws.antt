-- What is held of a unit lies in it, and only limits ask for the units before.
use Rattle.std.proofs.Common.{◌≡◌, ◌≤◌, ◌<◌, ◌+◌, ℕ, List, [], ◌∷◌, sym, ap, subst, refl, arith, length}
use Rattle.dw_base.specs.declared.fault.Kind.TheVariants.{Limit, Tree, Short, LebWide, Text, CodeMissing}
use Rattle.abbrev_tables.specs.Tables.{Declared}
use Rattle.entry_arena.specs.Arena.{Arena, entry_at, chain_end_at, IsEntryAt, IsChainEndAt}
use Rattle.entry_arena.specs.Order.{IsInOrder, ComesAfterAll}
use Rattle.entry_arena.specs.Places.{held_of}
use Rattle.entry_arena.specs.Trees.{listed_to, nothing_from}
use Rattle.entry_arena.specs.Walks.{IsWhole}
use Rattle.entry_arena.proofs.TreeLaws.{trees_are_walks}
use Rattle.entry_arena.proofs.FrontLaws.{comes_to_entry, comes_to_end}
use Rattle.entry_arena.proofs.StepLaws.{walks_rise}
use Rattle.entry_arena.proofs.WalkPlaces.{walked_orderly}
use Rattle.entry_arena.specs.Standing.{StandsAs}
use Rattle.entry_arena.proofs.StandingLaws.{entries_stand}
use Rattle.entry_read.specs.declared.head.UnitHead.{UnitHead}
use Rattle.entry_read.specs.Units.{entries_at, end_of, IsUnit, IsUnitHeld}
use Rattle.entry_read.specs.Places.{LiesInUnit, UnitsLie, OnlyLimitsCount}

-- what is held is what is listed
held_is : (f : Arena) (section : List ℕ) (place : ℕ) → f.section ≡ section → held_of section (listed_to f place) ≡ f
held_is f section place e = ap (λ s. record { section = s; entries = f.entries; values = f.values; ends = f.ends }) (sym e)

module _ (info : List ℕ) (head : UnitHead) (ds : List Declared) (f : Arena) (section : f.section ≡ info) (end : ℕ) (unit : IsUnit info head ds (listed_to f end)) where
  whole : IsWhole info ds (entries_at head) (listed_to f end)
  whole = (trees_are_walks info ds (entries_at head) (listed_to f end)).0 unit.tree

  orderly : IsInOrder f
  orderly = subst IsInOrder (held_is f info end section) (walked_orderly info ds (entries_at head) whole.items (listed_to f end) [] whole.walked).order

  stand_before : ComesAfterAll f.entries f.ends end
  stand_before = (walked_orderly info ds (entries_at head) whole.items (listed_to f end) [] whole.walked).after

  entry_lies : (id place : ℕ) → IsEntryAt f id place → (entries_at head ≤ place) × (place < end_of head)
  entry_lies id place (inside, here) =
      let c = comes_to_entry info ds (entries_at head) whole.items (listed_to f end) [] whole.walked id inside in
      let rises : entries_at head ≤ c.now.place = (walks_rise info ds (nothing_from (entries_at head)) [] c.before c.now c.chains c.walked).place in
      let at : (entry_at f.entries id).at ≡ c.now.place = ap (λ e. e.at) c.here in
      let before : (entry_at f.entries id).at + (entry_at f.entries id).len ≤ end = stand_before.entered id inside in
      let wide : 0 < (entry_at f.entries id).len = orderly.entered.wide id inside in
      let within : end ≤ end_of head = unit.inside in
      (omega arith, omega arith)

  end_lies : (id place : ℕ) → IsChainEndAt f id place → (entries_at head ≤ place) × (place < end_of head)
  end_lies id place (k, inside, here) =
      let c = comes_to_end info ds (entries_at head) whole.items (listed_to f end) [] whole.walked k inside in
      let rises : entries_at head ≤ c.now.place = (walks_rise info ds (nothing_from (entries_at head)) [] c.before c.now (c.parent ∷ c.outer) c.walked).place in
      let at : (chain_end_at f.ends k).at ≡ c.now.place = ap (λ e. e.at) c.here in
      let same : (chain_end_at f.ends k).at ≡ place = ap (λ e. e.at) here in
      let before : (chain_end_at f.ends k).at < end = stand_before.ended k inside in
      let within : end ≤ end_of head = unit.inside in
      (omega arith, omega arith)

  lies : LiesInUnit head f
  lies = record { order = orderly; entries = entry_lies; ends = end_lies }

pub units_lie : UnitsLie
units_lie info head ds f section (end, unit) = lies info head ds f section end unit

pub only_limits_count : OnlyLimitsCount
only_limits_count info head ds before other Limit place other_kind f = absurd (other_kind refl)
only_limits_count info head ds before other Tree place other_kind f = record { now = f.now; chains = f.chains; front = f.front; fault = f.fault }
only_limits_count info head ds before other Short place other_kind f = record { now = f.now; chains = f.chains; front = f.front; fault = f.fault }
only_limits_count info head ds before other LebWide place other_kind f = record { now = f.now; chains = f.chains; front = f.front; fault = f.fault }
only_limits_count info head ds before other Text place other_kind f = record { now = f.now; chains = f.chains; front = f.front; fault = f.fault }
only_limits_count info head ds before other CodeMissing place other_kind f = record { now = f.now; chains = f.chains; front = f.front; fault = f.fault }
only_limits_count info head ds before other kind place other_kind f = absurd f.fault

-- an entry of a unit that is held stands in its section
pub entry_stands : (info : List ℕ) (head : UnitHead) (ds : List Declared) (f : Arena) → f.section ≡ info → IsUnitHeld info head ds f → (id : ℕ) → id < length f.entries → StandsAs f.section ds f.values (entry_at f.entries id)
entry_stands info head ds f section (end, unit) id inside =
    subst (λ (z : List ℕ). StandsAs z ds f.values (entry_at f.entries id)) (sym section) (entries_stand info ds (entries_at head) (listed_to f end) id (whole info head ds f section end unit) inside)
