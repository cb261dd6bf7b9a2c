-- Each value of a unit is one of an entry.
use Rattle.std.proofs.Common.{◌≡◌, ◌≢◌, ◌≤◌, ◌<◌, ◌+◌, ℕ, zero, suc, List, [], ◌∷◌, length, sym, refl, subst, arith, inl, inr}
use Rattle.std.proofs.lemmas.Bool.{cases_lt}
use Rattle.abbrev_tables.specs.Tables.{Declared}
use Rattle.entry_arena.specs.declared.entry.Entry.{Entry}
use Rattle.entry_arena.specs.Arena.{Arena, entry_at}
use Rattle.entry_arena.specs.Trees.{declared_at, listed_to}
use Rattle.entry_arena.specs.Walks.{IsWhole}
use Rattle.entry_arena.proofs.FrontLaws.{comes_to_entry}
use Rattle.entry_arena.proofs.TreeLaws.{trees_are_walks}
use Rattle.entry_arena.proofs.WalkPlaces.{walked_orderly}
use Rattle.entry_arena.proofs.StepLaws.{values_counted}
use Rattle.entry_read.specs.declared.head.UnitHead.{UnitHead}
use Rattle.entry_read.specs.Units.{entries_at, IsUnit}
use Rattle.entry_read.specs.Places.{HaveOwners, ValuesBelong}

-- ranges that follow one another hold each number up to the end of the last
abbrev Holds : List Entry → ℕ → Type 0
Holds entries k = (id : ℕ) × (id < length entries) × ((entry_at entries id).first ≤ k) × (k < (entry_at entries id).first + (entry_at entries id).count)

module _ (entries : List Entry) (start : (entry_at entries 0).first ≡ 0) (adjacent : (i : ℕ) → i + 1 < length entries → (entry_at entries (i + 1)).first ≡ (entry_at entries i).first + (entry_at entries i).count) where
  owner : (last k : ℕ) → last < length entries → k < (entry_at entries last).first + (entry_at entries last).count → Holds entries k
  owner zero k inside below = (0, inside, omega arith, below)
  owner (suc m) k inside below =
      let same : m + 1 ≡ suc m = omega arith in
      let first : (entry_at entries (suc m)).first ≡ (entry_at entries m).first + (entry_at entries m).count = subst (λ (z : ℕ). (entry_at entries z).first ≡ (entry_at entries m).first + (entry_at entries m).count) same (adjacent m (omega arith)) in
      elim (cases_lt k (entry_at entries (suc m)).first) [
        | inl before ↦ owner m k (omega arith) (omega arith)
        | inr here ↦ (suc m, inside, omega arith, below)
      ]

some_entry : (entries : List Entry) → entries ≢ [] → (last : ℕ) × (last + 1 ≡ length entries)
some_entry [] some = absurd (some refl)
some_entry (e ∷ more) some = (length more, omega arith)

module _ (info : List ℕ) (head : UnitHead) (ds : List Declared) (f : Arena) (end : ℕ) (unit : IsUnit info head ds (listed_to f end)) where
  whole : IsWhole info ds (entries_at head) (listed_to f end)
  whole = (trees_are_walks info ds (entries_at head) (listed_to f end)).0 unit.tree

  entry_declared : (id : ℕ) → id < length f.entries → ((entry_at f.entries id).decl < length ds) × ((entry_at f.entries id).count ≡ length (declared_at ds (entry_at f.entries id).decl).columns)
  entry_declared id inside =
      let c = comes_to_entry info ds (entries_at head) whole.items (listed_to f end) [] whole.walked id inside in
      let counted : length c.adds.values ≡ length ((declared_at ds c.number).columns) = values_counted info ((declared_at ds c.number).columns) c.adds.values c.adds.values_at c.mid.place c.adds.valued in
      subst (λ (e : Entry). (e.decl < length ds) × (e.count ≡ length (declared_at ds e.decl).columns)) (sym c.here) (c.adds.known, counted)

  owners : HaveOwners ds f
  owners =
      let o = walked_orderly info ds (entries_at head) whole.items (listed_to f end) [] whole.walked in
      let last = some_entry f.entries whole.some in
      let last_is : last.0 + 1 ≡ length f.entries = last.1 in
      let start : (entry_at f.entries 0).first ≡ 0 = o.order.valued.first (omega arith) in
      let used : length f.values ≡ (entry_at f.entries last.0).first + (entry_at f.entries last.0).count = o.used last.0 last.1 in
      record {
        owned = λ k inside. owner f.entries start o.order.valued.adjacent last.0 k (omega arith) (omega arith);
        inside = o.order.valued.inside;
        declared = λ id inside. (entry_declared id inside).0;
        counted = λ id inside. (entry_declared id inside).1;
        first = start;
        adjacent = o.order.valued.adjacent;
        last = λ id here. sym (o.used id here);
      }

pub values_belong : ValuesBelong
values_belong info head ds f section (end, unit) = owners info head ds f end unit
