-- What a walk lists, as a forest holds it, and that it comes in order: what the reader of a unit meets may be pushed.
use Rattle.std.specs.Prelude.{◌≡◌, ◌≤◌, ◌-◌, ℕ, ℤ, List, [], ◌∷◌, ◌++◌, length}
use Rattle.form_codec.specs.declared.value.Value.{Value}
use Rattle.form_codec.specs.Forms.{SpellsValue}
use Rattle.form_codec.specs.Values.{meant_in, IsPlaced}
use Rattle.abbrev_tables.specs.declared.decl.Spec.{Spec}
use Rattle.abbrev_tables.specs.Tables.{Declared}
use Rattle.entry_arena.specs.Arena.{Arena}
use Rattle.entry_arena.specs.Order.{IsInOrder, ComesAfterAll, IsNextEntry, IsNextValue, IsNextEnd}
use Rattle.entry_arena.specs.Trees.{Listed, SpellsBetween, ValuesBetween, nothing_from, AddsEntry, AddsEnd}
use Rattle.entry_arena.specs.Walks.{Item, Walks}

abbrev pub held_of : List ℕ → Listed → Arena
held_of section now = record { section = section; entries = now.entries; values = now.values; ends = now.ends }

-- and with values of the entry that comes next
abbrev pub held_with : List ℕ → Listed → List Value → Arena
held_with section now values = record { section = section; entries = now.entries; values = now.values ++ values; ends = now.ends }

-- what is listed is in order
abbrev pub WalksAreInOrder : Type 0
WalksAreInOrder = (section : List ℕ) (ds : List Declared) (start : ℕ) (items : List Item) (now : Listed) (chains : List ℕ) → Walks section ds (nothing_from start) [] items now chains → IsInOrder (held_of section now)

-- and stands before the place that the walk has come to
abbrev pub WalksStandBefore : Type 0
WalksStandBefore = (section : List ℕ) (ds : List Declared) (start : ℕ) (items : List Item) (now : Listed) (chains : List ℕ) → Walks section ds (nothing_from start) [] items now chains → ComesAfterAll now.entries now.ends now.place

-- after some values of the entry that stands next, its next value is the next one in order
abbrev pub ValuesComeNext : Type 0
ValuesComeNext = (section : List ℕ) (ds : List Declared) (start : ℕ) (items : List Item) (now : Listed) (chains : List ℕ) → Walks section ds (nothing_from start) [] items now chains → (values_at from next : ℕ) (columns : List Spec) (values : List Value) (name code : ℕ) (constant : ℤ) (v : Value) → now.place ≤ values_at → ValuesBetween section columns values values_at from → SpellsBetween (SpellsValue name code constant (meant_in section v)) section from next → IsPlaced v from next → IsNextValue (held_with section now values) v

-- after its values, the entry is
abbrev pub EntriesComeNext : Type 0
EntriesComeNext = (section : List ℕ) (ds : List Declared) (start : ℕ) (items : List Item) (now : Listed) (chains : List ℕ) → Walks section ds (nothing_from start) [] items now chains → (number : ℕ) (new : Listed) → (added : AddsEntry section ds (length chains) number now new) → IsNextEntry (held_with section now added.values) (record { at = now.place; len = new.place - now.place; depth = length chains; decl = number; first = length now.values; count = length added.values })

-- and where a code 0 ends the innermost chain, that is
abbrev pub EndsComeNext : Type 0
EndsComeNext = (section : List ℕ) (ds : List Declared) (start : ℕ) (items : List Item) (now : Listed) (chains : List ℕ) → Walks section ds (nothing_from start) [] items now chains → (id : ℕ) (outer : List ℕ) (new : Listed) → chains ≡ id ∷ outer → AddsEnd section id now new → IsNextEnd (held_of section now) id now.place
