-- What stands first of all that isn't done is what the walk goes on with.
use Rattle.std.proofs.Common.{◌≡◌, ◌<◌, ℕ, List, length, arith, ap, inl, inr}
use Rattle.abbrev_tables.specs.Tables.{Declared}
use Rattle.entry_arena.specs.declared.entry.ChainEnd.{ChainEnd}
use Rattle.entry_arena.specs.Arena.{Arena, entry_at, chain_end_at}
use Rattle.entry_arena.specs.Trees.{Listed, listed_to}
use Rattle.entry_arena.specs.Walks.{Item}
use Rattle.entry_arena.specs.Onward.{HasWalked, EntryIsNext, EndIsNext, IsWalked}
use Rattle.entry_arena.proofs.OnwardLaws.{walks_go_on}
use Rattle.unit_write.specs.declared.items.Items.{Items}
use Rattle.unit_write.specs.inside.Readings.{IsEndNext}

module _ (f : Arena) (ds : List Declared) (start place : ℕ) (items : List Item) (now : Listed) (chains : List ℕ) (rest : List Item) (at : Items) (walked : HasWalked f.section ds start (listed_to f place) at.entries at.ends items now chains rest) where
  abbrev EntryNext : Type 0
  EntryNext = EntryIsNext f.section ds start (listed_to f place) at.entries at.ends items now chains rest

  abbrev EndNext : Type 0
  EndNext = EndIsNext f.section ds start (listed_to f place) at.entries at.ends items now chains rest

  abbrev AllWalked : Type 0
  AllWalked = IsWalked (listed_to f place) at.entries at.ends now chains rest

  pub end_next : IsEndNext f at → EndNext
  end_next h = (walks_go_on f.section ds start (listed_to f place) at.entries at.ends items now chains rest walked).chain_end h.0 h.1

  -- the code 0 with which a walk goes on stands first
  end_first : EndNext → IsEndNext f at
  end_first e = (
    e.inside,
    λ h.
        let here : (chain_end_at f.ends at.ends).at ≡ now.place = ap (λ (z : ChainEnd). z.at) e.here in
        let below : now.place < (entry_at f.entries at.entries).at = e.before_entries at.entries (omega arith) h in
        omega arith,
  )

  pub entry_next : (IsEndNext f at → ⊥) → at.entries < length f.entries → EntryNext
  entry_next other h = elim ((walks_go_on f.section ds start (listed_to f place) at.entries at.ends items now chains rest walked).cases) [
    | inl e ↦ e
    | inr (inl e) ↦ absurd (other (end_first e))
    | inr (inr w) ↦ absurd (let e : at.entries ≡ length f.entries = w.entries_are in omega arith)
  ]

  pub all_walked : (IsEndNext f at → ⊥) → (at.entries < length f.entries → ⊥) → AllWalked
  all_walked other none = elim ((walks_go_on f.section ds start (listed_to f place) at.entries at.ends items now chains rest walked).cases) [
    | inl e ↦ absurd (none e.inside)
    | inr (inl e) ↦ absurd (other (end_first e))
    | inr (inr w) ↦ w
  ]
