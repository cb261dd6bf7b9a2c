-- Where the codes 0 stand in a whole walk.
use Rattle.std.proofs.Common.{◌≡◌, ◌≢◌, ◌≤◌, ◌<◌, ◌+◌, ◌-◌, ℕ, suc, List, [], ◌∷◌, ◌++◌, length, ◌∙◌, sym, ap, refl, subst, arith}
use Rattle.std.specs.Prelude.{Bool, true, false, if◌then◌else◌}
use Rattle.std.proofs.lemmas.List.{append-nil, append_assoc}
use Rattle.abbrev_tables.specs.Tables.{Declared}
use Rattle.entry_arena.specs.declared.entry.Entry.{Entry}
use Rattle.entry_arena.specs.Trees.{declared_at, Listed, nothing_from, AddsEntry}
use Rattle.entry_arena.specs.Walks.{Item, opened, Walks, IsWhole}
use Rattle.entry_arena.specs.Walks.Item.{AnEntry, AnEnd}
use Rattle.entry_arena.specs.Runs.{outline_of, zeros, chains_of, items_of, AreNested, AreBelow, HasRuns}
use Rattle.entry_arena.proofs.TreeLaws.{entry_grows, some_listed, still_open, cons_filled}

opened_len : (flag : Bool) (id : ℕ) (chains : List ℕ) → length (if flag then id ∷ chains else chains) ≡ length chains + (if flag then 1 else 0)
opened_len true id chains = omega arith
opened_len false id chains = omega arith

-- one chain more is one code 0 more in front
zeros_more : (ds : List Declared) (level : ℕ) (entries : List (ℕ × ℕ)) → AreNested ds level entries → AnEnd ∷ items_of ds level entries ≡ items_of ds (suc level) entries
zeros_more ds level [] nested = refl
zeros_more ds level (e ∷ more) (fits, rest) =
    let one : suc level - e.0 ≡ suc (level - e.0) = omega arith in
    ap (λ (n : ℕ). zeros n ++ (AnEntry e.1 ∷ items_of ds (e.0 + chains_of ds e.1) more)) (sym one)

pub nested_more : (ds : List Declared) (level : ℕ) (entries : List (ℕ × ℕ)) → AreNested ds level entries → AreNested ds (suc level) entries
nested_more ds level [] nested = tt
nested_more ds level (e ∷ more) (fits, rest) = (omega arith, rest)

-- an entry at the level of the open chains has no code 0 before it
zeros_none : (ds : List Declared) (level number : ℕ) (more : List (ℕ × ℕ)) → AnEntry number ∷ items_of ds (level + chains_of ds number) more ≡ items_of ds level ((level, number) ∷ more)
zeros_none ds level number more =
    let none : level - level ≡ 0 = omega arith in
    ap (λ (n : ℕ). zeros n ++ (AnEntry number ∷ items_of ds (level + chains_of ds number) more)) (sym none)

-- what a walk adds up to its end
record Adds (ds : List Declared) (level : ℕ) (old new : Listed) (items : List Item) : Type 0 where
  more : List Entry
  entries : new.entries ≡ old.entries ++ more
  items_are : items ≡ items_of ds level (outline_of more)
  nested : AreNested ds level (outline_of more)
  below : AreBelow (outline_of more)

module _ (section : List ℕ) (ds : List Declared) where
  -- an entry before what is added
  record AddsFront (level number : ℕ) (old new : Listed) (items : List Item) : Type 0 where
    first : Entry
    more : List Entry
    depth : first.depth ≡ level
    entries : new.entries ≡ old.entries ++ (first ∷ more)
    items_are : AnEntry number ∷ items ≡ items_of ds level (outline_of (first ∷ more))
    nested : AreNested ds level (outline_of (first ∷ more))
    below : AreBelow (outline_of more)

  adds_entry : (level number size : ℕ) (old mid new : Listed) (items : List Item) → size ≡ level + chains_of ds number → AddsEntry section ds level number old mid → Adds ds size mid new items → AddsFront level number old new items
  adds_entry level number size old mid new items same adds rest =
      let e : Entry = record { at = old.place; len = mid.place - old.place; depth = level; decl = number; first = length old.values; count = length adds.values } in
      let self : level ≤ level = omega arith in
      record {
        first = e;
        more = rest.more;
        depth = refl;
        entries = rest.entries ∙ ap (λ (z : List Entry). z ++ rest.more) adds.entered ∙ append_assoc old.entries (e ∷ []) rest.more;
        items_are = ap (λ (z : List Item). AnEntry number ∷ z) (rest.items_are ∙ ap (λ (z : ℕ). items_of ds z (outline_of rest.more)) same) ∙ zeros_none ds level number (outline_of rest.more);
        nested = (self, subst (λ (z : ℕ). AreNested ds z (outline_of rest.more)) same rest.nested);
        below = rest.below;
      }

  level_positive : (chains : List ℕ) → chains ≢ [] → 0 < length chains
  level_positive [] some = absurd (some refl)
  level_positive (id ∷ chains) some = omega arith

  adds_of : (items : List Item) (old : Listed) (chains : List ℕ) (new : Listed) → old.entries ≢ [] → Walks section ds old chains items new [] → Adds ds (length chains) old new items
  adds_of [] old chains new some (same, none) = record {
    more = [];
    entries = ap (λ (z : Listed). z.entries) same ∙ sym (append-nil old.entries);
    items_are = ap (λ (z : List ℕ). zeros (length z)) none;
    nested = tt;
    below = tt;
  }
  adds_of (AnEntry number ∷ items) old chains new some (going, (mid, adds, walk)) =
      let grown : length old.entries < length mid.entries = entry_grows section ds (length chains) number old mid adds in
      let rest = adds_of items mid (opened ds number (length old.entries) chains) new (some_listed mid.entries (omega arith)) walk in
      let r = adds_entry (length chains) number (length (opened ds number (length old.entries) chains)) old mid new items (opened_len ((declared_at ds number).children) (length old.entries) chains) adds rest in
      let up : 0 < length chains = level_positive chains (still_open section ds old chains some going) in
      let depth : r.first.depth ≡ length chains = r.depth in
      let positive : 0 < r.first.depth = omega arith in
      record { more = r.first ∷ r.more; entries = r.entries; items_are = r.items_are; nested = r.nested; below = (positive, r.below) }
  adds_of (AnEnd ∷ items) old chains new some (id, outer, mid, e, adds, walk) =
      let same : mid.entries ≡ old.entries = adds.entered in
      let rest = adds_of items mid outer new (λ none. some (sym same ∙ none)) walk in
      let size : suc (length outer) ≡ length chains = sym (ap length e) in
      record {
        more = rest.more;
        entries = rest.entries ∙ ap (λ (z : List Entry). z ++ rest.more) same;
        items_are = ap (λ (z : List Item). AnEnd ∷ z) rest.items_are ∙ zeros_more ds (length outer) (outline_of rest.more) rest.nested ∙ ap (λ (z : ℕ). items_of ds z (outline_of rest.more)) size;
        nested = subst (λ (z : ℕ). AreNested ds z (outline_of rest.more)) size (nested_more ds (length outer) (outline_of rest.more) rest.nested);
        below = rest.below;
      }

  runs_of : (items : List Item) (start : ℕ) (forest : Listed) → forest.entries ≢ [] → Walks section ds (nothing_from start) [] items forest [] → HasRuns ds items forest.entries
  runs_of [] start forest some (same, none) = absurd (some (ap (λ (z : Listed). z.entries) same))
  runs_of (AnEntry root ∷ items) start forest some (going, (mid, adds, walk)) =
      let grown : 0 < length mid.entries = entry_grows section ds 0 root (nothing_from start) mid adds in
      let rest = adds_of items mid (opened ds root 0 []) forest (some_listed mid.entries grown) walk in
      let r = adds_entry 0 root (length (opened ds root 0 [])) (nothing_from start) mid forest items (opened_len ((declared_at ds root).children) 0 []) adds rest in
      record {
        root = r.first;
        below = r.more;
        entries_are = r.entries;
        items_are = r.items_are ∙ ap (λ (z : List Entry). items_of ds 0 (outline_of z)) (sym r.entries);
        nested = subst (λ (z : List Entry). AreNested ds 0 (outline_of z)) (sym r.entries) r.nested;
        deeper = r.below;
      }
  runs_of (AnEnd ∷ items) start forest some (id, outer, mid, e, adds, walk) = absurd (cons_filled id outer (sym e))

  pub whole_runs : (start : ℕ) (forest : Listed) → (whole : IsWhole section ds start forest) → HasRuns ds whole.items forest.entries
  whole_runs start forest whole = runs_of whole.items start forest whole.some whole.walked
