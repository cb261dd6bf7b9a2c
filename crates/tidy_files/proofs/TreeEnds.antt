-- The tree of a unit ends with its last entry or with its last code 0.
use Rattle.std.proofs.Common.{◌≡◌, ◌≢◌, ◌≤◌, ◌<◌, ◌+◌, ◌-◌, ◌^◌, ◌++◌, ◌∙◌, ◌⊎◌, inl, inr, ℕ, List, [], ◌∷◌, length, get_or, sym, ap, subst, refl, arith}
use Rattle.std.proofs.Math.Seq.{get_or-append_seam}
use Rattle.std.proofs.lemmas.List.{length_push, get_or_read}
use Rattle.leb_codec.specs.Leb.{Uleb}
use Rattle.abbrev_tables.specs.Tables.{Declared}
use Rattle.entry_arena.specs.declared.entry.Entry.{Entry}
use Rattle.entry_arena.specs.declared.entry.ChainEnd.{ChainEnd}
use Rattle.entry_arena.specs.Arena.{Arena, entry_at, chain_end_at}
use Rattle.entry_arena.specs.Trees.{Listed, SpellsBetween, AddsEntry, AddsEnd, listed_to, nothing_from}
use Rattle.entry_arena.specs.Walks.{Item, Walks, IsWhole, opened}
use Rattle.entry_arena.specs.Walks.Item.{AnEntry, AnEnd}
use Rattle.entry_arena.proofs.TreeLaws.{trees_are_walks}
use Rattle.entry_arena.proofs.WalkPlaces.{IsOrderly, entry_orderly, end_orderly, walked_orderly}
use Rattle.entry_read.specs.Units.{HeadAndForest, IsUnit, IsUnitHeld, entries_at}
use Rattle.tidy_files.specs.inside.Paddings.{IsTreeEnd, EndsWithEntry, EndsWithCode, EndsWithLast}

abbrev no_entry : Entry
no_entry = record { at = 0; len = 0; depth = 0; decl = 0; first = 0; count = 0 }

abbrev no_code : ChainEnd
no_code = record { entry = 0; at = 0 }

-- after an entry
by_entry : (section : List ℕ) (ds : List Declared) (number : ℕ) (old new : Listed) (chains : List ℕ) → IsOrderly section old chains → AddsEntry section ds (length chains) number old new → EndsWithEntry new
by_entry section ds number old new chains orderly adds =
    let e : Entry = record { at = old.place; len = new.place - old.place; depth = length chains; decl = number; first = length old.values; count = length adds.values } in
    let size : length (old.entries ++ e ∷ []) ≡ length old.entries + 1 = length_push old.entries e in
    let count : length new.entries ≡ length (old.entries ++ e ∷ []) = ap (λ (es : List Entry). length es) adds.entered in
    let here : entry_at new.entries (length old.entries) ≡ e = ap (λ (es : List Entry). entry_at es (length old.entries)) adds.entered ∙ get_or-append_seam old.entries e [] no_entry in
    let after = entry_orderly section ds number old new chains orderly adds in
    let within : (entry_at new.entries (length old.entries)).at + (entry_at new.entries (length old.entries)).len ≤ new.place = after.after.entered (length old.entries) (omega arith) in
    let at : (entry_at new.entries (length old.entries)).at ≡ old.place = ap (λ (x : Entry). x.at) here in
    let len : (entry_at new.entries (length old.entries)).len ≡ new.place - old.place = ap (λ (x : Entry). x.len) here in
    record {
      last = length old.entries;
      is_last = omega arith;
      end = omega arith;
      before = λ k inside. after.after.ended k inside;
    }

-- after a code 0
by_code : (section : List ℕ) (parent : ℕ) (old new : Listed) (chains : List ℕ) → IsOrderly section old chains → AddsEnd section parent old new → EndsWithCode section new
by_code section parent old new chains orderly adds =
    let x : ChainEnd = record { entry = parent; at = old.place } in
    let size : length (old.ends ++ x ∷ []) ≡ length old.ends + 1 = length_push old.ends x in
    let count : length new.ends ≡ length (old.ends ++ x ∷ []) = ap (λ (xs : List ChainEnd). length xs) adds.ended in
    let here : chain_end_at new.ends (length old.ends) ≡ x = ap (λ (xs : List ChainEnd). chain_end_at xs (length old.ends)) adds.ended ∙ get_or-append_seam old.ends x [] no_code in
    let at : (chain_end_at new.ends (length old.ends)).at ≡ old.place = ap (λ (z : ChainEnd). z.at) here in
    let ended : (k : ℕ) → k < length new.entries → (entry_at new.entries k).at + (entry_at new.entries k).len ≤ old.place = subst (λ (es : List Entry). (k : ℕ) → k < length es → (entry_at es k).at + (entry_at es k).len ≤ old.place) (sym adds.entered) orderly.after.entered in
    record {
      last = length old.ends;
      is_last = omega arith;
      coded = subst (λ (from : ℕ). SpellsBetween (Uleb 0) section from new.place) (sym at) adds.coded;
      before = λ k inside. omega (arith, ended k inside);
    }

-- after each walk
walk_ends : (section : List ℕ) (ds : List Declared) (items : List Item) (old new : Listed) (chains left : List ℕ) → IsOrderly section old chains → EndsWithLast section old → Walks section ds old chains items new left → EndsWithLast section new
walk_ends section ds [] old new chains left orderly ends (same, none) = subst (EndsWithLast section) (sym same) ends
walk_ends section ds (AnEntry number ∷ items) old new chains left orderly ends (going, (mid, adds, rest)) =
    walk_ends section ds items mid new (opened ds number (length old.entries) chains) left (entry_orderly section ds number old mid chains orderly adds) (inr (inl (by_entry section ds number old mid chains orderly adds))) rest
walk_ends section ds (AnEnd ∷ items) old new chains left orderly ends (id, outer, mid, innermost, adds, rest) =
    walk_ends section ds items mid new outer left (end_orderly section id old mid chains outer orderly innermost adds) (inr (inr (by_code section id old mid chains orderly adds))) rest

-- so a unit's tree does
module _ (unit : HeadAndForest) (ds : List Declared) (place : ℕ) (is : IsUnit unit.forest.section unit.head ds (listed_to unit.forest place)) where
  whole : IsWhole unit.forest.section ds (entries_at unit.head) (listed_to unit.forest place)
  whole = (trees_are_walks unit.forest.section ds (entries_at unit.head) (listed_to unit.forest place)).0 is.tree

  pub some_entry : 0 < length unit.forest.entries
  some_entry = filled unit.forest.entries whole.some
    where
      filled : (entries : List Entry) → entries ≢ [] → 0 < length entries
      filled [] some = absurd (some refl)
      filled (e ∷ entries) some = omega arith

  orderly_all : IsOrderly unit.forest.section (listed_to unit.forest place) []
  orderly_all = walked_orderly unit.forest.section ds (entries_at unit.head) whole.items (listed_to unit.forest place) [] whole.walked

  pub entry_inside : (id : ℕ) → id < length unit.forest.entries → (entry_at unit.forest.entries id).at + (entry_at unit.forest.entries id).len ≤ length unit.forest.section
  entry_inside = orderly_all.order.entered.inside

  tree_ends : EndsWithEntry (listed_to unit.forest place) ⊎ EndsWithCode unit.forest.section (listed_to unit.forest place)
  tree_ends =
      let section : List ℕ = unit.forest.section in
      let start : Listed = nothing_from (entries_at unit.head) in
      let orderly = walked_orderly section ds (entries_at unit.head) [] start [] (refl, refl) in
      elim (walk_ends section ds whole.items start (listed_to unit.forest place) [] [] orderly (inl refl) whole.walked) [
        | inl none ↦ absurd (whole.some none)
        | inr ends ↦ ends
      ]

  -- where the last code 0 doesn't stand behind the last entry, the end of that is the end of the tree
  pub entry_ends : (last : ℕ) → last + 1 ≡ length unit.forest.entries → ((code : ℕ) → code + 1 ≡ length unit.forest.ends → (chain_end_at unit.forest.ends code).at < (entry_at unit.forest.entries last).at + (entry_at unit.forest.entries last).len) → (entry_at unit.forest.entries last).at + (entry_at unit.forest.entries last).len ≡ place
  entry_ends last is_last before = elim tree_ends [
    | inl e ↦
        let same : last ≡ e.last = omega (arith, e.is_last) in
        subst (λ (z : ℕ). (entry_at unit.forest.entries z).at + (entry_at unit.forest.entries z).len ≡ place) (sym same) e.end
    | inr e ↦ absurd (omega (arith, before e.last e.is_last, e.before last (omega arith)))
  ]

  -- and else the end of that code
  pub code_ends_tree : (last code : ℕ) → last + 1 ≡ length unit.forest.entries → code + 1 ≡ length unit.forest.ends → (entry_at unit.forest.entries last).at + (entry_at unit.forest.entries last).len ≤ (chain_end_at unit.forest.ends code).at → SpellsBetween (Uleb 0) unit.forest.section (chain_end_at unit.forest.ends code).at place
  code_ends_tree last code is_last is_code behind = elim tree_ends [
    | inl e ↦
        let same : last ≡ e.last = omega (arith, e.is_last) in
        let end : (entry_at unit.forest.entries last).at + (entry_at unit.forest.entries last).len ≡ place = subst (λ (z : ℕ). (entry_at unit.forest.entries z).at + (entry_at unit.forest.entries z).len ≡ place) (sym same) e.end in
        absurd (omega (arith, e.before code (omega arith)))
    | inr e ↦
        let same : e.last ≡ code = omega (arith, e.is_last) in
        subst (λ (z : ℕ). SpellsBetween (Uleb 0) unit.forest.section (chain_end_at unit.forest.ends z).at place) same e.coded
  ]

-- the last entry and the codes 0, as they were taken from what is held
module _ (unit : HeadAndForest) (held : (ds : List Declared) × IsUnitHeld unit.forest.section unit.head ds unit.forest) (f : Arena) (same : f ≡ unit.forest) (count : ℕ) (counted : count ≡ length f.entries) where
  entries_are : count ≡ length unit.forest.entries
  entries_are = counted ∙ ap (λ (z : Arena). length z.entries) same

  pub count_some : 1 ≤ count
  count_some =
      let some : 0 < length unit.forest.entries = some_entry unit held.0 held.1.0 held.1.1 in
      let are : count ≡ length unit.forest.entries = entries_are in
      omega arith

  is_last : count - 1 + 1 ≡ length unit.forest.entries
  is_last = let some : 1 ≤ count = count_some in let are : count ≡ length unit.forest.entries = entries_are in omega arith

  module _ (entry : Entry) (taken : entry ≡ entry_at f.entries (count - 1)) where
    abbrev end : ℕ
    end = entry.at + entry.len

    end_is : end ≡ (entry_at unit.forest.entries (count - 1)).at + (entry_at unit.forest.entries (count - 1)).len
    end_is = ap (λ (e : Entry). e.at + e.len) (taken ∙ ap (λ (z : Arena). entry_at z.entries (count - 1)) same)

    pub end_fits : length unit.forest.section < 2 ^ 64 → end < 2 ^ 64
    end_fits room =
        let within : (entry_at unit.forest.entries (count - 1)).at + (entry_at unit.forest.entries (count - 1)).len ≤ length unit.forest.section = entry_inside unit held.0 held.1.0 held.1.1 (count - 1) (omega (arith, is_last)) in
        omega (arith, end_is)

    module _ (ends : List ChainEnd) (same_ends : ends ≡ f.ends) where
      ends_are : ends ≡ unit.forest.ends
      ends_are = same_ends ∙ ap (λ (z : Arena). z.ends) same

      -- no code 0 stands behind the last entry
      entry_last : ((code : ℕ) → code + 1 ≡ length ends → (chain_end_at ends code).at < end) → IsTreeEnd unit end
      entry_last before = λ ds place is.
          let there = subst (λ (xs : List ChainEnd). (code : ℕ) → code + 1 ≡ length xs → (chain_end_at xs code).at < end) ends_are before in
          end_is ∙ entry_ends unit ds place is (count - 1) is_last (λ code is_code. omega (arith, there code is_code, end_is))

      pub bare_ends : length ends ≤ 0 → IsTreeEnd unit end
      bare_ends none = entry_last (λ code is_code. absurd (omega arith))

      -- the last code 0
      module _ (code : ChainEnd) (filled : 0 < length ends) (is : code ≡ get_or ends (length ends - 1) code) where
        code_is : code ≡ chain_end_at ends (length ends - 1)
        code_is = get_or_read ends (length ends - 1) code (omega arith) is no_code

        pub entry_behind : code.at < end → IsTreeEnd unit end
        entry_behind less = entry_last (λ k is_code.
            let place : (chain_end_at ends (length ends - 1)).at ≡ code.at = ap (λ (z : ChainEnd). z.at) (sym code_is) in
            let here : k ≡ length ends - 1 = omega arith in
            subst (λ (z : ℕ). (chain_end_at ends z).at < end) (sym here) (omega arith))

        module _ (behind : end ≤ code.at) where
          here : (ds : List Declared) (place : ℕ) → IsUnit unit.forest.section unit.head ds (listed_to unit.forest place) → SpellsBetween (Uleb 0) unit.forest.section code.at place
          here ds place there =
              let at : code.at ≡ (chain_end_at unit.forest.ends (length ends - 1)).at = ap (λ (z : ChainEnd). z.at) (code_is ∙ ap (λ (xs : List ChainEnd). chain_end_at xs (length ends - 1)) ends_are) in
              let size : length ends ≡ length unit.forest.ends = ap (λ (xs : List ChainEnd). length xs) ends_are in
              subst (λ (z : ℕ). SpellsBetween (Uleb 0) unit.forest.section z place) (sym at) (code_ends_tree unit ds place there (count - 1) (length ends - 1) is_last (omega arith) (omega (arith, end_is)))

          module _ (info : List ℕ) (same_info : info ≡ f.section) where
            section_is : unit.forest.section ≡ info
            section_is = sym (same_info ∙ ap (λ (z : Arena). z.section) same)

            pub code_there : (value : ℕ) × (to : ℕ) × SpellsBetween (Uleb value) info code.at to
            code_there = (0, held.1.0, subst (λ (z : List ℕ). SpellsBetween (Uleb 0) z code.at held.1.0) section_is (here held.0 held.1.0 held.1.1))

            pub code_behind : (found : ℕ) → ((value to : ℕ) → SpellsBetween (Uleb value) info code.at to → found ≡ to) → IsTreeEnd unit found
            code_behind found ends_there = λ ds place there. ends_there 0 place (subst (λ (z : List ℕ). SpellsBetween (Uleb 0) z code.at place) section_is (here ds place there))
