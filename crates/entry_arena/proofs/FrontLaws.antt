-- A walk comes to each entry and to each end of a chain, and what it has met is spelled up to there.
use Rattle.std.proofs.Common.{◌≡◌, ◌≤◌, ◌<◌, ◌+◌, ◌-◌, ℕ, List, [], ◌∷◌, ◌++◌, length, ◌∙◌, sym, ap, refl, subst, arith, inl, inr}
use Rattle.std.specs.Prelude.{map}
use Rattle.std.proofs.lemmas.List.{append-nil, append_assoc, length-append, get_or_at}
use Rattle.std.proofs.lemmas.Bool.{cases_lt}
use Rattle.spelled.specs.Spelled.{Joined}
use Rattle.form_codec.specs.Values.{meant_in}
use Rattle.abbrev_tables.specs.Tables.{Declared}
use Rattle.entry_arena.specs.declared.entry.Entry.{Entry}
use Rattle.entry_arena.specs.declared.entry.ChainEnd.{ChainEnd}
use Rattle.entry_arena.specs.Arena.{entry_at, chain_end_at}
use Rattle.entry_arena.specs.Trees.{bytes_between, Listed, SpellsBetween, nothing_from, AddsEntry, AddsEnd}
use Rattle.entry_arena.specs.Walks.{Item, opened, Walks}
use Rattle.entry_arena.specs.Walks.Item.{AnEntry, AnEnd}
use Rattle.entry_arena.specs.Fronts.{SpellsItem, ComesToEntry, ComesToEnd}
use Rattle.entry_arena.proofs.Between.{between_split}
use Rattle.entry_arena.proofs.TreeLaws.{walks_append}
use Rattle.entry_arena.proofs.SpellingLaws.{nothing_between, Between, entry_spelled}

module _ (section : List ℕ) (ds : List Declared) where
  -- an item, and then others
  item_first : (item : Item) (items : List Item) (old mid new : Listed) → Between section (SpellsItem ds item) old mid → Between section (Joined (SpellsItem ds) items) mid new → Between section (Joined (SpellsItem ds) (item ∷ items)) old new
  item_first item items old mid new p q =
      let first : old.place ≤ mid.place = p.order in
      let second : mid.place ≤ new.place = q.order in
      record {
        order = omega arith;
        inside = λ start. q.inside (p.inside start);
        spelled = (bytes_between section old.place mid.place, bytes_between section mid.place new.place, p.spelled, q.spelled, between_split section old.place mid.place new.place first second);
      }

  entry_item : (depth number : ℕ) (old new : Listed) → AddsEntry section ds depth number old new → Between section (SpellsItem ds (AnEntry number)) old new
  entry_item depth number old new adds =
      let e = entry_spelled section ds depth number old new adds in
      record { order = e.order; inside = e.inside; spelled = (map (meant_in section) adds.values, e.spelled) }

  end_item : (id : ℕ) (old new : Listed) → AddsEnd section id old new → Between section (SpellsItem ds AnEnd) old new
  end_item id old new adds = record { order = adds.coded.order; inside = λ start. adds.coded.inside; spelled = adds.coded.spelled }

  items_spelled : (items : List Item) (old : Listed) (chains : List ℕ) (new : Listed) (left : List ℕ) → Walks section ds old chains items new left → Between section (Joined (SpellsItem ds) items) old new
  items_spelled [] old chains new left (same, kept) =
      let place : new.place ≡ old.place = ap (λ (z : Listed). z.place) same in
      record { order = omega arith; inside = λ start. omega arith; spelled = nothing_between section old.place new.place (sym place) }
  items_spelled (AnEntry number ∷ items) old chains new left (going, (mid, adds, walk)) =
      item_first (AnEntry number) items old mid new (entry_item (length chains) number old mid adds) (items_spelled items mid (opened ds number (length old.entries) chains) new left walk)
  items_spelled (AnEnd ∷ items) old chains new left (id, outer, mid, e, adds, walk) =
      item_first AnEnd items old mid new (end_item id old mid adds) (items_spelled items mid outer new left walk)

  pub walks_spelled : (start : ℕ) (items : List Item) (now : Listed) (chains : List ℕ) → start ≤ length section → Walks section ds (nothing_from start) [] items now chains → SpellsBetween (Joined (SpellsItem ds) items) section start now.place
  walks_spelled start items now chains inside walk =
      let s = items_spelled items (nothing_from start) [] now chains walk in
      record { order = s.order; inside = s.inside inside; spelled = s.spelled }

  -- what is listed stays
  pub record Keeps (old new : Listed) : Type 0 where
    pub entries : List Entry
    pub ends : List ChainEnd
    pub entered : new.entries ≡ old.entries ++ entries
    pub ended : new.ends ≡ old.ends ++ ends

  pub walks_keep : (items : List Item) (old : Listed) (chains : List ℕ) (new : Listed) (left : List ℕ) → Walks section ds old chains items new left → Keeps old new
  walks_keep [] old chains new left (same, kept) = record {
    entries = [];
    ends = [];
    entered = ap (λ (z : Listed). z.entries) same ∙ sym (append-nil old.entries);
    ended = ap (λ (z : Listed). z.ends) same ∙ sym (append-nil old.ends);
  }
  walks_keep (AnEntry number ∷ items) old chains new left (going, (mid, adds, walk)) =
      let k = walks_keep items mid (opened ds number (length old.entries) chains) new left walk in
      let e : Entry = record { at = old.place; len = mid.place - old.place; depth = length chains; decl = number; first = length old.values; count = length adds.values } in
      record {
        entries = e ∷ k.entries;
        ends = k.ends;
        entered = k.entered ∙ ap (λ (z : List Entry). z ++ k.entries) adds.entered ∙ append_assoc old.entries (e ∷ []) k.entries;
        ended = k.ended ∙ ap (λ (z : List ChainEnd). z ++ k.ends) adds.ended;
      }
  walks_keep (AnEnd ∷ items) old chains new left (id, outer, mid, same, adds, walk) =
      let k = walks_keep items mid outer new left walk in
      let e : ChainEnd = record { entry = id; at = old.place } in
      record {
        entries = k.entries;
        ends = e ∷ k.ends;
        entered = k.entered ∙ ap (λ (z : List Entry). z ++ k.entries) adds.entered;
        ended = k.ended ∙ ap (λ (z : List ChainEnd). z ++ k.ends) adds.ended ∙ append_assoc old.ends (e ∷ []) k.ends;
      }

  module _ (start : ℕ) (new : Listed) (left : List ℕ) where
    -- a walk that has come to a place, and goes on to the entry with a number
    entry_from : (items before : List Item) (now : Listed) (chains : List ℕ) (id : ℕ) → Walks section ds (nothing_from start) [] before now chains → Walks section ds now chains items new left → length now.entries ≤ id → id < length new.entries → ComesToEntry section ds start (before ++ items) new left id
    entry_from [] before now chains id walked (same, kept) past inside =
        let size : length new.entries ≡ length now.entries = ap (λ (z : Listed). length z.entries) same in
        absurd (omega arith)
    entry_from (AnEntry number ∷ items) before now chains id walked (going, (mid, adds, walk)) past inside =
        let e : Entry = record { at = now.place; len = mid.place - now.place; depth = length chains; decl = number; first = length now.values; count = length adds.values } in
        let size : length mid.entries ≡ length now.entries + length (e ∷ []) = ap length adds.entered ∙ length-append now.entries (e ∷ []) in
        elim (cases_lt (length now.entries) id) [
          | inl later ↦
              let walked2 : Walks section ds (nothing_from start) [] (before ++ AnEntry number ∷ []) mid (opened ds number (length now.entries) chains) = walks_append section ds (nothing_from start) [] before now chains (AnEntry number ∷ []) mid (opened ds number (length now.entries) chains) walked (going, (mid, adds, (refl, refl))) in
              let r = entry_from items (before ++ AnEntry number ∷ []) mid (opened ds number (length now.entries) chains) id walked2 walk (omega arith) inside in
              subst (λ (z : List Item). ComesToEntry section ds start z new left id) (append_assoc before (AnEntry number ∷ []) items) r
          | inr most ↦
              let same : length now.entries ≡ id = omega arith in
              let k = walks_keep items mid (opened ds number (length now.entries) chains) new left walk in
              let all : new.entries ≡ now.entries ++ (e ∷ k.entries) = k.entered ∙ ap (λ (z : List Entry). z ++ k.entries) adds.entered ∙ append_assoc now.entries (e ∷ []) k.entries in
              record {
                before = before;
                now = now;
                chains = chains;
                number = number;
                mid = mid;
                after = items;
                walked = walked;
                count = same;
                adds = adds;
                here = ap (λ (z : List Entry). entry_at z id) all ∙ get_or_at now.entries e k.entries (record { at = 0; len = 0; depth = 0; decl = 0; first = 0; count = 0 }) id same;
                rest = subst (λ (z : ℕ). Walks section ds mid (opened ds number z chains) items new left) same walk;
                items_are = refl;
              }
        ]
    entry_from (AnEnd ∷ items) before now chains id walked (parent, outer, mid, open_there, adds, walk) past inside =
        let size : length mid.entries ≡ length now.entries = ap length adds.entered in
        let walked2 : Walks section ds (nothing_from start) [] (before ++ AnEnd ∷ []) mid outer = walks_append section ds (nothing_from start) [] before now chains (AnEnd ∷ []) mid outer walked (parent, outer, mid, open_there, adds, (refl, refl)) in
        let r = entry_from items (before ++ AnEnd ∷ []) mid outer id walked2 walk (omega arith) inside in
        subst (λ (z : List Item). ComesToEntry section ds start z new left id) (append_assoc before (AnEnd ∷ []) items) r

    -- likewise to the end of a chain
    end_from : (items before : List Item) (now : Listed) (chains : List ℕ) (number : ℕ) → Walks section ds (nothing_from start) [] before now chains → Walks section ds now chains items new left → length now.ends ≤ number → number < length new.ends → ComesToEnd section ds start (before ++ items) new left number
    end_from [] before now chains number walked (same, kept) past inside =
        let size : length new.ends ≡ length now.ends = ap (λ (z : Listed). length z.ends) same in
        absurd (omega arith)
    end_from (AnEntry decl ∷ items) before now chains number walked (going, (mid, adds, walk)) past inside =
        let size : length mid.ends ≡ length now.ends = ap length adds.ended in
        let walked2 : Walks section ds (nothing_from start) [] (before ++ AnEntry decl ∷ []) mid (opened ds decl (length now.entries) chains) = walks_append section ds (nothing_from start) [] before now chains (AnEntry decl ∷ []) mid (opened ds decl (length now.entries) chains) walked (going, (mid, adds, (refl, refl))) in
        let r = end_from items (before ++ AnEntry decl ∷ []) mid (opened ds decl (length now.entries) chains) number walked2 walk (omega arith) inside in
        subst (λ (z : List Item). ComesToEnd section ds start z new left number) (append_assoc before (AnEntry decl ∷ []) items) r
    end_from (AnEnd ∷ items) before now chains number walked (parent, outer, mid, open_there, adds, walk) past inside =
        let e : ChainEnd = record { entry = parent; at = now.place } in
        let size : length mid.ends ≡ length now.ends + length (e ∷ []) = ap length adds.ended ∙ length-append now.ends (e ∷ []) in
        elim (cases_lt (length now.ends) number) [
          | inl later ↦
              let walked2 : Walks section ds (nothing_from start) [] (before ++ AnEnd ∷ []) mid outer = walks_append section ds (nothing_from start) [] before now chains (AnEnd ∷ []) mid outer walked (parent, outer, mid, open_there, adds, (refl, refl)) in
              let r = end_from items (before ++ AnEnd ∷ []) mid outer number walked2 walk (omega arith) inside in
              subst (λ (z : List Item). ComesToEnd section ds start z new left number) (append_assoc before (AnEnd ∷ []) items) r
          | inr most ↦
              let same : length now.ends ≡ number = omega arith in
              let k = walks_keep items mid outer new left walk in
              let all : new.ends ≡ now.ends ++ (e ∷ k.ends) = k.ended ∙ ap (λ (z : List ChainEnd). z ++ k.ends) adds.ended ∙ append_assoc now.ends (e ∷ []) k.ends in
              record {
                before = before;
                now = now;
                parent = parent;
                outer = outer;
                mid = mid;
                after = items;
                walked = subst (λ (z : List ℕ). Walks section ds (nothing_from start) [] before now z) open_there walked;
                count = same;
                adds = adds;
                here = ap (λ (z : List ChainEnd). chain_end_at z number) all ∙ get_or_at now.ends e k.ends (record { entry = 0; at = 0 }) number same;
                rest = walk;
                items_are = refl;
              }
        ]

  pub comes_to_entry : (start : ℕ) (items : List Item) (new : Listed) (left : List ℕ) → Walks section ds (nothing_from start) [] items new left → (id : ℕ) → id < length new.entries → ComesToEntry section ds start items new left id
  comes_to_entry start items new left walk id inside = entry_from start new left items [] (nothing_from start) [] id (refl, refl) walk (omega arith) inside

  pub comes_to_end : (start : ℕ) (items : List Item) (new : Listed) (left : List ℕ) → Walks section ds (nothing_from start) [] items new left → (number : ℕ) → number < length new.ends → ComesToEnd section ds start items new left number
  comes_to_end start items new left walk number inside = end_from start new left items [] (nothing_from start) [] number (refl, refl) walk (omega arith) inside
