-- A front of a whole walk goes on with what stands first of all that isn't listed yet.
use Rattle.std.proofs.Common.{◌≡◌, ◌≤◌, ◌<◌, ◌+◌, ◌-◌, ◌⊎◌, ℕ, List, [], ◌∷◌, ◌++◌, length, take, drop, ◌∙◌, sym, ap, refl, subst, arith, inl, inr}
use Rattle.std.proofs.lemmas.List.{append_assoc, length_push, get_or_at}
use Rattle.std.proofs.lemmas.Bool.{cases_lt}
use Rattle.form_codec.specs.declared.value.Value.{Value}
use Rattle.abbrev_tables.specs.Tables.{Declared}
use Rattle.entry_arena.specs.declared.entry.Entry.{Entry}
use Rattle.entry_arena.specs.declared.entry.ChainEnd.{ChainEnd}
use Rattle.entry_arena.specs.Arena.{entry_at, chain_end_at}
use Rattle.entry_arena.specs.Trees.{Listed, nothing_from, AddsEntry, AddsEnd}
use Rattle.entry_arena.specs.Walks.{Item, IsGoing, opened, Walks}
use Rattle.entry_arena.specs.Walks.Item.{AnEntry, AnEnd}
use Rattle.entry_arena.specs.Onward.{EntryIsNext, EndIsNext, IsWalked, WalksStep, WalksGoOn}
use Rattle.entry_arena.proofs.TreeLaws.{cons_filled}
use Rattle.entry_arena.proofs.StepLaws.{entry_rises, end_rises, walks_rise}
use Rattle.entry_arena.proofs.FrontLaws.{walks_keep}
use Rattle.entry_arena.proofs.StandingLaws.{walks_extend}
use Rattle.entry_arena.proofs.GrowingLaws.{walks_push}
use Rattle.spelled.proofs.Parts.{own_part}

abbrev entry_of : Listed → Listed → ℕ → ℕ → ℕ → Entry
entry_of now mid depth number count = record { at = now.place; len = mid.place - now.place; depth = depth; decl = number; first = length now.values; count = count }

abbrev end_of : Listed → ℕ → ChainEnd
end_of now parent = record { entry = parent; at = now.place }

module _ (section : List ℕ) (ds : List Declared) where
  -- an entry that a walk adds has the number of how many there were
  first_entry : (old mid new : Listed) (chains left : List ℕ) (items : List Item) (depth number : ℕ) → (adds : AddsEntry section ds depth number old mid) → Walks section ds mid chains items new left → entry_at new.entries (length old.entries) ≡ entry_of old mid depth number (length adds.values)
  first_entry old mid new chains left items depth number adds walk =
      let e : Entry = entry_of old mid depth number (length adds.values) in
      let k = walks_keep section ds items mid chains new left walk in
      let all : new.entries ≡ old.entries ++ (e ∷ k.entries) = k.entered ∙ ap (λ (z : List Entry). z ++ k.entries) adds.entered ∙ append_assoc old.entries (e ∷ []) k.entries in
      ap (λ (z : List Entry). entry_at z (length old.entries)) all ∙ get_or_at old.entries e k.entries (record { at = 0; len = 0; depth = 0; decl = 0; first = 0; count = 0 }) (length old.entries) refl

  -- likewise the end of a chain
  first_end : (old mid new : Listed) (chains left : List ℕ) (items : List Item) (parent : ℕ) → AddsEnd section parent old mid → Walks section ds mid chains items new left → chain_end_at new.ends (length old.ends) ≡ end_of old parent
  first_end old mid new chains left items parent adds walk =
      let e : ChainEnd = end_of old parent in
      let k = walks_keep section ds items mid chains new left walk in
      let all : new.ends ≡ old.ends ++ (e ∷ k.ends) = k.ended ∙ ap (λ (z : List ChainEnd). z ++ k.ends) adds.ended ∙ append_assoc old.ends (e ∷ []) k.ends in
      ap (λ (z : List ChainEnd). chain_end_at z (length old.ends)) all ∙ get_or_at old.ends e k.ends (record { entry = 0; at = 0 }) (length old.ends) refl

  -- the values of an entry are those that the walk adds with it
  first_values : (old mid new : Listed) (chains left : List ℕ) (items : List Item) (values : List Value) → mid.values ≡ old.values ++ values → Walks section ds mid chains items new left → take (length values) (drop (length old.values) new.values) ≡ values
  first_values old mid new chains left items values listed walk =
      let (more, after) = walks_extend section ds mid chains items new left walk in
      let all : new.values ≡ (old.values ++ values) ++ more = after ∙ ap (λ z. z ++ more) listed in
      ap (λ z. take (length values) (drop (length old.values) z)) all ∙ own_part old.values values more

  -- what a walk adds stands no earlier than it begins
  ends_after : (items : List Item) (old : Listed) (chains : List ℕ) (new : Listed) (left : List ℕ) → Walks section ds old chains items new left → (k : ℕ) → length old.ends ≤ k → k < length new.ends → old.place ≤ (chain_end_at new.ends k).at
  ends_after [] old chains new left (same, kept) k past inside =
      let size : length new.ends ≡ length old.ends = ap (λ (z : Listed). length z.ends) same in
      absurd (omega arith)
  ends_after (AnEntry number ∷ items) old chains new left (going, (mid, adds, walk)) k past inside =
      let rises : old.place < mid.place = entry_rises section ds (length chains) number old mid adds in
      let size : length mid.ends ≡ length old.ends = ap length adds.ended in
      let later : mid.place ≤ (chain_end_at new.ends k).at = ends_after items mid (opened ds number (length old.entries) chains) new left walk k (omega arith) inside in
      omega arith
  ends_after (AnEnd ∷ items) old chains new left (id, outer, mid, e, adds, walk) k past inside =
      let rises : old.place < mid.place = end_rises section ds id old mid adds in
      let size : length mid.ends ≡ length old.ends + 1 = ap length adds.ended ∙ length_push old.ends (end_of old id) in
      elim (cases_lt (length old.ends) k) [
        | inl more ↦ let later : mid.place ≤ (chain_end_at new.ends k).at = ends_after items mid outer new left walk k (omega arith) inside in omega arith
        | inr most ↦
            let here : length old.ends ≡ k = omega arith in
            let at : (chain_end_at new.ends k).at ≡ old.place = ap (λ (z : ℕ). (chain_end_at new.ends z).at) (sym here) ∙ ap (λ (z : ChainEnd). z.at) (first_end old mid new outer left items id adds walk) in
            omega arith
      ]

  entries_after : (items : List Item) (old : Listed) (chains : List ℕ) (new : Listed) (left : List ℕ) → Walks section ds old chains items new left → (k : ℕ) → length old.entries ≤ k → k < length new.entries → old.place ≤ (entry_at new.entries k).at
  entries_after [] old chains new left (same, kept) k past inside =
      let size : length new.entries ≡ length old.entries = ap (λ (z : Listed). length z.entries) same in
      absurd (omega arith)
  entries_after (AnEnd ∷ items) old chains new left (id, outer, mid, e, adds, walk) k past inside =
      let rises : old.place < mid.place = end_rises section ds id old mid adds in
      let size : length mid.entries ≡ length old.entries = ap length adds.entered in
      let later : mid.place ≤ (entry_at new.entries k).at = entries_after items mid outer new left walk k (omega arith) inside in
      omega arith
  entries_after (AnEntry number ∷ items) old chains new left (going, (mid, adds, walk)) k past inside =
      let rises : old.place < mid.place = entry_rises section ds (length chains) number old mid adds in
      let size : length mid.entries ≡ length old.entries + 1 = ap length adds.entered ∙ length_push old.entries (entry_of old mid (length chains) number (length adds.values)) in
      elim (cases_lt (length old.entries) k) [
        | inl more ↦ let later : mid.place ≤ (entry_at new.entries k).at = entries_after items mid (opened ds number (length old.entries) chains) new left walk k (omega arith) inside in omega arith
        | inr most ↦
            let here : length old.entries ≡ k = omega arith in
            let at : (entry_at new.entries k).at ≡ old.place = ap (λ (z : ℕ). (entry_at new.entries z).at) (sym here) ∙ ap (λ (z : Entry). z.at) (first_entry old mid new (opened ds number (length old.entries) chains) left items (length chains) number adds walk) in
            omega arith
      ]

  module _ (start : ℕ) (forest : Listed) (items : List Item) (now : Listed) (chains : List ℕ) (walked : Walks section ds (nothing_from start) [] items now chains) where
    abbrev Entry_next : List Item → Type 0
    Entry_next rest = EntryIsNext section ds start forest (length now.entries) (length now.ends) items now chains rest

    abbrev End_next : List Item → Type 0
    End_next rest = EndIsNext section ds start forest (length now.entries) (length now.ends) items now chains rest

    abbrev Done : List Item → Type 0
    Done rest = IsWalked forest (length now.entries) (length now.ends) now chains rest

    entry_step : (number : ℕ) (mid : Listed) (later : List Item) → IsGoing now chains → (adds : AddsEntry section ds (length chains) number now mid) → Walks section ds mid (opened ds number (length now.entries) chains) later forest [] → Entry_next (AnEntry number ∷ later)
    entry_step number mid later going adds walk =
        let inner : List ℕ = opened ds number (length now.entries) chains in
        let rises : now.place < mid.place = entry_rises section ds (length chains) number now mid adds in
        let size : length mid.entries ≡ length now.entries + 1 = ap length adds.entered ∙ length_push now.entries (entry_of now mid (length chains) number (length adds.values)) in
        let ends : length mid.ends ≡ length now.ends = ap length adds.ended in
        let most : length mid.entries ≤ length forest.entries = (walks_rise section ds mid inner later forest [] walk).entries in
        let here = first_entry now mid forest inner [] later (length chains) number adds walk in
        record {
          number = number;
          mid = mid;
          later = later;
          rest_is = refl;
          going = going;
          adds = adds;
          inside = omega arith;
          here = here;
          values_are = ap (λ (z : Entry). take z.count (drop z.first forest.values)) here ∙ first_values now mid forest inner [] later adds.values adds.listed walk;
          before_ends = λ k past inside. let after : mid.place ≤ (chain_end_at forest.ends k).at = ends_after later mid inner forest [] walk k (omega arith) inside in omega arith;
          next = record { walked = (walks_push section ds (nothing_from start) [] items now chains walked).entry number mid going adds; onward = walk; entries_are = size; ends_are = ends };
        }

    end_step : (parent : ℕ) (outer : List ℕ) (mid : Listed) (later : List Item) → chains ≡ parent ∷ outer → AddsEnd section parent now mid → Walks section ds mid outer later forest [] → End_next (AnEnd ∷ later)
    end_step parent outer mid later innermost adds walk =
        let rises : now.place < mid.place = end_rises section ds parent now mid adds in
        let size : length mid.ends ≡ length now.ends + 1 = ap length adds.ended ∙ length_push now.ends (end_of now parent) in
        let entries : length mid.entries ≡ length now.entries = ap length adds.entered in
        let most : length mid.ends ≤ length forest.ends = (walks_rise section ds mid outer later forest [] walk).ends in
        record {
          parent = parent;
          outer = outer;
          mid = mid;
          later = later;
          rest_is = refl;
          innermost = innermost;
          adds = adds;
          inside = omega arith;
          here = first_end now mid forest outer [] later parent adds walk;
          before_entries = λ k past inside. let after : mid.place ≤ (entry_at forest.entries k).at = entries_after later mid outer forest [] walk k (omega arith) inside in omega arith;
          next = record { walked = (walks_push section ds (nothing_from start) [] items now chains walked).chain_end parent outer mid innermost adds; onward = walk; entries_are = entries; ends_are = size };
        }

    cases_of : (rest : List Item) → Walks section ds now chains rest forest [] → Entry_next rest ⊎ (End_next rest ⊎ Done rest)
    cases_of [] (same, closed) = inr (inr (record { rest_is = refl; all = sym same; closed = sym closed; entries_are = ap (λ (z : Listed). length z.entries) (sym same); ends_are = ap (λ (z : Listed). length z.ends) (sym same) }))
    cases_of (AnEntry number ∷ later) (going, (mid, adds, walk)) = inl (entry_step number mid later going adds walk)
    cases_of (AnEnd ∷ later) (parent, outer, mid, innermost, adds, walk) = inr (inl (end_step parent outer mid later innermost adds walk))

    -- the entry that isn't listed and stands before the next end comes next
    entry_of_places : (rest : List Item) → Entry_next rest ⊎ (End_next rest ⊎ Done rest) → length now.entries < length forest.entries → (length now.ends < length forest.ends → (entry_at forest.entries (length now.entries)).at < (chain_end_at forest.ends (length now.ends)).at) → Entry_next rest
    entry_of_places rest (inl n) inside first = n
    entry_of_places rest (inr (inl n)) inside first =
        let before : (entry_at forest.entries (length now.entries)).at < (chain_end_at forest.ends (length now.ends)).at = first n.inside in
        let at : (chain_end_at forest.ends (length now.ends)).at ≡ now.place = ap (λ (z : ChainEnd). z.at) n.here in
        let after : now.place < (entry_at forest.entries (length now.entries)).at = n.before_entries (length now.entries) (omega arith) inside in
        absurd (omega arith)
    entry_of_places rest (inr (inr done)) inside first = absurd (omega (arith, done.entries_are))

    end_of_places : (rest : List Item) → Entry_next rest ⊎ (End_next rest ⊎ Done rest) → length now.ends < length forest.ends → (length now.entries < length forest.entries → (chain_end_at forest.ends (length now.ends)).at < (entry_at forest.entries (length now.entries)).at) → End_next rest
    end_of_places rest (inl n) inside first =
        let before : (chain_end_at forest.ends (length now.ends)).at < (entry_at forest.entries (length now.entries)).at = first n.inside in
        let at : (entry_at forest.entries (length now.entries)).at ≡ now.place = ap (λ (z : Entry). z.at) n.here in
        let after : now.place < (chain_end_at forest.ends (length now.ends)).at = n.before_ends (length now.ends) (omega arith) inside in
        absurd (omega arith)
    end_of_places rest (inr (inl n)) inside first = n
    end_of_places rest (inr (inr done)) inside first = absurd (omega (arith, done.ends_are))

    done_of : (rest : List Item) → Entry_next rest ⊎ (End_next rest ⊎ Done rest) → length now.entries ≡ length forest.entries → length now.ends ≡ length forest.ends → Done rest
    done_of rest (inl n) entries ends = absurd (omega (arith, n.inside))
    done_of rest (inr (inl n)) entries ends = absurd (omega (arith, n.inside))
    done_of rest (inr (inr done)) entries ends = done

    nothing_left : (rest : List Item) → Entry_next rest ⊎ (End_next rest ⊎ Done rest) → rest ≡ [] → (length now.entries ≡ length forest.entries) × (length now.ends ≡ length forest.ends)
    nothing_left rest (inl n) none = absurd (cons_filled (AnEntry n.number) n.later (sym n.rest_is ∙ none))
    nothing_left rest (inr (inl n)) none = absurd (cons_filled AnEnd n.later (sym n.rest_is ∙ none))
    nothing_left rest (inr (inr done)) none = (done.entries_are, done.ends_are)

    goes_on : (rest : List Item) → Walks section ds now chains rest forest [] → WalksStep section ds start forest (length now.entries) (length now.ends) items now chains rest
    goes_on rest onward =
        let cases = cases_of rest onward in
        let rises = walks_rise section ds now chains rest forest [] onward in
        record {
          most = (rises.entries, rises.ends);
          cases = cases;
          entry = entry_of_places rest cases;
          chain_end = end_of_places rest cases;
          done = (nothing_left rest cases, λ all. (done_of rest cases all.0 all.1).rest_is);
          all = done_of rest cases;
        }

pub walks_go_on : WalksGoOn
walks_go_on section ds start forest entries ends items now chains rest w =
    let here : WalksStep section ds start forest (length now.entries) (length now.ends) items now chains rest = goes_on section ds start forest items now chains w.walked rest w.onward in
    subst (λ (z : ℕ). WalksStep section ds start forest entries z items now chains rest) w.ends_are (subst (λ (z : ℕ). WalksStep section ds start forest z (length now.ends) items now chains rest) w.entries_are here)
