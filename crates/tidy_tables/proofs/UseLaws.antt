-- The uses of declarations are counted in one walk over all entries.
use Rattle.std.proofs.Common.{◌≡◌, ◌≢◌, ◌≤◌, ◌<◌, ◌+◌, ◌^◌, inl, inr, ℕ, List, [], length, take, get_or, set, eqb, cond, ap, sym, ◌∙◌, subst, arith}
use Rattle.std.specs.Prelude.{slice_index}
use Rattle.std.specs.List.{sum_by}
use Rattle.std.proofs.lemmas.Bool.{cond_both, eq-eqb, ne_eqb, cond-true, cond-false, cases_eq, cases_lt}
use Rattle.std.proofs.lemmas.List.{get_or_default, get_or-map, get_or-set_same, get_or-set_other, length-set, length-take-le}
use Rattle.std.proofs.lemmas.List.Sums.{count_by-le-length, sum_by_more, sum_by_more_le_part, sum_by-le-sum_by}
use Rattle.std.proofs.lemmas.Grind.{same_number_lists}
use Rattle.entry_arena.specs.declared.entry.Entry.{Entry}
use Rattle.entry_read.specs.Units.{HeadAndForest, entry_limit}
use Rattle.value_links.specs.declared.units.NamedTable.{NamedTable}
use Rattle.value_links.specs.World.{table_at}
use Rattle.tidy_tables.specs.declared.uses.Uses.{Uses}
use Rattle.written_files.specs.Uses.{AreUses, entries_with, uses_of}
use Rattle.value_links.specs.Links.{held_at}
use Rattle.tidy_tables.specs.inside.UseCounts.{AddsUses, AreCountable, AreCounted, counts_in}

-- one more use of a declaration fits, where all entries did
pub room_for_one : (entries : List Entry) (old new : List ℕ) (i number count : ℕ) → i < length entries → number < length old → ((number : ℕ) → number < length old → slice_index old number + length entries < 2 ^ 64) → AddsUses (take i entries) old new → count ≡ get_or new number count → count + 1 < 2 ^ 64
room_for_one entries old new i number count within inside room adds is =
    let is' : count ≡ get_or new number 0 = is ∙ get_or_default new number count 0 (omega (arith, adds.count, inside)) in
    omega (arith, adds.each number inside, count_by-le-length (λ (e : Entry). eqb e.decl number) (take i entries), length-take-le i entries (omega arith), room number inside, is')

-- the counts of a table, as they are read from the list
pub counts_at : (all : List Uses) (i : ℕ) (uses : Uses) → i < length all → uses ≡ get_or all i uses → counts_in all i ≡ uses.counts.items
counts_at all i uses inside uses_are = get_or-map (λ (x : Uses). x.counts.items) all i uses [] inside ∙ ap (λ (x : Uses). x.counts.items) (sym uses_are)

-- the term of a unit in the uses of a declaration
abbrev pub term_of : ℕ → ℕ → HeadAndForest → ℕ
term_of place number unit = cond (eqb unit.head.table place) (entries_with number unit) 0

abbrev entries_in : HeadAndForest → ℕ
entries_in unit = length unit.forest.entries

few_uses : (place number : ℕ) (unit : HeadAndForest) → term_of place number unit ≤ entries_in unit
few_uses place number unit =
    cond_both (eqb unit.head.table place) (entries_with number unit) 0 (λ n. n ≤ entries_in unit)
    (λ _. count_by-le-length (λ (e : Entry). eqb e.decl number) unit.forest.entries)
    (λ _. omega arith)

module _ (units : List HeadAndForest) (tables : List NamedTable) (table_of : List ℕ) (all : List Uses) (ready : AreCountable units tables table_of) (u : ℕ) (inside : u < length units) (now : AreCounted (take u units) tables all) (unit : HeadAndForest) (unit_is : unit ≡ get_or units u unit) (i : ℕ) (i_is : i ≡ get_or table_of u i) (uses : Uses) (uses_are : uses ≡ get_or all i uses) where
  number_is : get_or table_of u 0 ≡ i
  number_is = get_or_default table_of u 0 i (omega (arith, ready.count)) ∙ sym i_is

  i_inside : i < length tables
  i_inside = subst (λ (n : ℕ). n < length tables) number_is (ready.inside u inside)

  unit_there : held_at units u ≡ unit
  unit_there = get_or_default units u (held_at [] 0) unit inside ∙ sym unit_is

  counts_are : counts_in all i ≡ uses.counts.items
  counts_are = counts_at all i uses (omega (arith, now.count, i_inside)) uses_are

  place_is : unit.head.table ≡ (table_at tables i).place
  place_is =
      let at = ready.place u inside in
      let here : unit.head.table ≡ (table_at tables (get_or table_of u 0)).place = subst (λ (x : HeadAndForest). x.head.table ≡ (table_at tables (get_or table_of u 0)).place) unit_there at in
      here ∙ ap (λ (n : ℕ). (table_at tables n).place) number_is

  -- all entries of the unit can be counted
  pub room_for_unit : (number : ℕ) → number < length uses.counts.items → get_or uses.counts.items number 0 + length unit.forest.entries < 2 ^ 64
  room_for_unit number below =
      let uses_now = now.each i i_inside in
      let place : ℕ = (table_at tables i).place in
      let below' : number < length (counts_in all i) = subst (λ (zs : List ℕ). number < length zs) (sym counts_are) below in
      let is : get_or (counts_in all i) number 0 ≡ uses_of (take u units) place number = uses_now.each number (omega (arith, uses_now.count, below')) in
      let is' : get_or uses.counts.items number 0 ≡ uses_of (take u units) place number = subst (λ (zs : List ℕ). get_or zs number 0 ≡ uses_of (take u units) place number) counts_are is in
      let most = sum_by_more_le_part (term_of place number) entries_in units u (held_at [] 0) inside (few_uses place number) in
      let most' : uses_of (take u units) place number + length unit.forest.entries ≤ sum_by entries_in units = subst (λ (x : HeadAndForest). uses_of (take u units) place number + length x.forest.entries ≤ sum_by entries_in units) unit_there most in
      omega (arith, is', most', ready.few)

  module _ (new : Uses) (adds : AddsUses unit.forest.entries uses.counts.items new.counts.items) where
    -- the table of the unit has its uses now
    here_more : AreUses (take (u + 1) units) (table_at tables i) new.counts.items
    here_more = record {
      count = adds.count ∙ ap length (sym counts_are) ∙ (now.each i i_inside).count;
      each = λ number below.
          let uses_now = now.each i i_inside in
          let place : ℕ = (table_at tables i).place in
          let is : get_or (counts_in all i) number 0 ≡ uses_of (take u units) place number = uses_now.each number below in
          let is' : get_or uses.counts.items number 0 ≡ uses_of (take u units) place number = subst (λ (zs : List ℕ). get_or zs number 0 ≡ uses_of (take u units) place number) counts_are is in
          let length_is : length uses.counts.items ≡ length (table_at tables i).table.decls = ap length (sym counts_are) ∙ uses_now.count in
          let more : uses_of (take (u + 1) units) place number ≡ uses_of (take u units) place number + term_of place number (held_at units u) = sum_by_more (term_of place number) units u (held_at [] 0) inside in
          let term : term_of place number (held_at units u) ≡ entries_with number unit = ap (term_of place number) unit_there ∙ cond-true {A = ℕ} (eqb unit.head.table place) (entries_with number unit) 0 (eq-eqb unit.head.table place place_is) in
          omega (arith, adds.each number (omega (arith, below, length_is)), is', more, term);
    }

    -- all others have the uses that they had
    other_same : (j : ℕ) → j < length tables → j ≢ i → AreUses (take (u + 1) units) (table_at tables j) (counts_in all j)
    other_same j below other = record {
      count = (now.each j below).count;
      each = λ number within.
          let place : ℕ = (table_at tables j).place in
          let is : get_or (counts_in all j) number 0 ≡ uses_of (take u units) place number = (now.each j below).each number within in
          let more : uses_of (take (u + 1) units) place number ≡ uses_of (take u units) place number + term_of place number (held_at units u) = sum_by_more (term_of place number) units u (held_at [] 0) inside in
          let apart : unit.head.table ≢ place = λ same. elim (cases_lt i j) [
            | inl less ↦ omega (arith, ready.rising i j less below, place_is, same)
            | inr more ↦ omega (arith, ready.rising j i (let o : j ≢ i = other in omega arith) i_inside, place_is, same)
          ] in
          let term : term_of place number (held_at units u) ≡ 0 = ap (term_of place number) unit_there ∙ cond-false {A = ℕ} (eqb unit.head.table place) (entries_with number unit) 0 (ne_eqb unit.head.table place apart) in
          omega (arith, is, more, term);
    }

    all_length : length (set all i new) ≡ length tables
    all_length = length-set all i new ∙ now.count

    counts_here : counts_in (set all i new) i ≡ new.counts.items
    counts_here = get_or-map (λ (x : Uses). x.counts.items) (set all i new) i new [] (omega (arith, all_length, i_inside)) ∙ ap (λ (x : Uses). x.counts.items) (get_or-set_same all i new new (omega (arith, now.count, i_inside)))

    counts_there : (j : ℕ) → j < length tables → j ≢ i → counts_in (set all i new) j ≡ counts_in all j
    counts_there j below other =
        get_or-map (λ (x : Uses). x.counts.items) (set all i new) j new [] (omega (arith, all_length, below))
        ∙ ap (λ (x : Uses). x.counts.items) (get_or-set_other all i j new new other)
        ∙ sym (get_or-map (λ (x : Uses). x.counts.items) all j new [] (omega (arith, now.count, below)))

    pub counted_more : AreCounted (take (u + 1) units) tables (set all i new)
    counted_more = record {
      count = all_length;
      each = λ j below. elim (cases_eq j i) [
        | inl same ↦ subst (λ (n : ℕ). AreUses (take (u + 1) units) (table_at tables n) (counts_in (set all i new) n)) (sym same) (subst (λ (zs : List ℕ). AreUses (take (u + 1) units) (table_at tables i) zs) (sym counts_here) here_more)
        | inr other ↦ subst (λ (zs : List ℕ). AreUses (take (u + 1) units) (table_at tables j) zs) (sym (counts_there j below other)) (other_same j below other)
      ];
      few = λ j below. elim (cases_eq j i) [
        | inl same ↦
            let l : length (counts_in (set all i new) i) < 2 ^ 32 = omega (arith, ap length counts_here, adds.count, ap length counts_are, now.few i i_inside) in
            subst (λ (n : ℕ). length (counts_in (set all i new) n) < 2 ^ 32) (sym same) l
        | inr other ↦ omega (arith, ap length (counts_there j below other), now.few j below)
      ];
    }

-- a declaration has no more uses than there are entries
pub uses_few : (units : List HeadAndForest) (table : NamedTable) (uses : List ℕ) (number : ℕ) → AreUses units table uses → sum_by (λ (unit : HeadAndForest). length unit.forest.entries) units ≤ entry_limit → number < length uses → slice_index uses number ≤ entry_limit
uses_few units table uses number are few inside =
    let most : uses_of units table.place number ≤ sum_by (λ (unit : HeadAndForest). length unit.forest.entries) units = sum_by-le-sum_by (term_of table.place number) entries_in units (few_uses table.place number) in
    let is : slice_index uses number ≡ uses_of units table.place number = are.each number (omega (arith, are.count, inside)) in
    omega arith

-- the uses of a table are one list
pub uses_once : (units : List HeadAndForest) (table : NamedTable) (xs ys : List ℕ) → AreUses units table xs → AreUses units table ys → xs ≡ ys
uses_once units table xs ys first second =
    same_number_lists xs ys (first.count ∙ sym second.count) (λ number inside.
    let here : slice_index xs number ≡ uses_of units table.place number = first.each number (omega (arith, first.count, inside)) in
    let there : slice_index ys number ≡ uses_of units table.place number = second.each number (omega (arith, first.count, inside)) in
    here ∙ sym there)
