-- The first entry of a unit by which two files differ in meaning.
use Rattle.std.proofs.Common.{◌≡◌, ◌≢◌, ◌≤◌, ◌<◌, ◌∙◌, inl, inr, ℕ, min, Bool, false, List, length, get_or, sym, ap, arith}
use Rattle.std.specs.Prelude.{◌↔◌, IsTrue, Some, slice_get}
use Rattle.std.proofs.lemmas.Bool.{cases_lt, false≢true}
use Rattle.std.proofs.lemmas.Option.{slice_get_cases, slice_get_past}
use Rattle.entry_arena.specs.Arena.{Arena}
use Rattle.entry_read.specs.Units.{HeadAndForest}
use Rattle.value_links.specs.Reading.{Reading}
use Rattle.value_links.specs.Whole.{IsReading}
use Rattle.value_links.specs.World.{World, Holds}
use Rattle.value_links.specs.Links.{held_at}
use Rattle.value_links.specs.Laws.{OneReading, OneMeaning}
use Rattle.value_links.specs.Debug.{EntryMeaning, UnitMeaning, MeanEntries}
use Rattle.same_meaning.specs.Differences.{DifferAt}
use Rattle.same_meaning.specs.inside.Compared.{IsSomeWorld, OfBoth, OfMeanings, MeanOne, MeansEntryAt, IsFirst}
use Rattle.same_meaning.proofs.ReadUnits.{held_count, held_unit, forest_is, means_read, unit_means}
use Rattle.same_meaning.proofs.EntryMeanings.{forest_count, agree, differ, differ_past}

-- how many entries the unit with a number has
abbrev pub entries_held : World → ℕ → ℕ
entries_held world u = length (held_at world.units u).forest.entries

-- the entries with a number mean the same
abbrev pub AreSameAt : World → World → ℕ → ℕ → Type 0
AreSameAt a b u id = OfBoth a b (λ r s. MeanOne (MeansEntryAt r u id) (MeansEntryAt s u id))

-- this holds of the entries that the unit means in both files
abbrev pub OfForests : World → World → ℕ → (List EntryMeaning → List EntryMeaning → Type 0) → Type 0
OfForests a b u P = OfMeanings a b (λ c d. (x y : UnitMeaning) → slice_get c.units u ≡ Some x → slice_get d.units u ≡ Some y → P x.forest y.forest)

-- they are counted in what was looked up
pub looked_up : (world : World) (u : ℕ) (units : List HeadAndForest) (own : HeadAndForest) (forest : Arena) (n : ℕ) → u < length world.units → units ≡ world.units → own ≡ get_or units u own → forest ≡ own.forest → n ≡ length forest.entries → n ≡ entries_held world u
looked_up world u units own forest n inside same is there counted = counted ∙ ap (λ (f : Arena). length f.entries) (forest_is world u units own forest inside same is there)

-- as many entries are meant as are held
meant_count : (world : World) (r : Reading) (u : ℕ) (forest : List EntryMeaning) → Holds world.image world r → MeanEntries r u forest → length forest ≡ entries_held world u
meant_count world r u forest holds means = forest_count r u forest means ∙ ap (λ (h : HeadAndForest). length h.forest.entries) (sym (held_unit world r u holds))

module _ (reads : OneReading) (one : OneMeaning) (a b : World) (some : IsSomeWorld a) (other : IsSomeWorld b) (u : ℕ) (inside : u < length a.units) (also : u < length b.units) where
  -- what is meant is read of both
  of_forests : (P : List EntryMeaning → List EntryMeaning → Type 0) → OfBoth a b (λ r s. (old new : List EntryMeaning) → MeanEntries r u old → MeanEntries s u new → P old new) → OfForests a b u P
  of_forests P all c d means too x y is was =
      let (r, read, holds, meant) = means_read reads a some c means in
      let (s, again, held, meant_too) = means_read reads b other d too in
      all r s read holds again held x.forest y.forest (unit_means a.image r c u x meant is).forest (unit_means b.image s d u y meant_too was).forest

  module _ (r s : Reading) (read : IsReading a.image r) (holds : Holds a.image a r) (again : IsReading b.image s) (held : Holds b.image b s) (old new : List EntryMeaning) (means : MeanEntries r u old) (meant : MeanEntries s u new) where
    old_known : u < length r.links.units
    old_known = let size : length a.units ≡ length r.links.units = held_count a r holds in omega arith

    new_known : u < length s.links.units
    new_known = let size : length b.units ≡ length s.links.units = held_count b s held in omega arith

    old_count : length old ≡ entries_held a u
    old_count = meant_count a r u old holds means

    new_count : length new ≡ entries_held b u
    new_count = meant_count b s u new held meant

    -- none of the first entries differs
    alike : (n : ℕ) → n ≤ entries_held a u → n ≤ entries_held b u → ((j : ℕ) → j < n → AreSameAt a b u j) → (j : ℕ) → j < n → DifferAt old new j → ⊥
    alike n here there same j less apart =
        apart (agree one a.image b.image r s u read again old_known new_known old new means meant j (omega (arith, old_count)) (omega (arith, new_count)) (same j less r s read holds again held))

    -- the next one does, where its meanings do
    next_differs : (n : ℕ) → n < entries_held a u → n < entries_held b u → (same : Bool) → same ≡ false → (IsTrue same ↔ MeanOne (MeansEntryAt r u n) (MeansEntryAt s u n)) → DifferAt old new n
    next_differs n here there same fails test =
        differ one a.image b.image r s u read again old_known new_known old new means meant n (omega (arith, old_count)) (omega (arith, new_count)) (λ meaning. false≢true (sym fails ∙ test.1 meaning))

    -- or where only one file has it
    only_old : (n : ℕ) → n < entries_held a u → entries_held b u ≤ n → DifferAt old new n
    only_old n some past = elim (slice_get_cases old n).1 [
      | inl (e, here, is, same) ↦ differ_past old new n e (inl (here, omega (arith, past, new_count)))
      | inr (none, rest) ↦ absurd (omega (arith, some, none, old_count))
    ]

    only_new : (n : ℕ) → n < entries_held b u → entries_held a u ≤ n → DifferAt old new n
    only_new n some past = elim (slice_get_cases new n).1 [
      | inl (e, here, is, same) ↦ differ_past old new n e (inr (here, omega (arith, past, old_count)))
      | inr (none, rest) ↦ absurd (omega (arith, some, none, new_count))
    ]

    left_over : (n : ℕ) → n ≡ min (entries_held a u) (entries_held b u) → entries_held a u ≢ entries_held b u → DifferAt old new n
    left_over n least apart =
        elim (cases_lt (entries_held a u) (entries_held b u)) [
          | inl less ↦ only_new n (omega (arith, least, less)) (omega (arith, least, less))
          | inr more ↦ only_old n (omega (arith, least, more, apart)) (omega (arith, least, more, apart))
        ]

    none_left : entries_held a u ≡ entries_held b u → (i : ℕ) → entries_held a u ≤ i → DifferAt old new i → ⊥
    none_left count i past apart =
        apart (slice_get_past new i (omega (arith, count, past, new_count)) ∙ sym (slice_get_past old i (omega (arith, past, old_count))))

  -- an entry is the first one that differs
  pub first_differs : (n : ℕ) → n < entries_held a u → n < entries_held b u → ((j : ℕ) → j < n → AreSameAt a b u j) → (same : Bool) → same ≡ false → OfBoth a b (λ r s. IsTrue same ↔ MeanOne (MeansEntryAt r u n) (MeansEntryAt s u n)) → OfForests a b u (λ old new. IsFirst (DifferAt old new) n)
  first_differs n here there before same fails test =
      of_forests (λ old new. IsFirst (DifferAt old new) n) (λ r s read holds again held old new means meant. (
        next_differs r s read holds again held old new means meant n here there same fails (test r s read holds again held),
        alike r s read holds again held old new means meant n (omega arith) (omega arith) before,
      ))

  -- or none does
  pub none_differs : (n : ℕ) → n ≡ entries_held a u → n ≡ entries_held b u → ((j : ℕ) → j < n → AreSameAt a b u j) → OfForests a b u (λ old new. (i : ℕ) → DifferAt old new i → ⊥)
  none_differs n here there before =
      of_forests (λ old new. (i : ℕ) → DifferAt old new i → ⊥) (λ r s read holds again held old new means meant i. elim (cases_lt i n) [
        | inl less ↦ alike r s read holds again held old new means meant n (omega arith) (omega arith) before i less
        | inr past ↦ none_left r s read holds again held old new means meant (omega (arith, here, there)) i (omega (arith, here, past))
      ])

  -- or only one file has the first one
  pub left_differs : (n : ℕ) → n ≡ min (entries_held a u) (entries_held b u) → entries_held a u ≢ entries_held b u → ((j : ℕ) → j < n → AreSameAt a b u j) → OfForests a b u (λ old new. IsFirst (DifferAt old new) n)
  left_differs n least apart before =
      of_forests (λ old new. IsFirst (DifferAt old new) n) (λ r s read holds again held old new means meant. (
        left_over r s read holds again held old new means meant n least apart,
        alike r s read holds again held old new means meant n (omega (arith, least)) (omega (arith, least)) before,
      ))
