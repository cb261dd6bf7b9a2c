-- What is true of units that were read, and of what is held of them.
use Rattle.std.proofs.Common.{◌≡◌, ◌≢◌, ◌≤◌, ◌<◌, ◌+◌, ◌^◌, ◌∙◌, ℕ, List, [], ◌∷◌, length, get_or, sym, ap, subst, refl, arith}
use Rattle.std.specs.Prelude.{map}
use Rattle.std.specs.List.{All, sum_by}
use Rattle.std.proofs.lemmas.List.{get_or-map, length-map}
use Rattle.std.proofs.lemmas.List.Elements.{All-get_or, All-head, All-tail}
use Rattle.std.proofs.lemmas.List.Sums.{sum_by-cons}
use Rattle.line_machine.specs.declared.head.Head.{Head}
use Rattle.entry_arena.specs.declared.entry.Entry.{Entry}
use Rattle.entry_arena.specs.Trees.{listed_to}
use Rattle.entry_arena.proofs.TreeLaws.{trees_are_walks}
use Rattle.entry_read.specs.Units.{HeadAndForest, entries_at}
use Rattle.entry_read.specs.Places.{HaveOwners}
use Rattle.entry_read.proofs.Chained.{stand_apart, has_bytes}
use Rattle.entry_read.proofs.OwnerLaws.{values_belong}
use Rattle.value_links.specs.Sections.{debug_line}
use Rattle.value_links.specs.Reading.{ProgramRead, UnitRead, line_heads, no_program, no_unit, unit_among, declarations, IsUnitRead, AreUnitsIn, AreProgramsOf}
use Rattle.value_links.specs.World.{head_and_forest}
use Rattle.value_links.specs.Links.{held_at}
use Rattle.value_links.specs.inside.Links.{program_among, AreUnitsApart, AreProgramsApart}
use Rattle.value_links.proofs.Targets.{HasTargets, held_targets}
use Rattle.value_links.proofs.Tiles.{units_chained, programs_chained}

-- UNITS THAT WERE READ

-- a unit has entries
some_entries : (info abbrevs : List ℕ) (u : UnitRead) → IsUnitRead info abbrevs u → 0 < length u.forest.entries
some_entries info abbrevs u is =
    let (end, unit) = is.entries in
    filled u.forest.entries ((trees_are_walks info (declarations u) (entries_at u.head) (listed_to u.forest end)).0 unit.tree).some
  where
    filled : (entries : List Entry) → entries ≢ [] → 0 < length entries
    filled [] some = absurd (some refl)
    filled (e ∷ entries) some = omega arith

abbrev entry_count : UnitRead → ℕ
entry_count u = length u.forest.entries

-- so there are no more units than entries
units_counted : (info abbrevs : List ℕ) (units : List UnitRead) → All (IsUnitRead info abbrevs) units → length units ≤ sum_by entry_count units
units_counted info abbrevs [] each = omega arith
units_counted info abbrevs (u ∷ units) each =
    let here : 0 < length u.forest.entries = some_entries info abbrevs u (All-head (IsUnitRead info abbrevs) u units each) in
    let rest : length units ≤ sum_by entry_count units = units_counted info abbrevs units (All-tail (IsUnitRead info abbrevs) u units each) in
    let sum : sum_by entry_count (u ∷ units) ≡ length u.forest.entries + sum_by entry_count units = sum_by-cons entry_count u units in
    omega arith

module _ (info abbrevs : List ℕ) (read : List UnitRead) (units : AreUnitsIn info abbrevs read) where
  pub few_units : length read < 2 ^ 32
  few_units =
      let counted : length read ≤ sum_by entry_count read = units_counted info abbrevs read units.each in
      let within : sum_by entry_count read ≤ 2 ^ 24 = omega (arith, units.within.entries) in
      omega arith

  pub unit_is : (u : ℕ) → u < length read → IsUnitRead info abbrevs (unit_among read u)
  unit_is u inside = All-get_or (IsUnitRead info abbrevs) read u no_unit inside units.each

  pub unit_targets : (u : ℕ) → u < length read → HasTargets (unit_among read u).head (unit_among read u).forest
  unit_targets u inside =
      let here = unit_is u inside in
      held_targets info (unit_among read u).head (declarations (unit_among read u)) (unit_among read u).forest here.section here.entries

  pub unit_owners : (u : ℕ) → u < length read → HaveOwners (declarations (unit_among read u)) (unit_among read u).forest
  unit_owners u inside =
      let here = unit_is u inside in
      values_belong info (unit_among read u).head (declarations (unit_among read u)) (unit_among read u).forest here.section here.entries

-- WHAT IS HELD OF THEM

module _ (read : List UnitRead) (held : List HeadAndForest) (same : held ≡ map head_and_forest read) where
  pub held_count : length held ≡ length read
  held_count = ap length same ∙ length-map read head_and_forest

  pub held_is : (u : ℕ) → u < length read → held_at held u ≡ head_and_forest (unit_among read u)
  held_is u inside = ap (λ z. held_at z u) same ∙ get_or-map head_and_forest read u no_unit (head_and_forest no_unit) inside

  module _ (info abbrevs : List ℕ) (units : AreUnitsIn info abbrevs read) where
    held_rising : (i j : ℕ) → i < j → j < length read → (held_at held i).head.at + (held_at held i).head.len ≤ (held_at held j).head.at
    held_rising i j less inside =
        let chained = units_chained info read 0 (length info) units.tiled in
        let apart : (unit_among read i).head.at + (unit_among read i).head.len ≤ (unit_among read j).head.at = stand_apart (λ (x : UnitRead). x.head.at) (λ (x : UnitRead). x.head.len) read 0 (length info) i j no_unit chained less inside in
        let first : held_at held i ≡ head_and_forest (unit_among read i) = held_is i (omega arith) in
        let second : held_at held j ≡ head_and_forest (unit_among read j) = held_is j inside in
        subst (λ (z : HeadAndForest). (held_at held i).head.at + (held_at held i).head.len ≤ z.head.at) (sym second) (subst (λ (z : HeadAndForest). z.head.at + z.head.len ≤ (unit_among read j).head.at) (sym first) apart)

    held_targets_at : (u : ℕ) → u < length read → HasTargets (held_at held u).head (held_at held u).forest
    held_targets_at u inside = subst (λ (z : HeadAndForest). HasTargets z.head z.forest) (sym (held_is u inside)) (unit_targets info abbrevs read units u inside)

    pub units_apart : AreUnitsApart held
    units_apart =
        let count : length held ≡ length read = held_count in
        record {
          few = subst (λ (z : ℕ). z < 2 ^ 32) (sym count) (few_units info abbrevs read units);
          rising = λ i j less inside. held_rising i j less (subst (λ (z : ℕ). j < z) count inside);
          order = λ i inside. (held_targets_at i (subst (λ (z : ℕ). i < z) count inside)).order;
          from = λ i target place inside here. let from : entries_at (held_at held i).head ≤ place = (held_targets_at i (subst (λ (z : ℕ). i < z) count inside)).from target place here in omega arith;
          to = λ i target place inside here. (held_targets_at i (subst (λ (z : ℕ). i < z) count inside)).to target place here;
        }

-- PROGRAMS

module _ (file : List ℕ) (read : List ProgramRead) (heads : List Head) (same : heads ≡ line_heads read) where
  pub head_is : (p : ℕ) → p < length read → program_among heads p ≡ (get_or read p no_program).head
  head_is p inside = ap (λ z. program_among z p) same ∙ get_or-map (λ (x : ProgramRead). x.head) read p no_program no_program.head inside

  pub head_count : length heads ≡ length read
  head_count = ap length same ∙ length-map read (λ (x : ProgramRead). x.head)

  pub programs_apart : AreProgramsOf file read → length heads < 2 ^ 32 → AreProgramsApart heads
  programs_apart programs few = record { few = few; rising = rising }
    where
      rising : (i j : ℕ) → i < j → j < length heads → (program_among heads i).at < (program_among heads j).at
      rising i j less inside =
          let count : length heads ≡ length read = head_count in
          let chained = programs_chained (debug_line file) read 0 (length (debug_line file)) programs.tiled in
          let j_in : j < length read = subst (λ (z : ℕ). j < z) count inside in
          let apart : (get_or read i no_program).head.at + (get_or read i no_program).head.len ≤ (get_or read j no_program).head.at = stand_apart (λ (x : ProgramRead). x.head.at) (λ (x : ProgramRead). x.head.len) read 0 (length (debug_line file)) i j no_program chained less j_in in
          let some : 0 < (get_or read i no_program).head.len = has_bytes (λ (x : ProgramRead). x.head.at) (λ (x : ProgramRead). x.head.len) read 0 (length (debug_line file)) i no_program chained (omega arith) in
          let first : (program_among heads i).at ≡ (get_or read i no_program).head.at = ap (λ z. z.at) (head_is i (omega arith)) in
          let second : (program_among heads j).at ≡ (get_or read j no_program).head.at = ap (λ z. z.at) (head_is j j_in) in
          omega arith
