-- The units that are listed for a table are those that have it.
use Rattle.std.proofs.Common.{◌≡◌, ◌≤◌, ◌<◌, ◌+◌, ℕ, zero, suc, List, [], ◌∷◌, ◌++◌, length, take, get_or, eqb, ap, subst, arith}
use Rattle.std.specs.List.{All, sum_by}
use Rattle.std.proofs.lemmas.Bool.{cond_both, eqb-true}
use Rattle.std.proofs.lemmas.List.{take_all}
use Rattle.std.proofs.lemmas.List.Elements.{All-nil, All-push, All-get_or}
use Rattle.std.proofs.lemmas.List.Sums.{sum_by_push, sum_by_more}
use Rattle.entry_read.specs.Units.{HeadAndForest}
use Rattle.value_links.specs.declared.units.NamedTable.{NamedTable}
use Rattle.rewriter.specs.inside.Placed.{unit_in}
use Rattle.rewriter.specs.inside.Columns.{units_with, AreUnitsOf}
use Rattle.rewriter.proofs.ColumnUnits.{entries_of}
use Rattle.rewriter.proofs.ColumnMeanings.{AreOfTable, entry_count}

-- a unit among so many that has the table with a number
abbrev Has : List ℕ → ℕ → ℕ → ℕ → Type 0
Has table_of i most u = (u < most) × (get_or table_of u 0 ≡ i)

-- each of those that are listed has the table
all_have : (table_of : List ℕ) (i most n : ℕ) → n ≤ most → All (Has table_of i most) (units_with table_of i n)
all_have table_of i most zero few = All-nil (Has table_of i most)
all_have table_of i most (suc n) few =
    let before = all_have table_of i most n (omega arith) in
    cond_both (eqb (get_or table_of n 0) i) (units_with table_of i n ++ n ∷ []) (units_with table_of i n) (λ (us : List ℕ). All (Has table_of i most) us)
    (λ same. All-push (Has table_of i most) (units_with table_of i n) n before (omega arith, eqb-true (get_or table_of n 0) i same))
    (λ _. before)

-- they have no more entries than all units
few_entries : (units : List HeadAndForest) (table_of : List ℕ) (i n : ℕ) → n ≤ length units → sum_by (entries_of units) (units_with table_of i n) ≤ sum_by entry_count (take n units)
few_entries units table_of i zero few = omega arith
few_entries units table_of i (suc n) few =
    let us : List ℕ = units_with table_of i n in
    let before : sum_by (entries_of units) us ≤ sum_by entry_count (take n units) = few_entries units table_of i n (omega arith) in
    let next : n + 1 ≡ suc n = omega arith in
    let more : sum_by entry_count (take (n + 1) units) ≡ sum_by entry_count (take n units) + entry_count (unit_in units n) = sum_by_more entry_count units n (unit_in [] 0) (omega arith) in
    let all : sum_by entry_count (take (suc n) units) ≡ sum_by entry_count (take n units) + entry_count (unit_in units n) = subst (λ (m : ℕ). sum_by entry_count (take m units) ≡ sum_by entry_count (take n units) + entry_count (unit_in units n)) next more in
    cond_both (eqb (get_or table_of n 0) i) (us ++ n ∷ []) us (λ (ns : List ℕ). sum_by (entries_of units) ns ≤ sum_by entry_count (take (suc n) units))
    (λ _. omega (arith, sum_by_push (entries_of units) us n, before, all))
    (λ _. omega (arith, before, all))

-- what is asked of the units whose columns are gathered
pub units_of_table : (units : List HeadAndForest) (table : NamedTable) (section table_of : List ℕ) (i : ℕ) → AreOfTable units table section table_of i → AreUnitsOf units table.table (units_with table_of i (length units)) section
units_of_table units table section table_of i of =
    let us : List ℕ = units_with table_of i (length units) in
    let have : All (Has table_of i (length units)) us = all_have table_of i (length units) (length units) (omega arith) in
    let at : (n : ℕ) → n < length us → Has table_of i (length units) (get_or us n 0) = λ n below. All-get_or (Has table_of i (length units)) us n 0 below have in
    record {
      known = λ n below. (at n below).0;
      held = λ n below. of.held (get_or us n 0) (at n below).0 (at n below).1;
      lent = λ n below. of.lent (get_or us n 0) (at n below).0 (at n below).1;
      few = omega (arith, few_entries units table_of i (length units) (omega arith), ap (sum_by entry_count) (take_all (length units) units (omega arith)), of.few);
    }
