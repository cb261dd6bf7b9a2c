-- All address tables of a section, and the one that a base names among them.
use Rattle.std.proofs.Common.{◌≡◌, ◌≤◌, ◌<◌, ◌+◌, ◌∙◌, ℕ, List, [], ◌∷◌, length, zero, suc, sym, refl, subst, arith, inl, inr}
use Rattle.std.specs.Prelude.{slice_index_or, take}
use Rattle.std.proofs.lemmas.Bool.{cases_lt}
use Rattle.list_model.specs.declared.tables.AddrTable.{AddrTable}
use Rattle.fixed_width.specs.InitialLengths.{unit_end}
use Rattle.list_model.specs.Addresses.{IsAddrTable, TablesFollow, AreAllTables, HasBase}
use Rattle.list_model.proofs.Walking.{follow_order, same_end, below}

abbrev pub no_table : AddrTable
no_table = record { at = 0; count = 0 }

abbrev pub table_among : List AddrTable → ℕ → AddrTable
table_among tables i = slice_index_or tables i no_table

-- ---- tables one after the other

-- each stands where those before it lead to
pub leads_to : (section : List ℕ) (tables : List AddrTable) (a end : ℕ) → TablesFollow section tables a end → (i : ℕ) → i < length tables → TablesFollow section (take i tables) a (table_among tables i).at × IsAddrTable section (table_among tables i) × (a ≤ (table_among tables i).at)
leads_to section (t ∷ tables) a end f zero less = (sym f.0, f.1, let place : t.at ≡ a = f.0 in omega arith)
leads_to section (t ∷ tables) a end f (suc i) less =
    let place : t.at ≡ a = f.0 in
    let fits : t.at + 8 ≤ unit_end section t.at = f.1.header.fits in
    let rest = leads_to section tables (unit_end section t.at) end f.2 i (omega arith) in
    let after : unit_end section t.at ≤ (table_among tables i).at = rest.2 in
    ((f.0, f.1, rest.0), rest.1, omega arith)
leads_to section [] a end f i less = absurd (omega arith)

-- they stand by rising places
pub rising : (section : List ℕ) (tables : List AddrTable) (a end : ℕ) → TablesFollow section tables a end → (i j : ℕ) → i < j → j < length tables → (table_among tables i).at < (table_among tables j).at
rising section (t ∷ tables) a end f zero (suc j) less inside =
    let fits : t.at + 8 ≤ unit_end section t.at = f.1.header.fits in
    let after : unit_end section t.at ≤ (table_among tables j).at = (leads_to section tables (unit_end section t.at) end f.2 j (omega arith)).2 in
    omega arith
rising section (t ∷ tables) a end f (suc i) (suc j) less inside = rising section tables (unit_end section t.at) end f.2 i j (omega arith) (omega arith)
rising section _ a end f i zero less inside = absurd (omega arith)
rising section [] a end f i j less inside = absurd (omega arith)

-- a place before their end that other tables lead to is that of one of them
stands_among : (section : List ℕ) (ts us : List AddrTable) (a p end : ℕ) → TablesFollow section ts a end → TablesFollow section us a p → p < end → (i : ℕ) × (i < length ts) × ((table_among ts i).at ≡ p)
stands_among section [] us a p end f g less =
    let same : a ≡ end = f in
    let order : a ≤ p = follow_order section us a p g in
    absurd (omega arith)
stands_among section (t ∷ ts) [] a p end f g less = (zero, omega arith, f.0 ∙ g)
stands_among section (t ∷ ts) (u ∷ us) a p end f g less =
    let rest = stands_among section ts us (unit_end section u.at) p end (subst (λ (z : ℕ). TablesFollow section ts z end) (same_end section t u a f.0 g.0) f.2) g.2 less in
    (suc rest.0, let inside : rest.0 < length ts = rest.1 in omega arith, rest.2)

-- ---- the table of a base

-- one of all tables has the base behind its header
pub has_base : (section : List ℕ) (tables : List AddrTable) (base i : ℕ) → AreAllTables section tables → i < length tables → (table_among tables i).at + 8 ≡ base → HasBase section base (table_among tables i)
has_base section tables base i all inside begins =
    let there = leads_to section tables 0 all.end all.follow i inside in
    record { reached = (take i tables, there.0); stands = there.1; begins = begins }

-- a table with a base is one of all, 8 bytes before it
pub base_among : (section : List ℕ) (tables : List AddrTable) (base : ℕ) (table : AddrTable) → AreAllTables section tables → HasBase section base table → (i : ℕ) × (i < length tables) × ((table_among tables i).at + 8 ≡ base)
base_among section tables base table all has =
    let begins : table.at + 8 ≡ base = has.begins in
    elim (cases_lt table.at all.end) [
      | inl before ↦
          let found = stands_among section tables has.reached.0 0 table.at all.end all.follow has.reached.1 before in
          let at : (table_among tables found.0).at ≡ table.at = found.2 in
          (found.0, found.1, omega arith)
      | inr past ↦ elim (cases_lt all.end table.at) [
        | inl after ↦
            let one = (below section tables has.reached.0 0 all.end table.at all.follow has.reached.1 after).0 in
            absurd (all.over (record { at = all.end; count = one.0 }) one.1 refl)
        | inr rest ↦
            let same : table.at ≡ all.end = omega arith in
            absurd (all.over table has.stands same)
      ]
    ]
