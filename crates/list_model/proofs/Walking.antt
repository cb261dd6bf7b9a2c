-- Address tables that are walked.
use Rattle.std.proofs.Common.{◌≡◌, ◌≢◌, ◌≤◌, ◌<◌, ◌+◌, ◌-◌, ◌*◌, ◌/◌, ◌%◌, ◌++◌, ◌∙◌, ◌⊎◌, ℕ, List, [], ◌∷◌, length, sym, ap, refl, subst, arith, inl, inr}
use Rattle.std.specs.Prelude.{slice_index, drop}
use Rattle.std.proofs.lemmas.Bool.{cases_lt}
use Rattle.std.proofs.lemmas.List.{get_or-drop}
use Rattle.dw_base.specs.declared.fault.Kind.{Kind}
use Rattle.dw_base.specs.declared.fault.Kind.TheVariants.{Short, ListEntry}
use Rattle.dw_base.specs.Refusals.{IsFaulty}
use Rattle.fixed_width.specs.Numbers.{number, number_at}
use Rattle.list_model.specs.declared.tables.AddrTable.{AddrTable}
use Rattle.fixed_width.specs.InitialLengths.{unit_length, unit_end, IsWhole, least_reserved}
use Rattle.list_model.specs.Headers.{IsHeader}
use Rattle.list_model.specs.Addresses.{table_header_size, IsAddrTable, TablesFollow, IsReached, HasBase}
use Rattle.list_model.specs.Faults.{FaultTable, FaultTables, FaultBefore}

-- a number of one byte
pub byte_at : (section : List ℕ) (at : ℕ) → number_at 1 at section ≡ slice_index section at
unfolding number
byte_at section at =
    let same : at + 0 ≡ at = omega arith in
    let here : slice_index (drop at section) 0 ≡ slice_index section at = get_or-drop at section 0 0 ∙ ap (slice_index section) same in
    omega arith

-- some table stands at a place
abbrev pub HasTable : List ℕ → ℕ → Type 0
HasTable section at = (count : ℕ) × IsAddrTable section (record { at = at; count = count })

has_table : (section : List ℕ) (table : AddrTable) (at : ℕ) → IsAddrTable section table → table.at ≡ at → HasTable section at
has_table section table at h e = (table.count, subst (λ (z : ℕ). IsAddrTable section (record { at = z; count = table.count })) e h)

-- a table has no fault
table_whole : (section : List ℕ) (at : ℕ) (kind : Kind) (place : ℕ) → HasTable section at → FaultTable section at kind place → ⊥
table_whole section at Short place (count, h) (inl (e, f)) =
    let usual : unit_length section at < least_reserved = h.whole.usual in
    let inside : unit_end section at ≤ length section = h.whole.inside in
    let fits : at + 8 ≤ unit_end section at = h.header.fits in
    elim f [
      | inl leaves ↦ elim leaves [ inl x ↦ absurd (omega arith) | inr y ↦ elim y [ inl x ↦ absurd (omega arith) | inr x ↦ absurd (omega arith) ] ]
      | inr (whole, cut) ↦ absurd (omega arith)
    ]
table_whole section at Short place (count, h) (inr (w, g, cut)) =
    let filled : at + 8 + 8 * count ≡ unit_end section at = h.filled in
    let begins : place ≡ at + 8 + 8 * cut.index = cut.begins in
    let inside : place < unit_end section at = cut.inside in
    let outside : unit_end section at < place + 8 = cut.outside in
    absurd (omega arith)
table_whole section at ListEntry place (count, h) (e, w, f) = f h.header
table_whole section at _ place h f = f

-- the fault of a last address that is cut, of which so many bytes are left
pub cut_fault : (section : List ℕ) (at end cut : ℕ) → IsWhole section at → IsHeader table_header_size section at → end ≡ unit_end section at → cut ≡ (end - at - 8) % 8 → cut ≢ 0 → FaultTable section at Short (end - cut)
cut_fault section at end cut whole header ends left some =
    let fits : at + 8 ≤ unit_end section at = header.fits in
    let parts : end - at - 8 ≡ 8 * ((end - at - 8) / 8) + (end - at - 8) % 8 = omega arith in
    inr (whole, header, record { index = (end - at - 8) / 8; begins = omega arith; inside = omega arith; outside = omega arith })

-- tables lead to no place before their own
pub follow_order : (section : List ℕ) (tables : List AddrTable) (a b : ℕ) → TablesFollow section tables a b → a ≤ b
follow_order section [] a b e = let same : a ≡ b = e in omega arith
follow_order section (t ∷ tables) a b f =
    let rest : unit_end section t.at ≤ b = follow_order section tables (unit_end section t.at) b f.2 in
    let place : t.at ≡ a = f.0 in
    let bound : t.at + 8 ≤ unit_end section t.at = f.1.header.fits in
    omega arith

-- two tables at a place end alike
pub same_end : (section : List ℕ) (one other : AddrTable) (a : ℕ) → one.at ≡ a → other.at ≡ a → unit_end section one.at ≡ unit_end section other.at
same_end section one other a e f = ap (unit_end section) (e ∙ sym f)

-- of two places that tables lead to, a table stands at the lower one and ends before the other
pub below : (section : List ℕ) (ts us : List AddrTable) (a p q : ℕ) → TablesFollow section ts a p → TablesFollow section us a q → p < q → HasTable section p × (unit_end section p ≤ q)
below section [] [] a p q f g less =
    let e : a ≡ p = f in
    let d : a ≡ q = g in
    absurd (omega arith)
below section [] (u ∷ us) a p q f g less =
    let place : u.at ≡ p = g.0 ∙ f in
    let rest : unit_end section u.at ≤ q = follow_order section us (unit_end section u.at) q g.2 in
    (has_table section u p g.1 place, subst (λ (z : ℕ). unit_end section z ≤ q) place rest)
below section (t ∷ ts) [] a p q f g less =
    let rest : unit_end section t.at ≤ p = follow_order section ts (unit_end section t.at) p f.2 in
    let place : t.at ≡ a = f.0 in
    let bound : t.at + 8 ≤ unit_end section t.at = f.1.header.fits in
    let d : a ≡ q = g in
    absurd (omega arith)
below section (t ∷ ts) (u ∷ us) a p q f g less =
    below section ts us (unit_end section u.at) p q (subst (λ (z : ℕ). TablesFollow section ts z p) (same_end section t u a f.0 g.0) f.2) g.2 less

-- the same of two places that are reached
reached_below : (section : List ℕ) (p q : ℕ) → IsReached section p → IsReached section q → p < q → HasTable section p × (unit_end section p ≤ q)
reached_below section p q (ts, f) (us, g) less = below section ts us 0 p q f g less

-- one more table
pub follow_push : (section : List ℕ) (tables : List AddrTable) (table : AddrTable) (a b : ℕ) → TablesFollow section tables a b → table.at ≡ b → IsAddrTable section table → TablesFollow section (tables ++ table ∷ []) a (unit_end section b)
follow_push section [] table a b e at h = (at ∙ sym e, h, ap (unit_end section) at)
follow_push section (x ∷ tables) table a b f at h = (f.0, f.1, follow_push section tables table (unit_end section x.at) b f.2 at h)

-- the end of a table that is reached is reached
pub reached_next : (section : List ℕ) (table : AddrTable) (at : ℕ) → IsReached section at → table.at ≡ at → IsAddrTable section table → IsReached section (unit_end section at)
reached_next section table at (tables, f) e h = (tables ++ table ∷ [], follow_push section tables table 0 at f e h)

-- Where tables lead to a place past the last that is met, none has a fault.
pub walked_whole : (section : List ℕ) (base at : ℕ) → IsReached section at → (length section ≤ at) ⊎ (base < at + 8) → ¬ IsFaulty (FaultBefore section base)
walked_whole section base at reached past = λ (f : IsFaulty (FaultBefore section base)).
    let x = f.2 in
    let inside : x.at < length section = x.met.inside in
    let before : x.at + 8 ≤ base = x.met.before in
    let less : x.at < at = elim past [ inl y ↦ omega arith | inr y ↦ omega arith ] in
    table_whole section x.at f.0 f.1 (reached_below section x.at at x.met.reached reached less).0 x.fault

-- where a base is that of a table, no table up to it has a fault
pub base_whole : (section : List ℕ) (base : ℕ) (table : AddrTable) → HasBase section base table → ¬ IsFaulty (FaultBefore section base)
base_whole section base table h =
    let begins : table.at + 8 ≡ base = h.begins in
    let bound : table.at + 8 ≤ unit_end section table.at = h.stands.header.fits in
    walked_whole section base (unit_end section table.at) (reached_next section table table.at h.reached refl h.stands) (inr (omega arith))

-- where tables fill a section, none has a fault
pub filled_whole : (section : List ℕ) (tables : List AddrTable) → TablesFollow section tables 0 (length section) → ¬ IsFaulty (FaultTables section)
filled_whole section tables filled = λ (f : IsFaulty (FaultTables section)).
    let x = f.2 in
    table_whole section x.at f.0 f.1 (below section x.tables tables 0 x.at (length section) x.front filled x.inside).0 x.fault

-- a base is that of one table
pub one_table : (section : List ℕ) (base : ℕ) (table other : AddrTable) → HasBase section base table → HasBase section base other → table ≡ other
one_table section base table other h k =
    let first : table.at + 8 ≡ base = h.begins in
    let second : other.at + 8 ≡ base = k.begins in
    let place : table.at ≡ other.at = omega arith in
    let ends : unit_end section table.at ≡ unit_end section other.at = ap (unit_end section) place in
    let filled : table.at + 8 + 8 * table.count ≡ unit_end section table.at = h.stands.filled in
    let others : other.at + 8 + 8 * other.count ≡ unit_end section other.at = k.stands.filled in
    let count : table.count ≡ other.count = omega arith in
    let there : table ≡ record { at = other.at; count = table.count } = ap (λ (z : ℕ). record { at = z; count = table.count }) place in
    there ∙ ap (λ (z : ℕ). record { at = other.at; count = z }) count

-- a table with a base that isn't the one at a place stands after that
pub base_beyond : (section : List ℕ) (base at : ℕ) (table : AddrTable) → IsReached section at → at + 8 ≢ base → HasBase section base table → at ≤ table.at → unit_end section at ≤ table.at
base_beyond section base at table reached other h beyond =
    let begins : table.at + 8 ≡ base = h.begins in
    elim (cases_lt at table.at) [
      | inl x ↦ (reached_below section at table.at reached h.reached x).1
      | inr x ↦ absurd (other (omega arith))
    ]
