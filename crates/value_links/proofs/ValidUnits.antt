-- Units that are read have no fault, nor have their tables.
use Rattle.std.proofs.Common.{◌≡◌, ◌≢◌, ◌≤◌, ◌<◌, ◌+◌, ◌-◌, ◌∙◌, ◌++◌, inl, inr, ℕ, List, [], ◌∷◌, Bool, true, false, true≢false, length, take, drop, sym, ap, subst, refl, arith}
use Rattle.std.specs.List.{All, sum_by}
use Rattle.std.proofs.lemmas.List.{take-append-drop}
use Rattle.std.proofs.lemmas.List.Elements.{All-nil, All-cons, All-head, All-tail}
use Rattle.std.proofs.lemmas.List.Sums.{sum_by-cons, sum_by-append}
use Rattle.dw_base.specs.declared.fault.Kind.{Kind}
use Rattle.dw_base.specs.declared.fault.Kind.TheVariants.{Limit, Pointer}
use Rattle.abbrev_tables.specs.Listings.{Listing, IsTableAt}
use Rattle.abbrev_tables.specs.Faults.{FaultTable}
use Rattle.abbrev_tables.proofs.Whole.{table_whole}
use Rattle.entry_arena.specs.ForestLaws.{HaveCodes}
use Rattle.entry_arena.specs.Trees.{listed_to}
use Rattle.entry_arena.proofs.WalkLaws.{table_codes}
use Rattle.entry_read.specs.declared.head.UnitHead.{UnitHead}
use Rattle.entry_read.specs.declared.unit.Counts.{Counts}
use Rattle.entry_read.specs.Heads.{Follow, Tile}
use Rattle.entry_read.specs.Units.{declarations_of, entry_limit, value_limit, IsWithin}
use Rattle.entry_read.specs.Faults.{FaultUnit}
use Rattle.entry_read.proofs.Tiling.{one_head, end_apart, heads_whole}
use Rattle.entry_read.proofs.Whole.{unit_whole}
use Rattle.entry_read.proofs.PlaceLaws.{only_limits_count}
use Rattle.value_links.specs.Reading.{UnitRead, unit_heads, counts_of, AreWithin, declarations, IsUnitRead}
use Rattle.value_links.specs.Faults.{IsUnitOf, FaultOffset, FaultTables, FaultEntries, FaultUnits, InfoFault}
use Rattle.abbrev_tables.proofs.ListingOnce.{listing_once}
use Rattle.value_links.proofs.ReadingOnce.{unit_same}

-- a unit is one of those that are read
record IsOneOf (units : List UnitRead) (before : List UnitHead) (head : UnitHead) : Type 0 where
  front : List UnitRead
  unit : UnitRead
  after : List UnitRead
  parts : units ≡ front ++ unit ∷ after
  heads : unit_heads front ≡ before
  same : unit.head ≡ head

one_of : (info : List ℕ) (units : List UnitRead) (before : List UnitHead) (head : UnitHead) (a e : ℕ) → Follow info (unit_heads units) a (length info) → Follow info (before ++ head ∷ []) a e → IsOneOf units before head
one_of info [] [] head a e f (here, stands, rest) = absurd (end_apart info head a stands here f)
one_of info [] (b ∷ before) head a e f (here, stands, rest) = absurd (end_apart info b a stands here f)
one_of info (u ∷ units) [] head a e (u_at, u_is, f) (here, stands, rest) = record { front = []; unit = u; after = units; parts = refl; heads = refl; same = one_head info u.head head a u_is stands u_at here }
one_of info (u ∷ units) (b ∷ before) head a e (u_at, u_is, f) (b_at, b_is, g) =
    let same : u.head ≡ b = one_head info u.head b a u_is b_is u_at b_at in
    let moved : Follow info (unit_heads units) (a + b.len) (length info) = subst (λ (z : UnitHead). Follow info (unit_heads units) (a + z.len) (length info)) same f in
    let more = one_of info units before head (a + b.len) e moved g in
    record { front = u ∷ more.front; unit = more.unit; after = more.after; parts = ap (λ z. u ∷ z) more.parts; heads = ap (λ z. z ∷ unit_heads more.front) same ∙ ap (λ z. b ∷ z) more.heads; same = more.same }

all_front : {X : Type 0} (P : X → Type 0) (front : List X) (x : X) (after : List X) → All P (front ++ x ∷ after) → All P front
all_front P [] x after all = All-nil P
all_front P (f ∷ front) x after all = All-cons P f front (All-head P f (front ++ x ∷ after) all) (all_front P front x after (All-tail P f (front ++ x ∷ after) all))

all_here : {X : Type 0} (P : X → Type 0) (front : List X) (x : X) (after : List X) → All P (front ++ x ∷ after) → P x
all_here P [] x after all = All-head P x after all
all_here P (f ∷ front) x after all = all_here P front x after (All-tail P f (front ++ x ∷ after) all)

-- units with the same heads are the same
fronts_same : (info abbrevs : List ℕ) (us vs : List UnitRead) → unit_heads us ≡ unit_heads vs → All (IsUnitRead info abbrevs) us → All (IsUnitRead info abbrevs) vs → us ≡ vs
fronts_same info abbrevs [] [] e p q = refl
fronts_same info abbrevs [] (v ∷ vs) e p q = absurd (cc)
fronts_same info abbrevs (u ∷ us) [] e p q = absurd (cc)
fronts_same info abbrevs (u ∷ us) (v ∷ vs) e p q =
    let head : u.head ≡ v.head = cc in
    let rest : unit_heads us ≡ unit_heads vs = cc in
    ap (λ z. z ∷ us) (unit_same info abbrevs u v head (All-head (IsUnitRead info abbrevs) u us p) (All-head (IsUnitRead info abbrevs) v vs q))
    ∙ ap (λ z. v ∷ z) (fronts_same info abbrevs us vs rest (All-tail (IsUnitRead info abbrevs) u us p) (All-tail (IsUnitRead info abbrevs) v vs q))

abbrev is_limit : Kind → Bool
is_limit Limit = true
is_limit kind = false

module _ (info abbrevs : List ℕ) (units : List UnitRead) (tiled : Tile info (unit_heads units)) (each : All (IsUnitRead info abbrevs) units) (within : AreWithin units) where
  named : (head : UnitHead) (before : List UnitHead) (e : ℕ) → Follow info (before ++ head ∷ []) 0 e → IsOneOf units before head
  named head before e f = one_of info units before head 0 e tiled f

  is_read : (before : List UnitHead) (head : UnitHead) → (o : IsOneOf units before head) → IsUnitRead info abbrevs o.unit
  is_read before head o = all_here (IsUnitRead info abbrevs) o.front o.unit o.after (subst (All (IsUnitRead info abbrevs)) o.parts each)

  -- the entries and values of a unit and of those before it keep the limits
  sums : (f : UnitRead → ℕ) (before : List UnitHead) (head : UnitHead) → (o : IsOneOf units before head) → sum_by f o.front + f o.unit ≤ sum_by f units
  sums f before head o =
      let whole : sum_by f units ≡ sum_by f (o.front ++ o.unit ∷ o.after) = ap (sum_by f) o.parts in
      let split : sum_by f (o.front ++ o.unit ∷ o.after) ≡ sum_by f o.front + sum_by f (o.unit ∷ o.after) = sum_by-append f o.front (o.unit ∷ o.after) in
      let next : sum_by f (o.unit ∷ o.after) ≡ f o.unit + sum_by f o.after = sum_by-cons f o.unit o.after in
      omega arith

  keeps : (before : List UnitHead) (head : UnitHead) → (o : IsOneOf units before head) → IsWithin (counts_of o.front) (length o.unit.forest.entries) (length o.unit.forest.values)
  keeps before head o =
      let entries : sum_by (λ (u : UnitRead). length u.forest.entries) o.front + length o.unit.forest.entries ≤ sum_by (λ (u : UnitRead). length u.forest.entries) units = sums (λ u. length u.forest.entries) before head o in
      let values : sum_by (λ (u : UnitRead). length u.forest.values) o.front + length o.unit.forest.values ≤ sum_by (λ (u : UnitRead). length u.forest.values) units = sums (λ u. length u.forest.values) before head o in
      let no_entries : (counts_of []).entries ≡ 0 = refl in
      let no_values : (counts_of []).values ≡ 0 = refl in
      let all_entries : (counts_of []).entries + (counts_of units).entries ≤ entry_limit = within.entries in
      let all_values : (counts_of []).values + (counts_of units).values ≤ value_limit = within.values in
      record { entries = omega arith; values = omega arith }

  -- no fault in the entries of a unit
  unit_faultless : (before : List UnitHead) (head : UnitHead) (counts : Counts) (kind : Kind) (place : ℕ) → (o : IsOneOf units before head) → IsWithin counts (length o.unit.forest.entries) (length o.unit.forest.values) → FaultEntries info abbrevs counts head kind place → ⊥
  unit_faultless before head counts kind place o few f =
      let read = is_read before head o in
      let at : IsTableAt abbrevs head.table o.unit.table = subst (λ (z : UnitHead). IsTableAt abbrevs z.table o.unit.table) o.same read.table in
      let table : f.table ≡ o.unit.table = listing_once abbrevs head.table f.table o.unit.table f.stands at in
      let by_table : FaultUnit info head (declarations o.unit) counts kind place = subst (λ (z : Listing). FaultUnit info head (declarations_of z) counts kind place) table f.fault in
      let moved : FaultUnit info o.unit.head (declarations o.unit) counts kind place = subst (λ (z : UnitHead). FaultUnit info z (declarations o.unit) counts kind place) (sym o.same) by_table in
      let codes : HaveCodes (declarations o.unit) = table_codes (declarations o.unit) (take (o.unit.table.end - o.unit.head.table) (drop o.unit.head.table abbrevs)) read.table.table in
      unit_whole info o.unit.head (declarations o.unit) counts (listed_to o.unit.forest read.entries.0) codes read.entries.1 few (kind, place, moved)

  -- without any before it, too
  alone : (before : List UnitHead) (head : UnitHead) → (o : IsOneOf units before head) → IsWithin (counts_of []) (length o.unit.forest.entries) (length o.unit.forest.values)
  alone before head o =
      let few = keeps before head o in
      let entries : (counts_of o.front).entries + length o.unit.forest.entries ≤ entry_limit = few.entries in
      let values : (counts_of o.front).values + length o.unit.forest.values ≤ value_limit = few.values in
      let no_entries : (counts_of []).entries ≡ 0 = refl in
      let no_values : (counts_of []).values ≡ 0 = refl in
      record { entries = omega arith; values = omega arith }

  other_faultless : (kind : Kind) (place : ℕ) (head : UnitHead) (before : Counts) → kind ≢ Limit → IsUnitOf info head → FaultEntries info abbrevs before head kind place → ⊥
  other_faultless kind place head before other_kind (heads, e, follow) f =
      let o = named head heads e follow in
      unit_faultless heads head (counts_of []) kind place o (alone heads head o) (record { table = f.table; stands = f.stands; fault = only_limits_count info head (declarations_of f.table) before (counts_of []) kind place other_kind f.fault })

  no_entry_fault : (kind : Kind) (place : ℕ) → FaultUnits info abbrevs kind place → ⊥
  no_entry_fault Limit place p =
      let o = named p.head (unit_heads p.before) p.end p.front in
      let read = all_front (IsUnitRead info abbrevs) o.front o.unit o.after (subst (All (IsUnitRead info abbrevs)) o.parts each) in
      let same : o.front ≡ p.before = fronts_same info abbrevs o.front p.before o.heads read p.each in
      let few = subst (λ (z : List UnitRead). IsWithin (counts_of z) (length o.unit.forest.entries) (length o.unit.forest.values)) same (keeps (unit_heads p.before) p.head o) in
      unit_faultless (unit_heads p.before) p.head (counts_of p.before) Limit place o few p.passes
  no_entry_fault kind place (head, before, unit, f) = other_faultless kind place head before (λ (e : kind ≡ Limit). true≢false (sym (ap is_limit e))) unit f

  -- each unit names a place in .debug_abbrev
  no_offset_fault : (kind : Kind) (place : ℕ) → FaultOffset info abbrevs kind place → ⊥
  no_offset_fault Pointer place (head, (heads, e, follow), past, here) =
      let o = named head heads e follow in
      let inside : o.unit.head.table < length abbrevs = (is_read heads head o).named in
      let same : o.unit.head.table ≡ head.table = ap (λ h. h.table) o.same in
      absurd (omega arith)
  no_offset_fault kind place f = f

  pub info_faultless : (kind : Kind) (place : ℕ) → InfoFault info abbrevs kind place → ⊥
  info_faultless kind place f = elim f [
    | inl head ↦ heads_whole info (unit_heads units) tiled (kind, place, head)
    | inr rest ↦ elim rest [ inl offset ↦ no_offset_fault kind place offset | inr entries ↦ no_entry_fault kind place entries ]
  ]

  -- the bytes from a table on have no fault
  table_faultless : (t : Listing) (at : ℕ) → IsTableAt abbrevs at t → (kind : Kind) (inner : ℕ) → FaultTable kind inner (drop at abbrevs) → ⊥
  table_faultless t at stands kind inner f =
      table_whole (declarations_of t) kind inner (take (t.end - at) (drop at abbrevs)) (drop (t.end - at) (drop at abbrevs)) stands.table (subst (λ (z : List ℕ). FaultTable kind inner z) (sym (take-append-drop (t.end - at) (drop at abbrevs))) f)

  pub tables_faultless : (kind : Kind) (place : ℕ) → FaultTables info abbrevs kind place → ⊥
  tables_faultless kind place (at, inner, (head, (heads, e, follow), here, inside), sum, f) =
      let o = named head heads e follow in
      let read = is_read heads head o in
      let stands : IsTableAt abbrevs at o.unit.table = subst (λ (z : ℕ). IsTableAt abbrevs z o.unit.table) (ap (λ h. h.table) o.same ∙ here) read.table in
      table_faultless o.unit.table at stands kind inner f
