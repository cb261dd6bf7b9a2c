-- The address tables of the contexts of units, and their maps.
use Rattle.std.proofs.Common.{◌≡◌, ◌≤◌, ◌<◌, ◌+◌, ◌*◌, ◌∙◌, ◌&&◌, ℕ, zero, suc, List, [], ◌∷◌, ◌++◌, length, get_or, Bool, true, false, eqb, Less, Equal, Greater, Ordering, inl, inr, sym, ap, refl, subst, arith}
use Rattle.std.specs.Prelude.{Option, Some, None}
use Rattle.std.specs.Cmp.{IsEquivalence, IsTotalOrder, unsigned_ties, tied_then}
use Rattle.std.specs.Ordering.{nat_cmp, is_eq, ordering_index, ordering_then, eq_by_cmp}
use Rattle.std.specs.List.{All, AllZip, Contains, HoldsAt, dedup}
use Rattle.std.specs.List.Sorted.{IsPermutation, IsSorted, IsStrictlySortedBy, IsNonDecreasingBy, IsPartitionPoint}
use Rattle.std.proofs.lemmas.Bool.{cases_lt, eqb-true, eq-eqb, true≢false}
use Rattle.std.proofs.lemmas.Bool.Decides.{nat_tests}
use Rattle.std.proofs.lemmas.Cmp.{nat_cmp_total, then_total, on_total}
use Rattle.std.proofs.lemmas.Option.{same_Some}
use Rattle.std.proofs.lemmas.List.{get_or_default}
use Rattle.std.proofs.lemmas.List.Elements.{All-push, All-nil, Contains-push, Contains-append_left}
use Rattle.std.proofs.lemmas.List.Filters.{All-dedup}
use Rattle.std.proofs.lemmas.List.Kept.{Contains-dedup, IsStrictlySortedBy-dedup}
use Rattle.std.proofs.lemmas.List.Sorted.{All-permutation, Contains-permutation}
use Rattle.std.proofs.lemmas.Map.Keys.{Less-from_sorted}
use Rattle.dw_base.specs.declared.fault.Reach.{Reach}
use Rattle.fixed_width.specs.InitialLengths.{unit_end}
use Rattle.list_model.specs.declared.context.Context.{Context}
use Rattle.list_model.specs.declared.tables.AddrTable.{AddrTable}
use Rattle.list_model.specs.Addresses.{IsAddrTable}
use Rattle.list_model.specs.Items.{HasTable}
use Rattle.list_model.proofs.Found.{found, not_found}
use Rattle.list_least.specs.Maps.{pair_at, IsMapOf}
use Rattle.value_links.specs.Sections.{debug_addr}
use Rattle.value_links.specs.Reading.{Reading, UnitRead, no_context, no_unit, context_at}
use Rattle.value_links.specs.Values.{root_of}
use Rattle.value_links.specs.Contexts.{IsTableOf, IsContext}
use Rattle.value_links.specs.World.{World, Holds, IsWorldOf}
use Rattle.value_links.proofs.HeldUnits.{held_count}
use Rattle.list_lookup.specs.declared.table_maps.TableMap.{TableMap}
use Rattle.list_lookup.specs.declared.table_maps.TableMaps.{TableMaps}
use Rattle.list_lookup.specs.Maps.{context_in, table_by, IsTableIn, AreTablesIn, AreAllTables, IsTableMap, AreTableMaps, AreMapsFor, IsContextIn}
use Rattle.list_lookup.proofs.GrownLists.{each_more, counted_more}

-- ---- the table of a context stands in .debug_addr

zip_at : {A B : Type 0} (R : A → B → Type 0) (xs : List A) (ys : List B) (i : ℕ) (a : A) (b : B) → AllZip R xs ys → i < length xs → R (get_or xs i a) (get_or ys i b)
zip_at R [] [] i a b all less = absurd (omega arith)
zip_at R [] (y ∷ ys) i a b all less = absurd all
zip_at R (x ∷ xs) [] i a b all less = absurd all
zip_at R (x ∷ xs) (y ∷ ys) zero a b all less = all.0
zip_at R (x ∷ xs) (y ∷ ys) (suc i) a b all less = zip_at R xs ys i a b all.1 (omega arith)

-- the context that is held is the one that is read
pub context_same : (file : List ℕ) (world : World) (r : Reading) (u : ℕ) → Holds file world r → context_in world u ≡ context_at r.links u
context_same file world r u holds = ap (λ (z : List Context). get_or z u no_context) holds.contexts

module _ (world : World) (reach : Reach) (is : IsWorldOf world.image reach world) where
  pub table_stands : (u : ℕ) (table : AddrTable) → u < length world.units → (context_in world u).table ≡ Some table → IsAddrTable (debug_addr world.image) table
  table_stands u table inside named =
      let count : length world.units ≡ length is.r.links.units = held_count is.r.links.units world.units is.holds.units in
      let context = zip_at (λ (unit : UnitRead) (context : Context). IsContext is.r.links.addresses (root_of unit).attributes context) is.r.links.units is.r.links.contexts u no_unit no_context is.read.links.contexts (omega arith) in
      let same : (context_at is.r.links u).table ≡ Some table = ap (λ (z : Context). z.table) (sym (context_same world.image world is.r u is.holds)) ∙ named in
      let found = subst (λ (z : Option AddrTable). IsTableOf is.r.links.addresses (root_of (get_or is.r.links.units u no_unit)).attributes z) same context.table in
      subst (λ (z : List ℕ). IsAddrTable z table) is.holds.addresses found.2.stands

  -- so the context has a table where it names one
  pub context_table : (context : Context) → IsContextIn world context → HasTable (debug_addr world.image) context.table
  context_table context (u, inside, same) = by_table context.table (λ table named. table_stands u table inside (ap (λ (z : Context). z.table) (sym same) ∙ named))
    where
      by_table : (o : Option AddrTable) → ((table : AddrTable) → o ≡ Some table → IsAddrTable (debug_addr world.image) table) → HasTable (debug_addr world.image) o
      by_table None stands = tt
      by_table (Some table) stands = stands table refl

  table_in : (n : ℕ) (pair : ℕ × ℕ) → n ≤ length world.units → IsTableIn world n pair → IsAddrTable (debug_addr world.image) (table_by pair)
  table_in n pair within (u, less, named) = table_stands u (table_by pair) (omega arith) named

-- one table stands at a place
one_count : (section : List ℕ) (table other : AddrTable) → IsAddrTable section table → IsAddrTable section other → table.at ≡ other.at → table.count ≡ other.count
one_count section table other is too same =
    let end : unit_end section table.at ≡ unit_end section other.at = ap (unit_end section) same in
    let first : table.at + 8 + 8 * table.count ≡ unit_end section table.at = is.filled in
    let second : other.at + 8 + 8 * other.count ≡ unit_end section other.at = too.filled in
    omega arith

-- ---- the tables of the first units

pub no_tables : (world : World) (tables : List (ℕ × ℕ)) → tables ≡ [] → AreTablesIn world 0 tables
no_tables world tables none = record {
  each = subst (λ (z : List (ℕ × ℕ)). All (IsTableIn world 0) z) (sym none) (All-nil (IsTableIn world 0));
  all = λ u table less named. absurd (omega arith);
}

one_more : (world : World) (n : ℕ) (pair : ℕ × ℕ) → IsTableIn world n pair → IsTableIn world (n + 1) pair
one_more world n pair (u, less, named) = (u, omega arith, named)

wider : (world : World) (n : ℕ) (tables : List (ℕ × ℕ)) → All (IsTableIn world n) tables → All (IsTableIn world (n + 1)) tables
wider world n tables all = λ k d less. one_more world n (get_or tables k d) (all k d less)

-- the next unit has a table
pub table_more : (world : World) (n : ℕ) (tables new : List (ℕ × ℕ)) (table : AddrTable) → AreTablesIn world n tables → (context_in world n).table ≡ Some table → new ≡ tables ++ (table.at, table.count) ∷ [] → AreTablesIn world (n + 1) new
table_more world n tables new table old named pushed = subst (λ (z : List (ℕ × ℕ)). AreTablesIn world (n + 1) z) (sym pushed) (record {
  each = All-push (IsTableIn world (n + 1)) tables (table.at, table.count) (wider world n tables old.each) (n, omega arith, named);
  all = λ u other less is. elim (cases_lt u n) [
    | inl before ↦ Contains-append_left tables ((table.at, table.count) ∷ []) (other.at, other.count) (old.all u other before is)
    | inr last ↦
        let here : n ≡ u = omega arith in
        let same : table ≡ other = same_Some table other (sym named ∙ ap (λ (z : ℕ). (context_in world z).table) here ∙ is) in
        subst (λ (z : AddrTable). Contains (tables ++ (table.at, table.count) ∷ []) (z.at, z.count)) same (Contains-push tables (table.at, table.count))
  ];
})

-- or it has none
pub table_none : (world : World) (n : ℕ) (tables : List (ℕ × ℕ)) → AreTablesIn world n tables → ((table : AddrTable) → (context_in world n).table ≡ Some table → ⊥) → AreTablesIn world (n + 1) tables
table_none world n tables old none = record {
  each = wider world n tables old.each;
  all = λ u other less is. elim (cases_lt u n) [
    | inl before ↦ old.all u other before is
    | inr last ↦
        let here : u ≡ n = omega arith in
        absurd (none other (subst (λ (z : ℕ). (context_in world z).table ≡ Some other) here is))
  ];
}

-- ---- each once, by rising place

abbrev compare_pairs : ℕ × ℕ → ℕ × ℕ → Ordering
compare_pairs x y = ordering_then (nat_cmp x.0 y.0) (nat_cmp x.1 y.1)

abbrev pub same_pair : ℕ × ℕ → ℕ × ℕ → Bool
same_pair x y = eqb x.0 y.0 && eqb x.1 y.1

pairs_total : IsTotalOrder compare_pairs
pairs_total = then_total (on_total (λ (t : ℕ × ℕ). t.0) nat_cmp_total) (on_total (λ (t : ℕ × ℕ). t.1) nat_cmp_total)

pairs_tied : (x y : ℕ × ℕ) → same_pair x y ≡ eq_by_cmp compare_pairs x y
pairs_tied x y =
    ap (λ (z : Bool). z && eqb x.1 y.1) (unsigned_ties x.0 y.0)
    ∙ ap (λ (z : Bool). is_eq (nat_cmp x.0 y.0) && z) (unsigned_ties x.1 y.1)
    ∙ tied_then (nat_cmp x.0 y.0) (nat_cmp x.1 y.1)

both_true : (a b : Bool) → a && b ≡ true → (a ≡ true) × (b ≡ true)
both_true true b e = (refl, e)
both_true false b e = absurd (true≢false (sym e))

same_pair_is : (x y : ℕ × ℕ) → same_pair x y ≡ true → x ≡ y
same_pair_is (a, b) (c, d) e =
    let both = both_true (eqb a c) (eqb b d) e in
    ap (λ (z : ℕ). (z, b)) (eqb-true a c both.0) ∙ ap (λ (z : ℕ). (c, z)) (eqb-true b d both.1)

same_pairs : IsEquivalence same_pair
same_pairs = record {
  refl = λ x. rw (eq-eqb x.0 x.0 refl, eq-eqb x.1 x.1 refl);
  symm = λ x y. grind (arith, nat_tests);
  congr = λ x y z e. ap (λ (w : ℕ × ℕ). same_pair w z) (same_pair_is x y e);
}

less_pair : (a b c d : ℕ) → ordering_then (nat_cmp a c) (nat_cmp b d) ≡ Less → (a ≡ c → b ≡ d) → a < c
less_pair a b c d e one = grind (arith, nat_tests)

-- what is left of the tables where they are sorted and equal ones are dropped
pub tables_sorted : (world : World) (reach : Reach) → IsWorldOf world.image reach world → (tables sorted new : List (ℕ × ℕ)) → AreTablesIn world (length world.units) tables → IsPermutation tables sorted → IsSorted compare_pairs sorted → new ≡ dedup same_pair sorted → AreAllTables world new
tables_sorted world reach is tables sorted new those moved rises kept = subst (λ (z : List (ℕ × ℕ)). AreAllTables world z) (sym kept) (record {
  those = record { each = each; all = all };
  rising = λ i j less inside.
      let before = Less-from_sorted compare_pairs (dedup same_pair sorted) i j (0, 0) strict less inside in
      let x = pair_at (dedup same_pair sorted) i in
      let y = pair_at (dedup same_pair sorted) j in
      less_pair x.0 x.1 y.0 y.1 before (λ same. one_count (debug_addr world.image) (table_by x) (table_by y) (stands i (omega arith)) (stands j inside) same);
})
  where
    each : All (IsTableIn world (length world.units)) (dedup same_pair sorted)
    each = All-dedup same_pair (IsTableIn world (length world.units)) sorted (All-permutation (IsTableIn world (length world.units)) tables sorted moved those.each)

    all : (u : ℕ) (table : AddrTable) → u < length world.units → (context_in world u).table ≡ Some table → Contains (dedup same_pair sorted) (table.at, table.count)
    all u table less named = Contains-dedup same_pairs same_pair_is sorted (table.at, table.count) (Contains-permutation tables sorted (table.at, table.count) moved (those.all u table less named))

    strict : IsStrictlySortedBy compare_pairs (dedup same_pair sorted)
    strict = IsStrictlySortedBy-dedup pairs_total pairs_tied sorted rises

    stands : (i : ℕ) → i < length (dedup same_pair sorted) → IsAddrTable (debug_addr world.image) (table_by (pair_at (dedup same_pair sorted) i))
    stands i inside = table_in world reach is (length world.units) (pair_at (dedup same_pair sorted) i) (omega arith) (each i (0, 0) inside)

-- each of all tables stands in .debug_addr
pub each_stands : (world : World) (reach : Reach) → IsWorldOf world.image reach world → (tables : List (ℕ × ℕ)) → AreAllTables world tables → (i : ℕ) → i < length tables → IsAddrTable (debug_addr world.image) (table_by (pair_at tables i))
each_stands world reach is tables all i inside = table_in world reach is (length world.units) (pair_at tables i) (omega arith) (all.those.each i (0, 0) inside)

-- ---- their maps

pub no_maps : (addr : List ℕ) (tables : List (ℕ × ℕ)) (maps : List TableMap) → maps ≡ [] → AreTableMaps addr tables 0 maps
no_maps addr tables maps none = record { count = ap length none; each = λ i d less. absurd (omega arith) }

pub map_more : (addr : List ℕ) (tables : List (ℕ × ℕ)) (n : ℕ) (maps new : List TableMap) (named : TableMap) → AreTableMaps addr tables n maps → IsTableMap addr (pair_at tables n) named → new ≡ maps ++ named ∷ [] → AreTableMaps addr tables (n + 1) new
map_more addr tables n maps new named old here pushed = subst (λ (z : List TableMap). AreTableMaps addr tables (n + 1) z) (sym pushed) (record {
  count = counted_more n maps named old.count;
  each = each_more (λ (i : ℕ) (x : TableMap). IsTableMap addr (pair_at tables i) x) n maps named old.count old.each here;
})

first_of : {X : Type 0} (xs : List X) (i : ℕ) → i < length xs → X
first_of [] i less = absurd (omega arith)
first_of (x ∷ xs) i less = x

pair_read : (pairs : List (ℕ × ℕ)) (x : ℕ × ℕ) (has : Contains pairs x) → pair_at pairs has.0 ≡ x
pair_read pairs x (k, less, is) = get_or_default pairs k (0, 0) x less ∙ is

module _ (world : World) (addr : List ℕ) (maps : TableMaps) (are : AreMapsFor world addr maps) (context : Context) (known : IsContextIn world context) (table : AddrTable) (named : context.table ≡ Some table) where
  -- the table of the context is among those that have maps
  has_table : Contains are.tables (table.at, table.count)
  has_table = are.all.those.all known.0 table known.1 (sym (ap (λ (z : Context). z.table) known.2) ∙ named)

  count_is : length maps.tables.items ≡ length are.tables
  count_is = are.each.count

  at_of : (i : ℕ) (d : TableMap) → i < length maps.tables.items → (get_or maps.tables.items i d).at ≡ (pair_at are.tables i).0
  at_of i d less = (are.each.each i d (omega (arith, count_is))).at

  maps_rise : (d : TableMap) (i j : ℕ) → i < j → j < length maps.tables.items → (get_or maps.tables.items i d).at < (get_or maps.tables.items j d).at
  maps_rise d i j less inside = omega (arith, at_of i d (omega arith), at_of j d inside, are.all.rising i j less (omega (arith, count_is)))

  number_inside : has_table.0 < length maps.tables.items
  number_inside = omega (arith, count_is, has_table.1)

  number_at : (d : TableMap) → (get_or maps.tables.items has_table.0 d).at ≡ table.at
  number_at d = at_of has_table.0 d number_inside ∙ ap (λ (z : ℕ × ℕ). z.0) (pair_read are.tables (table.at, table.count) has_table)

  -- a search among them doesn't fail
  pub map_missing : (xs : List TableMap) → xs ≡ maps.tables.items → (at : ℕ) → (IsNonDecreasingBy (λ (x : TableMap). ordering_index (nat_cmp x.at table.at)) xs → IsPartitionPoint (λ (x : TableMap). nat_cmp x.at table.at ≡ Less) (λ (x : TableMap). nat_cmp x.at table.at ≡ Greater) xs at) → ⊥
  map_missing xs same at parted =
      let d : TableMap = first_of maps.tables.items has_table.0 number_inside in
      let moved = subst (λ (z : List TableMap). IsNonDecreasingBy (λ (x : TableMap). ordering_index (nat_cmp x.at table.at)) z → IsPartitionPoint (λ (x : TableMap). nat_cmp x.at table.at ≡ Less) (λ (x : TableMap). nat_cmp x.at table.at ≡ Greater) z at) same parted in
      not_found (λ (x : TableMap). x.at) maps.tables.items d (maps_rise d) table.at at moved has_table.0 number_inside (number_at d)

  -- and it gives the map of the table
  pub map_found : (xs : List TableMap) → xs ≡ maps.tables.items → (number : ℕ) → number < length xs → HoldsAt (λ (x : TableMap). nat_cmp x.at table.at ≡ Equal) xs number → (m : TableMap) → m ≡ get_or maps.tables.items number m → IsMapOf addr context.table m.map
  map_found xs same number inside equal m is =
      let within : number < length maps.tables.items = subst (λ (z : List TableMap). number < length z) same inside in
      let holds = subst (λ (z : List TableMap). HoldsAt (λ (x : TableMap). nat_cmp x.at table.at ≡ Equal) z number) same equal in
      let here : (get_or maps.tables.items number m).at ≡ table.at = found (λ (x : TableMap). x.at) maps.tables.items m (maps_rise m) table.at number holds in
      let there : (get_or maps.tables.items has_table.0 m).at ≡ table.at = number_at m in
      let one : has_table.0 ≡ number = elim (cases_lt has_table.0 number) [
        | inl less ↦ absurd (omega (arith, maps_rise m has_table.0 number less within))
        | inr more ↦ elim (cases_lt number has_table.0) [
          | inl less ↦ absurd (omega (arith, maps_rise m number has_table.0 less number_inside))
          | inr equals ↦ omega arith
        ]
      ] in
      let pair : pair_at are.tables number ≡ (table.at, table.count) = ap (pair_at are.tables) (sym one) ∙ pair_read are.tables (table.at, table.count) has_table in
      let map_is = (are.each.each number m (omega (arith, count_is))).is in
      let of_table : IsMapOf addr (Some table) (get_or maps.tables.items number m).map = subst (λ (z : ℕ × ℕ). IsMapOf addr (Some (table_by z)) (get_or maps.tables.items number m).map) pair map_is in
      let of_context = subst (λ (z : Option AddrTable). IsMapOf addr z (get_or maps.tables.items number m).map) (sym named) of_table in
      subst (λ (z : TableMap). IsMapOf addr context.table z.map) (sym is) of_context
