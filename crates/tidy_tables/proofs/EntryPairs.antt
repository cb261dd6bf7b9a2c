-- The pairs of declarations that entries have, over all units.
use Rattle.std.proofs.Common.{◌≡◌, ◌≢◌, ◌≤◌, ◌<◌, ◌+◌, inl, inr, ◌∙◌, ℕ, List, [], ◌∷◌, length, get_or, set, sym, ap, subst, refl, arith}
use Rattle.std.specs.Prelude.{◌↔◌, Option, Some, None, slice_index}
use Rattle.std.specs.List.{All}
use Rattle.std.proofs.lemmas.Bool.{cases_lt, cases_eq, cases_order}
use Rattle.std.proofs.lemmas.List.{length-set, get_or-set_same, get_or-set_other, get_or_default}
use Rattle.std.proofs.lemmas.List.Elements.{All-get_or}
use Rattle.dw_base.specs.declared.fault.Reach.{Reach}
use Rattle.entry_arena.specs.declared.entry.Entry.{Entry}
use Rattle.entry_arena.specs.declared.entry.Target.TheVariants.{Entry as TheEntry}
use Rattle.entry_arena.specs.Arena.{entry_at}
use Rattle.entry_read.specs.Units.{HeadAndForest}
use Rattle.value_links.specs.Sections.{debug_info, debug_abbrev}
use Rattle.value_links.specs.Reading.{Reading, unit_at}
use Rattle.value_links.specs.Whole.{IsReading}
use Rattle.value_links.specs.Links.{held_at}
use Rattle.value_links.specs.Same.{Same}
use Rattle.value_links.specs.Values.{entry_of}
use Rattle.value_links.specs.World.{World, Holds, IsWorldOf, head_and_forest}
use Rattle.value_links.specs.inside.Links.{AreUnitsApart}
use Rattle.value_links.proofs.HeldUnits.{held_count, held_is, units_apart}
use Rattle.tidy_places.specs.Firsts.{IsLeastPlace}
use Rattle.tidy_tables.specs.Untidy.{IsUntidyEntry, IsEarlier}
use Rattle.tidy_tables.specs.declared.pairings.Pairings.{Pairings}
use Rattle.tidy_tables.specs.inside.Pairings.{partner_of, IsPair, AreOneToOne, AreApart, IsPairUpTo, AreAdded, IsFirstApart}
use Rattle.tidy_tables.proofs.PairLaws.{alike}
use Rattle.tidy_tables.proofs.SameUnits.{same_units, same_entries}
use Rattle.tidy_tables.proofs.TableNumbers.{same_number, same_place}

-- the entries of the unit with a number
abbrev pub entries_of : World → ℕ → List Entry
entries_of world u = (held_at world.units u).forest.entries

-- the number of the declaration of one of them
abbrev pub number_held : World → ℕ → ℕ → ℕ
number_held world u id = (entry_at (entries_of world u) id).decl

-- a pair of an entry of one of the first so many units, whose old table has this number
abbrev pub IsPairOfUnits : World → World → ℕ → ℕ → ℕ → ℕ → Type 0
IsPairOfUnits a b count table k w =
    (u : ℕ) × (id : ℕ) × (u < count) × (id < length (entries_of b u)) × (slice_index a.table_of u ≡ table) × (number_held a u id ≡ k) × (number_held b u id ≡ w)

-- These are the pairs of the first so many units, by old tables.
pub record ArePairings (a b : World) (count : ℕ) (all : List Pairings) : Type 0 where
  pub size : length all ≡ length a.tables
  pub one : (table : ℕ) (d : Pairings) → table < length all → AreOneToOne (get_or all table d)
  pub pairs : (table k w : ℕ) (d : Pairings) → table < length all → IsPair (get_or all table d) k w ↔ IsPairOfUnits a b count table k w

-- NO UNIT

no_pair : (pairings : Pairings) → pairings.written_of.items ≡ [] → (k w : ℕ) → IsPair pairings k w → ⊥
no_pair pairings none k w pair = let both : None ≡ Some w = ap (λ (z : List (Option ℕ)). partner_of z k) (sym none) ∙ pair in absurd (cc)

no_old : (pairings : Pairings) → pairings.old_of.items ≡ [] → (k w : ℕ) → partner_of pairings.old_of.items w ≡ Some k → ⊥
no_old pairings none k w pair = let both : None ≡ Some k = ap (λ (z : List (Option ℕ)). partner_of z w) (sym none) ∙ pair in absurd (cc)

abbrev IsEmpty : Pairings → Type 0
IsEmpty pairings = (pairings.written_of.items ≡ []) × (pairings.old_of.items ≡ [])

pub pairings_none : (a b : World) (all : List Pairings) → length all ≡ length a.tables → All IsEmpty all → ArePairings a b 0 all
pairings_none a b all size none = record {
  size = size;
  one = λ table d inside k w.
      let empty = All-get_or IsEmpty all table d inside none in
      (λ pair. absurd (no_pair (get_or all table d) empty.0 k w pair), λ pair. absurd (no_old (get_or all table d) empty.1 k w pair));
  pairs = λ table k w d inside.
      let empty = All-get_or IsEmpty all table d inside none in
      (λ pair. absurd (no_pair (get_or all table d) empty.0 k w pair), λ (u, id, less, there, table_of, k_is, w_is). absurd (omega arith));
}

-- ONE UNIT MORE

module _ (a b : World) (u : ℕ) (all : List Pairings) (are : ArePairings a b u all) (table : ℕ) (table_is : slice_index a.table_of u ≡ table) (inside : table < length all) (before after : Pairings) (before_is : before ≡ get_or all table before) (added : AreAdded before after (entries_of a u) (entries_of b u) (length (entries_of b u))) where
  abbrev next : List Pairings
  next = set all table after

  at_same : (other : ℕ) (d : Pairings) → other ≡ table → get_or next other d ≡ after
  at_same other d same = ap (λ (z : ℕ). get_or next z d) same ∙ get_or-set_same all table after d inside

  at_other : (other : ℕ) (d : Pairings) → other ≢ table → get_or next other d ≡ get_or all other d
  at_other other d apart = get_or-set_other all table other after d apart

  forward : (k w : ℕ) → IsPair after k w → IsPairOfUnits a b (u + 1) table k w
  forward k w pair = elim ((added.pairs k w).0 pair) [
    | inl known ↦
        let (v, id, less, there, table_of, k_is, w_is) = (are.pairs table k w before inside).0 (subst (λ (z : Pairings). IsPair z k w) before_is known) in
        (v, id, omega arith, there, table_of, k_is, w_is)
    | inr here ↦ let (id, less, k_is, w_is) = here in (u, id, omega arith, less, table_is, k_is, w_is)
  ]

  back : (k w : ℕ) → IsPairOfUnits a b (u + 1) table k w → IsPair after k w
  back k w (v, id, less, there, table_of, k_is, w_is) = elim (cases_lt v u) [
    | inl earlier ↦
        let known : IsPair (get_or all table before) k w = (are.pairs table k w before inside).1 (v, id, earlier, there, table_of, k_is, w_is) in
        (added.pairs k w).1 (inl (subst (λ (z : Pairings). IsPair z k w) (sym before_is) known))
    | inr past ↦
        let here : v ≡ u = omega arith in
        let there_id : id < length (entries_of b u) = subst (λ (z : ℕ). id < length (entries_of b z)) here there in
        let k_there : number_held a u id ≡ k = subst (λ (z : ℕ). number_held a z id ≡ k) here k_is in
        let w_there : number_held b u id ≡ w = subst (λ (z : ℕ). number_held b z id ≡ w) here w_is in
        (added.pairs k w).1 (inr (id, there_id, k_there, w_there))
  ]

  -- the pairs of another table are those that were
  widen : (other k w : ℕ) → IsPairOfUnits a b u other k w → IsPairOfUnits a b (u + 1) other k w
  widen other k w (v, id, less, there, table_of, k_is, w_is) = (v, id, omega arith, there, table_of, k_is, w_is)

  narrow : (other k w : ℕ) → other ≢ table → IsPairOfUnits a b (u + 1) other k w → IsPairOfUnits a b u other k w
  narrow other k w apart (v, id, less, there, table_of, k_is, w_is) = elim (cases_lt v u) [
    | inl earlier ↦ (v, id, earlier, there, table_of, k_is, w_is)
    | inr past ↦ let here : v ≡ u = omega arith in absurd (apart (sym table_of ∙ ap (slice_index a.table_of) here ∙ table_is))
  ]

  one_next : (other : ℕ) (d : Pairings) → other < length next → AreOneToOne (get_or next other d)
  one_next other d there = elim (cases_eq other table) [
    | inl same ↦ subst AreOneToOne (sym (at_same other d same)) added.one
    | inr apart ↦ subst AreOneToOne (sym (at_other other d apart)) (are.one other d (let size = length-set all table after in omega arith))
  ]

  pairs_next : (other k w : ℕ) (d : Pairings) → other < length next → IsPair (get_or next other d) k w ↔ IsPairOfUnits a b (u + 1) other k w
  pairs_next other k w d there = elim (cases_eq other table) [
    | inl same ↦
        let whole : IsPair after k w ↔ IsPairOfUnits a b (u + 1) other k w = subst (λ (z : ℕ). IsPair after k w ↔ IsPairOfUnits a b (u + 1) z k w) (sym same) (forward k w, back k w) in
        subst (λ (z : Pairings). IsPair z k w ↔ IsPairOfUnits a b (u + 1) other k w) (sym (at_same other d same)) whole
    | inr apart ↦
        let known = are.pairs other k w d (let size = length-set all table after in omega arith) in
        subst (λ (z : Pairings). IsPair z k w ↔ IsPairOfUnits a b (u + 1) other k w) (sym (at_other other d apart)) (λ pair. widen other k w (known.0 pair), λ of_units. known.1 (narrow other k w apart of_units))
  ]

  pub pairings_more : ArePairings a b (u + 1) (set all table after)
  pairings_more = record { size = length-set all table after ∙ are.size; one = one_next; pairs = pairs_next }

-- WHAT IS LOOKED UP

-- as many units and entries are held of both files
module _ (a b : World) (before : (reach : Reach) × IsWorldOf a.image reach a) (after : (reach : Reach) × IsWorldOf b.image reach b) (same : Same a.image b.image) where
  abbrev first : Reading
  first = before.1.r

  abbrev second : Reading
  second = after.1.r

  pub units_first : length a.units ≡ length first.links.units
  units_first = held_count first.links.units a.units before.1.holds.units

  pub units_second : length b.units ≡ length second.links.units
  units_second = held_count second.links.units b.units after.1.holds.units

  pub units_same : length a.units ≡ length b.units
  units_same = units_first ∙ same_units a.image b.image same.debug first second before.1.read after.1.read ∙ sym units_second

  pub numbers_held : length a.table_of ≡ length b.units
  numbers_held = before.1.holds.tables.count ∙ sym units_first ∙ units_same

  pub number_inside : (u : ℕ) → u < length b.units → slice_index a.table_of u < length a.tables
  number_inside u inside = before.1.holds.tables.inside u (let old = units_first in let both = units_same in omega arith)

  pub entries_same : (u : ℕ) → u < length b.units → length (entries_of a u) ≡ length (entries_of b u)
  entries_same u inside =
      let old : held_at a.units u ≡ head_and_forest (unit_at first.links u) = held_is first.links.units a.units before.1.holds.units u (let count = units_first in let both = units_same in omega arith) in
      let new : held_at b.units u ≡ head_and_forest (unit_at second.links u) = held_is second.links.units b.units after.1.holds.units u (let count = units_second in omega arith) in
      ap (λ (z : HeadAndForest). length z.forest.entries) old
      ∙ same_entries a.image b.image same.debug first second before.1.read after.1.read u (let count = units_second in omega arith)
      ∙ sym (ap (λ (z : HeadAndForest). length z.forest.entries) new)

  -- the old table of a unit is looked up
  module _ (numbers : List ℕ) (u number : ℕ) (are : numbers ≡ a.table_of) (inside : u < length numbers) (is : number ≡ get_or numbers u number) where
    pub unit_known : u < length b.units
    unit_known = let size : length numbers ≡ length a.table_of = ap length are in let held = numbers_held in omega arith

    pub old_known : u < length a.units
    old_known = let known = unit_known in let both = units_same in omega arith

    pub number_read : slice_index a.table_of u ≡ number
    number_read = ap (λ (z : List ℕ). slice_index z u) (sym are) ∙ get_or_default numbers u 0 number inside ∙ sym is

    pub table_read : (all : List Pairings) → length all ≡ length a.tables → number < length all
    table_read all size =
        let table = number_read in
        let below = number_inside u unit_known in
        omega arith

-- WHAT IS FOUND

module _ (a b : World) (same : Same a.image b.image) (r s : Reading) (read : IsReading a.image r) (holds : Holds a.image a r) (again : IsReading b.image s) (keeps : Holds b.image b s) where
  count_old : length a.units ≡ length r.links.units
  count_old = held_count r.links.units a.units holds.units

  count_new : length b.units ≡ length s.links.units
  count_new = held_count s.links.units b.units keeps.units

  count_both : length r.links.units ≡ length s.links.units
  count_both = same_units a.image b.image same.debug r s read again

  old_entries : (u : ℕ) → u < length s.links.units → entries_of a u ≡ (unit_at r.links u).forest.entries
  old_entries u inside = ap (λ (z : HeadAndForest). z.forest.entries) (held_is r.links.units a.units holds.units u (let both = count_both in omega arith))

  new_entries : (u : ℕ) → u < length s.links.units → entries_of b u ≡ (unit_at s.links u).forest.entries
  new_entries u inside = ap (λ (z : HeadAndForest). z.forest.entries) (held_is s.links.units b.units keeps.units u inside)

  old_is : (u id : ℕ) → u < length s.links.units → number_held a u id ≡ (entry_of (unit_at r.links u) id).decl
  old_is u id inside = ap (λ (z : List Entry). (entry_at z id).decl) (old_entries u inside)

  new_is : (u id : ℕ) → u < length s.links.units → number_held b u id ≡ (entry_of (unit_at s.links u) id).decl
  new_is u id inside = ap (λ (z : List Entry). (entry_at z id).decl) (new_entries u inside)

  held_apart : AreUnitsApart b.units
  held_apart = units_apart s.links.units b.units keeps.units (debug_info b.image) (debug_abbrev b.image) again.links.units

  -- an earlier entry stands before a later one
  places_rise : (v other u id : ℕ) → IsEarlier v other u id → u < length b.units → v < length b.units → other < length (entries_of b v) → id < length (entries_of b u) → (entry_at (entries_of b v) other).at < (entry_at (entries_of b u) id).at
  places_rise v other u id (inl less) inside known there here =
      let ends : (entry_at (entries_of b v) other).at < (held_at b.units v).head.at + (held_at b.units v).head.len = held_apart.to v (TheEntry other) ((entry_at (entries_of b v) other).at) known (there, refl) in
      let begins : (held_at b.units u).head.at ≤ (entry_at (entries_of b u) id).at = held_apart.from u (TheEntry id) ((entry_at (entries_of b u) id).at) inside (here, refl) in
      let between : (held_at b.units v).head.at + (held_at b.units v).head.len ≤ (held_at b.units u).head.at = held_apart.rising v u less inside in
      omega arith
  places_rise v other u id (inr (one, less)) inside known there here =
      let other_here : (entry_at (entries_of b v) other).at ≡ (entry_at (entries_of b u) other).at = ap (λ (z : ℕ). (entry_at (entries_of b z) other).at) one in
      let wide : 0 < (entry_at (entries_of b u) other).len = (held_apart.order u inside).entered.wide other (omega arith) in
      let rises : (entry_at (entries_of b u) other).at + (entry_at (entries_of b u) other).len ≤ (entry_at (entries_of b u) id).at = (held_apart.order u inside).entered.rising other id less here in
      omega arith

  -- AN UNTIDY ENTRY, BY WHAT IS HELD

  module _ (q : ℕ) (e : IsUntidyEntry r.links s.links q) where
    known_here : e.u < length b.units
    known_here = let count = count_new in let inside = e.known in omega arith

    known_there : e.v < length b.units
    known_there = let count = count_new in let inside = e.known_other in omega arith

    inside_here : e.id < length (entries_of b e.u)
    inside_here = subst (λ (z : List Entry). e.id < length z) (sym (new_entries e.u e.known)) e.inside

    inside_there : e.other < length (entries_of b e.v)
    inside_there = subst (λ (z : List Entry). e.other < length z) (sym (new_entries e.v e.known_other)) e.inside_other

    one_table : slice_index a.table_of e.v ≡ slice_index a.table_of e.u
    one_table = same_number r.links.units a.tables a.table_of holds.tables e.v e.u (let both = count_both in let inside = e.known_other in omega arith) (let both = count_both in let inside = e.known in omega arith) e.table

    pairs_apart : AreApart (number_held a e.v e.other) (number_held b e.v e.other) (number_held a e.u e.id) (number_held b e.u e.id)
    pairs_apart =
        subst (λ (z : ℕ). AreApart z (number_held b e.v e.other) (number_held a e.u e.id) (number_held b e.u e.id)) (sym (old_is e.v e.other e.known_other))
        (subst (λ (z : ℕ). AreApart ((entry_of (unit_at r.links e.v) e.other).decl) z (number_held a e.u e.id) (number_held b e.u e.id)) (sym (new_is e.v e.other e.known_other))
        (subst (λ (z : ℕ). AreApart ((entry_of (unit_at r.links e.v) e.other).decl) ((entry_of (unit_at s.links e.v) e.other).decl) z (number_held b e.u e.id)) (sym (old_is e.u e.id e.known))
        (subst (λ (z : ℕ). AreApart ((entry_of (unit_at r.links e.v) e.other).decl) ((entry_of (unit_at s.links e.v) e.other).decl) ((entry_of (unit_at r.links e.u) e.id).decl) z) (sym (new_is e.u e.id e.known)) e.apart)))

    place_here : q ≡ (entry_at (entries_of b e.u) e.id).at
    place_here = e.place ∙ sym (ap (λ (z : List Entry). (entry_at z e.id).at) (new_entries e.u e.known))

    module _ (u : ℕ) (all : List Pairings) (are : ArePairings a b u all) where
      -- the earlier one stands in no later unit
      unit_of_other : e.v ≤ e.u
      unit_of_other = elim e.earlier [ inl less ↦ omega arith | inr same ↦ let here = same.0 in omega arith ]

      table_known : slice_index a.table_of e.u < length all
      table_known =
          let size = are.size in
          let inside = holds.tables.inside e.u (let both = count_both in let inside = e.known in omega arith) in
          omega arith

      -- neither is of the first so many units
      pub none_below : (d : Pairings) → e.u < u → ⊥
      none_below d less =
          let table : ℕ = slice_index a.table_of e.u in
          let behind : e.v ≤ e.u = unit_of_other in
          let first : IsPair (get_or all table d) (number_held a e.v e.other) (number_held b e.v e.other) = (are.pairs table (number_held a e.v e.other) (number_held b e.v e.other) d table_known).1 (e.v, e.other, omega arith, inside_there, one_table, refl, refl) in
          let second : IsPair (get_or all table d) (number_held a e.u e.id) (number_held b e.u e.id) = (are.pairs table (number_held a e.u e.id) (number_held b e.u e.id) d table_known).1 (e.u, e.id, less, inside_here, refl, refl, refl) in
          alike (get_or all table d) (are.one table d table_known) (number_held a e.v e.other) (number_held b e.v e.other) (number_held a e.u e.id) (number_held b e.u e.id) first second pairs_apart

  -- WHERE NONE IS

  -- some pairings are held where a table has a number
  first_held : (all : List Pairings) (table : ℕ) → table < length all → Pairings
  first_held [] table inside = absurd (omega arith)
  first_held (pairings ∷ all) table inside = pairings

  pub none_untidy : (all : List Pairings) (u : ℕ) → ArePairings a b u all → length b.units ≤ u → (p : ℕ) → IsUntidyEntry r.links s.links p → ⊥
  none_untidy all u are past p e =
      let table : ℕ = slice_index a.table_of e.u in
      none_below p e u all are (first_held all table (table_known p e u all are)) (let inside = known_here p e in omega arith)

  -- WHERE ONE IS

  module _ (all : List Pairings) (u : ℕ) (are : ArePairings a b u all) (known : u < length b.units) (before : Pairings) (before_is : before ≡ get_or all (slice_index a.table_of u) before) (place : ℕ) (found : IsFirstApart before (entries_of a u) (entries_of b u) place) where
    known_read : u < length s.links.units
    known_read = let count = count_new in omega arith

    table_here : slice_index a.table_of u < length all
    table_here =
        let size = are.size in
        let inside = holds.tables.inside u (let both = count_both in let here = known_read in omega arith) in
        omega arith

    -- an entry with this pair comes before
    abbrev HasEarlier : ℕ → ℕ → Type 0
    HasEarlier k w = (v : ℕ) × (other : ℕ) × (v < length b.units) × (other < length (entries_of b v)) × IsEarlier v other u found.id × (slice_index a.table_of v ≡ slice_index a.table_of u) × (number_held a v other ≡ k) × (number_held b v other ≡ w)

    has_earlier : (k w : ℕ) → IsPairUpTo before (entries_of a u) (entries_of b u) found.id k w → HasEarlier k w
    has_earlier k w (inl pair) =
        let (v, other, less, there, table_of, k_is, w_is) = (are.pairs (slice_index a.table_of u) k w before table_here).0 (subst (λ (z : Pairings). IsPair z k w) before_is pair) in
        (v, other, omega arith, there, inl less, table_of, k_is, w_is)
    has_earlier k w (inr (id, less, k_is, w_is)) = (u, id, known, let inside = found.inside in omega arith, inr (refl, less), refl, k_is, w_is)

    is_untidy : IsUntidyEntry r.links s.links place
    is_untidy =
        let (v, other, inside, there, earlier, table_of, k_is, w_is) = has_earlier found.k found.w found.earlier in
        let v_read : v < length s.links.units = let count = count_new in omega arith in
        record {
          u = u;
          id = found.id;
          v = v;
          other = other;
          known = known_read;
          inside = subst (λ (z : List Entry). found.id < length z) (new_entries u known_read) found.inside;
          known_other = v_read;
          inside_other = subst (λ (z : List Entry). other < length z) (new_entries v v_read) there;
          earlier = earlier;
          table = same_place r.links.units a.tables a.table_of holds.tables v u (let both = count_both in omega arith) (let both = count_both in let here = known_read in omega arith) table_of;
          apart =
              subst (λ (z : ℕ). AreApart z ((entry_of (unit_at s.links v) other).decl) ((entry_of (unit_at r.links u) found.id).decl) ((entry_of (unit_at s.links u) found.id).decl)) (sym k_is ∙ old_is v other v_read)
              (subst (λ (z : ℕ). AreApart found.k z ((entry_of (unit_at r.links u) found.id).decl) ((entry_of (unit_at s.links u) found.id).decl)) (sym w_is ∙ new_is v other v_read)
              (subst (λ (z : ℕ). AreApart found.k found.w z ((entry_of (unit_at s.links u) found.id).decl)) (old_is u found.id known_read)
              (subst (λ (z : ℕ). AreApart found.k found.w (number_held a u found.id) z) (new_is u found.id known_read) found.apart)));
          place = found.here ∙ ap (λ (z : List Entry). (entry_at z found.id).at) (new_entries u known_read);
        }

    -- no entry before it is one
    module _ (q : ℕ) (less : q < place) (e : IsUntidyEntry r.links s.links q) where
      here_is : place ≡ (entry_at (entries_of b u) found.id).at
      here_is = found.here

      not_behind : IsEarlier u found.id e.u e.id → ⊥
      not_behind later =
          let rises = places_rise u found.id e.u e.id later (known_here q e) known found.inside (inside_here q e) in
          let there = place_here q e in
          let here = here_is in
          absurd (omega arith)

      not_here : (e.u ≡ u) → (e.id ≡ found.id) → ⊥
      not_here unit id =
          let there : q ≡ (entry_at (entries_of b u) found.id).at = place_here q e ∙ ap (λ (z : ℕ). (entry_at (entries_of b z) e.id).at) unit ∙ ap (λ (z : ℕ). (entry_at (entries_of b u) z).at) id in
          let here = here_is in
          absurd (omega arith)

      up_to : (v other : ℕ) → other < length (entries_of b v) → IsEarlier v other u found.id → slice_index a.table_of v ≡ slice_index a.table_of u → IsPairUpTo before (entries_of a u) (entries_of b u) found.id (number_held a v other) (number_held b v other)
      up_to v other there (inl earlier) table_of =
          inl (subst (λ (z : Pairings). IsPair z (number_held a v other) (number_held b v other)) (sym before_is) ((are.pairs (slice_index a.table_of u) (number_held a v other) (number_held b v other) before table_here).1 (v, other, earlier, there, table_of, refl, refl)))
      up_to v other there (inr (same_unit, earlier)) table_of =
          inr (other, earlier, ap (λ (z : ℕ). number_held a z other) (sym same_unit), ap (λ (z : ℕ). number_held b z other) (sym same_unit))

      other_earlier : (e.u ≡ u) → e.id < found.id → IsEarlier e.v e.other u found.id
      other_earlier unit before_it = elim e.earlier [
        | inl unit_less ↦ inl (omega arith)
        | inr same ↦ let one = same.0 in let id_less = same.1 in inr (omega arith, omega arith)
      ]

      none_in_unit : (e.u ≡ u) → e.id < found.id → ⊥
      none_in_unit unit before_it =
          let table : slice_index a.table_of e.u ≡ slice_index a.table_of u = ap (slice_index a.table_of) unit in
          let first = up_to e.v e.other (inside_there q e) (other_earlier unit before_it) (one_table q e ∙ table) in
          let second = up_to e.u e.id (inside_here q e) (inr (unit, before_it)) table in
          found.alike (number_held a e.v e.other) (number_held b e.v e.other) (number_held a e.u e.id) (number_held b e.u e.id) first second (pairs_apart q e)

      none_before : ⊥
      none_before = elim (cases_order e.u u) [
        | inl unit ↦ elim (cases_order e.id found.id) [
          | inl id ↦ not_here unit id
          | inr (inl before_it) ↦ none_in_unit unit before_it
          | inr (inr behind) ↦ not_behind (inr (sym unit, behind))
        ]
        | inr (inl below) ↦ none_below q e u all are before below
        | inr (inr above) ↦ not_behind (inl above)
      ]

    pub first_untidy : IsLeastPlace (IsUntidyEntry r.links s.links) place
    first_untidy = (is_untidy, none_before)
