-- The least place of a table that isn't as a writer makes it, from the least places of what may be amiss with it.
use Rattle.std.proofs.Common.{◌≡◌, ◌<◌, ◌⊎◌, inl, inr, ℕ, List, length, map, sym, ap, ◌∙◌, subst, arith}
use Rattle.std.specs.Prelude.{Option, slice_index}
use Rattle.std.proofs.lemmas.List.Elements.{All-get_or}
use Rattle.dw_base.specs.declared.fault.Reach.{Reach}
use Rattle.entry_read.specs.Units.{IsTable}
use Rattle.tidy_places.specs.Firsts.{IsLeastFound}
use Rattle.value_links.specs.declared.units.NamedTable.{NamedTable}
use Rattle.value_links.specs.Sections.{debug_info, debug_abbrev}
use Rattle.value_links.specs.Reading.{UnitRead, Reading, no_unit, unit_among, IsUnitRead}
use Rattle.value_links.specs.Same.{Same}
use Rattle.value_links.specs.World.{World, AreTablesOf, table_at, named_by, head_and_forest, IsWorldOf}
use Rattle.value_links.proofs.ReadingOnce.{reading_once}
use Rattle.tidy_tables.specs.declared.uses.Uses.{Uses}
use Rattle.tidy_tables.specs.Untidy.{IsTooEarly, IsInside, IsFurther, HasUnused, HasOthers, HasMoreBytes, IsUntidyTable}
use Rattle.tidy_tables.specs.inside.Codes.{AreTables, IsWasteful}
use Rattle.tidy_tables.specs.inside.Marked.{IsAmong, lesser_of}
use Rattle.tidy_tables.specs.inside.Outlines.{IsWrittenOtherwise}
use Rattle.tidy_tables.specs.inside.UseCounts.{counts_in, AreCounted, AreHeldFor}
use Rattle.tidy_tables.specs.inside.WrittenTables.{AreWrittenAs, place_in, IsBelowEarlier, IsInEarlier, NamesOther}
use Rattle.tidy_tables.proofs.Countable.{countable}
use Rattle.tidy_tables.proofs.LeastPlaces.{least_same, least_either}
use Rattle.tidy_tables.proofs.TableReadings.{early_to, early_from, inside_to, inside_from, further_to, further_from, other_to, other_from, wasteful_to, wasteful_from, wasteful_unused}
use Rattle.tidy_tables.proofs.UseLaws.{uses_few}

-- ONE FILE

module _ (world : World) (reach : Reach) (is : IsWorldOf world.image reach world) where
  -- each table stands somewhere
  pub tables_stand : AreTables world.tables
  tables_stand i inside =
      let (u, within, names) = is.holds.tables.named i inside in
      let unit : UnitRead = unit_among is.r.links.units u in
      let read : IsUnitRead (debug_info world.image) (debug_abbrev world.image) unit = All-get_or (IsUnitRead (debug_info world.image) (debug_abbrev world.image)) is.r.links.units u no_unit within is.read.links.units.each in
      let stands : IsTable unit.table = (debug_abbrev world.image, unit.head.table, read.table) in
      let same : table_at world.tables i ≡ named_by unit = ap (table_at world.tables) (sym names) ∙ is.holds.tables.each u within in
      subst (λ (t : NamedTable). IsTable t.table) (sym same) stands

  pub held_for : (all : List Uses) → AreCounted world.units world.tables all → AreHeldFor world.tables all
  held_for all counted = record {
    count = counted.count;
    each = λ i inside. (counted.each i inside).count;
    few = λ i inside. record {
      count = counted.few i inside;
      each = λ number below. uses_few world.units (table_at world.tables i) (counts_in all i) number (counted.each i inside) (countable world reach is).few below;
    };
  }

  -- a unit names each of the tables
  pub some_namer : (number_of : List ℕ) (count : ℕ) → number_of ≡ world.table_of → count ≡ length world.tables → (number : ℕ) → number < count → (u : ℕ) × (u < length number_of) × (slice_index number_of u ≡ number)
  some_namer number_of count numbers_are count_is number below =
      let (u, within, names) = is.holds.tables.named number (omega arith) in
      let size : length world.table_of ≡ length is.r.links.units = is.holds.tables.count in
      subst (λ (z : List ℕ). (u : ℕ) × (u < length z) × (slice_index z u ≡ number)) (sym numbers_are) (u, omega arith, names)

-- BOTH FILES

-- files that mean the same have as many units
pub as_many_units : (a b : World) (reach other : Reach) → IsWorldOf a.image reach a → IsWorldOf b.image other b → Same a.image b.image → length b.table_of ≡ length a.table_of
as_many_units a b reach other is again same =
    let (debug, (r, read, means), (s, read_again, means_again)) = same.debug in
    let one : length debug.units ≡ length is.r.links.units = means.units.count ∙ ap (λ (z : Reading). length z.links.units) (reading_once a.image r is.r read is.read) in
    let two : length debug.units ≡ length again.r.links.units = means_again.units.count ∙ ap (λ (z : Reading). length z.links.units) (reading_once b.image s again.r read_again again.read) in
    again.holds.tables.count ∙ sym two ∙ one ∙ sym is.holds.tables.count

module _ (a b : World) (r s : Reading) (old : AreTablesOf r.links.units a.tables a.table_of) (new : AreTablesOf s.links.units b.tables b.table_of) (same_count : length b.table_of ≡ length a.table_of) (written : List ℕ) (are : AreWrittenAs a.table_of b.table_of (length a.tables) written) where
  pub elsewhere_least : (tables : List NamedTable) (old_of new_of : List ℕ) → tables ≡ b.tables → old_of ≡ a.table_of → new_of ≡ b.table_of → (early inside further later least : Option ℕ) → IsLeastFound (IsAmong (IsBelowEarlier written) (λ k. place_in tables (slice_index written k)) (length written)) early → IsLeastFound (IsAmong (IsInEarlier tables) (place_in tables) (length tables)) inside → IsLeastFound (IsAmong (NamesOther written old_of new_of) (λ u. place_in tables (slice_index new_of u)) (length new_of)) further → later ≡ lesser_of inside further → least ≡ lesser_of early later → IsLeastFound (λ q. IsTooEarly r.links s.links q ⊎ (IsInside s.links q ⊎ IsFurther r.links s.links q)) least
  elsewhere_least tables old_of new_of tables_are old_are new_are early inside further later least of_early of_inside of_further later_is least_is =
      let one : IsLeastFound (IsTooEarly r.links s.links) early = least_same (IsAmong (IsBelowEarlier written) (λ k. place_in b.tables (slice_index written k)) (length written)) (IsTooEarly r.links s.links) early (early_to a b r s old new same_count written are) (early_from a b r s old new same_count written are) (subst (λ (z : List NamedTable). IsLeastFound (IsAmong (IsBelowEarlier written) (λ k. place_in z (slice_index written k)) (length written)) early) tables_are of_early) in
      let two : IsLeastFound (IsInside s.links) inside = least_same (IsAmong (IsInEarlier b.tables) (place_in b.tables) (length b.tables)) (IsInside s.links) inside (inside_to a b r s old new same_count written are) (inside_from a b r s old new same_count written are) (subst (λ (z : List NamedTable). IsLeastFound (IsAmong (IsInEarlier z) (place_in z) (length z)) inside) tables_are of_inside) in
      let by_tables : IsLeastFound (IsAmong (NamesOther written old_of new_of) (λ u. place_in b.tables (slice_index new_of u)) (length new_of)) further = subst (λ (z : List NamedTable). IsLeastFound (IsAmong (NamesOther written old_of new_of) (λ u. place_in z (slice_index new_of u)) (length new_of)) further) tables_are of_further in
      let by_old : IsLeastFound (IsAmong (NamesOther written a.table_of new_of) (λ u. place_in b.tables (slice_index new_of u)) (length new_of)) further = subst (λ (z : List ℕ). IsLeastFound (IsAmong (NamesOther written z new_of) (λ u. place_in b.tables (slice_index new_of u)) (length new_of)) further) old_are by_tables in
      let three : IsLeastFound (IsFurther r.links s.links) further = least_same (IsAmong (NamesOther written a.table_of b.table_of) (λ u. place_in b.tables (slice_index b.table_of u)) (length b.table_of)) (IsFurther r.links s.links) further (further_to a b r s old new same_count written are) (further_from a b r s old new same_count written are) (subst (λ (z : List ℕ). IsLeastFound (IsAmong (NamesOther written a.table_of z) (λ u. place_in b.tables (slice_index z u)) (length z)) further) new_are by_old) in
      let both = least_either (IsInside s.links) (IsFurther r.links s.links) inside further two three in
      let all = least_either (IsTooEarly r.links s.links) (λ q. IsInside s.links q ⊎ IsFurther r.links s.links q) early (lesser_of inside further) one both in
      subst (IsLeastFound (λ q. IsTooEarly r.links s.links q ⊎ (IsInside s.links q ⊎ IsFurther r.links s.links q))) (ap (lesser_of early) (sym later_is) ∙ sym least_is) all

  module _ (old_units : a.units ≡ map head_and_forest r.links.units) (new_units : b.units ≡ map head_and_forest s.links.units) (stand : AreTables b.tables) (old_uses new_uses : List Uses) (old_counted : AreCounted a.units a.tables old_uses) (new_counted : AreCounted b.units b.tables new_uses) where
    pub otherwise_least : (old_tables new_tables new_again : List NamedTable) → old_tables ≡ a.tables → new_tables ≡ b.tables → new_again ≡ b.tables → (other wasteful least : Option ℕ) → IsLeastFound (IsAmong (IsWrittenOtherwise old_tables old_uses written new_tables) (λ k. place_in new_tables (slice_index written k)) (length written)) other → IsLeastFound (IsAmong (IsWasteful new_again new_uses) (place_in new_again) (length new_again)) wasteful → least ≡ lesser_of other wasteful → IsLeastFound (λ q. HasUnused s.links q ⊎ (HasOthers r.links s.links q ⊎ HasMoreBytes s.links q)) least
    otherwise_least old_tables new_tables new_again old_are new_are again_are other wasteful least of_other of_wasteful least_is =
        let by_old : IsLeastFound (IsAmong (IsWrittenOtherwise a.tables old_uses written new_tables) (λ k. place_in new_tables (slice_index written k)) (length written)) other = subst (λ (z : List NamedTable). IsLeastFound (IsAmong (IsWrittenOtherwise z old_uses written new_tables) (λ k. place_in new_tables (slice_index written k)) (length written)) other) old_are of_other in
        let Other : ℕ → Type 0 = IsAmong (IsWrittenOtherwise a.tables old_uses written b.tables) (λ k. place_in b.tables (slice_index written k)) (length written) in
        let Wasteful : ℕ → Type 0 = IsAmong (IsWasteful b.tables new_uses) (place_in b.tables) (length b.tables) in
        let one : IsLeastFound Other other = subst (λ (z : List NamedTable). IsLeastFound (IsAmong (IsWrittenOtherwise a.tables old_uses written z) (λ k. place_in z (slice_index written k)) (length written)) other) new_are by_old in
        let two : IsLeastFound Wasteful wasteful = subst (λ (z : List NamedTable). IsLeastFound (IsAmong (IsWasteful z new_uses) (place_in z) (length z)) wasteful) again_are of_wasteful in
        let all : IsLeastFound (λ q. HasUnused s.links q ⊎ (HasOthers r.links s.links q ⊎ HasMoreBytes s.links q)) (lesser_of other wasteful) = least_same (λ q. Other q ⊎ Wasteful q) (λ q. HasUnused s.links q ⊎ (HasOthers r.links s.links q ⊎ HasMoreBytes s.links q)) (lesser_of other wasteful)
        (λ q amiss. elim amiss [
          | inl has ↦ inr (inl (other_to a b r s old new same_count written are old_units old_uses old_counted q has))
          | inr has ↦ inr (inr (wasteful_to b s new new_units new_uses new_counted q has))
        ])
        (λ q amiss. elim amiss [
          | inl unused ↦ inr (wasteful_unused b s new new_units new_uses new_counted stand q unused)
          | inr rest ↦ elim rest [
            | inl has ↦ inl (other_from a b r s old new same_count written are old_units old_uses old_counted q has)
            | inr has ↦ inr (wasteful_from b s new new_units new_uses new_counted q has)
          ]
        ])
        (least_either Other Wasteful other wasteful one two) in
        subst (IsLeastFound (λ q. HasUnused s.links q ⊎ (HasOthers r.links s.links q ⊎ HasMoreBytes s.links q))) (sym least_is) all

-- all that may be amiss
pub untidy_least : (r s : Reading) (elsewhere otherwise least : Option ℕ) → IsLeastFound (λ q. IsTooEarly r.links s.links q ⊎ (IsInside s.links q ⊎ IsFurther r.links s.links q)) elsewhere → IsLeastFound (λ q. HasUnused s.links q ⊎ (HasOthers r.links s.links q ⊎ HasMoreBytes s.links q)) otherwise → least ≡ lesser_of elsewhere otherwise → IsLeastFound (IsUntidyTable r.links s.links) least
untidy_least r s elsewhere otherwise least first second least_is =
    let all : IsLeastFound (IsUntidyTable r.links s.links) (lesser_of elsewhere otherwise) = least_same (λ q. (IsTooEarly r.links s.links q ⊎ (IsInside s.links q ⊎ IsFurther r.links s.links q)) ⊎ (HasUnused s.links q ⊎ (HasOthers r.links s.links q ⊎ HasMoreBytes s.links q))) (IsUntidyTable r.links s.links) (lesser_of elsewhere otherwise)
    (λ q amiss. elim amiss [
      | inl place ↦ elim place [
        | inl early ↦ inl early
        | inr more ↦ elim more [
          | inl inside ↦ inr (inl inside)
          | inr further ↦ inr (inr (inl further))
        ]
      ]
      | inr declared ↦ inr (inr (inr declared))
    ])
    (λ q amiss. elim amiss [
      | inl early ↦ inl (inl early)
      | inr more ↦ elim more [
        | inl inside ↦ inl (inr (inl inside))
        | inr rest ↦ elim rest [
          | inl further ↦ inl (inr (inr further))
          | inr declared ↦ inr declared
        ]
      ]
    ])
    (least_either (λ q. IsTooEarly r.links s.links q ⊎ (IsInside s.links q ⊎ IsFurther r.links s.links q)) (λ q. HasUnused s.links q ⊎ (HasOthers r.links s.links q ⊎ HasMoreBytes s.links q)) elsewhere otherwise first second) in
    subst (IsLeastFound (IsUntidyTable r.links s.links)) (sym least_is) all
