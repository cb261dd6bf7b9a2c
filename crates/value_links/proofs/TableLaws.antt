-- The places of tables that units name, and the numbers of tables.
use Rattle.std.proofs.Common.{◌≡◌, ◌<◌, ◌+◌, ◌∙◌, ◌++◌, eqb, ℕ, List, [], ◌∷◌, length, get_or, take, sym, ap, subst, add-one, arith}
use Rattle.std.specs.List.{Contains, dedup}
use Rattle.std.specs.List.Sorted.{IsPermutation, IsSorted, IsStrictlyIncreasing}
use Rattle.std.specs.List.Retain.{IsFiltered, DiffersFromLast}
use Rattle.std.specs.Ordering.{nat_cmp}
use Rattle.std.proofs.Math.Seq.{take-suc}
use Rattle.std.proofs.lemmas.List.{get_or-map, length-map, map-append}
use Rattle.std.proofs.lemmas.List.Filters.{dedup_is}
use Rattle.std.proofs.lemmas.List.Kept.{Contains-dedup_nat, Contains-from_dedup, AllPairs-from_increasing}
use Rattle.std.proofs.lemmas.List.Sorted.{Contains-permutation, IsPermutation-sym}
use Rattle.std.proofs.lemmas.Map.Keys.{IsStrictlyIncreasing-dedup}
use Rattle.entry_read.specs.declared.head.UnitHead.{UnitHead}
use Rattle.value_links.specs.declared.units.NamedTable.{NamedTable}
use Rattle.value_links.specs.inside.Tabled.{AreTablePlaces, named_places, places_of}

-- the places after a sort, without those that stand twice
pub places_are : (heads : List UnitHead) (made sorted kept : List ℕ) → made ≡ named_places heads → IsPermutation made sorted → IsSorted nat_cmp sorted → IsFiltered (DiffersFromLast eqb) [] sorted kept → AreTablePlaces heads kept
places_are heads made sorted kept all moved order filtered =
    let left : kept ≡ dedup eqb sorted = dedup_is eqb sorted kept filtered in
    record {
      rising = subst IsStrictlyIncreasing (sym left) (IsStrictlyIncreasing-dedup sorted order);
      each = λ place c. subst (λ (z : List ℕ). Contains z place) (sym left) (Contains-dedup_nat sorted place (Contains-permutation made sorted place moved (subst (λ (z : List ℕ). Contains z place) (sym all) c)));
      named = λ place c. subst (λ (z : List ℕ). Contains z place) all (Contains-permutation sorted made place (IsPermutation-sym made sorted moved) (Contains-from_dedup eqb sorted place (subst (λ (z : List ℕ). Contains z place) left c)));
    }

-- places that rise
pub places_rise : (places : List ℕ) → IsStrictlyIncreasing places → (i j : ℕ) → i < j → j < length places → get_or places i 0 < get_or places j 0
places_rise places rising i j less inside = AllPairs-from_increasing places rising i j 0 less inside

-- a header of a unit names one of the places
pub place_known : (heads : List UnitHead) (places : List ℕ) (u : ℕ) (d : UnitHead) → AreTablePlaces heads places → u < length heads → Contains places ((get_or heads u d).table)
place_known heads places u d are inside =
    let size : length (named_places heads) ≡ length heads = length-map heads (λ (head : UnitHead). head.table) in
    are.each ((get_or heads u d).table) (u, omega arith, get_or-map (λ (head : UnitHead). head.table) heads u d ((get_or heads u d).table) inside)

-- TABLES, ONE MORE

pub places_push : (tables : List NamedTable) (new : List NamedTable) (table : NamedTable) (places : List ℕ) (i : ℕ) → new ≡ tables ++ table ∷ [] → places_of tables ≡ take i places → i < length places → table.place ≡ get_or places i 0 → places_of new ≡ take (i + 1) places
places_push tables new table places i put front inside place =
    ap places_of put ∙ map-append (λ (t : NamedTable). t.place) tables (table ∷ []) ∙ ap (λ z. z ++ table.place ∷ []) front ∙ ap (λ z. take i places ++ z ∷ []) place ∙ sym (take-suc places i 0 inside) ∙ ap (λ z. take z places) (sym (add-one i))
