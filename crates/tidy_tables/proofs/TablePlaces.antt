-- Tables that stand too early, inside others, or once more: the steps of the walks that look for them.
use Rattle.std.proofs.Common.{◌≡◌, ◌≢◌, ◌≤◌, ◌<◌, ◌+◌, inl, inr, ℕ, List, [], length, get_or, max, sym, ◌∙◌, ap, subst, arith}
use Rattle.std.specs.Prelude.{Option, Some, None, slice_index}
use Rattle.std.proofs.lemmas.Bool.{cases_lt}
use Rattle.std.proofs.lemmas.List.{get_or_read}
use Rattle.tidy_places.specs.Firsts.{IsLeastFound}
use Rattle.value_links.specs.declared.units.NamedTable.{NamedTable}
use Rattle.value_links.specs.World.{table_at}
use Rattle.tidy_tables.specs.inside.Marked.{IsAmong, IsGreatestOf, lesser_of}
use Rattle.tidy_tables.specs.inside.WrittenTables.{place_in, AreNumbersOf, AreByPlace, IsBelowEarlier, IsInEarlier, NamesOther}
use Rattle.tidy_tables.proofs.LeastPlaces.{among_fine, among_more, among_first, among_no, greatest_more, below_some, below_none}

-- a table that is looked up is the one with its number
pub table_there : (tables : List NamedTable) (number : ℕ) (table : NamedTable) → number < length tables → table ≡ get_or tables number table → table ≡ table_at tables number
table_there tables number table inside is = get_or_read tables number table inside is (record { place = 0; table = record { decls = []; specs = []; end = 0 } })

module _ (written : List ℕ) (tables : List NamedTable) where
  abbrev spot : ℕ → ℕ
  spot k = place_in tables (slice_index written k)

  pub early_more : AreNumbersOf tables written → (items : List ℕ) (k greatest : ℕ) (table : NamedTable) (found now least : Option ℕ) → items ≡ written → k < length items → IsLeastFound (IsAmong (IsBelowEarlier written) spot k) found → IsGreatestOf (λ i. slice_index written i) k greatest → get_or items k 0 < greatest → table ≡ get_or tables (get_or items k 0) table → now ≡ lesser_of found (Some table.place) → least ≡ now → IsLeastFound (IsAmong (IsBelowEarlier written) spot (k + 1)) least
  early_more numbers items k greatest table found now least same inside is top below table_is now_is least_is =
      let known : k < length written = subst (λ (z : List ℕ). k < length z) same inside in
      let number : get_or items k 0 ≡ slice_index written k = ap (λ (z : List ℕ). get_or z k 0) same in
      let table_is' : table ≡ get_or tables (slice_index written k) table = subst (λ (z : ℕ). table ≡ get_or tables z table) number table_is in
      let there : table ≡ table_at tables (slice_index written k) = table_there tables (slice_index written k) table (numbers k known) table_is' in
      let place : table.place ≡ spot k = ap (λ (z : NamedTable). z.place) there in
      let amiss : IsBelowEarlier written k = below_some (λ i. slice_index written i) k greatest (slice_index written k) top (omega arith) in
      let more = among_more (IsBelowEarlier written) spot k found is amiss in
      let final : lesser_of found (Some (spot k)) ≡ least = sym (least_is ∙ now_is ∙ ap (λ (z : ℕ). lesser_of found (Some z)) place) in
      subst (IsLeastFound (IsAmong (IsBelowEarlier written) spot (k + 1))) final more

  pub early_fine : (items : List ℕ) (k greatest : ℕ) (found least : Option ℕ) → items ≡ written → IsLeastFound (IsAmong (IsBelowEarlier written) spot k) found → IsGreatestOf (λ i. slice_index written i) k greatest → greatest ≤ get_or items k 0 → least ≡ found → IsLeastFound (IsAmong (IsBelowEarlier written) spot (k + 1)) least
  early_fine items k greatest found least same is top above least_is =
      let number : get_or items k 0 ≡ slice_index written k = ap (λ (z : List ℕ). get_or z k 0) same in
      let fine : IsBelowEarlier written k → ⊥ = below_none (λ i. slice_index written i) k greatest (slice_index written k) top (omega arith) in
      subst (IsLeastFound (IsAmong (IsBelowEarlier written) spot (k + 1))) (sym least_is) (among_fine (IsBelowEarlier written) spot k found is fine)

  pub early_greatest : (items : List ℕ) (k greatest now : ℕ) → items ≡ written → IsGreatestOf (λ i. slice_index written i) k greatest → now ≡ max greatest (get_or items k 0) → IsGreatestOf (λ i. slice_index written i) (k + 1) now
  early_greatest items k greatest now same top now_is =
      subst (IsGreatestOf (λ i. slice_index written i) (k + 1)) (sym now_is) (greatest_more (λ i. slice_index written i) k greatest (get_or items k 0) top (ap (λ (z : List ℕ). get_or z k 0) same))

-- after the last one
pub among_all : (Amiss : ℕ → Type 0) (place : ℕ → ℕ) (k count : ℕ) (found : Option ℕ) → k ≡ count → IsLeastFound (IsAmong Amiss place k) found → IsLeastFound (IsAmong Amiss place count) found
among_all Amiss place k count found same is = subst (λ (z : ℕ). IsLeastFound (IsAmong Amiss place z) found) same is

module _ (tables : List NamedTable) (rising : AreByPlace tables) (items : List NamedTable) (same : items ≡ tables) (k : ℕ) (inside : k < length items) (named : NamedTable) (named_is : named ≡ get_or items k named) where
  known : k < length tables
  known = subst (λ (z : List NamedTable). k < length z) same inside

  there : named ≡ table_at tables k
  there = table_there tables k named known (subst (λ (z : List NamedTable). named ≡ get_or z k named) same named_is)

  place : named.place ≡ place_in tables k
  place = ap (λ (z : NamedTable). z.place) there

  -- the first table that begins before the end of an earlier one
  pub inside_found : (end : ℕ) → ((i : ℕ) → i < k → IsInEarlier tables i → ⊥) → IsGreatestOf (λ i. (table_at tables i).table.end) k end → named.place < end → IsLeastFound (IsAmong (IsInEarlier tables) (place_in tables) (length tables)) (Some named.place)
  inside_found end fine top below =
      let here = place in
      let amiss : IsInEarlier tables k = below_some (λ i. (table_at tables i).table.end) k end (place_in tables k) top (omega arith) in
      subst (λ (z : ℕ). IsLeastFound (IsAmong (IsInEarlier tables) (place_in tables) (length tables)) (Some z)) (sym here)
      (among_first (IsInEarlier tables) (place_in tables) k (length tables) known fine (λ i later within. rising k i later within) amiss)

  pub inside_fine : (end : ℕ) → ((i : ℕ) → i < k → IsInEarlier tables i → ⊥) → IsGreatestOf (λ i. (table_at tables i).table.end) k end → end ≤ named.place → (i : ℕ) → i < k + 1 → IsInEarlier tables i → ⊥
  inside_fine end fine top above i below amiss = elim (cases_lt i k) [
    | inl earlier ↦ fine i earlier amiss
    | inr late ↦
        let here = place in
        let this : i ≡ k = omega arith in
        below_none (λ i. (table_at tables i).table.end) k end (place_in tables k) top (omega arith) (subst (IsInEarlier tables) this amiss)
  ]

  pub inside_greatest : (end own now : ℕ) → IsGreatestOf (λ i. (table_at tables i).table.end) k end → own ≡ named.table.end → now ≡ max end own → IsGreatestOf (λ i. (table_at tables i).table.end) (k + 1) now
  inside_greatest end own now top own_is now_is =
      subst (IsGreatestOf (λ i. (table_at tables i).table.end) (k + 1)) (sym now_is) (greatest_more (λ i. (table_at tables i).table.end) k end own top (own_is ∙ ap (λ (z : NamedTable). z.table.end) there))

pub inside_none : (tables : List NamedTable) (k : ℕ) → k ≡ length tables → ((i : ℕ) → i < k → IsInEarlier tables i → ⊥) → IsLeastFound (IsAmong (IsInEarlier tables) (place_in tables) (length tables)) None
inside_none tables k same fine = among_no (IsInEarlier tables) (place_in tables) (length tables) (λ i below. fine i (omega arith))

module _ (written old_of new_of : List ℕ) (tables : List NamedTable) where
  abbrev seat : ℕ → ℕ
  seat u = place_in tables (slice_index new_of u)

  pub further_more : AreNumbersOf tables new_of → (u as_number number : ℕ) (table : NamedTable) (found now least : Option ℕ) → u < length new_of → as_number ≡ slice_index written (slice_index old_of u) → number ≡ slice_index new_of u → IsLeastFound (IsAmong (NamesOther written old_of new_of) seat u) found → as_number ≢ number → table ≡ get_or tables number table → now ≡ lesser_of found (Some table.place) → least ≡ now → IsLeastFound (IsAmong (NamesOther written old_of new_of) seat (u + 1)) least
  further_more numbers u as_number number table found now least inside as_is number_is is other table_is now_is least_is =
      let table_is' : table ≡ get_or tables (slice_index new_of u) table = subst (λ (z : ℕ). table ≡ get_or tables z table) number_is table_is in
      let there : table ≡ table_at tables (slice_index new_of u) = table_there tables (slice_index new_of u) table (numbers u inside) table_is' in
      let place : table.place ≡ seat u = ap (λ (z : NamedTable). z.place) there in
      let amiss : NamesOther written old_of new_of u = λ same. other (as_is ∙ same ∙ sym number_is) in
      let more = among_more (NamesOther written old_of new_of) seat u found is amiss in
      let final : lesser_of found (Some (seat u)) ≡ least = sym (least_is ∙ now_is ∙ ap (λ (z : ℕ). lesser_of found (Some z)) place) in
      subst (IsLeastFound (IsAmong (NamesOther written old_of new_of) seat (u + 1))) final more

  pub further_fine : (u as_number number : ℕ) (found least : Option ℕ) → as_number ≡ slice_index written (slice_index old_of u) → number ≡ slice_index new_of u → IsLeastFound (IsAmong (NamesOther written old_of new_of) seat u) found → as_number ≡ number → least ≡ found → IsLeastFound (IsAmong (NamesOther written old_of new_of) seat (u + 1)) least
  further_fine u as_number number found least as_is number_is is same least_is =
      let fine : NamesOther written old_of new_of u → ⊥ = λ amiss. amiss (sym as_is ∙ same ∙ number_is) in
      subst (IsLeastFound (IsAmong (NamesOther written old_of new_of) seat (u + 1))) (sym least_is) (among_fine (NamesOther written old_of new_of) seat u found is fine)

-- a number that is looked up
pub number_there : (numbers : List ℕ) (k number : ℕ) → k < length numbers → number ≡ get_or numbers k number → number ≡ slice_index numbers k
number_there numbers k number inside is = get_or_read numbers k number inside is 0

-- the number of the written table of a unit's old table, as it is looked up
pub written_there : (written old_of : List ℕ) (u number as_number : ℕ) → u < length old_of → slice_index old_of u < length written → number ≡ get_or old_of u number → as_number ≡ get_or written number as_number → as_number ≡ slice_index written (slice_index old_of u)
written_there written old_of u number as_number inside known number_is as_is =
    let there : number ≡ slice_index old_of u = number_there old_of u number inside number_is in
    number_there written (slice_index old_of u) as_number known (subst (λ (z : ℕ). as_number ≡ get_or written z as_number) there as_is)
