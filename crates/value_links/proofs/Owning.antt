-- The entry that has a value is found by where the values of entries begin.
use Rattle.std.proofs.Common.{◌≡◌, ◌≤◌, ◌<◌, ◌+◌, ◌-◌, inl, inr, ℕ, List, [], length, get_or, ap, arith, leb, true, false}
use Rattle.std.specs.List.Sorted.{IsNonDecreasingBy, IsPartitionPoint}
use Rattle.std.proofs.lemmas.List.Sorted.{IsNonDecreasingBy-from_all_adjacent}
use Rattle.std.proofs.lemmas.Bool.{cases_lt}
use Rattle.std.proofs.lemmas.List.{get_or_default}
use Rattle.std.proofs.lemmas.Bool.Decides.{nat_tests}
use Rattle.abbrev_tables.specs.Tables.{Declared}
use Rattle.entry_arena.specs.declared.entry.Entry.{Entry}
use Rattle.entry_arena.specs.Arena.{Arena, entry_at}
use Rattle.entry_read.specs.Places.{HaveOwners}
use Rattle.value_links.specs.inside.Owners.{IsOwner}

module _ (ds : List Declared) (f : Arena) (owned : HaveOwners ds f) where
  -- where the values of entries begin never falls
  pub firsts_rise : IsNonDecreasingBy (λ (e : Entry). e.first) f.entries
  firsts_rise = IsNonDecreasingBy-from_all_adjacent (λ (e : Entry). e.first) f.entries next
    where
      next : (k : ℕ) (d : Entry) → k + 1 < length f.entries → (get_or f.entries k d).first ≤ (get_or f.entries (k + 1) d).first
      next k d inside =
          let here : get_or f.entries k d ≡ entry_at f.entries k = get_or_default f.entries k d (entry_at [] 0) (omega arith) in
          let after : get_or f.entries (k + 1) d ≡ entry_at f.entries (k + 1) = get_or_default f.entries (k + 1) d (entry_at [] 0) inside in
          omega (arith, ap (λ (e : Entry). e.first) here, ap (λ (e : Entry). e.first) after, owned.adjacent k inside)

  apart : (a b value : ℕ) → a < b → IsOwner f.entries a value → IsOwner f.entries b value → ⊥
  apart a b value less p q =
      let known : b < length f.entries = q.known in
      let to : value < (entry_at f.entries a).first + (entry_at f.entries a).count = p.to in
      let from : (entry_at f.entries b).first ≤ value = q.from in
      let next : (entry_at f.entries (a + 1)).first ≡ (entry_at f.entries a).first + (entry_at f.entries a).count = owned.adjacent a (omega arith) in
      let rise : (entry_at f.entries (a + 1)).first ≤ (entry_at f.entries b).first = firsts_rise (a + 1) b (entry_at [] 0) (omega arith) known in
      omega arith

  -- one entry has the value with a number
  pub owner_once : (a b value : ℕ) → IsOwner f.entries a value → IsOwner f.entries b value → a ≡ b
  owner_once a b value p q = elim (cases_lt a b) [
    | inl less ↦ absurd (apart a b value less p q)
    | inr rest ↦ elim (cases_lt b a) [
      | inl less ↦ absurd (apart b a value less q p)
      | inr more ↦ omega arith
    ]
  ]

  module _ (value p : ℕ) (inside : value < length f.values) (point : IsPartitionPoint (λ (e : Entry). leb e.first value ≡ true) (λ (e : Entry). leb e.first value ≡ false) f.entries p) (bound : p ≤ length f.entries) where
    -- the first entry's values begin at 0
    pub some_before : 1 ≤ p
    some_before = elim (cases_lt 0 p) [
      | inl some ↦ omega arith
      | inr none ↦
          let owner = owned.owned value inside in
          let entries : 0 < length f.entries = omega (arith, owner.1) in
          let past : leb (entry_at f.entries 0).first value ≡ false = point.1 0 (entry_at [] 0) (omega arith) entries in
          let first : (entry_at f.entries 0).first ≡ 0 = owned.first in
          let beyond : value < (entry_at f.entries 0).first = grind (arith, nat_tests) in
          omega arith
    ]

    before_next : value < (entry_at f.entries (p - 1)).first + (entry_at f.entries (p - 1)).count
    before_next = elim (cases_lt p (length f.entries)) [
      | inl more ↦
          let past : leb (entry_at f.entries p).first value ≡ false = point.1 p (entry_at [] 0) (omega arith) more in
          let beyond : value < (entry_at f.entries p).first = grind (arith, nat_tests) in
          let some = some_before in
          let same : p - 1 + 1 ≡ p = omega arith in
          let next : (entry_at f.entries (p - 1 + 1)).first ≡ (entry_at f.entries (p - 1)).first + (entry_at f.entries (p - 1)).count = owned.adjacent (p - 1) (omega arith) in
          omega (arith, ap (λ (i : ℕ). (entry_at f.entries i).first) same)
      | inr all ↦
          let some = some_before in
          let last : (entry_at f.entries (p - 1)).first + (entry_at f.entries (p - 1)).count ≡ length f.values = owned.last (p - 1) (omega arith) in
          omega arith
    ]

    -- the last entry whose values begin by a number has the value with this number
    pub owner_is : IsOwner f.entries (p - 1) value
    owner_is =
        let some = some_before in
        let here : leb (entry_at f.entries (p - 1)).first value ≡ true = point.0 (p - 1) (entry_at [] 0) (omega arith) (omega arith) in
        let from : (entry_at f.entries (p - 1)).first ≤ value = grind (arith, nat_tests) in
        record { known = omega arith; from = from; to = before_next }
