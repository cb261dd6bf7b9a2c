-- Tables by their numbers in place of their places.
use Rattle.std.proofs.Common.{◌≡◌, ◌<◌, inl, inr, ◌∙◌, ℕ, List, length, sym, ap, arith}
use Rattle.std.specs.Prelude.{slice_index}
use Rattle.std.proofs.lemmas.Bool.{cases_order}
use Rattle.value_links.specs.declared.units.NamedTable.{NamedTable}
use Rattle.value_links.specs.Reading.{UnitRead, unit_among}
use Rattle.value_links.specs.Same.{Same}
use Rattle.value_links.specs.World.{World, IsWorldOf, AreTablesOf, table_at}
use Rattle.dw_base.specs.declared.fault.Reach.{Reach}
use Rattle.tidy_tables.proofs.SameUnits.{same_units}

module _ (units : List UnitRead) (tables : List NamedTable) (table_of : List ℕ) (are : AreTablesOf units tables table_of) where
  pub place_is : (u : ℕ) → u < length units → (unit_among units u).head.table ≡ (table_at tables (slice_index table_of u)).place
  place_is u inside = sym (ap (λ (t : NamedTable). t.place) (are.each u inside))

  pub same_place : (u v : ℕ) → u < length units → v < length units → slice_index table_of u ≡ slice_index table_of v → (unit_among units u).head.table ≡ (unit_among units v).head.table
  same_place u v inside known same = place_is u inside ∙ ap (λ (z : ℕ). (table_at tables z).place) same ∙ sym (place_is v known)

  pub same_number : (u v : ℕ) → u < length units → v < length units → (unit_among units u).head.table ≡ (unit_among units v).head.table → slice_index table_of u ≡ slice_index table_of v
  same_number u v inside known same =
      let here : (table_at tables (slice_index table_of u)).place ≡ (table_at tables (slice_index table_of v)).place = sym (place_is u inside) ∙ same ∙ place_is v known in
      elim (cases_order (slice_index table_of u) (slice_index table_of v)) [
        | inl equal ↦ equal
        | inr (inl less) ↦ let rises = are.rising (slice_index table_of u) (slice_index table_of v) less (are.inside v known) in absurd (omega arith)
        | inr (inr more) ↦ let rises = are.rising (slice_index table_of v) (slice_index table_of u) more (are.inside u inside) in absurd (omega arith)
      ]

-- THE TABLES OF A WORLD

-- each unit has a table's number
pub numbered : (world : World) → (reach : Reach) × IsWorldOf world.image reach world → (u : ℕ) → u < length world.table_of → slice_index world.table_of u < length world.tables
numbered world (reach, is) u inside = is.holds.tables.inside u (let count = is.holds.tables.count in omega arith)

-- and there are as many of both files
pub numbers_same : (a b : World) → (reach : Reach) × IsWorldOf a.image reach a → (reach : Reach) × IsWorldOf b.image reach b → Same a.image b.image → length a.table_of ≡ length b.table_of
numbers_same a b (_, is) (_, also) same = is.holds.tables.count ∙ same_units a.image b.image same.debug is.r also.r is.read also.read ∙ sym also.holds.tables.count
