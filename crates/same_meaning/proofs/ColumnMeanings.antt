-- The attributes of entries that are held, by the numbers of their columns.
use Rattle.std.proofs.Common.{◌≡◌, ◌<◌, ◌+◌, ℕ, length, sym, ap, subst, arith}
use Rattle.std.specs.Prelude.{◌↔◌}
use Rattle.form_codec.specs.Values.{meant_in}
use Rattle.entry_arena.specs.declared.entry.Entry.{Entry}
use Rattle.entry_arena.specs.Arena.{entry_at, value_at}
use Rattle.entry_read.specs.Units.{HeadAndForest}
use Rattle.value_links.specs.Sections.{debug_info, debug_abbrev}
use Rattle.value_links.specs.Reading.{Reading, unit_at, IsUnitRead}
use Rattle.value_links.specs.Values.{entry_of, HasValueAt}
use Rattle.value_links.specs.Whole.{IsReading}
use Rattle.value_links.specs.Links.{held_at}
use Rattle.value_links.specs.World.{World, Holds}
use Rattle.same_meaning.specs.inside.Compared.{MeanOne, MeansValue, StandsIn}
use Rattle.same_meaning.specs.inside.Values.{entry_held, MeansColumn, IsNamedColumn}
use Rattle.same_meaning.proofs.ReadUnits.{held_unit, held_count, unit_read}
use Rattle.same_meaning.proofs.EntryColumns.{columns_count, column_stands}
use Rattle.same_meaning.proofs.EntryMeanings.{column_same}

module _ (world : World) (r : Reading) (u id : ℕ) (read : IsReading world.image r) (holds : Holds world.image world r) (inside : u < length world.units) (known : id < length (held_at world.units u).forest.entries) where
  pub within : u < length r.links.units
  within = let size : length world.units ≡ length r.links.units = held_count world r holds in omega arith

  pub is : IsUnitRead (debug_info world.image) (debug_abbrev world.image) (unit_at r.links u)
  is = unit_read world.image r u read within

  pub entry_known : id < length (unit_at r.links u).forest.entries
  entry_known = subst (λ (h : HeadAndForest). id < length h.forest.entries) (held_unit world r u holds) known

  pub entry_is : entry_held world u id ≡ entry_of (unit_at r.links u) id
  entry_is = ap (λ (h : HeadAndForest). entry_at h.forest.entries id) (held_unit world r u holds)

  pub column_read : (column name : ℕ) → IsNamedColumn r u id column name → column < (entry_of (unit_at r.links u) id).count
  column_read column name named = subst (λ (n : ℕ). column < n) (columns_count (debug_info world.image) (debug_abbrev world.image) (unit_at r.links u) is id entry_known) named.inside

  pub column_held : (column name : ℕ) → IsNamedColumn r u id column name → column < (entry_held world u id).count
  column_held column name named = subst (λ (e : Entry). column < e.count) (sym entry_is) (column_read column name named)

  pub stands_held : (column name : ℕ) → IsNamedColumn r u id column name → StandsIn r u id name ((entry_held world u id).first + column)
  stands_held column name named =
      let (place, has) = column_stands (debug_info world.image) (debug_abbrev world.image) (unit_at r.links u) is id entry_known column (column_read column name named) in
      let mine : StandsIn r u id name ((entry_of (unit_at r.links u) id).first + column) = (within, (_, place, subst (λ (n : ℕ). HasValueAt (unit_at r.links u) id ((entry_of (unit_at r.links u) id).first + column) n (meant_in (unit_at r.links u).forest.section (value_at (unit_at r.links u).forest.values ((entry_of (unit_at r.links u) id).first + column))) place) named.name_is has)) in
      subst (λ (e : Entry). StandsIn r u id name (e.first + column)) (sym entry_is) mine

pub columns_mean : (a b : World) (r s : Reading) (u id column name : ℕ) → IsReading a.image r → Holds a.image a r → IsReading b.image s → Holds b.image b s → u < length a.units → u < length b.units → id < length (held_at a.units u).forest.entries → id < length (held_at b.units u).forest.entries → IsNamedColumn r u id column name → IsNamedColumn s u id column name → MeanOne (MeansValue r u id name ((entry_held a u id).first + column)) (MeansValue s u id name ((entry_held b u id).first + column)) ↔ MeanOne (MeansColumn r u id column) (MeansColumn s u id column)
columns_mean a b r s u id column name read holds also held u_in u_there known there first second =
    let same = column_same (debug_info a.image) (debug_info b.image) (debug_abbrev a.image) (debug_abbrev b.image) r s u id (is a r u id read holds u_in known) (is b s u id also held u_there there) (entry_known a r u id read holds u_in known) (entry_known b s u id also held u_there there) column name (column_read a r u id read holds u_in known column name first) (column_read b s u id also held u_there there column name second) first.name_is second.name_is in
    let mine = subst (λ (e : Entry). MeanOne (MeansValue r u id name (e.first + column)) (MeansValue s u id name ((entry_of (unit_at s.links u) id).first + column)) ↔ MeanOne (MeansColumn r u id column) (MeansColumn s u id column)) (sym (entry_is a r u id read holds u_in known)) same in
    subst (λ (e : Entry). MeanOne (MeansValue r u id name ((entry_held a u id).first + column)) (MeansValue s u id name (e.first + column)) ↔ MeanOne (MeansColumn r u id column) (MeansColumn s u id column)) (sym (entry_is b s u id also held u_there there)) mine
