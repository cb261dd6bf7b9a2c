-- Values of entries that name lists of a kind, as they are held and as they are read.
use Rattle.std.proofs.Common.{◌≡◌, ◌<◌, ◌+◌, ◌∙◌, ℕ, List, length, sym, ap, subst, refl}
use Rattle.form_codec.specs.declared.value.Value.{Value}
use Rattle.form_codec.specs.Forms.{Meaning}
use Rattle.form_codec.specs.Values.{meant_in}
use Rattle.abbrev_tables.specs.Listings.{Listing, spec_at}
use Rattle.entry_arena.specs.declared.entry.Entry.{Entry}
use Rattle.entry_arena.specs.Arena.{entry_at, value_at}
use Rattle.entry_arena.specs.Trees.{declared_at}
use Rattle.entry_arena.proofs.StepLaws.{values_front}
use Rattle.entry_read.specs.Units.{HeadAndForest, declarations_of}
use Rattle.entry_read.specs.Places.{HaveOwners, StandsAtColumn}
use Rattle.entry_read.proofs.PlaceLaws.{entry_stands}
use Rattle.list_model.specs.declared.entry.ListKind.{ListKind}
use Rattle.value_links.specs.declared.parts.Parts.{Parts}
use Rattle.value_links.specs.Sections.{debug_info, debug_abbrev}
use Rattle.value_links.specs.Reading.{Linkable, unit_at, declarations, IsUnitRead}
use Rattle.value_links.specs.Values.{entry_of, declaration_of, values_of}
use Rattle.value_links.specs.World.{head_and_forest}
use Rattle.value_links.specs.Linked.{Links}
use Rattle.value_links.specs.Lists.{IsNamedIn}
use Rattle.value_links.specs.Whole.{IsReadToLinks}
use Rattle.value_links.specs.Links.{held_at}
use Rattle.value_links.specs.Parts.{HoldsParts}
use Rattle.value_links.specs.inside.Checks.{table_held}
use Rattle.value_links.specs.inside.Namings.{AreJoined, ValueNames, ColumnNames, IsEntryNaming, IsUnitNaming}
use Rattle.value_links.proofs.HeldUnits.{unit_is, unit_owners, held_count, held_is}
use Rattle.value_links.proofs.TabledUnits.{table_is}
use Rattle.value_links.proofs.EntryValues.{stands_at, column_of}

-- AS THEY ARE READ

module _ (file : List ℕ) (r : Linkable) (read : IsReadToLinks file r) (kind : ListKind) (u : ℕ) (known : u < length r.units) where
  unit_read : IsUnitRead (debug_info file) (debug_abbrev file) (unit_at r u)
  unit_read = unit_is (debug_info file) (debug_abbrev file) r.units read.units u known

  owned : HaveOwners (declarations (unit_at r u)) (unit_at r u).forest
  owned = unit_owners (debug_info file) (debug_abbrev file) r.units read.units u known

  -- a column that names a list is an entry's value that does
  column_names : (id k at : ℕ) → id < length (unit_at r u).forest.entries → k < (entry_of (unit_at r u) id).count → ColumnNames r kind u id k at → IsNamedIn r kind at u
  column_names id k at inside counted (linked, links, names) =
      let unit = unit_at r u in
      let s = entry_stands (debug_info file) unit.head (declarations unit) unit.forest unit_read.section unit_read.entries id inside in
      let front = values_front unit.forest.section (declaration_of unit id).columns (values_of unit id) s.values_at ((entry_of unit id).at + (entry_of unit id).len) k s.valued in
      let stands : StandsAtColumn unit.forest.section (declarations unit) unit.forest.values (entry_of unit id) k front.0 = record { values_at = s.values_at; coded = s.coded; valued = front.1 } in
      record {
        known = known;
        number = (entry_of unit id).first + k;
        linked = linked;
        links = record {
          id = id;
          name = (spec_at (declaration_of unit id).columns k).name;
          meaning = meant_in unit.forest.section (value_at unit.forest.values ((entry_of unit id).first + k));
          place = front.0;
          stands = stands_at unit owned id inside k front.0 counted stands;
          links = links;
        };
        names = names;
      }

  -- and the other way
  named_in : (at : ℕ) → IsNamedIn r kind at u → IsEntryNaming r kind u (length (unit_at r u).forest.entries) (at, u)
  named_in at n =
      let l = n.links in
      let column = column_of (unit_at r u) owned l.id l.stands.known n.number l.name l.meaning l.place l.stands in
      let k : ℕ = column.0 in
      let there : Meaning = meant_in (unit_at r u).forest.section (value_at (unit_at r u).forest.values ((entry_of (unit_at r u) l.id).first + k)) in
      let named : Links r u l.id (spec_at (declaration_of (unit_at r u) l.id).columns k).name l.meaning n.linked = subst (λ (z : ℕ). Links r u l.id z l.meaning n.linked) column.2 l.links in
      let links : Links r u l.id (spec_at (declaration_of (unit_at r u) l.id).columns k).name there n.linked = subst (λ (z : Meaning). Links r u l.id (spec_at (declaration_of (unit_at r u) l.id).columns k).name z n.linked) column.3 named in
      (l.id, l.stands.known, (k, column.1, ((n.linked, links, n.names), refl)))

module _ (file : List ℕ) (r : Linkable) (read : IsReadToLinks file r) (kind : ListKind) where
  pub unit_naming_is : (y : ℕ × ℕ) → IsUnitNaming r kind (length r.units) y → IsNamedIn r kind y.0 y.1
  unit_naming_is y (u, known, (id, inside, (k, counted, (names, e)))) = subst (IsNamedIn r kind y.0) (sym e) (column_names file r read kind u known id k y.0 inside counted names)

  pub is_unit_naming : (at u : ℕ) → IsNamedIn r kind at u → IsUnitNaming r kind (length r.units) (at, u)
  is_unit_naming at u n = (u, n.known, named_in file r read kind u n.known at n)

-- AS THEY ARE HELD

module _ (file : List ℕ) (r : Linkable) (parts : Parts) (holds : HoldsParts file r parts) where
  pub units_counted : length parts.units.units.items ≡ length r.units
  units_counted = held_count r.units parts.units.units.items holds.units.units

  module _ (u : ℕ) (inside : u < length parts.units.units.items) where
    known_there : u < length r.units
    known_there = subst (λ (z : ℕ). u < z) units_counted inside

    unit_same : held_at parts.units.units.items u ≡ head_and_forest (unit_at r u)
    unit_same = held_is r.units parts.units.units.items holds.units.units u known_there

    table_same : table_held parts.units u ≡ (unit_at r u).table
    table_same = table_is r.units parts.units u holds.units known_there

    pub entries_counted : length (held_at parts.units.units.items u).forest.entries ≡ length (unit_at r u).forest.entries
    entries_counted = ap (λ (z : HeadAndForest). length z.forest.entries) unit_same

    module _ (id : ℕ) (table : Listing) (t : table ≡ table_held parts.units u) (entry : Entry) (e : entry ≡ entry_at (held_at parts.units.units.items u).forest.entries id) where
      entry_same : entry ≡ entry_of (unit_at r u) id
      entry_same = e ∙ ap (λ (z : HeadAndForest). entry_at z.forest.entries id) unit_same

      pub columns_counted : entry.count ≡ (entry_of (unit_at r u) id).count
      columns_counted = ap (λ (z : Entry). z.count) entry_same

      name_same : (k : ℕ) → (spec_at (declared_at (declarations_of table) entry.decl).columns k).name ≡ (spec_at (declaration_of (unit_at r u) id).columns k).name
      name_same k =
          ap (λ (z : Listing). (spec_at (declared_at (declarations_of z) entry.decl).columns k).name) (t ∙ table_same)
          ∙ ap (λ (z : Entry). (spec_at (declared_at (declarations (unit_at r u)) z.decl).columns k).name) entry_same

      value_same : (k : ℕ) → value_at (held_at parts.units.units.items u).forest.values (entry.first + k) ≡ value_at (unit_at r u).forest.values ((entry_of (unit_at r u) id).first + k)
      value_same k =
          ap (λ (z : HeadAndForest). value_at z.forest.values (entry.first + k)) unit_same
          ∙ ap (λ (z : Entry). value_at (unit_at r u).forest.values (z.first + k)) entry_same

      -- what the value of a column names is added
      pub column_joined : (kind : ListKind) (xs ys : List (ℕ × ℕ)) (k name : ℕ) (value : Value) → name ≡ (spec_at (declared_at (declarations_of table) entry.decl).columns k).name → value ≡ value_at (held_at parts.units.units.items u).forest.values (entry.first + k) → AreJoined xs ys (λ y. ValueNames r kind u id name (meant_in (unit_at r u).forest.section value) y.0 × (y.1 ≡ u)) → AreJoined xs ys (λ y. ColumnNames r kind u id k y.0 × (y.1 ≡ u))
      column_joined kind xs ys k name value n w joined =
          subst (λ (z : ℕ). AreJoined xs ys (λ y. ValueNames r kind u id z (meant_in (unit_at r u).forest.section (value_at (unit_at r u).forest.values ((entry_of (unit_at r u) id).first + k))) y.0 × (y.1 ≡ u))) (n ∙ name_same k)
          (subst (λ (z : Value). AreJoined xs ys (λ y. ValueNames r kind u id name (meant_in (unit_at r u).forest.section z) y.0 × (y.1 ≡ u))) (w ∙ value_same k) joined)
