-- What is found in what is held is said of what was read.
use Rattle.std.proofs.Common.{◌≡◌, ◌<◌, ◌+◌, ◌∙◌, ℕ, List, length, sym, ap, subst, refl}
use Rattle.std.specs.Prelude.{Option, Some, true, false}
use Rattle.dw_base.specs.declared.fault.Kind.{Kind}
use Rattle.dw_base.specs.declared.fault.Kind.TheVariants.{Target as NoTarget}
use Rattle.dw_base.specs.declared.fault.Span.{Span}
use Rattle.form_codec.specs.declared.value.Value.{Value}
use Rattle.form_codec.specs.declared.value.Value.TheVariants as value
use Rattle.form_codec.specs.Forms.{Meaning}
use Rattle.form_codec.specs.Values.{meant_in}
use Rattle.abbrev_tables.specs.Listings.{Listing, spec_at}
use Rattle.entry_arena.specs.declared.entry.Entry.{Entry}
use Rattle.entry_arena.specs.Arena.{entry_at, value_at}
use Rattle.entry_arena.specs.Trees.{declared_at}
use Rattle.entry_read.specs.Units.{HeadAndForest, declarations_of}
use Rattle.entry_read.specs.Places.{HaveOwners, StandsAtColumn}
use Rattle.value_links.specs.declared.parts.Parts.{Parts}
use Rattle.value_links.specs.Sections.{debug_info, debug_abbrev}
use Rattle.value_links.specs.Reading.{Linkable, unit_at, declarations}
use Rattle.value_links.specs.Whole.{AreFirstBases}
use Rattle.value_links.specs.Values.{entry_of, declaration_of, described_at, HasValueAt}
use Rattle.value_links.specs.World.{head_and_forest}
use Rattle.value_links.specs.Linked.{Linked, Links, IsFirstLow, HasAddress}
use Rattle.value_links.specs.Linked.Linked.{Operates}
use Rattle.value_links.specs.LinkFaults.{FaultValue, FaultAttribute, FaultType}
use Rattle.value_links.specs.Links.{held_at}
use Rattle.value_links.specs.Laws.{AreLinked}
use Rattle.value_links.specs.Parts.{HoldsParts}
use Rattle.value_links.specs.inside.Checks.{table_held, attributes_at, root_attributes, IsCause, IsTyped, IsChecked, IsNoExpr, IsExprLinked, IsColumnLinked, AreColumnsLinked, AreEntriesLinked, IsUnitLinked}
use Rattle.value_links.proofs.HeldUnits.{unit_owners}
use Rattle.value_links.proofs.LinkedValues.{parts_count, part_is}
use Rattle.value_links.proofs.TabledUnits.{table_is}
use Rattle.value_links.proofs.Causes.{cause_is}
use Rattle.value_links.proofs.EntryValues.{stands_at, column_of}

module _ (file : List ℕ) (r : Linkable) (parts : Parts) (holds : HoldsParts file r parts) where
  module _ (u : ℕ) (inside : u < length parts.units.units.items) where
    pub known_unit : u < length r.units
    known_unit = subst (λ (z : ℕ). u < z) (parts_count file r parts holds) inside

    pub unit_same : held_at parts.units.units.items u ≡ head_and_forest (unit_at r u)
    unit_same = part_is file r parts holds u inside

    pub table_same : table_held parts.units u ≡ (unit_at r u).table
    table_same = table_is r.units parts.units u holds.units known_unit

    -- the attributes of an entry, as they are held
    pub attributes_held : (id : ℕ) (unit : HeadAndForest) (table : Listing) → unit ≡ held_at parts.units.units.items u → table ≡ table_held parts.units u → attributes_at unit.forest (declarations_of table) id ≡ (described_at (unit_at r u) id).attributes
    attributes_held id unit table e t =
        ap (λ (z : HeadAndForest). attributes_at z.forest (declarations_of table) id) (e ∙ unit_same)
        ∙ ap (λ (z : Listing). attributes_at (unit_at r u).forest (declarations_of z) id) (t ∙ table_same)

    pub owned : HaveOwners (declarations (unit_at r u)) (unit_at r u).forest
    owned = unit_owners (debug_info file) (debug_abbrev file) r.units holds.read.units u known_unit

    -- VALUES

    -- a value that refers to nothing
    pub cause_there : (id name : ℕ) (unit : HeadAndForest) (table : Listing) (v : Value) (kind : Kind) → unit ≡ held_at parts.units.units.items u → table ≡ table_held parts.units u → IsNoExpr v → ((w : Linked) → Links r u id name (meant_in (unit_at r u).forest.section v) w → ⊥) → IsCause (root_attributes unit.forest (declarations_of table)) v kind → FaultValue r u id name (meant_in (unit_at r u).forest.section v) kind
    cause_there id name unit table v kind e t plain none is =
        let by_unit : IsCause (root_attributes (unit_at r u).forest (declarations_of table)) v kind = subst (λ (z : HeadAndForest). IsCause (root_attributes z.forest (declarations_of table)) v kind) (e ∙ unit_same) is in
        let by_table : IsCause (root_attributes (unit_at r u).forest (declarations (unit_at r u))) v kind = subst (λ (z : Listing). IsCause (root_attributes (unit_at r u).forest (declarations_of z)) v kind) (t ∙ table_same) by_unit in
        cause_is r u id name (unit_at r u).forest.section v kind plain none by_table

    -- ENTRIES

    module _ (id : ℕ) (known : id < length (held_at parts.units.units.items u).forest.entries) where
      known_entry : id < length (unit_at r u).forest.entries
      known_entry = subst (λ (z : HeadAndForest). id < length z.forest.entries) unit_same known

      entry_same : entry_at (held_at parts.units.units.items u).forest.entries id ≡ entry_of (unit_at r u) id
      entry_same = ap (λ (z : HeadAndForest). entry_at z.forest.entries id) unit_same

      pub entry_linked : AreColumnsLinked r u id (entry_at (held_at parts.units.units.items u).forest.entries id).count → AreColumnsLinked r u id (entry_of (unit_at r u) id).count
      entry_linked linked = subst (λ (z : Entry). AreColumnsLinked r u id z.count) entry_same linked

      module _ (table : Listing) (t : table ≡ table_held parts.units u) (entry : Entry) (e : entry ≡ entry_at (held_at parts.units.units.items u).forest.entries id) (values : List Value) (v : values ≡ (held_at parts.units.units.items u).forest.values) (k : ℕ) where
        name_same : (spec_at (declared_at (declarations_of table) entry.decl).columns k).name ≡ (spec_at (declaration_of (unit_at r u) id).columns k).name
        name_same =
            ap (λ (z : Listing). (spec_at (declared_at (declarations_of z) entry.decl).columns k).name) (t ∙ table_same)
            ∙ ap (λ (z : Entry). (spec_at (declared_at (declarations (unit_at r u)) z.decl).columns k).name) (e ∙ entry_same)

        value_same : value_at values (entry.first + k) ≡ value_at (unit_at r u).forest.values ((entry_of (unit_at r u) id).first + k)
        value_same =
            ap (λ (z : List Value). value_at z (entry.first + k)) (v ∙ ap (λ (z : HeadAndForest). z.forest.values) unit_same)
            ∙ ap (λ (z : Entry). value_at (unit_at r u).forest.values (z.first + k)) (e ∙ entry_same)

        pub checked_column : (name : ℕ) (found : Option Kind) → name ≡ (spec_at (declared_at (declarations_of table) entry.decl).columns k).name → IsChecked r u id name (meant_in (unit_at r u).forest.section (value_at values (entry.first + k))) found → IsChecked r u id (spec_at (declaration_of (unit_at r u) id).columns k).name (meant_in (unit_at r u).forest.section (value_at (unit_at r u).forest.values ((entry_of (unit_at r u) id).first + k))) found
        checked_column name found n is =
            subst (λ (z : ℕ). IsChecked r u id z (meant_in (unit_at r u).forest.section (value_at (unit_at r u).forest.values ((entry_of (unit_at r u) id).first + k))) found) (n ∙ name_same)
            (subst (λ (z : Value). IsChecked r u id name (meant_in (unit_at r u).forest.section z) found) value_same is)

        -- an expression whose operations name what they may
        pub expr_column : (span : Span) → value_at values (entry.first + k) ≡ value.Expr span → entry.first + k < length values → IsExprLinked r u (entry.first + k) → IsColumnLinked r u id k
        expr_column span is k_in linked =
            let number : ℕ = (entry_of (unit_at r u) id).first + k in
            let section : List ℕ = (unit_at r u).forest.section in
            let numbered : entry.first + k ≡ number = ap (λ (z : Entry). z.first + k) (e ∙ entry_same) in
            let there : value_at (unit_at r u).forest.values number ≡ value.Expr span = sym value_same ∙ is in
            let k_there : number < length (unit_at r u).forest.values = subst (λ (z : List Value). number < length z) (v ∙ ap (λ (z : HeadAndForest). z.forest.values) unit_same) (subst (λ (z : ℕ). z < length values) numbered k_in) in
            let (operations, links) = subst (λ (z : ℕ). IsExprLinked r u z) numbered linked span (record { inside = k_there; is = there }) in
            (Operates operations, subst (λ (z : Value). Links r u id (spec_at (declaration_of (unit_at r u) id).columns k).name (meant_in section z) (Operates operations)) (sym there) (operations, links, refl))

        pub column_fault : (name : ℕ) (kind : Kind) (place : ℕ) → name ≡ (spec_at (declared_at (declarations_of table) entry.decl).columns k).name → k < entry.count → StandsAtColumn (held_at parts.units.units.items u).forest.section (declarations_of table) (held_at parts.units.units.items u).forest.values (entry_at (held_at parts.units.units.items u).forest.entries id) k place → FaultValue r u id name (meant_in (unit_at r u).forest.section (value_at values (entry.first + k))) kind → FaultAttribute r u kind place
        column_fault name kind place n k_in stands fault =
            let by_unit : StandsAtColumn (unit_at r u).forest.section (declarations_of table) (unit_at r u).forest.values (entry_of (unit_at r u) id) k place =
            subst (λ (z : HeadAndForest). StandsAtColumn z.forest.section (declarations_of table) z.forest.values (entry_at z.forest.entries id) k place) unit_same stands in
            let by_table : StandsAtColumn (unit_at r u).forest.section (declarations (unit_at r u)) (unit_at r u).forest.values (entry_of (unit_at r u) id) k place =
            subst (λ (z : Listing). StandsAtColumn (unit_at r u).forest.section (declarations_of z) (unit_at r u).forest.values (entry_of (unit_at r u) id) k place) (t ∙ table_same) by_unit in
            let k_there : k < (entry_of (unit_at r u) id).count = subst (λ (z : Entry). k < z.count) (e ∙ entry_same) k_in in
            record {
              id = id;
              number = (entry_of (unit_at r u) id).first + k;
              name = (spec_at (declaration_of (unit_at r u) id).columns k).name;
              meaning = meant_in (unit_at r u).forest.section (value_at (unit_at r u).forest.values ((entry_of (unit_at r u) id).first + k));
              stands = stands_at (unit_at r u) owned id known_entry k place k_there by_table;
              fault = checked_column name (Some kind) n fault;
            }

    -- UNITS

    pub unit_linked : (n : ℕ) → n ≡ length (held_at parts.units.units.items u).forest.entries → AreEntriesLinked r u n → IsTyped (held_at parts.units.units.items u) true → ((i place : ℕ) → IsFirstLow r u i place → HasAddress r u i) → IsUnitLinked r u
    unit_linked n all linked typed based = record {
      entries = subst (AreEntriesLinked r u) (all ∙ ap (λ (z : HeadAndForest). length z.forest.entries) unit_same) linked;
      typed = subst (λ (z : HeadAndForest). IsTyped z true) unit_same typed;
      based = based;
    }

    pub type_fault : IsTyped (held_at parts.units.units.items u) false → FaultType r u NoTarget ((held_at parts.units.units.items u).head.at + 20)
    type_fault typed =
        let there : IsTyped (head_and_forest (unit_at r u)) false = subst (λ (z : HeadAndForest). IsTyped z false) unit_same typed in
        (there.0, there.1, ap (λ (z : HeadAndForest). z.head.at + 20) unit_same)

    -- a value of a unit in which all is linked
    pub value_checked : IsUnitLinked r u → (id number name : ℕ) (meaning : Meaning) (place : ℕ) → HasValueAt (unit_at r u) id number name meaning place → (v : Linked) × Links r u id name meaning v
    value_checked linked id number name meaning place h =
        let section : List ℕ = (unit_at r u).forest.section in
        let column = column_of (unit_at r u) owned id h.known number name meaning place h in
        let k : ℕ = column.0 in
        let there : Meaning = meant_in section (value_at (unit_at r u).forest.values ((entry_of (unit_at r u) id).first + k)) in
        let is = linked.entries id h.known k column.1 in
        let named : Links r u id name there is.0 = subst (λ (z : ℕ). Links r u id z there is.0) (sym column.2) is.1 in
        (is.0, subst (λ (z : Meaning). Links r u id name z is.0) (sym column.3) named)

  held_inside : (u : ℕ) → u < length r.units → u < length parts.units.units.items
  held_inside u known = subst (λ (z : ℕ). u < z) (sym (parts_count file r parts holds)) known

  -- ALL

  pub all_linked : (n : ℕ) → n ≡ length parts.units.units.items → ((u : ℕ) → u < n → IsUnitLinked r u) → AreLinked r
  all_linked n all linked = record {
    values = λ u id number name meaning place known h. value_checked u (held_inside u known) (linked u (subst (λ (z : ℕ). u < z) (sym all) (held_inside u known))) id number name meaning place h;
    types = λ u known. (linked u (subst (λ (z : ℕ). u < z) (sym all) (held_inside u known))).typed;
  }

  pub all_based : (n : ℕ) → n ≡ length parts.units.units.items → ((u : ℕ) → u < n → IsUnitLinked r u) → AreFirstBases r
  all_based n all linked u i place known low = (linked u (subst (λ (z : ℕ). u < z) (sym all) (held_inside u known))).based i place low
