-- The first bases that roots give, by what is held.
use Rattle.std.proofs.Common.{◌≡◌, ◌≤◌, ◌<◌, ◌+◌, ◌∙◌, Bool, true, false, true≢false, take, drop, ℕ, List, [], ◌∷◌, length, get_or, sym, ap, subst, refl, arith}
use Rattle.std.specs.Prelude.{Option, Some, None, filter}
use Rattle.std.proofs.lemmas.List.{get_or_default, length-take-le}
use Rattle.std.proofs.lemmas.Slice.Zip.{AllZip-long}
use Rattle.std.proofs.lemmas.Bool.{eqb-true}
use Rattle.dw_base.specs.declared.fault.Kind.{Kind}
use Rattle.dw_base.specs.declared.fault.Kind.TheVariants.{Pointer, NoBase}
use Rattle.form_codec.specs.declared.value.Value.{Value}
use Rattle.form_codec.specs.declared.value.Value.TheVariants as value
use Rattle.form_codec.specs.Forms.{Meaning}
use Rattle.form_codec.specs.Forms.Meaning.{AddressNumber}
use Rattle.form_codec.specs.Values.{meant_in}
use Rattle.abbrev_tables.specs.Listings.{Listing, spec_at}
use Rattle.entry_arena.specs.Arena.{entry_at, value_at}
use Rattle.entry_read.specs.Units.{HeadAndForest, declarations_of}
use Rattle.entry_read.specs.Places.{StandsAtColumn}
use Rattle.list_model.specs.declared.context.Context.{Context}
use Rattle.list_model.specs.declared.tables.AddrTable.{AddrTable}
use Rattle.list_model.specs.Addresses.{HasBase as HasTableBase}
use Rattle.list_model.proofs.Walking.{one_table}
use Rattle.value_links.specs.declared.parts.Parts.{Parts}
use Rattle.value_links.specs.Attributes.{addr_base}
use Rattle.value_links.specs.Reading.{UnitRead, Linkable, unit_at, no_unit, no_context, context_at}
use Rattle.value_links.specs.Contexts.{low_pc, is_low_pc, NamesTable, IsTableOf, IsContext}
use Rattle.value_links.specs.Values.{root_of, entry_of, declaration_of, HasValueAt}
use Rattle.value_links.specs.World.{head_and_forest}
use Rattle.value_links.specs.Linked.{IsFirstLow, HasAddress}
use Rattle.value_links.specs.LinkFaults.{FaultNumber}
use Rattle.value_links.specs.Links.{held_at}
use Rattle.value_links.specs.Parts.{HoldsParts}
use Rattle.value_links.specs.inside.Checks.{table_held, IsUnitWithTable, root_attributes, IsAttributeAt, IsFirstLowIn, IsBaseCause}
use Rattle.value_links.proofs.Bases.{one_base}
use Rattle.value_links.proofs.ContextLaws.{zip_at}
use Rattle.value_links.proofs.EntryValues.{stands_at}
use Rattle.value_links.proofs.TabledUnits.{has_root}
use Rattle.value_links.proofs.Passing.{split_at, none_among}
use Rattle.value_links.proofs.RootValues.{column_inside, attribute_is, first_low_is}
use Rattle.value_links.proofs.PartValues.{known_unit, unit_same, table_same, attributes_held, owned}

-- NUMBERS OF ADDRESSES

abbrev is_number : Meaning → Bool
is_number (AddressNumber i) = true
is_number meaning = false

abbrev number_in : Meaning → ℕ
number_in (AddressNumber i) = i
number_in meaning = 0

-- only the number of an address means one
pub number_value : (section : List ℕ) (v : Value) (i : ℕ) → meant_in section v ≡ AddressNumber i → v ≡ value.AddrIndex i
number_value section (value.AddrIndex n) i e = ap (λ (z : Meaning). value.AddrIndex (number_in z)) e
number_value section v i e = absurd (true≢false (sym (ap is_number e)))

-- THE TABLE OF A UNIT

module _ (r : Linkable) (u i : ℕ) where
  -- a root names one table
  table_once : (t other : AddrTable) → NamesTable r.addresses (root_of (unit_at r u)).attributes t → NamesTable r.addresses (root_of (unit_at r u)).attributes other → t ≡ other
  table_once t other (base, first, has) (b, is, there) =
      one_table r.addresses base t other has (subst (λ (z : ℕ). HasTableBase r.addresses z other) (one_base (root_of (unit_at r u)).attributes addr_base b base is first) there)

  module _ (found : Option AddrTable) (is : IsTableOf r.addresses (root_of (unit_at r u)).attributes found) where
    pub has_address : (t : AddrTable) → found ≡ Some t → i < t.count → HasAddress r u i
    has_address t some less = (t, subst (IsTableOf r.addresses (root_of (unit_at r u)).attributes) some is, less)

    pub lacks_address : (t : AddrTable) → found ≡ Some t → t.count ≤ i → FaultNumber r u i Pointer
    lacks_address t some past =
        let names : NamesTable r.addresses (root_of (unit_at r u)).attributes t = subst (IsTableOf r.addresses (root_of (unit_at r u)).attributes) some is in
        ((names.0, names.1), λ (other, theirs, less). let same : t.count ≡ other.count = ap (λ (z : AddrTable). z.count) (table_once t other names theirs) in omega arith)

    pub lacks_table : found ≡ None → HasAddress r u i → ⊥
    lacks_table none (t, names, less) = subst (IsTableOf r.addresses (root_of (unit_at r u)).attributes) none is t names

  number_cause : (kind : Kind) → (HasAddress r u i → ⊥) → IsBaseCause (root_of (unit_at r u)).attributes addr_base kind → FaultNumber r u i kind
  number_cause Pointer none base = (base, none)
  number_cause NoBase none other = other
  number_cause kind none other = absurd other

module _ (file : List ℕ) (r : Linkable) (parts : Parts) (holds : HoldsParts file r parts) (u : ℕ) (inside : u < length parts.units.units.items) where
  abbrev Gives : UnitRead → Context → Type 0
  Gives unit context = IsContext r.addresses (root_of unit).attributes context

  known : u < length r.units
  known = known_unit file r parts holds u inside

  pub has_context : u < length parts.contexts.items
  has_context =
      let counted : length r.contexts ≡ length r.units = AllZip-long Gives r.units r.contexts holds.read.contexts in
      subst (λ (z : List Context). u < length z) (sym holds.contexts) (subst (λ (z : ℕ). u < z) (sym counted) known)

  -- its context, as it is looked up
  pub context_is : (context : Context) → context ≡ get_or parts.contexts.items u context → IsTableOf r.addresses (root_of (unit_at r u)).attributes context.table
  context_is context e =
      let same : context ≡ context_at r u = e ∙ (get_or_default parts.contexts.items u context no_context has_context ∙ ap (λ (z : List Context). get_or z u no_context) holds.contexts) in
      let there : IsContext r.addresses (root_of (unit_at r u)).attributes (context_at r u) = zip_at Gives r.units r.contexts u no_unit no_context holds.read.contexts known in
      subst (λ (z : Context). IsTableOf r.addresses (root_of (unit_at r u)).attributes z.table) (sym same) there.table

  -- THE FIRST LOW PC

  module _ (unit : HeadAndForest) (table : Listing) (e : unit ≡ held_at parts.units.units.items u) (t : table ≡ table_held parts.units u) where
    unit_here : unit ≡ head_and_forest (unit_at r u)
    unit_here = e ∙ unit_same file r parts holds u inside

    table_here : table ≡ (unit_at r u).table
    table_here = t ∙ table_same file r parts holds u inside

    attributes_here : root_attributes unit.forest (declarations_of table) ≡ (root_of (unit_at r u)).attributes
    attributes_here = attributes_held file r parts holds u inside 0 unit table e t

    pub cause_here : (i : ℕ) (kind : Kind) → (HasAddress r u i → ⊥) → IsBaseCause (root_attributes unit.forest (declarations_of table)) addr_base kind → FaultNumber r u i kind
    cause_here i kind none is = number_cause r u i kind none (subst (λ (z : List (ℕ × Meaning)). IsBaseCause z addr_base kind) attributes_here is)

    -- there is none
    pub no_first : filter is_low_pc (root_attributes unit.forest (declarations_of table)) ≡ [] → (i place : ℕ) → IsFirstLow r u i place → ⊥
    no_first none i place low = none_among is_low_pc (root_of (unit_at r u)).attributes low.before (low_pc, AddressNumber i) low.after (ap (filter is_low_pc) (sym attributes_here) ∙ none) low.parts refl

    module _ (k : ℕ) (first : IsFirstLowIn (root_attributes unit.forest (declarations_of table)) k) (name : ℕ) (v : Value) (at : IsAttributeAt (root_attributes unit.forest (declarations_of table)) k (name, meant_in unit.forest.section v)) where
      first_here : IsFirstLowIn (root_of (unit_at r u)).attributes k
      first_here = subst (λ (z : List (ℕ × Meaning)). IsFirstLowIn z k) attributes_here first

      at_here : IsAttributeAt (root_of (unit_at r u)).attributes k (name, meant_in unit.forest.section v)
      at_here = subst (λ (z : List (ℕ × Meaning)). IsAttributeAt z k (name, meant_in unit.forest.section v)) attributes_here at

      -- it is the number of an address
      pub first_number : (i place : ℕ) → IsFirstLow r u i place → v ≡ value.AddrIndex i
      first_number i place low =
          let same = (first_low_is (root_of (unit_at r u)).attributes low.before (low_pc, AddressNumber i) low.after k (name, meant_in unit.forest.section v) low.parts low.first refl at_here first_here).1 in
          number_value unit.forest.section v i (ap (λ (z : ℕ × Meaning). z.1) same)

      module _ (i : ℕ) (is : v ≡ value.AddrIndex i) where
        named_here : ◌≡◌ {A = ℕ × Meaning} (name, meant_in unit.forest.section v) (low_pc, AddressNumber i)
        named_here =
            let attributes = root_attributes unit.forest (declarations_of table) in
            let number : meant_in unit.forest.section v ≡ AddressNumber i = ap (meant_in unit.forest.section) is in
            let same : first.attribute ∷ drop (k + 1) attributes ≡ (name, meant_in unit.forest.section v) ∷ drop (k + 1) attributes = sym first.stands ∙ at in
            let here : first.attribute ≡ (name, meant_in unit.forest.section v) = cc in
            let passes : is_low_pc (name, AddressNumber i) ≡ true = ap (λ (z : Meaning). is_low_pc (name, z)) (sym number) ∙ (ap is_low_pc (sym here) ∙ first.is) in
            let low : name ≡ low_pc = eqb-true name low_pc passes in
            ap (λ (z : ℕ). (z, meant_in unit.forest.section v)) low ∙ ap (λ (z : Meaning). (low_pc, z)) number

        pub low_stands : (place : ℕ) → k < length (root_attributes unit.forest (declarations_of table)) → IsUnitWithTable (held_at parts.units.units.items u) table → StandsAtColumn unit.forest.section (declarations_of table) unit.forest.values (entry_at unit.forest.entries 0) k place → IsFirstLow r u i place
        low_stands place less with_table stands =
            let read = unit_at r u in
            let own = head_and_forest read in
            let attributes = (root_of read).attributes in
            let b : ℕ × Meaning = (low_pc, AddressNumber i) in
            let there : IsAttributeAt attributes k b = subst (IsAttributeAt attributes k) named_here at_here in
            let k_in : k < length attributes = subst (λ (z : List (ℕ × Meaning)). k < length z) attributes_here less in
            let tabled : IsUnitWithTable own read.table = subst (IsUnitWithTable own) table_here (subst (λ (z : HeadAndForest). IsUnitWithTable z table) (unit_same file r parts holds u inside) with_table) in
            let belong = owned file r parts holds u inside in
            let counted : k < (entry_of read 0).count = column_inside own read.table tabled 0 (has_root own read.table tabled) k k_in in
            let by_unit : StandsAtColumn read.forest.section (declarations_of table) read.forest.values (entry_of read 0) k place = subst (λ (z : HeadAndForest). StandsAtColumn z.forest.section (declarations_of table) z.forest.values (entry_at z.forest.entries 0) k place) unit_here stands in
            let by_table : StandsAtColumn read.forest.section (declarations_of read.table) read.forest.values (entry_of read 0) k place = subst (λ (z : Listing). StandsAtColumn read.forest.section (declarations_of z) read.forest.values (entry_of read 0) k place) table_here by_unit in
            let column = stands_at read belong 0 (has_root own read.table tabled) k place counted by_table in
            let is_it = attribute_is own read.table tabled 0 (has_root own read.table tabled) k counted b there in
            let number : (entry_of read 0).first + k ≡ k = omega (arith, belong.first) in
            let meaning = meant_in read.forest.section (value_at read.forest.values ((entry_of read 0).first + k)) in
            let by_number : HasValueAt read 0 k (spec_at (declaration_of read 0).columns k).name meaning place = subst (λ (z : ℕ). HasValueAt read 0 z (spec_at (declaration_of read 0).columns k).name meaning place) number column in
            let by_name : HasValueAt read 0 k low_pc meaning place = subst (λ (z : ℕ). HasValueAt read 0 k z meaning place) (ap (λ (z : ℕ × Meaning). z.0) (sym is_it)) by_number in
            let most : k ≤ length attributes = omega arith in
            record {
              number = k;
              before = take k attributes;
              after = drop (k + 1) attributes;
              parts = split_at attributes k b there;
              first = first_here.first;
              counted = sym (length-take-le k attributes most);
              stands = subst (λ (z : Meaning). HasValueAt read 0 k low_pc z place) (ap (λ (z : ℕ × Meaning). z.1) (sym is_it)) by_name;
            }

        -- so the number is the one of each first low pc
        pub address_there : HasAddress r u i → (j place : ℕ) → IsFirstLow r u j place → HasAddress r u j
        address_there has j place low =
            let same : i ≡ j = ap (λ (z : Value). number_in (meant_in unit.forest.section z)) (sym is ∙ first_number j place low) in
            subst (HasAddress r u) same has
