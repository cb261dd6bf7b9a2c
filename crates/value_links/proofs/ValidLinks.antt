-- Values that mean something, and the sets of address ranges of a file that is read, have no fault.
use Rattle.std.proofs.Common.{◌≡◌, ◌<◌, ◌∙◌, ◌++◌, inl, inr, ℕ, List, [], ◌∷◌, length, get_or, sym, ap, subst, refl}
use Rattle.std.specs.Prelude.{Option, Some, None, false, map}
use Rattle.std.specs.List.{AllZip}
use Rattle.dw_base.specs.declared.fault.Kind.{Kind}
use Rattle.dw_base.specs.declared.fault.Kind.TheVariants.{Target as NoTarget, Pointer, NoBase}
use Rattle.form_codec.specs.declared.value.Value.{Value}
use Rattle.form_codec.specs.Forms.{Meaning}
use Rattle.form_codec.specs.Forms.Meaning.{Expression}
use Rattle.form_codec.specs.Values.{meant_in, bytes_in}
use Rattle.abbrev_tables.specs.declared.decl.Spec.{Spec}
use Rattle.entry_arena.specs.declared.entry.Entry.{Entry}
use Rattle.entry_arena.specs.Arena.{value_at}
use Rattle.entry_arena.specs.Forests.{Described, attributes_of, described_by}
use Rattle.entry_arena.specs.Trees.{ValuesBetween}
use Rattle.entry_read.specs.declared.head.UnitHead.{UnitHead}
use Rattle.entry_read.proofs.Tiling.{one_tile}
use Rattle.entry_read.specs.Heads.{type_unit}
use Rattle.entry_read.specs.Expressions.{IsExprAt}
use Rattle.list_model.specs.Faults.{FaultTables as FaultTablesOf}
use Rattle.list_model.proofs.Walking.{filled_whole}
use Rattle.companions.specs.declared.set.ArangeSet.{ArangeSet}
use Rattle.companions.specs.Aranges.{SetsTile}
use Rattle.companions.specs.Faults.{FaultSets}
use Rattle.companions.proofs.Tiling.{sets_whole}
use Rattle.dw_base.specs.declared.fault.Reach.{Reach}
use Rattle.dw_base.specs.declared.fault.Span.{Span}
use Rattle.std.proofs.lemmas.List.{get_or-map, length-map}
use Rattle.value_links.specs.Sections.{debug_info, debug_abbrev, debug_aranges}
use Rattle.value_links.specs.Reading.{UnitRead, Linkable, Reading, unit_heads, unit_starts, unit_at, declarations}
use Rattle.value_links.specs.Whole.{IsReadToLinks, HasAddrBase, AreRootsRead, IsReading}
use Rattle.value_links.specs.Values.{entry_of, values_of, HasValueAt}
use Rattle.value_links.specs.Operations.{LinkedOperation, LinksExpression}
use Rattle.value_links.specs.Linked.{Linked, Links, IsTypeEntry, IsFirstLow}
use Rattle.value_links.specs.Resolved.{Resolves}
use Rattle.value_links.specs.Debug.{EntryMeaning, described, UnitMeaning, Debug, MeansAttribute, MeansEntry, MeansType, MeansUnit, MeansDebug}
use Rattle.value_links.specs.LinkFaults.{FaultValue, FaultType, FaultNumber, FaultExprOf, FaultInUnit}
use Rattle.value_links.specs.Faults.{FaultLinks, FaultAddresses, FaultAranges, FaultOfLinks}
use Rattle.value_links.specs.Laws.{AreExpressionsWithin, AreLinked}
use Rattle.value_links.proofs.HeldUnits.{unit_is, unit_owners}
use Rattle.value_links.proofs.EntryValues.{value_stands}
use Rattle.value_links.proofs.LinkLaws.{linked_faultless}
use Rattle.value_links.proofs.ExpressionLaws.{linked_operations_faultless}
use Rattle.value_links.proofs.ReadingOnce.{units_once, linkable_once}

-- what stands beside the attribute of a column, after those of the columns before it
zip_attribute : {C : Type 0} (R : ℕ × Meaning → C → Type 0) (section : List ℕ) (cs : List Spec) (c : Spec) (ds : List Spec) (vs : List Value) (v : Value) (ws : List Value) (from to : ℕ) (ys : List C) → ValuesBetween section cs vs from to → AllZip R (attributes_of section (cs ++ c ∷ ds) (vs ++ v ∷ ws)) ys → (y : C) × R (c.name, meant_in section v) y
zip_attribute R section [] c ds [] v ws from to [] valued zip = absurd zip
zip_attribute R section [] c ds [] v ws from to (y ∷ ys) valued (first, rest) = (y, first)
zip_attribute R section [] c ds (x ∷ vs) v ws from to ys valued zip = absurd valued
zip_attribute R section (k ∷ cs) c ds [] v ws from to ys valued zip = absurd valued
zip_attribute R section (k ∷ cs) c ds (x ∷ vs) v ws from to [] valued zip = absurd zip
zip_attribute R section (k ∷ cs) c ds (x ∷ vs) v ws from to (y ∷ ys) (next, spelled, placed, valued) (first, rest) = zip_attribute R section cs c ds vs v ws next to ys valued rest

-- places of units by their heads
pub heads_begin : (units : List UnitRead) → map (λ (h : UnitHead). h.at) (unit_heads units) ≡ unit_starts units
heads_begin [] = refl
heads_begin (u ∷ units) = ap (λ z. u.head.at ∷ z) (heads_begin units)

-- WHAT MEANS SOMETHING

module _ (file : List ℕ) (r : Reading) (debug : Debug) (read : IsReading file r) (means : MeansDebug file r debug) where
  unit_means : (u : ℕ) → u < length r.links.units → (m : UnitMeaning) × MeansUnit r u m
  unit_means u inside =
      let none : UnitMeaning = record { unit_type = 0; signature = 0; type_entry = None; forest = [] } in
      (get_or debug.units u none, means.units.each u none (subst (λ (z : ℕ). u < z) (sym means.units.count) inside))

  -- each value means something, and so it refers to something
  value_links : (u id number name : ℕ) (meaning : Meaning) (place : ℕ) → u < length r.links.units → HasValueAt (unit_at r.links u) id number name meaning place → (linked : Linked) × Links r.links u id name meaning linked
  value_links u id number name meaning place inside h =
      let (m, unit) = unit_means u inside in
      let section : List ℕ = (unit_at r.links u).forest.section in
      let forest = unit.forest in
      let no_entry : Entry = record { at = 0; len = 0; depth = 0; decl = 0; first = 0; count = 0 } in
      let say : Entry → Described = described_by section (declarations (unit_at r.links u)) (unit_at r.links u).forest.values in
      let size : length (described (unit_at r.links u)) ≡ length (unit_at r.links u).forest.entries = length-map (unit_at r.links u).forest.entries say in
      let known : id < length m.forest = subst (λ (z : ℕ). id < z) (sym size ∙ sym forest.count) h.known in
      let none : EntryMeaning = record { depth = 0; tag = 0; children = false; attributes = [] } in
      let entry : EntryMeaning = get_or m.forest id none in
      let here : get_or (described (unit_at r.links u)) id (say no_entry) ≡ say (entry_of (unit_at r.links u) id) = get_or-map say (unit_at r.links u).forest.entries id no_entry (say no_entry) h.known in
      let stands : MeansEntry r u id (say (entry_of (unit_at r.links u) id)) entry = subst (λ (z : Described). MeansEntry r u id z entry) here (forest.each id (say no_entry) none known) in
      let by_columns : AllZip (MeansAttribute r u id) (attributes_of section (h.earlier_columns ++ h.column ∷ h.later_columns) (values_of (unit_at r.links u) id)) entry.attributes =
      subst (λ (z : List Spec). AllZip (MeansAttribute r u id) (attributes_of section z (values_of (unit_at r.links u) id)) entry.attributes) h.columns stands.attributes in
      let by_values : AllZip (MeansAttribute r u id) (attributes_of section (h.earlier_columns ++ h.column ∷ h.later_columns) (h.earlier ++ h.value ∷ h.later)) entry.attributes =
      subst (λ (z : List Value). AllZip (MeansAttribute r u id) (attributes_of section (h.earlier_columns ++ h.column ∷ h.later_columns) z) entry.attributes) h.values by_columns in
      let (attribute, is) = zip_attribute (MeansAttribute r u id) section h.earlier_columns h.column h.later_columns h.earlier h.value h.later h.values_at place entry.attributes h.valued by_values in
      let named : Resolves r u id name (meant_in section h.value) attribute.1 = subst (λ (z : ℕ). Resolves r u id z (meant_in section h.value) attribute.1) (sym h.named) is.value in
      let resolves : Resolves r u id name meaning attribute.1 = subst (λ (z : Meaning). Resolves r u id name z attribute.1) (sym h.meant) named in
      (resolves.linked, resolves.links)

  type_stands : (u : ℕ) → u < length r.links.units → (unit_at r.links u).head.kind ≡ type_unit → (id : ℕ) × IsTypeEntry r.links u id
  type_stands u inside is_type = stands ((unit_means u inside).0.type_entry) (unit_means u inside).1.type_entry
    where
      stands : (entry : Option ℕ) → MeansType r.links u entry → (id : ℕ) × IsTypeEntry r.links u id
      stands (Some id) (kind, here) = (id, here)
      stands None other = absurd (other is_type)

  pub meanings_linked : AreLinked r.links
  meanings_linked = record { values = value_links; types = type_stands }

-- WHAT IS LINKED

operations_of : (r : Linkable) (u id name : ℕ) (bytes : List ℕ) (linked : Linked) → Links r u id name (Expression bytes) linked → (operations : List LinkedOperation) × LinksExpression r u bytes operations
operations_of r u id name bytes linked (operations, means, e) = (operations, means)

module _ (file : List ℕ) (r : Linkable) (read : IsReadToLinks file r) (linked : AreLinked r) (roots : AreRootsRead r) (sets : List ArangeSet) (tiled : SetsTile (debug_aranges file) (unit_starts r.units) sets) where
  value_faultless : (u id number name : ℕ) (meaning : Meaning) (kind : Kind) (place : ℕ) → u < length r.units → HasValueAt (unit_at r u) id number name meaning place → FaultValue r u id name meaning kind → ⊥
  value_faultless u id number name meaning kind place inside h f =
      let (to, links) = linked.values u id number name meaning place inside h in
      linked_faultless r u id name meaning to kind links f

  -- the operations of an expression name what they may
  pub operations_linked : (u number : ℕ) (span : Span) → u < length r.units → IsExprAt (unit_at r u).forest number span → (operations : List LinkedOperation) × LinksExpression r u (bytes_in (unit_at r u).forest.section span) operations
  operations_linked u number span inside stands =
      let unit = unit_at r u in
      let is = unit_is (debug_info file) (debug_abbrev file) r.units read.units u inside in
      let owned = unit_owners (debug_info file) (debug_abbrev file) r.units read.units u inside in
      let (id, name, place, h) = value_stands (debug_info file) (debug_abbrev file) unit is owned number stands.inside in
      let (to, links) = linked.values u id number name (meant_in unit.forest.section (value_at unit.forest.values number)) place inside h in
      operations_of r u id name (bytes_in unit.forest.section span) to (subst (λ (v : Value). Links r u id name (meant_in unit.forest.section v) to) stands.is links)

  type_faultless : (u : ℕ) (kind : Kind) (place : ℕ) → u < length r.units → FaultType r u kind place → ⊥
  type_faultless u NoTarget place inside (is_type, none, here) = none (linked.types u inside is_type)
  type_faultless u kind place inside f = f

  -- the number of a first base is looked up in the table that the root names
  low_faultless : (u i place : ℕ) (kind : Kind) → u < length r.units → IsFirstLow r u i place → FaultNumber r u i kind → ⊥
  low_faultless u i place NoBase inside low none =
      let (table, (base, first, has), less) = roots.bases u i place inside low in
      none (base, first)
  low_faultless u i place Pointer inside low (gives, none) = none (roots.bases u i place inside low)
  low_faultless u i place kind inside low f = f

  expression_faultless : (reach : Reach) → AreExpressionsWithin r reach → (u : ℕ) (kind : Kind) (place : ℕ) → u < length r.units → FaultExprOf r reach u kind place → ⊥
  expression_faultless reach within u kind place inside f =
      let (operations, means) = operations_linked u f.number f.span inside f.stands in
      linked_operations_faultless r u reach (bytes_in (unit_at r u).forest.section f.span) operations kind f.inner means (within u f.number f.span inside f.stands) f.fault

  unit_faultless : (reach : Reach) → AreExpressionsWithin r reach → (u : ℕ) (kind : Kind) (place : ℕ) → u < length r.units → FaultInUnit r reach u kind place → ⊥
  unit_faultless reach within u kind place inside (inl value) = value_faultless u value.id value.number value.name value.meaning kind place inside value.stands value.fault
  unit_faultless reach within u kind place inside (inr (inl entry)) = type_faultless u kind place inside entry
  unit_faultless reach within u kind place inside (inr (inr (inl (i, low, f)))) = low_faultless u i place kind inside low f
  unit_faultless reach within u kind place inside (inr (inr (inr expression))) = expression_faultless reach within u kind place inside expression

  links_faultless : (reach : Reach) → AreExpressionsWithin r reach → (kind : Kind) (place : ℕ) → FaultLinks file reach kind place → ⊥
  links_faultless reach within kind place f =
      let same : f.r ≡ r = linkable_once file f.r r f.read read in
      unit_faultless reach within f.u kind place (subst (λ (z : Linkable). f.u < length z.units) same f.inside) (subst (λ (z : Linkable). FaultInUnit z reach f.u kind place) same f.fault)

  -- where an entry names an address table, tables fill the section
  addresses_faultless : (kind : Kind) (place : ℕ) → FaultAddresses file kind place → ⊥
  addresses_faultless kind place (units, are, has, f) =
      let same : units ≡ r.units = units_once (debug_info file) (debug_abbrev file) units r.units 0 are.tiled read.units.tiled are.each read.units.each in
      let (tables, filled) = roots.tables (subst HasAddrBase same has) in
      filled_whole r.addresses tables filled (kind, place, subst (λ (z : List ℕ). FaultTablesOf z kind place) (sym read.addresses) f)

  aranges_faultless : (kind : Kind) (place : ℕ) → FaultAranges file kind place → ⊥
  aranges_faultless kind place (heads, whole, f) =
      let same : heads ≡ unit_heads r.units = one_tile (debug_info file) heads (unit_heads r.units) 0 whole read.units.tiled in
      let moved : FaultSets (debug_aranges file) (unit_starts r.units) kind place =
      subst (λ (z : List ℕ). FaultSets (debug_aranges file) z kind place) (ap (map (λ (h : UnitHead). h.at)) same ∙ heads_begin r.units) f in
      sets_whole (debug_aranges file) (unit_starts r.units) sets tiled (kind, place, moved)

  -- the pass has no fault
  pub links_whole : (reach : Reach) → AreExpressionsWithin r reach → (kind : Kind) (place : ℕ) → FaultOfLinks file reach kind place → ⊥
  links_whole reach within kind place (inl links) = links_faultless reach within kind links.0 links.2
  links_whole reach within kind place (inr (inl addresses)) = addresses_faultless kind addresses.0 addresses.2
  links_whole reach within kind place (inr (inr sets_fault)) = aranges_faultless kind sets_fault.0 sets_fault.2
