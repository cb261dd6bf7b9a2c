-- The expressions that are values of a valid file: where they stand, what their operations are, and that each names what it may.
use Rattle.std.proofs.Common.{◌≡◌, ◌≤◌, ◌<◌, ◌+◌, ◌-◌, ◌∙◌, ℕ, zero, suc, List, [], ◌∷◌, length, get_or, take, drop, sym, ap, subst, arith}
use Rattle.std.specs.Prelude.{slice_index_or, Option, Some, None, false, map}
use Rattle.std.specs.List.{AllZip}
use Rattle.std.proofs.lemmas.List.{get_or_default, length-map, length-drop, length-take-le, get_or-take, get_or-drop}
use Rattle.std.proofs.lemmas.List.Elements.{All-get_or}
use Rattle.std.proofs.Math.ListN.{get_or-map}
use Rattle.dw_base.specs.declared.fault.Reach.{Reach}
use Rattle.dw_base.specs.declared.fault.Reach.TheVariants.{Narrow, Wide}
use Rattle.dw_base.specs.declared.fault.Span.{Span}
use Rattle.expr_ops.specs.declared.op.Op.{Op}
use Rattle.expr_ops.specs.Expressions.{Operation, IsExpression}
use Rattle.expr_ops.specs.Ops.{all_meant}
use Rattle.form_codec.specs.declared.value.Value.{Value}
use Rattle.form_codec.specs.declared.value.Value.TheVariants as value
use Rattle.form_codec.specs.Forms.Meaning.{Expression}
use Rattle.form_codec.specs.Values.{bytes_in, meant_in, LiesIn}
use Rattle.abbrev_tables.specs.declared.decl.Spec.{Spec}
use Rattle.entry_arena.specs.declared.entry.Entry.{Entry}
use Rattle.entry_arena.specs.Arena.{Arena, entry_at, value_at}
use Rattle.entry_arena.specs.Forests.{Described, attributes_of, described_by}
use Rattle.entry_arena.specs.Operations.{HeldOps, no_operations, ops_of}
use Rattle.entry_arena.specs.Trees.{declared_at}
use Rattle.entry_read.specs.Expressions.{IsExprAt, HasOperations}
use Rattle.entry_read.specs.Places.{UnitsLie, HaveOwners, ValuesBelong}
use Rattle.entry_read.specs.Units.{HeadAndForest}
use Rattle.value_links.specs.Sections.{debug_info, debug_abbrev}
use Rattle.value_links.specs.Reading.{Linkable, Reading, no_unit, declarations, unit_at, IsUnitRead}
use Rattle.value_links.specs.Resolved.{Resolved, Resolves}
use Rattle.value_links.specs.Debug.{EntryMeaning, UnitMeaning, MeansAttribute, MeansUnit}
use Rattle.value_links.specs.Laws.{OneReading}
use Rattle.value_links.specs.Links.{held_at}
use Rattle.value_links.specs.Lists.{owner_unit}
use Rattle.value_links.specs.Operations.{LinkedOperation, LinksOperation, LinksExpression}
use Rattle.value_links.specs.World.{World, operations_at, head_and_forest, Holds, IsWorldOf}
use Rattle.same_meaning.specs.inside.Compared.{AreLinkedTo, AreAllLinked, IsLinkedSomehow}
use Rattle.same_meaning.specs.inside.Expressions.{OfOne, AreOperationsOf}

-- OPERATIONS THAT NAME WHAT THEY MAY

-- the bytes of an expression have one reading, and those within the narrow limits are within the wide ones
abbrev pub OneExpression : Type 0
OneExpression = (reach : Reach) (o p : List Operation) (bytes : List ℕ) → IsExpression reach o bytes → IsExpression reach p bytes → o ≡ p

abbrev pub NarrowIsWide : Type 0
NarrowIsWide = (o : List Operation) (bytes : List ℕ) → IsExpression Narrow o bytes → IsExpression Wide o bytes

-- what the operations of an expression name is what the expression does
pub linked_ops : OneExpression → (r : Linkable) (u : ℕ) (bytes : List ℕ) (ops : List Op) → AreOperationsOf bytes ops → (linked : List LinkedOperation) → LinksExpression r u bytes linked → AreLinkedTo r u bytes ops linked
linked_ops one r u bytes ops are linked (operations, read, zip) =
    subst (λ (z : List Operation). AllZip (LinksOperation r u) z linked) (one Wide operations (all_meant bytes ops) bytes read are.spelled) zip

pub linked_bytes : (r : Linkable) (u : ℕ) (bytes : List ℕ) (ops : List Op) → AreOperationsOf bytes ops → (linked : List LinkedOperation) → AreLinkedTo r u bytes ops linked → LinksExpression r u bytes linked
linked_bytes r u bytes ops are linked zip = (all_meant bytes ops, are.spelled, zip)

pub all_linked : OneExpression → (r : Linkable) (u : ℕ) (bytes : List ℕ) (ops : List Op) → AreOperationsOf bytes ops → IsLinkedSomehow r u bytes → AreAllLinked r u bytes ops
all_linked one r u bytes ops are (linked, is) = (linked, linked_ops one r u bytes ops are linked is)

-- so for an expression that is known by other words
module _ (one : OneExpression) (r : Linkable) (u : ℕ) (owner : Option ℕ) (bytes own : List ℕ) (ops : List Op) (is : owner ≡ Some u) (same : bytes ≡ own) (are : AreOperationsOf bytes ops) where
  pub value_links : (linked : List LinkedOperation) → AreLinkedTo r (owner_unit r owner) bytes ops linked → LinksExpression r u own linked
  value_links linked zip =
      let links : LinksExpression r (owner_unit r owner) bytes linked = linked_bytes r (owner_unit r owner) bytes ops are linked zip in
      subst (λ (z : List ℕ). LinksExpression r u z linked) same (subst (λ (z : Option ℕ). LinksExpression r (owner_unit r z) bytes linked) is links)

  pub links_value : (linked : List LinkedOperation) → LinksExpression r u own linked → AreLinkedTo r (owner_unit r owner) bytes ops linked
  links_value linked links =
      linked_ops one r (owner_unit r owner) bytes ops are linked (subst (λ (z : Option ℕ). LinksExpression r (owner_unit r z) bytes linked) (sym is) (subst (λ (z : List ℕ). LinksExpression r u z linked) (sym same) links))

-- EACH VALUE MEANS SOMETHING

-- the attribute with a number
attribute_resolves : (r : Reading) (u id : ℕ) (section : List ℕ) (columns : List Spec) (values : List Value) (attributes : List (ℕ × Resolved)) (j : ℕ) (d : Value) → AllZip (MeansAttribute r u id) (attributes_of section columns values) attributes → j < length columns → j < length values → (name : ℕ) × (v : Resolved) × Resolves r u id name (meant_in section (get_or values j d)) v
attribute_resolves r u id section [] values attributes j d zip column inside = absurd (omega (arith, column))
attribute_resolves r u id section (c ∷ cs) [] attributes j d zip column inside = absurd (omega (arith, inside))
attribute_resolves r u id section (c ∷ cs) (v ∷ vs) [] j d zip column inside = absurd zip
attribute_resolves r u id section (c ∷ cs) (v ∷ vs) (a ∷ more) zero d zip column inside = (c.name, a.1, zip.0.value)
attribute_resolves r u id section (c ∷ cs) (v ∷ vs) (a ∷ more) (suc j) d zip column inside =
    attribute_resolves r u id section cs vs more j d zip.1 (omega (arith, column)) (omega (arith, inside))

module _ (r : Reading) (u : ℕ) (unit : UnitMeaning) (means : MeansUnit r u unit) (owners : HaveOwners (declarations (unit_at r.links u)) (unit_at r.links u).forest) where
  abbrev forest : Arena
  forest = (unit_at r.links u).forest

  abbrev by : Entry → Described
  by = described_by forest.section (declarations (unit_at r.links u)) forest.values

  abbrev no_entry : Entry
  no_entry = record { at = 0; len = 0; depth = 0; decl = 0; first = 0; count = 0 }

  abbrev no_meaning : EntryMeaning
  no_meaning = record { depth = 0; tag = 0; children = false; attributes = [] }

  -- the attributes of the entry with a number
  entry_zip : (id : ℕ) → id < length forest.entries → AllZip (MeansAttribute r u id) (by (entry_at forest.entries id)).attributes (slice_index_or unit.forest id no_meaning).attributes
  entry_zip id inside =
      let size : length (map by forest.entries) ≡ length forest.entries = length-map forest.entries by in
      let count : length unit.forest ≡ length (map by forest.entries) = means.forest.count in
      let entry = means.forest.each id (by no_entry) no_meaning (omega (arith, size, count, inside)) in
      let here : slice_index_or (map by forest.entries) id (by no_entry) ≡ by (entry_at forest.entries id) = get_or-map by forest.entries id no_entry in
      subst (λ (d : Described). AllZip (MeansAttribute r u id) d.attributes (slice_index_or unit.forest id no_meaning).attributes) here entry.attributes

  pub value_resolves : (number : ℕ) → number < length forest.values → (id : ℕ) × (name : ℕ) × (v : Resolved) × Resolves r u id name (meant_in forest.section (value_at forest.values number)) v
  value_resolves number inside =
      let (id, known, from, to) = owners.owned number inside in
      let e : Entry = entry_at forest.entries id in
      let j : ℕ = number - (entry_at forest.entries id).first in
      let own : List Value = take (entry_at forest.entries id).count (drop (entry_at forest.entries id).first forest.values) in
      let within : (entry_at forest.entries id).first + (entry_at forest.entries id).count ≤ length forest.values = owners.inside id known in
      let rest : length (drop (entry_at forest.entries id).first forest.values) ≡ length forest.values - (entry_at forest.entries id).first = length-drop (entry_at forest.entries id).first forest.values in
      let size : length (take (entry_at forest.entries id).count (drop (entry_at forest.entries id).first forest.values)) ≡ (entry_at forest.entries id).count = length-take-le (entry_at forest.entries id).count (drop (entry_at forest.entries id).first forest.values) (omega arith) in
      let counted : (entry_at forest.entries id).count ≡ length (declared_at (declarations (unit_at r.links u)) (entry_at forest.entries id).decl).columns = owners.counted id known in
      let below : number - (entry_at forest.entries id).first < (entry_at forest.entries id).count = omega arith in
      let there : (entry_at forest.entries id).first + (number - (entry_at forest.entries id).first) ≡ number = omega arith in
      let (name, v, resolves) = attribute_resolves r u id forest.section (declared_at (declarations (unit_at r.links u)) (entry_at forest.entries id).decl).columns own (slice_index_or unit.forest id no_meaning).attributes j (value.Addr 0) (entry_zip id known) (omega arith) (omega arith) in
      let same : get_or own j (value.Addr 0) ≡ value_at forest.values number = get_or-take (entry_at forest.entries id).count (drop (entry_at forest.entries id).first forest.values) j (value.Addr 0) below ∙ get_or-drop (entry_at forest.entries id).first forest.values j (value.Addr 0) ∙ ap (value_at forest.values) there in
      (id, name, v, subst (λ (z : Value). Resolves r u id name (meant_in forest.section z) v) same resolves)

  -- an expression names what it may
  pub expression_linked : (number : ℕ) (span : Span) → IsExprAt forest number span → IsLinkedSomehow r.links u (bytes_in forest.section span)
  expression_linked number span stands =
      let (id, name, v, resolves) = value_resolves number stands.inside in
      let here : Resolves r u id name (Expression (bytes_in forest.section span)) v = subst (λ (z : Value). Resolves r u id name (meant_in forest.section z) v) stands.is resolves in
      (here.links.0, here.links.1)

-- THE VALUES OF A UNIT THAT IS HELD

-- as many units as are read, each as it is read
pub held_count : (file : List ℕ) (world : World) (r : Reading) → Holds file world r → length world.units ≡ length r.links.units
held_count file world r holds = ap length holds.units ∙ length-map r.links.units head_and_forest

pub held_unit : (file : List ℕ) (world : World) (r : Reading) (u : ℕ) → Holds file world r → held_at world.units u ≡ head_and_forest (unit_at r.links u)
held_unit file world r u holds = ap (λ (units : List HeadAndForest). held_at units u) holds.units ∙ get_or-map head_and_forest r.links.units u no_unit

-- the unit with a number and its operations, as they are looked up
unit_there : (world : World) (u : ℕ) (units : List HeadAndForest) (unit : HeadAndForest) → u < length world.units → units ≡ world.units → unit ≡ get_or units u unit → unit ≡ held_at world.units u
unit_there world u units unit known same is =
    subst (λ (z : List HeadAndForest). unit ≡ get_or z u unit) same is ∙ get_or_default world.units u unit (head_and_forest no_unit) known

operations_there : (world : World) (u : ℕ) (held : List HeldOps) (one : HeldOps) → u < length world.operations → held ≡ world.operations → one ≡ get_or held u one → one ≡ operations_at world.operations u
operations_there world u held one known same is =
    subst (λ (z : List HeldOps). one ≡ get_or z u one) same is ∙ get_or_default world.operations u one no_operations known

pub forest_there : (world : World) (u : ℕ) (units : List HeadAndForest) (unit : HeadAndForest) (entries : Arena) → u < length world.units → units ≡ world.units → unit ≡ get_or units u unit → entries ≡ unit.forest → entries ≡ (held_at world.units u).forest
forest_there world u units unit entries known same is of = of ∙ ap (λ (h : HeadAndForest). h.forest) (unit_there world u units unit known same is)

module _ (world : World) (reach : Reach) (is : IsWorldOf world.image reach world) (u : ℕ) (known : u < length world.units) where
  inside_read : u < length is.r.links.units
  inside_read = let size : length world.units ≡ length is.r.links.units = held_count world.image world is.r is.holds in omega (arith, size, known)

  unit_read : IsUnitRead (debug_info world.image) (debug_abbrev world.image) (unit_at is.r.links u)
  unit_read = All-get_or (IsUnitRead (debug_info world.image) (debug_abbrev world.image)) is.r.links.units u no_unit inside_read is.read.links.units.each

  operations_inside : u < length world.operations
  operations_inside = let count : length world.operations ≡ length world.units = is.operations.count in omega (arith, count, known)

  module _ (number : ℕ) (span : Span) (stands : IsExprAt (held_at world.units u).forest number span) where
    abbrev own_bytes : List ℕ
    own_bytes = bytes_in (held_at world.units u).forest.section span

    abbrev own_ops : List Op
    own_ops = ops_of (operations_at world.operations u) number

    stands_read : IsExprAt (unit_at is.r.links u).forest number span
    stands_read = subst (λ (h : HeadAndForest). IsExprAt h.forest number span) (held_unit world.image world is.r u is.holds) stands

    -- it lies in its section
    pub value_inside : UnitsLie → span.at + span.len ≤ length (held_at world.units u).forest.section
    value_inside lie =
        let unit = unit_at is.r.links u in
        let lies = lie (debug_info world.image) unit.head (declarations unit) unit.forest unit_read.section unit_read.entries in
        let inside : span.at + span.len ≤ length (unit_at is.r.links u).forest.section = subst (LiesIn (length (unit_at is.r.links u).forest.section)) stands_read.is (lies.order.spans.inside number stands_read.inside) in
        subst (λ (h : HeadAndForest). span.at + span.len ≤ length h.forest.section) (sym (held_unit world.image world is.r u is.holds)) inside

    -- its operations are those that are held
    wide : NarrowIsWide → (reach : Reach) (o : List Operation) (bytes : List ℕ) → IsExpression reach o bytes → IsExpression Wide o bytes
    wide law Narrow o bytes is = law o bytes is
    wide law Wide o bytes is = is

    value_operations : NarrowIsWide → AreOperationsOf own_bytes own_ops
    value_operations law =
        let have : HasOperations reach (held_at world.units u).forest (operations_at world.operations u) = is.operations.each u (head_and_forest no_unit) known in
        record { spelled = wide law reach (all_meant own_bytes own_ops) own_bytes (have.spelled number span stands); places = have.places number span stands }

    -- and name what they may, in each reading of the file
    no_unit_meaning : UnitMeaning
    no_unit_meaning = record { unit_type = 0; signature = 0; type_entry = None; forest = [] }

    value_linked : ValuesBelong → IsLinkedSomehow is.r.links u own_bytes
    value_linked belong =
        let unit = unit_at is.r.links u in
        let count : length is.debug.units ≡ length is.r.links.units = is.means.units.count in
        let means : MeansUnit is.r u (slice_index_or is.debug.units u no_unit_meaning) = is.means.units.each u no_unit_meaning (omega (arith, count, inside_read)) in
        let owners : HaveOwners (declarations unit) unit.forest = belong (debug_info world.image) unit.head (declarations unit) unit.forest unit_read.section unit_read.entries in
        let linked : IsLinkedSomehow is.r.links u (bytes_in unit.forest.section span) = expression_linked is.r u (slice_index_or is.debug.units u no_unit_meaning) means owners number span stands_read in
        subst (λ (h : HeadAndForest). IsLinkedSomehow is.r.links u (bytes_in h.forest.section span)) (sym (held_unit world.image world is.r u is.holds)) linked

    value_all_linked : OneReading → OneExpression → NarrowIsWide → ValuesBelong → OfOne world (λ r. AreAllLinked r.links u own_bytes own_ops)
    value_all_linked one_file one_expression law belong r read holds =
        let same : is.r ≡ r = one_file world.image is.r r is.read read in
        all_linked one_expression r.links u own_bytes own_ops (value_operations law) (subst (λ (z : Reading). IsLinkedSomehow z.links u own_bytes) same (value_linked belong))

    -- by what is looked up
    module _ (forest : Arena) (bytes : List ℕ) (held : List HeldOps) (one : HeldOps) (ops : List Op) (forest_is : forest ≡ (held_at world.units u).forest) (bytes_are : bytes ≡ bytes_in forest.section span) (held_is : held ≡ world.operations) (one_is : one ≡ get_or held u one) (ops_are : ops ≡ ops_of one number) where
      own_bytes_are : bytes ≡ own_bytes
      own_bytes_are = bytes_are ∙ ap (λ (z : Arena). bytes_in z.section span) forest_is

      own_ops_are : ops ≡ own_ops
      own_ops_are = ops_are ∙ ap (λ (z : HeldOps). ops_of z number) (operations_there world u held one operations_inside held_is one_is)

      pub found_operations : NarrowIsWide → AreOperationsOf bytes ops
      found_operations law = subst (λ (z : List ℕ). AreOperationsOf z ops) (sym own_bytes_are) (subst (AreOperationsOf own_bytes) (sym own_ops_are) (value_operations law))

      pub found_linked : OneReading → OneExpression → NarrowIsWide → ValuesBelong → OfOne world (λ r. AreAllLinked r.links u bytes ops)
      found_linked one_file one_expression law belong r read holds =
          subst (λ (z : List ℕ). AreAllLinked r.links u z ops) (sym own_bytes_are) (subst (AreAllLinked r.links u own_bytes) (sym own_ops_are) (value_all_linked one_file one_expression law belong r read holds))
