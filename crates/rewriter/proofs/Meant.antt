-- Each value of a unit of a valid file means something, and a type unit has its type.
use Rattle.std.proofs.Common.{◌≡◌, ◌≤◌, ◌<◌, ◌+◌, ◌-◌, inl, inr, ℕ, zero, suc, List, [], ◌∷◌, length, get_or, take, drop, ◌∙◌, sym, ap, subst, arith}
use Rattle.std.specs.Prelude.{slice_index_or, Option, Some, None}
use Rattle.std.specs.List.{All, AllZip}
use Rattle.std.proofs.lemmas.List.{get_or_default, length-map, length-drop, length-take-le, get_or-take, get_or-drop}
use Rattle.std.proofs.lemmas.List.Elements.{All-get_or}
use Rattle.std.proofs.Math.ListN.{get_or-map}
use Rattle.dw_base.specs.declared.fault.Reach.{Reach}
use Rattle.form_codec.specs.declared.value.Value.{Value}
use Rattle.form_codec.specs.declared.value.Value.TheVariants as value
use Rattle.form_codec.specs.Forms.{Meaning}
use Rattle.form_codec.specs.Values.{meant_in}
use Rattle.abbrev_tables.specs.declared.decl.Spec.{Spec}
use Rattle.abbrev_tables.specs.Tables.{Declared}
use Rattle.abbrev_tables.specs.Listings.{Listing, decl_at, spec_at}
use Rattle.entry_arena.specs.declared.entry.Entry.{Entry}
use Rattle.entry_arena.specs.Arena.{entry_at, value_at, IsEntryAt}
use Rattle.entry_arena.specs.Forests.{Described, attributes_of, described_by}
use Rattle.entry_arena.specs.Trees.{declared_at, listed_to}
use Rattle.entry_arena.proofs.StandingLaws.{entries_stand}
use Rattle.entry_arena.proofs.TreeLaws.{trees_are_walks}
use Rattle.entry_arena.proofs.SpellingLaws.{attributes_count, attribute_at}
use Rattle.entry_read.specs.declared.head.UnitHead.{UnitHead}
use Rattle.entry_read.specs.Heads.{type_unit}
use Rattle.entry_read.specs.Slots.{meaning_at}
use Rattle.entry_read.specs.Units.{HeadAndForest, entries_at, IsTable}
use Rattle.entry_read.specs.Places.{HaveOwners}
use Rattle.entry_read.proofs.Declarations.{columns_inside, count_same, declared_is}
use Rattle.entry_read.proofs.OwnerLaws.{values_belong}
use Rattle.unit_write.specs.Taken.{StandsFor}
use Rattle.value_links.specs.Sections.{debug_info, debug_abbrev}
use Rattle.list_model.specs.declared.entry.ListKind.{ListKind}
use Rattle.value_links.specs.Reading.{UnitRead, ListRead, ViewRead, Reading, lists_of, no_unit, declarations, unit_at, list_at, view_at, IsUnitRead}
use Rattle.value_links.specs.Whole.{IsReading}
use Rattle.value_links.specs.Linked.{Linked, Links}
use Rattle.value_links.specs.Linked.Linked.{ListAt, ViewsAt}
use Rattle.value_links.specs.Resolved.{Resolved, ResolvesLink, Resolves}
use Rattle.value_links.specs.Debug.{EntryMeaning, UnitMeaning, described, MeansAttribute, MeansEntry, MeansType, MeansUnit}
use Rattle.value_links.specs.World.{World, head_and_forest, IsWorldOf}
use Rattle.value_links.specs.declared.units.NamedTable.{NamedTable}
use Rattle.value_links.proofs.LinkedOnce.{linked_once}
use Rattle.rewriter.specs.declared.tables.NewTable.{NewTable}
use Rattle.rewriter.specs.inside.Taken.{IsTakenFrom, MeansFor}
use Rattle.rewriter.specs.inside.Placed.{unit_in, written_in, AreTaken}
use Rattle.rewriter.specs.inside.Held.{FitsOffset, MeansSomething, table_for, HaveAllValues, UnitMeans, HasType}
use Rattle.rewriter.proofs.OffsetSizes.{offsets_fit}
use Rattle.rewriter.proofs.Standing.{filled, held_unit, held_count}
use Rattle.rewriter.proofs.TakenLaws.{taken_count, taken_value_at, taken_means, taken_all_values, links_taken}

-- AN ENTRY'S ATTRIBUTES

pub all_zip_at : {A B : Type 0} (R : A → B → Type 0) (xs : List A) (ys : List B) (i : ℕ) (d : A) → AllZip R xs ys → i < length xs → (y : B) × R (get_or xs i d) y
all_zip_at R [] ys i d all inside = absurd (let b : i < 0 = inside in omega arith)
all_zip_at R (x ∷ xs) [] i d all inside = absurd all
all_zip_at R (x ∷ xs) (y ∷ ys) zero d all inside = (y, all.0)
all_zip_at R (x ∷ xs) (y ∷ ys) (suc i) d all inside = all_zip_at R xs ys i d all.1 (omega arith)

-- the unit with a number is read
pub read_unit_at : (file : List ℕ) (r : Reading) (u : ℕ) → All (IsUnitRead (debug_info file) (debug_abbrev file)) r.links.units → u < length r.links.units → IsUnitRead (debug_info file) (debug_abbrev file) (unit_at r.links u)
read_unit_at file r u all inside = All-get_or (IsUnitRead (debug_info file) (debug_abbrev file)) r.links.units u no_unit inside all

module _ (info abbrevs : List ℕ) (unit : UnitRead) (is : IsUnitRead info abbrevs unit) where
  pub owners : HaveOwners (declarations unit) unit.forest
  owners = values_belong info unit.head (declarations unit) unit.forest is.section is.entries

  pub all_values : HaveAllValues unit.forest
  all_values =
      let walk = (trees_are_walks info (declarations unit) (entries_at unit.head) (listed_to unit.forest is.entries.0)).0 is.entries.1.tree in
      record {
        some = filled unit.forest.entries walk.some;
        first = owners.first;
        adjacent = owners.adjacent;
        last = owners.last;
      }

  table_is : IsTable unit.table
  table_is = (abbrevs, unit.head.table, is.table)

  module _ (id : ℕ) (inside : id < length unit.forest.entries) where
    pub entry_declared : (entry_at unit.forest.entries id).decl < length unit.table.decls
    entry_declared =
        let size : length (declarations unit) ≡ length unit.table.decls = count_same unit.table in
        let known : (entry_at unit.forest.entries id).decl < length (declarations unit) = owners.declared id inside in
        omega arith

    columns_are : (declared_at (declarations unit) (entry_at unit.forest.entries id).decl).columns ≡ take (decl_at unit.table.decls (entry_at unit.forest.entries id).decl).count (drop (decl_at unit.table.decls (entry_at unit.forest.entries id).decl).first unit.table.specs)
    columns_are = ap (λ (d : Declared). d.columns) (declared_is unit.table (entry_at unit.forest.entries id).decl entry_declared)

    columns_size : length (take (decl_at unit.table.decls (entry_at unit.forest.entries id).decl).count (drop (decl_at unit.table.decls (entry_at unit.forest.entries id).decl).first unit.table.specs)) ≡ (decl_at unit.table.decls (entry_at unit.forest.entries id).decl).count
    columns_size =
        let within : (decl_at unit.table.decls (entry_at unit.forest.entries id).decl).first + (decl_at unit.table.decls (entry_at unit.forest.entries id).decl).count ≤ length unit.table.specs = columns_inside unit.table (entry_at unit.forest.entries id).decl table_is entry_declared in
        let rest : length (drop (decl_at unit.table.decls (entry_at unit.forest.entries id).decl).first unit.table.specs) ≡ length unit.table.specs - (decl_at unit.table.decls (entry_at unit.forest.entries id).decl).first = length-drop (decl_at unit.table.decls (entry_at unit.forest.entries id).decl).first unit.table.specs in
        length-take-le (decl_at unit.table.decls (entry_at unit.forest.entries id).decl).count (drop (decl_at unit.table.decls (entry_at unit.forest.entries id).decl).first unit.table.specs) (omega arith)

    counted : (entry_at unit.forest.entries id).count ≡ (decl_at unit.table.decls (entry_at unit.forest.entries id).decl).count
    counted = owners.counted id inside ∙ ap length columns_are ∙ columns_size

    pub columns_within : (decl_at unit.table.decls (entry_at unit.forest.entries id).decl).first + (entry_at unit.forest.entries id).count ≤ length unit.table.specs
    columns_within =
        let within : (decl_at unit.table.decls (entry_at unit.forest.entries id).decl).first + (decl_at unit.table.decls (entry_at unit.forest.entries id).decl).count ≤ length unit.table.specs = columns_inside unit.table (entry_at unit.forest.entries id).decl table_is entry_declared in
        let same : (entry_at unit.forest.entries id).count ≡ (decl_at unit.table.decls (entry_at unit.forest.entries id).decl).count = counted in
        omega arith

    pub values_size : length (take (entry_at unit.forest.entries id).count (drop (entry_at unit.forest.entries id).first unit.forest.values)) ≡ (entry_at unit.forest.entries id).count
    values_size =
        let within : (entry_at unit.forest.entries id).first + (entry_at unit.forest.entries id).count ≤ length unit.forest.values = owners.inside id inside in
        let rest : length (drop (entry_at unit.forest.entries id).first unit.forest.values) ≡ length unit.forest.values - (entry_at unit.forest.entries id).first = length-drop (entry_at unit.forest.entries id).first unit.forest.values in
        length-take-le (entry_at unit.forest.entries id).count (drop (entry_at unit.forest.entries id).first unit.forest.values) (omega arith)

    -- the column with a number, among those of the declaration and of the table
    pub column_same : (j : ℕ) → j < (entry_at unit.forest.entries id).count → spec_at (declared_at (declarations unit) (entry_at unit.forest.entries id).decl).columns j ≡ spec_at unit.table.specs ((decl_at unit.table.decls (entry_at unit.forest.entries id).decl).first + j)
    column_same j below =
        let same : (entry_at unit.forest.entries id).count ≡ (decl_at unit.table.decls (entry_at unit.forest.entries id).decl).count = counted in
        let within : j < (decl_at unit.table.decls (entry_at unit.forest.entries id).decl).count = omega arith in
        ap (λ (cs : List Spec). spec_at cs j) columns_are
        ∙ get_or-take (decl_at unit.table.decls (entry_at unit.forest.entries id).decl).count (drop (decl_at unit.table.decls (entry_at unit.forest.entries id).decl).first unit.table.specs) j _ within
        ∙ get_or-drop (decl_at unit.table.decls (entry_at unit.forest.entries id).decl).first unit.table.specs j _

    pub value_same : (j : ℕ) → j < (entry_at unit.forest.entries id).count → value_at (take (entry_at unit.forest.entries id).count (drop (entry_at unit.forest.entries id).first unit.forest.values)) j ≡ value_at unit.forest.values ((entry_at unit.forest.entries id).first + j)
    value_same j below =
        get_or-take (entry_at unit.forest.entries id).count (drop (entry_at unit.forest.entries id).first unit.forest.values) j _ below
        ∙ get_or-drop (entry_at unit.forest.entries id).first unit.forest.values j _

    -- each section offset among its values fits 32 bits
    pub offset_fits : (j : ℕ) → j < (entry_at unit.forest.entries id).count → FitsOffset (value_at unit.forest.values ((entry_at unit.forest.entries id).first + j))
    offset_fits j below =
        let e : Entry = entry_at unit.forest.entries id in
        let whole = (trees_are_walks info (declarations unit) (entries_at unit.head) (listed_to unit.forest is.entries.0)).0 is.entries.1.tree in
        let stands = entries_stand info (declarations unit) (entries_at unit.head) (listed_to unit.forest is.entries.0) id whole inside in
        let size : length (take (entry_at unit.forest.entries id).count (drop (entry_at unit.forest.entries id).first unit.forest.values)) ≡ (entry_at unit.forest.entries id).count = values_size in
        let fits = offsets_fit info (declared_at (declarations unit) e.decl).columns (take e.count (drop e.first unit.forest.values)) stands.values_at (e.at + e.len) j stands.valued (omega (arith, size, below)) in
        subst FitsOffset (value_same j below) fits

-- the attribute with a number means something
attribute_means : (info abbrevs : List ℕ) (r : Reading) (u id j : ℕ) (unit : UnitMeaning) → IsUnitRead info abbrevs (unit_at r.links u) → MeansUnit r u unit → (inside : id < length (unit_at r.links u).forest.entries) → j < (entry_at (unit_at r.links u).forest.entries id).count → (v : Resolved) × Resolves r u id (spec_at (unit_at r.links u).table.specs ((decl_at (unit_at r.links u).table.decls (entry_at (unit_at r.links u).forest.entries id).decl).first + j)).name (meant_in (unit_at r.links u).forest.section (value_at (unit_at r.links u).forest.values ((entry_at (unit_at r.links u).forest.entries id).first + j))) v
attribute_means info abbrevs r u id j unit is means inside below =
    let f = (unit_at r.links u).forest in
    let ds = declarations (unit_at r.links u) in
    let e = entry_at (unit_at r.links u).forest.entries id in
    let none : Entry = record { at = 0; len = 0; depth = 0; decl = 0; first = 0; count = 0 } in
    let by : Entry → Described = described_by (unit_at r.links u).forest.section (declarations (unit_at r.links u)) (unit_at r.links u).forest.values in
    let size : length (described (unit_at r.links u)) ≡ length (unit_at r.links u).forest.entries = length-map (unit_at r.links u).forest.entries by in
    let count : length unit.forest ≡ length (described (unit_at r.links u)) = means.forest.count in
    let no_meaning : EntryMeaning = slice_index_or unit.forest id (record { depth = 0; tag = 0; children = (by none).children; attributes = [] }) in
    let entry : MeansEntry r u id (slice_index_or (described (unit_at r.links u)) id (by none)) (slice_index_or unit.forest id no_meaning) = means.forest.each id (by none) no_meaning (omega arith) in
    let stands : slice_index_or (described (unit_at r.links u)) id (by none) ≡ by e = get_or-map by (unit_at r.links u).forest.entries id none in
    let zip : AllZip (MeansAttribute r u id) (by e).attributes (slice_index_or unit.forest id no_meaning).attributes = subst (λ (d : Described). AllZip (MeansAttribute r u id) d.attributes (slice_index_or unit.forest id no_meaning).attributes) stands entry.attributes in
    let columns = (declared_at (declarations (unit_at r.links u)) e.decl).columns in
    let values = take e.count (drop e.first (unit_at r.links u).forest.values) in
    let have : length (take e.count (drop e.first (unit_at r.links u).forest.values)) ≡ e.count = values_size info abbrevs (unit_at r.links u) is id inside in
    let counted : e.count ≡ length (declared_at (declarations (unit_at r.links u)) e.decl).columns = (owners info abbrevs (unit_at r.links u) is).counted id inside in
    let many : length (take e.count (drop e.first (unit_at r.links u).forest.values)) ≡ length (declared_at (declarations (unit_at r.links u)) e.decl).columns = have ∙ counted in
    let long : length (attributes_of (unit_at r.links u).forest.section (declared_at (declarations (unit_at r.links u)) e.decl).columns (take e.count (drop e.first (unit_at r.links u).forest.values))) ≡ length (declared_at (declarations (unit_at r.links u)) e.decl).columns = attributes_count (unit_at r.links u).forest.section columns values many in
    let d : ℕ × Meaning = (0, meant_in (unit_at r.links u).forest.section (value_at values j)) in
    let at = all_zip_at (MeansAttribute r u id) (attributes_of (unit_at r.links u).forest.section columns values) (slice_index_or unit.forest id no_meaning).attributes j d zip (omega arith) in
    let here : get_or (attributes_of (unit_at r.links u).forest.section columns values) j d ≡ ((spec_at columns j).name, meant_in (unit_at r.links u).forest.section (value_at values j)) = attribute_at (unit_at r.links u).forest.section columns values j d many (omega arith) in
    let raw : Resolves r u id (spec_at columns j).name (meant_in (unit_at r.links u).forest.section (value_at values j)) at.0.1 = subst (λ (a : ℕ × Meaning). Resolves r u id a.0 a.1 at.0.1) here at.1.value in
    let named : Resolves r u id (spec_at (unit_at r.links u).table.specs ((decl_at (unit_at r.links u).table.decls e.decl).first + j)).name (meant_in (unit_at r.links u).forest.section (value_at values j)) at.0.1 = subst (λ (c : Spec). Resolves r u id c.name (meant_in (unit_at r.links u).forest.section (value_at values j)) at.0.1) (column_same info abbrevs (unit_at r.links u) is id inside j below) raw in
    (at.0.1, subst (λ (v : Value). Resolves r u id (spec_at (unit_at r.links u).table.specs ((decl_at (unit_at r.links u).table.decls e.decl).first + j)).name (meant_in (unit_at r.links u).forest.section v) at.0.1) (value_same info abbrevs (unit_at r.links u) is id inside j below) named)

-- a list that a value means is one of those that are read
list_read : (r : Reading) (kind : ListKind) (n : ℕ) (v : Resolved) → ResolvesLink r (ListAt kind n) v → (k : ℕ) × (k < length (lists_of r kind)) × ((list_at (lists_of r kind) k).at ≡ n)
list_read r kind n v (meaning, means, e) =
    let (k, inside, is) = means.one in
    (k, inside, ap (λ (l : ListRead). l.at) (get_or_default (lists_of r kind) k (record { at = 0; part = 0; raws = [] }) means.list inside ∙ is) ∙ means.here)

-- and so are view pairs
views_read : (r : Reading) (list n : ℕ) (v : Resolved) → ResolvesLink r (ViewsAt list n) v → (k : ℕ) × (k < length r.views) × ((view_at r.views k).list ≡ list) × ((view_at r.views k).at ≡ n)
views_read r list n v (pairs, (k, inside, is), e) =
    let here : view_at r.views k ≡ record { list = list; at = n; pairs = pairs } = get_or_default r.views k (record { list = 0; at = 0; pairs = [] }) (record { list = list; at = n; pairs = pairs }) inside ∙ is in
    (k, inside, ap (λ (z : ViewRead). z.list) here, ap (λ (z : ViewRead). z.at) here)

-- a value means what that means to which it refers
means_it : (file : List ℕ) (r : Reading) (u id name : ℕ) (meaning : Meaning) (v : Resolved) (linked : Linked) → IsReading file r → u < length r.links.units → Resolves r u id name meaning v → Links r.links u id name meaning linked → ResolvesLink r linked v
means_it file r u id name meaning v linked read inside means links =
    subst (λ (z : Linked). ResolvesLink r z v) (linked_once file r.links u id name meaning means.linked linked read.links inside means.links links) means.resolves

-- what is written for a value means the same
resolves_taken : (file : List ℕ) (r : Reading) (u id name : ℕ) (old new : Meaning) (v : Resolved) → IsReading file r → u < length r.links.units → MeansFor (unit_at r.links u).head old new → Resolves r u id name old v → Resolves r u id name new v
resolves_taken file r u id name old new v read inside same means =
    record { linked = means.linked; links = links_taken file r u id name old new means.linked read inside same means.links; resolves = means.resolves }

-- and is an offset only where the value is one
taken_fits : (head : UnitHead) (v w : Value) → StandsFor head v w → FitsOffset v → FitsOffset w
taken_fits head (value.SectionRef n) w (inl same) fits = subst FitsOffset (sym same) tt
taken_fits head (value.SectionRef n) w (inr (m, place, few, same)) fits = subst FitsOffset (sym same) tt
taken_fits head v w same fits = subst FitsOffset (sym same) fits

-- THE WORLD

-- what is written of a unit is taken from what was read
pub taken_is : (world : World) (tables : List NewTable) (u : ℕ) (own : HeadAndForest) → AreTaken world tables → u < length world.units → own ≡ written_in world tables u → IsTakenFrom (unit_in world.units u) own
taken_is world tables u own taken known own_is = subst (IsTakenFrom (unit_in world.units u)) (sym own_is) (taken u known)

-- what is said of an entry, of a unit and a table that are given, and of the unit as it is written
record EntryIn (world : World) (u id : ℕ) (h : HeadAndForest) (t : Listing) (own : HeadAndForest) : Type 0 where
  pub entry : id < length h.forest.entries
  pub declared : (entry_at h.forest.entries id).decl < length t.decls
  pub counted : (entry_at h.forest.entries id).count ≡ (decl_at t.decls (entry_at h.forest.entries id).decl).count
  pub columns : (decl_at t.decls (entry_at h.forest.entries id).decl).first + (entry_at h.forest.entries id).count ≤ length t.specs
  pub values : (entry_at h.forest.entries id).first + (entry_at h.forest.entries id).count ≤ length own.forest.values
  pub means : (column : ℕ) → column < (entry_at h.forest.entries id).count → MeansSomething world u id (spec_at t.specs ((decl_at t.decls (entry_at h.forest.entries id).decl).first + column)).name (value_at own.forest.values ((entry_at h.forest.entries id).first + column))

module _ (world : World) (u : ℕ) (reach : Reach) (is : IsWorldOf world.image reach world) (known : u < length world.units) where
  inside_read : u < length is.r.links.units
  inside_read = let size : length world.units ≡ length is.r.links.units = held_count world.image world is.r is.holds in omega arith

  unit_is : IsUnitRead (debug_info world.image) (debug_abbrev world.image) (unit_at is.r.links u)
  unit_is = read_unit_at world.image is.r u is.read.links.units.each inside_read

  unit_held : unit_in world.units u ≡ head_and_forest (unit_at is.r.links u)
  unit_held = held_unit world.image world is.r u is.holds

  table_held : table_for world u ≡ (unit_at is.r.links u).table
  table_held = ap (λ (t : NamedTable). t.table) (is.holds.tables.each u inside_read)

  means_unit : MeansUnit is.r u (slice_index_or is.debug.units u (record { unit_type = 0; signature = 0; type_entry = None; forest = [] }))
  means_unit =
      let count : length is.debug.units ≡ length is.r.links.units = is.means.units.count in
      let inside : u < length is.r.links.units = inside_read in
      is.means.units.each u (record { unit_type = 0; signature = 0; type_entry = None; forest = [] }) (omega arith)

  module _ (own : HeadAndForest) (taken : IsTakenFrom (unit_in world.units u) own) where
    taken_read : IsTakenFrom (head_and_forest (unit_at is.r.links u)) own
    taken_read = subst (λ (h : HeadAndForest). IsTakenFrom h own) unit_held taken

    entry_read : (id : ℕ) → id < length (unit_at is.r.links u).forest.entries → EntryIn world u id (head_and_forest (unit_at is.r.links u)) (unit_at is.r.links u).table own
    entry_read id inside =
        let old : HeadAndForest = head_and_forest (unit_at is.r.links u) in
        let e : Entry = entry_at (unit_at is.r.links u).forest.entries id in
        let within : e.first + e.count ≤ length (unit_at is.r.links u).forest.values = (owners (debug_info world.image) (debug_abbrev world.image) (unit_at is.r.links u) unit_is).inside id inside in
        let section : own.forest.section ≡ (unit_at is.r.links u).forest.section = ap (λ (h : HeadAndForest). h.forest.section) taken_read.same in
        record {
          entry = inside;
          declared = entry_declared (debug_info world.image) (debug_abbrev world.image) (unit_at is.r.links u) unit_is id inside;
          counted = counted (debug_info world.image) (debug_abbrev world.image) (unit_at is.r.links u) unit_is id inside;
          columns = columns_within (debug_info world.image) (debug_abbrev world.image) (unit_at is.r.links u) unit_is id inside;
          values = omega (arith, within, taken_count old own taken_read);
          means = λ column below.
              let known : e.first + column < length (unit_at is.r.links u).forest.values = omega (arith, within, below) in
              let (resolved, read) = attribute_means (debug_info world.image) (debug_abbrev world.image) is.r u id column (slice_index_or is.debug.units u (record { unit_type = 0; signature = 0; type_entry = None; forest = [] })) unit_is means_unit inside below in
              let same : MeansFor (unit_at is.r.links u).head (meaning_at (unit_at is.r.links u).forest (e.first + column)) (meant_in (unit_at is.r.links u).forest.section (value_at own.forest.values (e.first + column))) = subst (λ (z : List ℕ). MeansFor (unit_at is.r.links u).head (meaning_at (unit_at is.r.links u).forest (e.first + column)) (meant_in z (value_at own.forest.values (e.first + column)))) section (taken_means old own taken_read (e.first + column) known) in
              let m = resolves_taken world.image is.r u id _ _ _ resolved is.read inside_read same read in
              record {
                file = world.image;
                r = is.r;
                holds = is.holds;
                linked = m.linked;
                links = m.links;
                listed = λ kind n links. list_read is.r kind n resolved (means_it world.image is.r u id _ _ resolved (ListAt kind n) is.read inside_read m links);
                viewed = λ list n links. views_read is.r list n resolved (means_it world.image is.r u id _ _ resolved (ViewsAt list n) is.read inside_read m links);
                fits = taken_fits (unit_at is.r.links u).head _ _ (taken_value_at old own taken_read (e.first + column) known) (offset_fits (debug_info world.image) (debug_abbrev world.image) (unit_at is.r.links u) unit_is id inside column below);
              };
        }

    -- so all values of the unit do, as it is written
    pub unit_means : UnitMeans world own u
    unit_means = record {
      known = known;
      values = taken_all_values (unit_in world.units u) own taken (subst (λ (h : HeadAndForest). HaveAllValues h.forest) (sym unit_held) (all_values (debug_info world.image) (debug_abbrev world.image) (unit_at is.r.links u) unit_is));
      same = ap (λ (h : HeadAndForest). h.forest.entries) taken.same;
      entries = λ id inside.
          let within : id < length (unit_at is.r.links u).forest.entries = subst (λ (h : HeadAndForest). id < length h.forest.entries) unit_held inside in
          let e : EntryIn world u id (unit_in world.units u) (table_for world u) own = subst (λ (h : HeadAndForest). EntryIn world u id h (table_for world u) own) (sym unit_held) (subst (λ (t : Listing). EntryIn world u id (head_and_forest (unit_at is.r.links u)) t own) (sym table_held) (entry_read id within)) in
          let size : length world.units ≡ length is.r.links.units = held_count world.image world is.r is.holds in
          let count : length world.table_of ≡ length is.r.links.units = is.holds.tables.count in
          let there : u < length is.r.links.units = inside_read in
          record {
            unit = known;
            numbered = omega arith;
            table = is.holds.tables.inside u there;
            entry = inside;
            declared = e.declared;
            counted = e.counted;
            columns = e.columns;
            values = e.values;
            means = e.means;
          };
    }

  type_there : (type : Option ℕ) → MeansType is.r.links u type → (unit_at is.r.links u).head.kind ≡ type_unit → (id : ℕ) × IsEntryAt (unit_at is.r.links u).forest id ((unit_at is.r.links u).head.at + (unit_at is.r.links u).head.type_at)
  type_there (Some id) means kind = (id, means.1)
  type_there None means kind = absurd (means kind)

  pub has_type : HasType (unit_in world.units u)
  has_type = subst HasType (sym unit_held) (λ kind. let t = type_there (slice_index_or is.debug.units u (record { unit_type = 0; signature = 0; type_entry = None; forest = [] })).type_entry means_unit.type_entry kind in (t.0, t.1.0, t.1.1))
