-- Values that stand in entries: where they are held, and that they mean something.
use Rattle.std.proofs.Common.{◌≡◌, ◌<◌, ◌+◌, ◌∙◌, ℕ, List, [], length, get_or, sym, ap, subst, arith}
use Rattle.std.specs.Prelude.{None, false}
use Rattle.form_codec.specs.declared.value.Value.{Value}
use Rattle.form_codec.specs.Forms.{Meaning}
use Rattle.form_codec.specs.Forms.Meaning.{Address}
use Rattle.form_codec.specs.Values.{LiesIn, meant_in}
use Rattle.entry_arena.specs.Arena.{value_at}
use Rattle.entry_read.specs.Units.{HeadAndForest}
use Rattle.value_links.specs.Sections.{debug_info, debug_abbrev}
use Rattle.value_links.specs.Reading.{Reading, unit_at, IsUnitRead}
use Rattle.value_links.specs.Values.{entry_of, described_at}
use Rattle.value_links.specs.Whole.{IsReading}
use Rattle.value_links.specs.Resolved.{Resolved, Resolves}
use Rattle.value_links.specs.Resolved.Resolved.{Kept}
use Rattle.value_links.specs.Debug.{EntryMeaning, UnitMeaning, Debug, MeansAttribute, MeansEntry, MeansUnit, MeansDebug}
use Rattle.value_links.specs.Links.{held_at}
use Rattle.value_links.specs.World.{World, Holds}
use Rattle.same_meaning.specs.inside.Compared.{StandsIn}
use Rattle.same_meaning.proofs.ReadUnits.{held_unit, unit_read}
use Rattle.same_meaning.proofs.EntryColumns.{IsOfColumn, of_column, attribute_is, attributes_size, number_inside, value_lies}
use Rattle.same_meaning.proofs.EntryMeanings.{entry_here, forest_count}
use Rattle.same_meaning.proofs.ZippedMeanings.{zip_at}

abbrev no_unit_meaning : UnitMeaning
no_unit_meaning = record { unit_type = 0; signature = 0; type_entry = None; forest = [] }

abbrev no_entry : EntryMeaning
no_entry = record { depth = 0; tag = 0; children = false; attributes = [] }

module _ (world : World) (r : Reading) (u id name number : ℕ) (read : IsReading world.image r) (holds : Holds world.image world r) (stands : StandsIn r u id name number) where
  is : IsUnitRead (debug_info world.image) (debug_abbrev world.image) (unit_at r.links u)
  is = unit_read world.image r u read stands.0

  column : IsOfColumn (unit_at r.links u) id number name stands.1.0
  column = of_column (debug_info world.image) (debug_abbrev world.image) (unit_at r.links u) is id stands.1.2.known number name stands.1.0 stands.1.1 stands.1.2

  -- the entry and the value are held
  pub entry_there : id < length (held_at world.units u).forest.entries
  entry_there = subst (λ (h : HeadAndForest). id < length h.forest.entries) (sym (held_unit world r u holds)) stands.1.2.known

  pub value_there : number < length (held_at world.units u).forest.values
  value_there =
      subst (λ (h : HeadAndForest). number < length h.forest.values) (sym (held_unit world r u holds)) (number_inside (debug_info world.image) (debug_abbrev world.image) (unit_at r.links u) is id number name stands.1.0 stands.1.1 stands.1.2)

  module _ (v : Value) (held : v ≡ value_at (held_at world.units u).forest.values number) where
    pub value_same : v ≡ value_at (unit_at r.links u).forest.values number
    value_same = held ∙ ap (λ (h : HeadAndForest). value_at h.forest.values number) (held_unit world r u holds)

    -- its bytes lie in the section
    pub lies : LiesIn (length (held_at world.units u).forest.section) v
    lies =
        let inside = number_inside (debug_info world.image) (debug_abbrev world.image) (unit_at r.links u) is id number name stands.1.0 stands.1.1 stands.1.2 in
        let here : LiesIn (length (unit_at r.links u).forest.section) v = subst (LiesIn (length (unit_at r.links u).forest.section)) (sym value_same) (value_lies (debug_info world.image) (debug_abbrev world.image) (unit_at r.links u) is number inside) in
        subst (λ (h : HeadAndForest). LiesIn (length h.forest.section) v) (sym (held_unit world r u holds)) here

    pub meant : stands.1.0 ≡ meant_in (unit_at r.links u).forest.section v
    meant = column.meant ∙ ap (meant_in (unit_at r.links u).forest.section) (sym value_same)

    -- it means something
    pub resolves : (debug : Debug) → MeansDebug world.image r debug → (value : Resolved) × Resolves r u id name (meant_in (unit_at r.links u).forest.section v) value
    resolves debug means =
        let count : length debug.units ≡ length r.links.units = means.units.count in
        let inside : u < length r.links.units = stands.0 in
        let unit : MeansUnit r u (get_or debug.units u no_unit_meaning) = means.units.each u no_unit_meaning (omega arith) in
        let forest : List EntryMeaning = (get_or debug.units u no_unit_meaning).forest in
        let size : length forest ≡ length (unit_at r.links u).forest.entries = forest_count r u forest unit.forest in
        let known : id < length (unit_at r.links u).forest.entries = stands.1.2.known in
        let entry : MeansEntry r u id (described_at (unit_at r.links u) id) (get_or forest id no_entry) = entry_here r u id (get_or forest id no_entry) known (λ d. unit.forest.each id d no_entry (omega arith)) in
        let k : ℕ = column.column in
        let d : ℕ × Meaning = (0, Address 0) in
        let b : ℕ × Resolved = (0, Kept 0) in
        let many : length (described_at (unit_at r.links u) id).attributes ≡ (entry_of (unit_at r.links u) id).count = attributes_size (debug_info world.image) (debug_abbrev world.image) (unit_at r.links u) is id known in
        let below : k < (entry_of (unit_at r.links u) id).count = column.inside in
        let attribute : MeansAttribute r u id (get_or (described_at (unit_at r.links u) id).attributes k d) (get_or (get_or forest id no_entry).attributes k b) = zip_at (MeansAttribute r u id) (described_at (unit_at r.links u) id).attributes (get_or forest id no_entry).attributes k d b entry.attributes (omega arith) in
        let value : Resolved = (get_or (get_or forest id no_entry).attributes k b).1 in
        let there : get_or (described_at (unit_at r.links u) id).attributes k d ≡ (name, meant_in (unit_at r.links u).forest.section v) =
        attribute_is (debug_info world.image) (debug_abbrev world.image) (unit_at r.links u) is id known k d below
        ∙ ap (λ (n : ℕ). (n, meant_in (unit_at r.links u).forest.section (value_at (unit_at r.links u).forest.values ((entry_of (unit_at r.links u) id).first + k)))) (sym column.named)
        ∙ ap (λ (n : ℕ). (name, meant_in (unit_at r.links u).forest.section (value_at (unit_at r.links u).forest.values n))) (sym column.numbered)
        ∙ ap (λ (w : Value). (name, meant_in (unit_at r.links u).forest.section w)) (sym value_same) in
        (value, subst (λ (z : ℕ × Meaning). Resolves r u id z.0 z.1 value) there attribute.value)
