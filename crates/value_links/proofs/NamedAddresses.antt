-- Whether entries name address tables, by what is held.
use Rattle.std.proofs.Common.{◌≡◌, ◌<◌, ◌+◌, true≢false, ℕ, List, length, sym, ap, subst, refl}
use Rattle.form_codec.specs.declared.value.Value.{Value}
use Rattle.form_codec.specs.declared.value.Value.TheVariants as value
use Rattle.form_codec.specs.Forms.{Meaning}
use Rattle.form_codec.specs.Forms.Meaning.{SectionPlace}
use Rattle.form_codec.specs.Values.{meant_in}
use Rattle.abbrev_tables.specs.Listings.{spec_at}
use Rattle.entry_arena.specs.Arena.{value_at}
use Rattle.entry_read.specs.Units.{HeadAndForest}
use Rattle.value_links.specs.declared.parts.Parts.{Parts}
use Rattle.value_links.specs.Sections.{debug_info, debug_abbrev}
use Rattle.value_links.specs.Attributes.{addr_base}
use Rattle.value_links.specs.Reading.{Linkable, unit_at}
use Rattle.value_links.specs.Values.{entry_of, declaration_of, HasValueAt}
use Rattle.value_links.specs.Whole.{HasAddrBase}
use Rattle.value_links.specs.World.{head_and_forest}
use Rattle.value_links.specs.Links.{held_at}
use Rattle.value_links.specs.Parts.{HoldsParts}
use Rattle.value_links.specs.inside.Checks.{table_held, IsAddrBase, HasSomeAddrBase}
use Rattle.value_links.proofs.Bases.{is_place, place_in}
use Rattle.value_links.proofs.EntryValues.{column_of, column_stands}
use Rattle.value_links.proofs.HeldUnits.{unit_is}
use Rattle.value_links.proofs.LinkedValues.{parts_count}
use Rattle.value_links.proofs.PartValues.{known_unit, unit_same, table_same, owned}

-- only a section offset means one
offset_value : (section : List ℕ) (v : Value) (n : ℕ) → meant_in section v ≡ SectionPlace n → v ≡ value.Offset n
offset_value section (value.Offset m) n e = ap (λ (z : Meaning). value.Offset (place_in z)) e
offset_value section v n e = absurd (true≢false (sym (ap is_place e)))

based : (name : ℕ) (v : Value) → IsAddrBase name v → (n : ℕ) × (v ≡ value.Offset n) × (name ≡ addr_base)
based name (value.Offset n) is = (n, refl, is)
based name v none = absurd none

module _ (file : List ℕ) (r : Linkable) (parts : Parts) (holds : HoldsParts file r parts) where
  module _ (u : ℕ) (inside : u < length parts.units.units.items) where
    read_some : HasSomeAddrBase (held_at parts.units.units.items u) (table_held parts.units u) → HasSomeAddrBase (head_and_forest (unit_at r u)) (unit_at r u).table
    read_some some = subst (HasSomeAddrBase (head_and_forest (unit_at r u))) (table_same file r parts holds u inside) (subst (λ (z : HeadAndForest). HasSomeAddrBase z (table_held parts.units u)) (unit_same file r parts holds u inside) some)

    held_some : HasSomeAddrBase (head_and_forest (unit_at r u)) (unit_at r u).table → HasSomeAddrBase (held_at parts.units.units.items u) (table_held parts.units u)
    held_some some = subst (λ (z : HeadAndForest). HasSomeAddrBase z (table_held parts.units u)) (sym (unit_same file r parts holds u inside)) (subst (HasSomeAddrBase (head_and_forest (unit_at r u))) (sym (table_same file r parts holds u inside)) some)

    -- an attribute that is held is one that was read
    pub named_by_unit : HasSomeAddrBase (held_at parts.units.units.items u) (table_held parts.units u) → HasAddrBase r.units
    named_by_unit some =
        let unit = unit_at r u in
        let known = known_unit file r parts holds u inside in
        let there = read_some some in
        let id : ℕ = there.0 in
        let k : ℕ = there.2.0 in
        let number = (entry_of unit id).first + k in
        let is = based (spec_at (declaration_of unit id).columns k).name (value_at unit.forest.values number) there.2.2 in
        let stands = column_stands (debug_info file) (debug_abbrev file) unit (unit_is (debug_info file) (debug_abbrev file) r.units holds.read.units u known) (owned file r parts holds u inside) id k there.1 there.2.1 in
        let by_name : HasValueAt unit id number addr_base (meant_in unit.forest.section (value_at unit.forest.values number)) stands.0 = subst (λ (z : ℕ). HasValueAt unit id number z (meant_in unit.forest.section (value_at unit.forest.values number)) stands.0) is.2 stands.1 in
        (u, id, number, is.0, stands.0, known, subst (λ (z : Meaning). HasValueAt unit id number addr_base z stands.0) (ap (meant_in unit.forest.section) is.1) by_name)

    -- and one that was read is held
    unit_names : (id number n place : ℕ) → HasValueAt (unit_at r u) id number addr_base (SectionPlace n) place → HasSomeAddrBase (held_at parts.units.units.items u) (table_held parts.units u)
    unit_names id number n place h =
        let unit = unit_at r u in
        let column = column_of unit (owned file r parts holds u inside) id h.known number addr_base (SectionPlace n) place h in
        let k : ℕ = column.0 in
        let at = (entry_of unit id).first + k in
        let same : value_at unit.forest.values at ≡ value.Offset n = offset_value unit.forest.section (value_at unit.forest.values at) n (sym column.3) in
        held_some (id, h.known, (k, column.1, subst (IsAddrBase (spec_at (declaration_of unit id).columns k).name) (sym same) (sym column.2)))

  pub some_unit : HasAddrBase r.units → (u : ℕ) × (u < length parts.units.units.items) × HasSomeAddrBase (held_at parts.units.units.items u) (table_held parts.units u)
  some_unit (u, id, number, n, place, known, h) =
      let inside : u < length parts.units.units.items = subst (λ (z : ℕ). u < z) (sym (parts_count file r parts holds)) known in
      (u, inside, unit_names u inside id number n place h)
