-- What the value with a number refers to, in what is held of a valid file.
use Rattle.std.proofs.Common.{◌≡◌, ◌≤◌, ◌<◌, ◌+◌, ◌-◌, ◌∙◌, ℕ, List, length, sym, ap, subst, refl, arith}
use Rattle.std.specs.Prelude.{Some}
use Rattle.dw_base.specs.declared.fault.Reach.{Reach}
use Rattle.dw_base.specs.declared.fault.Span.{Span}
use Rattle.form_codec.specs.declared.value.Value.{Value}
use Rattle.form_codec.specs.declared.value.Value.TheVariants as value_is
use Rattle.form_codec.specs.Values.{meant_in}
use Rattle.abbrev_tables.specs.Listings.{Listing, spec_at}
use Rattle.entry_arena.specs.Arena.{Arena, entry_at, value_at}
use Rattle.entry_arena.proofs.StepLaws.{values_front}
use Rattle.entry_read.specs.Units.{HeadAndForest, declarations_of, IsTable}
use Rattle.entry_read.specs.Places.{HaveOwners, StandsAtColumn}
use Rattle.entry_read.proofs.PlaceLaws.{entry_stands}
use Rattle.value_links.specs.declared.link.Link.{Link}
use Rattle.value_links.specs.declared.link.Link.TheVariants.{Plain}
use Rattle.value_links.specs.declared.units.NamedTable.{NamedTable}
use Rattle.value_links.specs.Sections.{debug_info, debug_abbrev}
use Rattle.value_links.specs.Reading.{UnitRead, Linkable, Reading, declarations, unit_at, unit_among, IsUnitRead}
use Rattle.value_links.specs.Values.{entry_of, declaration_of, values_of, HasValueAt}
use Rattle.value_links.specs.inside.Values.{meaning_at}
use Rattle.value_links.specs.Linked.{Linked, Links}
use Rattle.value_links.specs.Linked.Linked.{Operates}
use Rattle.value_links.specs.inside.Owners.{IsOwner, name_with}
use Rattle.value_links.specs.Links.{held_at, IsFollowed, HasLink, IsLinkFound}
use Rattle.value_links.specs.World.{World, head_and_forest, Holds, IsWorldOf}
use Rattle.value_links.specs.inside.World.{own_table}
use Rattle.value_links.proofs.HeldUnits.{unit_is, unit_owners, held_count, held_is}
use Rattle.value_links.proofs.HeldLinks.{units_held, link_alike, world_alike}
use Rattle.value_links.proofs.EntryValues.{stands_at}
use Rattle.value_links.proofs.Meaningful.{valid_values}

-- an entry of a unit that was read has each value that is among its own, as that of the attribute with the column's name
module _ (info abbrevs : List ℕ) (unit : UnitRead) (is : IsUnitRead info abbrevs unit) (owned : HaveOwners (declarations unit) unit.forest) (id number : ℕ) (owner : IsOwner unit.forest.entries id number) where
  owned_value : (place : ℕ) × HasValueAt unit id number (name_with (declarations unit) (entry_of unit id) number) (meaning_at unit number) place
  owned_value =
      let k : ℕ = number - (entry_of unit id).first in
      let from : (entry_of unit id).first ≤ number = owner.from in
      let to : number < (entry_of unit id).first + (entry_of unit id).count = owner.to in
      let same : (entry_of unit id).first + k ≡ number = omega arith in
      let s = entry_stands info unit.head (declarations unit) unit.forest is.section is.entries id owner.known in
      let front = values_front unit.forest.section (declaration_of unit id).columns (values_of unit id) s.values_at ((entry_of unit id).at + (entry_of unit id).len) k s.valued in
      let at : StandsAtColumn unit.forest.section (declarations unit) unit.forest.values (entry_of unit id) k front.0 = record { values_at = s.values_at; coded = s.coded; valued = front.1 } in
      (front.0, subst (λ (z : ℕ). HasValueAt unit id z (spec_at (declaration_of unit id).columns k).name (meant_in unit.forest.section (value_at unit.forest.values z)) front.0) same (stands_at unit owned id owner.known k front.0 (omega arith) at))

module _ (world : World) (reach : Reach) (is : IsWorldOf world.image reach world) (u : ℕ) (inside : u < length world.units) where
  known : u < length is.r.links.units
  known = subst (λ (n : ℕ). u < n) (held_count is.r.links.units world.units is.holds.units) inside

  unit_held : held_at world.units u ≡ head_and_forest (unit_at is.r.links u)
  unit_held = held_is is.r.links.units world.units is.holds.units u known

  table_held : own_table world u ≡ (unit_at is.r.links u).table
  table_held = ap (λ (t : NamedTable). t.table) (is.holds.tables.each u known)

  unit_read : IsUnitRead (debug_info world.image) (debug_abbrev world.image) (unit_at is.r.links u)
  unit_read = unit_is (debug_info world.image) (debug_abbrev world.image) is.r.links.units is.read.links.units u known

  owned : HaveOwners (declarations (unit_at is.r.links u)) (unit_at is.r.links u).forest
  owned = unit_owners (debug_info world.image) (debug_abbrev world.image) is.r.links.units is.read.links.units u known

  -- the table of the unit is one, and by it each value of the unit is that of an entry
  pub own_stands : IsTable (own_table world u)
  own_stands = subst IsTable (sym table_held) (debug_abbrev world.image, (unit_at is.r.links u).head.table, unit_read.table)

  pub own_owners : HaveOwners (declarations_of (own_table world u)) (held_at world.units u).forest
  own_owners =
      subst (λ (t : Listing). HaveOwners (declarations_of t) (held_at world.units u).forest) (sym table_held)
      (subst (λ (z : HeadAndForest). HaveOwners (declarations (unit_at is.r.links u)) z.forest) (sym unit_held) owned)

  -- an entry that has the value with a number, and the name of the attribute
  module _ (forest : Arena) (f : forest ≡ (held_at world.units u).forest) (table : Listing) (t : table ≡ own_table world u) (id number name : ℕ) (owner : IsOwner forest.entries id number) (n : name ≡ name_with (declarations_of table) (entry_at forest.entries id) number) (value : Value) (v : value ≡ value_at forest.values number) where
    forest_same : forest ≡ (unit_at is.r.links u).forest
    forest_same = f ∙ ap (λ (z : HeadAndForest). z.forest) unit_held

    name_same : name ≡ name_with (declarations (unit_at is.r.links u)) (entry_of (unit_at is.r.links u) id) number
    name_same =
        n
        ∙ ap (λ (z : Listing). name_with (declarations_of z) (entry_at forest.entries id) number) (t ∙ table_held)
        ∙ ap (λ (z : Arena). name_with (declarations (unit_at is.r.links u)) (entry_at z.entries id) number) forest_same

    stands_own : (place : ℕ) × HasValueAt (unit_at is.r.links u) id number name (meaning_at (unit_at is.r.links u) number) place
    stands_own =
        let there = owned_value (debug_info world.image) (debug_abbrev world.image) (unit_at is.r.links u) unit_read owned id number (subst (λ (z : Arena). IsOwner z.entries id number) forest_same owner) in
        (there.0, subst (λ (z : ℕ). HasValueAt (unit_at is.r.links u) id number z (meaning_at (unit_at is.r.links u) number) there.0) (sym name_same) there.1)

    value_same : value_at (unit_at is.r.links u).forest.values number ≡ value
    value_same = sym (v ∙ ap (λ (z : Arena). value_at z.values number) forest_same)

    -- the value refers to something
    pub value_links : (linked : Linked) × Links is.r.links u id name (meant_in (unit_at is.r.links u).forest.section value) linked
    value_links =
        let there = valid_values world.image reach is.r.links is.read.links is.valid u id number name (meaning_at (unit_at is.r.links u) number) stands_own.0 known stands_own.1 in
        (there.0, subst (λ (z : Value). Links is.r.links u id name (meant_in (unit_at is.r.links u).forest.section z) there.0) value_same there.1)

    -- what is found of it is its link, in each reading that is held so
    module _ (file : List ℕ) (r : Reading) (holds : Holds file world r) where
      units_same : is.r.links.units ≡ r.links.units
      units_same = units_held world reach is file r holds

      stands_there : (place : ℕ) × HasValueAt (unit_at r.links u) id number name (meaning_at (unit_at r.links u) number) place
      stands_there = subst (λ (z : List UnitRead). (place : ℕ) × HasValueAt (unit_among z u) id number name (meaning_at (unit_among z u) number) place) units_same stands_own

      value_there : value ≡ value_at (unit_at r.links u).forest.values number
      value_there = sym value_same ∙ ap (λ (z : List UnitRead). value_at (unit_among z u).forest.values number) units_same

      pub value_linked : (told link : Link) → IsLinkFound r.links u id name (meant_in (unit_at r.links u).forest.section value) (Some told) → IsFollowed r.links told link → HasLink r.links u number link
      value_linked told link (linked, links, is) followed =
          let own : Links r.links u id name (meaning_at (unit_at r.links u) number) linked = subst (λ (z : Value). Links r.links u id name (meant_in (unit_at r.links u).forest.section z) linked) value_there links in
          (linked, told, record { id = id; name = name; meaning = meaning_at (unit_at r.links u) number; place = stands_there.0; stands = stands_there.1; links = own }, is, followed)

  -- an expression refers to what its operations name
  module _ (forest : Arena) (f : forest ≡ (held_at world.units u).forest) (number : ℕ) (counted : number < length forest.values) (value : Value) (v : value ≡ value_at forest.values number) (span : Span) (e : value ≡ value_is.Expr span) (file : List ℕ) (r : Reading) (holds : Holds file world r) where
    pub expression_linked : HasLink r.links u number Plain
    expression_linked =
        let own : Linkable = is.r.links in
        let section : List ℕ = (unit_at own u).forest.section in
        let table : Listing = own_table world u in
        let (id, known_id, from, to) = own_owners.owned number (subst (λ (z : Arena). number < length z.values) f counted) in
        let owner : IsOwner forest.entries id number = subst (λ (z : Arena). IsOwner z.entries id number) (sym f) (record { known = known_id; from = from; to = to }) in
        let name : ℕ = name_with (declarations_of table) (entry_at forest.entries id) number in
        let (linked, links) = value_links forest f table refl id number name owner refl value v in
        let operates = subst (λ (z : Value). Links own u id name (meant_in section z) linked) e links in
        let there : IsLinkFound own u id name (meant_in section value) (Some Plain) = subst (λ (z : Value). IsLinkFound own u id name (meant_in section z) (Some Plain)) (sym e) (Operates operates.0, (operates.0, operates.1, refl), refl) in
        let alike : IsLinkFound r.links u id name (meant_in section value) (Some Plain) = link_alike own r.links u id name (meant_in section value) (Some Plain) (world_alike world reach is file r holds) there in
        let found : IsLinkFound r.links u id name (meant_in (unit_at r.links u).forest.section value) (Some Plain) = subst (λ (z : List UnitRead). IsLinkFound r.links u id name (meant_in (unit_among z u).forest.section value) (Some Plain)) (units_held world reach is file r holds) alike in
        value_linked forest f table refl id number name owner refl value v file r holds Plain Plain found refl
