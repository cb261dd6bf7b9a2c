-- The place that the first location list of an entry tells, and view pairs that go with it, as they are found in what is held.
use Rattle.std.proofs.Common.{◌≡◌, ◌<◌, ◌+◌, ◌∙◌, true, take, drop, ℕ, List, [], length, sym, ap, subst, refl}
use Rattle.std.specs.Prelude.{Option, Some, None, MatchOption, filter}
use Rattle.form_codec.specs.declared.value.Value.{Value}
use Rattle.form_codec.specs.Forms.{Meaning}
use Rattle.form_codec.specs.Forms.Meaning.{SectionPlace, LocationList}
use Rattle.form_codec.specs.Values.{meant_in}
use Rattle.abbrev_tables.specs.Listings.{Listing}
use Rattle.entry_arena.specs.Arena.{entry_at, value_at}
use Rattle.entry_read.specs.Units.{HeadAndForest, declarations_of}
use Rattle.list_model.specs.declared.entry.ListKind.TheVariants.{Locations}
use Rattle.list_model.specs.Contributions.{ContributionsTile}
use Rattle.value_links.specs.declared.link.Link.TheVariants.{Views as TheViews}
use Rattle.value_links.specs.declared.parts.Parts.{Parts}
use Rattle.value_links.specs.Attributes.OffsetClass.{Views}
use Rattle.value_links.specs.Reading.{ListSection, Linkable, unit_at}
use Rattle.value_links.specs.Values.{described_at}
use Rattle.value_links.specs.ListPlaces.{IsListPlace, IsSlot, IsBaseOf}
use Rattle.value_links.specs.Linked.{is_located, TellsPlace, IsFirstLocated, AreTogether, ViewLinks, OffsetLinks}
use Rattle.value_links.specs.Linked.Linked.{ViewsAt}
use Rattle.value_links.specs.Links.{held_at, IsFoundFor}
use Rattle.value_links.specs.Parts.{HoldsParts, section_held}
use Rattle.value_links.specs.inside.Checks.{table_held, name_at, IsUnitWithTable, attributes_at, IsAttributeAt}
use Rattle.value_links.proofs.LinkedOnce.{located_once}
use Rattle.value_links.proofs.PartPlaces.{place_once}
use Rattle.value_links.proofs.PartValues.{unit_same, attributes_held}
use Rattle.value_links.proofs.Passing.{split_at, none_among, first_once}
use Rattle.value_links.proofs.RootValues.{attribute_there}

-- THE PLACE THAT A VALUE TELLS

-- the place that a value tells, or none
abbrev pub IsPlaceTold : Linkable → ℕ → Meaning → Option ℕ → Type 0
IsPlaceTold r u meaning found = MatchOption found ((list : ℕ) → ¬ TellsPlace r u meaning list) (TellsPlace r u meaning)

module _ (file : List ℕ) (r : Linkable) (parts : Parts) (holds : HoldsParts file r parts) (u : ℕ) where
  section_same : section_held parts.locations ≡ r.locations
  section_same = holds.lists Locations

  pub offset_told : (n p : ℕ) → IsListPlace (section_held parts.locations) p n → IsPlaceTold r u (SectionPlace n) (Some n)
  offset_told n p here = ((p, subst (λ (z : ListSection). IsListPlace z p n) section_same here), refl)

  pub no_offset_told : (n : ℕ) → ((p : ℕ) → ¬ IsListPlace (section_held parts.locations) p n) → IsPlaceTold r u (SectionPlace n) None
  no_offset_told n none = λ list ((p, here), e). none p (subst (λ (z : ListSection). IsListPlace z p n) (sym section_same) here)

  pub index_told : (i p slot list : ℕ) → IsBaseOf r u Locations p → slot ≡ i → IsSlot (section_held parts.locations) p slot list → IsPlaceTold r u (LocationList i) (Some list)
  index_told i p slot list base one tells = (p, base, subst (λ (z : ℕ). IsSlot r.locations p z list) one (subst (λ (z : ListSection). IsSlot z p slot list) section_same tells))

  -- THE FIRST LOCATION LIST

  module _ (inside : u < length parts.units.units.items) (id : ℕ) where
    same : attributes_at (held_at parts.units.units.items u).forest (declarations_of (table_held parts.units u)) id ≡ (described_at (unit_at r u) id).attributes
    same = attributes_held file r parts holds u inside id (held_at parts.units.units.items u) (table_held parts.units u) refl refl

    pub no_location : filter is_located (attributes_at (held_at parts.units.units.items u).forest (declarations_of (table_held parts.units u)) id) ≡ [] → (list : ℕ) → ¬ IsFirstLocated r u id list
    no_location none = λ list f. none_among is_located (described_at (unit_at r u) id).attributes f.before f.attribute f.after (ap (filter is_located) (sym same) ∙ none) f.parts f.located

    module _ (k name : ℕ) (v : Value) (at : IsAttributeAt (attributes_at (held_at parts.units.units.items u).forest (declarations_of (table_held parts.units u)) id) k (name, meant_in (held_at parts.units.units.items u).forest.section v)) (none : filter is_located (take k (attributes_at (held_at parts.units.units.items u).forest (declarations_of (table_held parts.units u)) id)) ≡ []) (is : is_located (name, meant_in (unit_at r u).forest.section v) ≡ true) where
      at_there : IsAttributeAt (described_at (unit_at r u) id).attributes k (name, meant_in (unit_at r u).forest.section v)
      at_there =
          subst (λ (z : HeadAndForest). IsAttributeAt (described_at (unit_at r u) id).attributes k (name, meant_in z.forest.section v)) (unit_same file r parts holds u inside)
          (subst (λ (z : List (ℕ × Meaning)). IsAttributeAt z k (name, meant_in (held_at parts.units.units.items u).forest.section v)) same at)

      none_there : filter is_located (take k (described_at (unit_at r u) id).attributes) ≡ []
      none_there = ap (λ (z : List (ℕ × Meaning)). filter is_located (take k z)) (sym same) ∙ none

      pub first_location : (found : Option ℕ) → IsPlaceTold r u (meant_in (unit_at r u).forest.section v) found → MatchOption found ((list : ℕ) → ¬ IsFirstLocated r u id list) (IsFirstLocated r u id)
      first_location (Some list) tells = record {
        before = take k (described_at (unit_at r u) id).attributes;
        attribute = (name, meant_in (unit_at r u).forest.section v);
        after = drop (k + 1) (described_at (unit_at r u) id).attributes;
        parts = split_at (described_at (unit_at r u) id).attributes k (name, meant_in (unit_at r u).forest.section v) at_there;
        first = none_there;
        located = is;
        tells = tells;
      }
      first_location None nothing = λ list f.
          let attributes = (described_at (unit_at r u) id).attributes in
          let a : ℕ × Meaning = (name, meant_in (unit_at r u).forest.section v) in
          let one : f.attribute ≡ a = (first_once is_located f.before f.attribute f.after (take k attributes) a (drop (k + 1) attributes) (sym f.parts ∙ split_at attributes k a at_there) f.first none_there f.located is).1 in
          nothing list (subst (λ (z : ℕ × Meaning). TellsPlace r u z.1 list) one f.tells)

-- the attribute of a column, as it is held
pub attribute_held : (held unit : HeadAndForest) (of table : Listing) → unit ≡ held → table ≡ of → IsUnitWithTable unit table → (id k name : ℕ) (v : Value) → id < length unit.forest.entries → k < (entry_at unit.forest.entries id).count → name ≡ name_at (declarations_of table) (entry_at unit.forest.entries id) k → v ≡ value_at unit.forest.values ((entry_at unit.forest.entries id).first + k) → IsAttributeAt (attributes_at held.forest (declarations_of of) id) k (name, meant_in held.forest.section v)
attribute_held held unit of table e t is id k name v known inside named valued =
    subst (λ (z : Listing). IsAttributeAt (attributes_at held.forest (declarations_of z) id) k (name, meant_in held.forest.section v)) t
    (subst (λ (z : HeadAndForest). IsAttributeAt (attributes_at z.forest (declarations_of table) id) k (name, meant_in z.forest.section v)) e (attribute_there unit table is id known k inside name v named valued))

-- WHAT GOES TOGETHER

module _ (section : ListSection) (tiled : ContributionsTile section.section section.parts) (list n p : ℕ) (here : IsListPlace section p list) where
  pub one_part : (q : ℕ) → IsListPlace section q n → q ≡ p → AreTogether section list n
  one_part q there same = λ begins. (p, here, subst (λ (z : ℕ). IsListPlace section z n) same there)

  pub same_part : (q : ℕ) → IsListPlace section q n → AreTogether section list n → q ≡ p
  same_part q there together =
      let (k, first, second) = together (p, here) in
      place_once section.section section.parts tiled n q k there second ∙ place_once section.section section.parts tiled list k p first here

-- VIEW PAIRS

-- the list with which view pairs at a place go, or none
abbrev pub IsViewed : Linkable → ℕ → ℕ → ℕ → Option ℕ → Type 0
IsViewed r u id n found = MatchOption found ((list : ℕ) → ¬ ViewLinks r u id n (ViewsAt list n)) (λ list. ViewLinks r u id n (ViewsAt list n))

pub none_viewed : (r : Linkable) (u id n : ℕ) → ((list : ℕ) → ¬ IsFirstLocated r u id list) → IsViewed r u id n None
none_viewed r u id n none = λ list (other, here, together, e). none other here

module _ (file : List ℕ) (r : Linkable) (parts : Parts) (holds : HoldsParts file r parts) (u id list n : ℕ) (located : IsFirstLocated r u id list) where
  pub viewed : AreTogether (section_held parts.locations) list n → IsViewed r u id n (Some list)
  viewed together = (list, located, subst (λ (z : ListSection). AreTogether z list n) (holds.lists Locations) together, refl)

  pub not_viewed : (¬ AreTogether (section_held parts.locations) list n) → IsViewed r u id n None
  not_viewed apart = λ other (of, here, together, e). apart (subst (λ (z : ℕ). AreTogether (section_held parts.locations) z n) (located_once file r holds.read u id of list here located) (subst (λ (z : ListSection). AreTogether z of n) (sym (holds.lists Locations)) together))

-- the link that tells it
pub views_link : (r : Linkable) (u id n list : ℕ) → IsViewed r u id n (Some list) → IsFoundFor (OffsetLinks r u id Views n) (Some (TheViews list n))
views_link r u id n list links = (ViewsAt list n, links, refl)

pub no_views_link : (r : Linkable) (u id n : ℕ) → IsViewed r u id n None → IsFoundFor (OffsetLinks r u id Views n) None
no_views_link r u id n none = λ linked (list, here, together, e). none list (list, here, together, refl)
