-- View pairs that are named go with a location list that something names, and stand in its contribution.
use Rattle.std.proofs.Common.{◌≡◌, ◌<◌, ◌+◌, ◌^◌, ◌++◌, ◌∙◌, inl, ℕ, zero, suc, List, [], ◌∷◌, length, get_or, true, sym, ap, subst, refl, arith}
use Rattle.std.specs.List.{All, Contains}
use Rattle.std.proofs.Math.Seq.{get_or-append_seam}
use Rattle.std.proofs.lemmas.Bool.{eqb-true}
use Rattle.std.proofs.lemmas.List.{length-append, get_or_default}
use Rattle.form_codec.specs.declared.value.Value.{Value}
use Rattle.form_codec.specs.Forms.{Meaning}
use Rattle.form_codec.specs.Forms.Meaning.{SectionPlace, LocationList}
use Rattle.form_codec.specs.Values.{meant_in}
use Rattle.abbrev_tables.specs.declared.decl.Spec.{Spec}
use Rattle.abbrev_tables.specs.Listings.{spec_at}
use Rattle.entry_arena.specs.Arena.{value_at}
use Rattle.entry_arena.proofs.SpellingLaws.{attributes_count, attribute_at}
use Rattle.entry_read.specs.Places.{HaveOwners}
use Rattle.list_model.specs.declared.entry.ListKind.TheVariants.{Locations}
use Rattle.list_model.specs.declared.entry.RawEntry.{RawEntry}
use Rattle.list_model.specs.Contributions.{ContributionsTile}
use Rattle.list_arena.specs.Held.{HeldList, AreListsApart}
use Rattle.value_links.specs.declared.parts.Parts.{Parts}
use Rattle.value_links.specs.Sections.{debug_info, debug_abbrev}
use Rattle.value_links.specs.Attributes.{offset_class, location}
use Rattle.value_links.specs.Reading.{ListSection, Linkable, unit_at, part_at, list_at, declarations}
use Rattle.value_links.specs.Values.{entry_of, declaration_of, values_of, described_at}
use Rattle.value_links.specs.ListPlaces.{IsListPlace, IsSlot, SlotNames}
use Rattle.value_links.specs.Linked.{OffsetLinks, is_located, TellsPlace, IsFirstLocated, AreTogether}
use Rattle.value_links.specs.Linked.Linked.{ListAt, SlotAt}
use Rattle.value_links.specs.Lists.{IsNamedIn, IsListOf, IsListIn, AreViewsNamed}
use Rattle.value_links.specs.Whole.{IsReadToLinks}
use Rattle.value_links.specs.World.{HoldsList}
use Rattle.value_links.specs.Parts.{section_held}
use Rattle.value_links.specs.inside.Namings.{ValueNames, ColumnNames}
use Rattle.value_links.specs.inside.Views.{AreViewings, AreLocationsHeld, IsListFrom, HasListFrom, HaveLists}
use Rattle.value_links.proofs.HeldUnits.{unit_owners}
use Rattle.value_links.proofs.Causes.{own_value, own_count}
use Rattle.value_links.proofs.Followed.{lists_apart}
use Rattle.value_links.proofs.HeldLists.{place_inside}
use Rattle.value_links.proofs.ListsOnce.{place_once}
use Rattle.value_links.proofs.NamingValues.{unit_naming_is}
use Rattle.value_links.proofs.Viewings.{views_told}

-- WHAT A LOCATION NAMES

-- each slot of a section names a list
abbrev pub AreFollowed : ListSection → Type 0
AreFollowed section = (p i : ℕ) → p < length section.parts → i < (part_at section p).slots → (at : ℕ) × SlotNames section p i at

-- so a slot that tells a place names the list there
slot_names : (section : ListSection) → AreFollowed section → (p i list : ℕ) → IsSlot section p i list → SlotNames section p i list
slot_names section slots p i list slot =
    let (at, named) = slots p i slot.known slot.counted in
    subst (SlotNames section p i) (named.0.tells ∙ sym slot.tells) named

module _ (r : Linkable) (slots : AreFollowed r.locations) (u id : ℕ) where
  located_offset : (name n : ℕ) → name ≡ location → OffsetLinks r u id (offset_class location) n (ListAt Locations n) → OffsetLinks r u id (offset_class name) n (ListAt Locations n)
  located_offset name n e links = subst (λ (z : ℕ). OffsetLinks r u id (offset_class z) n (ListAt Locations n)) (sym e) links

  -- the value of a location names the list that it tells
  located_names : (name : ℕ) (meaning : Meaning) (list : ℕ) → is_located (name, meaning) ≡ true → TellsPlace r u meaning list → ValueNames r Locations u id name meaning list
  located_names name (SectionPlace n) list is (here, e) = (ListAt Locations n, located_offset name n (eqb-true name location is) (here, refl), (refl, e))
  located_names name (LocationList i) list is (p, base, slot) = (SlotAt Locations p i, (p, base, slot.counted, refl), (refl, slot_names r.locations slots p i list slot))
  located_names name meaning list is tells = absurd tells

module _ (file : List ℕ) (r : Linkable) (read : IsReadToLinks file r) (u id : ℕ) (known : u < length r.units) (inside : id < length (unit_at r u).forest.entries) where
  owned : HaveOwners (declarations (unit_at r u)) (unit_at r u).forest
  owned = unit_owners (debug_info file) (debug_abbrev file) r.units read.units u known

  -- an attribute with so many before it is that of the column with this number
  attribute_is : (before : List (ℕ × Meaning)) (attribute : ℕ × Meaning) (after : List (ℕ × Meaning)) → (described_at (unit_at r u) id).attributes ≡ before ++ attribute ∷ after
      → (length before < (entry_of (unit_at r u) id).count) × (attribute ≡ ((spec_at (declaration_of (unit_at r u) id).columns (length before)).name, meant_in (unit_at r u).forest.section (value_at (unit_at r u).forest.values ((entry_of (unit_at r u) id).first + length before))))
  attribute_is before attribute after parts =
      let unit = unit_at r u in
      let section : List ℕ = unit.forest.section in
      let columns : List Spec = (declaration_of unit id).columns in
      let values : List Value = values_of unit id in
      let k : ℕ = length before in
      let first : ℕ = (entry_of unit id).first in
      let counted : (entry_of unit id).count ≡ length columns = owned.counted id inside in
      let valued : length values ≡ (entry_of unit id).count = own_count unit.forest.values first (entry_of unit id).count (owned.inside id inside) in
      let all : length (described_at unit id).attributes ≡ length columns = attributes_count section columns values (valued ∙ counted) in
      let whole : length (described_at unit id).attributes ≡ length (before ++ attribute ∷ after) = ap length parts in
      let sum : length (before ++ attribute ∷ after) ≡ length before + length (attribute ∷ after) = length-append before (attribute ∷ after) in
      let below : k < (entry_of unit id).count = omega arith in
      let here : get_or (described_at unit id).attributes k attribute ≡ attribute = ap (λ (z : List (ℕ × Meaning)). get_or z k attribute) parts ∙ get_or-append_seam before attribute after attribute in
      let there : get_or (described_at unit id).attributes k attribute ≡ ((spec_at columns k).name, meant_in section (value_at values k)) = attribute_at section columns values k attribute (valued ∙ counted) (omega arith) in
      (below, sym here ∙ there ∙ ap (λ (z : Value). ((spec_at columns k).name, meant_in section z)) (own_value unit.forest.values first (entry_of unit id).count k below))

  -- the first location of an entry names its list
  first_names : AreFollowed r.locations → (list : ℕ) → IsFirstLocated r u id list → IsNamedIn r Locations list u
  first_names slots list f =
      let k : ℕ = length f.before in
      let (below, is) = attribute_is f.before f.attribute f.after f.parts in
      let names : ValueNames r Locations u id f.attribute.0 f.attribute.1 list = located_names r slots u id f.attribute.0 f.attribute.1 list f.located f.tells in
      let column : ColumnNames r Locations u id k list = subst (λ (z : ℕ × Meaning). ValueNames r Locations u id z.0 z.1 list) is names in
      unit_naming_is file r read Locations (list, u) (u, known, (id, inside, (k, below, (column, refl))))

-- so view pairs go with a list that something names
module _ (file : List ℕ) (r : Linkable) (read : IsReadToLinks file r) where
  pub views_list : AreFollowed r.locations → (list at : ℕ) → AreViewsNamed r list at → (u : ℕ) × IsNamedIn r Locations list u
  views_list slots list at (u, number, known, l) =
      let told = views_told r u l.id list at l.name l.meaning l.links in
      (u, first_names file r read u l.id known l.stands.known slots list told.first)

pub views_together : (r : Linkable) (list at : ℕ) → AreViewsNamed r list at → AreTogether r.locations list at
views_together r list at (u, number, known, l) = (views_told r u l.id list at l.name l.meaning l.links).together

-- WHAT IS HELD

-- the thing with a number
pub nth : {X : Type 0} (xs : List X) (k : ℕ) → k < length xs → (x : X) × (get_or xs k x ≡ x)
nth [] k inside = absurd (omega arith)
nth (x ∷ xs) zero inside = (x, refl)
nth (x ∷ xs) (suc k) inside = nth xs k (omega arith)

-- a location list is read at its place
abbrev pub IsReadAt : ListSection → ℕ → ℕ → List RawEntry → Type 0
IsReadAt section part at raws = IsListPlace section part at × IsListOf Locations section.section (part_at section part) at raws

module _ (parts : Parts) (held : List HeldList) (located : AreLocationsHeld parts held) where
  abbrev section : ListSection
  section = section_held parts.locations

  abbrev own : Linkable
  own = located.1

  own_same : section ≡ own.locations
  own_same = located.3.lists Locations

  pub held_apart : AreListsApart held
  held_apart = lists_apart own Locations located.2 held located.4 located.5

  pub held_followed : AreFollowed section
  held_followed = subst AreFollowed (sym own_same) located.4.slots

  module _ (list : HeldList) (has : Contains held list) where
    own_list : HoldsList own Locations (list_at located.2 has.0) list
    own_list =
        let count : length held ≡ length located.2 = located.5.count in
        let (k, inside, is) = has in
        subst (HoldsList own Locations (list_at located.2 k)) is (located.5.each k list (omega arith))

    own_in : IsListIn own Locations (list_at located.2 has.0)
    own_in = let count : length held ≡ length located.2 = located.5.count in let (k, inside, is) = has in located.4.each k (omega arith)

    pub list_read : IsReadAt section list.part list.at list.raw
    list_read =
        let h = own_list in
        let there : IsReadAt own.locations (list_at located.2 has.0).part (list_at located.2 has.0).at (list_at located.2 has.0).raws = (own_in.begins, own_in.read) in
        subst (λ (z : ListSection). IsReadAt z list.part list.at list.raw) (sym own_same)
        (subst (λ (z : ℕ). IsReadAt own.locations z list.at list.raw) (sym h.part)
        (subst (λ (z : ℕ). IsReadAt own.locations (list_at located.2 has.0).part z list.raw) (sym h.at)
        (subst (λ (z : List RawEntry). IsReadAt own.locations (list_at located.2 has.0).part (list_at located.2 has.0).at z) (sym h.raws) there)))

  -- view pairs go with one of the lists
  listed : (list at : ℕ) → AreViewsNamed own list at → HasListFrom held list
  listed list at named =
      let count : length held ≡ length located.2 = located.5.count in
      let (u, one) = views_list located.0 own located.3.read located.4.slots list at named in
      let (k, inside, same) = located.4.all list (inl (u, one)) in
      let (x, is) = nth held k (omega arith) in
      (x, ((k, omega arith, is), ap (λ (z : HeldList). z.at) (sym is) ∙ (located.5.each k x inside).at ∙ same))

  module _ (viewings : List (ℕ × ℕ)) (are : AreViewings own viewings) where
    pub have_lists : HaveLists viewings held
    have_lists k d inside = listed (get_or viewings k d).1 (get_or viewings k d).0 (are.named (get_or viewings k d) (k, inside, same))
      where
        same : get_or viewings k (get_or viewings k d) ≡ get_or viewings k d
        same = get_or_default viewings k (get_or viewings k d) d inside

    -- and stand in its contribution
    module _ (tiled : ContributionsTile section.section section.parts) where
      pub stands_with : (y : ℕ × ℕ) → Contains viewings y → (list : HeldList) → IsListFrom held y.1 list → IsListPlace section list.part y.0
      stands_with y has list (one, here) =
          let together : AreTogether section y.1 y.0 = subst (λ (z : ListSection). AreTogether z y.1 y.0) (sym own_same) (views_together own y.1 y.0 (are.named y has)) in
          let begins : IsListPlace section list.part y.1 = subst (IsListPlace section list.part) here (list_read list one).0 in
          let (p, first, second) = together (list.part, begins) in
          subst (λ (z : ℕ). IsListPlace section z y.0) (place_once section tiled y.1 p list.part first begins) second

      pub have_room : (origin : ℕ) → origin + length section.section < 2 ^ 64 → All (λ (y : ℕ × ℕ). origin + y.0 < 2 ^ 64) viewings
      have_room origin room k d inside =
          let y : ℕ × ℕ = get_or viewings k d in
          let (list, from) = have_lists k d inside in
          let stands : IsListPlace section list.part y.0 = stands_with y (k, inside, get_or_default viewings k y d inside) list from in
          let below : y.0 < length section.section = place_inside section list.part y.0 tiled stands in
          omega arith
