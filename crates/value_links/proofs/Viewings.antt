-- View pairs that values name, gathered and sorted.
use Rattle.std.proofs.Common.{◌≡◌, ◌<◌, ◌+◌, ◌++◌, ◌&&◌, ◌⊎◌, ◌∙◌, inl, inr, ℕ, List, [], ◌∷◌, length, get_or, Bool, true, false, eqb, Less, true≢false, sym, ap, subst, refl, arith}
use Rattle.std.specs.Prelude.{Some, None}
use Rattle.std.specs.Cmp.{IsEquivalence, IsTotalOrder, unsigned_ties, tied_then}
use Rattle.std.specs.Ordering.{nat_cmp, is_eq, ordering_then, eq_by_cmp}
use Rattle.std.specs.List.{AllPairs, Contains, dedup}
use Rattle.std.specs.List.Sorted.{IsPermutation, IsSorted, IsStrictlySortedBy}
use Rattle.std.proofs.lemmas.Bool.{cases_eq, cases_lt, eqb-true, eq-eqb}
use Rattle.std.proofs.lemmas.Bool.Decides.{nat_tests}
use Rattle.std.proofs.lemmas.Cmp.{nat_cmp_total, then_total, on_total}
use Rattle.std.proofs.lemmas.List.Elements.{Contains-get_or}
use Rattle.std.proofs.lemmas.List.Kept.{Contains-dedup, Contains-from_dedup, IsStrictlySortedBy-dedup}
use Rattle.std.proofs.lemmas.List.Sorted.{Contains-permutation, IsPermutation-sym}
use Rattle.std.proofs.lemmas.Map.Keys.{Less-from_sorted}
use Rattle.elf_place.proofs.Orders.{compare_pairs}
use Rattle.form_codec.specs.declared.value.Value.{Value}
use Rattle.form_codec.specs.Forms.{Meaning}
use Rattle.form_codec.specs.Forms.Meaning.{Expression, InUnit, InSection, SectionPlace, LocationList, RangeList}
use Rattle.form_codec.specs.Values.{meant_in}
use Rattle.abbrev_tables.specs.declared.decl.Spec.{Spec}
use Rattle.abbrev_tables.specs.Listings.{Listing, spec_at}
use Rattle.entry_arena.specs.Arena.{entry_at, value_at}
use Rattle.entry_arena.specs.Trees.{declared_at}
use Rattle.entry_read.specs.Units.{HeadAndForest, declarations_of}
use Rattle.entry_read.specs.Places.{HaveOwners}
use Rattle.value_links.specs.declared.parts.Parts.{Parts}
use Rattle.value_links.specs.Sections.{debug_info, debug_abbrev}
use Rattle.value_links.specs.Attributes.{OffsetClass, offset_class, gnu_locviews}
use Rattle.value_links.specs.Attributes.OffsetClass.{LinePtr, RngList, LocList, RngListsPtr, LocListsPtr, AddrPtr, StrOffsetsPtr, MacPtr, Views, NoOffset}
use Rattle.value_links.specs.Reading.{Linkable, unit_at, declarations, IsUnitRead}
use Rattle.value_links.specs.Values.{entry_of, declaration_of}
use Rattle.value_links.specs.World.{head_and_forest}
use Rattle.value_links.specs.Linked.{Linked, Links, OffsetLinks, ViewLinks, IsFirstLocated, AreTogether}
use Rattle.value_links.specs.Linked.Linked.{ViewsAt}
use Rattle.value_links.specs.Lists.{AreViewsNamed}
use Rattle.value_links.specs.Whole.{IsReadToLinks}
use Rattle.value_links.specs.Links.{held_at}
use Rattle.value_links.specs.Parts.{HoldsParts}
use Rattle.value_links.specs.inside.Checks.{table_held, name_at}
use Rattle.value_links.specs.inside.Namings.{AreJoined}
use Rattle.value_links.specs.inside.Views.{IsViewing, IsViewingFound, HaveViews, IsColumnViewing, IsEntryViewing, IsSomeViewing, IsBefore, AreViewings}
use Rattle.value_links.proofs.HeldUnits.{unit_is, unit_owners, held_is, held_count}
use Rattle.value_links.proofs.TabledUnits.{table_is}
use Rattle.value_links.proofs.EntryValues.{no_spec, column_of, column_stands}
use Rattle.value_links.proofs.LinkedOnce.{linked_once}
use Rattle.value_links.proofs.NamingLists.{pair_is, joined_none, joined_push}

-- A VALUE

abbrev AreViews : Linked → Type 0
AreViews (ViewsAt list n) = Unit {0}
AreViews linked = ⊥

abbrev list_in : Linked → ℕ
list_in (ViewsAt list n) = list
list_in linked = 0

abbrev place_in : Linked → ℕ
place_in (ViewsAt list n) = n
place_in linked = 0

-- of the names, that of view pairs alone has their class
class_named : (name : ℕ) → offset_class name ≡ Views → name ≡ gnu_locviews
class_named name e = elim (cases_eq name gnu_locviews) [
  | inl same ↦ same
  | inr other ↦ grind (arith, nat_tests)
]

-- view pairs that are named are all that a value of their name tells
pub record IsToldBy (r : Linkable) (u id name : ℕ) (meaning : Meaning) (list n : ℕ) : Type 0 where
  pub named : name ≡ gnu_locviews
  pub place : meaning ≡ SectionPlace n
  pub first : IsFirstLocated r u id list
  pub together : AreTogether r.locations list n

module _ (r : Linkable) (u id list n : ℕ) where
  -- of the section offsets, those of view pairs name some
  offset_told : (class : OffsetClass) (m : ℕ) → OffsetLinks r u id class m (ViewsAt list n) → (class ≡ Views) × ViewLinks r u id m (ViewsAt list n)
  offset_told LinePtr m (p, is, e) = absurd (subst AreViews e tt)
  offset_told RngList m (is, e) = absurd (subst AreViews e tt)
  offset_told LocList m (is, e) = absurd (subst AreViews e tt)
  offset_told RngListsPtr m (p, is, e) = absurd (subst AreViews e tt)
  offset_told LocListsPtr m (p, is, e) = absurd (subst AreViews e tt)
  offset_told AddrPtr m (is, e) = absurd (subst AreViews e tt)
  offset_told StrOffsetsPtr m e = absurd (subst AreViews e tt)
  offset_told MacPtr m e = absurd (subst AreViews e tt)
  offset_told Views m links = (refl, links)
  offset_told NoOffset m none = absurd none

  place_told : (name m : ℕ) → OffsetLinks r u id (offset_class name) m (ViewsAt list n) → IsToldBy r u id name (SectionPlace m) list n
  place_told name m links =
      let (class, (other, first, together, e)) = offset_told (offset_class name) m links in
      let list_is : other ≡ list = sym (ap list_in e) in
      let place_is : m ≡ n = sym (ap place_in e) in
      record {
        named = class_named name class;
        place = ap SectionPlace place_is;
        first = subst (IsFirstLocated r u id) list_is first;
        together = subst (λ (z : ℕ). AreTogether r.locations z n) list_is (subst (AreTogether r.locations other) place_is together);
      }

  pub views_told : (name : ℕ) (meaning : Meaning) → Links r u id name meaning (ViewsAt list n) → IsToldBy r u id name meaning list n
  views_told name (InUnit m) (target, is, e) = absurd (subst AreViews e tt)
  views_told name (InSection m) (unit, target, is, e) = absurd (subst AreViews e tt)
  views_told name (SectionPlace m) links = place_told name m links
  views_told name (LocationList i) (p, base, counted, e) = absurd (subst AreViews e tt)
  views_told name (RangeList i) (p, base, counted, e) = absurd (subst AreViews e tt)
  views_told name (Expression bytes) (operations, is, e) = absurd (subst AreViews e tt)
  views_told name meaning e = absurd (subst AreViews e tt)

module _ (r : Linkable) (u id : ℕ) where
  module _ (place : ℕ) where
    view_links : (name : ℕ) (y : ℕ × ℕ) → IsViewing r u id name (SectionPlace place) y → (y.0 ≡ place) × ViewLinks r u id place (ViewsAt y.1 place)
    view_links name y links =
        let told = views_told r u id y.1 y.0 name (SectionPlace place) links in
        let same : place ≡ y.0 = ap at_of told.place in
        (sym same, (y.1, told.first, subst (AreTogether r.locations y.1) (sym same) told.together, refl))
      where
        at_of : Meaning → ℕ
        at_of (SectionPlace n) = n
        at_of meaning = 0

    pub none_linked : (name : ℕ) → ((list : ℕ) → ¬ ViewLinks r u id place (ViewsAt list place)) → IsViewingFound r u id name (SectionPlace place) None
    none_linked name none y links = none y.1 (view_links name y links).1

    pub one_linked : (file : List ℕ) → IsReadToLinks file r → u < length r.units → (name : ℕ) → name ≡ gnu_locviews → (list : ℕ) → ViewLinks r u id place (ViewsAt list place) → IsViewingFound r u id name (SectionPlace place) (Some (place, list))
    one_linked file read known name named list links = subst (λ (z : ℕ). IsViewingFound r u id z (SectionPlace place) (Some (place, list))) (sym named) (
      links,
      λ y other.
          let same : ViewsAt y.1 y.0 ≡ ViewsAt list place = linked_once file r u id gnu_locviews (SectionPlace place) (ViewsAt y.1 y.0) (ViewsAt list place) read known other links in
          pair_is y place list (ap place_in same) (ap list_in same),
    )

-- what is found is added
pub viewing_joined : (r : Linkable) (u id name : ℕ) (meaning : Meaning) (xs ys : List (ℕ × ℕ)) (viewing : ℕ × ℕ) → ys ≡ xs ++ viewing ∷ [] → IsViewingFound r u id name meaning (Some viewing) → AreJoined xs ys (IsViewing r u id name meaning)
viewing_joined r u id name meaning xs ys viewing e (is, only) = joined_push xs ys viewing (IsViewing r u id name meaning) e is only

pub no_viewing : (r : Linkable) (u id name : ℕ) (meaning : Meaning) (xs : List (ℕ × ℕ)) → IsViewingFound r u id name meaning None → AreJoined xs xs (IsViewing r u id name meaning)
no_viewing r u id name meaning xs none = joined_none xs (IsViewing r u id name meaning) none

-- A COLUMN

-- what the value of a column names is added, where it is read from what is held
module _ (file : List ℕ) (r : Linkable) (parts : Parts) (holds : HoldsParts file r parts) (u : ℕ) (inside : u < length parts.units.units.items) (unit : HeadAndForest) (same : unit ≡ held_at parts.units.units.items u) (table : Listing) (t : table ≡ table_held parts.units u) where
  known : u < length r.units
  known = subst (λ (z : ℕ). u < z) (held_count r.units parts.units.units.items holds.units.units) inside

  unit_same : unit ≡ head_and_forest (unit_at r u)
  unit_same = same ∙ held_is r.units parts.units.units.items holds.units.units u known

  table_same : table ≡ (unit_at r u).table
  table_same = t ∙ table_is r.units parts.units u holds.units known

  pub columns_same : (id : ℕ) → (entry_at unit.forest.entries id).count ≡ (entry_of (unit_at r u) id).count
  columns_same id = ap (λ (z : HeadAndForest). (entry_at z.forest.entries id).count) unit_same

  pub column_viewing : (id k name : ℕ) (held : Value) (xs ys : List (ℕ × ℕ)) → name ≡ name_at (declarations_of table) (entry_at unit.forest.entries id) k → held ≡ value_at unit.forest.values ((entry_at unit.forest.entries id).first + k) → AreJoined xs ys (IsViewing r u id name (meant_in (unit_at r u).forest.section held)) → AreJoined xs ys (IsColumnViewing r u id k)
  column_viewing id k name held xs ys n v joined =
      let named : name ≡ (spec_at (declaration_of (unit_at r u) id).columns k).name = n ∙ ap (λ (z : Listing). name_at (declarations_of z) (entry_at unit.forest.entries id) k) table_same ∙ ap (λ (z : HeadAndForest). name_at (declarations (unit_at r u)) (entry_at z.forest.entries id) k) unit_same in
      let valued : held ≡ value_at (unit_at r u).forest.values ((entry_of (unit_at r u) id).first + k) = v ∙ ap (λ (z : HeadAndForest). value_at z.forest.values ((entry_at z.forest.entries id).first + k)) unit_same in
      subst (λ (z : ℕ). AreJoined xs ys (IsViewing r u id z (meant_in (unit_at r u).forest.section (value_at (unit_at r u).forest.values ((entry_of (unit_at r u) id).first + k))))) named
      (subst (λ (z : Value). AreJoined xs ys (IsViewing r u id name (meant_in (unit_at r u).forest.section z))) valued joined)

  -- an entry names none where no column of its declaration is that of view pairs
  pub entry_none : (id : ℕ) → id < length unit.forest.entries → (columns : List Spec) → columns ≡ (declared_at (declarations_of table) (entry_at unit.forest.entries id).decl).columns → ¬ HaveViews columns → (xs : List (ℕ × ℕ)) → AreJoined xs xs (IsEntryViewing r u id (entry_of (unit_at r u) id).count)
  entry_none id there columns e none xs = joined_none xs (IsEntryViewing r u id (entry_of (unit_at r u) id).count) (λ y (k, below, links).
      let own = unit_at r u in
      let same_columns : columns ≡ (declaration_of own id).columns = e ∙ ap (λ (z : Listing). (declared_at (declarations_of z) (entry_at unit.forest.entries id).decl).columns) table_same ∙ ap (λ (z : HeadAndForest). (declared_at (declarations own) (entry_at z.forest.entries id).decl).columns) unit_same in
      let owners : HaveOwners (declarations own) own.forest = unit_owners (debug_info file) (debug_abbrev file) r.units holds.read.units u known in
      let counted : (entry_of own id).count ≡ length (declaration_of own id).columns = owners.counted id (subst (λ (z : HeadAndForest). id < length z.forest.entries) unit_same there) in
      let inside : k < length (declaration_of own id).columns = subst (λ (z : ℕ). k < z) counted below in
      let column : Spec = spec_at (declaration_of own id).columns k in
      let told = views_told r u id y.1 y.0 column.name (meant_in own.forest.section (value_at own.forest.values ((entry_of own id).first + k))) links in
      none (column, subst (λ (z : List Spec). Contains z column) (sym same_columns) (Contains-get_or (declaration_of own id).columns k no_spec inside), told.named))

-- ALL OF THEM

module _ (file : List ℕ) (r : Linkable) (read : IsReadToLinks file r) where
  unit_read : (u : ℕ) → u < length r.units → IsUnitRead (debug_info file) (debug_abbrev file) (unit_at r u)
  unit_read u known = unit_is (debug_info file) (debug_abbrev file) r.units read.units u known

  owned : (u : ℕ) → u < length r.units → HaveOwners (declarations (unit_at r u)) (unit_at r u).forest
  owned u known = unit_owners (debug_info file) (debug_abbrev file) r.units read.units u known

  -- the value of a column names what a value does
  column_named : (u id k : ℕ) (y : ℕ × ℕ) → u < length r.units → id < length (unit_at r u).forest.entries → k < (entry_of (unit_at r u) id).count → IsColumnViewing r u id k y → AreViewsNamed r y.1 y.0
  column_named u id k y known inside counted links =
      let (place, stands) = column_stands (debug_info file) (debug_abbrev file) (unit_at r u) (unit_read u known) (owned u known) id k inside counted in (
        u,
        (entry_of (unit_at r u) id).first + k,
        known,
        record {
          id = id;
          name = (spec_at (declaration_of (unit_at r u) id).columns k).name;
          meaning = meant_in (unit_at r u).forest.section (value_at (unit_at r u).forest.values ((entry_of (unit_at r u) id).first + k));
          place = place;
          stands = stands;
          links = links;
        },
      )

  some_named : (y : ℕ × ℕ) → IsSomeViewing r (length r.units) y → AreViewsNamed r y.1 y.0
  some_named y (u, known, (id, inside, (k, counted, links))) = column_named u id k y known inside counted links

  -- and the other way
  named_some : (list at : ℕ) → AreViewsNamed r list at → IsSomeViewing r (length r.units) (at, list)
  named_some list at (u, number, known, l) =
      let unit = unit_at r u in
      let column = column_of unit (owned u known) l.id l.stands.known number l.name l.meaning l.place l.stands in
      let k : ℕ = column.0 in
      let named : Links r u l.id (spec_at (declaration_of unit l.id).columns k).name l.meaning (ViewsAt list at) = subst (λ (z : ℕ). Links r u l.id z l.meaning (ViewsAt list at)) column.2 l.links in
      let links : IsColumnViewing r u l.id k (at, list) = subst (λ (z : Meaning). Links r u l.id (spec_at (declaration_of unit l.id).columns k).name z (ViewsAt list at)) column.3 named in
      (u, known, (l.id, l.stands.known, (k, column.1, links)))

-- EACH ONCE, IN ORDER

abbrev pub same_pair : ℕ × ℕ → ℕ × ℕ → Bool
same_pair x y = eqb x.0 y.0 && eqb x.1 y.1

pairs_total : IsTotalOrder compare_pairs
pairs_total = then_total (on_total (λ (t : ℕ × ℕ). t.0) nat_cmp_total) (on_total (λ (t : ℕ × ℕ). t.1) nat_cmp_total)

pairs_tied : (x y : ℕ × ℕ) → same_pair x y ≡ eq_by_cmp compare_pairs x y
pairs_tied x y =
    ap (λ (z : Bool). z && eqb x.1 y.1) (unsigned_ties x.0 y.0)
    ∙ ap (λ (z : Bool). is_eq (nat_cmp x.0 y.0) && z) (unsigned_ties x.1 y.1)
    ∙ tied_then (nat_cmp x.0 y.0) (nat_cmp x.1 y.1)

both_true : (a b : Bool) → a && b ≡ true → (a ≡ true) × (b ≡ true)
both_true true b e = (refl, e)
both_true false b e = absurd (true≢false (sym e))

pub same_pair_is : (x y : ℕ × ℕ) → same_pair x y ≡ true → x ≡ y
same_pair_is (a, b) (c, d) e =
    let both = both_true (eqb a c) (eqb b d) e in
    ap (λ (z : ℕ). (z, b)) (eqb-true a c both.0) ∙ ap (λ (z : ℕ). (c, z)) (eqb-true b d both.1)

same_pairs : IsEquivalence same_pair
same_pairs = record {
  refl = λ x. rw (eq-eqb x.0 x.0 refl, eq-eqb x.1 x.1 refl);
  symm = λ x y. grind (arith, nat_tests);
  congr = λ x y z e. ap (λ (w : ℕ × ℕ). same_pair w z) (same_pair_is x y e);
}

less_before : (a b c d : ℕ) → ordering_then (nat_cmp a c) (nat_cmp b d) ≡ Less → (a < c) ⊎ ((a ≡ c) × (b < d))
less_before a b c d e = elim (cases_lt a c) [
  | inl less ↦ inl less
  | inr more ↦
      let same : a ≡ c = grind (arith, nat_tests) in
      let behind : b < d = grind (arith, nat_tests) in
      inr (same, behind)
]

module _ (made sorted kept : List (ℕ × ℕ)) (moved : IsPermutation made sorted) (order : IsSorted compare_pairs sorted) (left : kept ≡ dedup same_pair sorted) where
  pub viewings_rise : AllPairs IsBefore kept
  viewings_rise = subst (AllPairs IsBefore) (sym left) (λ i j d less inside.
      let strict : IsStrictlySortedBy compare_pairs (dedup same_pair sorted) = IsStrictlySortedBy-dedup pairs_total pairs_tied sorted order in
      let before = Less-from_sorted compare_pairs (dedup same_pair sorted) i j d strict less inside in
      let x : ℕ × ℕ = get_or (dedup same_pair sorted) i d in
      let y : ℕ × ℕ = get_or (dedup same_pair sorted) j d in
      less_before x.0 x.1 y.0 y.1 before)

  pub viewings_are : (file : List ℕ) (r : Linkable) → IsReadToLinks file r → AreJoined [] made (IsSomeViewing r (length r.units)) → AreViewings r kept
  viewings_are file r read joined = record {
    named = λ y has.
        let among : Contains sorted y = Contains-from_dedup same_pair sorted y (subst (λ (z : List (ℕ × ℕ)). Contains z y) left has) in
        elim (joined.from y (Contains-permutation sorted made y (IsPermutation-sym made sorted moved) among)) [
          | inl none ↦ absurd (omega (arith, none.1))
          | inr is ↦ some_named file r read y is
        ];
    all = λ list at named.
        let among : Contains sorted (at, list) = Contains-permutation made sorted (at, list) moved (joined.added (at, list) (named_some file r read list at named)) in
        subst (λ (z : List (ℕ × ℕ)). Contains z (at, list)) (sym left) (Contains-dedup same_pairs same_pair_is sorted (at, list) among);
  }
