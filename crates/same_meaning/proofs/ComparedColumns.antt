-- Whether the attributes of an entry mean the same, column by column.
use Rattle.std.proofs.Common.{◌≡◌, ◌≤◌, ◌<◌, ◌+◌, ◌∙◌, inl, inr, ℕ, Bool, true, false, List, length, sym, ap, subst, refl, arith}
use Rattle.std.specs.Prelude.{◌↔◌, IsTrue}
use Rattle.std.proofs.lemmas.Bool.{cases_lt}
use Rattle.std.proofs.lemmas.List.{length-map}
use Rattle.abbrev_tables.specs.declared.decl.Spec.{Spec}
use Rattle.abbrev_tables.specs.Listings.{spec_at, names_of}
use Rattle.entry_arena.specs.declared.entry.Entry.{Entry}
use Rattle.value_links.specs.Sections.{debug_info, debug_abbrev}
use Rattle.value_links.specs.Reading.{Reading, unit_at, IsUnitRead}
use Rattle.value_links.specs.Values.{entry_of, declaration_of}
use Rattle.value_links.specs.Whole.{IsReading}
use Rattle.value_links.specs.Links.{held_at}
use Rattle.value_links.specs.World.{World, Holds}
use Rattle.same_meaning.specs.inside.Compared.{IsSomeWorld, OfBoth, MeanOne, MeanAttributesAt}
use Rattle.same_meaning.specs.inside.Values.{OfReading, entry_held, MeansColumn, IsNamedColumn}
use Rattle.same_meaning.proofs.ReadUnits.{some_reading}
use Rattle.same_meaning.proofs.EntryColumns.{columns_count}
use Rattle.same_meaning.proofs.EntryMeanings.{all_same, each_same, names_agree, names_counted, name_alike}
use Rattle.same_meaning.proofs.ColumnMeanings.{is, entry_known, entry_is}

-- columns are those of the declaration of an entry that is read
abbrev pub AreColumns : World → ℕ → ℕ → List Spec → Type 0
AreColumns world u id columns = OfReading world (λ r. columns ≡ (declaration_of (unit_at r.links u) id).columns)

-- there are as many as the entry has values
pub count_held : (world : World) → IsSomeWorld world → (u id : ℕ) → u < length world.units → id < length (held_at world.units u).forest.entries → (columns : List Spec) → AreColumns world u id columns → (entry_held world u id).count ≡ length columns
count_held world some u id inside known columns are =
    let (r, read, holds) = some_reading world some in
    ap (λ (e : Entry). e.count) (entry_is world r u id read holds inside known)
    ∙ sym (columns_count (debug_info world.image) (debug_abbrev world.image) (unit_at r.links u) (is world r u id read holds inside known) id (entry_known world r u id read holds inside known))
    ∙ ap length (sym (are r read holds))

-- as many columns have the same names
names_as_many : (old new : List Spec) → names_of new ≡ names_of old → length new ≡ length old
names_as_many old new same =
    let name : Spec → ℕ = λ (z : Spec). z.name in
    let f : length (names_of new) ≡ length new = length-map new name in
    let g : length (names_of old) ≡ length old = length-map old name in
    sym f ∙ ap length same ∙ g

module _ (a b : World) (u id : ℕ) (u_in : u < length a.units) (u_there : u < length b.units) (known : id < length (held_at a.units u).forest.entries) (there : id < length (held_at b.units u).forest.entries) (columns others : List Spec) (are : AreColumns a u id columns) (were : AreColumns b u id others) where
  -- the columns with these numbers mean the same
  abbrev pub Earlier : ℕ → Type 0
  Earlier n = OfBoth a b (λ r s. (k : ℕ) → k < n → MeanOne (MeansColumn r u id k) (MeansColumn s u id k))

  -- so do all
  abbrev pub AllSame : Bool → Type 0
  AllSame same = OfBoth a b (λ r s. IsTrue same ↔ MeanOne (MeanAttributesAt r u id) (MeanAttributesAt s u id))

  -- of what is read
  module _ (r s : Reading) (read : IsReading a.image r) (holds : Holds a.image a r) (also : IsReading b.image s) (held : Holds b.image b s) where
    old_is : IsUnitRead (debug_info a.image) (debug_abbrev a.image) (unit_at r.links u)
    old_is = is a r u id read holds u_in known

    new_is : IsUnitRead (debug_info b.image) (debug_abbrev b.image) (unit_at s.links u)
    new_is = is b s u id also held u_there there

    old_columns : columns ≡ (declaration_of (unit_at r.links u) id).columns
    old_columns = are r read holds

    new_columns : others ≡ (declaration_of (unit_at s.links u) id).columns
    new_columns = were s also held

    old_count : length columns ≡ (entry_of (unit_at r.links u) id).count
    old_count = ap length old_columns ∙ columns_count (debug_info a.image) (debug_abbrev a.image) (unit_at r.links u) old_is id (entry_known a r u id read holds u_in known)

    names_are : MeanOne (MeanAttributesAt r u id) (MeanAttributesAt s u id) → names_of others ≡ names_of columns
    names_are all =
        ap names_of new_columns
        ∙ names_agree (debug_info a.image) (debug_info b.image) (debug_abbrev a.image) (debug_abbrev b.image) r s u id old_is new_is (entry_known a r u id read holds u_in known) (entry_known b s u id also held u_there there) all
        ∙ ap names_of (sym old_columns)

    each_is : MeanOne (MeanAttributesAt r u id) (MeanAttributesAt s u id) → (k : ℕ) → k < length columns → MeanOne (MeansColumn r u id k) (MeansColumn s u id k)
    each_is all k inside =
        each_same (debug_info a.image) (debug_info b.image) (debug_abbrev a.image) (debug_abbrev b.image) r s u id old_is new_is (entry_known a r u id read holds u_in known) (entry_known b s u id also held u_there there) all k (subst (λ (n : ℕ). k < n) old_count inside)

    all_are : names_of others ≡ names_of columns → ((k : ℕ) → k < length columns → MeanOne (MeansColumn r u id k) (MeansColumn s u id k)) → MeanOne (MeanAttributesAt r u id) (MeanAttributesAt s u id)
    all_are names each =
        let same : names_of (declaration_of (unit_at s.links u) id).columns ≡ names_of (declaration_of (unit_at r.links u) id).columns = ap names_of (sym new_columns) ∙ names ∙ ap names_of old_columns in
        let count : (entry_of (unit_at s.links u) id).count ≡ (entry_of (unit_at r.links u) id).count = names_counted (debug_info a.image) (debug_info b.image) (debug_abbrev a.image) (debug_abbrev b.image) r s u id old_is new_is (entry_known a r u id read holds u_in known) (entry_known b s u id also held u_there there) same in
        all_same (debug_info a.image) (debug_info b.image) (debug_abbrev a.image) (debug_abbrev b.image) r s u id old_is new_is (entry_known a r u id read holds u_in known) (entry_known b s u id also held u_there there) count (λ k inside. each k (subst (λ (n : ℕ). k < n) (sym old_count) inside))

  -- a column has one name in both
  pub column_named : names_of others ≡ names_of columns → (k name : ℕ) → k < length columns → name ≡ (spec_at columns k).name → OfBoth a b (λ r s. IsNamedColumn r u id k name × IsNamedColumn s u id k name)
  column_named names k name inside is_name = λ r s read holds also held.
      let as_many : length others ≡ length columns = names_as_many columns others names in (
        record {
          inside = subst (λ (z : List Spec). k < length z) (are r read holds) inside;
          name_is = ap (λ (z : List Spec). (spec_at z k).name) (sym (are r read holds)) ∙ sym is_name;
        },
        record {
          inside = subst (λ (z : List Spec). k < length z) (were s also held) (subst (λ (n : ℕ). k < n) (sym as_many) inside);
          name_is = ap (λ (z : List Spec). (spec_at z k).name) (sym (were s also held)) ∙ name_alike columns others k names inside ∙ sym is_name;
        },
      )

  -- where names differ, attributes do
  pub other_names : (same : Bool) → same ≡ false → IsTrue same ↔ (names_of others ≡ names_of columns) → AllSame false
  other_names same fails test = λ r s read holds also held. (
    λ none. absurd (cc),
    λ all. (let passes : same ≡ true = test.1 (names_are r s read holds also held all) in absurd (cc)),
  )

  -- and where those of a column do
  pub other_column : (k : ℕ) → k < length columns → (same : Bool) → same ≡ false → OfBoth a b (λ r s. IsTrue same ↔ MeanOne (MeansColumn r u id k) (MeansColumn s u id k)) → AllSame false
  other_column k inside same fails test = λ r s read holds also held. (
    λ none. absurd (cc),
    λ all. (let passes : same ≡ true = (test r s read holds also held).1 (each_is r s read holds also held all k inside) in absurd (cc)),
  )

  pub earlier_more : (n : ℕ) → Earlier n → (same : Bool) → same ≡ true → OfBoth a b (λ r s. IsTrue same ↔ MeanOne (MeansColumn r u id n) (MeansColumn s u id n)) → Earlier (n + 1)
  earlier_more n before same passes test = λ r s read holds also held k inside. elim (cases_lt k n) [
    | inl less ↦ before r s read holds also held k less
    | inr past ↦
        let here : n ≡ k = omega (arith, inside, past) in
        subst (λ (z : ℕ). MeanOne (MeansColumn r u id z) (MeansColumn s u id z)) here ((test r s read holds also held).0 passes)
  ]

  -- else all mean the same
  pub all_columns : names_of others ≡ names_of columns → (n : ℕ) → length columns ≤ n → Earlier n → AllSame true
  all_columns names n past before = λ r s read holds also held. (
    λ yes. all_are r s read holds also held names (λ k inside. before r s read holds also held k (omega (arith, inside, past))),
    λ all. refl,
  )
