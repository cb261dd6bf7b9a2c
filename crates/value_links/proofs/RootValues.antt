-- The attributes of an entry, one by one, and the first of them that gives a base or an address.
use Rattle.std.proofs.Common.{◌≡◌, ◌≢◌, ◌≤◌, ◌<◌, ◌+◌, ◌++◌, ◌∙◌, inl, inr, take, drop, ℕ, List, [], ◌∷◌, length, get_or, sym, ap, subst, refl, arith}
use Rattle.std.specs.Prelude.{◌↔◌, Bool, true, filter, map}
use Rattle.std.specs.List.{Contains}
use Rattle.std.proofs.lemmas.Bool.{cases_lt}
use Rattle.std.proofs.lemmas.List.{drop_more, at_drop_all, length-take-le}
use Rattle.std.proofs.lemmas.List.Elements.{filter-append}
use Rattle.form_codec.specs.declared.value.Value.{Value}
use Rattle.form_codec.specs.Forms.{Meaning}
use Rattle.form_codec.specs.Forms.Meaning.{SectionPlace}
use Rattle.form_codec.specs.Values.{meant_in}
use Rattle.abbrev_tables.specs.Listings.{Listing, spec_at}
use Rattle.entry_arena.specs.Arena.{entry_at, value_at}
use Rattle.entry_arena.specs.Trees.{declared_at}
use Rattle.entry_arena.proofs.SpellingLaws.{attributes_count, attribute_at}
use Rattle.entry_read.specs.Units.{HeadAndForest, declarations_of}
use Rattle.value_links.specs.Values.{IsFirstBase}
use Rattle.value_links.specs.inside.Checks.{IsUnitWithTable, attributes_at, IsAttributeAt, IsFirstLowIn, HasBase}
use Rattle.value_links.specs.Contexts.{is_low_pc, low_pcs}
use Rattle.value_links.proofs.TabledUnits.{owners}
use Rattle.value_links.proofs.Causes.{own_value, own_count}
use Rattle.value_links.proofs.Bases.{IsBase, split_first, behind, none_first}
use Rattle.value_links.proofs.Passing.{split_at, kept, first_once}

-- ATTRIBUTES BY THEIR NUMBERS

-- an entry of a unit
module _ (unit : HeadAndForest) (table : Listing) (is : IsUnitWithTable unit table) (id : ℕ) (known : id < length unit.forest.entries) where
  own_values : length (take (entry_at unit.forest.entries id).count (drop (entry_at unit.forest.entries id).first unit.forest.values)) ≡ (entry_at unit.forest.entries id).count
  own_values = own_count unit.forest.values (entry_at unit.forest.entries id).first (entry_at unit.forest.entries id).count ((owners unit table is).inside id known)

  own_columns : (entry_at unit.forest.entries id).count ≡ length (declared_at (declarations_of table) (entry_at unit.forest.entries id).decl).columns
  own_columns = (owners unit table is).counted id known

  pub attributes_counted : length (attributes_at unit.forest (declarations_of table) id) ≡ (entry_at unit.forest.entries id).count
  attributes_counted =
      let own = entry_at unit.forest.entries id in
      attributes_count unit.forest.section (declared_at (declarations_of table) own.decl).columns (take own.count (drop own.first unit.forest.values)) (own_values ∙ own_columns) ∙ sym own_columns

  pub column_inside : (k : ℕ) → k < length (attributes_at unit.forest (declarations_of table) id) → k < (entry_at unit.forest.entries id).count
  column_inside k inside = subst (λ (n : ℕ). k < n) attributes_counted inside

  -- the attribute with a number
  module _ (k : ℕ) (inside : k < (entry_at unit.forest.entries id).count) where
    pub attribute_inside : k < length (attributes_at unit.forest (declarations_of table) id)
    attribute_inside = subst (λ (n : ℕ). k < n) (sym attributes_counted) inside

    pub attribute_there : (name : ℕ) (v : Value) → name ≡ (spec_at (declared_at (declarations_of table) (entry_at unit.forest.entries id).decl).columns k).name → v ≡ value_at unit.forest.values ((entry_at unit.forest.entries id).first + k) → IsAttributeAt (attributes_at unit.forest (declarations_of table) id) k (name, meant_in unit.forest.section v)
    attribute_there name v named valued =
        let own = entry_at unit.forest.entries id in
        let attributes = attributes_at unit.forest (declarations_of table) id in
        let columns = (declared_at (declarations_of table) own.decl).columns in
        let values = take own.count (drop own.first unit.forest.values) in
        let there : v ≡ value_at values k = valued ∙ sym (own_value unit.forest.values own.first own.count k inside) in
        let at : get_or attributes k (name, meant_in unit.forest.section v) ≡ ((spec_at columns k).name, meant_in unit.forest.section (value_at values k)) = attribute_at unit.forest.section columns values k (name, meant_in unit.forest.section v) (own_values ∙ own_columns) (subst (λ (n : ℕ). k < n) own_columns inside) in
        let same : get_or attributes k (name, meant_in unit.forest.section v) ≡ (name, meant_in unit.forest.section v) = at ∙ (ap (λ (z : ℕ). (z, meant_in unit.forest.section (value_at values k))) (sym named) ∙ ap (λ (z : Value). (name, meant_in unit.forest.section z)) (sym there)) in
        drop_more attributes k (name, meant_in unit.forest.section v) attribute_inside ∙ ap (λ (z : ℕ × Meaning). z ∷ drop (k + 1) attributes) same

    -- which is that of the column with this number
    pub attribute_is : (a : ℕ × Meaning) → IsAttributeAt (attributes_at unit.forest (declarations_of table) id) k a → a ≡ ((spec_at (declared_at (declarations_of table) (entry_at unit.forest.entries id).decl).columns k).name, meant_in unit.forest.section (value_at unit.forest.values ((entry_at unit.forest.entries id).first + k)))
    attribute_is a at =
        let own = entry_at unit.forest.entries id in
        let attributes = attributes_at unit.forest (declarations_of table) id in
        let b : ℕ × Meaning = ((spec_at (declared_at (declarations_of table) own.decl).columns k).name, meant_in unit.forest.section (value_at unit.forest.values (own.first + k))) in
        let there : drop k attributes ≡ b ∷ drop (k + 1) attributes = attribute_there b.0 (value_at unit.forest.values (own.first + k)) refl refl in
        let same : a ∷ drop (k + 1) attributes ≡ b ∷ drop (k + 1) attributes = sym at ∙ there in
        cc

-- THE FIRST BASE

-- the first base stands at an attribute with this number or behind it
abbrev pub IsBaseFrom : List (ℕ × Meaning) → ℕ → ℕ → Type 0
IsBaseFrom attributes name k = (n : ℕ) → IsFirstBase (drop k attributes) name n ↔ IsFirstBase attributes name n

module _ (attributes : List (ℕ × Meaning)) (k : ℕ) (a : ℕ × Meaning) (at : IsAttributeAt attributes k a) where
  pub base_here : (name n : ℕ) → IsBaseFrom attributes name k → a ≡ (name, SectionPlace n) → IsFirstBase attributes name n
  base_here name n from e = (from n).0 (record {
    before = [];
    after = drop (k + 1) attributes;
    parts = at ∙ ap (λ (z : ℕ × Meaning). z ∷ drop (k + 1) attributes) e;
    first = λ (m : ℕ) (x : Contains [] (name, SectionPlace m)). let none = x.1 in absurd (omega arith);
  })

  pub base_later : (name : ℕ) → IsBaseFrom attributes name k → ((n : ℕ) → a ≢ (name, SectionPlace n)) → IsBaseFrom attributes name (k + 1)
  base_later name from other n = (
    λ later. (from n).0 (subst (λ (z : List (ℕ × Meaning)). IsFirstBase z name n) (sym at) (behind a (drop (k + 1) attributes) name (λ (x : IsBase a name). other x.0 x.1) n later)),
    λ all. let here : IsFirstBase (a ∷ drop (k + 1) attributes) name n = subst (λ (z : List (ℕ × Meaning)). IsFirstBase z name n) at ((from n).1 all) in
        elim (split_first a (drop (k + 1) attributes) name n here.before here.after here.parts here.first) [ inl x ↦ absurd (other x.0 x.1) | inr later ↦ later ],
  )

pub no_base : (attributes : List (ℕ × Meaning)) (name k : ℕ) → IsBaseFrom attributes name k → length attributes ≤ k → ¬ HasBase attributes name
no_base attributes name k from end (n, first) = none_first name n (subst (λ (z : List (ℕ × Meaning)). IsFirstBase z name n) (at_drop_all (λ (z : List (ℕ × Meaning)). z) attributes k end) ((from n).1 first))

-- THE FIRST LOW PC

-- the first that passes gives the base
pub low_first : (attributes : List (ℕ × Meaning)) (k : ℕ) (a : ℕ × Meaning) → IsAttributeAt attributes k a → filter is_low_pc (take k attributes) ≡ [] → is_low_pc a ≡ true → low_pcs attributes ≡ a.1 ∷ low_pcs (drop (k + 1) attributes)
low_first attributes k a at none is =
    let kept_here : filter is_low_pc (a ∷ drop (k + 1) attributes) ≡ a ∷ filter is_low_pc (drop (k + 1) attributes) = ap (λ (b : Bool). kept b a (filter is_low_pc (drop (k + 1) attributes))) is in
    let all : filter is_low_pc attributes ≡ a ∷ filter is_low_pc (drop (k + 1) attributes) = ap (filter is_low_pc) (split_at attributes k a at) ∙ (filter-append is_low_pc (take k attributes) (a ∷ drop (k + 1) attributes) ∙ (ap (λ (z : List (ℕ × Meaning)). z ++ filter is_low_pc (a ∷ drop (k + 1) attributes)) none ∙ kept_here)) in
    ap (map (λ (z : ℕ × Meaning). z.1)) all

pub first_inside : (attributes : List (ℕ × Meaning)) (k : ℕ) → IsFirstLowIn attributes k → k < length attributes
first_inside attributes k first = elim (cases_lt k (length attributes)) [
  | inl less ↦ less
  | inr past ↦
      let none : [] ≡ first.attribute ∷ drop (k + 1) attributes = sym (at_drop_all (λ (z : List (ℕ × Meaning)). z) attributes k past) ∙ first.stands in
      absurd (cc)
]

-- it is the one with the number
pub first_low_is : (attributes before : List (ℕ × Meaning)) (b : ℕ × Meaning) (after : List (ℕ × Meaning)) (k : ℕ) (a : ℕ × Meaning) → attributes ≡ before ++ b ∷ after → filter is_low_pc before ≡ [] → is_low_pc b ≡ true → IsAttributeAt attributes k a → IsFirstLowIn attributes k → (k ≡ length before) × (a ≡ b)
first_low_is attributes before b after k a parts none is_b at first =
    let same : first.attribute ∷ drop (k + 1) attributes ≡ a ∷ drop (k + 1) attributes = sym first.stands ∙ at in
    let here : first.attribute ≡ a = cc in
    let is_a : is_low_pc a ≡ true = subst (λ (z : ℕ × Meaning). is_low_pc z ≡ true) here first.is in
    let inside : k < length attributes = first_inside attributes k first in
    let size : length (take k attributes) ≡ k = length-take-le k attributes (omega arith) in
    let one = first_once is_low_pc (take k attributes) a (drop (k + 1) attributes) before b after (sym (split_at attributes k a at) ∙ parts) first.first none is_a is_b in
    (sym size ∙ one.0, one.1)
