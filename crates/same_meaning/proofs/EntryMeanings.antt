-- When entries of two files mean the same: by their shapes, and by the names and the meanings of their attributes.
use Rattle.std.proofs.Common.{inl, inr, ◌≡◌, ◌≤◌, ◌<◌, ◌+◌, ◌∙◌, ℕ, List, [], length, get_or, sym, ap, subst, refl, arith}
use Rattle.std.specs.Prelude.{◌⊎◌, ◌↔◌, Bool, Some, None, slice_get, false}
use Rattle.std.proofs.lemmas.List.{get_or-map, length-map, ext_get_or}
use Rattle.std.proofs.lemmas.Option.{slice_get_past, get_or_from_slice_get, slice_get-get_or}
use Rattle.form_codec.specs.Forms.{Meaning}
use Rattle.form_codec.specs.Forms.Meaning.{Address}
use Rattle.form_codec.specs.Values.{meant_in}
use Rattle.abbrev_tables.specs.declared.decl.Spec.{Spec}
use Rattle.abbrev_tables.specs.Listings.{spec_at, names_of}
use Rattle.entry_arena.specs.Arena.{value_at}
use Rattle.entry_arena.specs.Forests.{Described, described_by}
use Rattle.value_links.specs.Reading.{UnitRead, Reading, unit_at, declarations, IsUnitRead}
use Rattle.value_links.specs.Values.{entry_of, declaration_of, described_at}
use Rattle.value_links.specs.Whole.{IsReading}
use Rattle.value_links.specs.Laws.{OneMeaning}
use Rattle.value_links.specs.Resolved.{Resolved, Resolves}
use Rattle.value_links.specs.Debug.{EntryMeaning, described, MeansAttribute, MeansEntry, MeanEntries}
use Rattle.same_meaning.specs.Differences.{DifferAt}
use Rattle.same_meaning.specs.inside.Compared.{MeanOne, MeansValue, MeansEntryAt, MeanAttributesAt}
use Rattle.same_meaning.specs.inside.Values.{attribute_in, MeansColumn, HasShape}
use Rattle.same_meaning.proofs.EntryColumns.{attributes_size, attribute_is, columns_count}
use Rattle.same_meaning.proofs.ZippedMeanings.{zip_once, zip_same, same_count, same_at}

-- AN ATTRIBUTE

-- attributes with one name mean the same where their values do
named_same : (r s : Reading) (u id name : ℕ) (m n : Meaning) → MeanOne (Resolves r u id name m) (Resolves s u id name n) ↔ MeanOne (MeansAttribute r u id (name, m)) (MeansAttribute s u id (name, n))
named_same r s u id name m n = (
  λ (v, one, two). ((name, v), record { name = refl; value = one }, record { name = refl; value = two }),
  λ (attribute, one, two). (attribute.1, one.value, two.value),
)

module _ (file other fs os : List ℕ) (r s : Reading) (u id : ℕ) (is : IsUnitRead file fs (unit_at r.links u)) (also : IsUnitRead other os (unit_at s.links u)) (known : id < length (unit_at r.links u).forest.entries) (held : id < length (unit_at s.links u).forest.entries) where
  abbrev old : UnitRead
  old = unit_at r.links u

  abbrev new : UnitRead
  new = unit_at s.links u

  -- so do those with a number, by the numbers of their values
  pub column_same : (k name : ℕ) → k < (entry_of old id).count → k < (entry_of new id).count → (spec_at (declaration_of old id).columns k).name ≡ name → (spec_at (declaration_of new id).columns k).name ≡ name → MeanOne (MeansValue r u id name ((entry_of old id).first + k)) (MeansValue s u id name ((entry_of new id).first + k)) ↔ MeanOne (MeansColumn r u id k) (MeansColumn s u id k)
  column_same k name inside within one two =
      let m : Meaning = meant_in old.forest.section (value_at old.forest.values ((entry_of old id).first + k)) in
      let n : Meaning = meant_in new.forest.section (value_at new.forest.values ((entry_of new id).first + k)) in
      let first : attribute_in r u id k ≡ (name, m) = attribute_is file fs old is id known k (0, Address 0) inside ∙ ap (λ (z : ℕ). (z, m)) one in
      let second : attribute_in s u id k ≡ (name, n) = attribute_is other os new also id held k (0, Address 0) within ∙ ap (λ (z : ℕ). (z, n)) two in
      subst (λ (z : ℕ × Meaning). MeanOne (Resolves r u id name m) (Resolves s u id name n) ↔ MeanOne (MeansAttribute r u id z) (MeansColumn s u id k)) (sym first) (subst (λ (z : ℕ × Meaning). MeanOne (Resolves r u id name m) (Resolves s u id name n) ↔ MeanOne (MeansAttribute r u id (name, m)) (MeansAttribute s u id z)) (sym second) (named_same r s u id name m n))

  -- and they have one name
  names_same : (k : ℕ) → k < (entry_of old id).count → k < (entry_of new id).count → MeanOne (MeansColumn r u id k) (MeansColumn s u id k) → (spec_at (declaration_of new id).columns k).name ≡ (spec_at (declaration_of old id).columns k).name
  names_same k inside within (attribute, one, two) =
      let first = attribute_is file fs old is id known k (0, Address 0) inside in
      let second = attribute_is other os new also id held k (0, Address 0) within in
      sym (two.name ∙ ap (λ (z : ℕ × Meaning). z.0) second) ∙ one.name ∙ ap (λ (z : ℕ × Meaning). z.0) first

  -- THE ATTRIBUTES OF AN ENTRY

  old_size : length (described_at old id).attributes ≡ (entry_of old id).count
  old_size = attributes_size file fs old is id known

  new_size : length (described_at new id).attributes ≡ (entry_of new id).count
  new_size = attributes_size other os new also id held

  -- all mean the same where each does
  pub all_same : (entry_of new id).count ≡ (entry_of old id).count → ((k : ℕ) → k < (entry_of old id).count → MeanOne (MeansColumn r u id k) (MeansColumn s u id k)) → MeanOne (MeanAttributesAt r u id) (MeanAttributesAt s u id)
  all_same count each =
      let a : length (described_at old id).attributes ≡ (entry_of old id).count = old_size in
      zip_same (MeansAttribute r u id) (MeansAttribute s u id) (described_at old id).attributes (described_at new id).attributes (0, Address 0) (0, Address 0) (new_size ∙ count ∙ sym old_size) (λ k inside. each k (omega arith))

  pub each_same : MeanOne (MeanAttributesAt r u id) (MeanAttributesAt s u id) → (k : ℕ) → k < (entry_of old id).count → MeanOne (MeansColumn r u id k) (MeansColumn s u id k)
  each_same all k inside =
      let a : length (described_at old id).attributes ≡ (entry_of old id).count = old_size in
      same_at (MeansAttribute r u id) (MeansAttribute s u id) (described_at old id).attributes (described_at new id).attributes (0, Address 0) (0, Address 0) k all (omega arith)

  -- then their columns have the same names
  pub names_agree : MeanOne (MeanAttributesAt r u id) (MeanAttributesAt s u id) → names_of (declaration_of new id).columns ≡ names_of (declaration_of old id).columns
  names_agree all =
      let counts : length (described_at new id).attributes ≡ length (described_at old id).attributes = same_count (MeansAttribute r u id) (MeansAttribute s u id) (described_at old id).attributes (described_at new id).attributes all in
      let a : length (described_at old id).attributes ≡ (entry_of old id).count = old_size in
      let b : length (described_at new id).attributes ≡ (entry_of new id).count = new_size in
      let c : length (declaration_of old id).columns ≡ (entry_of old id).count = columns_count file fs old is id known in
      let e : length (declaration_of new id).columns ≡ (entry_of new id).count = columns_count other os new also id held in
      let name : Spec → ℕ = λ (z : Spec). z.name in
      let f : length (names_of (declaration_of new id).columns) ≡ length (declaration_of new id).columns = length-map (declaration_of new id).columns name in
      let g : length (names_of (declaration_of old id).columns) ≡ length (declaration_of old id).columns = length-map (declaration_of old id).columns name in
      ext_get_or 0 (names_of (declaration_of new id).columns) (names_of (declaration_of old id).columns) (omega arith) (λ k inside.
      get_or-map name (declaration_of new id).columns k (spec_at [] 0) 0 (omega arith)
      ∙ names_same k (omega arith) (omega arith) (each_same all k (omega arith))
      ∙ sym (get_or-map name (declaration_of old id).columns k (spec_at [] 0) 0 (omega arith)))

  -- and so many
  pub names_counted : names_of (declaration_of new id).columns ≡ names_of (declaration_of old id).columns → (entry_of new id).count ≡ (entry_of old id).count
  names_counted same =
      let name : Spec → ℕ = λ (z : Spec). z.name in
      let c : length (declaration_of old id).columns ≡ (entry_of old id).count = columns_count file fs old is id known in
      let e : length (declaration_of new id).columns ≡ (entry_of new id).count = columns_count other os new also id held in
      let f : length (names_of (declaration_of new id).columns) ≡ length (declaration_of new id).columns = length-map (declaration_of new id).columns name in
      let g : length (names_of (declaration_of old id).columns) ≡ length (declaration_of old id).columns = length-map (declaration_of old id).columns name in
      let h : length (names_of (declaration_of new id).columns) ≡ length (names_of (declaration_of old id).columns) = ap length same in
      omega arith

-- a name among those of columns
pub name_alike : (old new : List Spec) (k : ℕ) → names_of new ≡ names_of old → k < length old → (spec_at new k).name ≡ (spec_at old k).name
name_alike old new k same inside =
    let name : Spec → ℕ = λ (z : Spec). z.name in
    let f : length (names_of new) ≡ length new = length-map new name in
    let g : length (names_of old) ≡ length old = length-map old name in
    let h : length (names_of new) ≡ length (names_of old) = ap length same in
    sym (get_or-map name new k (spec_at [] 0) 0 (omega arith)) ∙ ap (λ (z : List ℕ). get_or z k 0) same ∙ get_or-map name old k (spec_at [] 0) 0 inside

-- AN ENTRY

-- the entry with a number is described
described_is : (unit : UnitRead) (id : ℕ) (d : Described) → id < length unit.forest.entries → get_or (described unit) id d ≡ described_at unit id
described_is unit id d inside =
    get_or-map (described_by unit.forest.section (declarations unit) unit.forest.values) unit.forest.entries id (record { at = 0; len = 0; depth = 0; decl = 0; first = 0; count = 0 }) d inside

pub entry_here : (r : Reading) (u id : ℕ) (e : EntryMeaning) → id < length (unit_at r.links u).forest.entries → MeansEntryAt r u id e → MeansEntry r u id (described_at (unit_at r.links u) id) e
entry_here r u id e inside means =
    subst (λ (z : Described). MeansEntry r u id z e) (described_is (unit_at r.links u) id (described_at (unit_at r.links u) id) inside) (means (described_at (unit_at r.links u) id))

entry_there : (r : Reading) (u id : ℕ) (e : EntryMeaning) → id < length (unit_at r.links u).forest.entries → MeansEntry r u id (described_at (unit_at r.links u) id) e → MeansEntryAt r u id e
entry_there r u id e inside means = λ d.
    subst (λ (z : Described). MeansEntry r u id z e) (sym (described_is (unit_at r.links u) id d inside)) means

-- entries of one shape mean the same where their attributes do
pub entry_same : (r s : Reading) (u id depth tag : ℕ) (children : Bool) → id < length (unit_at r.links u).forest.entries → id < length (unit_at s.links u).forest.entries → HasShape (described_at (unit_at r.links u) id) depth tag children → HasShape (described_at (unit_at s.links u) id) depth tag children → MeanOne (MeanAttributesAt r u id) (MeanAttributesAt s u id) ↔ MeanOne (MeansEntryAt r u id) (MeansEntryAt s u id)
entry_same r s u id depth tag children inside within first second = (
  λ (attributes, one, two).
      (let e : EntryMeaning = record { depth = depth; tag = tag; children = children; attributes = attributes } in (
        e,
        entry_there r u id e inside (record { depth = first.depth_is; tag = first.tag_is; children = first.children_are; attributes = one }),
        entry_there s u id e within (record { depth = second.depth_is; tag = second.tag_is; children = second.children_are; attributes = two }),
      )),
  λ (e, one, two). (e.attributes, (entry_here r u id e inside one).attributes, (entry_here s u id e within two).attributes),
)

-- and entries that mean the same have one shape
pub shape_same : (r s : Reading) (u id depth tag : ℕ) (children : Bool) (depth2 tag2 : ℕ) (children2 : Bool) → id < length (unit_at r.links u).forest.entries → id < length (unit_at s.links u).forest.entries → HasShape (described_at (unit_at r.links u) id) depth tag children → HasShape (described_at (unit_at s.links u) id) depth2 tag2 children2 → MeanOne (MeansEntryAt r u id) (MeansEntryAt s u id) → (depth ≡ depth2) × (tag ≡ tag2) × (children ≡ children2)
shape_same r s u id depth tag children depth2 tag2 children2 inside within first second (e, one, two) =
    let a = entry_here r u id e inside one in
    let b = entry_here s u id e within two in
    (first.depth_is ∙ sym a.depth ∙ b.depth ∙ sym second.depth_is, first.tag_is ∙ sym a.tag ∙ b.tag ∙ sym second.tag_is, first.children_are ∙ sym a.children ∙ b.children ∙ sym second.children_are)

-- an entry means one thing
entry_once : OneMeaning → (file : List ℕ) (r : Reading) (u id : ℕ) (e f : EntryMeaning) → IsReading file r → u < length r.links.units → MeansEntryAt r u id e → MeansEntryAt r u id f → e ≡ f
entry_once one file r u id e f read inside here there =
    let d = described_at (unit_at r.links u) id in
    let a = here d in
    let b = there d in
    let attribute_once : (x : ℕ × Meaning) (y z : ℕ × Resolved) → MeansAttribute r u id x y → MeansAttribute r u id x z → y ≡ z = λ x y z first second.
    (let same : y.1 ≡ z.1 = one file r u id x.0 x.1 y.1 z.1 read inside first.value second.value in
    ap (λ (n : ℕ). (n, y.1)) (first.name ∙ sym second.name) ∙ ap (λ (v : Resolved). (z.0, v)) same) in
    let same : e.attributes ≡ f.attributes = zip_once (MeansAttribute r u id) attribute_once _ e.attributes f.attributes a.attributes b.attributes in
    ap (λ (n : ℕ). record { depth = n; tag = e.tag; children = e.children; attributes = e.attributes }) (a.depth ∙ sym b.depth)
    ∙ ap (λ (n : ℕ). record { depth = f.depth; tag = n; children = e.children; attributes = e.attributes }) (a.tag ∙ sym b.tag)
    ∙ ap (λ (n : Bool). record { depth = f.depth; tag = f.tag; children = n; attributes = e.attributes }) (a.children ∙ sym b.children)
    ∙ ap (λ (n : List (ℕ × Resolved)). record { depth = f.depth; tag = f.tag; children = f.children; attributes = n }) same

-- THE ENTRIES OF A UNIT

abbrev no_entry : EntryMeaning
no_entry = record { depth = 0; tag = 0; children = false; attributes = [] }

pub forest_count : (r : Reading) (u : ℕ) (forest : List EntryMeaning) → MeanEntries r u forest → length forest ≡ length (unit_at r.links u).forest.entries
forest_count r u forest means =
    means.count ∙ length-map (unit_at r.links u).forest.entries (described_by (unit_at r.links u).forest.section (declarations (unit_at r.links u)) (unit_at r.links u).forest.values)

module _ (one : OneMeaning) (file other : List ℕ) (r s : Reading) (u : ℕ) (read : IsReading file r) (also : IsReading other s) (inside : u < length r.links.units) (within : u < length s.links.units) (old new : List EntryMeaning) (means : MeanEntries r u old) (meant : MeanEntries s u new) where
  old_at : (id : ℕ) → id < length old → MeansEntryAt r u id (get_or old id no_entry)
  old_at id here = λ d. means.each id d no_entry here

  new_at : (id : ℕ) → id < length new → MeansEntryAt s u id (get_or new id no_entry)
  new_at id here = λ d. meant.each id d no_entry here

  -- entries that mean one are the same
  pub agree : (id : ℕ) → id < length old → id < length new → MeanOne (MeansEntryAt r u id) (MeansEntryAt s u id) → slice_get new id ≡ slice_get old id
  agree id here there (e, first, second) =
      let a : e ≡ get_or old id no_entry = entry_once one file r u id e (get_or old id no_entry) read inside first (old_at id here) in
      let b : e ≡ get_or new id no_entry = entry_once one other s u id e (get_or new id no_entry) also within second (new_at id there) in
      slice_get-get_or new id no_entry there ∙ ap (λ (z : EntryMeaning). Some z) (sym b ∙ a) ∙ sym (slice_get-get_or old id no_entry here)

  pub differ : (id : ℕ) → id < length old → id < length new → (MeanOne (MeansEntryAt r u id) (MeansEntryAt s u id) → ⊥) → DifferAt old new id
  differ id here there none = λ same.
      let found : slice_get new id ≡ Some (get_or old id no_entry) = same ∙ slice_get-get_or old id no_entry here in
      let is : get_or new id no_entry ≡ get_or old id no_entry = get_or_from_slice_get new id (get_or old id no_entry) no_entry found in
      none (get_or old id no_entry, old_at id here, subst (MeansEntryAt s u id) is (new_at id there))

-- where only one list goes on, lists differ
pub differ_past : {A : Type 0} (old new : List A) (k : ℕ) (a : A) → (k < length old × length new ≤ k) ⊎ (k < length new × length old ≤ k) → DifferAt old new k
differ_past old new k a (inl (here, past)) = λ same.
    let none : slice_get new k ≡ None = slice_get_past new k past in
    let some : slice_get old k ≡ Some (get_or old k a) = slice_get-get_or old k a here in
    cc
differ_past old new k a (inr (here, past)) = λ same.
    let none : slice_get old k ≡ None = slice_get_past old k past in
    let some : slice_get new k ≡ Some (get_or new k a) = slice_get-get_or new k a here in
    cc
