-- In a tidy file the declaration of each entry is its old one with another code and other forms, and declarations correspond one to one.
use Rattle.std.proofs.Common.{◌≡◌, ◌<◌, ◌+◌, ◌∙◌, ◌⊎◌, inl, inr, ℕ, List, [], ◌∷◌, length, get_or, map, sym, ap, subst, refl, arith}
use Rattle.std.specs.Prelude.{◌↔◌}
use Rattle.std.specs.List.{AllZip}
use Rattle.std.proofs.lemmas.Bool.{cases_eq, cases_order}
use Rattle.std.proofs.lemmas.List.{get_or-map}
use Rattle.dw_base.specs.declared.classes.Classes.{Classes}
use Rattle.form_codec.specs.declared.value.Value.{Value}
use Rattle.form_codec.specs.Forms.{Meaning}
use Rattle.abbrev_tables.specs.declared.decl.Spec.{Spec}
use Rattle.abbrev_tables.specs.Listings.{names_of}
use Rattle.entry_arena.specs.Arena.{entry_at}
use Rattle.entry_arena.specs.Forests.{Described, attributes_of, described_by}
use Rattle.value_links.specs.Sections.{offset_named, debug_info, debug_abbrev, info_name}
use Rattle.value_links.specs.Reading.{Reading, UnitRead, declarations, unit_at}
use Rattle.value_links.specs.Resolved.{Resolved}
use Rattle.value_links.specs.Same.{Same}
use Rattle.value_links.specs.Values.{entry_of, declaration_of, values_of, described_at}
use Rattle.value_links.specs.Whole.{IsReading}
use Rattle.value_links.specs.Debug.{EntryMeaning, UnitMeaning, described, MeansAttribute, MeansEntry, MeanEntries, MeansUnit}
use Rattle.value_links.proofs.Causes.{own_count}
use Rattle.value_links.proofs.HeldUnits.{unit_owners}
use Rattle.written_files.specs.Tidy.{IsRenewed}
use Rattle.written_files.specs.inside.Counterparts.{Correspond}
use Rattle.written_files.proofs.Counterparts.{correspond}
use Rattle.written_files.proofs.SameValues.{no_entry, no_unit_meaning, entries_counted}
use Rattle.tidy_lists.proofs.Followed.{IsMeantByBoth, meant_by_both}
use Rattle.tidy_tables.specs.Untidy.{IsEarlier, IsUntidyEntry, number_of}
use Rattle.tidy_files.specs.Tidy.{IsTidy}
use Rattle.tidy_files.specs.Tidy.Row.{AnEntry}
use Rattle.tidy_files.specs.Whole.{HasRenewedEntries}

-- NAMES

-- attributes have the names of their columns
attribute_names : (section : List ℕ) (columns : List Spec) (values : List Value) → length values ≡ length columns →
    map (λ (a : ℕ × Meaning). a.0) (attributes_of section columns values) ≡ names_of columns
attribute_names section [] values same = refl
attribute_names section (c ∷ columns) [] same = absurd (omega (arith, same))
attribute_names section (c ∷ columns) (v ∷ values) same =
    ap (λ (z : List ℕ). c.name ∷ z) (attribute_names section columns values (omega (arith, same)))

-- so do those that an entry means
meant_names : (r : Reading) (u id : ℕ) (stands : List (ℕ × Meaning)) (attributes : List (ℕ × Resolved)) →
    AllZip (MeansAttribute r u id) stands attributes → map (λ (a : ℕ × Resolved). a.0) attributes ≡ map (λ (a : ℕ × Meaning). a.0) stands
meant_names r u id [] [] all = refl
meant_names r u id [] (a ∷ attributes) all = absurd all
meant_names r u id (s ∷ stands) [] all = absurd all
meant_names r u id (s ∷ stands) (a ∷ attributes) (first, rest) =
    ap (λ (z : ℕ). z ∷ map (λ (a : ℕ × Resolved). a.0) attributes) first.name
    ∙ ap (λ (z : List ℕ). s.0 ∷ z) (meant_names r u id stands attributes rest)

module _ (file : List ℕ) (r : Reading) (read : IsReading file r) (u id : ℕ) (inside : u < length r.links.units)
    (known : id < length (unit_at r.links u).forest.entries) where
  abbrev unit : UnitRead
  unit = unit_at r.links u

  values_counted : length (values_of unit id) ≡ length (declaration_of unit id).columns
  values_counted =
      let owned = unit_owners (debug_info file) (debug_abbrev file) r.links.units read.links.units u inside in
      own_count unit.forest.values (entry_of unit id).first (entry_of unit id).count (owned.inside id known) ∙ owned.counted id known

  -- the names of the columns of an entry's declaration are those of the attributes that it means
  names_meant : (e : EntryMeaning) → MeansEntry r u id (described_at unit id) e →
      map (λ (a : ℕ × Resolved). a.0) e.attributes ≡ names_of (declaration_of unit id).columns
  names_meant e means =
      meant_names r u id (described_at unit id).attributes e.attributes means.attributes
      ∙ attribute_names unit.forest.section (declaration_of unit id).columns (values_of unit id) values_counted

-- BOTH FILES

-- what is read of an entry means the entry with its number
entry_means : (r : Reading) (u id : ℕ) (forest : List EntryMeaning) → id < length (unit_at r.links u).forest.entries → id < length forest →
    MeanEntries r u forest → MeansEntry r u id (described_at (unit_at r.links u) id) (get_or forest id no_entry)
entry_means r u id forest known entry means =
    let unit : UnitRead = unit_at r.links u in
    let d : Described = described_at unit id in
    let here : get_or (described unit) id d ≡ d =
    get_or-map (described_by unit.forest.section (declarations unit) unit.forest.values) unit.forest.entries id (entry_at [] 0) d known in
    subst (λ (z : Described). MeansEntry r u id z (get_or forest id no_entry)) here (means.each id d no_entry entry)

module _ (file written : List ℕ) (r s : Reading) (read : IsReading file r) (again : IsReading written s) (same : Same file written) where
  both : IsMeantByBoth file written r s
  both = meant_by_both file written r s same read again

  alike : Correspond r s
  alike = correspond file written r s read again same

  -- Of two files that mean the same the declaration of each entry is its old one, but for codes and forms.
  pub renewed : (u id : ℕ) → u < length r.links.units → id < length (unit_at r.links u).forest.entries →
      IsRenewed (declaration_of (unit_at r.links u) id) (declaration_of (unit_at s.links u) id)
  renewed u id inside known =
      let there : u < length s.links.units = subst (λ (n : ℕ). u < n) (sym alike.units) inside in
      let known_there : id < length (unit_at s.links u).forest.entries = subst (λ (n : ℕ). id < n) (sym (alike.entries u there)) known in
      let m : UnitMeaning = get_or both.debug.units u no_unit_meaning in
      let one : MeansUnit r u m = both.first.units.each u no_unit_meaning (subst (λ (n : ℕ). u < n) (sym both.first.units.count) inside) in
      let two : MeansUnit s u m = both.second.units.each u no_unit_meaning (subst (λ (n : ℕ). u < n) (sym both.second.units.count) there) in
      let entry : id < length m.forest = subst (λ (n : ℕ). id < n) (sym (entries_counted file r read u inside m one)) known in
      let e : EntryMeaning = get_or m.forest id no_entry in
      let old : MeansEntry r u id (described_at (unit_at r.links u) id) e = entry_means r u id m.forest known entry one.forest in
      let new : MeansEntry s u id (described_at (unit_at s.links u) id) e = entry_means s u id m.forest known_there entry two.forest in
      record {
        tag = sym new.tag ∙ old.tag;
        children = sym new.children ∙ old.children;
        names = sym (names_meant written s again u id there known_there e new) ∙ names_meant file r read u id inside known e old;
      }

  module _ (classes : Classes) (tidy : IsTidy classes file written) where
    no_row : (p : ℕ) → IsUntidyEntry r.links s.links p → ⊥
    no_row p holds = tidy AnEntry (offset_named written info_name + p) (record { r = r; s = s; read = read; again = again; inner = p; holds = holds; place = refl })

    -- of two entries under one old table, of which one stands before the other
    module _ (u id v other : ℕ) (inside : u < length r.links.units) (known : id < length (unit_at r.links u).forest.entries)
        (inside_other : v < length r.links.units) (known_other : other < length (unit_at r.links v).forest.entries)
        (table : (unit_at r.links v).head.table ≡ (unit_at r.links u).head.table) (earlier : IsEarlier v other u id) where
      abbrev OldOne : Type 0
      OldOne = number_of r.links v other ≡ number_of r.links u id

      abbrev NewOne : Type 0
      NewOne = number_of s.links v other ≡ number_of s.links u id

      there : u < length s.links.units
      there = subst (λ (n : ℕ). u < n) (sym alike.units) inside

      there_other : v < length s.links.units
      there_other = subst (λ (n : ℕ). v < n) (sym alike.units) inside_other

      not_apart : (OldOne × (NewOne → ⊥)) ⊎ ((OldOne → ⊥) × NewOne) → ⊥
      not_apart apart = no_row ((entry_of (unit_at s.links u) id).at) (record {
        u = u;
        id = id;
        v = v;
        other = other;
        known = there;
        inside = subst (λ (n : ℕ). id < n) (sym (alike.entries u there)) known;
        known_other = there_other;
        inside_other = subst (λ (n : ℕ). other < n) (sym (alike.entries v there_other)) known_other;
        earlier = earlier;
        table = table;
        apart = apart;
        place = refl;
      })

      pub ordered : OldOne ↔ NewOne
      ordered = (
        λ old. elim (cases_eq (number_of s.links v other) (number_of s.links u id)) [ inl new ↦ new | inr isnt ↦ absurd (not_apart (inl (old, isnt))) ],
        λ new. elim (cases_eq (number_of r.links v other) (number_of r.links u id)) [ inl old ↦ old | inr isnt ↦ absurd (not_apart (inr (isnt, new))) ],
      )

    -- Where no entry is untidy either, the declarations of entries under one old table correspond one to one.
    pub renewed_entries : HasRenewedEntries r.links s.links
    renewed_entries = record { renewed = renewed; one_to_one = one_to_one }
      where
        turned : {a b c d : ℕ} → (a ≡ b) ↔ (c ≡ d) → (b ≡ a) ↔ (d ≡ c)
        turned both = (λ e. sym (both.0 (sym e)), λ e. sym (both.1 (sym e)))

        one_to_one : (u id v other : ℕ) → u < length r.links.units → id < length (unit_at r.links u).forest.entries → v < length r.links.units →
            other < length (unit_at r.links v).forest.entries → (unit_at r.links v).head.table ≡ (unit_at r.links u).head.table →
            (number_of r.links v other ≡ number_of r.links u id) ↔ (number_of s.links v other ≡ number_of s.links u id)
        one_to_one u id v other inside known inside_other known_other table = elim (cases_order v u) [
          | inl e ↦ elim (cases_order other id) [
            | inl f ↦ (
              λ old. ap (λ (n : ℕ). number_of s.links n other) e ∙ ap (λ (n : ℕ). number_of s.links u n) f,
              λ new. ap (λ (n : ℕ). number_of r.links n other) e ∙ ap (λ (n : ℕ). number_of r.links u n) f,
            )
            | inr (inl less) ↦ ordered u id v other inside known inside_other known_other table (inr (e, less))
            | inr (inr more) ↦ turned (ordered v other u id inside_other known_other inside known (sym table) (inr (sym e, more)))
          ]
          | inr (inl less) ↦ ordered u id v other inside known inside_other known_other table (inl less)
          | inr (inr more) ↦ turned (ordered v other u id inside_other known_other inside known (sym table) (inl more))
        ]
