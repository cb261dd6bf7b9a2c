-- A valid file that is read means something.
use Rattle.std.proofs.Common.{◌≡◌, ◌<◌, ◌+◌, ◌∙◌, ◌++◌, inl, inr, ℕ, zero, suc, List, [], ◌∷◌, length, get_or, sym, subst, refl, arith}
use Rattle.std.specs.Prelude.{Option, Some, None, map}
use Rattle.std.specs.List.{All, AllZip}
use Rattle.std.proofs.lemmas.Bool.{cases_eq}
use Rattle.std.proofs.lemmas.List.{append_assoc, get_or-map, length-map}
use Rattle.std.proofs.lemmas.List.Elements.{All-get_or, All-head, All-tail}
use Rattle.line_machine.specs.Heads.{minimum_instruction_length, default_is_stmt}
use Rattle.line_write.specs.Programs.{tables_of}
use Rattle.line_write.specs.Meaning.{ProgramMeaning, HaveMeanings}
use Rattle.dw_base.specs.declared.fault.Kind.{Kind}
use Rattle.dw_base.specs.declared.fault.Kind.TheVariants.{Target as NoTarget}
use Rattle.dw_base.specs.declared.fault.Reach.{Reach}
use Rattle.form_codec.specs.declared.value.Value.{Value}
use Rattle.form_codec.specs.Forms.{Meaning}
use Rattle.form_codec.specs.Values.{meant_in}
use Rattle.abbrev_tables.specs.declared.decl.Spec.{Spec}
use Rattle.entry_arena.specs.declared.entry.Entry.{Entry}
use Rattle.entry_arena.specs.Arena.{entry_at}
use Rattle.entry_arena.specs.Forests.{Described, attributes_of, described_by}
use Rattle.entry_arena.specs.Trees.{ValuesBetween}
use Rattle.entry_read.specs.Heads.{type_unit}
use Rattle.entry_read.proofs.Parts.{values_push}
use Rattle.entry_read.proofs.PlaceLaws.{entry_stands}
use Rattle.value_links.specs.Sections.{offset_named, debug_info, debug_abbrev, debug_line, info_name}
use Rattle.list_model.specs.declared.entry.ListKind.{ListKind}
use Rattle.list_model.specs.declared.entry.ListKind.TheVariants.{Ranges, Locations}
use Rattle.value_links.specs.Reading.{ProgramRead, Linkable, Reading, line_heads, HasRows, no_unit, unit_at, of_kind, lists_of, part_at, declarations, IsUnitRead}
use Rattle.value_links.specs.Whole.{IsReadToLinks, IsReading}
use Rattle.value_links.specs.Values.{entry_of, declaration_of, values_of, HasValueAt}
use Rattle.value_links.specs.Linked.{Linked, Links, IsTypeEntry}
use Rattle.value_links.specs.Lists.{AreTold}
use Rattle.value_links.specs.Resolved.{ListMeaning, Resolved, Resolves}
use Rattle.value_links.specs.Debug.{EntryMeaning, UnitMeaning, PartMeaning, Debug, described, set_meaning, MeansAttribute, MeansEntry, MeansType, MeanEntries, MeansUnit, MeansSlot, MeansPart, MeanParts, parts_of, MeansDebug}
use Rattle.value_links.specs.Faults.{FaultLinks, IsValid}
use Rattle.value_links.specs.Faults.Pass.{OfLinks}
use Rattle.value_links.specs.Laws.{ValidFilesMean}
use Rattle.value_links.specs.Parts.{LinkedFilesMean}
use Rattle.value_links.proofs.LinkLaws.{search_below}
use Rattle.value_links.proofs.ExpressionBytes.{unit_small}
use Rattle.value_links.proofs.ExpressionLaws.{linked_or_fault}
use Rattle.value_links.proofs.ListMeanings.{named_means}
use Rattle.value_links.proofs.MeaningLaws.{links_mean}

-- LISTS

list_from : {X : Type 0} (P : ℕ → X → Type 0) (n : ℕ) → ((i : ℕ) → i < n → (x : X) × P i x) → (xs : List X) × (length xs ≡ n) × ((i : ℕ) (d : X) → i < length xs → P i (get_or xs i d))
list_from P zero each = ([], refl, λ i d inside. absurd (omega arith))
list_from {X} P (suc n) each =
    let (x, first) = each 0 (omega arith) in
    let (xs, size, rest) = list_from (λ i. P (suc i)) n (λ i inside. each (suc i) (omega arith)) in
    (x ∷ xs, omega arith, at x xs first rest)
  where
    at : (x : X) (xs : List X) → P 0 x → ((i : ℕ) (d : X) → i < length xs → P (suc i) (get_or xs i d)) → (i : ℕ) (d : X) → i < length (x ∷ xs) → P i (get_or (x ∷ xs) i d)
    at x xs first rest zero d inside = first
    at x xs first rest (suc i) d inside = rest i d (omega arith)

-- MEANINGS

programs_mean : (section : List ℕ) (programs : List ProgramRead) → All (HasRows section) programs → (meanings : List ProgramMeaning) × HaveMeanings section (line_heads programs) meanings
programs_mean section [] given = ([], tt)
programs_mean section (p ∷ programs) given =
    let (meanings, rest) = programs_mean section programs (All-tail (HasRows section) p programs given) in
    let meaning : ProgramMeaning = record { min = minimum_instruction_length section p.head.at; is_stmt = default_is_stmt section p.head.at; tables = tables_of section p.head; rows = p.rows } in
    (meaning ∷ meanings, (record { min = refl; is_stmt = refl; tables = refl; rows = All-head (HasRows section) p programs given }, rest))

module _ (r : Reading) (u id : ℕ) where
  -- the values of columns mean something, where each does in its place
  columns_mean : (section : List ℕ) (earlier cs : List Spec) (evs vs : List Value) (values_at from to : ℕ) → ValuesBetween section earlier evs values_at from → ValuesBetween section cs vs from to → ((before : List Spec) (c : Spec) (after : List Spec) (values : List Value) (v : Value) (more : List Value) (place : ℕ) → earlier ++ cs ≡ before ++ c ∷ after → evs ++ vs ≡ values ++ v ∷ more → ValuesBetween section before values values_at place → (y : Resolved) × Resolves r u id c.name (meant_in section v) y) → (ys : List (ℕ × Resolved)) × AllZip (MeansAttribute r u id) (attributes_of section cs vs) ys
  columns_mean section earlier [] evs [] values_at from to prior valued each = ([], tt)
  columns_mean section earlier [] evs (v ∷ vs) values_at from to prior valued each = absurd valued
  columns_mean section earlier (c ∷ cs) evs [] values_at from to prior valued each = absurd valued
  columns_mean section earlier (c ∷ cs) evs (v ∷ vs) values_at from to prior (next, spelled, placed, valued) each =
      let (y, means) = each earlier c cs evs v vs from refl refl prior in
      let (ys, zip) = columns_mean section (earlier ++ c ∷ []) cs (evs ++ v ∷ []) vs values_at next to (values_push section earlier evs c v values_at from next prior spelled placed) valued (λ before k after values w more place e f. each before k after values w more place (sym (append_assoc earlier (c ∷ []) cs) ∙ e) (sym (append_assoc evs (v ∷ []) vs) ∙ f)) in
      ((c.name, y) ∷ ys, (record { name = refl; value = means }, zip))

-- each value refers to something
abbrev pub ValuesLink : Linkable → Type 0
ValuesLink r = (u id number name : ℕ) (meaning : Meaning) (place : ℕ) → u < length r.units → HasValueAt (unit_at r u) id number name meaning place → (linked : Linked) × Links r u id name meaning linked

-- each type unit has the entry of its type
abbrev TypesStand : Linkable → Type 0
TypesStand r = (u : ℕ) → u < length r.units → (unit_at r u).head.kind ≡ type_unit → (id : ℕ) × IsTypeEntry r u id

module _ (file : List ℕ) (r : Reading) (read : IsReading file r) (told : (kind : ListKind) → AreTold r.links kind (lists_of r kind)) (value_links : ValuesLink r.links) (type_stands : TypesStand r.links) where
  -- so each means something
  value_means : (u id number name : ℕ) (meaning : Meaning) (place : ℕ) → u < length r.links.units → HasValueAt (unit_at r.links u) id number name meaning place → (v : Resolved) × Resolves r u id name meaning v
  value_means u id number name meaning place inside h =
      let (linked, links) = value_links u id number name meaning place inside h in
      links_mean file r u id number name meaning place linked read told inside h links

  entry_means : (u : ℕ) → u < length r.links.units → (id : ℕ) → id < length (unit_at r.links u).forest.entries → (e : EntryMeaning) × MeansEntry r u id (described_by (unit_at r.links u).forest.section (declarations (unit_at r.links u)) (unit_at r.links u).forest.values (entry_of (unit_at r.links u) id)) e
  entry_means u inside id known =
      let unit = unit_at r.links u in
      let is : IsUnitRead (debug_info file) (debug_abbrev file) unit = All-get_or (IsUnitRead (debug_info file) (debug_abbrev file)) r.links.units u no_unit inside read.links.units.each in
      let stands = entry_stands (debug_info file) unit.head (declarations unit) unit.forest is.section is.entries id known in
      let end : ℕ = (entry_of unit id).at + (entry_of unit id).len in
      let (attributes, zip) = columns_mean r u id unit.forest.section [] (declaration_of unit id).columns [] (values_of unit id) stands.values_at stands.values_at end refl stands.valued (λ before c after values v more place e f prior. value_means u id ((entry_of unit id).first + length values) c.name (meant_in unit.forest.section v) place inside (record {
        known = known;
        earlier_columns = before;
        column = c;
        later_columns = after;
        columns = e;
        earlier = values;
        value = v;
        later = more;
        values = f;
        numbered = refl;
        values_at = stands.values_at;
        coded = stands.coded;
        valued = prior;
        named = refl;
        meant = refl;
      })) in
      (record { depth = (entry_of unit id).depth; tag = (declaration_of unit id).tag; children = (declaration_of unit id).children; attributes = attributes }, record { depth = refl; tag = refl; children = refl; attributes = zip })

  type_means : (u : ℕ) → u < length r.links.units → (entry : Option ℕ) × MeansType r.links u entry
  type_means u inside = elim (cases_eq (unit_at r.links u).head.kind type_unit) [
    | inr other ↦ (None, other)
    | inl is_type ↦ let (id, here) = type_stands u inside is_type in (Some id, (is_type, here))
  ]

  unit_means : (u : ℕ) → u < length r.links.units → (m : UnitMeaning) × MeansUnit r u m
  unit_means u inside =
      let unit = unit_at r.links u in
      let no_entry : Entry = record { at = 0; len = 0; depth = 0; decl = 0; first = 0; count = 0 } in
      let say : Entry → Described = described_by unit.forest.section (declarations unit) unit.forest.values in
      let (forest, count, each) = list_from (λ id. MeansEntry r u id (say (entry_of unit id))) (length unit.forest.entries) (entry_means u inside) in
      let size : length (described unit) ≡ length unit.forest.entries = length-map unit.forest.entries say in
      let entries : MeanEntries r u forest = record {
        count = count ∙ sym size;
        each = λ id d e known. subst (λ (z : Described). MeansEntry r u id z (get_or forest id e)) (sym (get_or-map say unit.forest.entries id no_entry d (subst (λ (z : ℕ). id < z) count known))) (each id e known);
      } in
      let (entry, is) = type_means u inside in
      (record { unit_type = unit.head.kind; signature = unit.head.extra; type_entry = entry; forest = forest }, record { unit_type = refl; signature = refl; type_entry = is; forest = entries })

  -- each slot names a list, which means something
  slot_means : (kind : ListKind) (p : ℕ) → p < length (of_kind r.links kind).parts → (i : ℕ) → i < (part_at (of_kind r.links kind) p).slots → (m : ListMeaning) × MeansSlot r kind p i m
  slot_means kind p inside i counted =
      let (at, names) = (read.lists kind).slots p i inside counted in
      let (meaning, means) = named_means file r read kind (told kind) at (inr (p, i, names)) in
      (meaning, (at, names, means))

  part_means : (kind : ListKind) (p : ℕ) → p < length (of_kind r.links kind).parts → (m : PartMeaning) × MeansPart r kind p m
  part_means kind p inside =
      let (slots, count, each) = list_from (MeansSlot r kind p) (part_at (of_kind r.links kind) p).slots (slot_means kind p inside) in
      (record { slots = slots }, record { count = count; each = each })

  parts_mean : (kind : ListKind) → (parts : List PartMeaning) × MeanParts r kind parts
  parts_mean kind =
      let (parts, number, each) = list_from (MeansPart r kind) (length (of_kind r.links kind).parts) (part_means kind) in
      (parts, record { count = number; each = each })

  by_kind : (debug : Debug) → MeanParts r Ranges debug.ranges → MeanParts r Locations debug.locations → (kind : ListKind) → MeanParts r kind (parts_of debug kind)
  by_kind debug ranges locations Ranges = ranges
  by_kind debug ranges locations Locations = locations

  file_means : (debug : Debug) × MeansDebug file r debug
  file_means =
      let (units, size, each) = list_from (MeansUnit r) (length r.links.units) unit_means in
      let (programs, meant) = programs_mean (debug_line file) r.links.programs read.links.programs.given in
      let (ranges, of_ranges) = parts_mean Ranges in
      let (locations, of_locations) = parts_mean Locations in
      let debug : Debug = record { programs = programs; units = units; ranges = ranges; locations = locations; aranges = map set_meaning r.sets } in
      (debug, record { programs = meant; units = record { count = size; each = each }; lists = by_kind debug of_ranges of_locations; aranges = refl })

-- VALID FILES

module _ (file : List ℕ) (reach : Reach) (r : Linkable) (read : IsReadToLinks file r) (valid : IsValid file reach) where
  no_link_fault : (kind : Kind) (place : ℕ) → FaultLinks file reach kind place → ⊥
  no_link_fault kind place f = valid OfLinks kind (offset_named file info_name + place) (inl (place, refl, f))

  pub valid_values : ValuesLink r
  valid_values u id number name meaning place inside h =
      let is : IsUnitRead (debug_info file) (debug_abbrev file) (unit_at r u) = All-get_or (IsUnitRead (debug_info file) (debug_abbrev file)) r.units u no_unit inside read.units.each in
      elim (linked_or_fault r reach u id number name meaning place h (unit_small (debug_info file) (debug_abbrev file) (unit_at r u) is id number name meaning place h)) [
        | inl links ↦ links
        | inr faulty ↦ absurd (no_link_fault faulty.0 faulty.1 (record { r = r; read = read; u = u; inside = inside; fault = faulty.2 }))
      ]

  valid_types : TypesStand r
  valid_types u inside is_type = elim (search_below (λ i. (entry_at (unit_at r u).forest.entries i).at ≡ (unit_at r u).head.at + (unit_at r u).head.type_at) (λ i. cases_eq (entry_at (unit_at r u).forest.entries i).at ((unit_at r u).head.at + (unit_at r u).head.type_at)) (length (unit_at r u).forest.entries)) [
    | inl found ↦ (found.0, (found.1, found.2))
    | inr none ↦ absurd (no_link_fault NoTarget ((unit_at r u).head.at + 20) (record { r = r; read = read; u = u; inside = inside; fault = inr (inl (is_type, (λ (x : (id : ℕ) × IsTypeEntry r u id). none x.0 x.1.0 x.1.1), refl)) }))
  ]

pub valid_means : ValidFilesMean
valid_means file reach r read told valid = file_means file r read told (valid_values file reach r.links read.links valid) (valid_types file reach r.links read.links valid)

-- LINKED FILES

pub linked_means : LinkedFilesMean
linked_means file r read told linked = file_means file r read told linked.values linked.types
