-- Entries that are written anew: each has its declaration, and as many values that mean the same but for their new numbers and the new
-- bytes of expressions, where some references are taken as ones within their unit.
use Rattle.std.proofs.Common.{◌≡◌, ◌≢◌, ◌≤◌, ◌<◌, ◌+◌, ◌-◌, ◌∙◌, ◌++◌, ℕ, List, ◌∷◌, length, take, drop, sym, ap, subst, refl, arith}
use Rattle.std.specs.Prelude.{slice_index}
use Rattle.std.proofs.lemmas.List.Elements.{AllZip-get_or, length_all_zip}
use Rattle.dw_base.specs.declared.classes.Classes.{Classes}
use Rattle.form_codec.specs.declared.value.Value.{Value}
use Rattle.form_codec.specs.Forms.{Meaning}
use Rattle.form_codec.specs.Values.{meant_in}
use Rattle.abbrev_tables.specs.declared.decl.Spec.{Spec}
use Rattle.abbrev_tables.specs.Tables.{Declared}
use Rattle.abbrev_tables.specs.Listings.{decl_at, declared_in}
use Rattle.abbrev_tables.specs.Written.{numbered_as}
use Rattle.entry_arena.specs.declared.entry.Entry.{Entry}
use Rattle.entry_arena.specs.Arena.{value_at}
use Rattle.entry_arena.specs.Trees.{ValuesBetween, declared_at}
use Rattle.entry_arena.specs.Standing.{StandsAs}
use Rattle.entry_read.specs.Slots.{meaning_at}
use Rattle.entry_read.specs.Units.{HeadAndForest}
use Rattle.entry_read.proofs.PlaceLaws.{entry_stands}
use Rattle.entry_read.proofs.Declarations.{declared_is}
use Rattle.unit_write.specs.declared.places.Places.{Places}
use Rattle.unit_write.specs.declared.write.NewNumbers.{NewNumbers}
use Rattle.unit_write.specs.NewExpressions.{made_of}
use Rattle.unit_write.specs.Values.{renewed}
use Rattle.unit_write.specs.Placing.{columns_of}
use Rattle.unit_write.specs.Moved.{IsMovedEntry}
use Rattle.value_links.specs.Sections.{debug_info}
use Rattle.value_links.specs.Reading.{UnitRead, Reading, unit_at, declarations}
use Rattle.value_links.specs.Values.{entry_of, declaration_of, values_of, HasValueAt}
use Rattle.value_links.specs.World.{World, named_by}
use Rattle.rewriter.specs.declared.tables.NewTable.{NewTable}
use Rattle.rewriter.specs.declared.new_places.NewPlaces.{NewPlaces}
use Rattle.rewriter.specs.inside.Tables.{TableAnew, new_table_at}
use Rattle.rewriter.specs.inside.Taken.{MeansFor}
use Rattle.rewriter.specs.inside.Placed.{unit_in, written_in, AreTaken}
use Rattle.rewriter.specs.inside.Units.{IsUnitMoved}
use Rattle.rewriter.specs.inside.Follows.{AreReadAnew}
use Rattle.rewriter.proofs.ChosenColumns.{chosen_columns_are_taken}
use Rattle.rewriter.proofs.ColumnLaws.{AreNamedAlike, columns_named}
use Rattle.rewriter.proofs.UsedDeclarations.{table_written, decl_known, decl_used, unit_is}
use Rattle.rewriter.proofs.MovedValues.{value_here, as_many}
use Rattle.rewriter.proofs.Standing.{held_count, held_unit}
use Rattle.rewriter.proofs.TakenLaws.{taken_count, value_taken}

abbrev no_entry : Entry
no_entry = record { at = 0; len = 0; depth = 0; decl = 0; first = 0; count = 0 }

-- a value with a number among those of a unit, with its new number or the new bytes of its expression
abbrev pub renewed_by : NewNumbers → ℕ → Meaning → Meaning
renewed_by numbers k meaning = renewed (slice_index numbers.held.items k) (made_of numbers.expressions.ends.items numbers.expressions.bytes.items k) meaning

-- the declaration of an entry is the same, but for its code, which is the new number, and for the forms of its columns
pub record IsSameDeclared (r s : Reading) (numbers : List ℕ) (u id : ℕ) : Type 0 where
  pub code : (declaration_of (unit_at s.links u) id).code ≡ slice_index numbers (entry_of (unit_at r.links u) id).decl
  pub tag : (declaration_of (unit_at s.links u) id).tag ≡ (declaration_of (unit_at r.links u) id).tag
  pub children : (declaration_of (unit_at s.links u) id).children ≡ (declaration_of (unit_at r.links u) id).children
  pub named : AreNamedAlike (declaration_of (unit_at r.links u) id).columns (declaration_of (unit_at s.links u) id).columns

module _ {classes : Classes} {file : List ℕ} {world : World} {tables : List NewTable} {places : List Places} {new_places : NewPlaces} {info abbrevs : List ℕ} {r s : Reading} (all : AreReadAnew classes file world tables places new_places info abbrevs r s) where
  abbrev pub new_table : ℕ → TableAnew
  new_table u = new_table_at tables (slice_index world.table_of u)

  -- a unit is written anew
  pub moved : (u : ℕ) → u < length r.links.units → IsUnitMoved world r.links tables places new_places u (unit_at s.links u)
  moved u inside = all.units.each u inside

  -- and so are its entries
  pub entry_moved : (u id : ℕ) → (inside : u < length r.links.units) → id < length (unit_at r.links u).forest.entries → IsMovedEntry (new_table u).numbers (entry_of (unit_at r.links u) id) (entry_of (unit_at s.links u) id)
  entry_moved u id inside known = AllZip-get_or (IsMovedEntry (new_table u).numbers) (unit_at r.links u).forest.entries (unit_at s.links u).forest.entries id no_entry no_entry (moved u inside).entries known

  pub entries_count : (u : ℕ) → u < length r.links.units → length (unit_at r.links u).forest.entries ≡ length (unit_at s.links u).forest.entries
  entries_count u inside = length_all_zip (IsMovedEntry (new_table u).numbers) (unit_at r.links u).forest.entries (unit_at s.links u).forest.entries (moved u inside).entries

  -- each with its declaration
  pub same_declared : (u id : ℕ) → u < length r.links.units → id < length (unit_at r.links u).forest.entries → IsSameDeclared r s (new_table u).numbers u id
  same_declared u id inside known =
      let unit : UnitRead = unit_at r.links u in
      let decl : ℕ = (entry_of unit id).decl in
      let number : ℕ = slice_index (new_table u).numbers decl in
      let ds : List Declared = declarations (unit_at s.links u) in
      let declared : decl < length unit.table.decls = decl_known all.read all.holds all.tables_written u id inside known in
      let positive : 1 ≤ number = decl_used all.read all.holds all.tables_written u id inside known in
      let some : number ≢ 0 = λ none. omega arith in
      let is : declared_at ds (number - 1) ≡ numbered_as number (decl_at unit.table.decls decl) (columns_of unit.table (new_table u).columns decl) = ((moved u inside).renumbered.each decl declared some).1 in
      let here : declaration_of (unit_at s.links u) id ≡ declared_at ds (number - 1) = ap (λ (z : ℕ). declared_at ds z) (entry_moved u id inside known).decl in
      let old : declaration_of unit id ≡ declared_in unit.table.specs (decl_at unit.table.decls decl) = declared_is unit.table decl declared in
      let w = table_written all.read all.holds all.tables_written u inside in
      let named : AreNamedAlike (columns_of unit.table unit.table.specs decl) (columns_of unit.table (new_table u).columns decl) = columns_named world.units (named_by unit) (new_table u).columns w.columns decl declared in
      let by_old = subst (λ (z : Declared). AreNamedAlike z.columns (columns_of unit.table (new_table u).columns decl)) (sym old) named in
      record {
        code = ap (λ (z : Declared). z.code) (here ∙ is);
        tag = ap (λ (z : Declared). z.tag) (here ∙ is) ∙ sym (ap (λ (z : Declared). z.tag) old);
        children = ap (λ (z : Declared). z.children) (here ∙ is) ∙ sym (ap (λ (z : Declared). z.children) old);
        named = subst (λ (z : Declared). AreNamedAlike (declaration_of unit id).columns z.columns) (sym (here ∙ is)) by_old;
      }

  -- a value of an entry stands in it
  pub has_value : (u id : ℕ) → u < length r.links.units → (known : id < length (unit_at r.links u).forest.entries) → (stands : StandsAs (unit_at r.links u).forest.section (declarations (unit_at r.links u)) (unit_at r.links u).forest.values (entry_of (unit_at r.links u) id)) → (before : List Spec) (c : Spec) (after : List Spec) (evs : List Value) (v : Value) (more : List Value) (place : ℕ) → (declaration_of (unit_at r.links u) id).columns ≡ before ++ c ∷ after → values_of (unit_at r.links u) id ≡ evs ++ v ∷ more → ValuesBetween (unit_at r.links u).forest.section before evs stands.values_at place → HasValueAt (unit_at r.links u) id ((entry_of (unit_at r.links u) id).first + length evs) c.name (meant_in (unit_at r.links u).forest.section v) place
  has_value u id inside known stands before c after evs v more place columns values valued = record {
    known = known;
    earlier_columns = before;
    column = c;
    later_columns = after;
    columns = columns;
    earlier = evs;
    value = v;
    later = more;
    values = values;
    numbered = refl;
    values_at = stands.values_at;
    coded = stands.coded;
    valued = valued;
    named = refl;
    meant = refl;
  }

  -- an entry of an old unit stands in .debug_info
  pub stands_in : (u id : ℕ) → u < length r.links.units → id < length (unit_at r.links u).forest.entries → StandsAs (unit_at r.links u).forest.section (declarations (unit_at r.links u)) (unit_at r.links u).forest.values (entry_of (unit_at r.links u) id)
  stands_in u id inside known =
      let is = unit_is all.read all.holds all.tables_written u inside in
      entry_stands (debug_info file) (unit_at r.links u).head (declarations (unit_at r.links u)) (unit_at r.links u).forest is.section is.entries id known

  -- the values that an entry of the new unit has, by the first and the count of the old entry
  abbrev pub new_values : ℕ → ℕ → List Value
  new_values u id = take (entry_of (unit_at r.links u) id).count (drop (entry_of (unit_at r.links u) id).first (unit_at s.links u).forest.values)

  pub values_are : (u id : ℕ) → u < length r.links.units → id < length (unit_at r.links u).forest.entries → values_of (unit_at s.links u) id ≡ new_values u id
  values_are u id inside known =
      let e = entry_moved u id inside known in
      ap (λ (z : ℕ). take z (drop (entry_of (unit_at s.links u) id).first (unit_at s.links u).forest.values)) e.count ∙ ap (λ (z : ℕ). take (entry_of (unit_at r.links u) id).count (drop z (unit_at s.links u).forest.values)) e.first

  -- VALUES

  -- the values as they are written stand for those that were read
  pub taken : AreTaken world tables
  taken = chosen_columns_are_taken file world r abbrevs tables all.read all.holds all.tables_written

  -- what is written for a value with a number among those of a unit
  abbrev pub taken_meaning : ℕ → ℕ → Meaning
  taken_meaning u number = meaning_at (written_in world tables u).forest number

  pub means_taken : (u id number name : ℕ) (meaning : Meaning) (place : ℕ) → u < length r.links.units → HasValueAt (unit_at r.links u) id number name meaning place → MeansFor (unit_at r.links u).head meaning (meaning_at (written_in world tables u).forest number)
  means_taken u id number name meaning place inside stands = value_taken file world r tables u id number name meaning place all.read all.holds taken inside stands

  -- there are as many values
  pub written_count : (u : ℕ) → u < length r.links.units → length (written_in world tables u).forest.values ≡ length (unit_at r.links u).forest.values
  written_count u inside =
      let held : length world.units ≡ length r.links.units = held_count file world r all.holds in
      taken_count (unit_in world.units u) (written_in world tables u) (taken u (omega (arith, held, inside))) ∙ ap (λ (h : HeadAndForest). length h.forest.values) (held_unit file world r u all.holds)

  pub as_many_values : (u : ℕ) → u < length r.links.units → length (unit_at s.links u).forest.values ≡ length (unit_at r.links u).forest.values
  as_many_values u inside = (moved u inside).values.count ∙ written_count u inside

  -- each means what is written for the old one, renewed
  pub values_mean : (u id : ℕ) (inside : u < length r.links.units) (k : ℕ) → k < length (values_of (unit_at r.links u) id) → meant_in (unit_at s.links u).forest.section (value_at (new_values u id) k) ≡ renewed_by (moved u inside).numbers ((entry_of (unit_at r.links u) id).first + k) (taken_meaning u ((entry_of (unit_at r.links u) id).first + k))
  values_mean u id inside k k_in =
      let m = moved u inside in
      let e : Entry = entry_of (unit_at r.links u) id in
      let size : length (new_values u id) ≡ length (values_of (unit_at r.links u) id) = as_many (unit_at r.links u).forest.values (unit_at s.links u).forest.values e.first e.count (as_many_values u inside) in
      let (_, old_in) = value_here (unit_at r.links u).forest.values e.first e.count k k_in in
      let (new, _) = value_here (unit_at s.links u).forest.values e.first e.count k (subst (λ (z : ℕ). k < z) (sym size) k_in) in
      ap (λ (z : Value). meant_in (unit_at s.links u).forest.section z) new ∙ m.values.each (e.first + k) (subst (λ (z : ℕ). e.first + k < z) (sym (written_count u inside)) old_in)
