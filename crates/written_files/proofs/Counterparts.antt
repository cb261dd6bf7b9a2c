-- The parts of a written file that are those of the old one, and the forms that its values have.
use Rattle.std.proofs.Common.{◌≡◌, ◌<◌, ◌+◌, ◌∙◌, ℕ, List, length, get_or, sym, ap, refl, subst}
use Rattle.dw_base.specs.declared.fault.Span.{Span}
use Rattle.form_codec.specs.declared.value.Value.{Value}
use Rattle.form_codec.specs.declared.value.Value.TheVariants as value
use Rattle.form_codec.specs.Forms.{Meaning}
use Rattle.form_codec.specs.Forms.Meaning.{Expression}
use Rattle.form_codec.specs.Values.{meant_in}
use Rattle.abbrev_tables.specs.declared.decl.Spec.{Spec}
use Rattle.abbrev_tables.specs.Listings.{spec_at}
use Rattle.abbrev_tables.specs.LeastColumns.{IsLeastColumn}
use Rattle.entry_arena.specs.Arena.{value_at}
use Rattle.entry_read.specs.Expressions.{IsExprAt}
use Rattle.value_links.specs.Sections.{debug_info, debug_abbrev}
use Rattle.value_links.specs.Reading.{UnitRead, Reading, unit_at}
use Rattle.value_links.specs.Values.{HasValueAt, entry_of, declaration_of}
use Rattle.value_links.specs.Resolved.{Resolved, Resolves}
use Rattle.value_links.specs.Same.{Same}
use Rattle.value_links.specs.Whole.{IsReading}
use Rattle.value_links.specs.Debug.{UnitMeaning, Debug, Means, MeansDebug, MeansUnit}
use Rattle.value_links.proofs.HeldUnits.{unit_is, unit_owners}
use Rattle.value_links.proofs.EntryValues.{column_of, column_numbered, value_stands}
use Rattle.value_links.proofs.ReadingOnce.{reading_once}
use Rattle.written_files.specs.Classes.{HaveColumns}
use Rattle.written_files.specs.inside.Counterparts.{HasOld, Correspond, HasWrittenForm}
use Rattle.written_files.specs.inside.Laws.{HoldsOfThese, SameFilesCorrespond, HaveWrittenForms}
use Rattle.written_files.proofs.AlikeMeanings.{IsAlike, alike_values}
use Rattle.written_files.proofs.ColumnSpellings.{column_spelled, in_column}
use Rattle.written_files.proofs.Forms.{written_form}
use Rattle.written_files.proofs.SameValues.{IsMeantBy, attributes_in, attribute_with, meaning_in, name_in, no_unit_meaning, entries_counted, count_is, column_means, first_is, values_counted}

-- What holds of some readings of both files holds of these, since a file is read in one way.
pub holds_of_these : HoldsOfThese
holds_of_these Holds file written r s read again (old, new, old_read, new_read, holds) =
    subst (λ (z : Reading). Holds z s) (reading_once file old r old_read read) (subst (λ (z : Reading). Holds old z) (reading_once written new s new_read again) holds)

-- only an expression means one
pub expression_value : (section : List ℕ) (v : Value) (bytes : List ℕ) → meant_in section v ≡ Expression bytes → (span : Span) × (v ≡ value.Expr span)
expression_value section (value.Expr span) bytes e = (span, refl)
expression_value section v bytes e = absurd (cc e)

-- so a value that stands at a number
expression_there : (section : List ℕ) (values : List Value) (number n : ℕ) (meaning : Meaning) (bytes : List ℕ) → number ≡ n → meaning ≡ meant_in section (value_at values n) → meaning ≡ Expression bytes → (span : Span) × (value_at values number ≡ value.Expr span)
expression_there section values number n meaning bytes here meant is =
    expression_value section (value_at values number) bytes (ap (λ (k : ℕ). meant_in section (value_at values k)) here ∙ sym meant ∙ is)

-- the values of an entry in a column mean one thing in both files
pub record MeansAlike (r s : Reading) (u id k : ℕ) : Type 0 where
  pub value : Resolved
  pub means : Resolves r u id (name_in (unit_at r.links u) id k) (meaning_in (unit_at r.links u) id k) value
  pub also : Resolves s u id (name_in (unit_at s.links u) id k) (meaning_in (unit_at s.links u) id k) value

-- BOTH FILES, BY THEIR ONE MEANING

module _ (file written : List ℕ) (r s : Reading) (read : IsReading file r) (again : IsReading written s) (debug : Debug) (old : MeansDebug file r debug) (new : MeansDebug written s debug) where
  pub same_units : length s.links.units ≡ length r.links.units
  same_units = sym new.units.count ∙ old.units.count

  module _ (u : ℕ) (inside : u < length s.links.units) where
    abbrev was : UnitRead
    was = unit_at r.links u

    abbrev now : UnitRead
    now = unit_at s.links u

    abbrev m : UnitMeaning
    m = get_or debug.units u no_unit_meaning

    before : u < length r.links.units
    before = subst (λ (n : ℕ). u < n) same_units inside

    one : MeansUnit r u m
    one = old.units.each u no_unit_meaning (subst (λ (n : ℕ). u < n) (sym old.units.count) before)

    two : MeansUnit s u m
    two = new.units.each u no_unit_meaning (subst (λ (n : ℕ). u < n) (sym new.units.count) inside)

    pub same_entries : length now.forest.entries ≡ length was.forest.entries
    same_entries = sym (entries_counted written s again u inside m two) ∙ entries_counted file r read u before m one

    entry : (id : ℕ) → id < length now.forest.entries → id < length m.forest
    entry id known = subst (λ (n : ℕ). id < n) (sym (entries_counted written s again u inside m two)) known

    pub same_first : (id : ℕ) → id < length now.forest.entries → (entry_of now id).first ≡ (entry_of was id).first
    same_first id known = first_is written s again u inside m two id (entry id known) ∙ sym (first_is file r read u before m one id (entry id known))

    pub same_count : (id : ℕ) → id < length now.forest.entries → (entry_of now id).count ≡ (entry_of was id).count
    same_count id known = sym (count_is written s again u inside m two id (entry id known)) ∙ count_is file r read u before m one id (entry id known)

    same_numbers : length now.forest.values ≡ length was.forest.values
    same_numbers = values_counted written s again u inside m two ∙ sym (values_counted file r read u before m one)

    -- the value in a column of an entry means in both files what one attribute does
    pub meant_by_both : (id k : ℕ) → id < length now.forest.entries → k < (entry_of now id).count → IsMeantBy r u id k (attribute_with m.forest id k) × IsMeantBy s u id k (attribute_with m.forest id k)
    meant_by_both id k known below =
        let inner : k < length (attributes_in m.forest id) = subst (λ (n : ℕ). k < n) (sym (count_is written s again u inside m two id (entry id known))) below in
        (column_means file r read u before m one id (entry id known) k inner, column_means written s again u inside m two id (entry id known) k inner)

    one_value : (id k : ℕ) → id < length now.forest.entries → k < (entry_of now id).count → MeansAlike r s u id k
    one_value id k known below =
        let (by_old, by_new) = meant_by_both id k known below in
        record { value = (attribute_with m.forest id k).1; means = by_old.resolves; also = by_new.resolves }

    old_value : (id number name : ℕ) (meaning : Meaning) (place : ℕ) → HasValueAt now id number name meaning place → HasOld r s u id number name meaning
    old_value id number name meaning place stands =
        let owned = unit_owners (debug_info written) (debug_abbrev written) s.links.units again.links.units u inside in
        let (k, below, named, meant) = column_of now owned id stands.known number name meaning place stands in
        let here : number ≡ (entry_of now id).first + k = column_numbered now owned id stands.known number name meaning place stands in
        let (by_old, by_new) = meant_by_both id k stands.known below in
        let value : Resolved = (attribute_with m.forest id k).1 in
        let same_name : name_in was id k ≡ name = sym by_old.named ∙ by_new.named ∙ sym named in
        let same_number : (entry_of was id).first + k ≡ number = ap (λ (n : ℕ). n + k) (sym (same_first id stands.known)) ∙ sym here in
        record {
          old = meaning_in was id k;
          at = by_old.place;
          stands =
              subst (λ (n : ℕ). HasValueAt was id n name (meaning_in was id k) by_old.place) same_number (subst (λ (n : ℕ). HasValueAt was id ((entry_of was id).first + k) n (meaning_in was id k) by_old.place) same_name by_old.stands);
          value = value;
          means = subst (λ (n : ℕ). Resolves r u id n (meaning_in was id k) value) same_name by_old.resolves;
          also =
              subst (λ (z : Meaning). Resolves s u id name z value) (sym meant) (subst (λ (n : ℕ). Resolves s u id n (meaning_in now id k) value) (sym named) by_new.resolves);
        }

    old_expression : (number : ℕ) (span : Span) → IsExprAt now.forest number span → (old : Span) × IsExprAt was.forest number old
    old_expression number span is =
        let read_now = unit_is (debug_info written) (debug_abbrev written) s.links.units again.links.units u inside in
        let owned = unit_owners (debug_info written) (debug_abbrev written) s.links.units again.links.units u inside in
        let held = unit_owners (debug_info file) (debug_abbrev file) r.links.units read.links.units u before in
        let meaning : Meaning = meant_in now.forest.section (value_at now.forest.values number) in
        let (id, name, place, stands) = value_stands (debug_info written) (debug_abbrev written) now read_now owned number is.inside in
        let h : HasOld r s u id number name meaning = old_value id number name meaning place stands in
        let alike : IsAlike meaning h.old = alike_values s r u u id id name name meaning h.old h.value h.also h.means in
        let (others, same) = subst (λ (v : Value). IsAlike (meant_in now.forest.section v) h.old) is.is alike in
        let (k, below, named, meant) = column_of was held id h.stands.known number name h.old h.at h.stands in
        let here : number ≡ (entry_of was id).first + k = column_numbered was held id h.stands.known number name h.old h.at h.stands in
        let (old_span, found) = expression_there was.forest.section was.forest.values number ((entry_of was id).first + k) h.old others here meant same in
        (old_span, record { inside = subst (λ (n : ℕ). number < n) same_numbers is.inside; is = found })

-- what a file means is what is read of it means
means_read : (file : List ℕ) (r : Reading) (debug : Debug) → IsReading file r → Means file debug → MeansDebug file r debug
means_read file r debug read (other, is, means) = subst (λ (z : Reading). MeansDebug file z debug) (reading_once file other r is read) means

-- Two files that mean the same have units, entries and values that correspond by their numbers.
pub correspond : SameFilesCorrespond
correspond file written r s read again same =
    let debug : Debug = same.debug.0 in
    let old : MeansDebug file r debug = means_read file r debug read same.debug.1 in
    let new : MeansDebug written s debug = means_read written s debug again same.debug.2 in
    record {
      units = same_units file written r s read again debug old new;
      entries = λ u inside. same_entries file written r s read again debug old new u inside;
      first = λ u id inside known. same_first file written r s read again debug old new u inside id known;
      count = λ u id inside known. same_count file written r s read again debug old new u inside id known;
      numbers = λ u inside. same_numbers file written r s read again debug old new u inside;
      values = λ u id number name meaning place inside stands. old_value file written r s read again debug old new u inside id number name meaning place stands;
      expressions = λ u number span inside is. old_expression file written r s read again debug old new u inside number span is;
    }

-- The values of an entry in one column mean one thing in two files that mean the same.
pub columns_alike : (file written : List ℕ) (r s : Reading) → IsReading file r → IsReading written s → Same file written → (u id k : ℕ) → u < length s.links.units → id < length (unit_at s.links u).forest.entries → k < (entry_of (unit_at s.links u) id).count → MeansAlike r s u id k
columns_alike file written r s read again same u id k inside known below =
    let debug : Debug = same.debug.0 in
    one_value file written r s read again debug (means_read file r debug read same.debug.1) (means_read written s debug again same.debug.2) u inside id k known below

-- A value of the written file has the form of a least column, which spells it.
pub written_forms : HaveWrittenForms
written_forms file written r s anew u id number name meaning place inside stands =
    let now : UnitRead = unit_at s.links u in
    let same : Correspond r s = correspond file written r s anew.read anew.again anew.anew.same in
    let columns : HaveColumns (IsLeastColumn anew.classes) r.links s.links = holds_of_these (λ x y. HaveColumns (IsLeastColumn anew.classes) x.links y.links) file written r s anew.read anew.again anew.anew.columns in
    let here = columns u id (subst (λ (n : ℕ). u < n) same.units inside) (subst (λ (n : ℕ). id < n) (same.entries u inside) stands.known) in
    let is = unit_is (debug_info written) (debug_abbrev written) s.links.units anew.again.links.units u inside in
    let owned = unit_owners (debug_info written) (debug_abbrev written) s.links.units anew.again.links.units u inside in
    let k : ℕ = length stands.earlier_columns in
    let at = in_column now owned id number name meaning place stands in
    let k_in : k < length (declaration_of now id).columns = subst (λ (n : ℕ). k < n) (owned.counted id stands.known) at.inside in
    let least = (here.each k (subst (λ (n : ℕ). k < n) here.count k_in)).least in
    let (bytes, spelled) = column_spelled (debug_info written) (debug_abbrev written) now is owned id k stands.known at.inside in
    let form : HasWrittenForm (meaning_in now id k) (spec_at (declaration_of now id).columns k).form = written_form (spec_at (declaration_of now id).columns k).name (spec_at (declaration_of now id).columns k).form (spec_at (declaration_of now id).columns k).constant (meaning_in now id k) bytes least.enough.choice spelled in
    subst (λ (c : Spec). HasWrittenForm meaning c.form) at.column_is (subst (λ (m : Meaning). HasWrittenForm m (spec_at (declaration_of now id).columns k).form) (sym at.means) form)
