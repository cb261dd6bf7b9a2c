-- Each expression that is written anew is one within the wide limits, with the operations of the old one.
use Rattle.std.proofs.Common.{◌≡◌, ◌≤◌, ◌<◌, ◌+◌, ◌-◌, ◌∙◌, ℕ, List, [], length, sym, ap, subst, refl, arith}
use Rattle.std.specs.Prelude.{slice_index}
use Rattle.dw_base.specs.declared.classes.Classes.{Classes}
use Rattle.dw_base.specs.declared.fault.Reach.TheVariants.{Wide}
use Rattle.form_codec.specs.Forms.{Meaning}
use Rattle.form_codec.specs.Forms.Meaning.{Expression, InUnit, InSection, SectionPlace}
use Rattle.form_codec.specs.Values.{bytes_in, meant_in}
use Rattle.abbrev_tables.specs.Listings.{spec_at}
use Rattle.expr_ops.specs.Expressions.{IsExpression}
use Rattle.expr_ops.specs.Ops.{all_meant}
use Rattle.expr_ops.specs.Drafts.{with_refs}
use Rattle.expr_ops.specs.Shortest.{IsWrittenShortest}
use Rattle.entry_arena.specs.Arena.{value_at}
use Rattle.unit_write.specs.declared.places.Places.{Places}
use Rattle.unit_write.specs.NewExpressions.{made_of, refs_among}
use Rattle.unit_write.specs.Values.{renewed}
use Rattle.value_links.specs.Reading.{UnitRead, Reading, unit_at, IsUnitRead}
use Rattle.value_links.specs.Values.{entry_of, declaration_of, values_of, HasValueAt}
use Rattle.value_links.specs.Laws.{AreExpressionsWithin}
use Rattle.written_files.specs.Tidy.{AreTidyExpressions}
use Rattle.value_links.specs.World.{World}
use Rattle.rewriter.specs.declared.tables.NewTable.{NewTable}
use Rattle.rewriter.specs.declared.new_places.NewPlaces.{NewPlaces}
use Rattle.rewriter.specs.inside.Taken.{MeansFor}
use Rattle.rewriter.specs.inside.Placed.{written_in}
use Rattle.rewriter.specs.inside.Numbers.{IsNewValue, IsNewExpression}
use Rattle.rewriter.specs.inside.Follows.{AreReadAnew, ExpressionsAreWide, ExpressionsAreTidy}
use Rattle.rewriter.proofs.Meant.{owners, values_size, value_same}
use Rattle.rewriter.proofs.MovedEntries.{moved, taken_meaning, means_taken, written_count, as_many_values}
use Rattle.rewriter.proofs.NewExpressions.{expression_span}
use Rattle.rewriter.proofs.InwardMeanings.{was_taken}
use Rattle.rewriter.proofs.ValuesStay.{IsValueOf, value_there, old_read}

-- MEANINGS

abbrev bytes_of : Meaning → List ℕ
bytes_of (Expression bytes) = bytes
bytes_of meaning = []

-- a value that is renewed is an expression where the old one is
pub was_expression : (new : ℕ) (made bytes : List ℕ) (meaning : Meaning) → renewed new made meaning ≡ Expression bytes → (old : List ℕ) × (meaning ≡ Expression old) × (made ≡ bytes)
was_expression new made bytes (Expression old) e = (old, refl, ap bytes_of e)
was_expression new made bytes (InUnit n) e = absurd (cc (e))
was_expression new made bytes (InSection n) e = absurd (cc (e))
was_expression new made bytes (SectionPlace n) e = absurd (cc (e))
was_expression new made bytes meaning e = absurd (cc (e))

-- VALUES BY THEIR NUMBERS

-- a number in a range is the first one and so many more
within : (n first count : ℕ) → first ≤ n → n < first + count → (k : ℕ) × (n ≡ first + k) × (k < count)
within n first count from to = (n - first, omega (arith, from), omega (arith, from, to))

-- the value with a number stands in an entry
record StandsSomewhere (unit : UnitRead) (number : ℕ) : Type 0 where
  id : ℕ
  name : ℕ
  place : ℕ
  stands : HasValueAt unit id number name (meant_in unit.forest.section (value_at unit.forest.values number)) place

stands_somewhere : (info abbrevs : List ℕ) (unit : UnitRead) (number : ℕ) → IsUnitRead info abbrevs unit → number < length unit.forest.values → StandsSomewhere unit number
stands_somewhere info abbrevs unit number is inside =
    let (id, known, from, to) = (owners info abbrevs unit is).owned number inside in
    let (k, numbered, below) = within number (entry_of unit id).first (entry_of unit id).count from to in
    let counted : (entry_of unit id).count ≡ length (declaration_of unit id).columns = (owners info abbrevs unit is).counted id known in
    let size : length (values_of unit id) ≡ (entry_of unit id).count = values_size info abbrevs unit is id known in
    let here : value_at unit.forest.values number ≡ value_at (values_of unit id) k = ap (value_at unit.forest.values) numbered ∙ sym (value_same info abbrevs unit is id known k below) in
    let name : ℕ = (spec_at (declaration_of unit id).columns k).name in
    let of : IsValueOf unit id number name (meant_in unit.forest.section (value_at unit.forest.values number)) = record {
      known = known;
      k = k;
      column_in = subst (λ (z : ℕ). k < z) counted below;
      value_in = subst (λ (z : ℕ). k < z) (sym size) below;
      numbered = numbered;
      named = refl;
      meant = ap (meant_in unit.forest.section) here;
    } in
    let (place, stands) = value_there info abbrevs unit id number name (meant_in unit.forest.section (value_at unit.forest.values number)) is of in
    record { id = id; name = name; place = place; stands = stands }

-- EXPRESSIONS THAT ARE WRITTEN ANEW

module _ {classes : Classes} {file : List ℕ} {world : World} {tables : List NewTable} {places : List Places} {new_places : NewPlaces} {info abbrevs : List ℕ} {r s : Reading} (all : AreReadAnew classes file world tables places new_places info abbrevs r s) where
  -- what is written for a value with a number
  taken_there : (u number : ℕ) → u < length r.links.units → number < length (unit_at r.links u).forest.values → MeansFor (unit_at r.links u).head (meant_in (unit_at r.links u).forest.section (value_at (unit_at r.links u).forest.values number)) (taken_meaning all u number)
  taken_there u number inside known =
      let v = stands_somewhere _ _ (unit_at r.links u) number (old_read all u inside) known in
      means_taken all u v.id number v.name (meant_in (unit_at r.links u).forest.section (value_at (unit_at r.links u).forest.values number)) v.place inside v.stands

  -- an expression is taken as it is
  expression_kept : (u number : ℕ) → u < length r.links.units → number < length (unit_at r.links u).forest.values → (bytes : List ℕ) → meant_in (unit_at r.links u).forest.section (value_at (unit_at r.links u).forest.values number) ≡ Expression bytes → taken_meaning all u number ≡ Expression bytes
  expression_kept u number inside known bytes meant = subst (λ (z : Meaning). MeansFor (unit_at r.links u).head z (taken_meaning all u number)) meant (taken_there u number inside known)

  -- an expression is written anew
  new_expression : (u number : ℕ) (inside : u < length r.links.units) → number < length (unit_at r.links u).forest.values → (bytes : List ℕ) → meant_in (unit_at r.links u).forest.section (value_at (unit_at r.links u).forest.values number) ≡ Expression bytes → IsNewExpression r.links places u bytes (made_of (moved all u inside).numbers.expressions.ends.items (moved all u inside).numbers.expressions.bytes.items number)
  new_expression u number inside known bytes meant =
      let m = moved all u inside in
      let v = stands_somewhere _ _ (unit_at r.links u) number (old_read all u inside) known in
      let is : IsNewValue r.links places new_places u v.id v.name (taken_meaning all u number) (slice_index m.numbers.held.items number) (made_of m.numbers.expressions.ends.items m.numbers.expressions.bytes.items number) = m.numbered.each v.id number v.name (meant_in (unit_at r.links u).forest.section (value_at (unit_at r.links u).forest.values number)) v.place v.stands in
      subst (λ (z : Meaning). IsNewValue r.links places new_places u v.id v.name z (slice_index m.numbers.held.items number) (made_of m.numbers.expressions.ends.items m.numbers.expressions.bytes.items number)) (expression_kept u number inside known bytes meant) is

  expressions_wide : AreExpressionsWithin s.links Wide
  expressions_wide u number span now_in is =
      let inside : u < length r.links.units = subst (λ (z : ℕ). u < z) all.units.count now_in in
      let m = moved all u inside in
      let known : number < length (unit_at r.links u).forest.values = subst (λ (z : ℕ). number < z) (as_many_values all u inside) is.inside in
      let among : number < length (written_in world tables u).forest.values = subst (λ (z : ℕ). number < z) m.values.count is.inside in
      let now : meant_in (unit_at s.links u).forest.section (value_at (unit_at s.links u).forest.values number) ≡ Expression (bytes_in (unit_at s.links u).forest.section span) = ap (meant_in (unit_at s.links u).forest.section) is.is in
      let (old, meant, made) = was_expression (slice_index m.numbers.held.items number) (made_of m.numbers.expressions.ends.items m.numbers.expressions.bytes.items number) (bytes_in (unit_at s.links u).forest.section span) (taken_meaning all u number) (sym (m.values.each number among) ∙ now) in
      let was : meant_in (unit_at r.links u).forest.section (value_at (unit_at r.links u).forest.values number) ≡ Expression old =
      was_taken (unit_at r.links u).head _ (Expression old) (subst (MeansFor (unit_at r.links u).head _) meant (taken_there u number inside known)) (λ k same. absurd (cc (same))) in
      let e = new_expression u number inside known old was in
      (with_refs (refs_among e.ops e.numbers) (all_meant old e.ops), subst (IsExpression Wide (with_refs (refs_among e.ops e.numbers) (all_meant old e.ops))) made e.written.written.expression)

  expressions_tidy : AreTidyExpressions r.links s.links
  expressions_tidy u number old inside is =
      let m = moved all u inside in
      let bytes : List ℕ = bytes_in (unit_at r.links u).forest.section old in
      let made : List ℕ = made_of m.numbers.expressions.ends.items m.numbers.expressions.bytes.items number in
      let meant : meant_in (unit_at r.links u).forest.section (value_at (unit_at r.links u).forest.values number) ≡ Expression bytes = ap (meant_in (unit_at r.links u).forest.section) is.is in
      let now : meant_in (unit_at s.links u).forest.section (value_at (unit_at s.links u).forest.values number) ≡ Expression made = m.values.each number (subst (λ (z : ℕ). number < z) (sym (written_count all u inside)) is.inside) ∙ ap (renewed (slice_index m.numbers.held.items number) made) (expression_kept u number inside is.inside bytes meant) in
      let e = new_expression u number inside is.inside bytes meant in
      let (span, there, same) = expression_span (unit_at s.links u).forest.section (value_at (unit_at s.links u).forest.values number) made (sym now) in
      record {
        new = span;
        stands = record { inside = subst (λ (z : ℕ). number < z) (sym (as_many_values all u inside)) is.inside; is = there };
        refs = refs_among e.ops e.numbers;
        ops = e.ops;
        spelled = e.spelled;
        written = subst (IsWrittenShortest (refs_among e.ops e.numbers) bytes e.ops) (sym same) e.written;
      }

pub expressions_are_wide : ExpressionsAreWide
expressions_are_wide classes file world tables places new_places info abbrevs r s all = expressions_wide all

pub expressions_are_tidy : ExpressionsAreTidy
expressions_are_tidy classes file world tables places new_places info abbrevs r s all = expressions_tidy all
