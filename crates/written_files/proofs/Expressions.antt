-- The expressions of entries and of location lists of a file that is written anew have their fewest bytes.
use Rattle.std.proofs.Common.{◌≡◌, ℕ, zero, suc, List, [], ◌∷◌, ◌∙◌, sym, ap, subst, arith}
use Rattle.std.specs.List.{All, AllZip}
use Rattle.dw_base.specs.declared.fault.Span.{Span}
use Rattle.form_codec.specs.declared.value.Value.{Value}
use Rattle.form_codec.specs.declared.value.Value.TheVariants as value
use Rattle.form_codec.specs.Values.{bytes_in}
use Rattle.list_model.specs.declared.entry.ListKind.TheVariants.{Locations}
use Rattle.entry_arena.specs.Arena.{Arena}
use Rattle.entry_read.specs.Expressions.{IsExprAt}
use Rattle.value_links.specs.Lists.{expressions_at}
use Rattle.value_links.specs.Reading.{Reading, unit_at, list_at}
use Rattle.value_links.specs.Sections.{debug_abbrev}
use Rattle.written_files.specs.Tidy.{IsTidyExpr, AreTidy}
use Rattle.written_files.specs.TidyLists.{IsShort}
use Rattle.written_files.specs.inside.Counterparts.{AreAnew, Correspond}
use Rattle.written_files.specs.inside.FewestBytes.{HasFewestBytes}
use Rattle.written_files.specs.inside.Laws.{HoldsOfThese, SameFilesCorrespond, EntriesHaveFewest, ListsHaveFewest}
use Rattle.written_files.proofs.FewestBytes.{shortest_are_fewest}

abbrev span_in : Span → Value → Span
span_in other (value.Expr span) = span
span_in other v = other

-- the value with a number is one expression at most
pub one_expression : (f : Arena) (number : ℕ) (span other : Span) → IsExprAt f number span → IsExprAt f number other → span ≡ other
one_expression f number span other here there = ap (span_in other) (sym here.is ∙ there.is)

-- each of some expressions is written shortest of another
zipped_all : (olds news : List (List ℕ)) → AllZip IsShort olds news → All HasFewestBytes news
zipped_all [] [] short k none inside = absurd (omega (arith, inside))
zipped_all [] (new ∷ news) short k none inside = absurd short
zipped_all (old ∷ olds) [] short k none inside = absurd short
zipped_all (old ∷ olds) (new ∷ news) ((refs, ops, spelled, written), short) zero none inside = shortest_are_fewest refs old ops new written
zipped_all (old ∷ olds) (new ∷ news) (first, short) (suc k) none inside = zipped_all olds news short k none (omega (arith, inside))

module _ (holds : HoldsOfThese) (correspond : SameFilesCorrespond) where
  module _ (file written : List ℕ) (r s : Reading) (anew : AreAnew file written r s) where
    tidy : AreTidy (debug_abbrev written) r s
    tidy = holds (AreTidy (debug_abbrev written)) file written r s anew.read anew.again anew.anew.tidy

    same : Correspond r s
    same = correspond file written r s anew.read anew.again anew.anew.same

    short_there : (u number : ℕ) (span : Span) → IsExprAt (unit_at s.links u).forest number span → (old : Span) → IsTidyExpr r.links s.links u number old → HasFewestBytes (bytes_in (unit_at s.links u).forest.section span)
    short_there u number span stands old t =
        let forest = (unit_at s.links u).forest in
        let is : t.new ≡ span = one_expression forest number t.new span t.stands stands in
        subst (λ (z : Span). HasFewestBytes (bytes_in forest.section z)) is
        (shortest_are_fewest t.refs (bytes_in (unit_at r.links u).forest.section old) t.ops (bytes_in forest.section t.new) t.written)

  -- each expression of an entry
  pub entries_fewest : EntriesHaveFewest
  entries_fewest file written r s anew u number span inside stands =
      let c = same file written r s anew in
      let units = c.units in
      let (old, there) = c.expressions u number span inside stands in
      short_there file written r s anew u number span stands old ((tidy file written r s anew).expressions u number old (omega (arith, inside, units)) there)

  -- each expression of a location list
  pub lists_fewest : ListsHaveFewest
  lists_fewest file written r s anew k inside =
      let t = (tidy file written r s anew).lists Locations in
      let count = t.lists in
      zipped_all (expressions_at r.links Locations (list_at r.location_lists k)) (expressions_at s.links Locations (list_at s.location_lists k)) (t.expressions k (omega (arith, inside, count)))
