-- No number of a file that is written anew has a byte too many.
use Rattle.std.proofs.Common.{inl, inr, ℕ, List, length}
use Rattle.list_model.specs.declared.entry.ListKind.{ListKind}
use Rattle.list_model.specs.declared.entry.ListKind.TheVariants.{Ranges, Locations}
use Rattle.value_links.specs.Reading.{Reading}
use Rattle.written_files.specs.inside.Counterparts.{AreAnew}
use Rattle.written_files.specs.inside.Laws.{AreLaws}
use Rattle.tidy_numbers.specs.Laws.{WrittenNumbersAreShort}
use Rattle.tidy_numbers.specs.LongLists.{IsLongInLists}
use Rattle.tidy_numbers.specs.LongNumbers.{IsLongInSection, IsLongIn}
use Rattle.tidy_numbers.specs.inside.Written.{ExpressionsAreShort, OperandsAreShort}
use Rattle.tidy_numbers.proofs.WrittenEntries.{entries_short}
use Rattle.tidy_numbers.proofs.WrittenTables.{tables_short}
use Rattle.tidy_numbers.proofs.WrittenLengths.{lengths_short}
use Rattle.tidy_numbers.proofs.WrittenViews.{views_short}

module _ (laws : AreLaws) (expressions : ExpressionsAreShort) (operands : OperandsAreShort) where
  module _ (file written : List ℕ) (r s : Reading) (anew : AreAnew file written r s) where
    lists_short : (kind : ListKind) (p : ℕ) → IsLongInLists anew.classes s kind p → ⊥
    lists_short kind p (k, known, inl kept) = operands file written r s anew kind k p known kept
    lists_short Ranges p (k, known, inr (wrong, long)) = absurd cc
    lists_short Locations p (k, known, inr (is, inl length)) = lengths_short laws file written r s anew k p known length
    lists_short Locations p (k, known, inr (is, inr expression)) = (expressions file written r s anew).1 k p known expression

    section_short : (kind : ListKind) (p : ℕ) → IsLongInSection anew.classes s kind p → ⊥
    section_short kind p (inl list) = lists_short kind p list
    section_short kind p (inr (is, views)) = views_short laws file written r s anew p views

    file_short : (p : ℕ) → IsLongIn anew.classes written s p → ⊥
    file_short p (inl (inner, table, place)) = tables_short laws file written r s anew inner table
    file_short p (inr (inl (inner, inl entry, place))) = entries_short laws file written r s anew inner entry
    file_short p (inr (inl (inner, inr expression, place))) = (expressions file written r s anew).0 inner expression
    file_short p (inr (inr (kind, (inner, list, place)))) = section_short kind inner list

  pub written_numbers_short : WrittenNumbersAreShort
  written_numbers_short classes file written anew p (s, again, long) =
      let (r, other, read, also, tidy) = anew.tidy in
      file_short file written r s (record { classes = classes; read = read; again = again; anew = anew }) p long
