use Rattle.std.proofs.Common.{ℕ, List}
use Rattle.dw_base.specs.declared.classes.Classes.{Classes}
use Rattle.tidy_places.specs.Misplaced.Row.{OfSection, OfHeaders, OfByte}
use Rattle.tidy_tables.specs.Rows.Row.{OfTable, OfLooseByte, OfMissingTable, OfDeclaration, OfEntry}
use Rattle.tidy_lists.specs.Due.Row.{OfList, OfLooseByte as OfLooseListByte}
use Rattle.written_files.specs.Written.{IsWrittenAnew}
use Rattle.tidy_files.specs.Tidy.{Row, IsUntidy}
use Rattle.tidy_files.specs.Tidy.Row.{ASection, TheHeaders, AByte, ATable, ALooseByte, AMissingTable, ADeclaration, AnEntry, AUnit, AProgram, AList, AListByte, AChangedList, ANumber}
use Rattle.tidy_files.proofs.WrittenFiles.{places_right, units_filled, programs_right, lists_stay}
use Rattle.tidy_files.proofs.laws.written_classes.Goals as goal

module _ (c : goal.After-written_numbers) (classes : Classes) (file written : List ℕ) (anew : IsWrittenAnew classes file written) where
  none_holds : (row : Row) (p : ℕ) → IsUntidy classes file written row p → ⊥
  none_holds ASection p holds = places_right classes file written anew c.laid_out_files.ensures.laid_out c.laid_out_files.ensures.bare OfSection p holds
  none_holds TheHeaders p holds = places_right classes file written anew c.laid_out_files.ensures.laid_out c.laid_out_files.ensures.bare OfHeaders p holds
  none_holds AByte p holds = places_right classes file written anew c.laid_out_files.ensures.laid_out c.laid_out_files.ensures.bare OfByte p holds
  none_holds ATable p holds = c.written_tables.ensures classes file written anew OfTable p holds
  none_holds ALooseByte p holds = c.written_tables.ensures classes file written anew OfLooseByte p holds
  none_holds AMissingTable p holds = c.written_tables.ensures classes file written anew OfMissingTable p holds
  none_holds ADeclaration p holds = c.written_tables.ensures classes file written anew OfDeclaration p holds
  none_holds AnEntry p holds = c.written_tables.ensures classes file written anew OfEntry p holds
  none_holds AUnit p holds = units_filled classes file written anew p holds
  none_holds AProgram p holds = programs_right classes file written anew p holds
  none_holds AList p holds = c.written_lists.ensures classes file written anew OfList p holds
  none_holds AListByte p holds = c.written_lists.ensures classes file written anew OfLooseListByte p holds
  none_holds AChangedList p (kept, changed) = lists_stay classes file written anew kept p changed
  none_holds ANumber p holds = c.written_numbers.ensures classes file written anew p holds

pub returns : goal.returns
returns c = λ classes file written anew. none_holds c classes file written anew
