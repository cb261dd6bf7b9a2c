-- What is promised of a file that is written anew for another, so far as it takes to see that it is accepted: all but which of several least line
-- number programs and forms of columns is written, the layouts, and the certificate.
use Rattle.std.specs.Prelude.{ℕ, List}
use Rattle.dw_base.specs.declared.classes.Classes.{Classes}
use Rattle.dw_base.specs.declared.fault.Reach.TheVariants.{Narrow, Wide}
use Rattle.value_links.specs.Faults.{IsValid}
use Rattle.value_links.specs.Same.{Same}
use Rattle.written_files.specs.Placed.{IsPlaced}
use Rattle.written_files.specs.Classes.{HaveLeastCodes, HaveOrderedCodes, HaveLeastColumns, HaveLeastLists}
use Rattle.written_files.specs.Kept.{HaveLeastLines}
use Rattle.written_files.specs.Tidy.{IsTidy}

-- Both files are valid, the written one within the wide limits, and mean the same. The written one has its parts where they are due, its line
-- number programs, lists, columns and codes are least in these classes, its codes count from 1 on by falling uses, and it holds nothing else.
pub record IsWrittenAnew (classes : Classes) (file written : List ℕ) : Type 0 where
  pub valid : IsValid file Narrow
  pub still_valid : IsValid written Wide
  pub same : Same file written
  pub least : HaveLeastLines classes file written
  pub lists : HaveLeastLists classes file written
  pub columns : HaveLeastColumns classes file written
  pub codes : HaveLeastCodes file written
  pub codes_order : HaveOrderedCodes file written
  pub tidy : IsTidy file written
  pub placed : IsPlaced file written
