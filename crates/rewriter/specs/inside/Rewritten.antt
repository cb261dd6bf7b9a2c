-- What is written for a valid file.
use Rattle.std.specs.Prelude.{ℕ, List}
use Rattle.dw_base.specs.declared.classes.Classes.{Classes}
use Rattle.dw_base.specs.declared.fault.Reach.TheVariants.{Wide}
use Rattle.value_links.specs.Faults.{IsValid}
use Rattle.value_links.specs.Same.{Same}
use Rattle.written_files.specs.Placed.{IsPlaced}
use Rattle.written_files.specs.Certificates.{IsCertificate, IsFirstCertificate}
use Rattle.written_files.specs.Classes.{HaveLeastCodes, HaveOrderedCodes, HaveLeastColumns, HaveFirstColumns, HaveLeastLists}
use Rattle.written_files.specs.Kept.{HaveLeastLines, HaveOrderedLines}
use Rattle.written_files.specs.Layouts.{HaveLeastLayouts}
use Rattle.written_files.specs.Tidy.{IsTidy}

-- The written file means the same and is valid within the wide limits. Its line number programs, its lists, the forms of its columns,
-- the codes of its entries and the slots of its units take the fewest bytes, and of several such choices each is the one that comes first
-- by a stated rule; the members are those of the classes. Its tables and units hold nothing else, and its parts stand where they are to
-- stand. The certificate shows why it is least.
pub record IsRewritten (classes : Classes) (file written certificate : List ℕ) : Type 0 where
  pub same : Same file written
  pub still_valid : IsValid written Wide
  pub least : HaveLeastLines classes file written
  pub order : HaveOrderedLines classes file written
  pub lists : HaveLeastLists classes file written
  pub columns : HaveLeastColumns classes file written
  pub columns_order : HaveFirstColumns classes file written
  pub codes : HaveLeastCodes file written
  pub codes_order : HaveOrderedCodes file written
  pub layouts : HaveLeastLayouts file written
  pub tidy : IsTidy file written
  pub placed : IsPlaced file written
  pub certified : IsCertificate classes written certificate
  pub certified_first : IsFirstCertificate classes written certificate
