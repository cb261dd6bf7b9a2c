-- Columns of a declaration that are written in their least forms.
use Rattle.std.specs.Prelude.{List}
use Rattle.dw_base.specs.declared.classes.Classes.{Classes}
use Rattle.form_codec.specs.Forms.{Meaning}
use Rattle.abbrev_tables.specs.declared.decl.Spec.{Spec}
use Rattle.abbrev_tables.specs.LeastColumns.{IsLeastColumn, IsFirstColumn}

-- in these classes the column is the old one in the least form that comes first
pub record IsChosen (classes : Classes) (old : Spec) (meanings : List Meaning) (new : Spec) : Type 0 where
  pub least : IsLeastColumn classes old meanings new
  pub first : IsFirstColumn classes old meanings new
