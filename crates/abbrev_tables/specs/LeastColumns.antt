-- Columns of declarations in their least forms (DWARF 5 sections 7.5.3 and 7.5.6).
use Rattle.std.specs.Prelude.{◌≡◌, ◌≢◌, pos, List}
use Rattle.dw_base.specs.declared.classes.Classes.{Classes}
use Rattle.form_codec.specs.Forms.{Meaning}
use Rattle.form_codec.specs.Columns.{IsLeastForm, IsFirstForm}
use Rattle.abbrev_tables.specs.declared.decl.Spec.{Spec}
use Rattle.abbrev_tables.specs.Tables.{implicit_const}

-- The column is the old one in a least form for values that mean this. References within a unit have DW_FORM_ref_udata, the one form
-- among theirs that is written: how many bytes each takes is the matter of the unit's layout. Those that still count from the section's
-- first byte have DW_FORM_ref_addr.
pub record IsLeastColumn (classes : Classes) (old : Spec) (meanings : List Meaning) (new : Spec) : Type 0 where
  pub name : new.name ≡ old.name
  pub least : IsLeastForm classes old.name meanings new.form new.constant
  pub unused : new.form ≢ implicit_const → new.constant ≡ pos 0

-- of the least forms it has the one that comes first
abbrev pub IsFirstColumn : Classes → Spec → List Meaning → Spec → Type 0
IsFirstColumn classes old meanings new = IsFirstForm classes old.name old.form meanings new.form
