-- Columns that can be read.
use Rattle.std.specs.Prelude.{List}
use Rattle.std.specs.List.{All}
use Rattle.form_codec.specs.Forms.{IsKnown}
use Rattle.abbrev_tables.specs.declared.decl.Spec.{Spec}

-- each column has a form that is known
abbrev pub AreKnown : List Spec → Type 0
AreKnown columns = All (λ (c : Spec). IsKnown c.form) columns
