-- Laws of drawn rows.
use Rattle.std.proofs.Common.{◌≡◌, ◌++◌, List, [], ◌∷◌, Bool, true, refl, ◌∙◌, inl}
use Rattle.std.specs.Prelude.{All}
use Rattle.std.proofs.lemmas.List.Elements.{All-push}
use Rattle.line_machine.specs.declared.registers.Row.{Row}
use Rattle.line_machine.specs.Rows.{ends, end_row}
use Rattle.line_machine.specs.Class.{AreRows, IsRow}

ends_push : (before : Bool) (rows : List Row) (row : Row) → ends before (rows ++ row ∷ []) ≡ row.end
ends_push before [] row = refl
ends_push before (first ∷ rows) row = ends_push first.end rows row

pub rows_end : (rows : List Row) (row : Row) → All IsRow rows → row ≡ end_row row.address → row.end ≡ true → AreRows (rows ++ row ∷ [])
rows_end rows row each is end = record { each = All-push IsRow rows row each (inl is); ended = ends_push true rows row ∙ end }
