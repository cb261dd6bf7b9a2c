-- Programs mean the same where they have the same fields and give the same rows.
use Rattle.std.proofs.Common.{◌∙◌, ℕ, List, sym, refl}
use Rattle.line_machine.specs.declared.head.Head.{Head}
use Rattle.line_machine.specs.Rows.{GivesRows}
use Rattle.line_machine.specs.Heads.{program_of, minimum_instruction_length, default_is_stmt}
use Rattle.line_write.specs.Meaning.{HasMeaning}
use Rattle.line_write.specs.Programs.{tables_of}
use Rattle.same_meaning.specs.inside.Compared.{MeanOne}
use Rattle.same_meaning.specs.inside.Programs.{HaveSameFields}

module _ (a : List ℕ) (h : Head) (b : List ℕ) (k : Head) where
  pub mean_one : HaveSameFields a h b k → MeanOne (GivesRows h (program_of a h)) (GivesRows k (program_of b k)) → MeanOne (HasMeaning a h) (HasMeaning b k)
  mean_one same (rows, one, other) = (
    record { min = minimum_instruction_length a h.at; is_stmt = default_is_stmt a h.at; tables = tables_of a h; rows = rows },
    record { min = refl; is_stmt = refl; tables = refl; rows = one },
    record { min = same.min; is_stmt = same.is_stmt; tables = same.tables; rows = other },
  )

  pub same_fields : MeanOne (HasMeaning a h) (HasMeaning b k) → HaveSameFields a h b k
  same_fields (m, one, other) = record {
    min = sym one.min ∙ other.min;
    is_stmt = sym one.is_stmt ∙ other.is_stmt;
    tables = sym one.tables ∙ other.tables;
  }

  pub same_rows : MeanOne (HasMeaning a h) (HasMeaning b k) → MeanOne (GivesRows h (program_of a h)) (GivesRows k (program_of b k))
  same_rows (m, one, other) = (m.rows, one.rows, other.rows)
