use Rattle.same_meaning.proofs.ProgramFields.{mean_one, same_rows}
use Rattle.same_meaning.proofs.programs.mean_same.Goals as goal

pub returns-then-have_same_fields : goal.returns-then-have_same_fields
returns-then-have_same_fields c =
    let a = c.args.before.now in
    let h = c.args.old.now in
    let b = c.args.after.now in
    let k = c.args.new.now in (
      λ same. mean_one a h b k (c.have_same_fields.ensures.0 c.if-have_same_fields.true) (c.give_same_rows.ensures.0 same),
      λ one. c.give_same_rows.ensures.1 (same_rows a h b k one),
    )
