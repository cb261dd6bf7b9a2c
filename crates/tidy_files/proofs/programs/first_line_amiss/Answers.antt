use Rattle.tidy_files.proofs.LineAmiss.{searched_found, kept_found}
use Rattle.tidy_files.proofs.programs.first_line_amiss.Goals as goal

pub returns-then-classes : goal.returns-then-classes
returns-then-classes c = searched_found c.args.classes c.args.before.now.image c.args.after.now.image c.if-classes.true c.first_other_program.result c.first_other_program.ensures

pub returns-else-classes : goal.returns-else-classes
returns-else-classes c = kept_found c.args.classes c.args.before.now.image c.args.after.now.image c.if-classes.false c.first_other_byte.result c.first_other_byte.ensures
