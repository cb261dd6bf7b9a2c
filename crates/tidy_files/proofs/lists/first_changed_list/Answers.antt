use Rattle.tidy_files.proofs.ChangedLists.{changed_found, kept_found, none_kept}
use Rattle.tidy_files.proofs.lists.first_changed_list.Goals as goal

pub returns-then-classes : goal.returns-then-classes
returns-then-classes c = none_kept c.args.classes c.args.before.now.image c.args.after.now.image c.if-classes.true

pub returns : goal.returns
returns c =
    let file = c.args.before.now.image in
    let written = c.args.after.now.image in
    kept_found c.args.classes file written c.earlier.result c.if-classes.false
    (changed_found file written c.first_changed_of-ranges.result c.first_changed_of-locations.result c.earlier.result c.first_changed_of-ranges.ensures c.first_changed_of-locations.ensures c.earlier.ensures)
