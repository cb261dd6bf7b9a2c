use Rattle.tidy_tables.specs.Untidy.{used_among}
use Rattle.entry_read.specs.Units.{declarations_of}
use Rattle.tidy_tables.proofs.OutlineLaws.{sorted_are, sorted_answer}
use Rattle.tidy_tables.proofs.outlines.are_used_in.Goals as goal

pub returns : goal.returns
returns c = λ table sorted.
    let us = used_among (declarations_of c.args.old.now) c.args.uses.now.items in
    let used = sorted_are us c.in_ok-used.used.items c.sort_unstable.new.self.items c.in_ok-used.ensures c.sort_unstable.ensures.permutation c.sort_unstable.ensures.sorted in
    sorted_answer us (declarations_of table) c.sort_unstable.new.self.items c.args.new.now.sorted.items c.eq.result used sorted c.eq.ensures
