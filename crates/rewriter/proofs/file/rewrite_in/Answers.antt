use Rattle.rewriter.proofs.file.rewrite_in.Goals as goal

pub returns-clause-same : goal.returns-clause-same
returns-clause-same c = rw c.in_ok-world.ensures.world.holds.image at c.in_ok-rewrite_world.ensures.same

pub returns-clause-least : goal.returns-clause-least
returns-clause-least c = rw c.in_ok-world.ensures.world.holds.image at c.in_ok-rewrite_world.ensures.least

pub returns-clause-order : goal.returns-clause-order
returns-clause-order c = rw c.in_ok-world.ensures.world.holds.image at c.in_ok-rewrite_world.ensures.order

pub returns-clause-lists : goal.returns-clause-lists
returns-clause-lists c = rw c.in_ok-world.ensures.world.holds.image at c.in_ok-rewrite_world.ensures.lists

pub returns-clause-columns : goal.returns-clause-columns
returns-clause-columns c = rw c.in_ok-world.ensures.world.holds.image at c.in_ok-rewrite_world.ensures.columns

pub returns-clause-columns_order : goal.returns-clause-columns_order
returns-clause-columns_order c = rw c.in_ok-world.ensures.world.holds.image at c.in_ok-rewrite_world.ensures.columns_order

pub returns-clause-codes : goal.returns-clause-codes
returns-clause-codes c = rw c.in_ok-world.ensures.world.holds.image at c.in_ok-rewrite_world.ensures.codes

pub returns-clause-codes_order : goal.returns-clause-codes_order
returns-clause-codes_order c = rw c.in_ok-world.ensures.world.holds.image at c.in_ok-rewrite_world.ensures.codes_order

pub returns-clause-layouts : goal.returns-clause-layouts
returns-clause-layouts c = rw c.in_ok-world.ensures.world.holds.image at c.in_ok-rewrite_world.ensures.layouts

pub returns-clause-tidy : goal.returns-clause-tidy
returns-clause-tidy c = rw c.in_ok-world.ensures.world.holds.image at c.in_ok-rewrite_world.ensures.tidy
