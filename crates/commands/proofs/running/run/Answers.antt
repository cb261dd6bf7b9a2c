use Rattle.commands.proofs.running.run.Goals as goal

pub returns-clause-least : goal.returns-clause-least
returns-clause-least g c = rw c.every.ensures at c.run_in.ensures.least

pub returns-clause-order : goal.returns-clause-order
returns-clause-order g c = rw c.every.ensures at c.run_in.ensures.order

pub returns-clause-lists : goal.returns-clause-lists
returns-clause-lists g c = rw c.every.ensures at c.run_in.ensures.lists

pub returns-clause-columns : goal.returns-clause-columns
returns-clause-columns g c = rw c.every.ensures at c.run_in.ensures.columns

pub returns-clause-columns_order : goal.returns-clause-columns_order
returns-clause-columns_order g c = rw c.every.ensures at c.run_in.ensures.columns_order

pub returns-clause-certified : goal.returns-clause-certified
returns-clause-certified g c = rw c.every.ensures at c.run_in.ensures.certified

pub returns-clause-certified_first : goal.returns-clause-certified_first
returns-clause-certified_first g c = rw c.every.ensures at c.run_in.ensures.certified_first

pub returns-clause-acceptable : goal.returns-clause-acceptable
returns-clause-acceptable g c = rw c.every.ensures at c.run_in.ensures.acceptable

pub returns-clause-output_whole : goal.returns-clause-output_whole
returns-clause-output_whole g c = rw c.every.ensures at c.run_in.ensures.output_whole

pub returns-clause-accepted : goal.returns-clause-accepted
returns-clause-accepted g c = rw c.every.ensures at c.run_in.ensures.accepted

pub returns-clause-accepted_least : goal.returns-clause-accepted_least
returns-clause-accepted_least g c = rw c.every.ensures at c.run_in.ensures.accepted_least

pub returns-clause-rejected : goal.returns-clause-rejected
returns-clause-rejected g c = rw c.every.ensures at c.run_in.ensures.rejected

pub returns-clause-summed : goal.returns-clause-summed
returns-clause-summed g c = rw c.every.ensures at c.run_in.ensures.summed

pub returns-clause-stopped : goal.returns-clause-stopped
returns-clause-stopped g c = rw c.every.ensures at c.run_in.ensures.stopped

pub returns-clause-complete : goal.returns-clause-complete
returns-clause-complete g c = rw c.every.ensures at c.run_in.ensures.complete

pub returns-clause-rejects : goal.returns-clause-rejects
returns-clause-rejects g c = rw c.every.ensures at c.run_in.ensures.rejects
