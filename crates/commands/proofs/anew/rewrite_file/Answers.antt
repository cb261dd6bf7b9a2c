use Rattle.commands.proofs.anew.rewrite_file.Goals as goal

pub returns-clause-valid : goal.returns-clause-valid
returns-clause-valid c = c.in_ok-world.ensures.world.valid

pub returns-clause-whole : goal.returns-clause-whole
returns-clause-whole c = rw c.in_ok-world.ensures.world.holds.image at c.in_ok-rewrite_held.ensures.whole

pub returns-clause-accepted : goal.returns-clause-accepted
returns-clause-accepted c = rw c.in_ok-world.ensures.world.holds.image at c.in_ok-rewrite_held.ensures.accepted
