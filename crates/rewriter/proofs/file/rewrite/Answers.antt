use Rattle.rewriter.proofs.file.rewrite.Goals as goal

pub returns-clause-lists : goal.returns-clause-lists
returns-clause-lists c = rw c.every.ensures at c.rewrite_in.ensures.lists

pub returns-clause-columns : goal.returns-clause-columns
returns-clause-columns c = rw c.every.ensures at c.rewrite_in.ensures.columns

pub returns-clause-columns_order : goal.returns-clause-columns_order
returns-clause-columns_order c = rw c.every.ensures at c.rewrite_in.ensures.columns_order

pub returns-clause-certified : goal.returns-clause-certified
returns-clause-certified c = rw c.every.ensures at c.rewrite_in.ensures.certified

pub returns-clause-certified_first : goal.returns-clause-certified_first
returns-clause-certified_first c = rw c.every.ensures at c.rewrite_in.ensures.certified_first
