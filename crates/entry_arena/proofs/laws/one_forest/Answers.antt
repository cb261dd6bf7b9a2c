use Rattle.entry_arena.proofs.WalkLaws.{table_codes, walks_agree, whole_longest, whole_once, forest_once}
use Rattle.entry_arena.proofs.laws.one_forest.Goals as goal

pub returns-clause-codes : goal.returns-clause-codes
returns-clause-codes c = table_codes

pub returns-clause-agree : goal.returns-clause-agree
returns-clause-agree c = walks_agree

pub returns-clause-longest : goal.returns-clause-longest
returns-clause-longest c section ds start items forest now chains = whole_longest section ds start items forest now chains

pub returns-clause-walk : goal.returns-clause-walk
returns-clause-walk c = whole_once

pub returns-clause-forest : goal.returns-clause-forest
returns-clause-forest c = forest_once
