use Rattle.std.proofs.Common.{◌≡◌, ◌+◌, ◌/◌, ℕ, get_or, set, sym, subst, arith}
use Rattle.std.proofs.lemmas.List.{get_or_read}
use Rattle.check_units.specs.inside.Sums.{IsAdding}
use Rattle.check_units.proofs.CellLaws.{cell_few}
use Rattle.check_units.proofs.AddLaws.{adding_next, adding_numbers}
use Rattle.check_units.proofs.sums.SizeSums.add.Goals as goal
use Rattle.check_units.proofs.sums.SizeSums.add.Goals.{After-index_mut-in-loop-at}

-- what the cell above has
read : (c : After-index_mut-in-loop-at) → c.index_mut-in-loop-at.result.now ≡ get_or c.loop-at.self.cells.items (c.loop-at.at / 2) 0
read c = get_or_read c.loop-at.self.cells.items (c.loop-at.at / 2) c.index_mut-in-loop-at.result.now (omega (arith, c.loop-at.invariant.inside)) c.index_mut-in-loop-at.ensures.value 0

pub overflow_add-index_mut-in-loop-at : goal.overflow_add-index_mut-in-loop-at
overflow_add-index_mut-in-loop-at c =
    let old = c.args.self.now.cells.items in
    let is = c.loop-at.invariant in
    let few = cell_few old c.requires.sums (c.loop-at.at / 2) (omega arith) (omega (arith, is.inside, is.long)) in
    omega (arith, read (goal.at.overflow_add-index_mut-in-loop-at c).After-index_mut-in-loop-at, is.before (c.loop-at.at / 2) (omega (arith, is.low)), few)

pub loop-at-preserved : goal.loop-at-preserved
loop-at-preserved c =
    let cells = c.loop-at.self.cells.items in
    let next = adding_next c.args.self.now.cells.items c.requires.sums c.args.place c.args.more c.requires.inside c.loop-at.at cells c.loop-at-test.true c.loop-at.invariant in
    subst (λ (v : ℕ). IsAdding c.args.self.now.cells.items c.args.place c.args.more (c.loop-at.at / 2) (set cells (c.loop-at.at / 2) (v + c.args.more))) (sym (read (goal.at.loop-at-preserved c).After-index_mut-in-loop-at)) next

pub returns-clause-added : goal.returns-clause-added
returns-clause-added c =
    adding_numbers c.args.self.now.cells.items c.requires.sums c.args.place c.args.more c.requires.inside c.loop-at.at c.loop-at.self.cells.items c.loop-at.invariant
