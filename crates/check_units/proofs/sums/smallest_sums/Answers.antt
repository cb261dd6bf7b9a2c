use Rattle.std.proofs.Common.{◌≡◌, ◌+◌, ◌-◌, ◌*◌, ℕ, List, length, get_or, sum, sym, ap, ◌∙◌, subst, arith}
use Rattle.std.proofs.lemmas.List.{get_or_read, length-map, length-set}
use Rattle.slot_layout.specs.Rows.{row_of, rows_of}
use Rattle.check_units.specs.inside.Sums.{AreSumsFrom}
use Rattle.check_units.proofs.BuildLaws.{sum_smallest, below_few, sums_next, numbers_same}
use Rattle.check_units.proofs.sums.smallest_sums.Goals as goal
use Rattle.check_units.proofs.sums.smallest_sums.Goals.{After-index-in-loop-p}

here : (c : After-index-in-loop-p) → c.loop-p.p - 1 + 1 ≡ c.loop-p.p
here c = omega arith

sums : (c : After-index-in-loop-p) → AreSumsFrom (c.loop-p.p - 1 + 1) c.loop-p.cells.items
sums c = subst (λ (k : ℕ). AreSumsFrom k c.loop-p.cells.items) (sym (here c)) c.loop-p.invariant.sums

-- what the cells below have
first : (c : After-index-in-loop-p) → c.index.result.now ≡ get_or c.loop-p.cells.items (2 * (c.loop-p.p - 1)) 0
first c = get_or_read c.loop-p.cells.items (2 * (c.loop-p.p - 1)) c.index.result.now (omega (arith, c.loop-p.invariant.long)) c.index.ensures 0

second : (c : After-index-in-loop-p) → c.index-in-loop-p.result.now ≡ get_or c.loop-p.cells.items (2 * (c.loop-p.p - 1) + 1) 0
second c = get_or_read c.loop-p.cells.items (2 * (c.loop-p.p - 1) + 1) c.index-in-loop-p.result.now (omega (arith, c.loop-p.invariant.long)) c.index-in-loop-p.ensures 0

pub overflow_add-index : goal.overflow_add-index
overflow_add-index c =
    let d = (goal.at.overflow_add-index c).After-index-in-loop-p in
    let slots = c.args.slots.now in
    let few = below_few c.loop-p.cells.items (length slots) c.loop-p.invariant.long (c.loop-p.p - 1) (omega arith) (omega arith) (sums d) in
    let all = ap (λ (xs : List ℕ). sum xs) c.loop-p.invariant.numbers in
    omega (arith, few, all, sum_smallest (rows_of slots), length-map slots row_of, first d, second d)

pub loop-p-preserved : goal.loop-p-preserved
loop-p-preserved c =
    let d = (goal.at.loop-p-preserved c).After-index-in-loop-p in
    let cells = c.loop-p.cells.items in
    let n = length c.args.slots.now in
    let p = c.loop-p.p - 1 in
    let long = c.loop-p.invariant.long in
    rw (first d, second d) (record {
      long = length-set cells p (get_or cells (2 * p) 0 + get_or cells (2 * p + 1) 0) ∙ long;
      numbers = numbers_same cells n long p (omega arith) (omega arith) (sums d) (get_or cells (2 * p) 0 + get_or cells (2 * p + 1) 0) ∙ c.loop-p.invariant.numbers;
      sums = sums_next cells n long p (omega arith) (omega arith) (sums d);
    })
