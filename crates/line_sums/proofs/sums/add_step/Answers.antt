use Rattle.std.proofs.Common.{◌*◌, subst, get_or, arith}
use Rattle.std.specs.Prelude.{FitsSigned}
use Rattle.std.specs.Int.{w64}
use Rattle.std.proofs.lemmas.Int.{ints, to_z-of_z}
use Rattle.line_sums.specs.Counting.{HasLine}
use Rattle.line_sums.specs.Sums.{base_at}
use Rattle.line_sums.specs.declared.step.Step.TheVariants.{Row as RowStep, End as EndStep}
use Rattle.line_sums.proofs.RowSums.{end_adds, adds_as}
use Rattle.line_sums.proofs.sums.add_step.Goals as goal

pub returns-in-Row-clause-added : goal.returns-in-Row-clause-added
returns-in-Row-clause-added c = λ place h.
    let lines = subst HasLine c.in-Row.is c.requires.line in
    let line : FitsSigned w64 c.in-Row.line = omega (arith, ints, lines) in
    adds_as (base_at place) c.args.range c.args.min c.args.counted (RowStep c.in-Row.line c.in-Row.distance) (get_or c.args.sums.now place 0) (get_or c.add_row.new.sums place 0) c.in-Row.is (rw c.requires.ways at (simp to_z-of_z at (c.add_row.ensures.added place h)))

pub returns-in-End-clause-added : goal.returns-in-End-clause-added
returns-in-End-clause-added c = λ place h.
    adds_as (base_at place) c.args.range c.args.min c.args.counted (EndStep c.in-End.distance) (get_or c.args.sums.now place 0) (get_or c.add_between.new.self place 0) c.in-End.is
    (end_adds (base_at place) c.args.range c.args.min c.in-End.distance c.args.counted.count c.of-bytes.result.advance (get_or c.args.sums.now place 0) (get_or c.add_between.new.self place 0) (c.from.result * c.from-in-End.result) (rw c.requires.ways at c.of-bytes.ensures.right.advance) c.of-bytes.ensures.right.few (cc (c.from.ensures, c.from-in-End.ensures)) (c.add_between.ensures.added place (omega arith) h))
