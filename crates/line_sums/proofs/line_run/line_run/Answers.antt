use Rattle.std.proofs.Common.{◌-◌, arith}
use Rattle.std.specs.Prelude.{FitsSigned, ◌-ℤ◌}
use Rattle.std.specs.Int.{w64}
use Rattle.std.proofs.lemmas.Int.{ints, to_z-of_z}
use Rattle.leb_codec.proofs.Lens.{signed_lens}
use Rattle.line_step.proofs.Powers.{pow128}
use Rattle.line_step.proofs.Remainders.{near_len}
use Rattle.line_sums.proofs.LineRuns.{run_below, run_within, run_above, least_below}
use Rattle.line_sums.proofs.line_run.line_run.Goals as goal

pub numbers_within-requires-clause-few : goal.numbers_within-requires-clause-few
numbers_within-requires-clause-few c =
    let few = near_len _ c.len_s-len.result c.len_s-len.ensures.least (omega (arith, ints)) (omega (arith, ints)) in
    omega (arith, few)

pub returns-then-line-lt0-clause-run : goal.returns-then-line-lt0-clause-run
returns-then-line-lt0-clause-run c =
    let line : FitsSigned w64 c.args.line = c.ranges.line in
    record { each = λ lower low high. run_below c.args.line c.args.most c.len_s-len.result (omega (arith, ints)) (simp to_z-of_z at c.len_s-len.ensures.least) lower (omega (arith, ints, low, c.numbers_within.ensures)) high }

pub returns-then-line-lt0-clause-below : goal.returns-then-line-lt0-clause-below
returns-then-line-lt0-clause-below c =
    let line : FitsSigned w64 c.args.line = c.ranges.line in
    let is = simp to_z-of_z at c.len_s-len.ensures.least in
    let fits = (signed_lens.enough c.args.line c.len_s-len.result).1 (omega (arith, is)) in
    omega (arith, ints, fits.from, c.numbers_within.ensures)

pub returns-then-line-lt0-clause-above : goal.returns-then-line-lt0-clause-above
returns-then-line-lt0-clause-above c =
    let few = near_len _ c.len_s-len.result c.len_s-len.ensures.least (omega (arith, ints)) (omega (arith, ints)) in
    let power = pow128 (c.len_s-len.result - 1) 4 (omega (arith, few)) in
    omega (arith, ints, power, c.numbers_within.ensures)

pub returns-then-line-lt0-clause-few : goal.returns-then-line-lt0-clause-few
returns-then-line-lt0-clause-few c =
    let few = near_len _ c.len_s-len.result c.len_s-len.ensures.least (omega (arith, ints)) (omega (arith, ints)) in
    omega (arith, few)

pub returns-then-line-most-clause-run : goal.returns-then-line-most-clause-run
returns-then-line-most-clause-run c =
    record { each = λ lower low high. run_within c.args.most lower low (omega (arith, ints, high, c.from-most.ensures)) }

pub least_of_len-requires-clause-few : goal.least_of_len-requires-clause-few
least_of_len-requires-clause-few c =
    let few = near_len _ c.len_s-len-2.result c.len_s-len-2.ensures.least (omega (arith, ints, c.from-most.ensures)) (omega (arith, ints, c.from-most.ensures)) in
    omega (arith, few)

pub returns-clause-run : goal.returns-clause-run
returns-clause-run c =
    let left : FitsSigned w64 (c.args.line -ℤ c.from-most.result) = omega (arith, ints, c.from-most.ensures, c.ranges.line) in
    let line : FitsSigned w64 c.args.line = c.ranges.line in
    let most : FitsSigned w64 c.from-most.result = omega (arith, ints, c.from-most.ensures) in
    let is = simp to_z-of_z at c.len_s-len-2.ensures.least in
    record { each = λ lower low high. run_above c.args.line (c.args.line -ℤ c.from-most.result) c.least_of_len.result c.args.most c.len_s-len-2.result (omega (arith, ints, c.from-most.ensures)) (omega (arith, ints)) is c.least_of_len.ensures.is lower (omega (arith, ints, low, c.from-most.ensures, c.least_of_len.ensures.few, c.least_of_len.ensures.is.some)) high }

pub returns-clause-below : goal.returns-clause-below
returns-clause-below c =
    let left : FitsSigned w64 (c.args.line -ℤ c.from-most.result) = omega (arith, ints, c.from-most.ensures, c.ranges.line) in
    let line : FitsSigned w64 c.args.line = c.ranges.line in
    let most : FitsSigned w64 c.from-most.result = omega (arith, ints, c.from-most.ensures) in
    let is = simp to_z-of_z at c.len_s-len-2.ensures.least in
    let low = least_below (c.args.line -ℤ c.from-most.result) c.least_of_len.result c.len_s-len-2.result (omega (arith, ints)) is c.least_of_len.ensures.is in
    omega (arith, ints, low, c.from-most.ensures, c.least_of_len.ensures.few, c.least_of_len.ensures.is.some)

pub returns-clause-few : goal.returns-clause-few
returns-clause-few c =
    let few = near_len _ c.len_s-len-2.result c.len_s-len-2.ensures.least (omega (arith, ints, c.from-most.ensures)) (omega (arith, ints, c.from-most.ensures)) in
    omega (arith, few)
