use Rattle.std.proofs.Common.{arith, ◌≡◌, ℕ, get_or, ap, Fits, rules, to_z, of_z}
use Rattle.std.specs.Prelude.{FitsSigned, pos, ◌+ℤ◌, nat_abs}
use Rattle.std.specs.Int.{w8, w64}
use Rattle.std.proofs.lemmas.Int.{ints}
use Rattle.line_params.proofs.PairLaws.{own_sum}
use Rattle.line_params.proofs.search.own_choice.Goals as goal

pub returns-clause-best : goal.returns-clause-best
returns-clause-best c =
    let base : FitsSigned w8 c.args.head.now.base = search rules in
    let range : Fits w8 c.args.head.now.range = search rules in
    own_sum c.args.head.now c.args.counted.now _ c.fill_sums.new.sums c.totals.new.totals (record { base_from = omega (arith, ints, base); base_to = omega (arith, ints, base); range_from = omega arith; range_to = omega (arith, range) }) c.own_pair.ensures.base c.own_pair.ensures.range c.fill_sums.ensures.sums c.totals.ensures.each (let from : c.from.result ≡ c.args.head.now.base = omega (arith, ints, base) in let place : nat_abs (to_z w64 (of_z w64 (to_z w64 (of_z w64 c.from.result) +ℤ pos 128))) ≡ nat_abs (c.args.head.now.base +ℤ pos 128) = omega (arith, ints, base) in ap (λ (n : ℕ). get_or c.totals.new.totals n 0) place)
