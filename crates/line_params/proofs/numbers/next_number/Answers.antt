use Rattle.std.proofs.Common.{◌≤◌, ◌<◌, ◌/◌, ◌≡◌, ℕ, max, min, subst, sym, arith}
use Rattle.line_sums.specs.Accepted.{IsCandidate}
use Rattle.line_params.proofs.Numbering.{next_candidate, next_first}
use Rattle.line_params.proofs.numbers.next_number.Goals as goal

pub returns-clause-candidate : goal.returns-clause-candidate
returns-clause-candidate c =
    let is : c.min.result ≡ min c.next_power_of_two.result c.args.all = omega arith in
    subst (λ (n : ℕ). IsCandidate c.args.all n) (sym is) (next_candidate c.args.index c.args.all c.next_power_of_two.result (omega arith) c.next_power_of_two.ensures.power)

pub returns-clause-first : goal.returns-clause-first
returns-clause-first c = λ n from candidate.
    let is : c.min.result ≡ min c.next_power_of_two.result c.args.all = omega arith in
    let near : c.next_power_of_two.result / 2 < max 1 c.args.index = omega arith in
    subst (λ (x : ℕ). x ≤ n) (sym is) (next_first c.args.index c.args.all c.next_power_of_two.result n (omega arith) c.requires c.next_power_of_two.ensures.power near from candidate)
