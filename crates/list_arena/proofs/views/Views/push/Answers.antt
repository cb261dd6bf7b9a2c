use Rattle.std.proofs.Common.{◌≡◌, ◌∙◌, ℕ, length, take, ap, arith}
use Rattle.list_arena.proofs.PairLaws.{grown_held, grown_well}
use Rattle.list_arena.proofs.views.Views.push.Goals as goal

pub invariant_of-self-in-Err : goal.invariant_of-self-in-Err
invariant_of-self-in-Err c =
    let count : c.len-count.result ≡ length c.self.inside.pairs.items = omega arith in
    let pairs : c.truncate.new.self.items ≡ c.self.inside.pairs.items = c.truncate.ensures.items ∙ ap (λ (n : ℕ). take n c.push_rows.new.pairs.items) count ∙ c.in-Err.ensures.pairs in
    rw (c.in-Err.ensures.rows, pairs) (grown_well c.self.inside.long c.push_rows.new.long c.in-Err.ensures.grown c.self.inside.rows.items c.self.inside.pairs.items c.self.invariant)

pub returns-in-Err-clause-unchanged : goal.returns-in-Err-clause-unchanged
returns-in-Err-clause-unchanged c =
    let count : c.len-count.result ≡ length c.self.inside.pairs.items = omega arith in
    let pairs : c.truncate.new.self.items ≡ c.self.inside.pairs.items = c.truncate.ensures.items ∙ ap (λ (n : ℕ). take n c.push_rows.new.pairs.items) count ∙ c.in-Err.ensures.pairs in
    rw (c.in-Err.ensures.rows, pairs) (grown_held c.self.inside.long c.push_rows.new.long c.in-Err.ensures.grown c.self.inside.rows.items c.self.inside.pairs.items c.self.invariant ∙ c.self.view_is)
