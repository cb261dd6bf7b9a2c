use Rattle.std.proofs.Common.{◌<◌, ◌∙◌, ℕ, List, length, ap, sym, subst, arith}
use Rattle.list_lookup.specs.declared.owned.Owned.{Owned}
use Rattle.list_lookup.specs.Owned.{AreOwnedIn}
use Rattle.check_records.proofs.OwnedRead.{owned_read}
use Rattle.check_records.proofs.refused.Judge.judge.Goals as goal

pub judge_unit-requires-clause-lists : goal.judge_unit-requires-clause-lists
judge_unit-requires-clause-lists c =
    let u : ℕ = c.in-Unit-Layout.number in
    let there = rw c.in-Unit-Layout.is-0 at c.requires.there in
    let known : u < length c.args.self.now.owned.items = omega (arith, there, c.requires.is.owned.units) in
    let are = c.requires.is.owned.each u c.index.result.now known in
    let same = ap (λ (z : Owned). z.lists.items) (sym c.index.ensures) ∙ sym c.deref-in-Unit-Layout.ensures.value in
    owned_read c.args.written.now c.requires.world u c.deref-in-Unit-Layout.result.now (subst (λ (z : List ℕ). AreOwnedIn c.args.written.now u z) same are)
