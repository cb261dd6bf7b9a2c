use Rattle.std.proofs.Common.{◌≡◌, ℕ, List, map, subst, sym, arith, inl, inr}
use Rattle.std.proofs.lemmas.Bool.{cases_lt}
use Rattle.list_write.specs.declared.named.NamedList.{NamedList}
use Rattle.list_write.specs.Written.{to_write, list_at}
use Rattle.list_tests.specs.Writable.{IsHeld}
use Rattle.list_write.proofs.Runs.{to_write_at}
use Rattle.list_tests.proofs.list_write_tests.are_held.Goals as goal

pub loop-list-preserved : goal.loop-list-preserved
loop-list-preserved c = λ k less.
    let parts = c.args.parts.now in
    let lists = map to_write c.args.lists.now.items in
    let i = c.loop-list.list-index in
    elim (cases_lt k i) [
      | inl before ↦ c.loop-list.invariant k before
      | inr past ↦
          let same : i ≡ k = omega arith in
          let is = to_write_at c.deref-list-items.result.now i c.list-item.result c.loop-list-test.true c.list-item.is in
          let here : IsHeld parts (list_at (map to_write c.deref-list-items.result.now) i) = subst (IsHeld parts) (sym is) (c.is_held.ensures c.if-not-is_held.false) in
          subst (λ (z : ℕ). IsHeld parts (list_at lists z)) same (subst (λ (z : List NamedList). IsHeld parts (list_at (map to_write z) i)) c.deref-list-items.ensures.value here)
    ]
