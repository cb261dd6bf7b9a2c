use Rattle.std.proofs.Common.{◌≡◌, ◌+◌, ◌*◌, ◌∙◌, ℕ, map, ap, subst, arith, inl, inr}
use Rattle.std.proofs.lemmas.Bool.{cases_lt}
use Rattle.list_model.specs.Contributions.{offsets_at}
use Rattle.list_write.specs.Written.{to_write}
use Rattle.list_write.specs.inside.Puts.{told_at}
use Rattle.list_tests.specs.Writable.{HasList}
use Rattle.list_tests.proofs.list_write_tests.are_told.Goals as goal

pub loop-slot-preserved : goal.loop-slot-preserved
loop-slot-preserved c = λ slot less.
    let lists = map to_write c.args.lists.now.items in
    let offsets = offsets_at c.args.part.now.at in
    let i = c.loop-slot.slot in
    elim (cases_lt slot i) [
      | inl before ↦ c.loop-slot.invariant slot before
      | inr past ↦
          let same : i ≡ slot = omega arith in
          let place : offsets + c.from.result ≡ told_at c.args.section.now offsets (offsets + 4 * i) = ap (λ (z : ℕ). offsets + z) (c.from.ensures ∙ c.u32_at-told.ensures) in
          subst (λ (z : ℕ). HasList lists (told_at c.args.section.now offsets (offsets + 4 * z))) same (subst (HasList lists) place (c.has_list.ensures c.if-not-has_list.false))
    ]
