use Rattle.std.proofs.Common.{◌≡◌, ◌≤◌, ◌∙◌, List, length, get_or, sym, subst, arith}
use Rattle.std.proofs.lemmas.List.{take_all}
use Rattle.list_model.specs.Entries.{Entry}
use Rattle.list_least.specs.declared.pick.Pick.{Pick}
use Rattle.list_least.specs.Plans.{ArePicks}
use Rattle.list_write.specs.inside.Puts.{carried_count}
use Rattle.list_write.proofs.ApartLaws.{counted_next, counted_most}
use Rattle.list_write.proofs.Entries.{no_entry, picked_at, picked_count}
use Rattle.list_tests.proofs.list_write_tests.expression_count.Goals.{then-has_expression, else-has_expression}
use Rattle.list_tests.proofs.list_write_tests.expression_count.Goals as goal
use Rattle.std.specs.Prelude.{true, false}

pub has_expression-requires : goal.has_expression-requires
has_expression-requires c =
    let picked = subst (λ (z : List Pick). ArePicks c.args.kind z c.requires.0) (sym c.deref-pick-items.ensures.value) c.requires.1 in
    (get_or c.requires.0 c.loop-pick.pick-index no_entry, picked_at c.args.kind c.deref-pick-items.result.now c.requires.0 picked c.loop-pick.pick-index _ no_entry c.loop-pick-test.true)

pub overflow_add-count : goal.overflow_add-count
overflow_add-count c =
    let picked = subst (λ (z : List Pick). ArePicks c.args.kind z c.requires.0) (sym c.deref-pick-items.ensures.value) c.requires.1 in
    let count = picked_count c.args.kind c.deref-pick-items.result.now c.requires.0 picked in
    let few = counted_most c.args.kind c.requires.0 c.loop-pick.pick-index (omega (arith, count, c.loop-pick-test.true)) in
    omega (arith, few, c.loop-pick.invariant c.requires.0 c.requires.1, c.loop-pick-test.true, c.deref-pick-items.type_inv.0)

pub loop-pick-preserved : goal.loop-pick-preserved
loop-pick-preserved c = λ (entries : List Entry) (picked : ArePicks c.args.kind c.args.picks.now.items entries).
    let kind = c.args.kind in
    let i = c.loop-pick.pick-index in
    let picks = c.deref-pick-items.result.now in
    let here = subst (λ (z : List Pick). ArePicks kind z entries) (sym c.deref-pick-items.ensures.value) picked in
    let count = picked_count kind picks entries here in
    let has = c.has_expression.ensures (get_or entries i no_entry) (picked_at kind picks entries here i _ no_entry c.loop-pick-test.true) in
    let before = c.loop-pick.invariant entries picked in
    elim c.if-has_expression.branch [
      | then-has_expression w ↦
          let more = counted_next kind entries no_entry i true (omega (arith, count, c.loop-pick-test.true)) (sym has ∙ w.if-has_expression.true) in
          omega (arith, before, more, w.count-is)
      | else-has_expression w ↦
          let more = counted_next kind entries no_entry i false (omega (arith, count, c.loop-pick-test.true)) (sym has ∙ w.if-has_expression.false) in
          omega (arith, before, more, w.count-is)
    ]

pub returns : goal.returns
returns c = λ (entries : List Entry) (picked : ArePicks c.args.kind c.args.picks.now.items entries).
    let count = picked_count c.args.kind c.args.picks.now.items entries picked in
    let past : length c.args.picks.now.items ≤ c.loop-pick.pick-index = subst (λ (z : List Pick). length z ≤ c.loop-pick.pick-index) c.deref-pick-items.ensures.value c.loop-pick-test.false in
    subst (λ (z : List Entry). c.loop-pick.count ≡ carried_count c.args.kind z) (take_all c.loop-pick.pick-index entries (omega (arith, past, count))) (c.loop-pick.invariant entries picked)
