use Rattle.std.proofs.Common.{◌≤◌, ◌+◌, ◌∙◌, ℕ, List, length, get_or, take, sym, ap, subst, arith}
use Rattle.std.proofs.lemmas.List.{take_all}
use Rattle.list_model.specs.Entries.{Entry}
use Rattle.list_least.specs.declared.pick.Pick.{Pick}
use Rattle.list_least.specs.Plans.{ArePicks}
use Rattle.list_write.specs.Written.{pieces, to_write}
use Rattle.list_write.specs.inside.Puts.{AreEntriesPut}
use Rattle.list_write.proofs.ApartLaws.{next_inside, counted_most, list_ended}
use Rattle.list_write.proofs.Entries.{no_entry, picked_at, picked_count, has_picked}
use Rattle.list_write.proofs.ExpressionPieces.{pieces_count}
use Rattle.list_write.proofs.Putting.{plain_put, carrying_put}
use Rattle.list_write.proofs.list.put_list.Goals.{then-has_expression+in_ok-put_expression, else-has_expression}
use Rattle.list_write.proofs.list.put_list.Goals as goal

pub put_entry-requires : goal.put_entry-requires
put_entry-requires c =
    let entries = c.requires.sized.entries in
    let picked = subst (λ (z : List Pick). ArePicks c.args.kind z entries) (sym c.deref-pick-items.ensures.value) c.requires.sized.picked in
    record { picked = (get_or entries c.loop-pick.pick-index no_entry, picked_at c.args.kind c.deref-pick-items.result.now entries picked c.loop-pick.pick-index _ no_entry c.loop-pick-test.true) }

pub has_expression-requires : goal.has_expression-requires
has_expression-requires c =
    let entries = c.requires.sized.entries in
    let picked = subst (λ (z : List Pick). ArePicks c.args.kind z entries) (sym c.deref-pick-items.ensures.value) c.requires.sized.picked in
    (get_or entries c.loop-pick.pick-index no_entry, picked_at c.args.kind c.deref-pick-items.result.now entries picked c.loop-pick.pick-index _ no_entry c.loop-pick-test.true)

pub expression_at-requires-clause-number : goal.expression_at-requires-clause-number
expression_at-requires-clause-number c =
    let kind = c.args.kind in
    let i = c.loop-pick.pick-index in
    let entries = c.requires.sized.entries in
    let new = c.args.list.now.expressions in
    let picked = subst (λ (z : List Pick). ArePicks kind z entries) (sym c.deref-pick-items.ensures.value) c.requires.sized.picked in
    let count = picked_count kind c.deref-pick-items.result.now entries picked in
    let so_far = c.loop-pick.invariant entries c.requires.sized.picked in
    let has = c.has_expression.ensures (get_or entries i no_entry) (picked_at kind c.deref-pick-items.result.now entries picked i _ no_entry c.loop-pick-test.true) in
    let among = next_inside kind entries (pieces 0 new.ends.items new.bytes.items) no_entry i c.loop-pick.next c.requires.sized.carried (omega (arith, count, c.loop-pick-test.true)) so_far.counted (sym has ∙ c.if-has_expression.true) in
    let many = pieces_count 0 new.ends.items new.bytes.items in
    omega (arith, among, many)

pub overflow_add-next : goal.overflow_add-next
overflow_add-next c =
    let kind = c.args.kind in
    let i = c.loop-pick.pick-index in
    let entries = c.requires.sized.entries in
    let picked = subst (λ (z : List Pick). ArePicks kind z entries) (sym c.deref-pick-items.ensures.value) c.requires.sized.picked in
    let count = picked_count kind c.deref-pick-items.result.now entries picked in
    let so_far = c.loop-pick.invariant entries c.requires.sized.picked in
    let few = counted_most kind entries i (omega (arith, count, c.loop-pick-test.true)) in
    omega (arith, few, so_far.counted, c.loop-pick-test.true, c.deref-pick-items.type_inv.0)

pub loop-pick-preserved : goal.loop-pick-preserved
loop-pick-preserved c = λ (entries : List Entry) (picked : ArePicks c.args.kind c.args.list.now.plan.picks.items entries).
    let kind = c.args.kind in
    let i = c.loop-pick.pick-index in
    let picks = c.deref-pick-items.result.now in
    let expressions = (to_write c.args.list.now).expressions in
    let old = c.args.out.now.items in
    let mid = c.loop-pick.out.items in
    let a = c.put_entry.new.out.items in
    let here = subst (λ (z : List Pick). ArePicks kind z entries) (sym c.deref-pick-items.ensures.value) picked in
    let so_far = c.loop-pick.invariant entries picked in
    let carried = has_picked kind c.args.list.now.plan.picks.items c.requires.sized.entries entries expressions c.requires.sized.picked picked c.requires.sized.carried in
    let has = c.has_expression.ensures (get_or entries i no_entry) (picked_at kind picks entries here i _ no_entry c.loop-pick-test.true) in
    elim c.if-has_expression.branch [
      | then-has_expression+in_ok-put_expression w ↦
          let new = w.put_expression.new.out.items in
          let put = carrying_put kind picks entries expressions w.expression_at.result.now _ i c.loop-pick.next old mid a new c.loop-pick-test.true here carried so_far (sym w.if-has_expression.true ∙ has) w.expression_at.ensures c.in_ok-put_entry.ensures w.in_ok-put_expression.ensures in
          subst (λ (z : List ℕ). AreEntriesPut kind (take (i + 1) entries) expressions c.if-has_expression.next old z) (sym (ap (λ z. z.items) w.out-is))
          (subst (λ (z : ℕ). AreEntriesPut kind (take (i + 1) entries) expressions z old new) (sym w.next-is) put)
      | else-has_expression w ↦
          let put = plain_put kind picks entries expressions _ i c.loop-pick.next old mid a c.loop-pick-test.true here so_far (sym w.if-has_expression.false ∙ has) c.in_ok-put_entry.ensures in
          subst (λ (z : List ℕ). AreEntriesPut kind (take (i + 1) entries) expressions c.if-has_expression.next old z) (sym (ap (λ z. z.items) w.out-is))
          (subst (λ (z : ℕ). AreEntriesPut kind (take (i + 1) entries) expressions z old a) (sym w.next-is) put)
    ]

pub returns : goal.returns
returns c = λ (entries : List Entry) (picked : ArePicks c.args.kind c.args.list.now.plan.picks.items entries).
    let kind = c.args.kind in
    let expressions = (to_write c.args.list.now).expressions in
    let old = c.args.out.now.items in
    let mid = c.loop-pick.out.items in
    let count = picked_count kind c.args.list.now.plan.picks.items entries picked in
    let past : length c.args.list.now.plan.picks.items ≤ c.loop-pick.pick-index = subst (λ (z : List Pick). length z ≤ c.loop-pick.pick-index) c.deref-pick-items.ensures.value c.loop-pick-test.false in
    let put = subst (λ (z : List Entry). AreEntriesPut kind z expressions c.loop-pick.next old mid) (take_all c.loop-pick.pick-index entries (omega (arith, past, count))) (c.loop-pick.invariant entries picked) in
    let carried = has_picked kind c.args.list.now.plan.picks.items c.requires.sized.entries entries expressions c.requires.sized.picked picked c.requires.sized.carried in
    list_ended kind entries expressions c.loop-pick.next old mid c.push.new.self.items carried put c.in_ok-push.ensures.items
