use Rattle.std.proofs.Common.{◌∙◌, List, ℕ, sym, ap}
use Rattle.unit_write.specs.declared.items.Next.{Next}
use Rattle.unit_write.proofs.SlotWalks.{counts_with, none_counted, item_counted, all_counted}
use Rattle.unit_write.proofs.marks.entries_before_ends.Goals as goal

pub loop-next-init : goal.loop-next-init
loop-next-init c = none_counted c.args.forest.now c.new-items.result c.new-counts.result.items c.new-items.ensures c.new-counts.ensures.items

pub loop-next-preserved-in-Continue-1 : goal.loop-next-preserved-in-Continue-1
loop-next-preserved-in-Continue-1 c =
    let counts : List ℕ = c.loop-next.counts.items in
    let next = c.in-Some.next in
    let entries : ℕ = c.next.new.self.entries in
    item_counted c.args.forest.now c.loop-next.items c.next.new.self next counts c.push.new.self.items c.in-Some.ensures.next c.loop-next.invariant (c.in_ok-push.ensures.items ∙ sym (ap (λ (z : Next). counts_with counts z entries) c.in-End.is))

pub loop-next-preserved : goal.loop-next-preserved
loop-next-preserved c =
    let counts : List ℕ = c.loop-next.counts.items in
    let next = c.in-Some.next in
    let entries : ℕ = c.next.new.self.entries in
    item_counted c.args.forest.now c.loop-next.items c.next.new.self next counts counts c.in-Some.ensures.next c.loop-next.invariant (sym (ap (λ (z : Next). counts_with counts z entries) c.in_default-next.is))

pub returns : goal.returns
returns c = all_counted c.args.forest.now c.loop-next.items c.next.new.self c.loop-next.counts.items c.in_default.ensures.next c.loop-next.invariant
