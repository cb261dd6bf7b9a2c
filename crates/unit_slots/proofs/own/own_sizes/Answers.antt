use Rattle.std.proofs.Common.{◌≡◌, ◌∙◌, ◌++◌, ◌∷◌, [], ℕ, length, vec_len, ap, arith}
use Rattle.entry_arena.specs.Arena.{Arena}
use Rattle.unit_slots.specs.inside.Own.{unit_by, operations_by}
use Rattle.unit_slots.proofs.UnitSizes.{come_none, come_more, all_own}
use Rattle.unit_slots.proofs.own.own_sizes.Goals as goal

pub loop-id-init : goal.loop-id-init
loop-id-init c =
    let unit = unit_by c.args.unit.now c.args.table.now in
    rw (c.new-sizes.ensures.items, c.in_ok-starts.ensures.items) (record { come = come_none unit (operations_by unit c.args.operations.now) c.requires.unit; few = omega arith })

pub loop-id-preserved : goal.loop-id-preserved
loop-id-preserved c =
    let unit = unit_by c.args.unit.now c.args.table.now in
    let count : c.len-count.result ≡ length c.args.unit.now.forest.entries = c.len-count.ensures ∙ ap (λ (f : Arena). length f.entries) c.forest.ensures in
    let size : vec_len c.loop-id.sizes ≡ length c.loop-id.sizes.items = omega (arith, c.loop-id.sizes.ok.0) in
    let start : c.push.new.self.items ≡ c.loop-id.starts.items ++ length c.loop-id.sizes.items ∷ [] = c.in_ok-push.ensures.items ∙ ap (λ (n : ℕ). c.loop-id.starts.items ++ n ∷ []) (c.len.ensures ∙ size) in
    let entries = c.in_ok-push_entry_sizes.ensures in
    record {
      come = come_more unit (operations_by unit c.args.operations.now) c.requires.unit c.loop-id.id (omega (arith, c.loop-id-test.true, count)) c.loop-id.sizes.items c.loop-id.starts.items c.push_entry_sizes.new.sizes.items c.push.new.self.items c.loop-id.invariant.come start entries.sizes entries.behind entries.room;
      few = entries.few;
    }

pub returns : goal.returns
returns c =
    let unit = unit_by c.args.unit.now c.args.table.now in
    let count : c.len-count.result ≡ length c.args.unit.now.forest.entries = c.len-count.ensures ∙ ap (λ (f : Arena). length f.entries) c.forest.ensures in
    let size : vec_len c.loop-id.sizes ≡ length c.loop-id.sizes.items = omega (arith, c.loop-id.sizes.ok.0) in
    let start : c.push-2.new.self.items ≡ c.loop-id.starts.items ++ length c.loop-id.sizes.items ∷ [] = c.in_ok-push-2.ensures.items ∙ ap (λ (n : ℕ). c.loop-id.starts.items ++ n ∷ []) (c.len-2.ensures ∙ size) in
    let all : c.loop-id.id ≡ length c.args.unit.now.forest.entries = omega (arith, c.loop-id-test.false, count) in
    all_own unit c.args.operations.now c.requires.unit c.loop-id.id all c.loop-id.sizes.items c.loop-id.starts.items c.push-2.new.self.items c.loop-id.invariant.come start c.loop-id.invariant.few
