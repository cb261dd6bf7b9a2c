use Rattle.std.proofs.Common.{◌≡◌, ◌<◌, length, List, map, ap, subst, arith}
use Rattle.std.proofs.lemmas.List.{length-map}
use Rattle.list_write.specs.declared.named.NamedList.{NamedList}
use Rattle.list_write.specs.Written.{to_write, full_size, list_at}
use Rattle.list_write.proofs.Placing.{sizes_more}
use Rattle.list_write.proofs.Runs.{to_write_at}
use Rattle.list_tests.proofs.list_write_tests.has_room.Goals as goal

pub loop-list-preserved : goal.loop-list-preserved
loop-list-preserved c =
    let items = c.args.lists.now.items in
    let k = c.loop-list.list-index in
    let inside : k < length items = subst (λ (z : List NamedList). k < length z) c.deref-list-items.ensures.value c.loop-list-test.true in
    let count = length-map items to_write in
    let is = to_write_at c.deref-list-items.result.now k c.list-item.result c.loop-list-test.true c.list-item.is in
    let size : full_size (list_at (map to_write items) k) ≡ full_size (to_write c.list-item.result) = subst (λ (z : List NamedList). full_size (list_at (map to_write z) k) ≡ full_size (to_write c.list-item.result)) c.deref-list-items.ensures.value (ap full_size is) in
    let more = sizes_more (map to_write items) k (omega (arith, inside, count)) in
    omega (arith, more, size, c.loop-list.invariant, c.in-Some.ensures, c.in-Some-with_behind.ensures, c.in-Some-with_runs.ensures)
