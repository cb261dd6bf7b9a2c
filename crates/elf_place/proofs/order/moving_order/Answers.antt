use Rattle.elf_place.proofs.Orders.{IsMovingOrder-from_sort, length-in_order}
use Rattle.elf_place.proofs.order.moving_order.Goals as goal

pub returns-clause-order : goal.returns-clause-order
returns-clause-order c =
    IsMovingOrder-from_sort c.args.image.now c.sort_unstable.new.self.items (rw c.in_ok-order.ensures at c.sort_unstable.ensures.permutation) c.sort_unstable.ensures.sorted

pub returns-clause-few : goal.returns-clause-few
returns-clause-few c =
    length-in_order c.args.image.now c.sort_unstable.new.self.items (rw c.in_ok-order.ensures at c.sort_unstable.ensures.permutation) c.sort_unstable.ensures.sorted
