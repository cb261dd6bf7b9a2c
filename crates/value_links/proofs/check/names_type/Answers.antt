use Rattle.std.specs.Prelude.{None}
use Rattle.entry_arena.specs.Order.{IsInOrder}
use Rattle.value_links.proofs.Types.{place_same, named_none}
use Rattle.value_links.proofs.check.names_type.Goals as goal

pub returns-in_default : goal.returns-in_default
returns-in_default c = λ (order : IsInOrder c.args.unit.now.forest). named_none c.args.unit.now (place_same c.args.unit.now c.head.result None c.head.ensures (c.in_default.ensures order))
