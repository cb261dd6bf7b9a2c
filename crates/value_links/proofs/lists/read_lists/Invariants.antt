use Rattle.std.specs.Prelude.{◌-◌, length}
use Rattle.value_links.specs.Parts.{lists_in, section_held}
use Rattle.value_links.specs.inside.NamedLists.{AreReadUpTo, AreExprsReadUpTo}
use Rattle.value_links.proofs.lists.read_lists.Given as goal

abbrev pub invariant-loop-from : goal.invariant-loop-from
invariant-loop-from l = record {
  up : AreReadUpTo l.kind (section_held (lists_in l.parts l.kind)) l.parts.addr.now l.parts.contexts.items l.namings.items l.reach l.before l.from l.lists l.totals;
  exprs : AreExprsReadUpTo l.parts l.kind l.namings.items l.reach l.lists;
}

abbrev pub decreases-loop-from : goal.decreases-loop-from
decreases-loop-from l = length l.namings.items - l.from
