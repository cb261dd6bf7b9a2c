use Rattle.std.proofs.Common.{rules, subst, sym}
use Rattle.entry_arena.specs.Arena.{Arena}
use Rattle.entry_arena.specs.Order.{IsNextValue}
use Rattle.entry_arena.proofs.Held.{value_held}
use Rattle.entry_arena.proofs.forest.Forest.push_value.Goals as goal

pub invariant_of-self-2 : goal.invariant_of-self-2
invariant_of-self-2 c =
    let held : Arena = record { section = c.self.inside.section.now; entries = c.self.inside.entries.items; values = c.self.inside.values; ends = c.self.inside.ends.items } in
    let next : IsNextValue held c.args.v = subst (λ (f : Arena). IsNextValue f c.args.v) (sym c.self.view_is) c.requires in
    rw c.in_ok-push.ensures.pushed (value_held held c.args.v c.self.invariant next (search rules))
