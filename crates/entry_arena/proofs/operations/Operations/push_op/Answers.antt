use Rattle.std.proofs.Common.{rules, ◌≡◌, length, subst, sym, arith}
use Rattle.entry_arena.specs.Operations.{HeldOps, ComesLast}
use Rattle.entry_arena.proofs.OperationLaws.{op_held}
use Rattle.entry_arena.proofs.operations.Operations.push_op.Goals as goal

pub invariant_of-self-in-Ok : goal.invariant_of-self-in-Ok
invariant_of-self-in-Ok c =
    let held : HeldOps = record { ops = c.self.inside.ops.items; runs = c.self.inside.runs.items } in
    let last : ComesLast held.runs c.args.value = subst (λ (h : HeldOps). ComesLast h.runs c.args.value) (sym c.self.view_is) c.requires in
    let first : c.len-id.result ≡ length c.self.inside.ops.items = omega (arith, c.len-id.ensures, c.self.inside.ops.ok.0) in
    rw (c.in_ok-push.ensures.items, c.in-Ok.ensures.extended, first) (op_held held c.args.value c.args.op c.self.invariant last (search rules))
