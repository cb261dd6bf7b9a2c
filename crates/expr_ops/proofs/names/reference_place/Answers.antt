use Rattle.std.proofs.Common.{subst, sym, ℕ}
use Rattle.expr_ops.specs.Names.{IsReferencePlace}
use Rattle.expr_ops.proofs.NameLaws.{register_of, register_read, register_there}
use Rattle.expr_ops.proofs.names.reference_place.Goals as goal

pub returns-in-Ok : goal.returns-in-Ok
returns-in-Ok c =
    subst (λ (z : ℕ). IsReferencePlace c.args.bytes.now z c.args.op.now.at c.in-Ok.register.end) (sym c.if-op.true) (register_read c.args.bytes.now c.args.op.now.at c.in-Ok.register.value c.in-Ok.register.end c.in-Ok.ensures.within.0 c.in-Ok.ensures.within.1 c.in-Ok.ensures.read c.in-Ok.ensures.fits)

pub returns-in-Err : goal.returns-in-Err
returns-in-Err c =
    absurd (register_there c.args.bytes.now c.args.op.now.at c.in-Err.field-0 (register_of c.args.bytes.now c.args.op.now.at c.requires.lead.0 c.args.op.now c.requires.lead.1 c.if-op.true) c.in-Err.ensures.short c.in-Err.ensures.wide)
