use Rattle.std.proofs.Common.{◌∙◌, ap, sym, Some, None, ℕ}
use Rattle.std.specs.Prelude.{if◌then◌else◌, Bool}
use Rattle.expr_ops.specs.Ops.{meant}
use Rattle.expr_ops.specs.Shortest.{needed_size}
use Rattle.expr_ops.proofs.shortest.needed_slot.Goals as goal

pub returns-then-has_slot : goal.returns-then-has_slot
returns-then-has_slot c = λ bytes.
    ap (λ (n : ℕ). Some n) (c.needed_size.ensures.size bytes) ∙ ap (λ (b : Bool). if b then Some (needed_size (meant bytes c.args.new.now) c.args.held) else None) (sym c.if-has_slot.true ∙ c.has_slot.ensures)
