use Rattle.std.proofs.Common.{◌<◌, ◌≡◌, ◌*◌, ◌⊎◌, arith, inl, inr}
use Rattle.line_step.proofs.NearWays.{whole_none, whole_once, whole_two, whole_close, whole_far}
use Rattle.line_step.proofs.address.whole_bytes.Goals as goal
use Rattle.line_step.proofs.address.whole_bytes.Goals.{then-instructions-lt128-via-then-instructions-lt128, then-instructions-lt128-via-else-instructions-lt128+then-instructions-once-2}

pub returns-then-instructions-eq0-clause-least : goal.returns-then-instructions-eq0-clause-least
returns-then-instructions-eq0-clause-least c =
    whole_none c.args.range c.args.min c.args.distance c.args.instructions c.requires.whole (omega arith)

pub returns-then-instructions-once-clause-least : goal.returns-then-instructions-once-clause-least
returns-then-instructions-once-clause-least c =
    whole_once c.args.range c.args.min c.args.distance c.args.instructions c.from-once.result c.requires.scale c.requires.whole c.from-once.ensures (omega arith) (λ e. omega (arith, e))

pub returns-then-instructions-lt128-clause-least : goal.returns-then-instructions-lt128-clause-least
returns-then-instructions-lt128-clause-least c =
    let short : (c.args.instructions < 128) ⊎ (c.args.instructions ≡ 2 * c.from-once.result) =
    elim c.then-instructions-lt128.branch [
      | then-instructions-lt128-via-then-instructions-lt128 w ↦ inl (omega (arith, w.if-instructions-lt128))
      | then-instructions-lt128-via-else-instructions-lt128+then-instructions-once-2 w ↦ inr (omega (arith, w.if-instructions-once-2))
    ]
    in
    whole_two c.args.range c.args.min c.args.distance c.args.instructions c.from-once.result c.requires.scale c.requires.whole c.from-once.ensures (λ e. omega (arith, e)) (λ e. omega (arith, e)) short

pub returns-then-distance-from-clause-least : goal.returns-then-distance-from-clause-least
returns-then-distance-from-clause-least c =
    whole_close c.args.range c.args.min c.args.distance c.args.instructions c.from-once.result c.requires.scale c.requires.whole c.from-once.ensures (omega arith) (λ e. omega (arith, e)) (λ e. omega (arith, e)) (omega arith)

pub returns-clause-least : goal.returns-clause-least
returns-clause-least c =
    whole_far c.args.range c.args.min c.args.distance c.args.instructions c.from-once.result c.len_u.result c.requires.scale c.requires.whole c.from-once.ensures (omega arith) (λ e. omega (arith, e)) (λ e. omega (arith, e)) (omega arith) c.len_u.ensures.least c.len_u.ensures.few
