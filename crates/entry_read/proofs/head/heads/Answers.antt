use Rattle.std.proofs.Common.{◌≡◌, ◌+◌, ◌≤◌, ℕ, List, length, subst, sym, arith}
use Rattle.entry_read.specs.declared.head.UnitHead.{UnitHead}
use Rattle.entry_read.specs.Heads.{Follow}
use Rattle.entry_read.proofs.Tiling.{follow_push, head_read, head_len, heads_whole, follow_each}
use Rattle.entry_read.proofs.head.heads.Goals as goal

pub loop-at-preserved : goal.loop-at-preserved
loop-at-preserved c =
    let info = c.args.info.now in
    let head = c.in-Ok.head in
    let r = head_read info head c.loop-at.at c.in-Ok.ensures.0 c.in-Ok.ensures.1 in
    let ends : head.at + head.len ≤ length info = (head_len info head r.1).2 in
    let place : head.at ≡ c.loop-at.at = r.0 in
    let all = follow_push info c.loop-at.heads.items head 0 c.loop-at.at c.loop-at.invariant.front r.0 r.1 in
    record {
      inside = omega arith;
      front = subst (λ (z : List UnitHead). Follow info z 0 (c.loop-at.at + head.len)) (sym c.in_ok-push.ensures) all;
    }

pub returns-clause-whole : goal.returns-clause-whole
returns-clause-whole c =
    let info = c.args.info.now in
    let inside : c.loop-at.at ≤ length info = c.loop-at.invariant.inside in
    let all : c.loop-at.at ≡ length info = omega (arith, c.loop-at-test.false) in
    heads_whole info c.loop-at.heads.items (subst (λ (z : ℕ). Follow info c.loop-at.heads.items 0 z) all c.loop-at.invariant.front)

pub returns-clause-each : goal.returns-clause-each
returns-clause-each c = follow_each c.args.info.now c.loop-at.heads.items 0 c.loop-at.at c.loop-at.invariant.front
