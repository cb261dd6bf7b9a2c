use Rattle.std.proofs.Common.{◌≡◌, ◌≤◌, ℕ, ◌∙◌, length, sym, ap, subst, inl, inr, arith}
use Rattle.fixed_width.specs.InitialLengths.{unit_end}
use Rattle.list_model.specs.Addresses.{IsReached}
use Rattle.list_model.proofs.Walking.{reached_next, base_beyond, walked_whole}
use Rattle.list_model.proofs.tables.addr_table.Goals as goal

pub loop-at-preserved : goal.loop-at-preserved
loop-at-preserved c =
    let addr = c.args.addr.now in
    let at = c.loop-at.at in
    let table = c.in_ok-table.table in
    let place : table.at ≡ at = c.in_ok-table.ensures.table.0 in
    let stands = c.in_ok-table.ensures.table.1 in
    let next : c.place_of-at.result ≡ unit_end addr at = c.place_of-at.ensures ∙ stands.filled ∙ ap (unit_end addr) place in
    let loop = c.loop-at.invariant in
    record {
      inside = subst (λ (z : ℕ). z ≤ length addr) (sym (c.place_of-at.ensures ∙ stands.filled)) stands.whole.inside;
      reached = subst (IsReached addr) (sym next) (reached_next addr table at loop.reached place stands);
      beyond = λ other h. subst (λ (z : ℕ). z ≤ other.at) (sym next) (base_beyond addr c.args.base at other loop.reached c.if-at-base-2.false h (loop.beyond other h));
    }

pub returns-else-at-base-clause-whole : goal.returns-else-at-base-clause-whole
returns-else-at-base-clause-whole c = walked_whole c.args.addr.now c.args.base c.loop-at.at c.loop-at.invariant.reached (inr (omega (arith, c.if-at-base.false)))

pub returns-after-loop-at-clause-whole : goal.returns-after-loop-at-clause-whole
returns-after-loop-at-clause-whole c = walked_whole c.args.addr.now c.args.base c.loop-at.at c.loop-at.invariant.reached (inl (omega (arith, c.loop-at-test.false)))
