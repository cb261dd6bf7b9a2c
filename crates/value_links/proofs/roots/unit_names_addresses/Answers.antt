use Rattle.std.proofs.Common.{◌≡◌, ◌<◌, ◌∙◌, ℕ, length, sym, ap, arith, true≢false, below_more}
use Rattle.entry_arena.specs.Arena.{Arena}
use Rattle.value_links.specs.inside.Checks.{HasAddrBaseIn, HasSomeAddrBase}
use Rattle.value_links.proofs.roots.unit_names_addresses.Goals as goal

pub loop-id-preserved : goal.loop-id-preserved
loop-id-preserved c =
    below_more (λ (id : ℕ). ¬ HasAddrBaseIn c.args.unit.now c.args.table.now id) c.loop-id.id c.loop-id.invariant (λ has. true≢false (sym (c.entry_names_addresses.ensures.1 has) ∙ c.if-entry_names_addresses.false))

pub returns : goal.returns
returns c = (
  λ no. absurd (true≢false (sym no)),
  λ (has : HasSomeAddrBase c.args.unit.now c.args.table.now).
      let count : c.len-id-end.result ≡ length c.args.unit.now.forest.entries = c.len-id-end.ensures ∙ ap (λ (z : Arena). length z.entries) c.forest.ensures in
      let less : has.0 < length c.args.unit.now.forest.entries = has.1 in
      absurd (c.loop-id.invariant has.0 (omega (arith, count, less, c.loop-id-test.false)) has.2),
)
