use Rattle.std.proofs.Common.{◌≡◌, ◌<◌, ◌+◌, ◌∙◌, ℕ, sym, ap, subst, arith, true≢false, below_more}
use Rattle.entry_arena.specs.Arena.{Arena, entry_at, value_at}
use Rattle.entry_read.specs.Units.{declarations_of}
use Rattle.value_links.specs.inside.Checks.{name_at, IsAddrBase, HasAddrBaseIn}
use Rattle.value_links.proofs.roots.entry_names_addresses.Goals as goal

pub loop-column-preserved : goal.loop-column-preserved
loop-column-preserved c =
    let unit = c.args.unit.now in
    let ds = declarations_of c.args.table.now in
    let entry = entry_at unit.forest.entries c.args.id in
    let named = c.attribute_of-named.result in
    let none : ¬ IsAddrBase (name_at ds entry c.loop-column.column) (value_at unit.forest.values (entry.first + c.loop-column.column)) = λ is.
    let here : IsAddrBase named.0 named.1 = subst (λ (z : ℕ). IsAddrBase z named.1) (sym c.attribute_of-named.ensures.name) (subst (IsAddrBase (name_at ds entry c.loop-column.column)) (sym c.attribute_of-named.ensures.value) is) in
    true≢false (sym (c.is_addr_base.ensures.1 here) ∙ c.if-is_addr_base.false) in
    below_more (λ (k : ℕ). ¬ IsAddrBase (name_at ds entry k) (value_at unit.forest.values (entry.first + k))) c.loop-column.column c.loop-column.invariant none

pub returns : goal.returns
returns c = (
  λ no. absurd (true≢false (sym no)),
  λ (has : HasAddrBaseIn c.args.unit.now c.args.table.now c.args.id).
      let count : c.entry-column-end.result.count ≡ (entry_at c.args.unit.now.forest.entries c.args.id).count = ap (λ z. z.count) (c.entry-column-end.ensures ∙ ap (λ (z : Arena). entry_at z.entries c.args.id) c.forest.ensures) in
      let less : has.0 < (entry_at c.args.unit.now.forest.entries c.args.id).count = has.1 in
      absurd (c.loop-column.invariant has.0 (omega (arith, count, less, c.loop-column-test.false)) has.2),
)
