use Rattle.std.proofs.Common.{◌≡◌, ◌≤◌, ◌<◌, ◌∙◌, ℕ, List, length, ap, subst, arith}
use Rattle.std.specs.Prelude.{max}
use Rattle.value_links.specs.Sections.{debug_abbrev}
use Rattle.value_links.specs.World.{table_at}
use Rattle.value_links.specs.declared.units.NamedTable.{NamedTable}
use Rattle.tidy_tables.proofs.TableBytes.{covered_more, loose_before, loose_behind, none_loose, table_read}
use Rattle.tidy_tables.proofs.loose.first_loose_byte.Goals as goal

pub returns-then-end-named : goal.returns-then-end-named
returns-then-end-named c =
    let a = c.args.before.now in
    let b = c.args.after.now in
    let i : ℕ = c.loop-named.named-index in
    let items : c.deref-named-items.result.now ≡ b.tables = c.deref-named-items.ensures.value ∙ c.tables.ensures in
    let inside : i < length b.tables = subst (λ (z : List NamedTable). i < length z) items c.loop-named-test.true in
    let named : c.named-item.result ≡ table_at b.tables i = table_read b c.deref-named-items.result.now i c.named-item.result items c.loop-named-test.true c.named-item.is in
    let gap : c.loop-named.end < c.named-item.result.place = omega arith in
    loose_before a b i c.loop-named.end c.loop-named.invariant inside (subst (λ (t : NamedTable). c.loop-named.end < t.place) named gap)

pub loop-named-preserved : goal.loop-named-preserved
loop-named-preserved c =
    let b = c.args.after.now in
    let i : ℕ = c.loop-named.named-index in
    let items : c.deref-named-items.result.now ≡ b.tables = c.deref-named-items.ensures.value ∙ c.tables.ensures in
    let named : c.named-item.result ≡ table_at b.tables i = table_read b c.deref-named-items.result.now i c.named-item.result items c.loop-named-test.true c.named-item.is in
    let near : c.named-item.result.place ≤ c.loop-named.end = omega arith in
    let end : c.end.result ≡ c.named-item.result.table.end = c.end.ensures in
    let next : c.max-end.result ≡ max c.loop-named.end c.named-item.result.table.end = omega arith in
    covered_more b.tables i c.loop-named.end c.max-end.result c.loop-named.invariant
    (subst (λ (t : NamedTable). t.place ≤ c.loop-named.end) named near)
    (subst (λ (t : NamedTable). c.max-end.result ≡ max c.loop-named.end t.table.end) named next)

pub returns-then-end-size : goal.returns-then-end-size
returns-then-end-size c =
    let a = c.args.before.now in
    let b = c.args.after.now in
    let items : length c.deref-named-items.result.now ≡ length b.tables = ap length (c.deref-named-items.ensures.value ∙ c.tables.ensures) in
    let section : length c.section.result.now ≡ length (debug_abbrev b.image) = ap length c.section.ensures in
    loose_behind a b c.loop-named.named-index c.loop-named.end c.loop-named.invariant (omega arith) (omega arith)

pub returns-else-end-size : goal.returns-else-end-size
returns-else-end-size c =
    let a = c.args.before.now in
    let b = c.args.after.now in
    let items : length c.deref-named-items.result.now ≡ length b.tables = ap length (c.deref-named-items.ensures.value ∙ c.tables.ensures) in
    let section : length c.section.result.now ≡ length (debug_abbrev b.image) = ap length c.section.ensures in
    none_loose a b c.loop-named.named-index c.loop-named.end c.loop-named.invariant (omega arith) (omega arith)
