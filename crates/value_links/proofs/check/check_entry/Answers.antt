use Rattle.std.proofs.Common.{◌≡◌, ◌<◌, ◌∙◌, ℕ, List, subst, sym, ap, arith, below_more}
use Rattle.entry_arena.specs.declared.entry.Entry.{Entry}
use Rattle.entry_arena.specs.Arena.{entry_at}
use Rattle.entry_read.specs.Units.{HeadAndForest}
use Rattle.value_links.specs.Reading.{Linkable}
use Rattle.value_links.specs.Links.{held_at}
use Rattle.value_links.specs.Parts.{HoldsParts}
use Rattle.value_links.specs.inside.Checks.{IsColumnLinked}
use Rattle.value_links.proofs.check.check_entry.Goals as goal

pub check_column-requires-clause-column : goal.check_column-requires-clause-column
check_column-requires-clause-column c =
    let entry : c.entry-entry.result ≡ entry_at (held_at c.args.parts.now.units.units.items c.args.number).forest.entries c.args.id = c.entry-entry.ensures ∙ ap (λ z. entry_at z.entries c.args.id) (c.forest.ensures ∙ ap (λ (z : HeadAndForest). z.forest) c.unit_of.ensures) in
    subst (λ (z : Entry). c.loop-column.column < z.count) entry c.loop-column-test.true

pub loop-column-preserved : goal.loop-column-preserved
loop-column-preserved c = λ (file : List ℕ) (r : Linkable) (holds : HoldsParts file r c.args.parts.now).
    below_more (IsColumnLinked r c.args.number c.args.id) c.loop-column.column (c.loop-column.invariant file r holds) (c.in_ok-check_column.ensures.linked file r holds)

pub returns-clause-linked : goal.returns-clause-linked
returns-clause-linked c = λ (file : List ℕ) (r : Linkable) (holds : HoldsParts file r c.args.parts.now) (column : ℕ) (inside : column < (entry_at (held_at c.args.parts.now.units.units.items c.args.number).forest.entries c.args.id).count).
    let entry : c.entry-entry.result ≡ entry_at (held_at c.args.parts.now.units.units.items c.args.number).forest.entries c.args.id = c.entry-entry.ensures ∙ ap (λ z. entry_at z.entries c.args.id) (c.forest.ensures ∙ ap (λ (z : HeadAndForest). z.forest) c.unit_of.ensures) in
    let below : column < c.entry-entry.result.count = subst (λ (z : Entry). column < z.count) (sym entry) inside in
    c.loop-column.invariant file r holds column (omega arith)
