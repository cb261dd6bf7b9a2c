use Rattle.std.proofs.Common.{◌≡◌, ◌∙◌, ℕ, List, length, ap, sym, subst, arith}
use Rattle.std.specs.List.{sum_by}
use Rattle.entry_read.specs.Units.{HeadAndForest}
use Rattle.line_machine.specs.declared.head.Head.{Head}
use Rattle.line_write.specs.Meaning.{ProgramMeaning, HaveMeanings}
use Rattle.value_links.specs.Sections.{debug_line}
use Rattle.commands.proofs.Numbered.{faultless, counted, means}
use Rattle.commands.proofs.summary.counts_of.Goals as goal

pub row_total-requires-clause-faultless : goal.row_total-requires-clause-faultless
row_total-requires-clause-faultless c =
    let world = c.args.world.now in
    rw c.section.ensures (faultless world.image world c.requires)

pub returns : goal.returns
returns c =
    let world = c.args.world.now in
    let entries : c.entry_total.result ≡ sum_by (λ (unit : HeadAndForest). length unit.forest.entries) world.units = c.entry_total.ensures ∙ ap (sum_by (λ (unit : HeadAndForest). length unit.forest.entries)) (c.deref.ensures.value ∙ c.units.ensures) in
    let heads : c.deref-2.result.now ≡ world.programs = c.deref-2.ensures.value ∙ c.programs.ensures in
    let rows : (programs : List ProgramMeaning) → HaveMeanings (debug_line world.image) world.programs programs → c.row_total.result ≡ sum_by (λ (program : ProgramMeaning). length program.rows) programs =
    (λ programs have. c.row_total.ensures programs (subst (λ (z : List ℕ). HaveMeanings z c.deref-2.result.now programs) (sym c.section.ensures) (subst (λ (z : List Head). HaveMeanings (debug_line world.image) z programs) (sym heads) have))) in
    let size : c.len.result ≡ length c.units-2.result.now.items = omega (arith, c.units-2.result.now.ok.0, c.len.ensures) in
    let units : c.len.result ≡ length world.units = size ∙ ap length c.units-2.ensures in
    (c.requires.debug, means world.image world c.requires, counted world.image world c.requires (record { entries = c.entry_total.result; rows = c.row_total.result; units = c.len.result }) entries rows units)
