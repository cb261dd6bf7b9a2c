use Rattle.std.proofs.Common.{◌≤◌, List, subst, arith}
use Rattle.abbrev_tables.specs.declared.decl.Spec.{Spec}
use Rattle.entry_arena.proofs.StepLaws.{values_rise}
use Rattle.entry_read.specs.Units.{declarations_of}
use Rattle.entry_read.specs.inside.Readings.{AddsValues}
use Rattle.entry_read.proofs.Walking.{pushed_entry, listed_entry}
use Rattle.entry_read.proofs.entries.read_entry.Goals as goal

pub overflow_sub-to : goal.overflow_sub-to
overflow_sub-to c =
    let a = c.in_ok-to.ensures.read in
    let rise : c.args.start.values_at ≤ c.in_ok-to.to = values_rise c.args.info.now c.columns_of-columns.result.now a.values c.args.start.values_at c.in_ok-to.to a.valued in
    omega (arith, c.requires.some)

pub push_entry-requires : goal.push_entry-requires
push_entry-requires c =
    let start = c.args.start in
    let w = c.requires.walked in
    let adds = subst (λ (z : List Spec). AddsValues c.args.info.now z c.args.forest.now start.values_at c.read_values.new.forest c.in_ok-to.to) c.columns_of-columns.ensures.columns c.in_ok-to.ensures.read in
    rw c.in_ok-narrow.ensures (rw c.in_ok-narrow-2.ensures (pushed_entry c.args.info.now (declarations_of c.args.table.now) c.args.forest.now c.read_values.new.forest w.0 start.depth start.number start.at start.values_at c.in_ok-to.to c.value_count-first.result c.value_count.result w.2 w.1 c.requires.number c.requires.coded adds c.value_count-first.ensures c.value_count.ensures))

pub returns-clause-within : goal.returns-clause-within
returns-clause-within c =
    let a = c.in_ok-to.ensures.read in
    let rise : c.args.start.values_at ≤ c.in_ok-to.to = values_rise c.args.info.now c.columns_of-columns.result.now a.values c.args.start.values_at c.in_ok-to.to a.valued in
    (omega (arith, c.requires.some), c.in_ok-to.ensures.within)

pub returns-clause-section : goal.returns-clause-section
returns-clause-section c =
    let start = c.args.start in
    let w = c.requires.walked in
    let adds = subst (λ (z : List Spec). AddsValues c.args.info.now z c.args.forest.now start.values_at c.read_values.new.forest c.in_ok-to.to) c.columns_of-columns.ensures.columns c.in_ok-to.ensures.read in
    let pushed = rw c.in_ok-narrow-2.ensures at (rw c.in_ok-narrow.ensures at c.in_ok-push_entry.ensures.pushed.1) in
    (listed_entry c.args.info.now (declarations_of c.args.table.now) c.args.forest.now c.read_values.new.forest w.0 start.depth start.number start.at start.values_at c.in_ok-to.to c.value_count-first.result c.value_count.result w.2 w.1 c.requires.number c.requires.coded adds c.value_count-first.ensures c.value_count.ensures c.push_entry.new.self pushed).0

pub returns-clause-read : goal.returns-clause-read
returns-clause-read c =
    let start = c.args.start in
    let w = c.requires.walked in
    let adds = subst (λ (z : List Spec). AddsValues c.args.info.now z c.args.forest.now start.values_at c.read_values.new.forest c.in_ok-to.to) c.columns_of-columns.ensures.columns c.in_ok-to.ensures.read in
    let pushed = rw c.in_ok-narrow-2.ensures at (rw c.in_ok-narrow.ensures at c.in_ok-push_entry.ensures.pushed.1) in
    (listed_entry c.args.info.now (declarations_of c.args.table.now) c.args.forest.now c.read_values.new.forest w.0 start.depth start.number start.at start.values_at c.in_ok-to.to c.value_count-first.result c.value_count.result w.2 w.1 c.requires.number c.requires.coded adds c.value_count-first.ensures c.value_count.ensures c.push_entry.new.self pushed).1
