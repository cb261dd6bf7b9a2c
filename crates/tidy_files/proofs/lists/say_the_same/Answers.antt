use Rattle.std.proofs.Common.{◌∙◌, List, get_or, sym, arith}
use Rattle.list_model.specs.declared.entry.RawEntry.{RawEntry}
use Rattle.tidy_files.proofs.SameEntries.{no_raw, same_entries, other_count, other_entry, alike_next}
use Rattle.tidy_files.proofs.lists.say_the_same.Goals as goal
use Rattle.tidy_files.proofs.lists.say_the_same.Goals.{then-one-other-via-then-one-other, then-one-other-via-else-one-other+then-one-other-2, then-one-other-via-else-one-other+else-one-other-2+then-one-other-3}

pub entry-one-requires-clause-index : goal.entry-one-requires-clause-index
entry-one-requires-clause-index c = λ d. omega (arith, c.loop-index-test.true, c.entry_count-count.ensures d)

pub entry-other-requires-clause-index : goal.entry-other-requires-clause-index
entry-other-requires-clause-index c = λ d. omega (arith, c.loop-index-test.true, c.if-count-others.false, c.entry_count-others.ensures d)

pub returns-then-count-others : goal.returns-then-count-others
returns-then-count-others c = λ d.
    other_count c.args.kind (get_or c.args.old.now c.args.number d).raw (get_or c.args.new.now c.args.number d).raw
    (λ e. c.if-count-others.true (c.entry_count-count.ensures d ∙ e ∙ sym (c.entry_count-others.ensures d)))

pub returns-then-one-other : goal.returns-then-one-other
returns-then-one-other c = λ d.
    let old : List RawEntry = (get_or c.args.old.now c.args.number d).raw in
    let new : List RawEntry = (get_or c.args.new.now c.args.number d).raw in
    other_entry c.args.kind old new c.loop-index.index (omega (arith, c.loop-index-test.true, c.entry_count-count.ensures d))
    c.entry-one.result c.entry-other.result (c.entry-one.ensures d no_raw) (c.entry-other.ensures d no_raw) (λ alike. elim c.then-one-other.branch [
      | then-one-other-via-then-one-other w ↦ w.if-one-other.true alike.code
      | then-one-other-via-else-one-other+then-one-other-2 w ↦ w.if-one-other-2.true alike.first
      | then-one-other-via-else-one-other+else-one-other-2+then-one-other-3 w ↦ w.if-one-other-3.true alike.second
    ])

pub loop-index-preserved : goal.loop-index-preserved
loop-index-preserved c = λ d.
    let old : List RawEntry = (get_or c.args.old.now c.args.number d).raw in
    let new : List RawEntry = (get_or c.args.new.now c.args.number d).raw in
    alike_next c.loop-index.index old new c.entry-one.result c.entry-other.result (c.entry-one.ensures d) (c.entry-other.ensures d) (c.loop-index.invariant d)
    (record { code = c.if-one-other.false; first = c.if-one-other-2.false; second = c.if-one-other-3.false })

pub returns : goal.returns
returns c = λ d.
    let (entries, said) = c.requires.said d in
    same_entries c.args.kind (get_or c.args.old.now c.args.number d).raw (get_or c.args.new.now c.args.number d).raw entries said
    (sym (c.entry_count-count.ensures d) ∙ c.if-count-others.false ∙ c.entry_count-others.ensures d)
    (λ k e less. c.loop-index.invariant d k e (omega (arith, less, c.loop-index-test.false, c.entry_count-count.ensures d)))
