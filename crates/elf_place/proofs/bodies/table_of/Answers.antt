use Rattle.std.proofs.Common.{◌∙◌, sym, arith, Some, subst, List}
use Rattle.std.proofs.lemmas.List.{take_all, length-set, get_or_default}
use Rattle.elf_place.specs.inside.Bodies.{IsTable}
use Rattle.elf_place.specs.declared.bodies.NewBody.{NewBody}
use Rattle.elf_place.proofs.BodyLaws.{IsTable-more}
use Rattle.elf_place.proofs.bodies.table_of.Goals as goal

pub loop-place-preserved : goal.loop-place-preserved
loop-place-preserved c =
    let bodies = c.args.bodies.now in
    let table = c.loop-place.table.items in
    let n = c.loop-place.place in
    let new = c.index-bodies-place.result in
    let inside = c.requires.inside n new c.loop-place-test.true in
    let within = rw (← c.index-bodies-place.is) at inside in
    record {
      count = length-set table new.section (Some n) ∙ c.loop-place.invariant.count;
      table = IsTable-more bodies table n new c.loop-place-test.true (λ d. get_or_default bodies n d new c.loop-place-test.true ∙ sym c.index-bodies-place.is) (omega arith) c.loop-place.invariant.table;
    }

pub returns-clause-table : goal.returns-clause-table
returns-clause-table c =
    subst (λ (bodies : List NewBody). IsTable bodies c.loop-place.table.items) (take_all c.loop-place.place c.args.bodies.now c.loop-place-test.false) c.loop-place.invariant.table
