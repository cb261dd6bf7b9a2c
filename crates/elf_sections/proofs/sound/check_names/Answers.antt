use Rattle.std.proofs.Common.{◌∙◌, not, sym, ap}
use Rattle.elf_sections.proofs.NameSets.{looked_up, updated, second_of_name, name_added, name_passed}
use Rattle.elf_sections.proofs.SumLaws.{sum_of_name}
use Rattle.elf_sections.proofs.sound.check_names.Goals as goal
use Rattle.elf_sections.proofs.sound.check_names.Goals.{else-is_debug_name-via-then-is_debug_name+in_ok-insert+else-not-branch, else-is_debug_name-via-else-is_debug_name}

pub returns-then-not-branch-clause-fault : goal.returns-then-not-branch-clause-fault
returns-then-not-branch-clause-fault c =
    let factor = c.args.sums.now.1 in
    let file = c.args.table.now in
    let name = c.name-name.result.now in
    let is = sum_of_name factor file c.loop-i.i name c.args.sums.now.0 c.name_place.result c.sum_at.result c.sum_at.ensures c.requires.sums c.name_place.ensures c.name-name.ensures in
    let again = ap not (sym (looked_up factor c.loop-i.names name c.sum_at.result is)) ∙ sym c.in_ok-insert.ensures.added ∙ c.if-not-branch.true in
    let s = second_of_name factor file c.loop-i.i name c.name-name.ensures c.loop-i.names c.loop-i.invariant.holds again in
    λ reach. (s.0, c.loop-i.i, s.1, c.offset.ensures.header, c.offset.ensures.offset, s.2, s.3)

pub loop-i-preserved : goal.loop-i-preserved
loop-i-preserved c = elim c.else-is_debug_name.branch [
  | else-is_debug_name-via-then-is_debug_name+in_ok-insert+else-not-branch w ↦
      let factor = c.args.sums.now.1 in
      let file = c.args.table.now in
      let name = c.name-name.result.now in
      let is = sum_of_name factor file c.loop-i.i name c.args.sums.now.0 w.name_place.result w.sum_at.result w.sum_at.ensures c.requires.sums w.name_place.ensures c.name-name.ensures in
      let added = ap not (sym (looked_up factor c.loop-i.names name w.sum_at.result is)) ∙ sym w.in_ok-insert.ensures.added ∙ w.if-not-branch.false in
      let updates = updated factor c.loop-i.names w.insert.new.self name w.sum_at.result is w.in_ok-insert.ensures.updates in
      let turn = name_added factor file c.loop-i.i name c.name-name.ensures c.loop-i.names c.loop-i.invariant.holds w.insert.new.self c.loop-i.invariant.distinct (sym w.if-is_debug_name.ensures) added updates in
      rw w.names-is (record { holds = turn.0; distinct = turn.1 })
  | else-is_debug_name-via-else-is_debug_name w ↦
      let turn = name_passed c.args.sums.now.1 c.args.table.now c.loop-i.i c.name-name.result.now c.name-name.ensures c.loop-i.names c.loop-i.invariant.holds c.loop-i.invariant.distinct (sym w.if-is_debug_name.ensures) in
      rw w.names-is (record { holds = turn.0; distinct = turn.1 })
]
