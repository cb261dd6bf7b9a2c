use Rattle.std.proofs.Common.{◌≤◌, ◌<◌, length, subst, arith}
use Rattle.column_forms.specs.declared.tally.Candidate.{Candidate}
use Rattle.column_forms.specs.inside.Tallies.{IsNext}
use Rattle.column_forms.proofs.TallyLaws.{added_none, added_more, added_all, added_room, added_constant, index_at}
use Rattle.column_forms.proofs.tally.add_to.Goals as goal

pub loop-i-init : goal.loop-i-init
loop-i-init c = λ name. added_none name c.args.value.now c.args.candidates.now.items

pub count-requires-clause-room : goal.count-requires-clause-room
count-requires-clause-room c =
    let inside : c.loop-i.i < length c.args.candidates.now.items = omega (arith, c.len-i-end.ensures, c.loop-i-test.true) in
    added_room 0 c.args.value.now c.args.candidates.now.items c.loop-i.candidates.items c.loop-i.i c.index_mut.result.now inside (c.loop-i.invariant 0) c.index_mut.ensures.value c.requires.room

pub count-requires-clause-shape : goal.count-requires-clause-shape
count-requires-clause-shape c =
    let inside : c.loop-i.i < length c.args.candidates.now.items = omega (arith, c.len-i-end.ensures, c.loop-i-test.true) in
    added_constant 0 c.args.value.now c.args.candidates.now.items c.loop-i.candidates.items c.loop-i.i c.index_mut.result.now inside (c.loop-i.invariant 0) c.index_mut.ensures.value c.requires.shapes

pub loop-i-preserved : goal.loop-i-preserved
loop-i-preserved c = λ name.
    let inv = c.loop-i.invariant name in
    let cs = c.loop-i.candidates.items in
    let v = c.args.value.now in
    let inside : c.loop-i.i < length c.args.candidates.now.items = omega (arith, c.len-i-end.ensures, c.loop-i-test.true) in
    let here = index_at cs c.loop-i.i c.index_mut.result.now (omega (arith, inv.same)) c.index_mut.ensures.value in
    let moved = subst (λ (z : Candidate). IsNext name v z c.count.new.candidate) here (c.count.ensures name) in
    added_more name v c.args.candidates.now.items cs c.loop-i.i c.count.new.candidate inside inv moved

pub returns : goal.returns
returns c = λ name.
    let all : length c.args.candidates.now.items ≤ c.loop-i.i = omega (arith, c.len-i-end.ensures, c.loop-i-test.false) in
    added_all name c.args.value.now c.args.candidates.now.items c.loop-i.candidates.items c.loop-i.i all (c.loop-i.invariant name)
