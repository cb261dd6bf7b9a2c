use Rattle.std.proofs.Common.{◌≡◌, ◌<◌, length, slice_index, arith}
use Rattle.tidy_tables.specs.inside.Outlines.{IsWrittenOtherwise}
use Rattle.tidy_tables.specs.inside.WrittenTables.{place_in}
use Rattle.tidy_tables.proofs.TablePlaces.{among_all}
use Rattle.tidy_tables.proofs.OutlineLaws.{as_many, other_more, other_fine}
use Rattle.tidy_tables.proofs.outlines.first_other.Goals as goal
use Rattle.tidy_tables.proofs.outlines.first_other.Goals.{then-not-branch, else-not-branch}

pub are_used_in-requires : goal.are_used_in-requires
are_used_in-requires c =
    let k = c.loop-number.number in
    let inside : k < length c.args.written.now.items = omega arith in
    as_many c.args.old.now.items c.args.uses.now.items c.args.written.now.items c.args.new.now.items c.requires.uses c.requires.count c.requires.numbers k inside c.index-in-loop-number-2.result.now c.index-in-loop-number-2.ensures c.index-in-loop-number.result.now c.index-in-loop-number.ensures

pub loop-number-preserved : goal.loop-number-preserved
loop-number-preserved c =
    let k = c.loop-number.number in
    let inside : k < length c.args.written.now.items = omega arith in
    elim c.if-not-branch.branch [
      | then-not-branch w ↦ other_more c.args.old.now.items c.args.uses.now.items c.args.written.now.items c.args.new.now.items c.requires.uses c.requires.count c.requires.numbers k inside c.index-in-loop-number-2.result.now c.index-in-loop-number-2.ensures c.index-in-loop-number.result.now c.index-in-loop-number.ensures c.in_ok-outlines.outlines.items c.in_ok-outlines.ensures c.index.result.now c.index.ensures c.index-in-loop-number-3.result.now c.index-in-loop-number-3.ensures c.in_ok-are_used_in.field-0 c.in_ok-are_used_in.ensures c.loop-number.least c.loop-number.invariant w.index-then-not-branch.result.now w.lesser-least.result c.if-not-branch.least w.if-not-branch.true w.index-then-not-branch.ensures w.lesser-least.ensures w.least-is
      | else-not-branch w ↦ other_fine c.args.old.now.items c.args.uses.now.items c.args.written.now.items c.args.new.now.items c.requires.uses c.requires.count c.requires.numbers k inside c.index-in-loop-number-2.result.now c.index-in-loop-number-2.ensures c.index-in-loop-number.result.now c.index-in-loop-number.ensures c.in_ok-outlines.outlines.items c.in_ok-outlines.ensures c.index.result.now c.index.ensures c.index-in-loop-number-3.result.now c.index-in-loop-number-3.ensures c.in_ok-are_used_in.field-0 c.in_ok-are_used_in.ensures c.loop-number.least c.loop-number.invariant c.if-not-branch.least w.if-not-branch.false w.least-is
    ]

pub returns : goal.returns
returns c =
    let same : c.loop-number.number ≡ length c.args.written.now.items = omega arith in
    among_all (IsWrittenOtherwise c.args.old.now.items c.args.uses.now.items c.args.written.now.items c.args.new.now.items) (λ k. place_in c.args.new.now.items (slice_index c.args.written.now.items k)) c.loop-number.number (length c.args.written.now.items) c.loop-number.least same c.loop-number.invariant
