use Rattle.std.proofs.Common.{◌≡◌, take, ap, ◌∙◌, arith}
use Rattle.std.proofs.lemmas.List.{take_all}
use Rattle.check_units.specs.inside.Dealing.{pieces, steps_of}
use Rattle.check_units.proofs.DealLaws.{piece_count}
use Rattle.check_units.proofs.StepLaws.{pieces_next}
use Rattle.check_units.proofs.steps.steps_in_slot_order.Goals as goal

pub loop-i-preserved : goal.loop-i-preserved
loop-i-preserved c =
    pieces_next c.args.ranks.now c.args.starts.now c.loop-i.i c.loop-i.all.items c.push_steps.new.all.items (omega (arith, c.requires.count)) c.loop-i.invariant c.in_ok-push_steps.ensures

pub returns : goal.returns
returns c =
    let all : take c.loop-i.i (pieces c.args.ranks.now c.args.starts.now) ≡ pieces c.args.ranks.now c.args.starts.now = take_all c.loop-i.i (pieces c.args.ranks.now c.args.starts.now) (omega (arith, piece_count c.args.ranks.now c.args.starts.now, c.requires.count)) in
    c.loop-i.invariant ∙ ap (steps_of 0) all
