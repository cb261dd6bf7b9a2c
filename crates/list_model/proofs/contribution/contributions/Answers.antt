use Rattle.std.proofs.Common.{◌≡◌, ◌≤◌, ◌+◌, ℕ, List, length, subst, sym, arith}
use Rattle.list_model.specs.declared.contribution.Contribution.{Contribution}
use Rattle.list_model.specs.Contributions.{ContributionsFollow}
use Rattle.list_model.proofs.Tiling.{part_inside, follow_push, each_part, parts_whole}
use Rattle.list_model.proofs.contribution.contributions.Goals as goal

pub loop-at-preserved : goal.loop-at-preserved
loop-at-preserved c =
    let section = c.args.section.now in
    let part = c.in_ok-part.part in
    let at = c.loop-at.at in
    let place : part.at ≡ at = c.in_ok-part.ensures.part.0 in
    let stands = c.in_ok-part.ensures.part.1 in
    let inside : part.at + part.len ≤ length section = (part_inside section part stands).1 in
    let more = follow_push section c.loop-at.parts.items part 0 at c.loop-at.invariant.front place stands in
    record { inside = omega arith; front = subst (λ (z : List Contribution). ContributionsFollow section z 0 (at + part.len)) (sym c.in_ok-push.ensures) more }

pub returns-clause-whole : goal.returns-clause-whole
returns-clause-whole c =
    let section = c.args.section.now in
    let parts = c.loop-at.parts.items in
    let inside : c.loop-at.at ≤ length section = c.loop-at.invariant.inside in
    let all : c.loop-at.at ≡ length section = omega (arith, c.loop-at-test.false) in
    parts_whole section parts (subst (λ (z : ℕ). ContributionsFollow section parts 0 z) all c.loop-at.invariant.front)

pub returns-clause-each : goal.returns-clause-each
returns-clause-each c = each_part c.args.section.now c.loop-at.parts.items 0 c.loop-at.at c.loop-at.invariant.front
