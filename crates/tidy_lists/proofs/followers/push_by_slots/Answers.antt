use Rattle.std.proofs.Common.{◌≡◌, ◌<◌, ◌^◌, List, length, ap, arith}
use Rattle.std.proofs.lemmas.Grind.{common_steps}
use Rattle.list_model.specs.declared.contribution.Contribution.{Contribution}
use Rattle.value_links.specs.Reading.{of_kind}
use Rattle.value_links.specs.World.{contributions_held}
use Rattle.tidy_lists.specs.inside.NamedNumbers.{ArePairedInPart}
use Rattle.tidy_lists.proofs.AddedPairs.{below_none, below_next, below_all}
use Rattle.tidy_lists.proofs.FewNumbers.{few_parts}
use Rattle.tidy_lists.proofs.followers.push_by_slots.Goals as goal

pub overflow_cast-common : goal.overflow_cast-common
overflow_cast-common c =
    let world = c.args.before.now in
    let (reach, is) = c.requires.before in
    let few : length (of_kind is.r.links c.args.kind).parts < 2 ^ 32 = few_parts world.image reach is.r is.valid is.read c.args.kind in
    let count : length (contributions_held world c.args.kind) ≡ length (of_kind is.r.links c.args.kind).parts = ap (λ (z : List Contribution). length z) (is.holds.contributions c.args.kind) in
    grind (arith, common_steps)

pub loop-part-init : goal.loop-part-init
loop-part-init c = λ r s read holds also held. below_none (ArePairedInPart c.args.kind r s) c.args.pairs.now.items

pub loop-part-preserved : goal.loop-part-preserved
loop-part-preserved c = λ r s read holds also held.
    below_next (ArePairedInPart c.args.kind r s) c.loop-part.part c.args.pairs.now.items c.loop-part.pairs.items c.push_part.new.pairs.items (c.loop-part.invariant r s read holds also held) (c.in_ok-push_part.ensures r s read holds also held)

pub returns : goal.returns
returns c = λ r s read holds also held.
    let a = c.args.before.now in
    let b = c.args.after.now in
    let kind = c.args.kind in
    let first : length (contributions_held a kind) ≡ length (of_kind r.links kind).parts = ap (λ (z : List Contribution). length z) (holds.contributions kind) in
    let second : length (contributions_held b kind) ≡ length (of_kind s.links kind).parts = ap (λ (z : List Contribution). length z) (held.contributions kind) in
    below_all (ArePairedInPart kind r s) c.loop-part.part c.args.pairs.now.items c.loop-part.pairs.items (λ p k m (i, (here, there)).
    (let before : p < length (of_kind r.links kind).parts = here.1.0.known in
    let after : p < length (of_kind s.links kind).parts = there.1.0.known in
    grind (arith, common_steps))) (c.loop-part.invariant r s read holds also held)
