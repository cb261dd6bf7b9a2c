use Rattle.std.proofs.Common.{◌≡◌, ◌<◌, ℕ, length, arith}
use Rattle.std.proofs.lemmas.Grind.{common_steps}
use Rattle.value_links.specs.Links.{held_at}
use Rattle.value_links.specs.Reading.{unit_at}
use Rattle.tidy_lists.specs.inside.NamedNumbers.{linked_to, ArePairedBy}
use Rattle.tidy_lists.proofs.AddedPairs.{below_next, below_all}
use Rattle.tidy_lists.proofs.HeldValues.{forest_is, count_is}
use Rattle.tidy_lists.proofs.OffsetLinks.{number_known}
use Rattle.tidy_lists.proofs.followers.push_unit.Goals as goal

pub loop-number-preserved : goal.loop-number-preserved
loop-number-preserved c = λ r s read holds also held.
    below_next (ArePairedBy c.args.sought r s c.args.unit) c.loop-number.number c.args.pairs.now.items c.loop-number.pairs.items c.push_named.new.pairs.items (c.loop-number.invariant r s read holds also held) (c.in_ok-push_named.ensures r s read holds also held)

pub returns : goal.returns
returns c = λ r s read holds also held.
    let u : ℕ = c.args.unit in
    let a = c.args.before.now in
    let b = c.args.after.now in
    let old : c.forest.result.now ≡ (held_at a.units u).forest = forest_is a u c.units.result.now.items c.index.result.now c.forest.result.now c.requires.unit c.units.ensures c.index.ensures c.forest.ensures in
    let new : c.forest-2.result.now ≡ (held_at b.units u).forest = forest_is b u c.units-2.result.now.items c.index-2.result.now c.forest-2.result.now c.requires.again c.units-2.ensures c.index-2.ensures c.forest-2.ensures in
    let first : c.value_count-old.result ≡ length (unit_at r.links u).forest.values = count_is a r u c.value_count-old.result c.forest.result.now holds c.requires.unit old c.value_count-old.ensures in
    let second : c.value_count-new.result ≡ length (unit_at s.links u).forest.values = count_is b s u c.value_count-new.result c.forest-2.result.now held c.requires.again new c.value_count-new.ensures in
    below_all (ArePairedBy c.args.sought r s u) c.loop-number.number c.args.pairs.now.items c.loop-number.pairs.items (λ i k m (here, there).
    (let before : i < length (unit_at r.links u).forest.values = number_known a.image r.links read.links u i (linked_to c.args.sought r k) here.1 in
    let after : i < length (unit_at s.links u).forest.values = number_known b.image s.links also.links u i (linked_to c.args.sought s m) there.1 in
    grind (arith, common_steps))) (c.loop-number.invariant r s read holds also held)
