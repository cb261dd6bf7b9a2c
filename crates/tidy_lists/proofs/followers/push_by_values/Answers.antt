use Rattle.std.proofs.Common.{◌≡◌, ◌<◌, ◌^◌, length, arith}
use Rattle.std.proofs.lemmas.Grind.{common_steps}
use Rattle.value_links.specs.Sections.{debug_info, debug_abbrev}
use Rattle.value_links.proofs.HeldUnits.{few_units, held_count}
use Rattle.tidy_lists.specs.inside.NamedNumbers.{linked_to, ArePairedIn}
use Rattle.tidy_lists.proofs.AddedPairs.{below_next, below_all}
use Rattle.tidy_lists.proofs.OffsetLinks.{unit_known}
use Rattle.tidy_lists.proofs.followers.push_by_values.Goals as goal

pub overflow_cast-common : goal.overflow_cast-common
overflow_cast-common c =
    let world = c.args.before.now in
    let (reach, is) = c.requires.before in
    let few : length is.r.links.units < 2 ^ 32 = few_units (debug_info world.image) (debug_abbrev world.image) is.r.links.units is.read.links.units in
    let count : length world.units ≡ length is.r.links.units = held_count is.r.links.units world.units is.holds.units in
    grind (arith, common_steps)

pub loop-unit-preserved : goal.loop-unit-preserved
loop-unit-preserved c = λ r s read holds also held.
    below_next (ArePairedIn c.args.sought r s) c.loop-unit.unit c.args.pairs.now.items c.loop-unit.pairs.items c.push_unit.new.pairs.items (c.loop-unit.invariant r s read holds also held) (c.in_ok-push_unit.ensures r s read holds also held)

pub returns : goal.returns
returns c = λ r s read holds also held.
    let a = c.args.before.now in
    let b = c.args.after.now in
    let first : length a.units ≡ length r.links.units = held_count r.links.units a.units holds.units in
    let second : length b.units ≡ length s.links.units = held_count s.links.units b.units held.units in
    below_all (ArePairedIn c.args.sought r s) c.loop-unit.unit c.args.pairs.now.items c.loop-unit.pairs.items (λ u k m (number, (here, there)).
    (let before : u < length r.links.units = unit_known a.image r.links read.links u number (linked_to c.args.sought r k) here.1 in
    let after : u < length s.links.units = unit_known b.image s.links also.links u number (linked_to c.args.sought s m) there.1 in
    grind (arith, common_steps))) (c.loop-unit.invariant r s read holds also held)
