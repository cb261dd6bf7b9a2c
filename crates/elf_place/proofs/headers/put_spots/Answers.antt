use Rattle.std.proofs.Common.{◌≡◌, ◌∙◌, get_or, subst}
use Rattle.std.proofs.lemmas.List.{take_all, get_or_default}
use Rattle.std.specs.List.{All}
use Rattle.elf_place.specs.declared.spots.Spot.{Spot}
use Rattle.elf_place.proofs.Patches.{HasField, offsets-more, sizes-more, others-more}
use Rattle.elf_place.proofs.headers.put_spots.Goals as goal

pub loop-spot-preserved : goal.loop-spot-preserved
loop-spot-preserved c =
    let spots = c.args.spots.now in
    let n = c.loop-spot.spot-index in
    let none : Spot = record { section = 0; at = 0; len = 0 } in
    let spot = get_or spots n none in
    let first = c.put_u64.ensures in
    let second = c.put_u64-in-loop-spot.ensures in
    let before = c.loop-spot.invariant in
    let is : (d : Spot) → get_or spots n d ≡ spot = λ d. get_or_default spots n d none c.loop-spot-test.true in
    record {
      size = second.size ∙ first.size ∙ before.size;
      offsets = offsets-more c.args.table n spots spot c.args.file.now c.loop-spot.file c.put_u64.new.file c.put_u64-in-loop-spot.new.file c.loop-spot-test.true is c.requires.apart first.written first.others second.written second.others before.offsets;
      sizes = sizes-more c.args.table n spots spot c.args.file.now c.loop-spot.file c.put_u64.new.file c.put_u64-in-loop-spot.new.file c.loop-spot-test.true is c.requires.apart first.written first.others second.written second.others before.sizes;
      others = others-more c.args.table n spots spot c.args.file.now c.loop-spot.file c.put_u64.new.file c.put_u64-in-loop-spot.new.file c.loop-spot-test.true is c.requires.apart first.written first.others second.written second.others before.others;
    }

pub returns-clause-offsets : goal.returns-clause-offsets
returns-clause-offsets c =
    subst (All (HasField c.args.table 24 (λ s. s.at) c.loop-spot.file)) (take_all c.loop-spot.spot-index c.args.spots.now c.loop-spot-test.false) c.loop-spot.invariant.offsets

pub returns-clause-sizes : goal.returns-clause-sizes
returns-clause-sizes c =
    subst (All (HasField c.args.table 32 (λ s. s.len) c.loop-spot.file)) (take_all c.loop-spot.spot-index c.args.spots.now c.loop-spot-test.false) c.loop-spot.invariant.sizes
