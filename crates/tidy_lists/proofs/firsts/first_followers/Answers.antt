use Rattle.std.proofs.Common.{◌≡◌, ◌≤◌, ◌<◌, ◌∙◌, ℕ, length, get_or, min, ap, arith}
use Rattle.std.proofs.lemmas.Grind.{common_steps}
use Rattle.std.proofs.lemmas.List.{length-set, get_or_read}
use Rattle.tidy_lists.specs.inside.LeastPlaces.{pair_at}
use Rattle.tidy_lists.proofs.FirstLaws.{itself, first_more, firsts_found}
use Rattle.tidy_lists.proofs.firsts.first_followers.Goals as goal

pub index_mut-requires : goal.index_mut-requires
index_mut-requires c =
    let i : ℕ = c.loop-pair.pair-index in
    let pairs = c.args.pairs.now in
    let inside : i < length pairs = grind (arith, common_steps) in
    let known : (pair_at pairs i).old < c.args.count = c.requires (pair_at pairs i).old (pair_at pairs i).new (itself pairs i inside) in
    let long : length c.loop-pair.firsts.items ≡ c.args.count = c.loop-pair.invariant.0 in
    grind (arith, common_steps)

pub loop-pair-preserved : goal.loop-pair-preserved
loop-pair-preserved c =
    let i : ℕ = c.loop-pair.pair-index in
    let pairs = c.args.pairs.now in
    let inside : i < length pairs = grind (arith, common_steps) in
    let known : (pair_at pairs i).old < c.args.count = c.requires (pair_at pairs i).old (pair_at pairs i).new (itself pairs i inside) in
    let firsts = c.loop-pair.firsts.items in
    let old : ℕ = (pair_at pairs i).old in
    let long : length firsts ≡ c.args.count = c.loop-pair.invariant.0 in
    let value : c.index_mut.result.now ≡ get_or firsts old 0 = get_or_read firsts old c.index_mut.result.now (omega (arith, known, long)) c.index_mut.ensures.value 0 in
    let least : c.lower.new.number ≡ min (get_or firsts old 0) (pair_at pairs i).new = c.lower.ensures.lowered ∙ ap (λ (z : ℕ). min z (pair_at pairs i).new) value in
    (length-set firsts old c.lower.new.number ∙ long, first_more pairs i c.args.count firsts c.lower.new.number long known (omega (arith, c.lower.ensures.fits)) least c.loop-pair.invariant.1)

pub returns-clause-firsts : goal.returns-clause-firsts
returns-clause-firsts c = λ k m there.
    let past : length c.args.pairs.now ≤ c.loop-pair.pair-index = grind (arith, common_steps) in
    firsts_found c.args.pairs.now c.loop-pair.pair-index c.args.count c.loop-pair.firsts.items past (grind (arith, common_steps)) c.loop-pair.invariant.1 k m (c.requires k m there) there
