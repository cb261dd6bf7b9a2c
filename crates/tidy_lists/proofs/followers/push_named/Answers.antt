use Rattle.tidy_lists.specs.inside.NamedNumbers.{ArePairedBy}
use Rattle.tidy_lists.proofs.AddedPairs.{adds_none, adds_one, on_ok}
use Rattle.tidy_lists.proofs.ToldNumbers.{paired_only}
use Rattle.tidy_lists.proofs.followers.push_named.Goals as goal

pub returns-in_default : goal.returns-in_default
returns-in_default c = λ r s read holds also held.
    adds_none (ArePairedBy c.args.sought r s c.args.unit c.args.number) c.args.pairs.now.items (λ k m (old, new). c.in_default.not-Some k ((c.named_by.ensures r read holds k).1 old))

pub returns-in_default-named_by : goal.returns-in_default-named_by
returns-in_default-named_by c = λ r s read holds also held.
    adds_none (ArePairedBy c.args.sought r s c.args.unit c.args.number) c.args.pairs.now.items (λ k m (old, new). c.in_default-named_by.not-Some m ((c.named_by-2.ensures s also held m).1 new))

pub returns : goal.returns
returns c = on_ok c.push_pair.result (λ adds r s read holds also held.
    adds_one (ArePairedBy c.args.sought r s c.args.unit c.args.number) c.in-Some.old c.in-Some-named_by.new c.args.pairs.now.items c.push_pair.new.pairs.items adds
    (paired_only c.args.sought r s c.args.unit c.args.number c.named_by.result c.named_by-2.result c.in-Some.old c.in-Some-named_by.new c.in-Some.is c.in-Some-named_by.is (c.named_by.ensures r read holds) (c.named_by-2.ensures s also held))) c.push_pair.ensures
