use Rattle.std.proofs.Common.{◌∙◌, ap, get_or, refl}
use Rattle.std.proofs.lemmas.List.{get_or_default}
use Rattle.list_arena.specs.Held.{HeldViews}
use Rattle.same_meaning.proofs.values.run_among.Goals as goal

-- a run that stands there is among those that are held
pub unreachable-requires : goal.unreachable-requires
unreachable-requires c =
    let (pairs, has) = c.requires.there in
    let (k, inside, same) = has.one in
    c.in-None.ensures k has.run inside (ap (λ (run : HeldViews). run.list) same ∙ has.with) (ap (λ (run : HeldViews). run.at) same ∙ has.here)

pub returns-clause-run : goal.returns-clause-run
returns-clause-run c = λ d.
    let run : HeldViews = get_or c.args.views.now c.in-Some.number d in
    let (inside, found) = c.in-Some.ensures in
    record {
      run = run;
      one = (c.in-Some.number, inside, get_or_default c.args.views.now c.in-Some.number run d inside);
      with = (found d).0;
      here = (found d).1;
      pairs_are = refl;
    }
