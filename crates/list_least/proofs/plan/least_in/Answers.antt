use Rattle.std.proofs.Common.{◌≡◌, ◌∙◌, ℕ, List, ap, sym, subst, refl, length, arith}
use Rattle.std.specs.Prelude.{map, reverse}
use Rattle.leb_codec.specs.LineCosts.{IsLeastCost}
use Rattle.list_model.specs.Potentials.{OnFrom}
use Rattle.list_least.specs.Plans.{bounds_of}
use Rattle.list_least.proofs.Ways.{planned_few}
use Rattle.list_least.proofs.Records.{accepts_list, same_count, choice_count, searched_seen, kept_fit}
use Rattle.list_least.proofs.plan.least_in.Goals as goal

pub picks_of-requires-clause-known : goal.picks_of-requires-clause-known
picks_of-requires-clause-known c = (
  c.args.addr.now,
  c.args.context.now,
  c.args.items.now,
  refl,
  searched_seen c.args.addr.now c.args.context.now c.args.items.now c.in_ok-costs.costs.items c.as_slice-2.result.now (reverse c.in_ok-back.back.potentials.items) c.as_slice-3.result.now (reverse c.in_ok-back.back.choices.items) c.as_slice-4.result.now c.as_slice-2.ensures.value (c.as_slice-3.ensures.value ∙ c.reverse.ensures.items) (c.as_slice-4.ensures.value ∙ c.reverse-2.ensures.items) c.in_ok-costs.ensures c.in_ok-back.ensures.greatest c.in_ok-back.ensures.chosen,
)

pub picks_of-requires-clause-same : goal.picks_of-requires-clause-same
picks_of-requires-clause-same c = omega (
  arith,
  same_count c.args.addr.now c.args.context.now c.args.items.now (reverse c.in_ok-back.back.potentials.items) c.reverse.new.self.items c.as_slice-3.result.now c.as_slice-3.ensures.value c.reverse.ensures.items c.in_ok-back.ensures.greatest,
  ap length c.as_slice-2.ensures.value,
  c.in_ok-costs.ensures.same,
)

pub picks_of-requires-clause-counted : goal.picks_of-requires-clause-counted
picks_of-requires-clause-counted c = omega (
  arith,
  choice_count c.args.addr.now c.args.context.now c.args.items.now (reverse c.in_ok-back.back.potentials.items) (reverse c.in_ok-back.back.choices.items) c.reverse-2.new.self.items c.as_slice-4.result.now c.as_slice-4.ensures.value c.reverse-2.ensures.items c.in_ok-back.ensures.chosen,
  ap length c.as_slice-2.ensures.value,
  c.in_ok-costs.ensures.same,
)

pub picks_of-requires-clause-few : goal.picks_of-requires-clause-few
picks_of-requires-clause-few c = omega (arith, ap length c.as_slice-2.ensures.value, c.in_ok-costs.ensures.same, c.requires.few)

pub picks_of-requires-clause-fits : goal.picks_of-requires-clause-fits
picks_of-requires-clause-fits c = kept_fit c.args.kind c.args.addr.now c.args.context.now c.args.items.now c.in_ok-costs.costs.items c.as_slice-2.result.now c.as_slice-2.ensures.value c.in_ok-costs.ensures c.requires.fits

pub returns-clause-accepted : goal.returns-clause-accepted
returns-clause-accepted c = accepts_list c.args.addr.now c.args.context.now (map bounds_of c.args.items.now) (reverse c.in_ok-back.back.potentials.items) c.reverse.new.self.items c.in_ok-back.back.size c.reverse.ensures.items c.in_ok-back.ensures.greatest c.in_ok-back.ensures.size

pub returns-clause-few : goal.returns-clause-few
returns-clause-few c =
    let potentials : c.as_slice-3.result.now ≡ reverse c.in_ok-back.back.potentials.items = c.as_slice-3.ensures.value ∙ c.reverse.ensures.items in
    let known = searched_seen c.args.addr.now c.args.context.now c.args.items.now c.in_ok-costs.costs.items c.as_slice-2.result.now (reverse c.in_ok-back.back.potentials.items) c.as_slice-3.result.now (reverse c.in_ok-back.back.choices.items) c.as_slice-4.result.now c.as_slice-2.ensures.value potentials (c.as_slice-4.ensures.value ∙ c.reverse-2.ensures.items) c.in_ok-costs.ensures c.in_ok-back.ensures.greatest c.in_ok-back.ensures.chosen in
    let least = subst (λ (ps : List ℕ). IsLeastCost (OnFrom c.args.addr.now c.args.context.now c.args.context.now.base (map bounds_of c.args.items.now) ps) c.in_ok-back.back.size) (sym potentials) c.in_ok-back.ensures.size in
    planned_few c.args.kind c.args.addr.now c.args.context.now c.args.items.now c.in_ok-picks.picks.items c.in_ok-back.back.size (c.in_ok-picks.ensures c.args.addr.now c.args.context.now c.args.items.now refl known c.in_ok-back.back.size least)
