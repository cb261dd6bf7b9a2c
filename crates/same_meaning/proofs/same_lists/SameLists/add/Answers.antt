use Rattle.std.proofs.Common.{ℕ, subst, sym}
use Rattle.std.specs.List.{All}
use Rattle.std.proofs.lemmas.Map.Views.{All-insert_key}
use Rattle.list_model.specs.declared.entry.ListKind.{ListKind}
use Rattle.list_model.specs.declared.entry.ListKind.TheVariants.{Ranges, Locations}
use Rattle.same_meaning.specs.inside.Compared.{MeanSameList}
use Rattle.same_meaning.proofs.SamePairs.{compare_places}
use Rattle.same_meaning.proofs.same_lists.SameLists.add.Goals as goal

pub returns-in_err-insert-in-Ranges : goal.returns-in_err-insert-in-Ranges
returns-in_err-insert-in-Ranges c = λ a b lists same. record {
  ranges = subst (All (MeanSameList a b Ranges)) (sym c.in_err-insert-in-Ranges.ensures.err) lists.ranges;
  locations = lists.locations;
}

pub returns-in_err-insert-in-Locations : goal.returns-in_err-insert-in-Locations
returns-in_err-insert-in-Locations c = λ a b lists same. record {
  ranges = lists.ranges;
  locations = subst (All (MeanSameList a b Locations)) (sym c.in_err-insert-in-Locations.ensures.err) lists.locations;
}

pub returns-in_ok-insert-in-Ranges : goal.returns-in_ok-insert-in-Ranges
returns-in_ok-insert-in-Ranges c = λ a b lists same.
    let at : ℕ × ℕ = (c.args.first, c.args.second) in
    let here = subst (λ (kind : ListKind). MeanSameList a b kind at) c.in-Ranges.is same in
    let all = All-insert_key compare_places at (MeanSameList a b Ranges) c.args.self.now.ranges.keys lists.ranges here in
    record {
      ranges = subst (All (MeanSameList a b Ranges)) (sym c.in_ok-insert-in-Ranges.ensures.keys) all;
      locations = lists.locations;
    }

pub returns-in_ok-insert-in-Locations : goal.returns-in_ok-insert-in-Locations
returns-in_ok-insert-in-Locations c = λ a b lists same.
    let at : ℕ × ℕ = (c.args.first, c.args.second) in
    let here = subst (λ (kind : ListKind). MeanSameList a b kind at) c.in-Locations.is same in
    let all = All-insert_key compare_places at (MeanSameList a b Locations) c.args.self.now.locations.keys lists.locations here in
    record {
      ranges = lists.ranges;
      locations = subst (All (MeanSameList a b Locations)) (sym c.in_ok-insert-in-Locations.ensures.keys) all;
    }
