use Rattle.std.proofs.Common.{◌∙◌, ℕ, sym, subst}
use Rattle.list_model.specs.declared.entry.ListKind.{ListKind}
use Rattle.list_model.specs.declared.entry.ListKind.TheVariants.{Ranges, Locations}
use Rattle.same_meaning.specs.inside.Compared.{MeanSameList}
use Rattle.same_meaning.proofs.SamePairs.{holds_of_found}
use Rattle.same_meaning.proofs.same_lists.SameLists.has.Goals as goal

pub returns-in-Ranges : goal.returns-in-Ranges
returns-in-Ranges c = λ found a b lists.
    let at : ℕ × ℕ = (c.args.first, c.args.second) in
    subst (λ (kind : ListKind). MeanSameList a b kind at) (sym c.in-Ranges.is) (holds_of_found (MeanSameList a b Ranges) c.args.self.now.ranges.keys at lists.ranges (sym c.contains.ensures ∙ found))

pub returns-in-Locations : goal.returns-in-Locations
returns-in-Locations c = λ found a b lists.
    let at : ℕ × ℕ = (c.args.first, c.args.second) in
    subst (λ (kind : ListKind). MeanSameList a b kind at) (sym c.in-Locations.is) (holds_of_found (MeanSameList a b Locations) c.args.self.now.locations.keys at lists.locations (sym c.contains-in-Locations.ensures ∙ found))
