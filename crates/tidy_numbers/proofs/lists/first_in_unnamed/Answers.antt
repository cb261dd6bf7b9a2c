use Rattle.std.proofs.Common.{◌≡◌, ◌∙◌, ℕ, List, sym, subst}
use Rattle.std.specs.Prelude.{None}
use Rattle.std.specs.List.{All}
use Rattle.list_model.specs.declared.entry.ListKind.TheVariants.{Locations}
use Rattle.list_model.specs.declared.entry.RawEntry.{RawEntry}
use Rattle.tidy_places.specs.Firsts.{IsLeastFound}
use Rattle.tidy_numbers.specs.LongLists.{IsLongLength, HoldsBehindCode}
use Rattle.tidy_numbers.specs.inside.ListEntries.{LengthStands, HoldsAmong}
use Rattle.tidy_numbers.proofs.ListPlaces.{where_found}
use Rattle.tidy_numbers.proofs.lists.first_in_unnamed.Goals as goal

pub first_length_in-requires-clause-lengths : goal.first_length_in-requires-clause-lengths
first_length_in-requires-clause-lengths c = subst (All (LengthStands c.args.section.now)) (sym (c.deref.ensures.value ∙ c.entries.ensures)) c.requires.lengths

pub returns-in-None : goal.returns-in-None
returns-in-None c =
    let Of : RawEntry → ℕ → Type 0 = HoldsBehindCode IsLongLength Locations c.args.section.now in
    where_found (c.args.list.now.owner ≡ None) (HoldsAmong Of c.args.list.now.raw) c.first_length_in.result (sym c.owner.ensures ∙ c.in-None.is)
    (subst (λ (z : List RawEntry). IsLeastFound (HoldsAmong Of z) c.first_length_in.result) (c.deref.ensures.value ∙ c.entries.ensures) c.first_length_in.ensures)
