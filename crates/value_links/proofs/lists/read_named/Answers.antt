use Rattle.std.proofs.Common.{ℕ, List, inl, inr, sym, subst, refl}
use Rattle.std.proofs.lemmas.Result.{err_from_is_err_and}
use Rattle.dw_base.specs.declared.fault.Kind.TheVariants.{Limit}
use Rattle.list_model.specs.declared.contribution.Contribution.{Contribution}
use Rattle.list_model.specs.declared.entry.RawEntry.{RawEntry}
use Rattle.list_model.specs.Contributions.{ContributionsTile, IsContribution}
use Rattle.value_links.specs.declared.list_places.Contributions.{Contributions}
use Rattle.value_links.specs.Reading.{ListSection, part_at}
use Rattle.value_links.specs.Lists.{IsListOf}
use Rattle.value_links.specs.Parts.{lists_in, section_held}
use Rattle.value_links.specs.inside.Namings.{first_naming}
use Rattle.value_links.specs.ListPlaces.{IsListPlace}
use Rattle.value_links.specs.inside.NamedLists.{FaultLookingBy, FaultListOf, PassesBy, FaultNamed, IsReadBy}
use Rattle.value_links.proofs.ListBytes.{refused_for, bytes_fault, total_fault}
use Rattle.value_links.proofs.NamingPlaces.{part_is}
use Rattle.value_links.proofs.PartPlaces.{part_stands}
use Rattle.value_links.proofs.lists.read_named.Goals as goal

pub read_list-requires-clause-part : goal.read_list-requires-clause-part
read_list-requires-clause-part c =
    let held : Contributions = c.lists-contributions.result.now in
    let tiled : ContributionsTile held.section.now held.parts.items = subst (λ (z : Contributions). ContributionsTile z.section.now z.parts.items) (sym c.lists-contributions.ensures) (c.requires.lists.tiled c.args.kind) in
    let holder = part_is held.parts.items c.in-Some.part c.index-holder.result.now c.in-Some.ensures.0 c.index-holder.ensures in
    subst (IsContribution held.section.now) (sym holder) (part_stands held.section.now held.parts.items tiled c.in-Some.part c.in-Some.ensures.0)

pub returns-in_err-raw-clause-fault : goal.returns-in_err-raw-clause-fault
returns-in_err-raw-clause-fault c =
    let named : List (ℕ × ℕ) = c.args.named.now in
    let contexts = c.args.parts.now.contexts.items in
    let before = c.args.before.now in
    let at : ℕ = (first_naming named).0 in
    let held : Contributions = c.lists-contributions.result.now in
    let section : ListSection = section_held held in
    let holder = part_is held.parts.items c.in-Some.part c.index-holder.result.now c.in-Some.ensures.0 c.index-holder.ensures in
    let p = err_from_is_err_and c.from_residual.result c.from_residual.ensures.1 in
    rw (p.1, p.2) (refused_for (FaultListOf c.args.kind section.section c.index-holder.result.now at c.args.reach) (FaultNamed c.args.kind (section_held (lists_in c.args.parts.now c.args.kind)) contexts named c.args.reach before) (λ cause place f.
    subst (λ (z : Contributions). FaultNamed c.args.kind (section_held z) contexts named c.args.reach before cause place) c.lists-contributions.ensures
    (c.in-Some.part, c.in-Some.ensures, bytes_fault c.args.kind section contexts named c.args.reach before c.in-Some.part at cause place (subst (λ (z : Contribution). FaultListOf c.args.kind section.section z at c.args.reach cause place) holder f))) c.args.origin c.in_err-raw.field-0.0 c.in_err-raw.ensures.fault)

pub returns-in_default-with_list-clause-fault : goal.returns-in_default-with_list-clause-fault
returns-in_default-with_list-clause-fault c =
    let named : List (ℕ × ℕ) = c.args.named.now in
    let contexts = c.args.parts.now.contexts.items in
    let before = c.args.before.now in
    let at : ℕ = (first_naming named).0 in
    let raws : List RawEntry = c.in_ok-raw.raw.items in
    let held : Contributions = c.lists-contributions.result.now in
    let section : ListSection = section_held held in
    let holder = part_is held.parts.items c.in-Some.part c.index-holder.result.now c.in-Some.ensures.0 c.index-holder.ensures in
    let read : IsListOf c.args.kind section.section (part_at section c.in-Some.part) at raws = subst (λ (z : Contribution). IsListOf c.args.kind section.section z at raws) holder c.in_ok-raw.ensures.read in
    let past : PassesBy c.args.reach before raws = subst (PassesBy c.args.reach before) c.deref.ensures.value c.in_default-with_list.ensures in
    (at, refl, subst (λ (z : Contributions). FaultNamed c.args.kind (section_held z) contexts named c.args.reach before Limit at) c.lists-contributions.ensures (c.in-Some.part, c.in-Some.ensures, total_fault c.args.kind section contexts named c.args.reach before c.in-Some.part at raws read past))

pub returns-in_err-meaning-clause-fault : goal.returns-in_err-meaning-clause-fault
returns-in_err-meaning-clause-fault c =
    let named : List (ℕ × ℕ) = c.args.named.now in
    let contexts = c.args.parts.now.contexts.items in
    let before = c.args.before.now in
    let at : ℕ = (first_naming named).0 in
    let raws : List RawEntry = c.in_ok-raw.raw.items in
    let held : Contributions = c.lists-contributions.result.now in
    let section : ListSection = section_held held in
    let holder = part_is held.parts.items c.in-Some.part c.index-holder.result.now c.in-Some.ensures.0 c.index-holder.ensures in
    let read : IsListOf c.args.kind section.section (part_at section c.in-Some.part) at raws = subst (λ (z : Contribution). IsListOf c.args.kind section.section z at raws) holder c.in_ok-raw.ensures.read in
    let p = err_from_is_err_and c.from_residual-in_err-meaning.result c.from_residual-in_err-meaning.ensures.1 in
    rw (p.1, p.2) (refused_for (FaultLookingBy c.args.kind contexts named raws) (FaultNamed c.args.kind (section_held (lists_in c.args.parts.now c.args.kind)) contexts named c.args.reach before) (λ cause place f.
    subst (λ (z : Contributions). FaultNamed c.args.kind (section_held z) contexts named c.args.reach before cause place) c.lists-contributions.ensures
    (c.in-Some.part, c.in-Some.ensures, inr (inl (raws, read, f)))) c.args.origin c.in_err-meaning.field-0.0 c.in_err-meaning.ensures.fault)

pub returns-clause-read : goal.returns-clause-read
returns-clause-read c =
    let named : List (ℕ × ℕ) = c.args.named.now in
    let at : ℕ = (first_naming named).0 in
    let raws : List RawEntry = c.in_ok-raw.raw.items in
    let held : Contributions = c.lists-contributions.result.now in
    let section : ListSection = section_held held in
    let holder = part_is held.parts.items c.in-Some.part c.index-holder.result.now c.in-Some.ensures.0 c.index-holder.ensures in
    let read : IsListOf c.args.kind section.section (part_at section c.in-Some.part) at raws = subst (λ (z : Contribution). IsListOf c.args.kind section.section z at raws) holder c.in_ok-raw.ensures.read in
    subst (IsReadBy c.args.kind (section_held (lists_in c.args.parts.now c.args.kind)) c.args.parts.now.addr.now c.args.parts.now.contexts.items named) (sym c.new-list.ensures) (record {
      at = refl;
      begins = subst (λ (z : Contributions). IsListPlace (section_held z) c.in-Some.part at) c.lists-contributions.ensures c.in-Some.ensures;
      owner = c.owner_of.ensures;
      read = subst (λ (z : Contributions). IsListOf c.args.kind z.section.now (part_at (section_held z) c.in-Some.part) at raws) c.lists-contributions.ensures read;
      looked = c.in_ok-meaning.ensures.looked;
      kept = c.in_ok-meaning.ensures.kept;
    })
