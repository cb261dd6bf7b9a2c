-- What a value refers to means one thing, and means something where all is told of lists.
use Rattle.std.proofs.Common.{◌≡◌, ◌<◌, ◌∙◌, inl, inr, ℕ, List, [], length, sym, ap, subst, refl}
use Rattle.std.specs.List.{Contains}
use Rattle.std.proofs.lemmas.List.{get_or_default}
use Rattle.form_codec.specs.Forms.{Meaning}
use Rattle.form_codec.specs.Forms.Meaning.{Expression, InUnit, InSection, SectionPlace, LocationList, RangeList}
use Rattle.list_model.specs.declared.entry.ListKind.{ListKind}
use Rattle.list_model.specs.declared.entry.ListKind.TheVariants.{Ranges, Locations}
use Rattle.loc_lists.specs.declared.views.ViewPair.{ViewPair}
use Rattle.value_links.specs.Attributes.{OffsetClass, offset_class}
use Rattle.value_links.specs.Attributes.OffsetClass.{LinePtr, RngList, LocList, RngListsPtr, LocListsPtr, AddrPtr, StrOffsetsPtr, MacPtr, Views, NoOffset}
use Rattle.value_links.specs.Reading.{ViewRead, Linkable, Reading, of_kind, lists_of, part_at, view_at}
use Rattle.value_links.specs.Linked.{Linked, OffsetLinks, IndexLinks, Links, IsLinked}
use Rattle.value_links.specs.Linked.Linked.{Itself as LinkItself, Operates as LinkOperates, Refers as LinkRefers, Program as LinkProgram, ListAt, SlotAt, BaseOf, ViewsAt, Kept as LinkKept}
use Rattle.value_links.specs.Lists.{AreViewsNamed, AreTold}
use Rattle.value_links.specs.Whole.{IsReading}
use Rattle.value_links.specs.Resolved.{ListMeaning, MeansList, Resolved, ResolvesLink}
use Rattle.value_links.specs.Resolved.Resolved.{Itself, Operates, Refers, Program, AList, Indexed, PartOf, Pairs, Kept}
use Rattle.value_links.specs.Laws.{OneMeaning, LinkedMean}
use Rattle.value_links.proofs.LinkedOnce.{slot_once, linked_once}
use Rattle.value_links.proofs.ViewsOnce.{pairs_once}
use Rattle.value_links.proofs.ListMeanings.{list_means_once, named_means}

-- ONE THING

resolved_once : (file : List ℕ) (r : Reading) → IsReading file r → (linked : Linked) (v w : Resolved) → ResolvesLink r linked v → ResolvesLink r linked w → v ≡ w
resolved_once file r read (LinkItself meaning) v w a b = a ∙ sym b
resolved_once file r read (LinkOperates operations) v w a b = a ∙ sym b
resolved_once file r read (LinkRefers unit target) v w a b = a ∙ sym b
resolved_once file r read (LinkProgram p) v w a b = a ∙ sym b
resolved_once file r read (ListAt kind at) v w (a, p, e) (b, q, f) = e ∙ ap (λ (z : ListMeaning). AList z) (list_means_once file r read kind at a b p q) ∙ sym f
resolved_once file r read (SlotAt kind n i) v w (x, a, here, p, e) (y, b, there, q, f) =
    let same : x ≡ y = slot_once r.links kind n i x y here there in
    e ∙ ap (λ (z : ListMeaning). Indexed i z) (list_means_once file r read kind y a b (subst (λ (z : ℕ). MeansList r kind z a) same p) q) ∙ sym f
resolved_once file r read (BaseOf kind p) v w a b = a ∙ sym b
resolved_once file r read (ViewsAt list n) v w (a, here, e) (b, there, f) = e ∙ ap (λ (z : List ViewPair). Pairs z) (pairs_once r.views read.views.rising list n a b here there) ∙ sym f
resolved_once file r read (LinkKept n) v w a b = a ∙ sym b

pub meaning_once : OneMeaning
meaning_once file r u id name meaning v w read inside a b =
    let linked : a.linked ≡ b.linked = linked_once file r.links u id name meaning a.linked b.linked read.links inside a.links b.links in
    resolved_once file r read b.linked v w (subst (λ (z : Linked). ResolvesLink r z v) linked a.resolves) b.resolves

-- SOMETHING

-- a slot that a link tells is one of its contribution
abbrev IsSound : Linkable → Linked → Type 0
IsSound r (SlotAt kind p i) = (p < length (of_kind r kind).parts) × (i < (part_at (of_kind r kind) p).slots)
IsSound r linked = Unit {0}

index_sound : (r : Linkable) (u : ℕ) (kind : ListKind) (i : ℕ) (v : Linked) → IndexLinks r u kind i v → IsSound r v
index_sound r u kind i v (p, (n, first, (known, begins)), less, e) = subst (λ (z : Linked). IsSound r z) (sym e) (known, less)

offset_sound : (r : Linkable) (u id : ℕ) (class : OffsetClass) (n : ℕ) (v : Linked) → OffsetLinks r u id class n v → IsSound r v
offset_sound r u id LinePtr n v (p, here, e) = subst (λ (z : Linked). IsSound r z) (sym e) tt
offset_sound r u id RngList n v (here, e) = subst (λ (z : Linked). IsSound r z) (sym e) tt
offset_sound r u id LocList n v (here, e) = subst (λ (z : Linked). IsSound r z) (sym e) tt
offset_sound r u id RngListsPtr n v (p, here, e) = subst (λ (z : Linked). IsSound r z) (sym e) tt
offset_sound r u id LocListsPtr n v (p, here, e) = subst (λ (z : Linked). IsSound r z) (sym e) tt
offset_sound r u id AddrPtr n v (here, e) = subst (λ (z : Linked). IsSound r z) (sym e) tt
offset_sound r u id StrOffsetsPtr n v e = subst (λ (z : Linked). IsSound r z) (sym e) tt
offset_sound r u id MacPtr n v e = subst (λ (z : Linked). IsSound r z) (sym e) tt
offset_sound r u id Views n v (list, first, together, e) = subst (λ (z : Linked). IsSound r z) (sym e) tt
offset_sound r u id NoOffset n v none = absurd none

links_sound : (r : Linkable) (u id name : ℕ) (meaning : Meaning) (v : Linked) → Links r u id name meaning v → IsSound r v
links_sound r u id name (InUnit n) v (target, here, e) = subst (λ (z : Linked). IsSound r z) (sym e) tt
links_sound r u id name (InSection n) v (unit, target, here, e) = subst (λ (z : Linked). IsSound r z) (sym e) tt
links_sound r u id name (SectionPlace n) v links = offset_sound r u id (offset_class name) n v links
links_sound r u id name (LocationList i) v links = index_sound r u Locations i v links
links_sound r u id name (RangeList i) v links = index_sound r u Ranges i v links
links_sound r u id name (Expression bytes) v (operations, expression, e) = subst (λ (z : Linked). IsSound r z) (sym e) tt
links_sound r u id name meaning v e = subst (λ (z : Linked). IsSound r z) (sym e) tt

-- view pairs that a value names are read
pairs_read : (file : List ℕ) (r : Reading) → IsReading file r → (list n : ℕ) → AreViewsNamed r.links list n → (pairs : List ViewPair) × Contains r.views (record { list = list; at = n; pairs = pairs })
pairs_read file r read list n named =
    let (k, inside, goes, stands) = read.views.all list n named in
    let view : ViewRead = view_at r.views k in
    let same : view ≡ record { list = list; at = n; pairs = view.pairs } = ap (λ (z : ℕ). record { list = z; at = view.at; pairs = view.pairs }) goes ∙ ap (λ (z : ℕ). record { list = list; at = z; pairs = view.pairs }) stands in
    (view.pairs, (k, inside, sym (get_or_default r.views k (record { list = 0; at = 0; pairs = [] }) (record { list = list; at = n; pairs = view.pairs }) inside) ∙ same))

resolved_of : (file : List ℕ) (r : Reading) → IsReading file r → ((kind : ListKind) → AreTold r.links kind (lists_of r kind)) → (u number : ℕ) → u < length r.links.units → (linked : Linked) → IsLinked r.links u number linked → IsSound r.links linked → (v : Resolved) × ResolvesLink r linked v
resolved_of file r read told u number known (LinkItself meaning) here sound = (Itself meaning, refl)
resolved_of file r read told u number known (LinkOperates operations) here sound = (Operates operations, refl)
resolved_of file r read told u number known (LinkRefers unit target) here sound = (Refers unit target, refl)
resolved_of file r read told u number known (LinkProgram p) here sound = (Program p, refl)
resolved_of file r read told u number known (ListAt kind at) here sound =
    let (meaning, means) = named_means file r read kind (told kind) at (inl (u, record { known = known; number = number; linked = ListAt kind at; links = here; names = (refl, refl) })) in
    (AList meaning, (meaning, means, refl))
resolved_of file r read told u number known (SlotAt kind p i) here (inside, counted) =
    let (at, names) = (read.lists kind).slots p i inside counted in
    let (meaning, means) = named_means file r read kind (told kind) at (inr (p, i, names)) in
    (Indexed i meaning, (at, meaning, names, means, refl))
resolved_of file r read told u number known (BaseOf kind p) here sound = (PartOf kind p, refl)
resolved_of file r read told u number known (ViewsAt list n) here sound =
    let (pairs, held) = pairs_read file r read list n (u, number, known, here) in
    (Pairs pairs, (pairs, held, refl))
resolved_of file r read told u number known (LinkKept n) here sound = (Kept n, refl)

pub links_mean : LinkedMean
links_mean file r u id number name meaning place linked read told known stands links =
    let here : IsLinked r.links u number linked = record { id = id; name = name; meaning = meaning; place = place; stands = stands; links = links } in
    let (v, resolves) = resolved_of file r read told u number known linked here (links_sound r.links u id name meaning linked links) in
    (v, record { linked = linked; links = links; resolves = resolves })
