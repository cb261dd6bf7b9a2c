-- What the link of a value tells of what the value means.
use Rattle.std.proofs.Common.{◌≡◌, ◌<◌, ◌∙◌, inl, ℕ, List, [], ◌∷◌, length, get_or, sym, ap, subst, refl, arith}
use Rattle.std.specs.Prelude.{Some, ◌↔◌}
use Rattle.std.proofs.lemmas.List.{get_or-map, length-map}
use Rattle.std.proofs.lemmas.List.Elements.{Contains-get_or}
use Rattle.form_codec.specs.declared.value.Value.{Value}
use Rattle.form_codec.specs.declared.value.Value.TheVariants as value
use Rattle.form_codec.specs.Forms.{Meaning}
use Rattle.form_codec.specs.Forms.Meaning.{Expression, InUnit, InSection, SectionPlace, LocationList, RangeList}
use Rattle.form_codec.specs.Values.{meant_in}
use Rattle.list_model.specs.declared.contribution.Contribution.{Contribution}
use Rattle.list_model.specs.declared.entry.ListKind.{ListKind}
use Rattle.list_model.specs.declared.entry.ListKind.TheVariants.{Ranges, Locations}
use Rattle.loc_lists.specs.declared.views.ViewPair.{ViewPair}
use Rattle.value_links.specs.Attributes.{OffsetClass, offset_class}
use Rattle.value_links.specs.Attributes.OffsetClass.{LinePtr, RngList, LocList, RngListsPtr, LocListsPtr, AddrPtr, StrOffsetsPtr, MacPtr, Views, NoOffset}
use Rattle.value_links.specs.Reading.{ViewRead, Linkable, Reading, lists_of, of_kind, list_at, view_at, part_at}
use Rattle.value_links.specs.Linked.{Linked, OffsetLinks, IndexLinks, Links, IsLinked}
use Rattle.value_links.specs.Linked.Linked.{Itself, Operates, Refers, Program, ListAt, SlotAt, BaseOf, ViewsAt, Kept}
use Rattle.value_links.specs.Laws.{OneLinked}
use Rattle.value_links.specs.Links.{IsLinkOf, IsLinkFound}
use Rattle.value_links.specs.Lists.{IsNamedIn, AreViewsNamed}
use Rattle.value_links.specs.Resolved.{Resolved, ResolvesLink, Resolves}
use Rattle.value_links.specs.Resolved.Resolved.{Itself as MeantItself}
use Rattle.value_links.specs.Whole.{IsReading}
use Rattle.value_links.specs.declared.link.Link.{Link}
use Rattle.list_arena.specs.Held.{HeldList, HeldViews}
use Rattle.value_links.specs.inside.Checks.{IsNoExpr}
use Rattle.value_links.specs.World.{World, Holds, lists_held, contributions_held, contribution_at}
use Rattle.same_meaning.specs.inside.Compared.{HasListAt, StandsIn}
use Rattle.same_meaning.specs.inside.Values.{MeansLink, IsTold, HoldsPairs, IsThere}

-- no expression
abbrev pub IsNoExpression : Meaning → Type 0
IsNoExpression (Expression bytes) = ⊥
IsNoExpression meaning = Unit {0}

-- what such a value may refer to: what is itself is the value, a slot is one of a contribution, and nothing is operations
abbrev pub IsSound : Linkable → Meaning → Linked → Type 0
IsSound r meaning (Itself own) = own ≡ meaning
IsSound r meaning (Operates operations) = ⊥
IsSound r meaning (SlotAt kind p i) = (p < length (of_kind r kind).parts) × (i < (part_at (of_kind r kind) p).slots)
IsSound r meaning linked = Unit {0}

sound_offset : (r : Linkable) (u id n : ℕ) (meaning : Meaning) (class : OffsetClass) (linked : Linked) → OffsetLinks r u id class n linked → IsSound r meaning linked
sound_offset r u id n meaning LinePtr linked (p, is, e) = subst (IsSound r meaning) (sym e) tt
sound_offset r u id n meaning RngList linked (is, e) = subst (IsSound r meaning) (sym e) tt
sound_offset r u id n meaning LocList linked (is, e) = subst (IsSound r meaning) (sym e) tt
sound_offset r u id n meaning RngListsPtr linked (p, is, e) = subst (IsSound r meaning) (sym e) tt
sound_offset r u id n meaning LocListsPtr linked (p, is, e) = subst (IsSound r meaning) (sym e) tt
sound_offset r u id n meaning AddrPtr linked (is, e) = subst (IsSound r meaning) (sym e) tt
sound_offset r u id n meaning StrOffsetsPtr linked e = subst (IsSound r meaning) (sym e) tt
sound_offset r u id n meaning MacPtr linked e = subst (IsSound r meaning) (sym e) tt
sound_offset r u id n meaning Views linked (list, first, together, e) = subst (IsSound r meaning) (sym e) tt
sound_offset r u id n meaning NoOffset linked none = absurd none

sound_index : (r : Linkable) (u i : ℕ) (meaning : Meaning) (kind : ListKind) (linked : Linked) → IndexLinks r u kind i linked → IsSound r meaning linked
sound_index r u i meaning kind linked (p, (n, first, (known, at)), inside, e) = subst (IsSound r meaning) (sym e) (known, inside)

sound : (r : Linkable) (u id name : ℕ) (meaning : Meaning) (linked : Linked) → IsNoExpression meaning → Links r u id name meaning linked → IsSound r meaning linked
sound r u id name (InUnit n) linked plain (target, is, e) = subst (IsSound r (InUnit n)) (sym e) tt
sound r u id name (InSection n) linked plain (unit, target, is, e) = subst (IsSound r (InSection n)) (sym e) tt
sound r u id name (SectionPlace n) linked plain links = sound_offset r u id n (SectionPlace n) (offset_class name) linked links
sound r u id name (LocationList i) linked plain links = sound_index r u i (LocationList i) Locations linked links
sound r u id name (RangeList i) linked plain links = sound_index r u i (RangeList i) Ranges linked links
sound r u id name (Expression bytes) linked plain links = absurd plain
sound r u id name meaning linked plain e = subst (IsSound r meaning) (sym e) refl

-- what a link tells means what the value means
means_told : (r : Reading) (meaning : Meaning) (linked : Linked) (link : Link) (v : Resolved) → IsSound r.links meaning linked → IsLinkOf linked link → ResolvesLink r linked v ↔ MeansLink r meaning link v
means_told r meaning (Itself own) link v is tells =
    subst (λ (z : Link). (v ≡ MeantItself own) ↔ MeansLink r meaning z v) (sym tells) (λ e. e ∙ ap (λ (z : Meaning). MeantItself z) is, λ e. e ∙ ap (λ (z : Meaning). MeantItself z) (sym is))
means_told r meaning (Operates operations) link v is tells = absurd is
means_told r meaning (Refers unit target) link v is tells = subst (λ (z : Link). ResolvesLink r (Refers unit target) v ↔ MeansLink r meaning z v) (sym tells) (λ e. e, λ e. e)
means_told r meaning (Program p) link v is tells = subst (λ (z : Link). ResolvesLink r (Program p) v ↔ MeansLink r meaning z v) (sym tells) (λ e. e, λ e. e)
means_told r meaning (ListAt kind at) link v is tells = subst (λ (z : Link). ResolvesLink r (ListAt kind at) v ↔ MeansLink r meaning z v) (sym tells) (λ e. e, λ e. e)
means_told r meaning (SlotAt kind p i) link v is tells =
    subst (λ (z : Link). ResolvesLink r (SlotAt kind p i) v ↔ MeansLink r meaning z v) (sym tells) (λ (at, list, named, means, e). (list, (at, named, means), e), λ (list, (at, named, means), e). (at, list, named, means, e))
means_told r meaning (BaseOf kind p) link v is tells = subst (λ (z : Link). ResolvesLink r (BaseOf kind p) v ↔ MeansLink r meaning z v) (sym tells) (λ e. e, λ e. e)
means_told r meaning (ViewsAt list n) link v is tells = subst (λ (z : Link). ResolvesLink r (ViewsAt list n) v ↔ MeansLink r meaning z v) (sym tells) (λ e. e, λ e. e)
means_told r meaning (Kept n) link v is tells = subst (λ (z : Link). ResolvesLink r (Kept n) v ↔ MeansLink r meaning z v) (sym tells) (λ e. e, λ e. e)

pub told : OneLinked → (file : List ℕ) (r : Reading) (u id name : ℕ) (meaning : Meaning) (link : Link) → IsReading file r → u < length r.links.units → IsNoExpression meaning → IsLinkFound r.links u id name meaning (Some link) → IsTold r u id name meaning link
told one file r u id name meaning link read inside plain (linked, links, tells) = λ v.
    let same = means_told r meaning linked link v (sound r.links u id name meaning linked plain links) tells in
    let once : (other : Linked) → Links r.links u id name meaning other → other ≡ linked = λ other also. one file r.links u id name meaning other linked read.links inside also links in (
      λ (resolves : Resolves r u id name meaning v). same.0 (subst (λ (z : Linked). ResolvesLink r z v) (once resolves.linked resolves.links) resolves.resolves),
      λ means. record { linked = linked; links = links; resolves = same.1 means },
    )

-- WHAT IS HELD

-- an item of a list that has one
pub some_of : {X : Type 0} (xs : List X) (k : ℕ) → k < length xs → X
some_of [] k inside = absurd (omega arith)
some_of (x ∷ xs) k inside = x

-- the list is held that is named in a reading
pub list_there : (world : World) (r : Reading) (kind : ListKind) (k at : ℕ) → Holds world.image world r → k < length (lists_of r kind) → (list_at (lists_of r kind) k).at ≡ at → HasListAt world kind at
list_there world r kind k at holds inside here =
    let held : List HeldList = lists_held world kind in
    let size : length held ≡ length (lists_of r kind) = (holds.lists kind).count in
    let within : k < length held = omega arith in
    let d : HeldList = some_of held k within in
    (get_or held k d, Contains-get_or held k d within, ((holds.lists kind).each k d inside).at ∙ here)

-- so are view pairs
pub views_there : (world : World) (r : Reading) (k list at : ℕ) → Holds world.image world r → k < length r.views → (view_at r.views k).list ≡ list → (view_at r.views k).at ≡ at → (pairs : List ViewPair) × HoldsPairs world.views list at pairs
views_there world r k list at holds inside with here =
    let read : HeldViews → ViewRead = λ (run : HeldViews). record { list = run.list; at = run.at; pairs = run.pairs } in
    let size : length r.views ≡ length world.views = ap length holds.views ∙ length-map world.views read in
    let within : k < length world.views = omega arith in
    let one : HeldViews = some_of world.views k within in
    let same : view_at r.views k ≡ read (get_or world.views k one) = ap (λ (z : List ViewRead). view_at z k) holds.views ∙ get_or-map read world.views k one (record { list = 0; at = 0; pairs = [] }) within in (
      (get_or world.views k one).pairs,
      record {
        run = get_or world.views k one;
        one = Contains-get_or world.views k one within;
        with = ap (λ (z : ViewRead). z.list) (sym same) ∙ with;
        here = ap (λ (z : ViewRead). z.at) (sym same) ∙ here;
        pairs_are = refl;
      },
    )

-- what the link of a value tells is held
there : (world : World) (r : Reading) (u number : ℕ) (meaning : Meaning) (linked : Linked) (link : Link) → IsReading world.image r → Holds world.image world r → u < length r.links.units → IsLinked r.links u number linked → IsSound r.links meaning linked → IsLinkOf linked link → IsThere world link
there world r u number meaning (Itself own) link read holds inside is sound tells = subst (IsThere world) (sym tells) tt
there world r u number meaning (Operates operations) link read holds inside is sound tells = subst (IsThere world) (sym tells) tt
there world r u number meaning (Refers unit target) link read holds inside is sound tells = subst (IsThere world) (sym tells) tt
there world r u number meaning (Program p) link read holds inside is sound tells = subst (IsThere world) (sym tells) tt
there world r u number meaning (ListAt kind at) link read holds inside is sound tells =
    let named : IsNamedIn r.links kind at u = record { known = inside; number = number; linked = ListAt kind at; links = is; names = (refl, refl) } in
    let (k, within, here) = (read.lists kind).all at (inl (u, named)) in
    subst (IsThere world) (sym tells) (list_there world r kind k at holds within here)
there world r u number meaning (SlotAt kind p i) link read holds inside is sound tells =
    let parts : contributions_held world kind ≡ (of_kind r.links kind).parts = holds.contributions kind in
    let known : p < length (contributions_held world kind) = subst (λ (z : List Contribution). p < length z) (sym parts) sound.0 in
    let counted : i < (contribution_at world kind p).slots = subst (λ (z : List Contribution). i < (get_or z p (record { at = 0; len = 0; slots = 0 })).slots) (sym parts) sound.1 in
    subst (IsThere world) (sym tells) (known, counted)
there world r u number meaning (BaseOf kind p) link read holds inside is sound tells = subst (IsThere world) (sym tells) tt
there world r u number meaning (ViewsAt list n) link read holds inside is sound tells =
    let named : AreViewsNamed r.links list n = (u, number, inside, is) in
    let (k, within, with, here) = read.views.all list n named in
    subst (IsThere world) (sym tells) (views_there world r k list n holds within with here)
there world r u number meaning (Kept n) link read holds inside is sound tells = subst (IsThere world) (sym tells) tt

pub found_there : (world : World) (r : Reading) (u id number name : ℕ) (meaning : Meaning) (link : Link) → IsReading world.image r → Holds world.image world r → (stands : StandsIn r u id name number) → stands.1.0 ≡ meaning → IsNoExpression meaning → IsLinkFound r.links u id name meaning (Some link) → IsThere world link
found_there world r u id number name meaning link read holds (inside, (own, place, has)) same plain (linked, links, tells) =
    let is : IsLinked r.links u number linked = record { id = id; name = name; meaning = own; place = place; stands = has; links = subst (λ (z : Meaning). Links r.links u id name z linked) (sym same) links } in
    there world r u number meaning linked link read holds inside is (sound r.links u id name meaning linked plain links) tells

-- a value that is no expression means none
pub no_expression : (section : List ℕ) (v : Value) → IsNoExpr v → IsNoExpression (meant_in section v)
no_expression section (value.Expr span) none = absurd none
no_expression section v none = tt
