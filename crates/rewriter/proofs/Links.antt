-- What the link of a value tells of what it means, and the new number that follows.
use Rattle.std.proofs.Common.{◌≡◌, ◌<◌, ◌+◌, ◌^◌, inl, inr, ℕ, List, [], ◌∷◌, length, slice_index, get_or, ◌∙◌, sym, ap, refl, subst, arith}
use Rattle.std.specs.Prelude.{◌⊎◌, Some, slice_index_or}
use Rattle.std.proofs.lemmas.List.{get_or_read, get_or-map, length-map}
use Rattle.std.proofs.lemmas.List.Elements.{All-get_or}
use Rattle.form_codec.specs.Forms.Meaning.{InUnit, InSection, SectionPlace}
use Rattle.entry_arena.specs.declared.entry.Target.{Target}
use Rattle.entry_read.specs.Units.{HeadAndForest}
use Rattle.list_model.specs.declared.contribution.Contribution.{Contribution}
use Rattle.list_model.specs.declared.entry.ListKind.{ListKind}
use Rattle.list_model.specs.declared.entry.ListKind.TheVariants.{Ranges, Locations}
use Rattle.list_model.specs.Contributions.{offsets_at}
use Rattle.list_write.specs.Written.{part_at, moved_at}
use Rattle.unit_write.specs.declared.places.Places.{Places}
use Rattle.value_links.specs.declared.link.Link.{Link}
use Rattle.value_links.specs.declared.link.Link.TheVariants.{Place, Lines, List as AtList, Base, Views as AtViews, Kept as KeptPlace}
use Rattle.value_links.specs.Attributes.{OffsetClass, offset_class}
use Rattle.value_links.specs.Attributes.OffsetClass.{LinePtr, RngList, LocList, RngListsPtr, LocListsPtr, AddrPtr, StrOffsetsPtr, MacPtr, Views, NoOffset}
use Rattle.list_arena.specs.Held.{HeldViews}
use Rattle.value_links.specs.Reading.{Linkable, Reading, ProgramRead, ViewRead, of_kind, lists_of, unit_at, list_at, view_at}
use Rattle.value_links.specs.Linked.{Linked, IsTargetAt, IsLocalTarget, IsSectionTarget, OffsetLinks, Links}
use Rattle.value_links.specs.Linked.Linked.{Program, ListAt, BaseOf, ViewsAt, Kept}
use Rattle.value_links.specs.Links.{IsLinkOf, IsLinkFound}
use Rattle.value_links.specs.World.{World, contributions_held, lists_held, Holds}
use Rattle.rewriter.specs.declared.new_places.ListPlaces.{ListPlaces}
use Rattle.rewriter.specs.declared.new_places.MovedViews.{MovedViews}
use Rattle.rewriter.specs.declared.new_places.NewPlaces.{NewPlaces}
use Rattle.rewriter.specs.inside.Placed.{PlacesAnew, places_anew, places_at, unit_in}
use Rattle.rewriter.specs.inside.NewPlaces.{moved_lists, IsMovedTo, moved_views_at, AreViewsMoved, IsNewOffset, IsOffsetAnew}
use Rattle.rewriter.specs.inside.Numbers.{MovesTo}
use Rattle.rewriter.specs.inside.Held.{HavePlaces, AllHavePlaces, AreListPlaces, AreViewPlaces}
use Rattle.rewriter.proofs.Standing.{held_unit, held_count}

-- what is read of a list of units, and of their places
pub unit_read : (units : List HeadAndForest) (u : ℕ) (unit : HeadAndForest) → u < length units → unit ≡ get_or units u unit → unit ≡ unit_in units u
unit_read units u unit inside is = get_or_read units u unit inside is (record { head = record { at = 0; len = 0; kind = 0; table = 0; extra = 0; type_at = 0 }; forest = record { section = []; entries = []; values = []; ends = [] } })

pub places_read : (places : List Places) (u : ℕ) (new : Places) → u < length places → new ≡ get_or places u new → places_anew new ≡ places_at places u
places_read places u new inside is = ap places_anew is ∙ sym (get_or-map places_anew places u new (record { start = 0; entries = []; ends = []; end = 0 }) inside)

pub own_is : (world : World) (u : ℕ) (units : List HeadAndForest) (own : HeadAndForest) → u < length world.units → units ≡ world.units → own ≡ get_or units u own → own ≡ unit_in world.units u
own_is world u units own inside same is =
    unit_read world.units u own inside (subst (λ (z : List HeadAndForest). own ≡ get_or z u own) same is)

pub placed_read : (world : World) (places : List Places) (u : ℕ) (units : List HeadAndForest) (own : HeadAndForest) (new : Places) → AllHavePlaces world places → u < length world.units → units ≡ world.units → own ≡ get_or units u own → new ≡ get_or places u new → HavePlaces own.forest (places_anew new)
placed_read world places u units own new all inside same is there =
    let size : length places ≡ length world.units = all.count in
    subst (λ (h : HeadAndForest). HavePlaces h.forest (places_anew new)) (sym (own_is world u units own inside same is)) (subst (HavePlaces (unit_in world.units u).forest) (sym (places_read places u new (omega arith) there)) (all.each u inside))

pub moves_read : (world : World) (places : List Places) (u : ℕ) (units : List HeadAndForest) (own : HeadAndForest) (new : Places) (old result : ℕ) → AllHavePlaces world places → u < length world.units → units ≡ world.units → own ≡ get_or units u own → new ≡ get_or places u new → MovesTo own.forest (places_anew new) old result → MovesTo (unit_in world.units u).forest (places_at places u) old result
moves_read world places u units own new old result all inside same is there m =
    let size : length places ≡ length world.units = all.count in
    subst (λ (p : PlacesAnew). MovesTo (unit_in world.units u).forest p old result) (places_read places u new (omega arith) there) (subst (λ (h : HeadAndForest). MovesTo h.forest (places_anew new) old result) (own_is world u units own inside same is) m)

-- REFERENCES

pub local_place : (r : Linkable) (u id name n : ℕ) (link : Link) → IsLinkFound r u id name (InUnit n) (Some link) → ((other : ℕ) (target : Target) → link ≡ Place other target → ⊥) → ⊥
local_place r u id name n link (linked, (target, is, e), tells) none = none u target (subst (λ (z : Linked). IsLinkOf z link) e tells)

pub section_place : (r : Linkable) (u id name n : ℕ) (link : Link) → IsLinkFound r u id name (InSection n) (Some link) → ((other : ℕ) (target : Target) → link ≡ Place other target → ⊥) → ⊥
section_place r u id name n link (linked, (unit, target, is, e), tells) none = none unit target (subst (λ (z : Linked). IsLinkOf z link) e tells)

pub refers_local : (r : Linkable) (u id name n other : ℕ) (target : Target) → IsLinkFound r u id name (InUnit n) (Some (Place other target)) → IsLocalTarget r u n target
refers_local r u id name n other target (linked, (t, is, e), tells) =
    let link : Place other target ≡ Place u t = subst (λ (z : Linked). IsLinkOf z (Place other target)) e tells in
    let same : t ≡ target = cc in
    subst (IsLocalTarget r u n) same is

pub refers_section : (r : Linkable) (u id name n other : ℕ) (target : Target) → IsLinkFound r u id name (InSection n) (Some (Place other target)) → IsSectionTarget r n other target
refers_section r u id name n other target (linked, (unit, t, is, e), tells) =
    let link : Place other target ≡ Place unit t = subst (λ (z : Linked). IsLinkOf z (Place other target)) e tells in
    let same : t ≡ target = cc in
    let there : unit ≡ other = cc in
    subst (λ (z : Target). IsSectionTarget r n other z) same (subst (λ (z : ℕ). IsSectionTarget r n z t) there is)

-- the target stands in the unit that is held
pub local_held : (file : List ℕ) (world : World) (r : Reading) (u n : ℕ) (target : Target) → Holds file world r → IsLocalTarget r.links u n target → IsTargetAt (unit_in world.units u).forest target ((unit_in world.units u).head.at + n)
local_held file world r u n target holds is =
    subst (λ (h : HeadAndForest). IsTargetAt h.forest target (h.head.at + n)) (sym (held_unit file world r u holds)) is

pub section_held : (file : List ℕ) (world : World) (r : Reading) (n other : ℕ) (target : Target) → Holds file world r → IsSectionTarget r.links n other target → (other < length world.units) × IsTargetAt (unit_in world.units other).forest target n
section_held file world r n other target holds (inside, is) =
    let size : length world.units ≡ length r.links.units = held_count file world r holds in
    (omega arith, subst (λ (h : HeadAndForest). IsTargetAt h.forest target n) (sym (held_unit file world r other holds)) is)

-- what was found in the unit that is held is so in the one that is read
pub local_moved : (file : List ℕ) (world : World) (r : Reading) (places : List Places) (u n new : ℕ) → Holds file world r → MovesTo (unit_in world.units u).forest (places_at places u) ((unit_in world.units u).head.at + n) ((places_at places u).start + new) → MovesTo (unit_at r.links u).forest (places_at places u) ((unit_at r.links u).head.at + n) ((places_at places u).start + new)
local_moved file world r places u n new holds m =
    subst (λ (h : HeadAndForest). MovesTo h.forest (places_at places u) (h.head.at + n) ((places_at places u).start + new)) (held_unit file world r u holds) m

pub section_moved : (file : List ℕ) (world : World) (r : Reading) (places : List Places) (u n new : ℕ) → Holds file world r → u < length world.units → MovesTo (unit_in world.units u).forest (places_at places u) n new → (unit : ℕ) × (unit < length r.links.units) × MovesTo (unit_at r.links unit).forest (places_at places unit) n new
section_moved file world r places u n new holds inside m =
    let size : length world.units ≡ length r.links.units = held_count file world r holds in
    (u, omega arith, subst (λ (h : HeadAndForest). MovesTo h.forest (places_at places u) n new) (held_unit file world r u holds) m)

-- SECTION OFFSETS

-- a section offset names a program, a list, a contribution of lists or view pairs, or is kept
abbrev OffsetParts : Linkable → ℕ → Linked → Type 0
OffsetParts r n linked =
    ((p : ℕ) × (p < length r.programs) × (linked ≡ Program p))
    ⊎ (((kind : ListKind) × (linked ≡ ListAt kind n))
    ⊎ (((kind : ListKind) × (p : ℕ) × (p < length (of_kind r kind).parts) × (linked ≡ BaseOf kind p))
    ⊎ (((list : ℕ) × (linked ≡ ViewsAt list n))
    ⊎ (linked ≡ Kept n))))

offset_parts : (r : Linkable) (u id n : ℕ) (class : OffsetClass) (linked : Linked) → OffsetLinks r u id class n linked → OffsetParts r n linked
offset_parts r u id n LinePtr linked (p, is, e) = inl (p, is.0, e)
offset_parts r u id n RngList linked (is, e) = inr (inl (Ranges, e))
offset_parts r u id n LocList linked (is, e) = inr (inl (Locations, e))
offset_parts r u id n RngListsPtr linked (p, is, e) = inr (inr (inl (Ranges, p, is.0, e)))
offset_parts r u id n LocListsPtr linked (p, is, e) = inr (inr (inl (Locations, p, is.0, e)))
offset_parts r u id n AddrPtr linked (is, e) = inr (inr (inr (inr e)))
offset_parts r u id n StrOffsetsPtr linked links = inr (inr (inr (inr links)))
offset_parts r u id n MacPtr linked links = inr (inr (inr (inr links)))
offset_parts r u id n Views linked (list, first, together, e) = inr (inr (inr (inl (list, e))))
offset_parts r u id n NoOffset linked links = absurd links

-- the same, with the link that tells it
abbrev OffsetFound : Linkable → ℕ → Link → Linked → Type 0
OffsetFound r n link linked =
    ((p : ℕ) × (p < length r.programs) × (linked ≡ Program p) × (link ≡ Lines p))
    ⊎ (((kind : ListKind) × (linked ≡ ListAt kind n) × (link ≡ AtList kind n))
    ⊎ (((kind : ListKind) × (p : ℕ) × (p < length (of_kind r kind).parts) × (linked ≡ BaseOf kind p) × (link ≡ Base kind p))
    ⊎ (((list : ℕ) × (linked ≡ ViewsAt list n) × (link ≡ AtViews list n))
    ⊎ ((linked ≡ Kept n) × (link ≡ KeptPlace n)))))

offset_found : (r : Linkable) (u id name n : ℕ) (link : Link) (found : IsLinkFound r u id name (SectionPlace n) (Some link)) → OffsetFound r n link found.0
offset_found r u id name n link (linked, links, tells) =
    elim (offset_parts r u id n (offset_class name) linked links) [
      | inl (p, inside, is) ↦ inl (p, inside, is, subst (λ (z : Linked). IsLinkOf z link) is tells)
      | inr (inl (kind, is)) ↦ inr (inl (kind, is, subst (λ (z : Linked). IsLinkOf z link) is tells))
      | inr (inr (inl (kind, p, inside, is))) ↦ inr (inr (inl (kind, p, inside, is, subst (λ (z : Linked). IsLinkOf z link) is tells)))
      | inr (inr (inr (inl (list, is)))) ↦ inr (inr (inr (inl (list, is, subst (λ (z : Linked). IsLinkOf z link) is tells))))
      | inr (inr (inr (inr is))) ↦ inr (inr (inr (inr (is, subst (λ (z : Linked). IsLinkOf z link) is tells))))
    ]

pub offset_link : (r : Linkable) (u id name n : ℕ) (link : Link) → IsLinkFound r u id name (SectionPlace n) (Some link) → ((p : ℕ) → link ≡ Lines p → ⊥) → ((kind : ListKind) (m : ℕ) → link ≡ AtList kind m → ⊥) → ((kind : ListKind) (p : ℕ) → link ≡ Base kind p → ⊥) → ((list m : ℕ) → link ≡ AtViews list m → ⊥) → ((m : ℕ) → link ≡ KeptPlace m → ⊥) → ⊥
offset_link r u id name n link found no_lines no_list no_base no_views no_place =
    elim (offset_found r u id name n link found) [
      | inl (p, inside, is, lines) ↦ no_lines p lines
      | inr (inl (kind, is, list)) ↦ no_list kind n list
      | inr (inr (inl (kind, p, inside, is, base))) ↦ no_base kind p base
      | inr (inr (inr (inl (list, is, views)))) ↦ no_views list n views
      | inr (inr (inr (inr (is, kept)))) ↦ no_place n kept
    ]

-- what each link tells
lines_tell : (r : Linkable) (u id name n p : ℕ) (found : IsLinkFound r u id name (SectionPlace n) (Some (Lines p))) → (p < length r.programs) × (found.0 ≡ Program p)
lines_tell r u id name n p found =
    elim (offset_found r u id name n (Lines p) found) [
      | inl (q, inside, is, lines) ↦ (let same : q ≡ p = cc in (subst (λ (z : ℕ). z < length r.programs) same inside, is ∙ ap (λ (z : ℕ). Program z) same))
      | inr (inl (k, is, list)) ↦ absurd (cc)
      | inr (inr (inl (k, q, inside, is, base))) ↦ absurd (cc)
      | inr (inr (inr (inl (l, is, views)))) ↦ absurd (cc)
      | inr (inr (inr (inr (is, kept)))) ↦ absurd (cc)
    ]

list_tells : (r : Linkable) (u id name n m : ℕ) (kind : ListKind) (found : IsLinkFound r u id name (SectionPlace n) (Some (AtList kind m))) → found.0 ≡ ListAt kind n
list_tells r u id name n m kind found =
    elim (offset_found r u id name n (AtList kind m) found) [
      | inl (q, inside, is, lines) ↦ absurd (cc)
      | inr (inl (k, is, list)) ↦ (let same : k ≡ kind = cc in is ∙ ap (λ (z : ListKind). ListAt z n) same)
      | inr (inr (inl (k, q, inside, is, base))) ↦ absurd (cc)
      | inr (inr (inr (inl (l, is, views)))) ↦ absurd (cc)
      | inr (inr (inr (inr (is, kept)))) ↦ absurd (cc)
    ]

base_tells : (r : Linkable) (u id name n p : ℕ) (kind : ListKind) (found : IsLinkFound r u id name (SectionPlace n) (Some (Base kind p))) → (p < length (of_kind r kind).parts) × (found.0 ≡ BaseOf kind p)
base_tells r u id name n p kind found =
    elim (offset_found r u id name n (Base kind p) found) [
      | inl (q, inside, is, lines) ↦ absurd (cc)
      | inr (inl (k, is, list)) ↦ absurd (cc)
      | inr (inr (inl (k, q, inside, is, base))) ↦
          let of : k ≡ kind = cc in
          let same : q ≡ p = cc in
          let own : q < length (of_kind r kind).parts = subst (λ (z : ListKind). q < length (of_kind r z).parts) of inside in
          (subst (λ (z : ℕ). z < length (of_kind r kind).parts) same own, is ∙ ap (λ (z : ListKind). BaseOf z q) of ∙ ap (λ (z : ℕ). BaseOf kind z) same)
      | inr (inr (inr (inl (l, is, views)))) ↦ absurd (cc)
      | inr (inr (inr (inr (is, kept)))) ↦ absurd (cc)
    ]

kept_tells : (r : Linkable) (u id name n m : ℕ) (found : IsLinkFound r u id name (SectionPlace n) (Some (KeptPlace m))) → found.0 ≡ Kept n
kept_tells r u id name n m found =
    elim (offset_found r u id name n (KeptPlace m) found) [
      | inl (q, inside, is, lines) ↦ absurd (cc)
      | inr (inl (k, is, list)) ↦ absurd (cc)
      | inr (inr (inl (k, q, inside, is, base))) ↦ absurd (cc)
      | inr (inr (inr (inl (l, is, views)))) ↦ absurd (cc)
      | inr (inr (inr (inr (is, kept)))) ↦ is
    ]

views_tell : (r : Linkable) (u id name n list m : ℕ) (found : IsLinkFound r u id name (SectionPlace n) (Some (AtViews list m))) → found.0 ≡ ViewsAt list m
views_tell r u id name n list m found =
    elim (offset_found r u id name n (AtViews list m) found) [
      | inl (q, inside, is, lines) ↦ absurd (cc)
      | inr (inl (k, is, at)) ↦ absurd (cc)
      | inr (inr (inl (k, q, inside, is, base))) ↦ absurd (cc)
      | inr (inr (inr (inl (l, is, views)))) ↦
          let same : l ≡ list = cc in
          let place : n ≡ m = cc in
          is ∙ ap (λ (z : ℕ). ViewsAt z n) same ∙ ap (λ (z : ℕ). ViewsAt list z) place
      | inr (inr (inr (inr (is, kept)))) ↦ absurd (cc)
    ]

pub lines_inside : (r : Linkable) (u id name n p : ℕ) → IsLinkFound r u id name (SectionPlace n) (Some (Lines p)) → p < length r.programs
lines_inside r u id name n p found = (lines_tell r u id name n p found).0

pub base_inside : (r : Linkable) (u id name n p : ℕ) (kind : ListKind) → IsLinkFound r u id name (SectionPlace n) (Some (Base kind p)) → p < length (of_kind r kind).parts
base_inside r u id name n p kind found = (base_tells r u id name n p kind found).0

pub list_links : (r : Linkable) (u id name n m : ℕ) (kind : ListKind) → IsLinkFound r u id name (SectionPlace n) (Some (AtList kind m)) → Links r u id name (SectionPlace n) (ListAt kind n)
list_links r u id name n m kind found = subst (λ (z : Linked). Links r u id name (SectionPlace n) z) (list_tells r u id name n m kind found) found.1

pub views_link : (r : Linkable) (u id name n list m : ℕ) → IsLinkFound r u id name (SectionPlace n) (Some (AtViews list m)) → Links r u id name (SectionPlace n) (ViewsAt list m)
views_link r u id name n list m found = subst (λ (z : Linked). Links r u id name (SectionPlace n) z) (views_tell r u id name n list m found) found.1

pub held_programs : (file : List ℕ) (world : World) (r : Reading) → Holds file world r → length world.programs ≡ length r.links.programs
held_programs file world r holds = ap length holds.programs ∙ length-map r.links.programs (λ (p : ProgramRead). p.head)

pub held_parts : (file : List ℕ) (world : World) (r : Reading) (kind : ListKind) → Holds file world r → length (contributions_held world kind) ≡ length (of_kind r.links kind).parts
held_parts file world r kind holds = ap (λ (z : List Contribution). length z) (holds.contributions kind)

-- something of a list that has something
pub some_of : {X : Type 0} (xs : List X) (k : ℕ) → k < length xs → X
some_of [] k inside = absurd (omega arith)
some_of (x ∷ xs) k inside = x

-- view pairs that are held, as they are read
abbrev pub view_read : HeldViews → ViewRead
view_read run = record { list = run.list; at = run.at; pairs = run.pairs }

-- a list that is read began where it was moved from
pub held_list : (file : List ℕ) (world : World) (r : Reading) (kind : ListKind) (places : ListPlaces) (k : ℕ) → Holds file world r → AreListPlaces world kind places → k < length (lists_of r kind) → (k < length places.lists.items) × ((moved_at places.lists.items k).old ≡ (list_at (lists_of r kind) k).at)
held_list file world r kind places k holds are inside =
    let count : length (lists_held world kind) ≡ length (lists_of r kind) = (holds.lists kind).count in
    let size : length places.lists.items ≡ length (lists_held world kind) = are.lists in
    let held : k < length (lists_held world kind) = omega arith in
    let some = some_of (lists_held world kind) k held in
    (omega arith, are.from k some held ∙ ((holds.lists kind).each k some inside).at)

-- view pairs that are read have a new place
pub held_run : (file : List ℕ) (world : World) (r : Reading) (moved : List MovedViews) (k list at : ℕ) → Holds file world r → AreViewPlaces world moved → k < length r.views → (view_at r.views k).list ≡ list → (view_at r.views k).at ≡ at → (new : ℕ) × AreViewsMoved moved list at new
held_run file world r moved k list at holds are inside with here =
    let none : ViewRead = record { list = 0; at = 0; pairs = [] } in
    let count : length r.views ≡ length world.views = ap length holds.views ∙ length-map world.views view_read in
    let held : k < length world.views = subst (λ (z : ℕ). k < z) count inside in
    let some = some_of world.views k held in
    let is : view_at r.views k ≡ view_read (slice_index_or world.views k some) = ap (λ (z : List ViewRead). slice_index_or z k none) holds.views ∙ get_or-map view_read world.views k some none held in
    let size : length moved ≡ length world.views = are.count in
    let (lists, places) = are.each k some held in (
      (moved_views_at moved k).new,
      record {
        number = k;
        inside = omega arith;
        with = lists ∙ sym (ap (λ (z : ViewRead). z.list) is) ∙ with;
        from = places ∙ sym (ap (λ (z : ViewRead). z.at) is) ∙ here;
        to = refl;
      },
    )

-- it fits 32 bits
pub run_fits : (world : World) (moved : List MovedViews) (list at new : ℕ) → AreViewPlaces world moved → AreViewsMoved moved list at new → new < 2 ^ 32
run_fits world moved list at new are is =
    subst (λ (z : ℕ). z < 2 ^ 32) is.to (All-get_or (λ (views : MovedViews). views.new < 2 ^ 32) moved is.number (record { list = 0; old = 0; new = 0 }) is.inside are.fit)

-- a contribution that a section offset names is at its new place
pub part_there : (file : List ℕ) (world : World) (r : Reading) (kind : ListKind) (places : ListPlaces) (u id name n p : ℕ) → Holds file world r → AreListPlaces world kind places → IsLinkFound r.links u id name (SectionPlace n) (Some (Base kind p)) → p < length places.parts.items
part_there file world r kind places u id name n p holds are found =
    let inside : p < length (of_kind r.links kind).parts = base_inside r.links u id name n p kind found in
    let count : length (contributions_held world kind) ≡ length (of_kind r.links kind).parts = held_parts file world r kind holds in
    let size : length places.parts.items ≡ length (contributions_held world kind) = are.parts in
    omega arith

pub part_read : (parts : List Contribution) (p : ℕ) (part : Contribution) → p < length parts → part ≡ get_or parts p part → part ≡ part_at parts p
part_read parts p part inside is = get_or_read parts p part inside is (record { at = 0; len = 0; slots = 0 })

-- the new number of each
new_offset : (r : Linkable) (u id name n : ℕ) (link : Link) (places : NewPlaces) (new : ℕ) (linked : Linked) (found : IsLinkFound r u id name (SectionPlace n) (Some link)) → found.0 ≡ linked → IsNewOffset places linked new → IsOffsetAnew r places u id name n new
new_offset r u id name n link places new linked found is here = (found.0, found.1, subst (λ (z : Linked). IsNewOffset places z new) (sym is) here)

pub new_lines : (r : Linkable) (u id name n p : ℕ) (places : NewPlaces) (new : ℕ) → p < length places.programs.items → new ≡ slice_index places.programs.items p → IsLinkFound r u id name (SectionPlace n) (Some (Lines p)) → IsOffsetAnew r places u id name n new
new_lines r u id name n p places new inside here found = new_offset r u id name n (Lines p) places new (Program p) found (lines_tell r u id name n p found).1 (inside, here)

pub new_list : (r : Linkable) (u id name n m : ℕ) (kind : ListKind) (places : NewPlaces) (new : ℕ) → IsMovedTo (moved_lists places kind) n new → IsLinkFound r u id name (SectionPlace n) (Some (AtList kind m)) → IsOffsetAnew r places u id name n new
new_list r u id name n m kind places new moved found = new_offset r u id name n (AtList kind m) places new (ListAt kind n) found (list_tells r u id name n m kind found) moved

pub new_base : (r : Linkable) (u id name n p : ℕ) (kind : ListKind) (places : NewPlaces) (new : ℕ) → p < length (moved_lists places kind).parts.items → new ≡ offsets_at (part_at (moved_lists places kind).parts.items p).at → IsLinkFound r u id name (SectionPlace n) (Some (Base kind p)) → IsOffsetAnew r places u id name n new
new_base r u id name n p kind places new inside here found = new_offset r u id name n (Base kind p) places new (BaseOf kind p) found (base_tells r u id name n p kind found).1 (inside, here)

pub new_views : (r : Linkable) (u id name n list m : ℕ) (places : NewPlaces) (new : ℕ) → AreViewsMoved places.views.items list m new → IsLinkFound r u id name (SectionPlace n) (Some (AtViews list m)) → IsOffsetAnew r places u id name n new
new_views r u id name n list m places new moved found = new_offset r u id name n (AtViews list m) places new (ViewsAt list m) found (views_tell r u id name n list m found) moved

pub new_kept : (r : Linkable) (u id name n m : ℕ) (places : NewPlaces) → IsLinkFound r u id name (SectionPlace n) (Some (KeptPlace m)) → IsOffsetAnew r places u id name n n
new_kept r u id name n m places found = new_offset r u id name n (KeptPlace m) places n (Kept n) found (kept_tells r u id name n m found) refl
