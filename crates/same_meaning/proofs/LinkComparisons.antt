-- When two links tell the same.
use Rattle.std.proofs.Common.{◌≡◌, ◌≢◌, ◌<◌, ◌∙◌, inl, inr, ℕ, List, [], length, get_or, sym, ap, subst, refl, arith}
use Rattle.std.specs.Prelude.{Option, Some, None, ◌↔◌, ◌⊎◌, Bool, IsTrue, Result, Ok, Err, IfOk}
use Rattle.std.specs.List.{Contains}
use Rattle.std.proofs.lemmas.Bool.{cases_lt}
use Rattle.std.proofs.lemmas.List.{get_or-map, get_or_default, length-map}
use Rattle.form_codec.specs.Forms.{Meaning}
use Rattle.list_model.specs.declared.entry.ListKind.{ListKind}
use Rattle.loc_lists.specs.declared.views.ViewPair.{ViewPair}
use Rattle.value_links.specs.Reading.{ViewRead, Reading, lists_of, of_kind, list_at, view_at}
use Rattle.value_links.specs.ListPlaces.{IsSlot, SlotNames}
use Rattle.value_links.specs.Lists.{AreViewsApart}
use Rattle.value_links.specs.Resolved.{Resolved, ListMeaning, MeansList}
use Rattle.value_links.specs.Resolved.Resolved.{Itself, Operates, Refers, Program, AList, Indexed, PartOf, Pairs, Kept}
use Rattle.value_links.specs.Whole.{IsReading}
use Rattle.value_links.specs.declared.link.Link.{Link}
use Rattle.value_links.specs.declared.link.Link.TheVariants.{Plain, Place, Lines, List as AtList, Slot, Base, Views, Kept as KeptPlace}
use Rattle.list_arena.specs.Held.{HeldViews, ViewsRise}
use Rattle.value_links.specs.World.{World, Holds}
use Rattle.same_meaning.specs.inside.Compared.{IsSomeWorld, OfBoth, MeanOne, HasListAt}
use Rattle.same_meaning.specs.inside.Values.{MeansLink, TellSame, HoldsPairs}
use Rattle.same_meaning.proofs.ReadUnits.{some_reading}
use Rattle.same_meaning.proofs.LinkMeanings.{list_there}

abbrev pub BothTell : Reading → Meaning → Link → Reading → Meaning → Link → Type 0
BothTell r m first s n second = MeanOne (MeansLink r m first) (MeansLink s n second)

-- OTHER KINDS OF LINKS

abbrev meant_as : Resolved → ℕ
meant_as (Itself meaning) = 0
meant_as (Operates operations) = 0
meant_as (Refers unit target) = 1
meant_as (Program p) = 2
meant_as (AList list) = 3
meant_as (Indexed i list) = 4
meant_as (PartOf kind p) = 5
meant_as (Pairs pairs) = 6
meant_as (Kept n) = 7

abbrev linked_as : Link → ℕ
linked_as Plain = 0
linked_as (Place unit target) = 1
linked_as (Lines p) = 2
linked_as (AtList kind at) = 3
linked_as (Slot kind p i) = 4
linked_as (Base kind p) = 5
linked_as (Views list at) = 6
linked_as (KeptPlace n) = 7

meant_linked : (r : Reading) (m : Meaning) (link : Link) (v : Resolved) → MeansLink r m link v → meant_as v ≡ linked_as link
meant_linked r m Plain v e = ap meant_as e
meant_linked r m (Place unit target) v e = ap meant_as e
meant_linked r m (Lines p) v e = ap meant_as e
meant_linked r m (AtList kind at) v (list, means, e) = ap meant_as e
meant_linked r m (Slot kind p i) v (list, means, e) = ap meant_as e
meant_linked r m (Base kind p) v e = ap meant_as e
meant_linked r m (Views list at) v (pairs, has, e) = ap meant_as e
meant_linked r m (KeptPlace n) v e = ap meant_as e

linked_alike : (r s : Reading) (m n : Meaning) (first second : Link) → BothTell r m first s n second → linked_as first ≡ linked_as second
linked_alike r s m n first second (v, one, two) = sym (meant_linked r m first v one) ∙ meant_linked s n second v two

as_plain : (link : Link) → link ≢ Plain → 0 ≡ linked_as link → ⊥
as_plain Plain none e = none refl
as_plain link none e = absurd (omega (arith, e))

as_list : (link : Link) → ((kind : ListKind) (at : ℕ) → link ≡ AtList kind at → ⊥) → 3 ≡ linked_as link → ⊥
as_list (AtList kind at) none e = none kind at refl
as_list link none e = absurd (omega (arith, e))

as_slot : (link : Link) → ((kind : ListKind) (p i : ℕ) → link ≡ Slot kind p i → ⊥) → 4 ≡ linked_as link → ⊥
as_slot (Slot kind p i) none e = none kind p i refl
as_slot link none e = absurd (omega (arith, e))

as_views : (link : Link) → ((list at : ℕ) → link ≡ Views list at → ⊥) → 6 ≡ linked_as link → ⊥
as_views (Views list at) none e = none list at refl
as_views link none e = absurd (omega (arith, e))

pub other_plain : (r s : Reading) (m n : Meaning) (second : Link) → second ≢ Plain → BothTell r m Plain s n second → ⊥
other_plain r s m n second none both = as_plain second none (linked_alike r s m n Plain second both)

pub other_list : (r s : Reading) (m n : Meaning) (kind : ListKind) (at : ℕ) (second : Link) → ((of : ListKind) (n : ℕ) → second ≡ AtList of n → ⊥) → BothTell r m (AtList kind at) s n second → ⊥
other_list r s m n kind at second none both = as_list second none (linked_alike r s m n (AtList kind at) second both)

pub other_slot : (r s : Reading) (m n : Meaning) (kind : ListKind) (p i : ℕ) (second : Link) → ((of : ListKind) (q j : ℕ) → second ≡ Slot of q j → ⊥) → BothTell r m (Slot kind p i) s n second → ⊥
other_slot r s m n kind p i second none both = as_slot second none (linked_alike r s m n (Slot kind p i) second both)

pub other_views : (r s : Reading) (m n : Meaning) (list at : ℕ) (second : Link) → ((l k : ℕ) → second ≡ Views l k → ⊥) → BothTell r m (Views list at) s n second → ⊥
other_views r s m n list at second none both = as_views second none (linked_alike r s m n (Views list at) second both)

-- LINKS THAT TELL ALL

-- the value itself
pub same_plain : (r s : Reading) (m n : Meaning) → (m ≡ n) ↔ BothTell r m Plain s n Plain
same_plain r s m n = (λ e. (Itself m, refl, ap (λ (z : Meaning). Itself z) e), λ (v, one, two). cc)

-- what else says all that it means
abbrev direct : Link → Option Link
direct (Place unit target) = Some (Place unit target)
direct (Lines p) = Some (Lines p)
direct (Base kind p) = Some (Base kind p)
direct (KeptPlace n) = Some (KeptPlace n)
direct link = None

abbrev told_by : Resolved → Option Link
told_by (Refers unit target) = Some (Place unit target)
told_by (Program p) = Some (Lines p)
told_by (PartOf kind p) = Some (Base kind p)
told_by (Kept n) = Some (KeptPlace n)
told_by v = None

means_direct : (r : Reading) (m : Meaning) (link : Link) (v : Resolved) → MeansLink r m link v → told_by v ≡ direct link
means_direct r m Plain v e = ap told_by e
means_direct r m (Place unit target) v e = ap told_by e
means_direct r m (Lines p) v e = ap told_by e
means_direct r m (AtList kind at) v (list, means, e) = ap told_by e
means_direct r m (Slot kind p i) v (list, means, e) = ap told_by e
means_direct r m (Base kind p) v e = ap told_by e
means_direct r m (Views list at) v (pairs, has, e) = ap told_by e
means_direct r m (KeptPlace n) v e = ap told_by e

direct_is : (first second : Link) → direct second ≡ Some first → first ≡ second
direct_is first Plain e = absurd (cc)
direct_is first (Place unit target) e = cc
direct_is first (Lines p) e = cc
direct_is first (AtList kind at) e = absurd (cc)
direct_is first (Slot kind p i) e = absurd (cc)
direct_is first (Base kind p) e = cc
direct_is first (Views list at) e = absurd (cc)
direct_is first (KeptPlace n) e = cc

-- it is no value itself, and names no list, no slot and no view pairs
pub record IsDirect (link : Link) : Type 0 where
  pub plain : link ≢ Plain
  pub list : (kind : ListKind) (at : ℕ) → link ≡ AtList kind at → ⊥
  pub slot : (kind : ListKind) (p i : ℕ) → link ≡ Slot kind p i → ⊥
  pub views : (list at : ℕ) → link ≡ Views list at → ⊥

direct_means : (link : Link) → IsDirect link → (direct link ≡ Some link) × ((v : Resolved) × ((r : Reading) (m : Meaning) → MeansLink r m link v))
direct_means Plain is = absurd (is.plain refl)
direct_means (Place unit target) is = (refl, (Refers unit target, λ r m. refl))
direct_means (Lines p) is = (refl, (Program p, λ r m. refl))
direct_means (AtList kind at) is = absurd (is.list kind at refl)
direct_means (Slot kind p i) is = absurd (is.slot kind p i refl)
direct_means (Base kind p) is = (refl, (PartOf kind p, λ r m. refl))
direct_means (Views list at) is = absurd (is.views list at refl)
direct_means (KeptPlace n) is = (refl, (Kept n, λ r m. refl))

pub same_direct : (r s : Reading) (m n : Meaning) (first second : Link) → IsDirect first → (first ≡ second) ↔ BothTell r m first s n second
same_direct r s m n first second is =
    let (all, (v, means)) = direct_means first is in (
      λ e. (v, means r m, subst (λ (z : Link). MeansLink s n z v) e (means s n)),
      λ (w, one, two). direct_is first second (sym (means_direct s n second w two) ∙ means_direct r m first w one ∙ all),
    )

-- LISTS

pub same_lists : (r s : Reading) (m n : Meaning) (kind : ListKind) (a b : ℕ) → MeanOne (MeansList r kind a) (MeansList s kind b) ↔ BothTell r m (AtList kind a) s n (AtList kind b)
same_lists r s m n kind a b = (
  λ (list, one, two). (AList list, (list, one, refl), (list, two, refl)),
  λ (v, (list, one, e), (other, two, f)). (let same : other ≡ list = cc in (list, one, subst (MeansList s kind b) same two)),
)

pub other_kind : (r s : Reading) (m n : Meaning) (kind of : ListKind) (a b : ℕ) → of ≢ kind → BothTell r m (AtList kind a) s n (AtList of b) → ⊥
other_kind r s m n kind of a b none (v, (list, one, e), (other, two, f)) =
    let same : other ≡ list = cc in
    none (sym two.same ∙ ap (λ (z : ListMeaning). z.kind) same ∙ one.same)

-- what a slot tells is one place
slot_means : (r : Reading) (kind : ListKind) (p i at : ℕ) (list : ListMeaning) (place : ℕ) → IsSlot (of_kind r.links kind) p i at → SlotNames (of_kind r.links kind) p i place → MeansList r kind place list → MeansList r kind at list
slot_means r kind p i at list place slot named means =
    subst (λ (z : ℕ). MeansList r kind z list) (named.0.tells ∙ sym slot.tells) means

slot_names : (file : List ℕ) (r : Reading) (kind : ListKind) (p i at : ℕ) → IsReading file r → IsSlot (of_kind r.links kind) p i at → SlotNames (of_kind r.links kind) p i at
slot_names file r kind p i at read slot =
    let (place, named) = (read.lists kind).slots p i slot.known slot.counted in
    subst (SlotNames (of_kind r.links kind) p i) (named.0.tells ∙ sym slot.tells) named

pub same_slots : (file other : List ℕ) (r s : Reading) (m n : Meaning) (kind : ListKind) (p q i a b : ℕ) → IsReading file r → IsReading other s → IsSlot (of_kind r.links kind) p i a → IsSlot (of_kind s.links kind) q i b → MeanOne (MeansList r kind a) (MeansList s kind b) ↔ BothTell r m (Slot kind p i) s n (Slot kind q i)
same_slots file other r s m n kind p q i a b read also slot tells = (
  λ (list, one, two). (Indexed i list, (list, (a, slot_names file r kind p i a read slot, one), refl), (list, (b, slot_names other s kind q i b also tells, two), refl)),
  λ (v, (list, (at, named, one), e), (more, (place, names, two), f)).
      (let same : more ≡ list = cc in
      (list, slot_means r kind p i a list at slot named one, subst (MeansList s kind b) same (slot_means s kind q i b more place tells names two))),
)

pub other_slot_kind : (r s : Reading) (m n : Meaning) (kind of : ListKind) (p q i j : ℕ) → of ≢ kind → BothTell r m (Slot kind p i) s n (Slot of q j) → ⊥
other_slot_kind r s m n kind of p q i j none (v, (list, (at, named, one), e), (more, (place, names, two), f)) =
    let same : more ≡ list = cc in
    none (sym two.same ∙ ap (λ (z : ListMeaning). z.kind) same ∙ one.same)

pub other_index : (r s : Reading) (m n : Meaning) (kind of : ListKind) (p q i j : ℕ) → j ≢ i → BothTell r m (Slot kind p i) s n (Slot of q j) → ⊥
other_index r s m n kind of p q i j none (v, (list, one, e), (more, two, f)) =
    let same : j ≡ i = cc in
    none same

-- what is read is named by a slot
pub slot_named : (file : List ℕ) (r : Reading) (kind : ListKind) (p i at : ℕ) → IsReading file r → IsSlot (of_kind r.links kind) p i at → (k : ℕ) × (k < length (lists_of r kind)) × ((list_at (lists_of r kind) k).at ≡ at)
slot_named file r kind p i at read slot = (read.lists kind).all at (inr (p, i, slot_names file r kind p i at read slot))

-- VIEW PAIRS

abbrev read_of : HeldViews → ViewRead
read_of run = record { list = run.list; at = run.at; pairs = run.pairs }

module _ (world : World) (r : Reading) (holds : Holds world.image world r) where
  runs_count : length r.views ≡ length world.views
  runs_count = ap length holds.views ∙ length-map world.views read_of

  run_is : (k : ℕ) (d : HeldViews) (e : ViewRead) → k < length world.views → get_or r.views k e ≡ read_of (get_or world.views k d)
  run_is k d e inside = ap (λ (z : List ViewRead). get_or z k e) holds.views ∙ get_or-map read_of world.views k d e inside

  -- runs that are held rise
  pub runs_rise : IsReading world.image r → ViewsRise world.views
  runs_rise read = λ j k d before inside.
      let size : length r.views ≡ length world.views = runs_count in
      let none : ViewRead = record { list = 0; at = 0; pairs = [] } in
      let apart : AreViewsApart (view_at r.views j) (view_at r.views k) = read.views.rising j k before (omega arith) in
      subst (λ (z : ViewRead). AreViewsApart z (read_of (get_or world.views k d))) (run_is j d none (omega arith)) (subst (λ (z : ViewRead). AreViewsApart (view_at r.views j) z) (run_is k d none inside) apart)

  -- and are those that are read
  pub pairs_read : (list at : ℕ) (pairs : List ViewPair) → HoldsPairs world.views list at pairs → Contains r.views (record { list = list; at = at; pairs = pairs })
  pairs_read list at pairs is =
      let size : length r.views ≡ length world.views = runs_count in
      let (k, inside, e) = is.one in
      let run : HeldViews = is.run in
      let whole : ViewRead = record { list = list; at = at; pairs = pairs } in
      let same : read_of run ≡ whole =
      ap (λ (n : ℕ). record { list = n; at = run.at; pairs = run.pairs }) is.with
      ∙ ap (λ (n : ℕ). record { list = list; at = n; pairs = run.pairs }) is.here
      ∙ ap (λ (ps : List ViewPair). record { list = list; at = at; pairs = ps }) (sym is.pairs_are) in
      (k, omega (arith, inside), run_is k run whole inside ∙ ap read_of e ∙ same)

-- runs of one list at one place aren't apart
not_apart : (list at : ℕ) (ps qs : List ViewPair) (a b : ViewRead) → a ≡ record { list = list; at = at; pairs = ps } → b ≡ record { list = list; at = at; pairs = qs } → (AreViewsApart a b ⊎ AreViewsApart b a) → ⊥
not_apart list at ps qs a b x y (inl (inl less)) = omega (arith, ap (λ (z : ViewRead). z.list) x, ap (λ (z : ViewRead). z.list) y, less)
not_apart list at ps qs a b x y (inl (inr (same, less))) = omega (arith, ap (λ (z : ViewRead). z.at) x, ap (λ (z : ViewRead). z.at) y, less)
not_apart list at ps qs a b x y (inr (inl less)) = omega (arith, ap (λ (z : ViewRead). z.list) x, ap (λ (z : ViewRead). z.list) y, less)
not_apart list at ps qs a b x y (inr (inr (same, less))) = omega (arith, ap (λ (z : ViewRead). z.at) x, ap (λ (z : ViewRead). z.at) y, less)

-- no two runs of one list stand at one place
pub pairs_once : (file : List ℕ) (r : Reading) (list at : ℕ) (ps qs : List ViewPair) → IsReading file r → Contains r.views (record { list = list; at = at; pairs = ps }) → Contains r.views (record { list = list; at = at; pairs = qs }) → ps ≡ qs
pairs_once file r list at ps qs read (j, j_in, e) (k, k_in, f) =
    let none : ViewRead = record { list = 0; at = 0; pairs = [] } in
    let first : view_at r.views j ≡ record { list = list; at = at; pairs = ps } = get_or_default r.views j none _ j_in ∙ e in
    let second : view_at r.views k ≡ record { list = list; at = at; pairs = qs } = get_or_default r.views k none _ k_in ∙ f in
    elim (cases_lt j k) [
      | inl less ↦ absurd (not_apart list at ps qs _ _ first second (inl (read.views.rising j k less k_in)))
      | inr more ↦ elim (cases_lt k j) [
        | inl less ↦ absurd (not_apart list at ps qs _ _ first second (inr (read.views.rising k j less j_in)))
        | inr also ↦
            let same : j ≡ k = omega arith in
            ap (λ (z : ViewRead). z.pairs) (sym first ∙ ap (view_at r.views) same ∙ second)
      ]
    ]

-- view pairs are the same where their runs mean the same
pub same_views : (a b : World) (r s : Reading) (m n : Meaning) (list at other place : ℕ) (ps qs : List ViewPair) → IsReading a.image r → Holds a.image a r → IsReading b.image s → Holds b.image b s → HoldsPairs a.views list at ps → HoldsPairs b.views other place qs → (ps ≡ qs) ↔ BothTell r m (Views list at) s n (Views other place)
same_views a b r s m n list at other place ps qs read holds also held one two =
    let first = pairs_read a r holds list at ps one in
    let second = pairs_read b s held other place qs two in (
      λ e. (Pairs ps, (ps, first, refl), (qs, second, ap (λ (z : List ViewPair). Pairs z) e)),
      λ (v, (xs, has, e), (ys, there, f)).
          (let mine : ps ≡ xs = pairs_once a.image r list at ps xs read first has in
          let others : qs ≡ ys = pairs_once b.image s other place qs ys also second there in
          let same : xs ≡ ys = cc in
          mine ∙ same ∙ sym others),
    )

-- WHAT FUNCTIONS ANSWER

pub both_ways : {A B C : Type 0} → A ↔ B → B ↔ C → A ↔ C
both_ways first second = (λ a. second.0 (first.0 a), λ c. first.1 (second.1 c))

pub if_ok : {T E : Type 0} (P Q : T → Type 0) (result : Result T E) → ((x : T) → P x → Q x) → IfOk result P → IfOk result Q
if_ok P Q (Ok x) then is = then x is
if_ok P Q (Err e) then is = tt

pub list_told : (a b : World) (kind : ListKind) (at place : ℕ) (other : Link) (same : Bool) → other ≡ AtList kind place → OfBoth a b (λ r s. IsTrue same ↔ MeanOne (MeansList r kind at) (MeansList s kind place)) → TellSame a b (AtList kind at) other same
list_told a b kind at place other same is all = λ r s read holds also held m n.
    subst (λ (z : Link). IsTrue same ↔ BothTell r m (AtList kind at) s n z) (sym is) (both_ways (all r s read holds also held) (same_lists r s m n kind at place))

-- a world tells the place of a slot
abbrev pub Tells : World → ListKind → ℕ → ℕ → ℕ → Type 0
Tells world kind p i at = (file : List ℕ) (r : Reading) → Holds file world r → IsSlot (of_kind r.links kind) p i at

pub slot_told : (a b : World) (kind : ListKind) (p q i x y : ℕ) (other : Link) (same : Bool) → other ≡ Slot kind q i → Tells a kind p i x → Tells b kind q i y → OfBoth a b (λ r s. IsTrue same ↔ MeanOne (MeansList r kind x) (MeansList s kind y)) → TellSame a b (Slot kind p i) other same
slot_told a b kind p q i x y other same is first second all = λ r s read holds also held m n.
    subst (λ (z : Link). IsTrue same ↔ BothTell r m (Slot kind p i) s n z) (sym is) (both_ways (all r s read holds also held) (same_slots a.image b.image r s m n kind p q i x y read also (first a.image r holds) (second b.image s held)))

-- a list is held that a slot names
pub slot_held : (world : World) → IsSomeWorld world → (kind : ListKind) (p i at : ℕ) → Tells world kind p i at → HasListAt world kind at
slot_held world some kind p i at tells =
    let (r, read, holds) = some_reading world some in
    let (k, inside, here) = slot_named world.image r kind p i at read (tells world.image r holds) in
    list_there world r kind k at holds inside here

pub views_told : (a b : World) (list at other place : ℕ) (link : Link) (ps qs : List ViewPair) (same : Bool) → link ≡ Views other place → HoldsPairs a.views list at ps → HoldsPairs b.views other place qs → IsTrue same ↔ (ps ≡ qs) → TellSame a b (Views list at) link same
views_told a b list at other place link ps qs same is first second equal = λ r s read holds also held m n.
    subst (λ (z : Link). IsTrue same ↔ BothTell r m (Views list at) s n z) (sym is) (both_ways equal (same_views a b r s m n list at other place ps qs read holds also held first second))

pub held_rise : (world : World) → IsSomeWorld world → ViewsRise world.views
held_rise world some = let (r, read, holds) = some_reading world some in runs_rise world r holds read
