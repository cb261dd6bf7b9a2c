-- Each list and each run of view pairs of a file is one of a file that means the same.
use Rattle.std.proofs.Common.{◌≡◌, ◌<◌, ◌⊎◌, ◌∙◌, inl, inr, ℕ, List, [], length, get_or, sym, ap, subst, refl}
use Rattle.std.specs.Prelude.{◌↔◌}
use Rattle.list_model.specs.declared.entry.ListKind.{ListKind}
use Rattle.loc_lists.specs.declared.views.ViewPair.{ViewPair}
use Rattle.value_links.specs.Reading.{Reading, of_kind, lists_of, part_at, list_at, view_at}
use Rattle.value_links.specs.ListPlaces.{SlotNames}
use Rattle.value_links.specs.Linked.{Linked, IsLinked}
use Rattle.value_links.specs.Linked.Linked.{Itself, Operates, Refers, Program, ListAt, SlotAt, BaseOf, ViewsAt, Kept}
use Rattle.value_links.specs.Lists.{LinkNames, IsNamedIn}
use Rattle.value_links.specs.Resolved.{ListMeaning, ResolvesLink}
use Rattle.value_links.specs.Resolved.Resolved.{AList, Pairs}
use Rattle.value_links.specs.Same.{Same}
use Rattle.value_links.specs.Whole.{IsReading}
use Rattle.value_links.specs.Debug.{PartMeaning, Debug, parts_of, MeansPart, MeansDebug}
use Rattle.value_links.proofs.ReadingOnce.{reading_once}
use Rattle.tidy_lists.specs.Followers.{Follows, RunFollows}
use Rattle.tidy_lists.specs.declared.followers.named.Sought.TheVariants.{Lists, Runs}
use Rattle.tidy_lists.specs.inside.NamedNumbers.{ArePairedByValues, ArePairedBySlots}
use Rattle.tidy_lists.proofs.OffsetLinks.{unit_known}
use Rattle.tidy_lists.proofs.SameValues.{IsFollowedBy, value_follows}

-- what means a list is the place of one
list_alike : (s : Reading) (other : Linked) (kind : ListKind) (meaning : ListMeaning) → meaning.kind ≡ kind → ResolvesLink s other (AList meaning) → (at : ℕ) × (other ≡ ListAt kind at)
list_alike s (ListAt of at) kind meaning same (own, means, e) =
    let alike : meaning ≡ own = cc e in
    let kinds : of ≡ kind = sym means.same ∙ ap (λ (z : ListMeaning). z.kind) (sym alike) ∙ same in
    (at, ap (λ (z : ListKind). ListAt z at) kinds)
list_alike s (Itself own) kind meaning same e = absurd (cc e)
list_alike s (Operates operations) kind meaning same e = absurd (cc e)
list_alike s (Refers unit target) kind meaning same e = absurd (cc e)
list_alike s (Program p) kind meaning same e = absurd (cc e)
list_alike s (SlotAt of p i) kind meaning same (at, own, names, means, e) = absurd (cc e)
list_alike s (BaseOf of p) kind meaning same e = absurd (cc e)
list_alike s (ViewsAt list at) kind meaning same (pairs, has, e) = absurd (cc e)
list_alike s (Kept n) kind meaning same e = absurd (cc e)

-- and what means view pairs is the place of some
pairs_alike : (s : Reading) (other : Linked) (pairs : List ViewPair) → ResolvesLink s other (Pairs pairs) → (list : ℕ) × (at : ℕ) × (other ≡ ViewsAt list at)
pairs_alike s (ViewsAt list at) pairs means = (list, at, refl)
pairs_alike s (Itself own) pairs e = absurd (cc e)
pairs_alike s (Operates operations) pairs e = absurd (cc e)
pairs_alike s (Refers unit target) pairs e = absurd (cc e)
pairs_alike s (Program p) pairs e = absurd (cc e)
pairs_alike s (ListAt of at) pairs (own, means, e) = absurd (cc e)
pairs_alike s (SlotAt of p i) pairs (at, own, names, means, e) = absurd (cc e)
pairs_alike s (BaseOf of p) pairs e = absurd (cc e)
pairs_alike s (Kept n) pairs e = absurd (cc e)

-- PAIRS

module _ (file : List ℕ) (r s : Reading) (read : IsReading file r) where
  -- the pairs that values and slots name are those of lists that follow
  pub lists_paired : (kind : ListKind) (k m : ℕ) → (ArePairedByValues (Lists kind) r s k m ⊎ ArePairedBySlots kind r s k m) ↔ Follows kind r s k m
  lists_paired kind k m = (
    λ either. elim either [
      | inl (u, (number, ((known, old), (inside, new)))) ↦ (record {
        known = known;
        inside = inside;
        by = inl (u, number, unit_known file r.links read.links u number (ListAt kind (list_at (lists_of r kind) k).at) old, old, new);
      })
      | inr (p, (i, ((known, old), (inside, new)))) ↦ (record { known = known; inside = inside; by = inr (p, i, old, new) })
    ],
    λ follows. elim follows.by [
      | inl (u, number, unit, old, new) ↦ inl (u, (number, ((follows.known, old), (follows.inside, new))))
      | inr (p, i, old, new) ↦ inr (p, (i, ((follows.known, old), (follows.inside, new))))
    ],
  )

  pub runs_paired : (j n : ℕ) → ArePairedByValues Runs r s j n ↔ RunFollows r s j n
  runs_paired j n = (
    λ (u, (number, ((known, old), (inside, new)))). record {
      known = known;
      inside = inside;
      u = u;
      number = number;
      unit = unit_known file r.links read.links u number (ViewsAt (view_at r.views j).list (view_at r.views j).at) old;
      old = old;
      new = new;
    },
    λ follows. (follows.u, (follows.number, ((follows.known, follows.old), (follows.inside, follows.new)))),
  )

-- EACH HAS ONE

module _ (file written : List ℕ) (r s : Reading) (read : IsReading file r) (also : IsReading written s) (debug : Debug) (means : MeansDebug file r debug) (meant : MeansDebug written s debug) where
  follows : (u number : ℕ) (linked : Linked) → IsLinked r.links u number linked → IsFollowedBy r s u number linked
  follows = value_follows file written r s read also debug means meant

  module _ (kind : ListKind) (k : ℕ) (known : k < length (lists_of r kind)) where
    abbrev place : ℕ
    place = (list_at (lists_of r kind) k).at

    by_value : (u number : ℕ) → IsLinked r.links u number (ListAt kind place) → (m : ℕ) × Follows kind r s k m
    by_value u number links =
        let inside : u < length r.links.units = unit_known file r.links read.links u number (ListAt kind place) links in
        let followed = follows u number (ListAt kind place) links in
        let (meaning, list, is) = followed.first in
        let (at, same) = list_alike s followed.other kind meaning list.same (subst (ResolvesLink s followed.other) is followed.second) in
        let new : IsLinked s.links u number (ListAt kind at) = subst (IsLinked s.links u number) same followed.links in
        let there : u < length s.links.units = unit_known written s.links also.links u number (ListAt kind at) new in
        let named : IsNamedIn s.links kind at u = record { known = there; number = number; linked = ListAt kind at; links = new; names = (refl, refl) } in
        let (m, m_in, here) = (also.lists kind).all at (inl (u, named)) in
        (m, record { known = known; inside = m_in; by = inl (u, number, inside, links, subst (λ (z : ℕ). IsLinked s.links u number (ListAt kind z)) (sym here) new) })

    slots_same : (p : ℕ) → p < length (of_kind r.links kind).parts → (p < length (of_kind s.links kind).parts) × ((part_at (of_kind r.links kind) p).slots ≡ (part_at (of_kind s.links kind) p).slots)
    slots_same p inside =
        let one = means.lists kind in
        let two = meant.lists kind in
        let none : PartMeaning = record { slots = [] } in
        let p_in : p < length (parts_of debug kind) = subst (λ (n : ℕ). p < n) (sym one.count) inside in
        let first : MeansPart r kind p (get_or (parts_of debug kind) p none) = one.each p none p_in in
        let second : MeansPart s kind p (get_or (parts_of debug kind) p none) = two.each p none p_in in
        (subst (λ (n : ℕ). p < n) two.count p_in, sym first.count ∙ second.count)

    by_slot : (p i : ℕ) → SlotNames (of_kind r.links kind) p i place → (m : ℕ) × Follows kind r s k m
    by_slot p i (slot, begins) =
        let (p_in, same) = slots_same p slot.known in
        let (at, names) = (also.lists kind).slots p i p_in (subst (λ (n : ℕ). i < n) same slot.counted) in
        let (m, m_in, here) = (also.lists kind).all at (inr (p, i, names)) in
        (m, record { known = known; inside = m_in; by = inr (p, i, (slot, begins), subst (SlotNames (of_kind s.links kind) p i) (sym here) names) })

    by_link : (u number : ℕ) (linked : Linked) → IsLinked r.links u number linked → LinkNames r.links linked kind place → (m : ℕ) × Follows kind r s k m
    by_link u number (ListAt of n) links (same, here) =
        by_value u number (subst (λ (z : ℕ). IsLinked r.links u number (ListAt kind z)) (sym here) (subst (λ (z : ListKind). IsLinked r.links u number (ListAt z n)) (sym same) links))
    by_link u number (SlotAt of p i) links (same, names) = by_slot p i names
    by_link u number (Itself own) links none = absurd none
    by_link u number (Operates operations) links none = absurd none
    by_link u number (Refers unit target) links none = absurd none
    by_link u number (Program p) links none = absurd none
    by_link u number (BaseOf of p) links none = absurd none
    by_link u number (ViewsAt list at) links none = absurd none
    by_link u number (Kept n) links none = absurd none

    -- a list is named by a value or a slot, and so is the one that it is in the other file
    pub list_follows : (m : ℕ) × Follows kind r s k m
    list_follows = elim ((read.lists kind).each k known).named [
      | inl (u, named) ↦ by_link u named.number named.linked named.links named.names
      | inr (p, i, names) ↦ by_slot p i names
    ]

  -- view pairs are named by a value
  pub run_follows : (j : ℕ) → j < length r.views → (n : ℕ) × RunFollows r s j n
  run_follows j known =
      let (u, number, inside, old) = (read.views.each j known).named in
      let followed = follows u number (ViewsAt (view_at r.views j).list (view_at r.views j).at) old in
      let (pairs, has, is) = followed.first in
      let (list, at, same) = pairs_alike s followed.other pairs (subst (ResolvesLink s followed.other) is followed.second) in
      let new : IsLinked s.links u number (ViewsAt list at) = subst (IsLinked s.links u number) same followed.links in
      let there : u < length s.links.units = unit_known written s.links also.links u number (ViewsAt list at) new in
      let (n, n_in, with, here) = also.views.all list at (u, number, there, new) in
      let placed : IsLinked s.links u number (ViewsAt (view_at s.views n).list (view_at s.views n).at) =
      subst (λ (z : ℕ). IsLinked s.links u number (ViewsAt (view_at s.views n).list z)) (sym here) (subst (λ (z : ℕ). IsLinked s.links u number (ViewsAt z at)) (sym with) new) in
      (n, record { known = known; inside = n_in; u = u; number = number; unit = inside; old = old; new = placed })

-- what both files mean is said of what is read of them
pub record IsMeantByBoth (file written : List ℕ) (r s : Reading) : Type 0 where
  pub debug : Debug
  pub first : MeansDebug file r debug
  pub second : MeansDebug written s debug

pub meant_by_both : (file written : List ℕ) (r s : Reading) → Same file written → IsReading file r → IsReading written s → IsMeantByBoth file written r s
meant_by_both file written r s same read also =
    let (debug, (q, q_read, q_means), (t, t_read, t_means)) = same.debug in
    record {
      debug = debug;
      first = subst (λ (z : Reading). MeansDebug file z debug) (reading_once file q r q_read read) q_means;
      second = subst (λ (z : Reading). MeansDebug written z debug) (reading_once written t s t_read also) t_means;
    }
