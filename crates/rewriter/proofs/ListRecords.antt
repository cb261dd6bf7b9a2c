-- The potentials that are recorded for the lists of a file are those of the lists that are written anew for it: these give what the
-- old ones give, and their bytes are the shortest of the same class.
use Rattle.std.proofs.Common.{◌≡◌, ◌<◌, ◌∙◌, ℕ, List, [], length, inl, inr, sym, ap, refl, subst}
use Rattle.std.specs.Prelude.{Some}
use Rattle.dw_base.specs.declared.classes.Classes.{Classes}
use Rattle.list_model.specs.declared.context.Context.{Context}
use Rattle.list_model.specs.declared.entry.ListKind.{ListKind}
use Rattle.list_model.specs.declared.entry.ListKind.TheVariants.{Ranges, Locations}
use Rattle.list_model.specs.declared.entry.RawEntry.{RawEntry}
use Rattle.list_model.specs.Entries.{Entry, AreSaid, SpellsList}
use Rattle.list_model.specs.Items.{Bounds}
use Rattle.list_model.specs.Potentials.{AcceptsList}
use Rattle.list_model.proofs.EntryLaws.{entries_once, entries_apart, entries_whole, ends_whole}
use Rattle.list_model.proofs.WalkLaws.{one_saying}
use Rattle.loc_lists.specs.Locations.{entries_of}
use Rattle.loc_lists.proofs.LocationLaws.{locations_once}
use Rattle.unit_write.specs.declared.places.Places.{Places}
use Rattle.written_files.specs.Certificates.{IsListWithout, ArePotentialsFor, HavePotentials, AreGreatestOf}
use Rattle.written_files.specs.Classes.{AreBare}
use Rattle.written_files.specs.Layouts.{AreNumbersOf}
use Rattle.written_files.specs.Kept.{IsKept}
use Rattle.value_links.specs.Reading.{Reading, lists_of, list_at, context_at}
use Rattle.written_files.specs.TidyLists.{IsWhole}
use Rattle.value_links.specs.World.{World}
use Rattle.rewriter.specs.declared.tables.NewTable.{NewTable}
use Rattle.rewriter.specs.declared.new_places.NewPlaces.{NewPlaces}
use Rattle.rewriter.specs.inside.Follows.{AreReadAnew}
use Rattle.rewriter.specs.inside.Lists.{IsRecordedFor, AreListsRecorded}
use Rattle.rewriter.proofs.ApartLaws.{apart_any, apart_spelled}
use Rattle.rewriter.proofs.FrozenLists.{old_list, new_list, are_told, anew, owner_of, gives_stay, new_gives, frozen_stays, was_frozen}
use Rattle.rewriter.proofs.ListNames.{owner_stays, same_context}
use Rattle.rewriter.proofs.RecordedLists.{numbers_for, zip_for}

-- the bytes of a list without its expressions are those of the entries that are read of it
is_without : (kind : ListKind) (raws : List RawEntry) (entries : List Entry) (bytes bare : List ℕ) → AreSaid kind raws entries → IsWhole kind raws bytes → AreBare kind bytes bare → IsListWithout kind entries bytes bare
is_without Ranges raws entries bytes bare said (own, own_said, spelled) same =
    (subst (λ (z : List Entry). SpellsList Ranges z bytes) (one_saying Ranges raws own entries own_said said) spelled, same)
is_without Locations raws entries bytes bare said (own, own_bare, own_said, own_apart) (found, apart) =
    let spelled = apart_spelled own bytes own_bare (apart_any own bytes own_bare own_apart) in
    let once = locations_once entries_once entries_apart entries_whole ends_whole own found bytes bytes [] [] spelled (apart_spelled found bytes bare apart) refl in
    let same : entries_of found ≡ entries = ap (λ (z : List (Entry × List ℕ)). entries_of z) (sym once.1) ∙ one_saying Locations raws (entries_of own) entries own_said said in
    (found, same, apart)

-- what is judged in one way is judged in a weaker one
judged_weaker : (Judge Weaker : List ℕ → Context → List Bounds → List ℕ → ℕ → Type 0) → ((addresses : List ℕ) (context : Context) (bounds : List Bounds) (potentials : List ℕ) (size : ℕ) → Judge addresses context bounds potentials size → Weaker addresses context bounds potentials size) → (kind : ListKind) (s : Reading) → ((k : ℕ) (potentials : List ℕ) → ArePotentialsFor Judge kind s k potentials → ArePotentialsFor Weaker kind s k potentials)
judged_weaker Judge Weaker weaker kind s k potentials are = record {
  u = are.u;
  owner = are.owner;
  entries = are.entries;
  said = are.said;
  bounds = are.bounds;
  gives = are.gives;
  bare = are.bare;
  stands = are.stands;
  judged = weaker s.links.addresses (context_at s.links are.u) are.bounds potentials (length are.bare) are.judged;
}

module _ {classes : Classes} {file : List ℕ} {world : World} {tables : List NewTable} {places : List Places} {new_places : NewPlaces} {info abbrevs : List ℕ} {r s : Reading} (all : AreReadAnew classes file world tables places new_places info abbrevs r s) (kind : ListKind) where
  abbrev IsFree : ℕ → Type 0
  IsFree k = ¬ IsKept classes r.links kind (old_list all kind k)

  -- the potentials of a list are those of the list that is written for it
  greatest_for : (k : ℕ) (potentials : List ℕ) → (k < length (lists_of r kind)) × IsFree k → IsRecordedFor classes r kind (old_list all kind k) potentials → ArePotentialsFor AreGreatestOf kind s k potentials
  greatest_for k potentials (inside, free) is =
      let told = are_told all kind k inside in
      let (u, owned) = owner_of all kind k inside (λ frozen. free (inr frozen)) told.owner told.owned in
      let (old, bounds, said, gives) = (all.read.lists kind).looked k u inside owned.0 in
      let new = anew all kind k inside in
      let now = new_gives all kind k u inside owned.0 old bounds said gives in
      let judged : AreGreatestOf r.links.addresses (context_at r.links u) bounds potentials is.size = is.accepted u old bounds owned said gives in
      let sized : is.size ≡ length new.bare = sym (is.sized new.bare new.least) in
      let here : AreGreatestOf r.links.addresses (context_at s.links u) bounds potentials is.size = subst (λ (z : Context). AreGreatestOf r.links.addresses z bounds potentials is.size) (sym (same_context all u)) judged in
      let there : AreGreatestOf s.links.addresses (context_at s.links u) bounds potentials is.size = subst (λ (z : List ℕ). AreGreatestOf z (context_at s.links u) bounds potentials is.size) (sym all.addresses) here in
      record {
        u = u;
        owner = owner_stays all kind k (Some u) inside owned;
        entries = new.entries;
        said = new.said;
        bounds = bounds;
        gives = gives_stay all kind u new.entries bounds now;
        bare = new.bare;
        stands = record { bytes = new.bytes; rest = new.rest; stands = new.stands; without = is_without kind (new_list all kind k).raws new.entries new.bytes new.bare new.said new.whole new.without };
        judged = subst (λ (z : ℕ). AreGreatestOf s.links.addresses (context_at s.links u) bounds potentials z) sized there;
      }

  module _ (records : List ℕ) (recorded : AreListsRecorded classes r kind records) where
    -- the lists that aren't kept are those that weren't
    still_free : (k : ℕ) → k < length (lists_of r kind) → IsFree k → ¬ IsKept classes s.links kind (list_at (lists_of s kind) k)
    still_free k inside free now = elim now [
      | inl lists ↦ free (inl lists)
      | inr frozen ↦ free (inr (was_frozen all kind k inside frozen))
    ]

    was_free : (k : ℕ) → k < length (lists_of r kind) → (¬ IsKept classes s.links kind (list_at (lists_of s kind) k)) → IsFree k
    was_free k inside free was = elim was [
      | inl lists ↦ free (inl lists)
      | inr frozen ↦ free (inr (frozen_stays all kind k inside frozen))
    ]

    free_numbers : AreNumbersOf (λ (k : ℕ). ¬ IsKept classes s.links kind (list_at (lists_of s kind) k)) (length (lists_of s kind)) recorded.numbers
    free_numbers =
        numbers_for IsFree (λ (k : ℕ). ¬ IsKept classes s.links kind (list_at (lists_of s kind) k)) (length (lists_of r kind)) (length (lists_of s kind)) (sym (all.lists kind).count)
        still_free
        was_free
        recorded.numbers recorded.live

    judged_as : (Judge : List ℕ → Context → List Bounds → List ℕ → ℕ → Type 0) → ((k : ℕ) (potentials : List ℕ) → ArePotentialsFor AreGreatestOf kind s k potentials → ArePotentialsFor Judge kind s k potentials) → HavePotentials classes Judge kind s recorded.potentials
    judged_as Judge weaker = (
      recorded.numbers,
      free_numbers,
      zip_for (λ (k : ℕ). (k < length (lists_of r kind)) × IsFree k) (λ (k : ℕ) (each : List ℕ). IsRecordedFor classes r kind (list_at (lists_of r kind) k) each) (ArePotentialsFor Judge kind s) (λ k each known is. weaker k each (greatest_for k each known is)) recorded.numbers recorded.potentials recorded.live.those recorded.recorded,
    )

    -- they are accepted for the written file
    pub potentials_accepted : HavePotentials classes AcceptsList kind s recorded.potentials
    potentials_accepted = judged_as AcceptsList (judged_weaker AreGreatestOf AcceptsList (λ addresses context bounds potentials size judged. judged.0) kind s)

    -- and the greatest that are
    pub potentials_greatest : HavePotentials classes AreGreatestOf kind s recorded.potentials
    potentials_greatest = judged_as AreGreatestOf (λ k potentials are. are)
