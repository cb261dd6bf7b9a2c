-- The lists of a file that is written anew are read, and mean what the old ones mean.
use Rattle.std.proofs.Common.{◌≡◌, ◌<◌, ◌∙◌, ℕ, List, [], length, get_or, sym, ap, subst, refl}
use Rattle.std.specs.Prelude.{Option, Some, None, slice_index}
use Rattle.std.specs.List.{AllZip, Contains}
use Rattle.std.proofs.lemmas.List.{get_or_default}
use Rattle.std.proofs.lemmas.List.Elements.{Contains-get_or}
use Rattle.dw_base.specs.declared.classes.Classes.{Classes}
use Rattle.form_codec.specs.Forms.{Meaning}
use Rattle.list_model.specs.declared.entry.ListKind.{ListKind}
use Rattle.list_model.specs.Entries.{Entry, AreSaid}
use Rattle.unit_write.specs.declared.places.Places.{Places}
use Rattle.unit_write.specs.Values.{renewed}
use Rattle.loc_lists.specs.declared.views.ViewPair.{ViewPair}
use Rattle.value_links.specs.Reading.{ListRead, ViewRead, Reading, of_kind, lists_of, unit_at, view_at}
use Rattle.value_links.specs.ListPlaces.{SlotNames}
use Rattle.value_links.specs.Linked.{Linked, IsLinked}
use Rattle.value_links.specs.Linked.Linked.{Itself, Operates, Refers, Program, ListAt, SlotAt, BaseOf, ViewsAt, Kept}
use Rattle.value_links.specs.Operations.{LinksExpression}
use Rattle.value_links.specs.Lists.{IsNamedIn, IsOwner, AreLookedUp, AreListsOf, owner_unit, expressions_at}
use Rattle.value_links.specs.Resolved.{Content, ListMeaning, MeansContent, MeansList, Resolved, ResolvesLink, Resolves}
use Rattle.value_links.specs.Resolved.Content.{Items, Entries}
use Rattle.value_links.specs.Debug.{PartMeaning, MeansSlot, MeansPart, MeanParts}
use Rattle.written_files.specs.TidyLists.{IsFilled, AreTidyLists}
use Rattle.value_links.specs.World.{World}
use Rattle.rewriter.specs.declared.tables.NewTable.{NewTable}
use Rattle.rewriter.specs.declared.new_places.NewPlaces.{NewPlaces}
use Rattle.rewriter.specs.inside.Numbers.{IsNewValue}
use Rattle.rewriter.specs.inside.Follows.{AreReadAnew}
use Rattle.rewriter.proofs.MovedLists.{IsLinkMoved, old_at, new_at, new_inside, old_inside, old_once, moved_from, slot_stays, slot_inside, slot_named}
use Rattle.rewriter.proofs.MovedViews.{new_run, run_moves}
use Rattle.rewriter.proofs.MovedLinks.{link_follows}
use Rattle.rewriter.proofs.ListNames.{value_links, was_named, name_stays, name_came, owner_stays}
use Rattle.rewriter.proofs.FrozenLists.{old_list, new_list, anew, gives_stay, frozen_entries, frozen_stays, was_frozen, new_gives}
use Rattle.rewriter.proofs.ListExpressionsAnew.{expressions_mean, expressions_read, expressions_short}

abbrev no_run : ViewRead
no_run = record { list = 0; at = 0; pairs = [] }

abbrev no_list : ListRead
no_list = record { at = 0; part = 0; raws = [] }

module _ {classes : Classes} {file : List ℕ} {world : World} {tables : List NewTable} {places : List Places} {new_places : NewPlaces} {info abbrevs : List ℕ} {r s : Reading} (all : AreReadAnew classes file world tables places new_places info abbrevs r s) (kind : ListKind) where
  -- WHAT IS READ

  -- the indexes of each list are looked up
  looked_stays : (k u : ℕ) → k < length (lists_of r kind) → IsNamedIn s.links kind (new_at all kind k) u → AreLookedUp s.links kind u (new_list all kind k)
  looked_stays k u inside named =
      let was = was_named all kind k u inside named in
      let (old, bounds, said, gives) = (all.read.lists kind).looked k u inside was in
      let is = anew all kind k inside in
      (is.entries, bounds, is.said, gives_stay all kind u is.entries bounds (new_gives all kind k u inside was old bounds said gives))

  -- the new lists are those that something names
  pub lists_stay : AreListsOf s.links kind (lists_of s kind)
  lists_stay = record {
    rising = (all.lists kind).rising;
    each = λ k there.
        let inside = old_inside all kind k there in
        let is = anew all kind k inside in
        record { named = name_stays all kind k inside ((all.read.lists kind).each k inside).named; begins = is.begins; read = is.read };
    all = λ at named. (let (k, inside, here) = name_came all kind at named in (k, new_inside all kind k inside, sym here));
    looked = λ k u there named. looked_stays k u (old_inside all kind k there) named;
    expressions = λ k there. expressions_read all kind k (old_inside all kind k there);
    slots = λ p i p_in i_in.
        let (p_known, counted) = slot_inside all kind p i p_in i_in in
        let (k, inside, names) = slot_named all kind p i p_known counted in
        (new_at all kind k, slot_stays all kind p i k inside names);
  }

  -- WHAT LISTS MEAN

  items_stay : (k : ℕ) (inside : k < length (lists_of r kind)) (owner : Option ℕ) (old : List Entry) (content : Content) → IsOwner r.links kind (old_at all kind k) owner → AreSaid kind (old_list all kind k).raws old → MeansContent r.links kind (old_list all kind k) owner old content → MeansContent s.links kind (new_list all kind k) owner (anew all kind k inside).entries content
  items_stay k inside (Some u) old (Items bounds) owned said (live, (gives, fits)) =
      ((λ now. live (was_frozen all kind k inside now)), (gives_stay all kind u (anew all kind k inside).entries bounds (((anew all kind k inside).same old said).live live u bounds owned gives), fits))
  items_stay k inside None old (Items bounds) owned said (live, none) = absurd none
  items_stay k inside owner old (Entries kept) owned said (frozen, is) =
      (frozen_stays all kind k inside frozen, is ∙ sym (frozen_entries all kind k inside old said frozen))

  -- the list at a place is one of those that are read
  pub record IsOldList (at : ℕ) (list : ListRead) (k : ℕ) : Type 0 where
    pub inside : k < length (lists_of r kind)
    pub here : at ≡ old_at all kind k
    pub is : list ≡ old_list all kind k

  old_list_at : (at : ℕ) (list : ListRead) → Contains (lists_of r kind) list → list.at ≡ at → (k : ℕ) × IsOldList at list k
  old_list_at at list (k, inside, is) here =
      let same : list ≡ old_list all kind k = sym (get_or_default (lists_of r kind) k no_list list inside ∙ is) in
      (k, record { inside = inside; here = sym here ∙ ap (λ (z : ListRead). z.at) same; is = same })

  -- a list means what it meant
  pub record MeansNow (at : ℕ) (meaning : ListMeaning) : Type 0 where
    pub k : ℕ
    pub inside : k < length (lists_of r kind)
    pub here : at ≡ old_at all kind k
    pub means : MeansList s kind (new_at all kind k) meaning

  pub means_now : (at : ℕ) (meaning : ListMeaning) → MeansList r kind at meaning → MeansNow at meaning
  means_now at meaning m =
      let (k, list) = old_list_at at m.list m.one m.here in
      let owned : IsOwner r.links kind (old_at all kind k) m.owner = subst (λ (z : ℕ). IsOwner r.links kind z m.owner) list.here m.owned in
      let said : AreSaid kind (old_list all kind k).raws m.entries = subst (λ (z : ListRead). AreSaid kind z.raws m.entries) list.is m.said in
      let content : MeansContent r.links kind (old_list all kind k) m.owner m.entries meaning.content = subst (λ (z : ListRead). MeansContent r.links kind z m.owner m.entries meaning.content) list.is m.content in
      let expressions : AllZip (LinksExpression r.links (owner_unit r.links m.owner)) (expressions_at r.links kind (old_list all kind k)) meaning.expressions = subst (λ (z : ListRead). AllZip (LinksExpression r.links (owner_unit r.links m.owner)) (expressions_at r.links kind z) meaning.expressions) list.is m.expressions in
      record {
        k = k;
        inside = list.inside;
        here = list.here;
        means = record {
          list = new_list all kind k;
          one = (k, new_inside all kind k list.inside, get_or_default (lists_of s kind) k (new_list all kind k) no_list (new_inside all kind k list.inside));
          here = refl;
          owner = m.owner;
          owned = owner_stays all kind k m.owner list.inside owned;
          entries = (anew all kind k list.inside).entries;
          said = (anew all kind k list.inside).said;
          same = m.same;
          content = items_stay k list.inside m.owner m.entries meaning.content owned said content;
          expressions = expressions_mean all kind k list.inside m.owner meaning.expressions owned expressions;
        };
      }

  pub lists_mean : (k : ℕ) (meaning : ListMeaning) → k < length (lists_of r kind) → MeansList r kind (old_at all kind k) meaning → MeansList s kind (new_at all kind k) meaning
  lists_mean k meaning inside m =
      let now = means_now (old_at all kind k) meaning m in
      subst (λ (z : ℕ). MeansList s kind (new_at all kind z) meaning) (sym (old_once all kind k now.k inside now.inside now.here)) now.means

  -- SLOTS

  slot_means : (p i : ℕ) (meaning : ListMeaning) → MeansSlot r kind p i meaning → MeansSlot s kind p i meaning
  slot_means p i meaning (at, names, means) =
      let now = means_now at meaning means in
      (new_at all kind now.k, slot_stays all kind p i now.k now.inside (subst (SlotNames (of_kind r.links kind) p i) now.here names), now.means)

  pub parts_follow : (parts : List PartMeaning) → MeanParts r kind parts → MeanParts s kind parts
  parts_follow parts m = record {
    count = m.count ∙ sym (all.lists kind).parts;
    each = λ p d there.
        let part : MeansPart r kind p (get_or parts p d) = m.each p d there in
        record {
          count = part.count ∙ sym ((all.lists kind).slots p (subst (λ (z : ℕ). p < z) m.count there));
          each = λ i e i_in. slot_means p i (get_or (get_or parts p d).slots i e) (part.each i e i_in);
        };
  }

  -- WHAT THE SECTION HOLDS

  -- a value that names a list names it at its new place
  value_tidy : (u number k : ℕ) → u < length r.links.units → k < length (lists_of r kind) → IsLinked r.links u number (ListAt kind (old_at all kind k)) → IsLinked s.links u number (ListAt kind (new_at all kind k))
  value_tidy u number k inside known is =
      let (now, (m, moves, e), links) = value_links all u number (ListAt kind (old_at all kind k)) inside is in
      let place : m ≡ new_at all kind k = moved_from all kind k (old_at all kind k) m known moves refl in
      subst (IsLinked s.links u number) (e ∙ ap (λ (z : ℕ). ListAt kind z) place) links

  pub tidy_lists : ((p : ℕ) → p < length (of_kind s.links kind).parts → IsFilled kind s p) → AreTidyLists kind r s
  tidy_lists filled = record {
    parts = (all.lists kind).parts;
    slots = (all.lists kind).slots;
    lists = (all.lists kind).count;
    part = λ k inside. (anew all kind k inside).part;
    values = value_tidy;
    named = (all.lists kind).named;
    expressions = expressions_short all kind;
    filled = filled;
  }

module _ {classes : Classes} {file : List ℕ} {world : World} {tables : List NewTable} {places : List Places} {new_places : NewPlaces} {info abbrevs : List ℕ} {r s : Reading} (all : AreReadAnew classes file world tables places new_places info abbrevs r s) where
  -- VALUES

  same_link : (linked now : Linked) (v : Resolved) → now ≡ linked → ResolvesLink s linked v → ResolvesLink s now v
  same_link linked now v e means = subst (λ (z : Linked). ResolvesLink s z v) (sym e) means

  -- view pairs of the file are among the new ones
  old_run_at : (run : ViewRead) → Contains r.views run → (k : ℕ) × (k < length r.views) × (run ≡ view_at r.views k)
  old_run_at run (k, inside, is) = (k, inside, sym (get_or_default r.views k no_run run inside ∙ is))

  new_among : (k : ℕ) (pairs : List ViewPair) → k < length r.views → pairs ≡ (view_at r.views k).pairs → Contains s.views (record { list = (new_run all k).list; at = (new_run all k).at; pairs = pairs })
  new_among k pairs inside same =
      let here : Contains s.views (new_run all k) = Contains-get_or s.views (slice_index all.views.numbers k) no_run (all.views.inside k inside) in
      let own : (new_run all k).pairs ≡ pairs = (all.views.each k inside).pairs ∙ sym same in
      subst (λ (z : List ViewPair). Contains s.views (record { list = (new_run all k).list; at = (new_run all k).at; pairs = z })) own here

  -- what a value refers to means what it meant
  link_means : (linked now : Linked) (v : Resolved) → IsLinkMoved new_places linked now → ResolvesLink r linked v → ResolvesLink s now v
  link_means (ListAt kind n) now v (m, moves, e) (meaning, means, is) =
      let list = means_now all kind n meaning means in
      let place : m ≡ new_at all kind list.k = moved_from all kind list.k n m list.inside moves list.here in
      same_link (ListAt kind m) now v e (meaning, subst (λ (z : ℕ). MeansList s kind z meaning) (sym place) list.means, is)
  link_means (SlotAt kind p i) now v e (at, meaning, names, means, is) =
      let list = means_now all kind at meaning means in
      same_link (SlotAt kind p i) now v e (new_at all kind list.k, meaning, slot_stays all kind p i list.k list.inside (subst (SlotNames (of_kind r.links kind) p i) list.here names), list.means, is)
  link_means (Itself meaning) now v e means = same_link (Itself meaning) now v e means
  link_means (Operates operations) now v e means = same_link (Operates operations) now v e means
  link_means (Refers unit target) now v e means = same_link (Refers unit target) now v e means
  link_means (Program p) now v e means = same_link (Program p) now v e means
  link_means (BaseOf kind p) now v e means = same_link (BaseOf kind p) now v e means
  link_means (ViewsAt list n) now v moves (pairs, among, is) =
      let run : ViewRead = record { list = list; at = n; pairs = pairs } in
      let (k, inside, same) = old_run_at run among in
      let moved = subst (λ (z : ViewRead). IsLinkMoved new_places (ViewsAt z.list z.at) now) same moves in
      same_link (ViewsAt (new_run all k).list (new_run all k).at) now v (run_moves all k now inside moved) (pairs, new_among k pairs inside (ap (λ (z : ViewRead). z.pairs) same), is)
  link_means (Kept n) now v e means = same_link (Kept n) now v e means

  pub value_follows : (u id name : ℕ) (meaning : Meaning) (new : ℕ) (made : List ℕ) (v : Resolved) → u < length r.links.units → id < length (unit_at r.links u).forest.entries → IsNewValue r.links places new_places u id name meaning new made → Resolves r u id name meaning v → Resolves s u id name (renewed new made meaning) v
  value_follows u id name meaning new made v inside known is means =
      let (now, moves, links) = link_follows all u id name meaning new made means.linked inside known is means.links in
      record { linked = now; links = links; resolves = link_means means.linked now v moves means.resolves }
