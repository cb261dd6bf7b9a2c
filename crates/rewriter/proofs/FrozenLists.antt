-- A list that is written anew is frozen exactly where the old one is.
use Rattle.std.proofs.Common.{◌≡◌, ◌≢◌, ◌<◌, ◌+◌, ◌∙◌, ◌⊎◌, inl, inr, true, false, ℕ, suc, List, [], ◌∷◌, length, get_or, sym, ap, subst, refl}
use Rattle.std.specs.Prelude.{Bool, Option, Some, None, not, filter, if◌then◌else◌}
use Rattle.std.proofs.lemmas.Bool.{cases_eq}
use Rattle.dw_base.specs.declared.classes.Classes.{Classes}
use Rattle.list_model.specs.declared.context.Context.{Context}
use Rattle.list_model.specs.declared.tables.AddrTable.{AddrTable}
use Rattle.list_model.specs.declared.entry.EntryKind.{EntryKind}
use Rattle.list_model.specs.declared.entry.EntryKind.TheVariants.{BaseAddressx, StartxEndx, StartxLength, OffsetPair, DefaultLocation, BaseAddress, StartEnd, StartLength}
use Rattle.list_model.specs.declared.entry.ListKind.{ListKind}
use Rattle.list_model.specs.declared.entry.ListKind.TheVariants.{Ranges, Locations}
use Rattle.list_model.specs.declared.entry.RawEntry.{RawEntry}
use Rattle.list_model.specs.declared.contribution.Contribution.{Contribution}
use Rattle.list_model.specs.declared.item.Meaning.{Meaning}
use Rattle.list_model.specs.declared.item.Meaning.TheVariants.{Live, Dead}
use Rattle.list_model.specs.Entries.{Entry, AreSaid}
use Rattle.list_model.specs.Reading.{AreReadFrom}
use Rattle.list_model.specs.Items.{Bounds, SetsBase, HasBounds, GiveFrom, Give, IsDead, sets_base}
use Rattle.list_model.proofs.WalkLaws.{one_saying, one_walk}
use Rattle.range_lists.proofs.RangeLaws.{spelled}
use Rattle.loc_lists.specs.Locations.{IsRead as IsLocationRead}
use Rattle.unit_write.specs.declared.places.Places.{Places}
use Rattle.value_links.specs.Reading.{ListRead, Linkable, Reading, of_kind, lists_of, part_at, list_at, context_at}
use Rattle.value_links.specs.Lists.{IsNamedIn, IsOwner, IsFrozen, IsListOf, AreTold, IsDeadIn, IsLong, item_count, long_limit}
use Rattle.value_links.specs.World.{World, lists_held, HoldsMeaning, HoldsList}
use Rattle.rewriter.specs.declared.tables.NewTable.{NewTable}
use Rattle.rewriter.specs.declared.new_places.NewPlaces.{NewPlaces}
use Rattle.rewriter.specs.inside.ListsAnew.{IsListAnew}
use Rattle.rewriter.specs.inside.Follows.{AreReadAnew}
use Rattle.rewriter.proofs.Links.{some_of}
use Rattle.rewriter.proofs.MovedLists.{old_at, new_at}
use Rattle.rewriter.proofs.ListNames.{named_stays, was_named, unowned_stays, was_unowned, owner_stays, same_context, shared_stays, was_shared}

-- ITEMS

sets : (addr : List ℕ) (context : Context) (kind : EntryKind) (a base : ℕ) → SetsBase addr context kind a base → sets_base kind ≡ true
sets addr context BaseAddressx a base is = refl
sets addr context BaseAddress a base is = refl
sets addr context StartxEndx a base is = absurd is
sets addr context StartxLength a base is = absurd is
sets addr context OffsetPair a base is = absurd is
sets addr context DefaultLocation a base is = absurd is
sets addr context StartEnd a base is = absurd is
sets addr context StartLength a base is = absurd is

sets_none : (addr : List ℕ) (context : Context) (base : ℕ) (kind : EntryKind) (a b : ℕ) (item : Bounds) → HasBounds addr context base kind a b item → sets_base kind ≡ false
sets_none addr context base BaseAddressx a b item has = absurd has
sets_none addr context base BaseAddress a b item has = absurd has
sets_none addr context base StartxEndx a b item has = refl
sets_none addr context base StartxLength a b item has = refl
sets_none addr context base OffsetPair a b item has = refl
sets_none addr context base DefaultLocation a b item has = refl
sets_none addr context base StartEnd a b item has = refl
sets_none addr context base StartLength a b item has = refl

abbrev is_item : Entry → Bool
is_item entry = not (sets_base entry.kind)

-- an entry is counted where it is an item
counted : (entry : Entry) (entries : List Entry) (setting : Bool) → sets_base entry.kind ≡ setting → item_count (entry ∷ entries) ≡ length (if not setting then entry ∷ filter is_item entries else filter is_item entries)
counted entry entries setting e = ap (λ (z : Bool). length (if not z then entry ∷ filter is_item entries else filter is_item entries)) e

-- there are as many items as the entries give bounds
gives_count : (addr : List ℕ) (context : Context) (base : ℕ) (entries : List Entry) (bounds : List Bounds) → GiveFrom addr context base entries bounds → item_count entries ≡ length bounds
gives_count addr context base [] bounds none = sym (ap (λ (z : List Bounds). length z) none)
gives_count addr context base (entry ∷ entries) bounds (inl (next, is, gives)) =
    counted entry entries true (sets addr context entry.kind entry.a next is) ∙ gives_count addr context next entries bounds gives
gives_count addr context base (entry ∷ entries) bounds (inr (item, rest, has, e, gives)) =
    counted entry entries false (sets_none addr context base entry.kind entry.a entry.b item has) ∙ ap suc (gives_count addr context base entries rest gives) ∙ sym (ap (λ (z : List Bounds). length z) e)

pub same_count : (addr : List ℕ) (context : Context) (old new : List Entry) (bounds : List Bounds) → Give addr context old bounds → Give addr context new bounds → item_count new ≡ item_count old
same_count addr context old new bounds before now = gives_count addr context context.base new bounds now ∙ sym (gives_count addr context context.base old bounds before)

-- CONTEXTS

same_table : (a b : Option AddrTable) → (a ≡ b) ⊎ (a ≢ b)
same_table None None = inl refl
same_table None (Some y) = inr (λ e. cc (e))
same_table (Some x) None = inr (λ e. cc (e))
same_table (Some x) (Some y) = elim (cases_eq x.at y.at) [
  | inl at ↦ elim (cases_eq x.count y.count) [
    | inl count ↦ inl (ap (λ (z : ℕ). Some (record { at = z; count = x.count })) at ∙ ap (λ (z : ℕ). Some (record { at = y.at; count = z })) count)
    | inr apart ↦ inr (λ e. (let same : x ≡ y = cc (e) in apart (ap (λ (z : AddrTable). z.count) same)))
  ]
  | inr apart ↦ inr (λ e. (let same : x ≡ y = cc (e) in apart (ap (λ (z : AddrTable). z.at) same)))
]

-- contexts are the same, or they aren't
pub same_or_not : (a b : Context) → (a ≡ b) ⊎ (a ≢ b)
same_or_not a b = elim (cases_eq a.base b.base) [
  | inl base ↦ elim (same_table a.table b.table) [
    | inl table ↦ inl (ap (λ (z : ℕ). record { base = z; table = a.table }) base ∙ ap (λ (z : Option AddrTable). record { base = b.base; table = z }) table)
    | inr apart ↦ inr (λ e. apart (ap (λ (z : Context). z.table) e))
  ]
  | inr apart ↦ inr (λ e. apart (ap (λ (z : Context). z.base) e))
]

-- WHAT A WORLD TELLS

decided : (r : Linkable) (kind : ListKind) (list : ListRead) (owner : Option ℕ) (meaning : Meaning) → HoldsMeaning r kind list owner meaning → IsFrozen r kind list ⊎ (¬ IsFrozen r kind list)
decided r kind list owner (Live items) (live, _) = inr live
decided r kind list owner Dead kept = inl kept

-- WHAT IS READ

-- what is read of a location list says its entries
locations_said : (at : ℕ) (raws : List RawEntry) (locations : List (Entry × List ℕ)) (bytes : List ℕ) → AreReadFrom IsLocationRead at raws locations bytes → (entries : List Entry) × AreSaid Locations raws entries
locations_said at [] [] bytes read = ([], tt)
locations_said at [] (l ∷ locations) bytes read = absurd read
locations_said at (raw ∷ raws) [] bytes read = absurd read
locations_said at (raw ∷ raws) (l ∷ locations) bytes (first, rest, is, more, _) =
    let (entries, said) = locations_said (at + length first) raws locations rest more in
    (l.0 ∷ entries, (is.says, said))

-- so does what is read of any list
list_said : (kind : ListKind) (section : List ℕ) (part : Contribution) (at : ℕ) (raws : List RawEntry) → IsListOf kind section part at raws → (entries : List Entry) × AreSaid kind raws entries
list_said Ranges section part at raws read =
    let (entries, bytes, rest, said, _, _) = spelled section part at raws read in
    (entries, said)
list_said Locations section part at raws read = locations_said at raws read.entries read.front read.read

module _ {classes : Classes} {file : List ℕ} {world : World} {tables : List NewTable} {places : List Places} {new_places : NewPlaces} {info abbrevs : List ℕ} {r s : Reading} (all : AreReadAnew classes file world tables places new_places info abbrevs r s) (kind : ListKind) where
  abbrev pub old_list : ℕ → ListRead
  old_list k = list_at (lists_of r kind) k

  abbrev pub new_list : ℕ → ListRead
  new_list k = list_at (lists_of s kind) k

  -- of each list it is known who owns it, and whether it is frozen
  pub are_told : AreTold r.links kind (lists_of r kind)
  are_told k inside =
      let held : k < length (lists_held world kind) = subst (λ (z : ℕ). k < z) (sym (all.holds.lists kind).count) inside in
      let some = some_of (lists_held world kind) k held in
      let holds : HoldsList r.links kind (old_list k) (get_or (lists_held world kind) k some) = (all.holds.lists kind).each k some inside in
      record { owner = (get_or (lists_held world kind) k some).owner; owned = holds.owner; frozen = decided r.links kind (old_list k) (get_or (lists_held world kind) k some).owner (get_or (lists_held world kind) k some).meaning holds.meaning }

  pub anew : (k : ℕ) → k < length (lists_of r kind) → IsListAnew classes r places kind (of_kind s.links kind) (old_list k) (new_list k)
  anew k inside = (all.lists kind).each k inside

  pub old_said : (k : ℕ) → k < length (lists_of r kind) → (entries : List Entry) × AreSaid kind (old_list k).raws entries
  old_said k inside = list_said kind (of_kind r.links kind).section (part_at (of_kind r.links kind) (old_list k).part) (old_at all kind k) (old_list k).raws ((all.read.lists kind).each k inside).read

  -- what entries give in a context of the file, they give in that of the new one
  pub gives_stay : (u : ℕ) (entries : List Entry) (bounds : List Bounds) → Give r.links.addresses (context_at r.links u) entries bounds → Give s.links.addresses (context_at s.links u) entries bounds
  gives_stay u entries bounds gives =
      subst (λ (z : Context). Give s.links.addresses z entries bounds) (sym (same_context all u)) (subst (λ (z : List ℕ). Give z (context_at r.links u) entries bounds) (sym all.addresses) gives)

  pub gave : (u : ℕ) (entries : List Entry) (bounds : List Bounds) → Give s.links.addresses (context_at s.links u) entries bounds → Give r.links.addresses (context_at r.links u) entries bounds
  gave u entries bounds gives =
      subst (λ (z : Context). Give r.links.addresses z entries bounds) (same_context all u) (subst (λ (z : List ℕ). Give z (context_at s.links u) entries bounds) all.addresses gives)

  -- FROZEN LISTS

  -- the entries of a frozen list are its own
  pub frozen_entries : (k : ℕ) (inside : k < length (lists_of r kind)) (old : List Entry) → AreSaid kind (old_list k).raws old → IsFrozen r.links kind (old_list k) → (anew k inside).entries ≡ old
  frozen_entries k inside old said kept = ((anew k inside).same old said).kept (inr kept)

  pub frozen_stays : (k : ℕ) → k < length (lists_of r kind) → IsFrozen r.links kind (old_list k) → IsFrozen s.links kind (new_list k)
  frozen_stays k inside (old, said, why) =
      let is = anew k inside in
      let same : is.entries ≡ old = frozen_entries k inside old said (old, said, why) in (
        is.entries,
        is.said,
        elim why [
          | inl d ↦ inl (record { u = d.u; named = named_stays all kind k d.u inside d.named; bounds = d.bounds; gives = gives_stay d.u is.entries d.bounds (subst (λ (z : List Entry). Give r.links.addresses (context_at r.links d.u) z d.bounds) (sym same) d.gives); dead = d.dead })
          | inr (inl shared) ↦ inr (inl (shared_stays all kind k inside shared))
          | inr (inr (inl none)) ↦ inr (inr (inl (unowned_stays all kind k inside none)))
          | inr (inr (inr long)) ↦ inr (inr (inr (subst IsLong (sym same) long)))
        ],
      )

  -- LISTS THAT AREN'T FROZEN

  -- an entry names one
  pub owner_of : (k : ℕ) → k < length (lists_of r kind) → (¬ IsFrozen r.links kind (old_list k)) → (owner : Option ℕ) → IsOwner r.links kind (old_at all kind k) owner → (u : ℕ) × IsOwner r.links kind (old_at all kind k) (Some u)
  owner_of k inside live (Some u) owned = (u, owned)
  owner_of k inside live None none = let (entries, said) = old_said k inside in absurd (live (entries, said, inr (inr (inl none))))

  -- all units that name it have one context
  one_context : (k u v : ℕ) → k < length (lists_of r kind) → (¬ IsFrozen r.links kind (old_list k)) → IsNamedIn r.links kind (old_at all kind k) u → IsNamedIn r.links kind (old_at all kind k) v → context_at r.links u ≡ context_at r.links v
  one_context k u v inside live one other = elim (same_or_not (context_at r.links u) (context_at r.links v)) [
    | inl same ↦ same
    | inr apart ↦ (let (entries, said) = old_said k inside in absurd (live (entries, said, inr (inl (u, v, one, other, apart)))))
  ]

  -- so its new entries give what its own entries give in the context of each unit that names it
  live_gives : (k u : ℕ) (inside : k < length (lists_of r kind)) → (¬ IsFrozen r.links kind (old_list k)) → IsNamedIn r.links kind (old_at all kind k) u → (old : List Entry) (bounds : List Bounds) → AreSaid kind (old_list k).raws old → Give r.links.addresses (context_at r.links u) old bounds → Give r.links.addresses (context_at r.links u) (anew k inside).entries bounds
  live_gives k u inside live named old bounds said gives =
      let told = are_told k inside in
      let (v, owned) = owner_of k inside live told.owner told.owned in
      let same : context_at r.links u ≡ context_at r.links v = one_context k u v inside live named owned.0 in
      let now = ((anew k inside).same old said).live live v bounds owned (subst (λ (z : Context). Give r.links.addresses z old bounds) same gives) in
      subst (λ (z : Context). Give r.links.addresses z (anew k inside).entries bounds) (sym same) now

  -- the new entries of any list do
  pub new_gives : (k u : ℕ) (inside : k < length (lists_of r kind)) → IsNamedIn r.links kind (old_at all kind k) u → (old : List Entry) (bounds : List Bounds) → AreSaid kind (old_list k).raws old → Give r.links.addresses (context_at r.links u) old bounds → Give r.links.addresses (context_at r.links u) (anew k inside).entries bounds
  new_gives k u inside named old bounds said gives = elim (are_told k inside).frozen [
    | inl kept ↦ subst (λ (z : List Entry). Give r.links.addresses (context_at r.links u) z bounds) (sym (frozen_entries k inside old said kept)) gives
    | inr live ↦ live_gives k u inside live named old bounds said gives
  ]

  -- it isn't dead
  live_dead : (k : ℕ) (inside : k < length (lists_of r kind)) → (¬ IsFrozen r.links kind (old_list k)) → IsDeadIn s.links kind (new_at all kind k) (anew k inside).entries → ⊥
  live_dead k inside live d =
      let named = was_named all kind k d.u inside d.named in
      let (old, bounds, said, gives) = (all.read.lists kind).looked k d.u inside named in
      let now = new_gives k d.u inside named old bounds said gives in
      let same : d.bounds ≡ bounds = one_walk r.links.addresses (context_at r.links d.u) (anew k inside).entries d.bounds bounds (gave d.u (anew k inside).entries d.bounds d.gives) now in
      live (old, said, inl (record { u = d.u; named = named; bounds = bounds; gives = gives; dead = subst IsDead same d.dead }))

  -- nor is it long
  live_long : (k : ℕ) (inside : k < length (lists_of r kind)) → (¬ IsFrozen r.links kind (old_list k)) → IsLong (anew k inside).entries → ⊥
  live_long k inside live long =
      let told = are_told k inside in
      let (v, owned) = owner_of k inside live told.owner told.owned in
      let (old, bounds, said, gives) = (all.read.lists kind).looked k v inside owned.0 in
      let now = new_gives k v inside owned.0 old bounds said gives in
      let same : item_count (anew k inside).entries ≡ item_count old = same_count r.links.addresses (context_at r.links v) old (anew k inside).entries bounds gives now in
      live (old, said, inr (inr (inr (subst (λ (z : ℕ). long_limit < z) same long))))

  live_stays : (k : ℕ) → k < length (lists_of r kind) → (¬ IsFrozen r.links kind (old_list k)) → IsFrozen s.links kind (new_list k) → ⊥
  live_stays k inside live (entries, said, why) =
      let is = anew k inside in
      let same : entries ≡ is.entries = one_saying kind (new_list k).raws entries is.entries said is.said in
      let (old, was) = old_said k inside in
      elim why [
        | inl d ↦ live_dead k inside live (subst (IsDeadIn s.links kind (new_at all kind k)) same d)
        | inr (inl shared) ↦ live (old, was, inr (inl (was_shared all kind k inside shared)))
        | inr (inr (inl none)) ↦ live (old, was, inr (inr (inl (was_unowned all kind k inside none))))
        | inr (inr (inr long)) ↦ live_long k inside live (subst IsLong same long)
      ]

  pub was_frozen : (k : ℕ) → k < length (lists_of r kind) → IsFrozen s.links kind (new_list k) → IsFrozen r.links kind (old_list k)
  was_frozen k inside now = elim (are_told k inside).frozen [
    | inl kept ↦ kept
    | inr live ↦ absurd (live_stays k inside live now)
  ]

  -- all of this is known of the new lists too
  pub told_stays : AreTold s.links kind (lists_of s kind)
  told_stays k there =
      let inside : k < length (lists_of r kind) = subst (λ (z : ℕ). k < z) (all.lists kind).count there in
      let told = are_told k inside in
      record {
        owner = told.owner;
        owned = owner_stays all kind k told.owner inside told.owned;
        frozen = elim told.frozen [
          | inl kept ↦ inl (frozen_stays k inside kept)
          | inr live ↦ inr (λ now. live (was_frozen k inside now))
        ];
      }
