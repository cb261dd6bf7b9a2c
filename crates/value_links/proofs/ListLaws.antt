-- The lists of a kind that namings tell are those of the file.
use Rattle.std.proofs.Common.{◌≡◌, ◌≢◌, ◌≤◌, ◌<◌, ◌+◌, ◌^◌, ◌⊎◌, ◌∙◌, ◌++◌, inl, inr, ℕ, zero, suc, List, [], ◌∷◌, length, get_or, take, drop, map, sym, ap, subst, refl, arith}
use Rattle.std.specs.Prelude.{Option, Some, None, true, false}
use Rattle.std.specs.List.{All, Contains}
use Rattle.std.proofs.lemmas.List.{length-map, get_or-map, take_all, take-append-drop}
use Rattle.std.proofs.lemmas.List.Elements.{All-push, Contains-append_cases}
use Rattle.dw_base.specs.declared.fault.Kind.{Kind}
use Rattle.dw_base.specs.declared.fault.Kind.TheVariants.{Limit, Pointer}
use Rattle.dw_base.specs.declared.fault.Reach.{Reach}
use Rattle.list_model.specs.declared.context.Context.{Context}
use Rattle.list_model.specs.declared.contribution.Contribution.{Contribution}
use Rattle.list_model.specs.declared.entry.RawEntry.{RawEntry}
use Rattle.list_model.specs.declared.entry.ListKind.{ListKind}
use Rattle.list_model.specs.declared.entry.ListKind.TheVariants.{Ranges, Locations}
use Rattle.list_model.specs.declared.entry.EntryKind.{EntryKind}
use Rattle.list_model.specs.declared.entry.EntryKind.TheVariants.{BaseAddressx, StartxEndx, StartxLength, OffsetPair, DefaultLocation, BaseAddress, StartEnd, StartLength}
use Rattle.list_model.specs.declared.item.Item.{Item}
use Rattle.list_model.specs.declared.item.Meaning.{Meaning}
use Rattle.list_model.specs.declared.item.Meaning.TheVariants.{Live, Dead}
use Rattle.list_model.specs.Entries.{Entry, AreSaid, no_expr}
use Rattle.list_model.specs.Items.{Bounds, SetsBase, HasBounds, GiveFrom, Give, Fits, IsDead, sets_base, item_of}
use Rattle.list_model.specs.Reading.{AreReadFrom, list_entry_limit}
use Rattle.list_model.proofs.WalkLaws.{one_saying, one_walk}
use Rattle.range_lists.proofs.RangeLaws.{said}
use Rattle.loc_lists.specs.Locations.{IsRead, AreItems, items_among, entries_of}
use Rattle.list_arena.specs.Held.{HeldList}
use Rattle.value_links.specs.declared.lists.ListTotals.{ListTotals}
use Rattle.value_links.specs.declared.parts.Parts.{Parts}
use Rattle.value_links.specs.Parts.{HoldsParts, lists_in, section_held}
use Rattle.value_links.specs.Reading.{ListSection, ListRead, Linkable, of_kind, part_at, list_at, context_at}
use Rattle.value_links.specs.Operations.{IsSomeExpression}
use Rattle.value_links.specs.ListPlaces.{IsListPlace}
use Rattle.value_links.specs.Lists.{IsNamed, IsNamedIn, item_count, long_limit, IsFrozen, IsListOf, IsListIn, expressions_at, AreExpressionsRead, AreWithinReach, AreLookedUp, AreListsOf}
use Rattle.value_links.specs.ListFaults.{FaultBytes, list_total, expression_bytes, expression_limit, AreBefore, AreEarlier, IsNamedAt, BeginsWith, PassesTotal, PassesLimit, FaultByRule, FaultOfKind}
use Rattle.value_links.specs.World.{IsMeaningOf, HoldsMeaning, HoldsList, HoldLists}
use Rattle.value_links.specs.inside.Namings.{first_naming, slot_number, FaultSlots, AreNamings, AreInOrder}
use Rattle.value_links.specs.inside.ListExpressions.{IsOwnerBy, AreExprsRead, FaultExpressionsBy}
use Rattle.value_links.specs.inside.NamedLists.{HasUnit, AreNamingsAt, IsOtherContext, IsKeptBy, FaultListOf, PassesBy, FaultBy, FaultNamed, IsReadBy, as_read, IsReadAmong, AreCounted, no_totals, AreReadUpTo, AreExprsReadIn, AreExprsReadAmong, AreExprsReadUpTo, IsNext}
use Rattle.value_links.proofs.ListContexts.{first_unit}
use Rattle.value_links.proofs.ListGroups.{namings_at, namings_before, namings_behind, lists_before}
use Rattle.value_links.proofs.ListOwners.{unit_named, named_unit, is_named, alone, owner_is}
use Rattle.value_links.proofs.ListExpressionLaws.{AreExprsReadBy, expressions_read, expressions_within, expressions_fault}
use Rattle.value_links.proofs.NamingValues.{units_counted}

-- ITEMS

sets : (addr : List ℕ) (context : Context) (kind : EntryKind) (a base : ℕ) → SetsBase addr context kind a base → sets_base kind ≡ true
sets addr context BaseAddressx a base is = refl
sets addr context BaseAddress a base is = refl
sets addr context StartxEndx a base is = absurd is
sets addr context StartxLength a base is = absurd is
sets addr context OffsetPair a base is = absurd is
sets addr context DefaultLocation a base is = absurd is
sets addr context StartEnd a base is = absurd is
sets addr context StartLength a base is = absurd is

bounded : (addr : List ℕ) (context : Context) (base : ℕ) (kind : EntryKind) (a b : ℕ) (item : Bounds) → HasBounds addr context base kind a b item → sets_base kind ≡ false
bounded addr context base BaseAddressx a b item is = absurd is
bounded addr context base BaseAddress a b item is = absurd is
bounded addr context base StartxEndx a b item is = refl
bounded addr context base StartxLength a b item is = refl
bounded addr context base OffsetPair a b item is = refl
bounded addr context base DefaultLocation a b item is = refl
bounded addr context base StartEnd a b item is = refl
bounded addr context base StartLength a b item is = refl

-- as many of the entries are items as they give bounds
items_counted : (addr : List ℕ) (context : Context) (base : ℕ) (entries : List Entry) (bounds : List Bounds) → GiveFrom addr context base entries bounds → item_count entries ≡ length bounds
items_counted addr context base [] bounds e = ap length (sym e)
items_counted addr context base (entry ∷ entries) bounds (inl (next, set, gives)) =
    let kind : sets_base entry.kind ≡ true = sets addr context entry.kind entry.a next set in
    rw kind (items_counted addr context next entries bounds gives)
items_counted addr context base (entry ∷ entries) bounds (inr (item, rest, has, e, gives)) =
    let kind : sets_base entry.kind ≡ false = bounded addr context base entry.kind entry.a entry.b item has in
    let counted : item_count entries ≡ length rest = items_counted addr context base entries rest gives in
    let size : length bounds ≡ length (item ∷ rest) = ap length e in
    rw kind (omega arith)

-- ENTRIES

-- entries that are read with their expressions say what they say without
said_behind : (at : ℕ) (raws : List RawEntry) (locations : List (Entry × List ℕ)) (bytes : List ℕ) → AreReadFrom IsRead at raws locations bytes → AreSaid Locations raws (entries_of locations)
said_behind at [] [] bytes e = tt
said_behind at (raw ∷ raws) (location ∷ locations) bytes (first, rest, h, f, e) = (h.says, said_behind (at + length first) raws locations rest f)
said_behind at [] (location ∷ locations) bytes f = absurd f
said_behind at (raw ∷ raws) [] bytes f = absurd f

-- what is read of a list says entries
pub entries_said : (kind : ListKind) (section : List ℕ) (part : Contribution) (at : ℕ) (raws : List RawEntry) → IsListOf kind section part at raws → (entries : List Entry) × AreSaid kind raws entries
entries_said Ranges section part at raws read = (read.entries, said at raws read.entries read.front read.read)
entries_said Locations section part at raws read = (entries_of read.entries, said_behind at raws read.entries read.front read.read)

-- MEANINGS

-- each item has its bounds
each_bounded : (raws : List RawEntry) (bounds : List Bounds) (items : List Item) → AreItems raws bounds items → length items ≡ length bounds
each_bounded [] [] [] is = refl
each_bounded (raw ∷ raws) (b ∷ bounds) (item ∷ items) (first, rest) = let counted : length items ≡ length bounds = each_bounded raws bounds items rest in omega arith
each_bounded [] [] (item ∷ items) is = absurd is
each_bounded [] (b ∷ bounds) [] is = absurd is
each_bounded [] (b ∷ bounds) (item ∷ items) is = absurd is
each_bounded (raw ∷ raws) [] [] is = absurd is
each_bounded (raw ∷ raws) [] (item ∷ items) is = absurd is
each_bounded (raw ∷ raws) (b ∷ bounds) [] is = absurd is

-- how many items there are for bounds, and whether these fit
abbrev IsMeasured : List Bounds → Meaning → Type 0
IsMeasured bounds (Live items) = All Fits bounds × (length items ≡ length bounds)
IsMeasured bounds Dead = IsDead bounds

-- what is common to the meanings of lists of all kinds
record MeansBy (kind : ListKind) (addr : List ℕ) (context : Context) (raws : List RawEntry) (meaning : Meaning) : Type 0 where
  entries : List Entry
  bounds : List Bounds
  are_said : AreSaid kind raws entries
  gives : Give addr context entries bounds
  measured : IsMeasured bounds meaning

means_by : (kind : ListKind) (addr : List ℕ) (context : Context) (raws : List RawEntry) (meaning : Meaning) → IsMeaningOf kind addr context raws meaning → MeansBy kind addr context raws meaning
means_by Ranges addr context raws (Live items) is = record { entries = is.entries; bounds = is.bounds; are_said = is.said; gives = is.gives; measured = (is.means.0, ap length is.means.1 ∙ length-map is.bounds (item_of no_expr)) }
means_by Ranges addr context raws Dead is = record { entries = is.entries; bounds = is.bounds; are_said = is.said; gives = is.gives; measured = is.means }
means_by Locations addr context raws (Live items) is = record { entries = is.entries; bounds = is.bounds; are_said = is.said; gives = is.gives; measured = (is.means.0, each_bounded (items_among raws) is.bounds items is.means.1) }
means_by Locations addr context raws Dead is = record { entries = is.entries; bounds = is.bounds; are_said = is.said; gives = is.gives; measured = is.means }

-- ELEMENTS

-- the element with a number, which needs nothing to stand for it
nth : {X : Type 0} (xs : List X) (k : ℕ) → k < length xs → (x : X) × ((d : X) → get_or xs k d ≡ x)
nth [] k inside = absurd (omega arith)
nth (x ∷ xs) zero inside = (x, λ d. refl)
nth (x ∷ xs) (suc k) inside = nth xs k (omega arith)

-- namings of lists that are read and of others
either_part : (namings : List (ℕ × ℕ)) (from : ℕ) (y : ℕ × ℕ) → Contains namings y → Contains (take from namings) y ⊎ Contains (drop from namings) y
either_part namings from y has = Contains-append_cases (take from namings) (drop from namings) y (subst (λ (z : List (ℕ × ℕ)). Contains z y) (sym (take-append-drop from namings)) has)

-- FAULTS OF BYTES

-- one that isn't a limit is said of the list alone
bytes_of : (kind : ListKind) (section : List ℕ) (part : Contribution) (at : ℕ) (reach : Reach) (cause : Kind) (place : ℕ) → cause ≢ Limit → FaultListOf kind section part at reach cause place → FaultBytes kind section part at reach cause place
bytes_of Ranges section part at reach Limit place apart f = absurd (apart refl)
bytes_of Ranges section part at reach cause place apart f = f
bytes_of Locations section part at reach Limit place apart f = absurd (apart refl)
bytes_of Locations section part at reach cause place apart f = f

-- EXPRESSIONS

-- those of a list that some of all namings name are read
abbrev HasExprsRead : Linkable → ListKind → List (ℕ × ℕ) → Reach → HeldList → Type 0
HasExprsRead r kind namings reach list = (named : List (ℕ × ℕ)) × AreNamingsAt namings list.at named × AreExprsReadBy r kind named reach list.raw

module _ (r : Linkable) (kind : ListKind) (namings : List (ℕ × ℕ)) (are : AreNamings r kind namings) (few : length r.units < 2 ^ 32) where
  -- ONE LIST

  -- what names a place has a naming
  naming_of : (at : ℕ) → IsNamed r kind at → (y : ℕ × ℕ) × Contains namings y × (y.0 ≡ at)
  naming_of at (inl (u, named)) = ((at, u), are.by_entries at u named, refl)
  naming_of at (inr slot) = ((at, slot_number), are.by_slots at slot, refl)

  -- what it means
  module _ (list : ListRead) (named : List (ℕ × ℕ)) (here : AreNamingsAt namings list.at named) (entries : List Entry) (known : AreSaid kind list.raws entries) where
    abbrev owned : Context
    owned = context_at r (first_naming named).1

    first_named : (first_naming named).1 ≢ slot_number → IsNamedIn r kind list.at (first_naming named).1
    first_named real = unit_named r kind namings are few list.at named here (first_naming named).1 (first_unit named here.some real)

    there : (u : ℕ) → IsNamedIn r kind list.at u → HasUnit named u
    there u is = named_unit r kind namings are few list.at named here u is

    kept_live : (items : List Item) → (first_naming named).1 ≢ slot_number → IsOtherContext r.contexts named owned false → MeansBy kind r.addresses owned list.raws (Live items) → length items ≤ long_limit → ¬ IsFrozen r kind list
    kept_live items real same means short (own, own_said, frozen) = elim frozen [
      | inl dead ↦
          let context : context_at r dead.u ≡ owned = same dead.u (there dead.u dead.named) in
          let gives : Give r.addresses owned means.entries dead.bounds = subst (λ (z : Context). Give r.addresses z means.entries dead.bounds) context (subst (λ (z : List Entry). Give r.addresses (context_at r dead.u) z dead.bounds) entries_same dead.gives) in
          let bounds : means.bounds ≡ dead.bounds = one_walk r.addresses owned means.entries means.bounds dead.bounds means.gives gives in
          dead.dead (subst (All Fits) bounds means.measured.0)
      | inr (inl (u, v, u_named, v_named, apart)) ↦ apart (same u (there u u_named) ∙ sym (same v (there v v_named)))
      | inr (inr (inl unowned)) ↦ unowned (first_naming named).1 (first_named real)
      | inr (inr (inr long)) ↦
          let counted : item_count means.entries ≡ length means.bounds = items_counted r.addresses owned owned.base means.entries means.bounds means.gives in
          let size : length items ≡ length means.bounds = means.measured.1 in
          let past : long_limit < item_count means.entries = subst (λ (z : List Entry). long_limit < item_count z) entries_same long in
          absurd (omega arith)
    ]
      where
        entries_same : own ≡ means.entries
        entries_same = one_saying kind list.raws own means.entries own_said means.are_said

    dead_frozen : IsKeptBy kind r.addresses r.contexts named list.raws Dead → IsFrozen r kind list
    dead_frozen (inl slot) = (entries, known, inr (inr (inl (alone r kind namings are few list.at named here slot))))
    dead_frozen (inr (real, inl (u, has, apart))) = (entries, known, inr (inl (u, (first_naming named).1, unit_named r kind namings are few list.at named here u has, first_named real, apart)))
    dead_frozen (inr (real, inr (inl is))) =
        let means = means_by kind r.addresses owned list.raws Dead is in
        (means.entries, means.are_said, inl (record { u = (first_naming named).1; named = first_named real; bounds = means.bounds; gives = means.gives; dead = means.measured }))
    dead_frozen (inr (real, inr (inr (items, is, past)))) =
        let means = means_by kind r.addresses owned list.raws (Live items) is in
        let counted : item_count means.entries ≡ length means.bounds = items_counted r.addresses owned owned.base means.entries means.bounds means.gives in
        let size : length items ≡ length means.bounds = means.measured.1 in
        (means.entries, means.are_said, inr (inr (inr (omega arith))))

    first_owner : (owner : Option ℕ) → IsOwnerBy named owner → (first_naming named).1 ≢ slot_number → owner ≡ Some (first_naming named).1
    first_owner (Some u) (e, _) real = ap Some (sym e)
    first_owner None slot real = absurd (real slot)

    kept_is : (owner : Option ℕ) (meaning : Meaning) → IsOwnerBy named owner → IsKeptBy kind r.addresses r.contexts named list.raws meaning → HoldsMeaning r kind list owner meaning
    kept_is owner (Live items) first (real, same, means, short) = (kept_live items real same (means_by kind r.addresses owned list.raws (Live items) means) short, ((first_naming named).1, first_owner owner first real, means))
    kept_is owner Dead first kept = dead_frozen kept

  -- a list that is read is one of the file
  module _ (held : HeldList) (among : IsReadAmong kind (of_kind r kind) r.addresses r.contexts namings held) where
    pub list_in : IsListIn r kind (as_read held)
    list_in = record { named = is_named r kind namings are few held.at among.0 among.1; begins = among.2.begins; read = among.2.read }

    pub list_held : HoldsList r kind (as_read held) held
    list_held =
        let says = entries_said kind (of_kind r kind).section (part_at (of_kind r kind) held.part) held.at held.raw among.2.read in
        record {
          at = refl;
          part = refl;
          owner = owner_is r kind namings are few held.at among.0 among.1 held.owner among.2.owner;
          raws = refl;
          meaning = kept_is (as_read held) among.0 among.1 says.0 says.1 held.owner held.meaning among.2.owner among.2.kept;
        }

    list_looked : (u : ℕ) → IsNamedIn r kind held.at u → AreLookedUp r kind u (as_read held)
    list_looked u is = among.2.looked u (named_unit r kind namings are few held.at among.0 among.1 u is)

  -- ALL LISTS

  module _ (reach : Reach) (before : ListTotals) (from : ℕ) (lists : List HeldList) (now : ListTotals) (up : AreReadUpTo kind (of_kind r kind) r.addresses r.contexts namings reach before from lists now) where
    size : length (map as_read lists) ≡ length lists
    size = length-map lists as_read

    held_nth : (k : ℕ) → k < length (map as_read lists) → (held : HeldList) × ((d : HeldList) → get_or lists k d ≡ held)
    held_nth k inside = nth lists k (subst (λ (z : ℕ). k < z) size inside)

    list_is : (k : ℕ) (inside : k < length (map as_read lists)) → list_at (map as_read lists) k ≡ as_read (held_nth k inside).0
    list_is k inside =
        let held = held_nth k inside in
        get_or-map as_read lists k held.0 (record { at = 0; part = 0; raws = [] }) (subst (λ (z : ℕ). k < z) size inside) ∙ ap as_read (held.1 held.0)

    among_all : (k : ℕ) (inside : k < length (map as_read lists)) → IsReadAmong kind (of_kind r kind) r.addresses r.contexts namings (held_nth k inside).0
    among_all k inside =
        let held = held_nth k inside in
        subst (IsReadAmong kind (of_kind r kind) r.addresses r.contexts namings) (held.1 held.0) (up.each k held.0 (subst (λ (z : ℕ). k < z) size inside))

    pub lists_rise : (j k : ℕ) → j < k → k < length (map as_read lists) → (list_at (map as_read lists) j).at < (list_at (map as_read lists) k).at
    lists_rise j k less inside =
        let j_in : j < length (map as_read lists) = omega arith in
        let a = held_nth j j_in in
        let b = held_nth k inside in
        let rise : (get_or lists j a.0).at < (get_or lists k a.0).at = up.rising j k a.0 less (subst (λ (z : ℕ). k < z) size inside) in
        rw (list_is j j_in, list_is k inside) (subst (λ (z : HeldList). a.0.at < z.at) (b.1 a.0) (subst (λ (z : HeldList). z.at < (get_or lists k a.0).at) (a.1 a.0) rise))

    pub lists_each : (k : ℕ) → k < length (map as_read lists) → IsListIn r kind (list_at (map as_read lists) k)
    lists_each k inside = subst (IsListIn r kind) (sym (list_is k inside)) (list_in (held_nth k inside).0 (among_all k inside))

    found_list : (y : ℕ × ℕ) → Contains (take from namings) y → (k : ℕ) × (k < length (map as_read lists)) × ((list_at (map as_read lists) k).at ≡ y.0)
    found_list y has =
        let (held, (k, k_in, e), same) = up.done y has in
        let inside : k < length (map as_read lists) = subst (λ (z : ℕ). k < z) (sym size) k_in in
        (k, inside, ap (λ (z : ListRead). z.at) (get_or-map as_read lists k held (record { at = 0; part = 0; raws = [] }) k_in ∙ ap as_read e) ∙ same)

    -- where their expressions are read
    module _ (exprs : (k : ℕ) (d : HeldList) → k < length lists → HasExprsRead r kind namings reach (get_or lists k d)) where
      exprs_nth : (k : ℕ) (inside : k < length (map as_read lists)) → HasExprsRead r kind namings reach (held_nth k inside).0
      exprs_nth k inside =
          let held = held_nth k inside in
          subst (HasExprsRead r kind namings reach) (held.1 held.0) (exprs k held.0 (subst (λ (z : ℕ). k < z) size inside))

      exprs_each : (k : ℕ) → k < length (map as_read lists) → AreExpressionsRead r kind (list_at (map as_read lists) k)
      exprs_each k inside =
          let held : HeldList = (held_nth k inside).0 in
          let (named, here, read) = exprs_nth k inside in
          subst (AreExpressionsRead r kind) (sym (list_is k inside)) (expressions_read r kind namings are few (as_read held) named here reach read)

      pub lists_within : AreWithinReach r kind reach (map as_read lists)
      lists_within k inside =
          let held : HeldList = (held_nth k inside).0 in
          let (named, here, read) = exprs_nth k inside in
          subst (λ (z : ListRead). All (IsSomeExpression reach) (expressions_at r kind z)) (sym (list_is k inside)) (expressions_within r kind namings are few (as_read held) named here reach read)

      -- where all namings are of lists that are read, these are all
      pub all_lists : length namings ≤ from → AreListsOf r kind (map as_read lists)
      all_lists whole = record {
        rising = lists_rise;
        each = lists_each;
        all = λ at named.
            let (y, has, same) = naming_of at named in
            let (k, inside, e) = found_list y (subst (λ (z : List (ℕ × ℕ)). Contains z y) (sym (take_all from namings whole)) has) in
            (k, inside, e ∙ same);
        looked = λ k u inside is. rw (list_is k inside) (list_looked (held_nth k inside).0 (among_all k inside) u (subst (λ (z : ListRead). IsNamedIn r kind z.at u) (list_is k inside) is));
        expressions = exprs_each;
        slots = λ p i p_in i_in. are.slots p p_in i i_in;
      }

    pub lists_held : HoldLists r kind (map as_read lists) lists
    lists_held = record {
      count = sym size;
      each = λ k d inside.
          let held = held_nth k inside in
          subst (λ (z : ListRead). HoldsList r kind z (get_or lists k d)) (sym (list_is k inside)) (subst (HoldsList r kind (as_read held.0)) (sym (held.1 d)) (list_held held.0 (among_all k inside)));
    }

    -- FAULTS

    module _ (named : List (ℕ × ℕ)) (here : AreNamingsAt namings (first_naming named).0 named) (behind : (y : ℕ × ℕ) → Contains (drop from namings) y → (first_naming named).0 ≤ y.0) (front : (list : HeldList) → Contains lists list → list.at < (first_naming named).0) where
      all_before : AreBefore r kind (first_naming named).0 (map as_read lists)
      all_before = record {
        rising = lists_rise;
        each = λ k inside.
            let held = held_nth k inside in
            let has : Contains lists held.0 = (k, subst (λ (z : ℕ). k < z) size inside, held.1 held.0) in
            (lists_each k inside, subst (λ (z : ListRead). z.at < (first_naming named).0) (sym (list_is k inside)) (front held.0 has));
        all = λ place is less.
            let (y, has, same) = naming_of place is in
            elim (either_part namings from y has) [
              | inl early ↦ let (k, inside, e) = found_list y early in (k, inside, e ∙ same)
              | inr late ↦ let up : (first_naming named).0 ≤ y.0 = behind y late in absurd (omega arith)
            ];
      }

      named_at : (p : ℕ) → IsListPlace (of_kind r kind) p (first_naming named).0 → IsNamedAt r kind p (first_naming named).0
      named_at p begins = record { named = is_named r kind namings are few (first_naming named).0 named here; begins = begins }

      -- with this list the lists have too much together of what is measured
      passes : (measure : List RawEntry → ℕ) (limit all : ℕ) (earlier : List ListRead) → AreEarlier r kind earlier → all ≡ list_total measure earlier + list_total measure (map as_read lists) → all ≤ limit → (p : ℕ) → IsListPlace (of_kind r kind) p (first_naming named).0 → (raws : List RawEntry) → BeginsWith kind (of_kind r kind).section (part_at (of_kind r kind) p) (first_naming named).0 raws → limit < all + measure raws → PassesTotal r measure limit kind (first_naming named).0
      passes measure limit all earlier other counted within p begins raws starts past = record {
        p = p;
        named = named_at p begins;
        earlier = earlier;
        other = other;
        front = map as_read lists;
        before = all_before;
        within = subst (λ (z : ℕ). z ≤ limit) counted within;
        raws = raws;
        begins = starts;
        past = subst (λ (z : ℕ). limit < z + measure raws) counted past;
      }

      module _ (earlier : List ListRead) (other : AreEarlier r kind earlier) (counted : AreCounted no_totals earlier before) where
        entries_all : now.entries ≡ list_total length earlier + list_total length (map as_read lists)
        entries_all =
            let more : now.entries ≡ before.entries + list_total length (map as_read lists) = up.counted.entries in
            let first : before.entries ≡ 0 + list_total length earlier = counted.entries in
            omega arith

        bytes_all : now.bytes ≡ list_total expression_bytes earlier + list_total expression_bytes (map as_read lists)
        bytes_all =
            let more : now.bytes ≡ before.bytes + list_total expression_bytes (map as_read lists) = up.counted.bytes in
            let first : before.bytes ≡ 0 + list_total expression_bytes earlier = counted.bytes in
            omega arith

        limit_is : (p : ℕ) → IsListPlace (of_kind r kind) p (first_naming named).0 → (raws : List RawEntry) → BeginsWith kind (of_kind r kind).section (part_at (of_kind r kind) p) (first_naming named).0 raws → PassesBy reach now raws → PassesLimit r reach kind (first_naming named).0
        limit_is p begins raws starts (inl past) = inl (passes length (list_entry_limit reach) now.entries earlier other entries_all up.few.entries p begins raws starts past)
        limit_is p begins raws starts (inr past) = inr (passes expression_bytes (expression_limit reach) now.bytes earlier other bytes_all up.few.bytes p begins raws starts past)

        fault_by : (cause : Kind) (place p : ℕ) → IsListPlace (of_kind r kind) p (first_naming named).0 → FaultBy kind (of_kind r kind) r.contexts named reach now p (first_naming named).0 cause place → FaultOfKind r reach kind cause place
        fault_by cause place p begins (inl (apart, f)) = inr (inl (p, (first_naming named).0, named_at p begins, bytes_of kind (of_kind r kind).section (part_at (of_kind r kind) p) (first_naming named).0 reach cause place apart f))
        fault_by cause place p begins (inr (inl (raws, read, (u, has, f)))) =
            inr (inr (inl (record { at = (first_naming named).0; part = p; raws = raws }, u, record { named = is_named r kind namings are few (first_naming named).0 named here; begins = begins; read = read }, unit_named r kind namings are few (first_naming named).0 named here u has, f)))
        fault_by cause place p begins (inr (inr (limit, at, (raws, starts, past)))) =
            inl (subst (λ (z : Kind). FaultByRule r reach kind z place) (sym limit) (subst (PassesLimit r reach kind) (sym at) (limit_is p begins raws starts past)))

        pub fault_is : (cause : Kind) (place : ℕ) → FaultNamed kind (of_kind r kind) r.contexts named reach now cause place → FaultOfKind r reach kind cause place
        fault_is cause place (p, begins, f) = fault_by cause place p begins f

  -- a fault of an expression of a list that is read
  pub expression_is : (reach : Reach) (held : HeldList) (named : List (ℕ × ℕ)) (here : AreNamingsAt namings held.at named) → IsReadBy kind (of_kind r kind) r.addresses r.contexts named held → (cause : Kind) (place : ℕ) → FaultExpressionsBy kind (of_kind r kind).section named reach held.raw r cause place → FaultOfKind r reach kind cause place
  expression_is reach held named here read cause place f = inr (inr (inr (expressions_fault r kind namings are few (as_read held) named here reach (list_in held (named, here, read)) cause place f)))

-- a slot astray is a fault of the sixth pass
pub slot_is : (r : Linkable) (reach : Reach) (kind : ListKind) (cause : Kind) (place : ℕ) → FaultSlots (of_kind r kind) cause place → FaultOfKind r reach kind cause place
slot_is r reach kind Pointer place f = inl f
slot_is r reach kind cause place f = absurd f

-- AS THEY ARE HELD

-- the expressions of a list are read, by the section that is held
exprs_there : (file : List ℕ) (r : Linkable) (parts : Parts) → HoldsParts file r parts → (kind : ListKind) (namings : List (ℕ × ℕ)) (reach : Reach) (list : HeldList) → AreExprsReadAmong parts kind namings reach list → HasExprsRead r kind namings reach list
exprs_there file r parts holds kind namings reach list (named, here, read) = (named, here, λ owner torn owned is. subst (λ (z : ListSection). AreExprsRead kind z.section r owner torn reach list.raw) (holds.lists kind) (read file r holds owner torn owned is))

-- the next namings are all of their list
module _ (parts : Parts) (kind : ListKind) (namings : List (ℕ × ℕ)) (reach : Reach) (before : ListTotals) (from : ℕ) (lists : List HeldList) (now : ListTotals) (up : AreReadUpTo kind (section_held (lists_in parts kind)) parts.addr.now parts.contexts.items namings reach before from lists now) (order : AreInOrder namings) (inside : from < length namings) (named : List (ℕ × ℕ)) (next : IsNext namings from named) where
  next_here : AreNamingsAt namings (first_naming named).0 named
  next_here = namings_at namings order from inside named next (namings_before namings order from inside named next kind (section_held (lists_in parts kind)) parts.addr.now parts.contexts.items reach before lists now up)

  -- and with its expressions those of all lists up to it are read
  pub exprs_more : (list : HeldList) → list.at ≡ (first_naming named).0 → AreExprsReadIn parts kind named reach list.raw → AreExprsReadUpTo parts kind namings reach lists → AreExprsReadUpTo parts kind namings reach (lists ++ list ∷ [])
  exprs_more list at read exprs = All-push (AreExprsReadAmong parts kind namings reach) lists list exprs (named, subst (λ (z : ℕ). AreNamingsAt namings z named) (sym at) next_here, read)

module _ (file : List ℕ) (r : Linkable) (parts : Parts) (holds : HoldsParts file r parts) (kind : ListKind) (namings : List (ℕ × ℕ)) (are : AreNamings r kind namings) (few : length parts.units.units.items < 2 ^ 32) (reach : Reach) (before : ListTotals) (from : ℕ) (lists : List HeldList) (now : ListTotals) (up : AreReadUpTo kind (section_held (lists_in parts kind)) parts.addr.now parts.contexts.items namings reach before from lists now) where
  up_there : AreReadUpTo kind (of_kind r kind) r.addresses r.contexts namings reach before from lists now
  up_there =
      subst (λ (z : List Context). AreReadUpTo kind (of_kind r kind) r.addresses z namings reach before from lists now) holds.contexts
      (subst (λ (z : List ℕ). AreReadUpTo kind (of_kind r kind) z parts.contexts.items namings reach before from lists now) holds.addresses
      (subst (λ (z : ListSection). AreReadUpTo kind z parts.addr.now parts.contexts.items namings reach before from lists now) (holds.lists kind) up))

  few_there : length r.units < 2 ^ 32
  few_there = subst (λ (z : ℕ). z < 2 ^ 32) (units_counted file r parts holds) few

  -- the lists that are read are those of the file
  pub lists_are : AreExprsReadUpTo parts kind namings reach lists → length namings ≤ from → (read : List ListRead) × AreListsOf r kind read × HoldLists r kind read lists × AreCounted before read now × AreWithinReach r kind reach read
  lists_are exprs whole =
      let each : (k : ℕ) (d : HeldList) → k < length lists → HasExprsRead r kind namings reach (get_or lists k d) = λ k d inside. exprs_there file r parts holds kind namings reach (get_or lists k d) (exprs k d inside) in (
        map as_read lists,
        all_lists r kind namings are few_there reach before from lists now up_there each whole,
        lists_held r kind namings are few_there reach before from lists now up_there,
        up.counted,
        lists_within r kind namings are few_there reach before from lists now up_there each,
      )

  module _ (order : AreInOrder namings) (inside : from < length namings) (named : List (ℕ × ℕ)) (next : IsNext namings from named) where
    named_here : AreNamingsAt namings (first_naming named).0 named
    named_here = next_here parts kind namings reach before from lists now up order inside named next

    -- a fault of the next one is a fault of the file
    pub named_fault : (earlier : List ListRead) → AreEarlier r kind earlier → AreCounted no_totals earlier before → (cause : Kind) (place : ℕ) → FaultNamed kind (section_held (lists_in parts kind)) parts.contexts.items named reach now cause place → FaultOfKind r reach kind cause place
    named_fault earlier other counted cause place fault =
        let there : FaultNamed kind (of_kind r kind) r.contexts named reach now cause place = subst (λ (z : List Context). FaultNamed kind (of_kind r kind) z named reach now cause place) holds.contexts (subst (λ (z : ListSection). FaultNamed kind z parts.contexts.items named reach now cause place) (holds.lists kind) fault) in
        fault_is r kind namings are few_there reach before from lists now up_there named named_here (namings_behind namings order from inside named next) (lists_before namings order from inside named next kind (of_kind r kind) r.addresses r.contexts reach before lists now up_there) earlier other counted cause place there

    -- so is one of its expressions
    pub expression_fault : (list : HeldList) → IsReadBy kind (section_held (lists_in parts kind)) parts.addr.now parts.contexts.items named list → (cause : Kind) (place : ℕ) → FaultExpressionsBy kind (lists_in parts kind).section.now named reach list.raw r cause place → FaultOfKind r reach kind cause place
    expression_fault list read cause place fault =
        let there : IsReadBy kind (of_kind r kind) r.addresses r.contexts named list =
        subst (λ (z : List Context). IsReadBy kind (of_kind r kind) r.addresses z named list) holds.contexts
        (subst (λ (z : List ℕ). IsReadBy kind (of_kind r kind) z parts.contexts.items named list) holds.addresses
        (subst (λ (z : ListSection). IsReadBy kind z parts.addr.now parts.contexts.items named list) (holds.lists kind) read)) in
        let here : AreNamingsAt namings list.at named = subst (λ (z : ℕ). AreNamingsAt namings z named) (sym read.at) named_here in
        expression_is r kind namings are few_there reach list named here there cause place (subst (λ (z : ListSection). FaultExpressionsBy kind z.section named reach list.raw r cause place) (holds.lists kind) fault)
