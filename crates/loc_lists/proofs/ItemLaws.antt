-- The items among entries, and what lists say.
use Rattle.std.proofs.Common.{◌≡◌, ◌∙◌, ℕ, List, [], ◌∷◌, length, sym, ap, refl, subst, inl, inr, Bool, true, false}
use Rattle.std.specs.Prelude.{if◌then◌else◌, filter, not, ◌||◌, Some}
use Rattle.std.specs.List.{AllZip}
use Rattle.std.proofs.lemmas.Option.{same_Some}
use Rattle.std.proofs.lemmas.Slice.Zip.{AllZip-long}
use Rattle.dw_base.specs.Refusals.{IsFaulty}
use Rattle.list_model.specs.declared.context.Context.{Context}
use Rattle.list_model.specs.declared.entry.EntryKind.{EntryKind}
use Rattle.list_model.specs.declared.entry.EntryKind.TheVariants.{BaseAddressx, StartxEndx, StartxLength, OffsetPair, DefaultLocation, BaseAddress, StartEnd, StartLength}
use Rattle.list_model.specs.declared.entry.ListKind.TheVariants.{Locations}
use Rattle.list_model.specs.declared.entry.RawEntry.{RawEntry}
use Rattle.list_model.specs.declared.item.Item.{Item}
use Rattle.list_model.specs.declared.item.Meaning.{Meaning}
use Rattle.list_model.specs.declared.item.Meaning.TheVariants.{Live, Dead}
use Rattle.list_model.specs.Entries.{code_of, Entry, Says, AreSaid}
use Rattle.list_model.specs.Items.{Bounds, SetsBase, HasBounds, GiveFrom, Give, sets_base, FaultIndexes}
use Rattle.list_model.specs.Laws.{OneSaying, OneWalk, WalksWhole}
use Rattle.loc_lists.specs.Locations.{is_code, is_item, items_among, AreItems, Means, IsMeaning}
use Rattle.loc_lists.specs.Laws.{SaysBounds}

-- ---- which entries are items

-- whether a code is that of an item
abbrev is_item_code : ℕ → Bool
is_item_code code = not (is_code (code_of Locations BaseAddressx) code || is_code (code_of Locations BaseAddress) code)

code_says : (kind : EntryKind) (code : ℕ) → code_of Locations kind ≡ Some code → is_item_code code ≡ not (sets_base kind)
code_says BaseAddressx code e = subst (λ (z : ℕ). is_item_code z ≡ not (sets_base BaseAddressx)) (same_Some 1 code e) refl
code_says StartxEndx code e = subst (λ (z : ℕ). is_item_code z ≡ not (sets_base StartxEndx)) (same_Some 2 code e) refl
code_says StartxLength code e = subst (λ (z : ℕ). is_item_code z ≡ not (sets_base StartxLength)) (same_Some 3 code e) refl
code_says OffsetPair code e = subst (λ (z : ℕ). is_item_code z ≡ not (sets_base OffsetPair)) (same_Some 4 code e) refl
code_says DefaultLocation code e = subst (λ (z : ℕ). is_item_code z ≡ not (sets_base DefaultLocation)) (same_Some 5 code e) refl
code_says BaseAddress code e = subst (λ (z : ℕ). is_item_code z ≡ not (sets_base BaseAddress)) (same_Some 6 code e) refl
code_says StartEnd code e = subst (λ (z : ℕ). is_item_code z ≡ not (sets_base StartEnd)) (same_Some 7 code e) refl
code_says StartLength code e = subst (λ (z : ℕ). is_item_code z ≡ not (sets_base StartLength)) (same_Some 8 code e) refl

pub item_says : (raw : RawEntry) (entry : Entry) → Says Locations raw entry → is_item raw ≡ not (sets_base entry.kind)
item_says raw entry h = code_says entry.kind raw.code h.of_code

pub setter_sets : (addr : List ℕ) (context : Context) (kind : EntryKind) (a base : ℕ) → SetsBase addr context kind a base → sets_base kind ≡ true
setter_sets addr context BaseAddressx a base f = refl
setter_sets addr context BaseAddress a base f = refl
setter_sets addr context _ a base f = absurd f

pub item_sets_none : (addr : List ℕ) (context : Context) (base : ℕ) (kind : EntryKind) (a b : ℕ) (item : Bounds) → HasBounds addr context base kind a b item → sets_base kind ≡ false
item_sets_none addr context base BaseAddressx a b item f = absurd f
item_sets_none addr context base BaseAddress a b item f = absurd f
item_sets_none addr context base _ a b item f = refl

pub setter_is_none : (addr : List ℕ) (context : Context) (raw : RawEntry) (entry : Entry) (base : ℕ) → Says Locations raw entry → SetsBase addr context entry.kind entry.a base → is_item raw ≡ false
setter_is_none addr context raw entry base h f = item_says raw entry h ∙ ap not (setter_sets addr context entry.kind entry.a base f)

pub item_is_one : (addr : List ℕ) (context : Context) (raw : RawEntry) (entry : Entry) (base : ℕ) (item : Bounds) → Says Locations raw entry → HasBounds addr context base entry.kind entry.a entry.b item → is_item raw ≡ true
item_is_one addr context raw entry base item h f = item_says raw entry h ∙ ap not (item_sets_none addr context base entry.kind entry.a entry.b item f)

said_kept : (keeps : Bool) (raw : RawEntry) (raws : List RawEntry) (entry : Entry) (entries : List Entry) → Says Locations raw entry → AreSaid Locations raws entries → AreSaid Locations (if keeps then raw ∷ raws else raws) (if keeps then entry ∷ entries else entries)
said_kept true raw raws entry entries h s = (h, s)
said_kept false raw raws entry entries h s = s

-- the entries that set no base
abbrev no_setters : List Entry → List Entry
no_setters entries = filter (λ (entry : Entry). not (sets_base entry.kind)) entries

pub items_said : (raws : List RawEntry) (entries : List Entry) → AreSaid Locations raws entries → AreSaid Locations (items_among raws) (no_setters entries)
items_said [] [] s = tt
items_said (raw ∷ raws) (entry ∷ entries) (h, s) =
    subst (λ (z : Bool). AreSaid Locations (if z then raw ∷ items_among raws else items_among raws) (no_setters (entry ∷ entries))) (sym (item_says raw entry h))
    (said_kept (not (sets_base entry.kind)) raw (items_among raws) entry (no_setters entries) h (items_said raws entries s))
items_said [] (entry ∷ entries) s = absurd s
items_said (raw ∷ raws) [] s = absurd s

-- ---- one list of bounds, one for each item

each_from : (addr : List ℕ) (context : Context) (base : ℕ) (raws : List RawEntry) (entries : List Entry) (bounds : List Bounds) → AreSaid Locations raws entries → GiveFrom addr context base entries bounds → AllZip (SaysBounds addr context) (items_among raws) bounds
each_from addr context base [] [] bounds s e = subst (λ (z : List Bounds). AllZip (SaysBounds addr context) [] z) (sym e) tt
each_from addr context base (raw ∷ raws) (entry ∷ entries) bounds (h, s) (inl (next, f, g)) =
    subst (λ (z : Bool). AllZip (SaysBounds addr context) (if z then raw ∷ items_among raws else items_among raws) bounds) (sym (setter_is_none addr context raw entry next h f))
    (each_from addr context next raws entries bounds s g)
each_from addr context base (raw ∷ raws) (entry ∷ entries) bounds (h, s) (inr (item, rest, f, e, g)) =
    subst (λ (z : Bool). AllZip (SaysBounds addr context) (if z then raw ∷ items_among raws else items_among raws) bounds) (sym (item_is_one addr context raw entry base item h f))
    (subst (λ (z : List Bounds). AllZip (SaysBounds addr context) (raw ∷ items_among raws) z) (sym e) ((entry, base, h, f), each_from addr context base raws entries rest s g))
each_from addr context base [] (entry ∷ entries) bounds s g = absurd s
each_from addr context base (raw ∷ raws) [] bounds s g = absurd s

pub bounds_each : (addr : List ℕ) (context : Context) (raws : List RawEntry) (entries : List Entry) (bounds : List Bounds) → AreSaid Locations raws entries → Give addr context entries bounds → AllZip (SaysBounds addr context) (items_among raws) bounds
bounds_each addr context raws entries bounds s g = each_from addr context context.base raws entries bounds s g

pub bounds_counted : (addr : List ℕ) (context : Context) (raws : List RawEntry) (entries : List Entry) (bounds : List Bounds) → AreSaid Locations raws entries → Give addr context entries bounds → length bounds ≡ length (items_among raws)
bounds_counted addr context raws entries bounds s g = AllZip-long (SaysBounds addr context) (items_among raws) bounds (bounds_each addr context raws entries bounds s g)

-- ---- one meaning

same_items : (raws : List RawEntry) (bounds : List Bounds) (items others : List Item) → AreItems raws bounds items → AreItems raws bounds others → items ≡ others
same_items [] [] [] [] h k = refl
same_items (raw ∷ raws) (b ∷ bounds) (item ∷ items) (other ∷ others) h k =
    ap (λ (z : Item). z ∷ items) (h.0 ∙ sym k.0) ∙ ap (λ (z : List Item). other ∷ z) (same_items raws bounds items others h.1 k.1)
same_items [] [] [] (other ∷ others) h k = absurd k
same_items [] [] (item ∷ items) others h k = absurd h
same_items [] (b ∷ bounds) items others h k = absurd h
same_items (raw ∷ raws) [] items others h k = absurd h
same_items (raw ∷ raws) (b ∷ bounds) [] others h k = absurd h
same_items (raw ∷ raws) (b ∷ bounds) (item ∷ items) [] h k = absurd k

same_meaning : (raws : List RawEntry) (bounds : List Bounds) (meaning other : Meaning) → Means raws bounds meaning → Means raws bounds other → meaning ≡ other
same_meaning raws bounds (Live items) (Live others) h k = ap Live (same_items (items_among raws) bounds items others h.1 k.1)
same_meaning raws bounds Dead Dead h k = refl
same_meaning raws bounds (Live items) Dead h k = absurd (k h.0)
same_meaning raws bounds Dead (Live items) h k = absurd (h k.0)

pub one_meaning : OneSaying → OneWalk → (addr : List ℕ) (context : Context) (raws : List RawEntry) (meaning other : Meaning) → IsMeaning addr context raws meaning → IsMeaning addr context raws other → meaning ≡ other
one_meaning saying walk addr context raws meaning other h k =
    let entries : h.entries ≡ k.entries = saying Locations raws h.entries k.entries h.said k.said in
    let there : Give addr context k.entries h.bounds = subst (λ (z : List Entry). Give addr context z h.bounds) entries h.gives in
    let bounds : h.bounds ≡ k.bounds = walk addr context k.entries h.bounds k.bounds there k.gives in
    same_meaning raws k.bounds meaning other (subst (λ (z : List Bounds). Means raws z meaning) bounds h.means) k.means

pub items_whole : WalksWhole → (addr : List ℕ) (context : Context) (raws : List RawEntry) (meaning : Meaning) → IsMeaning addr context raws meaning → ¬ IsFaulty (FaultIndexes Locations context raws)
items_whole walk addr context raws meaning h = walk Locations addr context raws h.entries h.bounds h.said h.gives
