-- Entries that are the same, and items that cover the same addresses.
use Rattle.std.proofs.Common.{◌≡◌, ◌<◌, ◌∙◌, ℕ, List, [], ◌∷◌, length, get_or, Bool, true, false, true≢false, sym, ap, subst, refl}
use Rattle.std.specs.Prelude.{Some, ◌↔◌, IsTrue}
use Rattle.std.specs.List.{AllZip}
use Rattle.std.proofs.lemmas.Option.{same_Some}
use Rattle.dw_base.specs.declared.fault.Span.{Span}
use Rattle.list_model.specs.declared.entry.ListKind.{ListKind}
use Rattle.list_model.specs.declared.entry.RawEntry.{RawEntry}
use Rattle.list_model.specs.declared.item.Item.{Item}
use Rattle.list_model.specs.declared.item.Meaning.TheVariants.{Live, Dead}
use Rattle.list_model.specs.Entries.{Entry, Says, AreSaid, code_of}
use Rattle.list_model.specs.Items.{Bounds, item_of}
use Rattle.list_model.specs.Items.Bounds.{between, elsewhere}
use Rattle.list_model.proofs.EntryLaws.{one_kind, same_entry}
use Rattle.list_arena.specs.Held.{HeldList}
use Rattle.value_links.specs.Resolved.{Content}
use Rattle.value_links.specs.Resolved.Content.{Items, Entries}
use Rattle.same_meaning.specs.inside.Lists.{IsSameEntry, AreSameEntries, CoversSame, CoverSame, AreItemsOf, HasContent}
use Rattle.same_meaning.proofs.Pairs.{same_all, same_count, same_each}

-- no: the answer of a test that failed
pub answers_no : {P : Type 0} → (P → ⊥) → IsTrue false ↔ P
answers_no never = (λ (yes : IsTrue false). absurd (true≢false (sym yes)), λ p. absurd (never p))

pub answers_yes : {P : Type 0} → P → IsTrue true ↔ P
answers_yes p = (λ yes. p, λ q. refl)

-- ---- entries

abbrev IsSaid : ListKind → Entry → RawEntry → Type 0
IsSaid kind entry raw = Says kind raw entry

one_entry : (kind : ListKind) (a b : Entry) (c d : RawEntry) → IsSaid kind a c → IsSaid kind b d → IsSameEntry c d → b ≡ a
one_entry kind a b c d first second is =
    let code : code_of kind a.kind ≡ Some d.code = first.of_code ∙ ap (λ (z : ℕ). Some z) (sym is.code) in
    same_entry b a (one_kind kind b.kind a.kind d.code second.of_code code) (sym second.of_a ∙ is.a ∙ first.of_a) (sym second.of_b ∙ is.b ∙ first.of_b)

alike_entries : (kind : ListKind) (a b : Entry) (c d : RawEntry) → IsSaid kind a c → IsSaid kind b d → b ≡ a → IsSameEntry c d
alike_entries kind a b c d first second is = record {
  code = same_Some d.code c.code (sym second.of_code ∙ ap (λ (z : Entry). code_of kind z.kind) is ∙ first.of_code);
  a = second.of_a ∙ ap (λ (z : Entry). z.a) is ∙ sym first.of_a;
  b = second.of_b ∙ ap (λ (z : Entry). z.b) is ∙ sym first.of_b;
}

zipped : (kind : ListKind) (raws : List RawEntry) (entries : List Entry) → AreSaid kind raws entries → AllZip (IsSaid kind) entries raws
zipped kind [] [] said = tt
zipped kind [] (e ∷ entries) said = absurd said
zipped kind (r ∷ raws) [] said = absurd said
zipped kind (r ∷ raws) (e ∷ entries) (first, said) = (first, zipped kind raws entries said)

module _ (kind : ListKind) (before after : List RawEntry) (entries others : List Entry) (said : AreSaid kind before entries) (again : AreSaid kind after others) where
  pub entries_same : length after ≡ length before → ((k : ℕ) (d : RawEntry) → k < length before → IsSameEntry (get_or before k d) (get_or after k d)) → others ≡ entries
  entries_same count each = same_all (IsSaid kind) IsSameEntry (one_entry kind) (alike_entries kind) entries others before after (zipped kind before entries said) (zipped kind after others again) count each

  pub entries_count : others ≡ entries → length after ≡ length before
  entries_count is = same_count (IsSaid kind) IsSameEntry (one_entry kind) (alike_entries kind) entries others before after (zipped kind before entries said) (zipped kind after others again) is

  pub entries_each : (k : ℕ) (d : RawEntry) → others ≡ entries → k < length before → IsSameEntry (get_or before k d) (get_or after k d)
  entries_each k d is inside = same_each (IsSaid kind) IsSameEntry (one_entry kind) (alike_entries kind) entries others before after k d (zipped kind before entries said) (zipped kind after others again) is inside

-- ---- items

abbrev HasBoundsOf : Bounds → Item → Type 0
HasBoundsOf b item = item ≡ item_of item.expr b

one_bounds : (a b : Bounds) (i j : Item) → HasBoundsOf a i → HasBoundsOf b j → CoversSame i j → b ≡ a
one_bounds (between s e) (between t f) i j first second is =
    let start : t ≡ s = sym (ap (λ (z : Item). z.start) second) ∙ is.start ∙ ap (λ (z : Item). z.start) first in
    let end : f ≡ e = sym (ap (λ (z : Item). z.end) second) ∙ is.end ∙ ap (λ (z : Item). z.end) first in
    ap (λ (z : ℕ). between z f) start ∙ ap (λ (z : ℕ). between s z) end
one_bounds (between s e) elsewhere i j first second is = absurd (true≢false (sym (ap (λ (z : Item). z.whole) second) ∙ is.whole ∙ ap (λ (z : Item). z.whole) first))
one_bounds elsewhere (between t f) i j first second is = absurd (true≢false (sym (sym (ap (λ (z : Item). z.whole) second) ∙ is.whole ∙ ap (λ (z : Item). z.whole) first)))
one_bounds elsewhere elsewhere i j first second is = refl

-- an item's bounds tell what it covers
covers_own : (a : Bounds) (x y : Span) → CoversSame (item_of x a) (item_of y a)
covers_own (between s e) x y = record { whole = refl; start = refl; end = refl }
covers_own elsewhere x y = record { whole = refl; start = refl; end = refl }

alike_bounds : (a b : Bounds) (i j : Item) → HasBoundsOf a i → HasBoundsOf b j → b ≡ a → CoversSame i j
alike_bounds a b i j first second is =
    let there : j ≡ item_of j.expr a = second ∙ ap (item_of j.expr) is in
    subst (λ (z : Item). CoversSame z j) (sym first) (subst (λ (z : Item). CoversSame (item_of i.expr a) z) (sym there) (covers_own a i.expr j.expr))

module _ (before after : List Item) (bounds others : List Bounds) (are : AreItemsOf bounds before) (again : AreItemsOf others after) where
  pub bounds_same : length after ≡ length before → ((k : ℕ) (d : Item) → k < length before → CoversSame (get_or before k d) (get_or after k d)) → others ≡ bounds
  bounds_same count each = same_all HasBoundsOf CoversSame one_bounds alike_bounds bounds others before after are again count each

  pub bounds_count : others ≡ bounds → length after ≡ length before
  bounds_count is = same_count HasBoundsOf CoversSame one_bounds alike_bounds bounds others before after are again is

  pub bounds_each : (k : ℕ) (d : Item) → others ≡ bounds → k < length before → CoversSame (get_or before k d) (get_or after k d)
  bounds_each k d is inside = same_each HasBoundsOf CoversSame one_bounds alike_bounds bounds others before after k d are again is inside

-- ---- contents

live_same : (x y : List Item) → Live x ≡ Live y → x ≡ y
live_same x y same = cc

live_dead : (x : List Item) → Live x ≡ Dead → ⊥
live_dead x same = cc

items_back : (x y : List Bounds) → Items x ≡ Items y → x ≡ y
items_back x y same = cc

entries_back : (x y : List Entry) → Entries x ≡ Entries y → x ≡ y
entries_back x y same = cc

module _ (kind : ListKind) (old new : HeldList) where
  -- two lists that are held by their items
  pub items_decide : (result : Bool) (items others : List Item) → old.meaning ≡ Live items → new.meaning ≡ Live others → IsTrue result ↔ CoverSame items others → (a b : Content) → HasContent kind old a → HasContent kind new b → IsTrue result ↔ (b ≡ a)
  items_decide result items others first second decides (Items xs) (Items ys) (its, live, are) (theirs, alive, again) =
      let one : its ≡ items = live_same its items (sym live ∙ first) in
      let two : theirs ≡ others = live_same theirs others (sym alive ∙ second) in
      let mine : AreItemsOf xs items = subst (λ (z : List Item). AreItemsOf xs z) one are in
      let yours : AreItemsOf ys others = subst (λ (z : List Item). AreItemsOf ys z) two again in (
        λ yes. (let all = decides.0 yes in ap (λ (z : List Bounds). Items z) (bounds_same items others xs ys mine yours all.0 all.1)),
        λ same. (let is : ys ≡ xs = items_back ys xs same in decides.1 (bounds_count items others xs ys mine yours is, λ k d inside. bounds_each items others xs ys mine yours k d is inside)),
      )
  items_decide result items others first second decides (Entries xs) b (dead, said) has = absurd (live_dead items (sym first ∙ dead))
  items_decide result items others first second decides a (Entries ys) has (dead, said) = absurd (live_dead others (sym second ∙ dead))

  -- two lists that are held as dead
  pub entries_decide : (result : Bool) → old.meaning ≡ Dead → new.meaning ≡ Dead → IsTrue result ↔ AreSameEntries old.raw new.raw → (a b : Content) → HasContent kind old a → HasContent kind new b → IsTrue result ↔ (b ≡ a)
  entries_decide result first second decides (Entries xs) (Entries ys) (dead, said) (died, again) = (
    λ yes. (let all = decides.0 yes in ap (λ (z : List Entry). Entries z) (entries_same kind old.raw new.raw xs ys said again all.0 all.1)),
    λ same. (let is : ys ≡ xs = entries_back ys xs same in decides.1 (entries_count kind old.raw new.raw xs ys said again is, λ k d inside. entries_each kind old.raw new.raw xs ys said again k d is inside)),
  )
  entries_decide result first second decides (Items xs) b (its, live, are) has = absurd (live_dead its (sym live ∙ first))
  entries_decide result first second decides a (Items ys) has (its, live, are) = absurd (live_dead its (sym live ∙ second))

  -- one of each
  pub live_apart : (items : List Item) → old.meaning ≡ Live items → new.meaning ≡ Dead → (a b : Content) → HasContent kind old a → HasContent kind new b → IsTrue false ↔ (b ≡ a)
  live_apart items first second (Items xs) (Entries ys) has other = answers_no (λ same. cc)
  live_apart items first second (Items xs) (Items ys) has (its, live, are) = absurd (live_dead its (sym live ∙ second))
  live_apart items first second (Entries xs) b (dead, said) other = absurd (live_dead items (sym first ∙ dead))

  pub dead_apart : (items : List Item) → old.meaning ≡ Dead → new.meaning ≡ Live items → (a b : Content) → HasContent kind old a → HasContent kind new b → IsTrue false ↔ (b ≡ a)
  dead_apart items first second (Entries xs) (Items ys) has other = answers_no (λ same. cc)
  dead_apart items first second (Items xs) b (its, live, are) other = absurd (live_dead its (sym live ∙ first))
  dead_apart items first second (Entries xs) (Entries ys) has (dead, said) = absurd (live_dead items (sym second ∙ dead))
