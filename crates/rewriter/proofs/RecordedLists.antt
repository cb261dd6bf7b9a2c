-- The records of the lists of a kind, one after the other: those of the lists that aren't kept.
use Rattle.std.proofs.Common.{◌≡◌, true, false, ◌<◌, ◌+◌, ◌++◌, ◌∙◌, ℕ, suc, List, [], ◌∷◌, length, get_or, map, inl, inr, sym, ap, refl, subst, arith}
use Rattle.std.specs.Prelude.{◌≢◌, ◌⊎◌, slice_index}
use Rattle.std.specs.List.{All, AllZip, Contains}
use Rattle.std.proofs.lemmas.Bool.{cases_Bool, cases_lt}
use Rattle.std.proofs.lemmas.List.{get_or_append_left, get_or_push, get_or_default, length_push, map-append}
use Rattle.std.proofs.lemmas.List.Elements.{All-nil, All-push, All-weaker, All-get_or, Contains-append_left, Contains-push}
use Rattle.dw_base.specs.declared.classes.Classes.{Classes}
use Rattle.spelled.specs.Spelled.{Joined, Appends}
use Rattle.spelled.proofs.Joins.{joined_push}
use Rattle.leb_codec.specs.Records.{Record, OfList, SpellsRecord}
use Rattle.list_model.specs.declared.entry.ListKind.{ListKind}
use Rattle.list_model.specs.declared.item.Meaning.{Meaning}
use Rattle.list_model.specs.declared.item.Meaning.TheVariants.{Live, Dead}
use Rattle.list_arena.specs.Held.{HeldList}
use Rattle.written_files.specs.Kept.{IsKept}
use Rattle.written_files.specs.Layouts.{AreNumbersOf}
use Rattle.value_links.specs.Lists.{IsFrozen}
use Rattle.value_links.specs.Reading.{ListRead, Linkable, Reading, lists_of, list_at}
use Rattle.value_links.specs.World.{World, lists_held, HoldsMeaning, HoldsList, Holds}
use Rattle.rewriter.specs.inside.Plans.{ArePotentialsOf, AreRecordedTo}
use Rattle.rewriter.specs.inside.Lists.{IsRecordedFor, AreListsRecorded}
use Rattle.rewriter.proofs.Links.{some_of}
use Rattle.rewriter.proofs.MovedSlots.{zip_append}
use Rattle.rewriter.proofs.PlannedLists.{not_kept}

-- ---- numbers of which something holds

pub no_numbers : (P : ℕ → Type 0) → AreNumbersOf P 0 []
no_numbers P = record {
  rising = λ i j less inside. absurd (omega arith);
  those = All-nil (λ (k : ℕ). (k < 0) × P k);
  all = λ k less holds. absurd (omega arith);
}

-- it holds of the next number too
pub number_more : (P : ℕ → Type 0) (n : ℕ) (numbers : List ℕ) → AreNumbersOf P n numbers → P n → AreNumbersOf P (n + 1) (numbers ++ n ∷ [])
number_more P n numbers are next = record {
  rising = rising;
  those = All-push (λ (k : ℕ). (k < n + 1) × P k) numbers n (All-weaker (λ (k : ℕ). (k < n) × P k) (λ (k : ℕ). (k < n + 1) × P k) (λ k (less, holds). (omega (arith, less), holds)) numbers are.those) (omega arith, next);
  all = λ k less holds. elim (cases_lt k n) [
    | inl before ↦ Contains-append_left numbers (n ∷ []) k (are.all k before holds)
    | inr past ↦ let here : n ≡ k = omega arith in subst (Contains (numbers ++ n ∷ [])) here (Contains-push numbers n)
  ];
}
  where
    before_all : (i : ℕ) → i < length numbers → get_or numbers i 0 < n
    before_all i inside = (All-get_or (λ (k : ℕ). (k < n) × P k) numbers i 0 inside are.those).0

    rising : (i j : ℕ) → i < j → j < length (numbers ++ n ∷ []) → slice_index (numbers ++ n ∷ []) i < slice_index (numbers ++ n ∷ []) j
    rising i j less inside =
        let size : length (numbers ++ n ∷ []) ≡ length numbers + 1 = length_push numbers n in
        let first : i < length numbers = omega arith in
        let own : get_or (numbers ++ n ∷ []) i 0 ≡ get_or numbers i 0 = get_or_append_left numbers (n ∷ []) 0 i first in
        elim (cases_lt j (length numbers)) [
          | inl before ↦
              let other : get_or (numbers ++ n ∷ []) j 0 ≡ get_or numbers j 0 = get_or_append_left numbers (n ∷ []) 0 j before in
              let below : get_or numbers i 0 < get_or numbers j 0 = are.rising i j less before in
              omega (arith, own, other, below)
          | inr past ↦
              let last : get_or (numbers ++ n ∷ []) j 0 ≡ n = get_or_push numbers n 0 j (omega arith) in
              let below = before_all i first in
              omega (arith, own, last, below)
        ]

-- it doesn't
pub number_less : (P : ℕ → Type 0) (n : ℕ) (numbers : List ℕ) → AreNumbersOf P n numbers → (P n → ⊥) → AreNumbersOf P (n + 1) numbers
number_less P n numbers are none = record {
  rising = are.rising;
  those = All-weaker (λ (k : ℕ). (k < n) × P k) (λ (k : ℕ). (k < n + 1) × P k) (λ k (less, holds). (omega (arith, less), holds)) numbers are.those;
  all = λ k less holds. elim (cases_lt k n) [
    | inl before ↦ are.all k before holds
    | inr past ↦ let here : k ≡ n = omega arith in absurd (none (subst P here holds))
  ];
}

-- they are those of which something else holds, where it does so exactly where the first does
pub numbers_for : (P Q : ℕ → Type 0) (n m : ℕ) → n ≡ m → ((k : ℕ) → k < n → P k → Q k) → ((k : ℕ) → k < n → Q k → P k) → (numbers : List ℕ) → AreNumbersOf P n numbers → AreNumbersOf Q m numbers
numbers_for P Q n m same there back numbers are = record {
  rising = are.rising;
  those = All-weaker (λ (k : ℕ). (k < n) × P k) (λ (k : ℕ). (k < m) × Q k) (λ k (less, holds). (omega (arith, same, less), there k less holds)) numbers are.those;
  all = λ k less holds. (let inside : k < n = omega (arith, same, less) in are.all k inside (back k inside holds));
}

-- what goes with numbers goes with them in other words, where these follow of each of the numbers
pub zip_for : {Y : Type 0} (Q : ℕ → Type 0) (P R : ℕ → Y → Type 0) → ((k : ℕ) (y : Y) → Q k → P k y → R k y) → (ks : List ℕ) (ys : List Y) → All Q ks → AllZip P ks ys → AllZip R ks ys
zip_for Q P R follows [] [] all zip = zip
zip_for Q P R follows [] (y ∷ ys) all zip = absurd zip
zip_for Q P R follows (k ∷ ks) [] all zip = absurd zip
zip_for Q P R follows (k ∷ ks) (y ∷ ys) all (first, zip) =
    (follows k y (all 0 k (omega arith)) first, zip_for Q P R follows ks ys (λ i d less. all (suc i) d (omega arith)) zip)

-- ---- the records of the first lists

module _ (world : World) (kind : ListKind) where
  abbrev held_at : ℕ → HeldList → HeldList
  held_at k d = get_or (lists_held world kind) k d

  abbrev IsLiveAt : Classes → ℕ → Type 0
  IsLiveAt classes k = (classes.lists ≡ true) × ((d : HeldList) → (held_at k d).meaning ≢ Dead)

  abbrev HasPotentials : Classes → ℕ → List ℕ → Type 0
  HasPotentials classes k each = (d : HeldList) → ArePotentialsOf classes world kind (held_at k d) each

  pub recorded_none : {classes : Classes} → (records : List ℕ) → records ≡ [] → AreRecordedTo classes world kind 0 records
  recorded_none {classes} records none = record { numbers = []; live = no_numbers (IsLiveAt classes); potentials = []; recorded = tt; spelled = none }

  -- the list behind them, which is live or dead
  module _ {classes : Classes} (n : ℕ) (records new : List ℕ) (old : AreRecordedTo classes world kind n records) (list : HeldList) (inside : n < length (lists_held world kind)) (is : list ≡ get_or (lists_held world kind) n list) where
    same : (d : HeldList) → list ≡ held_at n d
    same d = is ∙ get_or_default (lists_held world kind) n list d inside

    recorded_live : (potentials : List ℕ) → classes.lists ≡ true → list.meaning ≢ Dead → ArePotentialsOf classes world kind list potentials → Appends SpellsRecord (OfList potentials) records new → AreRecordedTo classes world kind (n + 1) new
    recorded_live potentials lists live are (bytes, spelled, whole) = record {
      numbers = old.numbers ++ n ∷ [];
      live = number_more (IsLiveAt classes) n old.numbers old.live (lists, λ d. subst (λ (z : HeldList). z.meaning ≢ Dead) (same d) live);
      potentials = old.potentials ++ potentials ∷ [];
      recorded = zip_append (HasPotentials classes) old.numbers (n ∷ []) old.potentials (potentials ∷ []) old.recorded (λ d. subst (λ (z : HeldList). ArePotentialsOf classes world kind z potentials) (same d) are, tt);
      spelled =
          subst (λ (z : List ℕ). Joined SpellsRecord (map OfList (old.potentials ++ potentials ∷ [])) z) (sym whole)
          (subst (λ (z : List Record). Joined SpellsRecord z (records ++ bytes)) (sym (map-append OfList old.potentials (potentials ∷ []))) (joined_push SpellsRecord (map OfList old.potentials) (OfList potentials) records bytes old.spelled spelled));
    }

    recorded_kept : (classes.lists ≡ true → list.meaning ≡ Dead) → new ≡ records → AreRecordedTo classes world kind (n + 1) new
    recorded_kept dead kept = record {
      numbers = old.numbers;
      live = number_less (IsLiveAt classes) n old.numbers old.live (λ (lists, live). live list (ap (λ (z : HeldList). z.meaning) (sym is) ∙ dead lists));
      potentials = old.potentials;
      recorded = old.recorded;
      spelled = subst (λ (z : List ℕ). Joined SpellsRecord (map OfList old.potentials) z) (sym kept) old.spelled;
    }

    by_meaning : (meaning : Meaning) → list.meaning ≡ meaning → (potentials : List ℕ) → (classes.lists ≡ true → list.meaning ≢ Dead → ArePotentialsOf classes world kind list potentials) → (classes.lists ≡ true → list.meaning ≢ Dead → Appends SpellsRecord (OfList potentials) records new) → ((classes.lists ≡ false) ⊎ (list.meaning ≡ Dead) → new ≡ records) → AreRecordedTo classes world kind (n + 1) new
    by_meaning (Live items) means potentials are appends kept =
        let live : list.meaning ≢ Dead = λ dead. (let apart : Live items ≡ Dead = sym means ∙ dead in cc (apart)) in
        elim (cases_Bool classes.lists) [
          | inl lists ↦ recorded_live potentials lists live (are lists live) (appends lists live)
          | inr all ↦ recorded_kept (λ lists. absurd (cc (lists, all))) (kept (inl all))
        ]
    by_meaning Dead means potentials are appends kept = recorded_kept (λ lists. means) (kept (inr means))

    pub recorded_more : (potentials : List ℕ) → (classes.lists ≡ true → list.meaning ≢ Dead → ArePotentialsOf classes world kind list potentials) → (classes.lists ≡ true → list.meaning ≢ Dead → Appends SpellsRecord (OfList potentials) records new) → ((classes.lists ≡ false) ⊎ (list.meaning ≡ Dead) → new ≡ records) → AreRecordedTo classes world kind (n + 1) new
    recorded_more = by_meaning list.meaning refl

  -- ---- all lists

  -- a list that isn't kept is one of classes that have other entries
  some_lists : (classes : Classes) (r : Linkable) (other : ListKind) (list : ListRead) → (¬ IsKept classes r other list) → classes.lists ≡ true
  some_lists classes r other list free = elim (cases_Bool classes.lists) [
    | inl lists ↦ lists
    | inr all ↦ absurd (free (inl all))
  ]

  -- a list is frozen exactly where it is held as dead
  live_read : (r : Linkable) (list : ListRead) (held : HeldList) (meaning : Meaning) → held.meaning ≡ meaning → HoldsList r kind list held → held.meaning ≢ Dead → ¬ IsFrozen r kind list
  live_read r list held (Live items) means holds live = (subst (λ (z : Meaning). HoldsMeaning r kind list held.owner z) means holds.meaning).0
  live_read r list held Dead means holds live = absurd (live means)

  live_held : (r : Linkable) (list : ListRead) (held : HeldList) → HoldsList r kind list held → (¬ IsFrozen r kind list) → held.meaning ≢ Dead
  live_held r list held holds free = λ dead. free (subst (λ (z : Meaning). HoldsMeaning r kind list held.owner z) dead holds.meaning)

  pub all_recorded : {classes : Classes} → (count : ℕ) (records : List ℕ) → count ≡ length (lists_held world kind) → AreRecordedTo classes world kind count records → (r : Reading) → Holds world.image world r → AreListsRecorded classes r kind records
  all_recorded {classes} count records whole recorded r holds = record {
    numbers = recorded.numbers;
    live = numbers_for (IsLiveAt classes) IsFree count (length (lists_of r kind)) size free held_live recorded.numbers recorded.live;
    potentials = recorded.potentials;
    recorded = zip_for (λ (k : ℕ). (k < count) × IsLiveAt classes k) (HasPotentials classes) (λ (k : ℕ) (each : List ℕ). IsRecordedFor classes r kind (list_at (lists_of r kind) k) each) (λ k each (less, live) are. (
        let d = some k less in are d r (list_at (lists_of r kind) k) holds (held k less)
        )) recorded.numbers recorded.potentials recorded.live.those recorded.recorded;
    spelled = recorded.spelled;
  }
    where
      IsFree : ℕ → Type 0
      IsFree k = ¬ IsKept classes r.links kind (list_at (lists_of r kind) k)

      size : count ≡ length (lists_of r kind)
      size = whole ∙ (holds.lists kind).count

      some : (k : ℕ) → k < count → HeldList
      some k less = some_of (lists_held world kind) k (omega (arith, whole, less))

      held : (k : ℕ) (less : k < count) → HoldsList r.links kind (list_at (lists_of r kind) k) (held_at k (some k less))
      held k less = (holds.lists kind).each k (some k less) (omega (arith, size, less))

      free : (k : ℕ) → k < count → IsLiveAt classes k → IsFree k
      free k less (lists, live) = not_kept classes r.links kind (list_at (lists_of r kind) k) lists (live_read r.links (list_at (lists_of r kind) k) (held_at k (some k less)) (held_at k (some k less)).meaning refl (held k less) (live (some k less)))

      held_live : (k : ℕ) → k < count → IsFree k → IsLiveAt classes k
      held_live k less is_free = (some_lists classes r.links kind (list_at (lists_of r kind) k) is_free, λ d. live_held r.links (list_at (lists_of r kind) k) (held_at k d) ((holds.lists kind).each k d (omega (arith, size, less))) (λ frozen. is_free (inr frozen)))
