-- Walks over what is held of a unit: there is one, and how many entries stand before each code 0 of it.
use Rattle.std.proofs.Common.{◌≡◌, ◌<◌, ◌+◌, ℕ, suc, List, [], ◌∷◌, ◌++◌, length, add-one, add-zero, ◌∙◌, sym, ap, refl, subst, arith, inl, inr}
use Rattle.std.specs.Prelude.{Some, None}
use Rattle.std.proofs.lemmas.List.{append-nil, append_assoc, length_push}
use Rattle.form_codec.specs.declared.value.Value.{Value}
use Rattle.abbrev_tables.specs.Tables.{Declared}
use Rattle.entry_arena.specs.declared.entry.Entry.{Entry}
use Rattle.entry_arena.specs.declared.entry.ChainEnd.{ChainEnd}
use Rattle.entry_arena.specs.Arena.{Arena, entry_at, chain_end_at, with_values}
use Rattle.entry_arena.specs.Trees.{Listed, listed_to, nothing_from}
use Rattle.entry_arena.specs.Walks.{Item, IsWhole, Walks, opened}
use Rattle.entry_arena.specs.Walks.Item.{AnEntry, AnEnd}
use Rattle.entry_arena.specs.Onward.{HasWalked, EntryIsNext, EndIsNext}
use Rattle.entry_arena.proofs.OnwardLaws.{walks_go_on}
use Rattle.unit_write.specs.declared.items.Items.{Items}
use Rattle.unit_write.specs.declared.items.Next.{Next}
use Rattle.unit_write.specs.declared.items.Next.TheVariants.{Entry as TheEntry, End as TheEnd}
use Rattle.unit_write.specs.Placing.{ArePlaced}
use Rattle.unit_write.specs.inside.Readings.{GoesOn}
use Rattle.unit_write.specs.inside.Marks.{EndsFollow, AreEntriesCounted}

same_numbers : (m n : ℕ) (xs ys : List Item) → AnEntry m ∷ xs ≡ AnEntry n ∷ ys → m ≡ n
same_numbers m n xs ys e = cc

pub same_tails : (x y : Item) (xs ys : List Item) → x ∷ xs ≡ y ∷ ys → xs ≡ ys
same_tails x y xs ys e = cc

pub other_items : (m : ℕ) (xs ys : List Item) → AnEntry m ∷ xs ≡ AnEnd ∷ ys → ⊥
other_items m xs ys e = cc

pub some_items : (x : Item) (xs : List Item) → x ∷ xs ≡ [] → ⊥
some_items x xs e = cc

module _ (f : Arena) (ds : List Declared) (start p q : ℕ) (vs ws : List Value) where
  abbrev HasCome : List Value → ℕ → ℕ → ℕ → List Item → Listed → List ℕ → List Item → Type 0
  HasCome values place entries ends done now chains rest = HasWalked f.section ds start (listed_to (with_values f values) place) entries ends done now chains rest

  -- what is left of two walks that have listed as much is the same, whatever the values are
  same_rest : (entries ends : ℕ) (done other : List Item) (now then : Listed) (chains outer : List ℕ) (rest left : List Item) → HasCome vs p entries ends done now chains rest → HasCome ws q entries ends other then outer left → rest ≡ left
  same_rest entries ends done other now then chains outer [] left a b =
      let all = ((walks_go_on f.section ds start (listed_to (with_values f vs) p) entries ends done now chains [] a).done).0 refl in
      sym (((walks_go_on f.section ds start (listed_to (with_values f ws) q) entries ends other then outer left b).all all.0 all.1).rest_is)
  same_rest entries ends done other now then chains outer (AnEntry number ∷ later) left a b =
      elim ((walks_go_on f.section ds start (listed_to (with_values f vs) p) entries ends done now chains (AnEntry number ∷ later) a).cases) [
        | inl e ↦
            let here : (entry_at f.entries entries).at ≡ now.place = ap (λ (z : Entry). z.at) e.here in
            let there = (walks_go_on f.section ds start (listed_to (with_values f ws) q) entries ends other then outer left b).entry e.inside (λ lt. let before : now.place < (chain_end_at f.ends ends).at = e.before_ends ends (omega arith) lt in omega arith) in
            let same : number ≡ there.number = same_numbers number e.number later e.later e.rest_is ∙ sym (ap (λ (z : Entry). z.decl) e.here) ∙ ap (λ (z : Entry). z.decl) there.here in
            let onward = subst (λ (z : List Item). HasCome vs p (entries + 1) ends (done ++ AnEntry e.number ∷ []) e.mid (opened ds e.number entries chains) z) (sym (same_tails (AnEntry number) (AnEntry e.number) later e.later e.rest_is)) e.next in
            let more : later ≡ there.later = same_rest (entries + 1) ends (done ++ AnEntry e.number ∷ []) (other ++ AnEntry there.number ∷ []) e.mid there.mid (opened ds e.number entries chains) (opened ds there.number entries outer) later there.later onward there.next in
            ap (λ (z : ℕ). AnEntry z ∷ later) same ∙ ap (λ (z : List Item). AnEntry there.number ∷ z) more ∙ sym there.rest_is
        | inr (inl e) ↦ absurd (other_items number later e.later e.rest_is)
        | inr (inr w) ↦ absurd (some_items (AnEntry number) later w.rest_is)
      ]
  same_rest entries ends done other now then chains outer (AnEnd ∷ later) left a b =
      elim ((walks_go_on f.section ds start (listed_to (with_values f vs) p) entries ends done now chains (AnEnd ∷ later) a).cases) [
        | inl e ↦ absurd (other_items e.number e.later later (sym e.rest_is))
        | inr (inl e) ↦
            let here : (chain_end_at f.ends ends).at ≡ now.place = ap (λ (z : ChainEnd). z.at) e.here in
            let there = (walks_go_on f.section ds start (listed_to (with_values f ws) q) entries ends other then outer left b).chain_end e.inside (λ lt. let before : now.place < (entry_at f.entries entries).at = e.before_entries entries (omega arith) lt in omega arith) in
            let onward = subst (λ (z : List Item). HasCome vs p entries (ends + 1) (done ++ AnEnd ∷ []) e.mid e.outer z) (sym (same_tails AnEnd AnEnd later e.later e.rest_is)) e.next in
            let more : later ≡ there.later = same_rest entries (ends + 1) (done ++ AnEnd ∷ []) (other ++ AnEnd ∷ []) e.mid there.mid e.outer there.outer later there.later onward there.next in
            ap (λ (z : List Item). AnEnd ∷ z) more ∙ sym there.rest_is
        | inr (inr w) ↦ absurd (some_items AnEnd later w.rest_is)
      ]

  pub same_items : (a : IsWhole f.section ds start (listed_to (with_values f vs) p)) → (b : IsWhole f.section ds start (listed_to (with_values f ws) q)) → a.items ≡ b.items
  same_items a b = same_rest 0 0 [] [] (nothing_from start) (nothing_from start) [] [] a.items b.items (record { walked = (refl, refl); onward = a.walked; entries_are = refl; ends_are = refl }) (record { walked = (refl, refl); onward = b.walked; entries_are = refl; ends_are = refl })

-- of a front of a walk it is counted how many entries stand before each code 0, and so of the whole walk with counts of what follows
pub record WalkCounted (f : Arena) (ds : List Declared) (start place : ℕ) (all : List Item) (at : Items) (counts : List ℕ) : Type 0 where
  pub items : List Item
  pub now : Listed
  pub chains : List ℕ
  pub rest : List Item
  pub walked : HasWalked f.section ds start (listed_to f place) at.entries at.ends items now chains rest
  pub more : (tail : List ℕ) → EndsFollow at.entries rest tail → EndsFollow 0 all (counts ++ tail)

-- whatever walk it is, with whatever values
pub record EndsCounted (f : Arena) (at : Items) (counts : List ℕ) : Type 0 where
  pub walks : (values : List Value) (ds : List Declared) (start place : ℕ) → (whole : IsWhole f.section ds start (listed_to (with_values f values) place)) → WalkCounted (with_values f values) ds start place whole.items at counts

-- one more count for a code 0
abbrev pub counts_with : List ℕ → Next → ℕ → List ℕ
counts_with counts (TheEntry id) count = counts
counts_with counts TheEnd count = counts ++ count ∷ []

module _ (f : Arena) where
  entry_more : (ds : List Declared) (start place : ℕ) (all : List Item) (at : Items) (counts : List ℕ) → (w : WalkCounted f ds start place all at counts) → EntryIsNext f.section ds start (listed_to f place) at.entries at.ends w.items w.now w.chains w.rest → WalkCounted f ds start place all (record { entries = at.entries + 1; ends = at.ends }) counts
  entry_more ds start place all at counts w e = record {
    items = w.items ++ AnEntry e.number ∷ [];
    now = e.mid;
    chains = opened ds e.number at.entries w.chains;
    rest = e.later;
    walked = e.next;
    more = λ tail q.
        let here : EndsFollow at.entries (AnEntry e.number ∷ e.later) tail = subst (λ (n : ℕ). EndsFollow n e.later tail) (add-one at.entries) q in
        w.more tail (subst (λ (z : List Item). EndsFollow at.entries z tail) (sym e.rest_is) here);
  }

  end_more : (ds : List Declared) (start place : ℕ) (all : List Item) (at : Items) (counts : List ℕ) (count : ℕ) → (w : WalkCounted f ds start place all at counts) → EndIsNext f.section ds start (listed_to f place) at.entries at.ends w.items w.now w.chains w.rest → count ≡ at.entries → WalkCounted f ds start place all (record { entries = at.entries; ends = at.ends + 1 }) (counts ++ count ∷ [])
  end_more ds start place all at counts count w e is = record {
    items = w.items ++ AnEnd ∷ [];
    now = e.mid;
    chains = e.outer;
    rest = e.later;
    walked = e.next;
    more = λ tail q.
        let here : EndsFollow at.entries (AnEnd ∷ e.later) (count ∷ tail) = (is, q) in
        subst (EndsFollow 0 all) (sym (append_assoc counts (count ∷ []) tail)) (w.more (count ∷ tail) (subst (λ (z : List Item). EndsFollow at.entries z (count ∷ tail)) (sym e.rest_is) here));
  }

module _ (f : Arena) where
  pub none_counted : (at : Items) (counts : List ℕ) → at ≡ record { entries = 0; ends = 0 } → counts ≡ [] → EndsCounted f at counts
  none_counted at counts e none =
      subst (λ (z : Items). EndsCounted f z counts) (sym e) (subst (λ (z : List ℕ). EndsCounted f (record { entries = 0; ends = 0 }) z) (sym none) (record {
        walks = λ values ds start place whole. record {
          items = [];
          now = nothing_from start;
          chains = [];
          rest = whole.items;
          walked = record { walked = (refl, refl); onward = whole.walked; entries_are = refl; ends_are = refl };
          more = λ tail p. p;
        };
      }))

  pub item_counted : (at new : Items) (next : Next) (counts more : List ℕ) → GoesOn f at new (Some next) → EndsCounted f at counts → more ≡ counts_with counts next new.entries → EndsCounted f new more
  item_counted at new (TheEntry id) counts more goes counted is =
      subst (EndsCounted f new) (sym is) (record {
        walks = λ values ds start place whole.
            let w = counted.walks values ds start place whole in
            let g = goes values ds start place w.items w.now w.chains w.rest w.walked in
            subst (λ (z : Items). WalkCounted (with_values f values) ds start place whole.items z counts) (sym g.1) (entry_more (with_values f values) ds start place whole.items at counts w g.2);
      })
  item_counted at new TheEnd counts more goes counted is =
      subst (EndsCounted f new) (sym is) (record {
        walks = λ values ds start place whole.
            let w = counted.walks values ds start place whole in
            let g = goes values ds start place w.items w.now w.chains w.rest w.walked in
            let same : new.entries ≡ at.entries = ap (λ (z : Items). z.entries) g.0 in
            subst (λ (z : Items). WalkCounted (with_values f values) ds start place whole.items z (counts ++ new.entries ∷ [])) (sym g.0) (end_more (with_values f values) ds start place whole.items at counts new.entries w g.1 same);
      })

  pub all_counted : (at new : Items) (counts : List ℕ) → GoesOn f at new None → EndsCounted f at counts → AreEntriesCounted f counts
  all_counted at new counts goes counted values ds start place whole =
      let w = counted.walks values ds start place whole in
      let g = goes values ds start place w.items w.now w.chains w.rest w.walked in
      let none : EndsFollow at.entries w.rest [] = subst (λ (z : List Item). EndsFollow at.entries z []) (sym g.1.rest_is) tt in
      subst (EndsFollow 0 whole.items) (append-nil counts) (w.more [] none)

-- a walk lists as many entries and codes 0 as have places
pub walk_many : (section : List ℕ) (ds : List Declared) (Size : ℕ → ℕ → Type 0) (id at : ℕ) (items : List Item) (es xs : List ℕ) (to : ℕ) (old new : Listed) (chains left : List ℕ) → Walks section ds old chains items new left → ArePlaced Size id items at es xs to → (length new.entries ≡ length old.entries + length es) × (length new.ends ≡ length old.ends + length xs)
walk_many section ds Size id at [] [] [] to old new chains left (same, kept) p = (ap (λ (z : Listed). length z.entries) same ∙ sym (add-zero (length old.entries)), ap (λ (z : Listed). length z.ends) same ∙ sym (add-zero (length old.ends)))
walk_many section ds Size id at [] (e ∷ es) xs to old new chains left walk p = absurd p
walk_many section ds Size id at [] [] (x ∷ xs) to old new chains left walk p = absurd p
walk_many section ds Size id at (AnEntry number ∷ items) [] xs to old new chains left walk p = absurd p
walk_many section ds Size id at (AnEntry number ∷ items) (e ∷ es) xs to old new chains left (going, (mid, adds, walk)) (here, (size, sized, more)) =
    let entered : length mid.entries ≡ length old.entries + 1 = ap length adds.entered ∙ length_push old.entries _ in
    let ended : length mid.ends ≡ length old.ends = ap length adds.ended in
    let r = walk_many section ds Size (suc id) (at + size) items es xs to mid new (opened ds number (length old.entries) chains) left walk more in
    let entries : length new.entries ≡ length mid.entries + length es = r.0 in
    let ends : length new.ends ≡ length mid.ends + length xs = r.1 in
    (omega arith, omega arith)
walk_many section ds Size id at (AnEnd ∷ items) es [] to old new chains left walk p = absurd p
walk_many section ds Size id at (AnEnd ∷ items) es (x ∷ xs) to old new chains left (parent, outer, mid, same, adds, walk) (here, more) =
    let entered : length mid.entries ≡ length old.entries = ap length adds.entered in
    let ended : length mid.ends ≡ length old.ends + 1 = ap length adds.ended ∙ length_push old.ends _ in
    let r = walk_many section ds Size id (at + 1) items es xs to mid new outer left walk more in
    let entries : length new.entries ≡ length mid.entries + length es = r.0 in
    let ends : length new.ends ≡ length mid.ends + length xs = r.1 in
    (omega arith, omega arith)
