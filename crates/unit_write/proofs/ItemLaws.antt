-- The items of a unit that are written one after the other.
use Rattle.std.proofs.Common.{◌≡◌, ◌<◌, ◌+◌, ℕ, List, [], ◌∷◌, ◌++◌, length, add-one, ◌∙◌, sym, ap, refl, subst}
use Rattle.std.specs.Prelude.{Some, None}
use Rattle.std.proofs.lemmas.List.{append-nil, append_assoc}
use Rattle.spelled.specs.Spelled.{Appends}
use Rattle.form_codec.specs.declared.value.Value.{Value}
use Rattle.abbrev_tables.specs.Tables.{Declared}
use Rattle.entry_arena.specs.Arena.{Arena, with_values}
use Rattle.entry_arena.specs.Trees.{Listed, listed_to, nothing_from}
use Rattle.entry_arena.specs.Walks.{Item, IsWhole, opened}
use Rattle.entry_arena.specs.Walks.Item.{AnEntry, AnEnd}
use Rattle.entry_arena.specs.Onward.{HasWalked, EntryIsNext, EndIsNext}
use Rattle.unit_write.specs.declared.items.Items.{Items}
use Rattle.unit_write.specs.declared.items.Next.{Next}
use Rattle.unit_write.specs.declared.items.Next.TheVariants.{Entry as TheEntry, End as TheEnd}
use Rattle.unit_write.specs.inside.Readings.{GoesOn, HasItem}
use Rattle.unit_write.specs.inside.Puts.{PutsItems, PutsNext}

-- a front of a walk is written, and so is the whole walk with bytes of what follows
pub record WalkPut (Puts : ℕ → List ℕ → Type 0) (f : Arena) (ds : List Declared) (start place : ℕ) (all : List Item) (at : Items) (bytes : List ℕ) : Type 0 where
  pub items : List Item
  pub now : Listed
  pub chains : List ℕ
  pub rest : List Item
  pub walked : HasWalked f.section ds start (listed_to f place) at.entries at.ends items now chains rest
  pub more : (tail : List ℕ) → PutsItems Puts at.entries rest tail → PutsItems Puts 0 all (bytes ++ tail)

-- whatever walk it is, with whatever values
pub record ItemsPut (Puts : ℕ → List ℕ → Type 0) (f : Arena) (at : Items) (old new : List ℕ) : Type 0 where
  pub bytes : List ℕ
  pub out : new ≡ old ++ bytes
  pub walks : (values : List Value) (ds : List Declared) (start place : ℕ) → (whole : IsWhole f.section ds start (listed_to (with_values f values) place)) → WalkPut Puts (with_values f values) ds start place whole.items at bytes

module _ (Puts : ℕ → List ℕ → Type 0) (f : Arena) where
  entry_more : (ds : List Declared) (start place : ℕ) (all : List Item) (at : Items) (bytes b : List ℕ) → (w : WalkPut Puts f ds start place all at bytes) → EntryIsNext f.section ds start (listed_to f place) at.entries at.ends w.items w.now w.chains w.rest → Puts at.entries b → WalkPut Puts f ds start place all (record { entries = at.entries + 1; ends = at.ends }) (bytes ++ b)
  entry_more ds start place all at bytes b w e p = record {
    items = w.items ++ AnEntry e.number ∷ [];
    now = e.mid;
    chains = opened ds e.number at.entries w.chains;
    rest = e.later;
    walked = e.next;
    more = λ tail q.
        let q2 = subst (λ (n : ℕ). PutsItems Puts n e.later tail) (add-one at.entries) q in
        let here : PutsItems Puts at.entries (AnEntry e.number ∷ e.later) (b ++ tail) = (b, tail, p, q2, refl) in
        subst (PutsItems Puts 0 all) (sym (append_assoc bytes b tail)) (w.more (b ++ tail) (subst (λ (z : List Item). PutsItems Puts at.entries z (b ++ tail)) (sym e.rest_is) here));
  }

  end_more : (ds : List Declared) (start place : ℕ) (all : List Item) (at : Items) (bytes b : List ℕ) → (w : WalkPut Puts f ds start place all at bytes) → EndIsNext f.section ds start (listed_to f place) at.entries at.ends w.items w.now w.chains w.rest → b ≡ 0 ∷ [] → WalkPut Puts f ds start place all (record { entries = at.entries; ends = at.ends + 1 }) (bytes ++ b)
  end_more ds start place all at bytes b w e p = record {
    items = w.items ++ AnEnd ∷ [];
    now = e.mid;
    chains = e.outer;
    rest = e.later;
    walked = e.next;
    more = λ tail q.
        let here : PutsItems Puts at.entries (AnEnd ∷ e.later) (b ++ tail) = (tail, q, ap (λ z. z ++ tail) p) in
        subst (PutsItems Puts 0 all) (sym (append_assoc bytes b tail)) (w.more (b ++ tail) (subst (λ (z : List Item). PutsItems Puts at.entries z (b ++ tail)) (sym e.rest_is) here));
  }

module _ (Puts : ℕ → List ℕ → Type 0) (f : Arena) where
  pub no_item : (at : Items) (old : List ℕ) → at ≡ record { entries = 0; ends = 0 } → ItemsPut Puts f at old old
  no_item at old e =
      subst (λ (z : Items). ItemsPut Puts f z old old) (sym e) (record {
        bytes = [];
        out = sym (append-nil old);
        walks = λ values ds start place whole. record {
          items = [];
          now = nothing_from start;
          chains = [];
          rest = whole.items;
          walked = record { walked = (refl, refl); onward = whole.walked; entries_are = refl; ends_are = refl };
          more = λ tail p. p;
        };
      })

  pub item_put : (at new : Items) (next : Next) (old mid out : List ℕ) → GoesOn f at new (Some next) → ItemsPut Puts f at old mid → Appends (PutsNext Puts) next mid out → ItemsPut Puts f new old out
  item_put at new (TheEntry id) old mid out goes put (b, p, e) = record {
    bytes = put.bytes ++ b;
    out = e ∙ ap (λ z. z ++ b) put.out ∙ append_assoc old put.bytes b;
    walks = λ values ds start place whole.
        let w = put.walks values ds start place whole in
        let g = goes values ds start place w.items w.now w.chains w.rest w.walked in
        let here = subst (λ (n : ℕ). Puts n b) g.0 p in
        subst (λ (z : Items). WalkPut Puts (with_values f values) ds start place whole.items z (put.bytes ++ b)) (sym g.1) (entry_more Puts (with_values f values) ds start place whole.items at put.bytes b w g.2 here);
  }
  item_put at new TheEnd old mid out goes put (b, p, e) = record {
    bytes = put.bytes ++ b;
    out = e ∙ ap (λ z. z ++ b) put.out ∙ append_assoc old put.bytes b;
    walks = λ values ds start place whole.
        let w = put.walks values ds start place whole in
        let g = goes values ds start place w.items w.now w.chains w.rest w.walked in
        subst (λ (z : Items). WalkPut Puts (with_values f values) ds start place whole.items z (put.bytes ++ b)) (sym g.0) (end_more Puts (with_values f values) ds start place whole.items at put.bytes b w g.1 p);
  }

  pub items_put : (at new : Items) (old out : List ℕ) → GoesOn f at new None → ItemsPut Puts f at old out → (values : List Value) (ds : List Declared) (start place : ℕ) (whole : IsWhole f.section ds start (listed_to (with_values f values) place)) → Appends (PutsItems Puts 0) whole.items old out
  items_put at new old out goes put values ds start place whole =
      let w = put.walks values ds start place whole in
      let g = goes values ds start place w.items w.now w.chains w.rest w.walked in
      let none : PutsItems Puts at.entries w.rest [] = subst (λ (z : List Item). PutsItems Puts at.entries z []) (sym g.1.rest_is) refl in
      (put.bytes, subst (PutsItems Puts 0 whole.items) (append-nil put.bytes) (w.more [] none), put.out)

  pub item_held : (at new : Items) (next : Next) (old mid : List ℕ) (values : List Value) (ds : List Declared) (start place : ℕ) → GoesOn f at new (Some next) → ItemsPut Puts f at old mid → IsWhole f.section ds start (listed_to (with_values f values) place) → HasItem f next
  item_held at new (TheEntry id) old mid values ds start place goes put whole =
      let w = put.walks values ds start place whole in
      let g = goes values ds start place w.items w.now w.chains w.rest w.walked in
      subst (λ (n : ℕ). n < length f.entries) (sym g.0) g.2.inside
  item_held at new TheEnd old mid values ds start place goes put whole = tt
