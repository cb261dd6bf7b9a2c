-- Records that are accepted.
use Rattle.std.proofs.Common.{◌≡◌, ◌<◌, ◌∙◌, ℕ, zero, suc, List, [], ◌∷◌, length, sym, ap, refl, subst, arith}
use Rattle.std.specs.Prelude.{map}
use Rattle.std.proofs.lemmas.List.{length-map}
use Rattle.list_model.specs.declared.context.Context.{Context}
use Rattle.list_model.specs.declared.item.Item.{Item}
use Rattle.list_model.specs.Items.{Bounds}
use Rattle.list_model.specs.Potentials.{AcceptsAt, AcceptsSize, AcceptsList, AreGreatest}
use Rattle.list_least.specs.Plans.{bounds_of, IsItemOf, item_at}
use Rattle.list_least.specs.inside.Search.{AreChosen, AreAllCosts, costs_at, kept_bounds}
use Rattle.list_least.specs.inside.Ways.{IsSearched}
use Rattle.list_model.specs.declared.entry.ListKind.{ListKind}
use Rattle.list_least.specs.declared.costs.Costs.{Costs}
use Rattle.list_least.specs.declared.cheapest.Choice.{Choice}

greatest_len : (addr : List ℕ) (context : Context) (items : List Bounds) (ps : List ℕ) → AreGreatest addr context items ps → length ps ≡ length items
greatest_len addr context [] ps g = ap length g
greatest_len addr context (item ∷ items) [] g = absurd g
greatest_len addr context (item ∷ items) (p ∷ ps) g = let h = greatest_len addr context items ps g.2 in omega (arith, h)

chosen_len : (addr : List ℕ) (context : Context) (items : List Bounds) (ps : List ℕ) (choices : List Choice) → AreChosen addr context items ps choices → length choices ≡ length items
chosen_len addr context [] [] [] g = refl
chosen_len addr context (item ∷ items) (p ∷ ps) (c ∷ cs) g = let h = chosen_len addr context items ps cs g.2 in omega (arith, h)
chosen_len addr context [] [] (c ∷ cs) g = absurd g
chosen_len addr context [] (p ∷ ps) [] g = absurd g
chosen_len addr context [] (p ∷ ps) (c ∷ cs) g = absurd g
chosen_len addr context (item ∷ items) [] [] g = absurd g
chosen_len addr context (item ∷ items) [] (c ∷ cs) g = absurd g
chosen_len addr context (item ∷ items) (p ∷ ps) [] g = absurd g

pub each_accepted : (addr : List ℕ) (context : Context) (items : List Bounds) (ps : List ℕ) → AreGreatest addr context items ps → (i : ℕ) → i < length items → AcceptsAt addr context items ps i
each_accepted addr context [] ps g i lt = absurd (omega (arith, lt))
each_accepted addr context (item ∷ items) [] g i lt = absurd g
each_accepted addr context (item ∷ items) (p ∷ ps) g zero lt = g.0
each_accepted addr context (item ∷ items) (p ∷ ps) g (suc i) lt = each_accepted addr context items ps g.2 i (omega (arith, lt))

pub accepts_list : (addr : List ℕ) (context : Context) (items : List Bounds) (ps qs : List ℕ) (size : ℕ) → qs ≡ ps → AreGreatest addr context items ps → AcceptsSize addr context items ps size → AcceptsList addr context items qs size
accepts_list addr context items ps qs size e g s = subst (λ (z : List ℕ). AcceptsList addr context items z size) (sym e) (record { each = greatest_len addr context items ps g; accepted = each_accepted addr context items ps g; of_size = s })

pub same_count : (addr : List ℕ) (context : Context) (items : List Item) (ps qs rs : List ℕ) → rs ≡ qs → qs ≡ ps → AreGreatest addr context (map bounds_of items) ps → length rs ≡ length items
same_count addr context items ps qs rs f e g = ap length (f ∙ e) ∙ greatest_len addr context (map bounds_of items) ps g ∙ length-map items bounds_of

pub choice_count : (addr : List ℕ) (context : Context) (items : List Item) (ps : List ℕ) (cs ds es : List Choice) → es ≡ ds → ds ≡ cs → AreChosen addr context (map bounds_of items) ps cs → length es ≡ length items
choice_count addr context items ps cs ds es f e g = ap length (f ∙ e) ∙ chosen_len addr context (map bounds_of items) ps cs g ∙ length-map items bounds_of

pub searched_seen : (addr : List ℕ) (context : Context) (items : List Item) (costs costs2 : List Costs) (ps ps2 : List ℕ) (cs cs2 : List Choice) → costs2 ≡ costs → ps2 ≡ ps → cs2 ≡ cs → AreAllCosts addr context items costs → AreGreatest addr context (map bounds_of items) ps → AreChosen addr context (map bounds_of items) ps cs → IsSearched addr context items costs2 ps2 cs2
searched_seen addr context items costs costs2 ps ps2 cs cs2 e f g all greatest chosen =
    subst (λ (z : List Costs). IsSearched addr context items z ps2 cs2) (sym e) (
    subst (λ (z : List ℕ). IsSearched addr context items costs z cs2) (sym f) (
    subst (λ (z : List Choice). IsSearched addr context items costs ps z) (sym g) (record { all = all; greatest = greatest; chosen = chosen })))

-- what is kept of an item is of a list's kind as the item is
pub kept_fit : (list : ListKind) (addr : List ℕ) (context : Context) (items : List Item) (costs costs2 : List Costs) → costs2 ≡ costs → AreAllCosts addr context items costs → ((i : ℕ) → i < length items → IsItemOf list (bounds_of (item_at items i))) → (i : ℕ) → i < length costs2 → IsItemOf list (kept_bounds (costs_at costs2 i))
kept_fit list addr context items costs costs2 e all fit i lt =
    let inside : i < length items = omega (arith, lt, ap length e, all.same) in
    let one = all.each i inside in
    subst (λ (z : List Costs). IsItemOf list (kept_bounds (costs_at z i))) (sym e) (subst (IsItemOf list) (sym one.bounds) (fit i inside))
