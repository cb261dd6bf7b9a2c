-- The potentials of items, judged one after the other from the last to the first.
use Rattle.std.proofs.Common.{◌≡◌, ◌≤◌, ◌<◌, ◌+◌, ◌∙◌, ℕ, List, ◌∷◌, length, drop, get_or, sym, ap, subst, arith, inl, inr}
use Rattle.std.specs.Prelude.{◌↔◌, map}
use Rattle.std.proofs.lemmas.Bool.{cases_lt}
use Rattle.std.proofs.lemmas.List.{drop_more, drop-map, length-drop, length-map}
use Rattle.list_model.specs.declared.context.Context.{Context}
use Rattle.list_model.specs.declared.item.Item.{Item}
use Rattle.list_model.specs.Items.{Bounds}
use Rattle.list_model.specs.Potentials.{AcceptsFirst, AcceptsAt}
use Rattle.list_least.specs.declared.tail.Tail.{Tail}
use Rattle.list_least.specs.Plans.{bounds_of}
use Rattle.list_least.specs.Tails.{IsTailOf}
use Rattle.check_lists.specs.inside.Walks.{AreJudged}

-- the first of the items from one on, and the others
pub first_bounds : (items : List Item) (k i : ℕ) (d : Item) → i ≡ k + 1 → k < length items → drop k (map bounds_of items) ≡ bounds_of (get_or items k d) ∷ drop i (map bounds_of items)
first_bounds items k i d e lt =
    let n : k + 1 ≡ i = sym e in
    drop-map bounds_of k items ∙ ap (map bounds_of) (drop_more items k d lt) ∙ ap (λ z. bounds_of (get_or items k d) ∷ z) (sym (drop-map bounds_of (k + 1) items) ∙ ap (λ (z : ℕ). drop z (map bounds_of items)) n)

pub first_number : (numbers : List ℕ) (k i : ℕ) → i ≡ k + 1 → k < length numbers → drop k numbers ≡ get_or numbers k 0 ∷ drop i numbers
first_number numbers k i e lt = drop_more numbers k 0 lt ∙ ap (λ (z : ℕ). get_or numbers k 0 ∷ drop z numbers) (sym e)

-- one item more
module _ (addr : List ℕ) (context : Context) (items : List Item) (ps : List ℕ) (i k first : ℕ) (tail new : Tail) (d : Item) (greatest : ℕ) (e : i ≡ k + 1) (few : length items ≤ 16384) (each : length ps ≡ length items) (judged : AreJudged addr context (map bounds_of items) ps i first tail)
    (grown : (rest : List Bounds) (qs : List ℕ) → IsTailOf addr context rest qs tail → length rest < 16384 → IsTailOf addr context (bounds_of (get_or items k d) ∷ rest) (get_or ps k 0 ∷ qs) new)
    (verdict : (rest : List Bounds) (qs : List ℕ) → IsTailOf addr context rest qs tail → (other : ℕ) → AcceptsFirst addr context (bounds_of (get_or items k d) ∷ rest) (other ∷ qs) ↔ (other ≤ greatest)) where
  abbrev all : List Bounds
  all = map bounds_of items

  abbrev bounds : Bounds
  bounds = bounds_of (get_or items k d)

  abbrev p : ℕ
  p = get_or ps k 0

  same : length all ≡ length items
  same = length-map items bounds_of

  inside : k + 1 ≤ length items
  inside = omega (arith, judged.inside, e, same)

  item_is : drop k all ≡ bounds ∷ drop i all
  item_is = first_bounds items k i d e (omega (arith, inside))

  p_is : drop k ps ≡ p ∷ drop i ps
  p_is = first_number ps k i e (omega (arith, inside, each))

  tail_of : IsTailOf addr context (drop k all) (drop k ps) new
  tail_of =
      let few : length (drop i all) < 16384 = omega (arith, length-drop i all, few, same, e, inside) in
      subst (λ (z : List Bounds). IsTailOf addr context z (drop k ps) new) (sym item_is) (
      subst (λ (z : List ℕ). IsTailOf addr context (bounds ∷ drop i all) z new) (sym p_is) (grown (drop i all) (drop i ps) judged.tail_of few))

  accepts : p ≤ greatest → AcceptsAt addr context all ps k
  accepts le =
      subst (λ (z : List Bounds). AcceptsFirst addr context z (drop k ps)) (sym item_is) (
      subst (λ (z : List ℕ). AcceptsFirst addr context (bounds ∷ drop i all) z) (sym p_is) ((verdict (drop i all) (drop i ps) judged.tail_of p).1 le))

  refuses : greatest < p → ¬ AcceptsAt addr context all ps k
  refuses more accepted =
      let here : AcceptsFirst addr context (bounds ∷ drop i all) (p ∷ drop i ps) =
      subst (λ (z : List ℕ). AcceptsFirst addr context (bounds ∷ drop i all) z) p_is (
      subst (λ (z : List Bounds). AcceptsFirst addr context z (drop k ps)) item_is accepted)
      in
      absurd (omega (arith, more, (verdict (drop i all) (drop i ps) judged.tail_of p).0 here))

  pub accepted_next : p ≤ greatest → AreJudged addr context all ps k first new
  accepted_next le = record {
    inside = omega (arith, inside, same);
    tail_of = tail_of;
    first_is = record {
      above = omega (arith, judged.first_is.above, e);
      within = judged.first_is.within;
      before = λ j from less. elim (cases_lt k j) [
        | inl past ↦ judged.first_is.before j (omega (arith, past, e)) less
        | inr here ↦ let same : k ≡ j = omega (arith, here, from) in subst (AcceptsAt addr context all ps) same (accepts le)
      ];
      fails = judged.first_is.fails;
    };
  }

  pub refused_next : greatest < p → AreJudged addr context all ps k k new
  refused_next more = record {
    inside = omega (arith, inside, same);
    tail_of = tail_of;
    first_is = record {
      above = omega arith;
      within = omega (arith, inside, same);
      before = λ j from less. absurd (omega (arith, from, less));
      fails = λ less. refuses more;
    };
  }
