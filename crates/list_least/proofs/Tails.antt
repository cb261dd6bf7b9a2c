-- A tail, as it grows item by item.
use Rattle.std.proofs.Common.{◌≡◌, ◌≤◌, ◌<◌, ◌+◌, ◌-◌, ◌∙◌, ℕ, List, [], ◌∷◌, ◌++◌, length, drop, sym, ap, refl, subst, arith}
use Rattle.std.specs.Prelude.{map, reverse, Option, None, unwrap_or}
use Rattle.std.proofs.lemmas.List.{reverse-append, length-map, length-drop}
use Rattle.list_model.specs.declared.context.Context.{Context}
use Rattle.list_model.specs.declared.item.Item.{Item}
use Rattle.list_model.specs.Items.{Bounds}
use Rattle.list_model.specs.Potentials.{AreGreatest}
use Rattle.list_least.specs.declared.cheapest.Choice.{Choice}
use Rattle.list_least.specs.declared.costs.Costs.{Costs}
use Rattle.list_least.specs.declared.runs.Run.{Run}
use Rattle.list_least.specs.declared.tail.Tail.{Tail}
use Rattle.list_least.specs.declared.tail.Step.{Step}
use Rattle.list_least.specs.Plans.{bounds_of}
use Rattle.list_least.specs.Tails.{run_at, AreLeft, IsReady, IsTailOf}
use Rattle.list_least.specs.inside.Search.{AreCosts, AreLeftBehind, AreChosen, IsLowered, IsNear, IsStep}
use Rattle.list_least.proofs.Back.{left_step}
use Rattle.list_least.proofs.Near.{accepted_up_to, no_more_accepted}

-- an item is put before a tail
module _ (addr : List ℕ) (context : Context) (costs : Costs) (given : Option ℕ) (old new : Tail) (next seen : List Run) (choice : Choice) (p by : ℕ) where
  pub stepped :
      seen ≡ next → p ≡ unwrap_or given choice.bytes → by ≡ old.under + costs.free - p → new.under ≡ old.under + costs.free - by → new.most ≡ old.most + 17 → costs.free ≤ 17 →
      ((ad : List ℕ) (co : Context) (it : Bounds) (is : List Bounds) (ps : List ℕ) (un : ℕ) → AreCosts ad co it costs → AreLeft ad co is ps un old.runs.items → AreLeftBehind ad co it is ps (un + costs.free) next 0) →
      ((j : ℕ) → j < length next → (run_at next j).gain ≤ old.most + 17) →
      ((it : Bounds) (is : List Bounds) (ps : List ℕ) → AreCosts addr context it costs → IsReady addr context is ps old.before → AreLeftBehind addr context it is ps (old.under + costs.free) seen 0 → IsNear addr context it is ps choice) →
      choice.bytes ≤ old.before.bytes + 17 →
      ((it : Bounds) (is : List Bounds) (ps : List ℕ) → IsNear addr context it is ps choice → IsReady addr context (it ∷ is) (p ∷ ps) new.before) →
      new.before.bytes ≤ choice.bytes → IsLowered by next new.runs.items →
      (item : Bounds) (items : List Bounds) (ps : List ℕ) → AreCosts addr context item costs → IsTailOf addr context items ps old → IsStep addr context item items ps given (record { tail = new; choice = choice })
  stepped s e f g m free behind small near few ready less low item items ps are of =
      let b : AreLeftBehind addr context item items ps (old.under + costs.free) next 0 = behind addr context item items ps old.under are of.left in
      let n : IsNear addr context item items ps choice = near item items ps are of.ready (subst (λ (z : List Run). AreLeftBehind addr context item items ps (old.under + costs.free) z 0) (sym s) b) in
      record {
        near = n;
        tail = λ more. subst (λ (z : ℕ). IsTailOf addr context (item ∷ items) (z ∷ ps) new) e (record {
          few = omega (arith, more);
          left = left_step addr context item items p ps (old.under + costs.free) by new.under next new.runs.items f g low b;
          ready = ready item items ps n;
          top = low.top;
          down = low.down;
          gains = λ j lt. let k = low.small j lt in omega (arith, k.2, small k.0 k.1, m);
          low = omega (arith, of.low, m);
          little = omega (arith, of.little, free, g);
          near = omega (arith, of.near, few, less);
        });
      }

-- ---- a walk from the last item to the first, with the greatest potentials

-- all that is known of the items from one on
pub record IsKnown (addr : List ℕ) (context : Context) (items : List Bounds) (potentials : List ℕ) (choices : List Choice) (tail : Tail) : Type 0 where
  pub tail_of : IsTailOf addr context items (reverse potentials) tail
  pub greatest : AreGreatest addr context items (reverse potentials)
  pub chosen : AreChosen addr context items (reverse potentials) (reverse choices)

pub known_more : (addr : List ℕ) (context : Context) (item : Bounds) (items whole : List Bounds) (old new : List ℕ) (choices more : List Choice) (tail : Tail) (step : Step) → whole ≡ item ∷ items → new ≡ old ++ step.choice.bytes ∷ [] → more ≡ choices ++ step.choice ∷ [] → length items < 16384 → IsKnown addr context items old choices tail → IsStep addr context item items (reverse old) None step → IsKnown addr context whole new more step.tail
known_more addr context item items whole old new choices more tail step e f g few known is =
    let choice = step.choice in
    let turned : choice.bytes ∷ reverse old ≡ reverse new = sym (ap reverse f ∙ reverse-append old (choice.bytes ∷ [])) in
    let turned2 : choice ∷ reverse choices ≡ reverse more = sym (ap reverse g ∙ reverse-append choices (choice ∷ [])) in
    let of : IsTailOf addr context (item ∷ items) (choice.bytes ∷ reverse old) step.tail = is.tail few in
    let greatest : AreGreatest addr context (item ∷ items) (choice.bytes ∷ reverse old) = (accepted_up_to addr context item items (reverse old) choice is.near choice.bytes (omega arith), no_more_accepted addr context item items (reverse old) choice is.near, known.greatest) in
    let chosen : AreChosen addr context (item ∷ items) (choice.bytes ∷ reverse old) (choice ∷ reverse choices) = (refl, is.near.chosen, known.chosen) in
    subst (λ (z : List Bounds). IsKnown addr context z new more step.tail) (sym e) (record {
      tail_of = subst (λ (z : List ℕ). IsTailOf addr context (item ∷ items) z step.tail) turned of;
      greatest = subst (AreGreatest addr context (item ∷ items)) turned greatest;
      chosen = subst (λ (z : List ℕ). AreChosen addr context (item ∷ items) z (reverse more)) turned (subst (AreChosen addr context (item ∷ items) (choice.bytes ∷ reverse old)) turned2 chosen);
    })

pub known_all : (addr : List ℕ) (context : Context) (items : List Item) (count : ℕ) (potentials : List ℕ) (choices : List Choice) (tail : Tail) → count ≡ 0 → IsKnown addr context (map bounds_of (drop count items)) potentials choices tail → IsKnown addr context (map bounds_of items) potentials choices tail
known_all addr context items count potentials choices tail z known = subst (λ (n : ℕ). IsKnown addr context (map bounds_of (drop n items)) potentials choices tail) z known

pub behind_count : (items : List Item) (count : ℕ) → length (map bounds_of (drop count items)) ≡ length items - count
behind_count items count = length-map (drop count items) bounds_of ∙ length-drop count items
