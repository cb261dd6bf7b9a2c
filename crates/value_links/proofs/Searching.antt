-- What is found by its place, in what is held.
use Rattle.std.proofs.Common.{◌≡◌, ◌≢◌, ◌≤◌, ◌<◌, ◌+◌, ◌-◌, ◌^◌, ◌∙◌, inl, inr, ℕ, List, [], length, get_or, sym, ap, subst, refl, arith, leb, true, false}
use Rattle.std.specs.Prelude.{Option, Some, None, ◌↔◌, SomeIff, MatchOption}
use Rattle.std.specs.List.Sorted.{IsNonDecreasingBy, IsPartitionPoint}
use Rattle.std.proofs.lemmas.List.Sorted.{IsNonDecreasingBy-from_default}
use Rattle.std.proofs.lemmas.Bool.{cases_lt}
use Rattle.std.proofs.lemmas.List.{get_or_default}
use Rattle.std.proofs.lemmas.Bool.Decides.{nat_tests}
use Rattle.entry_arena.specs.declared.entry.Target.{Target}
use Rattle.entry_arena.specs.declared.entry.Target.TheVariants.{Entry as TheEntry, ChainEnd as TheEnd}
use Rattle.entry_arena.specs.Arena.{Arena, entry_at, chain_end_at, IsEntryAt, IsChainEndAt}
use Rattle.entry_arena.specs.Order.{IsInOrder}
use Rattle.line_machine.specs.declared.head.Head.{Head}
use Rattle.entry_read.specs.declared.head.UnitHead.{UnitHead}
use Rattle.entry_read.specs.Units.{HeadAndForest}
use Rattle.value_links.specs.declared.link.Link.TheVariants.{Place}
use Rattle.value_links.specs.Linked.{IsTargetAt}
use Rattle.value_links.specs.Links.{held_at}
use Rattle.value_links.specs.inside.Links.{program_among, IsLastOf, IsLastFrom, IsTargetFound, IsSectionTargetFound, AreUnitsApart, AreProgramsApart}

-- TARGETS

-- a target lies in the section
pub target_inside : (f : Arena) → IsInOrder f → (target : Target) (place : ℕ) → IsTargetAt f target place → place < length f.section
target_inside f order (TheEntry id) place (inside, here) =
    let wide : 0 < (entry_at f.entries id).len = order.entered.wide id inside in
    let ends : (entry_at f.entries id).at + (entry_at f.entries id).len ≤ length f.section = order.entered.inside id inside in
    omega arith
target_inside f order (TheEnd id) place (i, inside, here) =
    let at : (chain_end_at f.ends i).at ≡ place = ap (λ e. e.at) here in
    let ends : (chain_end_at f.ends i).at < length f.section = order.ended.inside i inside in
    omega arith

-- what the answer for a place says
pub target_found : (f : Arena) (place : ℕ) (found : Option Target) → ((id : ℕ) → (found ≡ Some (TheEntry id)) ↔ IsEntryAt f id place) → ((id : ℕ) → (found ≡ Some (TheEnd id)) ↔ IsChainEndAt f id place) → ((found ≡ None) ↔ ((id : ℕ) → (IsEntryAt f id place → ⊥) × (IsChainEndAt f id place → ⊥))) → IsTargetFound f place found
target_found f place (Some (TheEntry id)) entry end none = (entry id).0 refl
target_found f place (Some (TheEnd id)) entry end none = (end id).0 refl
target_found f place None entry end none = nothing (none.0 refl)
  where
    nothing : ((id : ℕ) → (IsEntryAt f id place → ⊥) × (IsChainEndAt f id place → ⊥)) → (target : Target) → IsTargetAt f target place → ⊥
    nothing neither (TheEntry id) here = (neither id).0 here
    nothing neither (TheEnd id) here = (neither id).1 here

-- past the section's end there is none
pub past_section : (unit : HeadAndForest) (forest : Arena) (head : UnitHead) (section : List ℕ) (room n : ℕ) → forest ≡ unit.forest → head ≡ unit.head → section ≡ forest.section → room ≡ length section - head.at → room ≤ n → IsInOrder unit.forest → IsTargetFound unit.forest (unit.head.at + n) None
past_section unit forest head section room n e f g size past order target here =
    let inside : unit.head.at + n < length unit.forest.section = target_inside unit.forest order target (unit.head.at + n) here in
    let same : length section ≡ length unit.forest.section = ap length (g ∙ ap (λ z. z.section) e) in
    let from : head.at ≡ unit.head.at = ap (λ z. z.at) f in
    omega arith

pub local_found : (unit : HeadAndForest) (forest : Arena) (head : UnitHead) (n : ℕ) (found : Option Target) → forest ≡ unit.forest → head ≡ unit.head → IsTargetFound forest (head.at + n) found → IsTargetFound unit.forest (unit.head.at + n) found
local_found unit forest head n found e f is = subst (λ (z : Arena). IsTargetFound z (unit.head.at + n) found) e (subst (λ (z : UnitHead). IsTargetFound forest (z.at + n) found) f is)

-- UNITS

-- things whose places rise
module _ {X : Type 0} (at : X → ℕ) (d : X) (xs : List X) where
  pub places_rise : ((i j : ℕ) → i < j → j < length xs → at (get_or xs i d) ≤ at (get_or xs j d)) → IsNonDecreasingBy at xs
  places_rise rising = IsNonDecreasingBy-from_default at xs d (λ i j le inside. elim (cases_lt i j) [
    | inl less ↦ rising i j less inside
    | inr more ↦
        let same : i ≡ j = omega arith in
        let here : at (get_or xs i d) ≡ at (get_or xs j d) = ap (λ n. at (get_or xs n d)) same in
        omega arith
  ])

  pub last_is : (place p : ℕ) (found : Option ℕ) → IsPartitionPoint (λ (x : X). leb (at x) place ≡ true) (λ (x : X). leb (at x) place ≡ false) xs p → p ≤ length xs → SomeIff found (1 ≤ p) (p - 1) → IsLastOf at d xs place found
  last_is place p (Some i) (before, behind) bound (some, same) =
      let here : leb (at (get_or xs i d)) place ≡ true = before i d (omega arith) (omega arith) in
      let from : at (get_or xs i d) ≤ place = grind (arith, nat_tests) in
      (omega arith, from, λ j less inside. let past : leb (at (get_or xs j d)) place ≡ false = behind j d (omega arith) inside in grind (arith, nat_tests))
  last_is place p None (before, behind) bound none = λ j inside.
      let past : leb (at (get_or xs j d)) place ≡ false = behind j d (omega arith) inside in
      grind (arith, nat_tests)

pub starts_rise : (units : List HeadAndForest) → AreUnitsApart units → IsNonDecreasingBy (λ (u : HeadAndForest). u.head.at) units
starts_rise units apart = places_rise (λ (u : HeadAndForest). u.head.at) (held_at [] 0) units (λ i j less inside.
    let behind : (held_at units i).head.at + (held_at units i).head.len ≤ (held_at units j).head.at = apart.rising i j less inside in
    omega arith)

module _ (units : List HeadAndForest) (apart : AreUnitsApart units) (place : ℕ) where
  pub before_all : IsLastFrom units place None → IsSectionTargetFound units place None
  before_all none unit target inside here =
      let from : (held_at units unit).head.at ≤ place = apart.from unit target place inside here in
      let past : place < (held_at units unit).head.at = none unit inside in
      omega arith

  pub not_in_last : (last : ℕ) → IsLastFrom units place (Some last) → IsTargetFound (held_at units last).forest place None → IsSectionTargetFound units place None
  not_in_last last (last_in, last_at, past) none unit target inside here =
      let from : (held_at units unit).head.at ≤ place = apart.from unit target place inside here in
      let to : place < (held_at units unit).head.at + (held_at units unit).head.len = apart.to unit target place inside here in
      elim (cases_lt unit last) [
        | inl less ↦ let behind : (held_at units unit).head.at + (held_at units unit).head.len ≤ (held_at units last).head.at = apart.rising unit last less last_in in omega arith
        | inr rest ↦ elim (cases_lt last unit) [
          | inl less ↦ let later : place < (held_at units unit).head.at = past unit less inside in omega arith
          | inr more ↦
              let same : unit ≡ last = omega arith in
              none target (subst (λ (z : ℕ). IsTargetAt (held_at units z).forest target place) same here)
        ]
      ]

  -- what is looked up in the last unit
  pub none_in : (last : ℕ) (unit : HeadAndForest) (forest : Arena) → IsLastFrom units place (Some last) → unit ≡ get_or units last unit → forest ≡ unit.forest → IsTargetFound forest place None → IsSectionTargetFound units place None
  none_in last unit forest is e f none =
      let same : forest ≡ (held_at units last).forest = f ∙ ap (λ z. z.forest) (e ∙ get_or_default units last unit (held_at [] 0) is.0) in
      not_in_last last is (subst (λ (z : Arena). IsTargetFound z place None) same none)

  pub found_in : (last : ℕ) (unit : HeadAndForest) (forest : Arena) (target : Target) (number : ℕ) → IsLastFrom units place (Some last) → unit ≡ get_or units last unit → forest ≡ unit.forest → number ≡ last → IsTargetAt forest target place → IsSectionTargetFound units place (Some (Place number target))
  found_in last unit forest target number is e f n here =
      let same : forest ≡ (held_at units last).forest = f ∙ ap (λ z. z.forest) (e ∙ get_or_default units last unit (held_at [] 0) is.0) in
      let there : IsTargetAt (held_at units last).forest target place = subst (λ (z : Arena). IsTargetAt z target place) same here in
      subst (λ (z : ℕ). (z < length units) × IsTargetAt (held_at units z).forest target place) (sym n) (is.0, there)

-- PROGRAMS

pub program_found : (programs : List Head) (place number : ℕ) (found : Option ℕ) → AreProgramsApart programs → number < length programs → (program_among programs number).at ≡ place → MatchOption found (2 ^ 32 ≤ number) (λ same. same ≡ number) → MatchOption found ((i : ℕ) → i < length programs → (program_among programs i).at ≢ place) (λ i. (i < length programs) × ((program_among programs i).at ≡ place))
program_found programs place number None apart inside here past = let few = apart.few in absurd (omega arith)
program_found programs place number (Some i) apart inside here same = subst (λ (z : ℕ). (z < length programs) × ((program_among programs z).at ≡ place)) (sym same) (inside, here)
