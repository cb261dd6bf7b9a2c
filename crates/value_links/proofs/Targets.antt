-- The places of what is held of a unit: each holds one target, in its unit.
use Rattle.std.proofs.Common.{◌≡◌, ◌≤◌, ◌<◌, ◌+◌, ◌∙◌, inl, inr, ℕ, List, sym, ap, arith}
use Rattle.std.proofs.lemmas.Bool.{cases_lt}
use Rattle.abbrev_tables.specs.Tables.{Declared}
use Rattle.entry_arena.specs.declared.entry.Target.{Target}
use Rattle.entry_arena.specs.declared.entry.Target.TheVariants.{Entry as TheEntry, ChainEnd as TheEnd}
use Rattle.entry_arena.specs.Arena.{Arena, entry_at, chain_end_at, IsEntryAt, IsChainEndAt}
use Rattle.entry_arena.specs.Order.{IsInOrder}
use Rattle.entry_read.specs.declared.head.UnitHead.{UnitHead}
use Rattle.entry_read.specs.Units.{entries_at, end_of, IsUnitHeld}
use Rattle.entry_read.specs.Places.{LiesInUnit}
use Rattle.entry_read.proofs.PlaceLaws.{units_lie}
use Rattle.value_links.specs.Linked.{IsTargetAt}

-- an entry of a forest in order has one place, and the place one entry
pub entry_once : (f : Arena) → IsInOrder f → (i j place : ℕ) → IsEntryAt f i place → IsEntryAt f j place → i ≡ j
entry_once f order i j place (i_in, i_at) (j_in, j_at) = elim (cases_lt i j) [
  | inl less ↦
      let rising : (entry_at f.entries i).at + (entry_at f.entries i).len ≤ (entry_at f.entries j).at = order.entered.rising i j less j_in in
      let wide : 0 < (entry_at f.entries i).len = order.entered.wide i i_in in
      absurd (omega arith)
  | inr rest ↦ elim (cases_lt j i) [
    | inl less ↦
        let rising : (entry_at f.entries j).at + (entry_at f.entries j).len ≤ (entry_at f.entries i).at = order.entered.rising j i less i_in in
        let wide : 0 < (entry_at f.entries j).len = order.entered.wide j j_in in
        absurd (omega arith)
    | inr more ↦ omega arith
  ]
]

chain_once : (f : Arena) → IsInOrder f → (i j place : ℕ) → IsChainEndAt f i place → IsChainEndAt f j place → i ≡ j
chain_once f order i j place (k, k_in, k_is) (l, l_in, l_is) = elim (cases_lt k l) [
  | inl less ↦
      let rising : (chain_end_at f.ends k).at < (chain_end_at f.ends l).at = order.ended.rising k l less l_in in
      let first : (chain_end_at f.ends k).at ≡ place = ap (λ e. e.at) k_is in
      let second : (chain_end_at f.ends l).at ≡ place = ap (λ e. e.at) l_is in
      absurd (omega arith)
  | inr rest ↦ elim (cases_lt l k) [
    | inl less ↦
        let rising : (chain_end_at f.ends l).at < (chain_end_at f.ends k).at = order.ended.rising l k less k_in in
        let first : (chain_end_at f.ends k).at ≡ place = ap (λ e. e.at) k_is in
        let second : (chain_end_at f.ends l).at ≡ place = ap (λ e. e.at) l_is in
        absurd (omega arith)
    | inr more ↦
        let same : k ≡ l = omega arith in
        ap (λ e. e.entry) (sym k_is ∙ ap (chain_end_at f.ends) same ∙ l_is)
  ]
]

pub never_both : (f : Arena) → IsInOrder f → (i j place : ℕ) → IsEntryAt f i place → IsChainEndAt f j place → ⊥
never_both f order i j place (i_in, i_at) (k, k_in, k_is) =
    let wide : 0 < (entry_at f.entries i).len = order.entered.wide i i_in in
    let end : (chain_end_at f.ends k).at ≡ place = ap (λ e. e.at) k_is in
    elim (order.apart i k i_in k_in) [
      | inl less ↦ absurd (omega arith)
      | inr more ↦ absurd (omega arith)
    ]

-- a place holds one target
pub target_once : (f : Arena) → IsInOrder f → (a b : Target) (place : ℕ) → IsTargetAt f a place → IsTargetAt f b place → a ≡ b
target_once f order (TheEntry i) (TheEntry j) place here there = ap (λ (z : ℕ). TheEntry z) (entry_once f order i j place here there)
target_once f order (TheEntry i) (TheEnd j) place here there = absurd (never_both f order i j place here there)
target_once f order (TheEnd i) (TheEntry j) place here there = absurd (never_both f order j i place there here)
target_once f order (TheEnd i) (TheEnd j) place here there = ap (λ (z : ℕ). TheEnd z) (chain_once f order i j place here there)

-- the targets of a unit are in order, and stand in the unit after its header
pub record HasTargets (head : UnitHead) (f : Arena) : Type 0 where
  pub order : IsInOrder f
  pub from : (target : Target) (place : ℕ) → IsTargetAt f target place → entries_at head ≤ place
  pub to : (target : Target) (place : ℕ) → IsTargetAt f target place → place < end_of head

module _ (head : UnitHead) (f : Arena) (lies : LiesInUnit head f) where
  comes_from : (target : Target) (place : ℕ) → IsTargetAt f target place → entries_at head ≤ place
  comes_from (TheEntry id) place here = (lies.entries id place here).0
  comes_from (TheEnd id) place here = (lies.ends id place here).0

  comes_to : (target : Target) (place : ℕ) → IsTargetAt f target place → place < end_of head
  comes_to (TheEntry id) place here = (lies.entries id place here).1
  comes_to (TheEnd id) place here = (lies.ends id place here).1

  has_targets : HasTargets head f
  has_targets = record { order = lies.order; from = comes_from; to = comes_to }

-- the targets of a unit that was read
pub held_targets : (info : List ℕ) (head : UnitHead) (ds : List Declared) (f : Arena) → f.section ≡ info → IsUnitHeld info head ds f → HasTargets head f
held_targets info head ds f section unit = has_targets head f (units_lie info head ds f section unit)
