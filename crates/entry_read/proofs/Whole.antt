-- A unit has no fault.
use Rattle.std.proofs.Common.{◌≡◌, ◌≢◌, ◌≤◌, ◌<◌, ◌+◌, ◌^◌, ◌++◌, ◌∙◌, ℕ, List, [], ◌∷◌, length, sym, ap, refl, subst, arith, inl, inr}
use Rattle.std.specs.Prelude.{slice_index}
use Rattle.dw_base.specs.declared.fault.Kind.{Kind}
use Rattle.dw_base.specs.declared.fault.Kind.TheVariants.{Limit, LebWide, Short, CodeMissing, Tree, Text}
use Rattle.leb_codec.specs.Leb.{Uleb}
use Rattle.abbrev_tables.specs.Tables.{Declared}
use Rattle.entry_arena.specs.Arena.{Arena}
use Rattle.entry_arena.specs.Trees.{Listed, SpellsBetween, listed_to, nothing_from}
use Rattle.entry_arena.specs.Walks.{Item, IsGoing, Walks, IsWhole, opened}
use Rattle.entry_arena.specs.Walks.Item.{AnEntry, AnEnd}
use Rattle.entry_arena.specs.ForestLaws.{HaveCodes, HasNoFault, Rises, WalksOn}
use Rattle.entry_arena.proofs.TreeLaws.{trees_are_walks, walks_append, cons_filled}
use Rattle.entry_arena.proofs.WalkLaws.{whole_longest, forest_once}
use Rattle.entry_arena.proofs.StepLaws.{walks_rise, going_steps, steps_faultless, unread_start, root_coded}
use Rattle.entry_read.specs.declared.head.UnitHead.{UnitHead}
use Rattle.entry_read.specs.declared.unit.Counts.{Counts}
use Rattle.entry_read.specs.Units.{IsFront, IsUnit, IsWithin, end_of, entries_at}
use Rattle.entry_read.specs.Faults.{FaultNext, FaultUnit, IsNoTree, IsCutEntry, PassesLimit}
use Rattle.dw_base.specs.Refusals.{IsFaulty}
use Rattle.entry_read.specs.inside.Readings.{HasFront}

-- where no chain is open after an entry, a walk goes no further
ended : (info : List ℕ) (ds : List Declared) (items : List Item) (now new : Listed) (chains left : List ℕ) → Walks info ds now chains items new left → now.entries ≢ [] → chains ≡ [] → new ≡ now
ended info ds [] now new chains left (e, f) some none = e
ended info ds (AnEntry number ∷ items) now new chains left (g, w) some none = absurd (elim g [ inl x ↦ some x | inr x ↦ x none ])
ended info ds (AnEnd ∷ items) now new chains left (id, outer, mid, e, a, w) some none = absurd (cons_filled id outer (sym e ∙ none))

module _ (info : List ℕ) (head : UnitHead) (ds : List Declared) (before : Counts) (forest : Listed) (codes : HaveCodes ds) (u : IsUnit info head ds forest) (within : IsWithin before (length forest.entries) (length forest.values)) where
  whole : IsWhole info ds (entries_at head) forest
  whole = (trees_are_walks info ds (entries_at head) forest).0 u.tree

  -- a front of the unit's entries goes on to all of them
  goes_on : (now : Listed) (chains : List ℕ) → (f : IsFront info head ds now chains) → WalksOn info ds f.items now chains whole.items forest []
  goes_on now chains f = whole_longest info ds (entries_at head) f.items forest now chains codes whole f.walked

  -- and where it goes on, there is no fault
  faultless : (now : Listed) (chains : List ℕ) → IsFront info head ds now chains → IsGoing now chains → HasNoFault info ds now.place (end_of head)
  faultless now chains f g =
      let on = goes_on now chains f in
      steps_faultless info ds (length chains) (end_of head) now codes (going_steps info ds now forest chains on.more (end_of head) g whole.some u.inside on.walked)

  no_tree : (now : Listed) (chains : List ℕ) → IsFront info head ds now chains → IsNoTree info head now chains → ⊥
  no_tree now chains f t = elim t [
    | inl x ↦
        let start : now ≡ nothing_from (entries_at head) = (unread_start info ds (entries_at head) f.items now chains f.walked x.0).0 in
        let coded = x.1.coded in
        root_coded info ds (entries_at head) x.1.to forest codes u.tree (subst (λ (z : ℕ). SpellsBetween (Uleb 0) info z x.1.to) (ap (λ z. z.place) start) coded)
    | inr y ↦ elim y [
      | inl x ↦ let some : now.place < end_of head = (faultless now chains f x.0).some in let all : now.place ≡ end_of head = x.1 in absurd (omega arith)
      | inr x ↦
          let on = goes_on now chains f in
          let same : forest ≡ now = ended info ds on.more now forest chains [] on.walked x.0 x.1 in
          let k = x.2 in
          let from : now.place ≤ k.0 = k.1 in
          let place : forest.place ≡ now.place = ap (λ z. z.place) same in
          k.3 (u.padded k.0 (omega arith) k.2)
    ]
  ]

  no_limit : (now : Listed) (chains : List ℕ) → IsFront info head ds now chains → PassesLimit info head ds before now chains → ⊥
  no_limit now chains f p =
      let start : Listed = nothing_from (entries_at head) in
      let left : List ℕ = opened ds p.number (length now.entries) chains in
      let one : Walks info ds now chains (AnEntry p.number ∷ []) p.new left = (p.going, (p.new, p.entry, (refl, refl))) in
      let all : Walks info ds start [] (f.items ++ AnEntry p.number ∷ []) p.new left = walks_append info ds start [] f.items now chains (AnEntry p.number ∷ []) p.new left f.walked one in
      let on = whole_longest info ds (entries_at head) (f.items ++ AnEntry p.number ∷ []) forest p.new left codes whole all in
      let r : Rises p.new forest = walks_rise info ds p.new left on.more forest [] on.walked in
      let entries : length p.new.entries ≤ length forest.entries = r.entries in
      let values : length p.new.values ≤ length forest.values = r.values in
      let few : before.entries + length forest.entries ≤ 2 ^ 24 = within.entries in
      let few2 : before.values + length forest.values ≤ 2 ^ 26 = within.values in
      p.past (record { entries = omega arith; values = omega arith })

  no_value : (now : Listed) (chains : List ℕ) (kind : Kind) (place : ℕ) → IsFront info head ds now chains → IsCutEntry info head ds now chains kind place → ⊥
  no_value now chains kind place f x = (faultless now chains f x.0).valued kind place x.1

  no_next : (now : Listed) (chains : List ℕ) (kind : Kind) (place : ℕ) → IsFront info head ds now chains → FaultNext info head ds before now chains kind place → ⊥
  no_next now chains Tree place f x = no_tree now chains f x.1
  no_next now chains Short place f x = elim x [ inl y ↦ (faultless now chains f y.1.0).not_short y.1.1 | inr y ↦ no_value now chains Short place f y ]
  no_next now chains LebWide place f x = elim x [ inl y ↦ (faultless now chains f y.1.0).not_wide y.1.1 | inr y ↦ no_value now chains LebWide place f y ]
  no_next now chains Text place f x = no_value now chains Text place f x
  no_next now chains CodeMissing place f x =
      let u = x.1 in
      (faultless now chains f u.going).declared u.code u.stands.to u.stands.coded u.some u.missing
  no_next now chains Limit place f x = no_limit now chains f x.1
  no_next now chains _ place f x = absurd x

  -- a unit that keeps the limits has no fault
  pub unit_whole : ¬ IsFaulty (FaultUnit info head ds before)
  unit_whole = λ (x : IsFaulty (FaultUnit info head ds before)). let u = x.2 in no_next u.now u.chains x.0 x.1 u.front u.fault

-- a unit has one forest
pub one_unit : (info : List ℕ) (head : UnitHead) (ds : List Declared) (forest other : Listed) → HaveCodes ds → IsUnit info head ds forest → IsUnit info head ds other → forest ≡ other
one_unit info head ds forest other codes u v = forest_once info ds (entries_at head) forest other codes u.tree v.tree

-- a front that is held after which no chain is open is a unit, where only bytes 0 follow
pub unit_held : (info : List ℕ) (head : UnitHead) (ds : List Declared) (before : Counts) (f : Arena) (at : ℕ) → HasFront info head ds before f [] at → f.entries ≢ [] → ((k : ℕ) → at ≤ k → k < end_of head → slice_index info k ≡ 0) → IsUnit info head ds (listed_to f at)
unit_held info head ds before f at h some zeros = record {
  tree = (trees_are_walks info ds (entries_at head) (listed_to f at)).1 (record { items = h.front.items; walked = h.front.walked; some = some });
  inside = h.front.inside;
  padded = zeros;
}

-- and it keeps the limits
pub kept : (info : List ℕ) (head : UnitHead) (ds : List Declared) (before : Counts) (f : Arena) (chains : List ℕ) (at : ℕ) → HasFront info head ds before f chains at → f.entries ≢ [] → IsWithin before (length f.entries) (length f.values)
kept info head ds before f chains at h some = elim h.first [ inl none ↦ absurd (some none) | inr within ↦ within ]
