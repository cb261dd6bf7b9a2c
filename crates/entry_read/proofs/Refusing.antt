-- Why a unit is refused.
use Rattle.std.proofs.Common.{◌≡◌, ◌≢◌, ◌≤◌, ◌<◌, ◌+◌, ℕ, List, [], length, sym, refl, subst, arith, inl, inr}
use Rattle.std.specs.Prelude.{slice_index}
use Rattle.dw_base.specs.declared.fault.Kind.{Kind}
use Rattle.dw_base.specs.declared.fault.Kind.TheVariants.{Limit, LebWide, Short, CodeMissing, Tree, Text}
use Rattle.dw_base.specs.declared.fault.Refusal.{Refusal}
use Rattle.dw_base.specs.declared.fault.Refusal.TheVariants.{Refused, NoMemory}
use Rattle.leb_codec.specs.Leb.{Uleb}
use Rattle.abbrev_tables.specs.Tables.{Declared}
use Rattle.abbrev_tables.specs.Faults.{FaultNumber}
use Rattle.entry_arena.specs.Arena.{Arena}
use Rattle.entry_arena.specs.Trees.{SpellsBetween, AddsEntry, declared_at, listed_to}
use Rattle.entry_arena.specs.Walks.{IsGoing}
use Rattle.entry_read.specs.declared.head.UnitHead.{UnitHead}
use Rattle.entry_read.specs.declared.unit.Counts.{Counts}
use Rattle.entry_read.specs.Units.{IsWithin, end_of, rest_of}
use Rattle.entry_read.specs.Faults.{IsCutEntry, FaultNext, FaultUnit}
use Rattle.dw_base.specs.Refusals.{IsFaultOf, IsRefusedFor}
use Rattle.entry_read.specs.inside.Readings.{FaultOfColumns, HasFront}

-- a refusal of a fault
pub refused : (holds : Kind → ℕ → Type 0) (origin place : ℕ) (kind : Kind) (r : Refusal) → r ≡ Refused (record { kind = kind; place = origin + place }) → holds kind place → IsRefusedFor (IsFaultOf holds origin) r
refused holds origin place kind r e h = subst (λ (z : Refusal). IsRefusedFor (IsFaultOf holds origin) z) (sym e) (place, refl, h)

-- one fault for another
pub refused_for : (holds other : Kind → ℕ → Type 0) (origin : ℕ) → ((kind : Kind) (place : ℕ) → holds kind place → other kind place) → (r : Refusal) → IsRefusedFor (IsFaultOf holds origin) r → IsRefusedFor (IsFaultOf other origin) r
refused_for holds other origin f (Refused fault) (place, e, h) = (place, e, f fault.kind place h)
refused_for holds other origin f NoMemory h = tt

-- after a front that is held
module _ (info : List ℕ) (head : UnitHead) (ds : List Declared) (before : Counts) (f : Arena) (chains : List ℕ) (at : ℕ) (h : HasFront info head ds before f chains at) where
  pub after : (kind : Kind) (place : ℕ) → FaultNext info head ds before (listed_to f at) chains kind place → FaultUnit info head ds before kind place
  after kind place n = record { now = listed_to f at; chains = chains; front = h.front; fault = n }

  -- a code that is cut or doesn't fit
  pub code_fault : (kind : Kind) → IsGoing (listed_to f at) chains → at < end_of head → FaultNumber kind 0 (rest_of info head at) → FaultUnit info head ds before kind at
  code_fault Short g l (e, s) = after Short at (inl (refl, (g, s, inr l)))
  code_fault LebWide g l (e, s) = after LebWide at (inl (refl, (g, s)))
  code_fault _ g l s = absurd s

  -- a value that isn't whole
  value_fault : (kind : Kind) (place : ℕ) → IsCutEntry info head ds (listed_to f at) chains kind place → FaultUnit info head ds before kind place
  value_fault Short place x = after Short place (inr x)
  value_fault LebWide place x = after LebWide place (inr x)
  value_fault Text place x = after Text place x
  value_fault _ place x = absurd x.1.fault.fault

  pub entry_fault : (number values_at : ℕ) → IsGoing (listed_to f at) chains → number < length ds → SpellsBetween (Uleb ((declared_at ds number).code)) info at values_at → (kind : Kind) (place : ℕ) → FaultOfColumns info (end_of head) ((declared_at ds number).columns) values_at kind place → FaultUnit info head ds before kind place
  entry_fault number values_at g known coded kind place x = value_fault kind place (g, record { number = number; known = known; values_at = values_at; coded = coded; before = x.before; column = x.column; after = x.after; columns = x.parts; values = x.values; valued = x.valued; inside = x.inside; fault = x.fault })

  -- a code that no declaration has
  pub missing_fault : (code to : ℕ) → IsGoing (listed_to f at) chains → SpellsBetween (Uleb code) info at to → to ≤ end_of head → code ≢ 0 → ((number : ℕ) → number < length ds → (declared_at ds number).code ≢ code) → FaultUnit info head ds before CodeMissing at
  missing_fault code to g coded inside some none = after CodeMissing at (refl, record { going = g; code = code; stands = record { to = to; coded = coded; inside = inside }; some = some; missing = none })

  -- an entry past a limit
  pub limit_fault : (depth number to : ℕ) (new : Arena) → IsGoing (listed_to f at) chains → length chains ≡ depth → AddsEntry info ds depth number (listed_to f at) (listed_to new to) → to ≤ end_of head → (¬ IsWithin before (length new.entries) (length new.values)) → FaultUnit info head ds before Limit at
  limit_fault depth number to new g deep a inside past = after Limit at (refl, record { going = g; number = number; new = listed_to new to; entry = subst (λ (z : ℕ). AddsEntry info ds z number (listed_to f at) (listed_to new to)) (sym deep) a; inside = inside; first = h.first; past = past })

  -- the unit ends inside a chain
  pub chain_fault : IsGoing (listed_to f at) chains → end_of head ≤ at → FaultUnit info head ds before Tree head.at
  chain_fault g l = after Tree head.at (refl, inr (inl (g, let i : at ≤ end_of head = h.front.inside in omega arith)))

  -- the root's code is 0
  pub root_fault : (to : ℕ) → IsGoing (listed_to f at) chains → chains ≡ [] → SpellsBetween (Uleb 0) info at to → to ≤ end_of head → FaultUnit info head ds before Tree head.at
  root_fault to g none coded inside =
      let bare : f.entries ≡ [] = elim g [ inl x ↦ x | inr x ↦ absurd (x none) ] in
      after Tree head.at (refl, inl (bare, record { to = to; coded = coded; inside = inside }))

  -- a byte other than 0 follows the tree
  pub padding_fault : f.entries ≢ [] → chains ≡ [] → (k : ℕ) → at ≤ k → k < end_of head → slice_index info k ≢ 0 → FaultUnit info head ds before Tree head.at
  padding_fault some none k from inside other = after Tree head.at (refl, inr (inr (some, none, (k, from, inside, other))))
