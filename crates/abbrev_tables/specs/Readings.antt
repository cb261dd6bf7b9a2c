-- What the parts of the reader give.
use Rattle.std.specs.Prelude.{◌≡◌, ◌<◌, ◌+◌, ◌^◌, ℕ, List, drop}
use Rattle.dw_base.specs.declared.fault.Fault.{Fault}
use Rattle.dw_base.specs.declared.fault.Refusal.{Refusal}
use Rattle.dw_base.specs.declared.fault.Refusal.TheVariants.{Refused, NoMemory as NoRoom}
use Rattle.abbrev_tables.specs.Faults.{FaultTable}

-- a refusal names a fault of the table at a place of the section, whose first byte stands at `origin` in the file
pub record NamesFault (section : List ℕ) (at origin : ℕ) (f : Fault) : Type 0 where
  pub inner : ℕ
  pub fault : FaultTable f.kind inner (drop at section)
  pub place : origin + at + inner < 2 ^ 64 → f.place ≡ origin + at + inner

abbrev pub IsRefusal : List ℕ → ℕ → ℕ → Refusal → Type 0
IsRefusal section at origin (Refused f) = NamesFault section at origin f
IsRefusal section at origin NoRoom = Unit {0}
