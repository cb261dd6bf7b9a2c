-- What a refusal says of bytes that a reader was given.
use Rattle.std.specs.Prelude.{◌≡◌, ◌+◌, ℕ}
use Rattle.dw_base.specs.declared.fault.Fault.{Fault}
use Rattle.dw_base.specs.declared.fault.Kind.{Kind}
use Rattle.dw_base.specs.declared.fault.Refusal.{Refusal}
use Rattle.dw_base.specs.declared.fault.Refusal.TheVariants.{Refused, NoMemory}

-- The fault is one of the kinds and places that are said, where `origin` is the file offset of the first byte from which these
-- places count.
abbrev pub IsFaultOf : (Kind → ℕ → Type 0) → ℕ → Fault → Type 0
IsFaultOf holds origin fault = (place : ℕ) × (fault.place ≡ origin + place) × holds fault.kind place

-- some fault holds
abbrev pub IsFaulty : (Kind → ℕ → Type 0) → Type 0
IsFaulty holds = (kind : Kind) × (place : ℕ) × holds kind place

-- memory was wanting, or a fault is refused that holds
abbrev pub IsRefusedFor : (Fault → Type 0) → Refusal → Type 0
IsRefusedFor holds (Refused fault) = holds fault
IsRefusedFor holds NoMemory = Unit {0}
