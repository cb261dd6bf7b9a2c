-- What the program says.
-- Inner functions and proofs alone need what stands here.
use Rattle.std.specs.Prelude.{◌≡◌, ◌≤◌, ◌<◌, ℕ, ◌⊎◌, List, ◌++◌, Option, option_map}
use Rattle.dw_base.specs.Host.{Rose, AddsPart}
use Rattle.commands.specs.declared.ending.Ending.{Ending}
use Rattle.commands.specs.declared.ending.Ending.TheVariants.{Refused, ReadFault, WriteFault, NoMemory}
use Rattle.commands.specs.Said.{refusal_text}

-- the status after a message: the one that was meant, or 5 where the count of failed messages rose, or 6
pub record SaysOrStops (status before now result : ℕ) : Type 0 where
  pub which : (result ≡ status) ⊎ ((result ≡ 5) ⊎ (result ≡ 6))
  pub later : before ≤ now
  pub failed : result ≡ 5 → Rose before now
  pub rose : before < now → result ≡ 5

-- a message is said, or some front of it in place of the status that was meant
pub record SaysText (text : List ℕ) (status : ℕ) (old new : Option (List ℕ)) (before now result : ℕ) : Type 0 where
  pub answer : SaysOrStops status before now result
  pub said : result ≡ status → new ≡ option_map (λ b. b ++ text) old
  pub part : (result ≡ 5) ⊎ (result ≡ 6) → AddsPart old text new

-- the status is this one, and nothing is said
pub record IsQuiet (status : ℕ) (old new : Option (List ℕ)) (before now result : ℕ) : Type 0 where
  pub which : result ≡ status
  pub said : new ≡ old
  pub still : now ≡ before

-- how the work ends for a reason: a fault of the file is said, and nothing else
abbrev pub EndsFor : Ending → Option (List ℕ) → Option (List ℕ) → ℕ → ℕ → ℕ → Type 0
EndsFor (Refused fault) old new before now result = SaysText (refusal_text fault.kind fault.place) 3 old new before now result
EndsFor ReadFault old new before now result = IsQuiet 4 old new before now result
EndsFor WriteFault old new before now result = IsQuiet 5 old new before now result
EndsFor NoMemory old new before now result = IsQuiet 6 old new before now result
