-- A law of reasons.
use Rattle.std.specs.Prelude.{◌↔◌, ℕ, List}
use Rattle.dw_base.specs.declared.fault.Reach.{Reach}
use Rattle.value_links.specs.Debug.{Debug, Means}
use Rattle.value_links.specs.Faults.{IsValid}
use Rattle.value_links.specs.Same.{Same}
use Rattle.same_meaning.specs.declared.reason.Reason.{Reason}
use Rattle.same_meaning.specs.Differences.{IsReason}

-- Two valid files mean the same exactly where there is no reason why they don't.
abbrev pub SameWithoutReason : Type 0
SameWithoutReason =
    (a b : List ℕ) (first second : Reach) (c d : Debug) → IsValid a first → IsValid b second → Means a c → Means b d → Same a b ↔ ((reason : Reason) → IsReason a b c d reason → ⊥)
