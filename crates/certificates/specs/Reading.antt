-- What the reader and the writer of records say.
use Rattle.std.specs.Prelude.{◌≤◌, ◌-◌, ℕ, List, length, take, drop, ⊤}
use Rattle.std.specs.List.{All}
use Rattle.dw_base.specs.Classes.{every}
use Rattle.leb_codec.specs.Records.{Record, OfLines, OfList, OfLayout, IsRun, AreRuns, IsBroken}
use Rattle.certificates.specs.declared.proof.Proof.{Proof}
use Rattle.certificates.specs.declared.proof.Proof.TheVariants.{Lines, List as AList, Layout}
use Rattle.certificates.specs.declared.proof.CertFault.{CertFault}
use Rattle.certificates.specs.declared.proof.CertFault.TheVariants.{Broken, NoMemory}

-- a value is spelled from a place of the bytes up to another
pub record IsRead {V : Type 0} (Spells : V → List ℕ → Type 0) (bytes : List ℕ) (at : ℕ) (v : V) (end : ℕ) : Type 0 where
  pub after : at ≤ end
  pub inside : end ≤ length bytes
  pub spelled : Spells v (take (end - at) (drop at bytes))

-- what a record says
abbrev pub record_of : Proof → Record
record_of (Lines runs) = OfLines runs.items
record_of (AList potentials) = OfList potentials.items
record_of (Layout ranks) = OfLayout ranks.items

-- a record can be written: the runs of a line program have all pairs, each has some of them, and neighbours differ
abbrev pub CanBeWritten : Proof → Type 0
CanBeWritten (Lines runs) = AreRuns runs.items × All IsRun runs.items
CanBeWritten (AList potentials) = ⊤
CanBeWritten (Layout ranks) = ⊤

-- a fault other than want of memory names the place at which the bytes break the form
abbrev pub IsFaultOf : List ℕ → CertFault → Type 0
IsFaultOf bytes (Broken place) = IsBroken every bytes place
IsFaultOf bytes NoMemory = ⊤

-- the bytes break the form nowhere
abbrev pub IsWhole : List ℕ → Type 0
IsWhole bytes = (place : ℕ) → IsBroken every bytes place → ⊥
