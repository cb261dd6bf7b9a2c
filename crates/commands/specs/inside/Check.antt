-- What three files that are checked come to.
-- Inner functions and proofs alone need what stands here.
use Rattle.std.specs.Prelude.{◌≡◌, ◌≢◌, ◌≤◌, ◌<◌, ◌+◌, ◌⊎◌, ℕ, List, length, take, Option, string_bytes}
use Rattle.std.specs.Option.{ForSome}
use Rattle.dw_base.specs.declared.classes.Classes.{Classes}
use Rattle.dw_base.specs.Host.{Rose}
use Rattle.dw_base.specs.declared.fault.Fault.{Fault}
use Rattle.dw_base.specs.declared.fault.Kind.TheVariants.{Limit}
use Rattle.dw_base.specs.declared.fault.Reach.{Reach}
use Rattle.dw_base.specs.declared.fault.Reach.TheVariants.{Narrow, Wide}
use Rattle.dw_base.specs.declared.fault.Refusal.{Refusal}
use Rattle.dw_base.specs.declared.fault.Refusal.TheVariants.{Refused as RefusedFor, NoMemory as NoRoom}
use Rattle.elf_sections.specs.Faults.{file_limit}
use Rattle.same_meaning.specs.declared.reason.Reason.{Reason}
use Rattle.value_links.specs.Faults.{Faulty as FaultyWithin}
use Rattle.verdict.specs.Accepts.{Accepts, IsAllLeast, IsAllKept}
use Rattle.commands.specs.File.{IsValid, IsValidOutput, IsRejected}
use Rattle.commands.specs.Words.{Names}
use Rattle.commands.specs.Words.Command.{Check}
use Rattle.commands.specs.Run.{OfBothFiles, OfFiles, FailsToRead, ReadsWell, ReadsValid, HasFault}
use Rattle.commands.specs.Said.{acceptance_text, input_refusal_text, output_refusal_text, rejection_text, SaysRefusal, SaysLong, SaysRejection, SaysDone, StopsSaying}
use Rattle.commands.specs.declared.check.Answer.{Answer}
use Rattle.commands.specs.declared.check.Answer.TheVariants.{Accepted, Refused, Rejected}

-- A fault that is named of a file: it has it, and where it is too long, that is the fault.
pub record IsNamed (file : List ℕ) (reach : Reach) (fault : Fault) : Type 0 where
  pub has : FaultyWithin file reach fault.kind fault.place
  pub long : file_limit reach < length file → fault ≡ record { kind = Limit; place = 0 }

-- a refusal names such a fault, or memory was wanting
abbrev pub RefusesFor : List ℕ → Reach → Refusal → Type 0
RefusesFor file reach (RefusedFor fault) = IsNamed file reach fault
RefusesFor file reach NoRoom = Unit {0}

-- the line names such a fault of the first file, or of the second, where the first is valid
abbrev pub NamesFaultIn : List ℕ → List ℕ → Type 0
NamesFaultIn file line = (fault : Fault) × IsNamed file Narrow fault × (line ≡ input_refusal_text fault.kind fault.place)

abbrev pub NamesFaultOut : List ℕ → List ℕ → List ℕ → Type 0
NamesFaultOut file written line = (fault : Fault) × IsValid file × IsNamed written Wide fault × (line ≡ output_refusal_text fault.kind fault.place)

-- what was read of a file, to its end or to one byte past its limit
abbrev pub IsFrontOf : Reach → Option (List ℕ) → List ℕ → Type 0
IsFrontOf reach told front = ForSome told (λ b. front ≡ take (file_limit reach + 1) b)

-- the status and the line that go with an answer
abbrev pub status_of : Answer → ℕ
status_of Accepted = 0
status_of (Refused line) = 3
status_of (Rejected line) = 7

abbrev pub line_of : Answer → List ℕ
line_of Accepted = acceptance_text
line_of (Refused line) = string_bytes line
line_of (Rejected line) = line.items

-- the answer is that to these bytes
abbrev pub IsAnswer : Classes → List ℕ → List ℕ → List ℕ → Answer → Type 0
IsAnswer classes file written cert Accepted = Accepts classes file written cert × (IsAllLeast classes written × IsAllKept classes file written)
IsAnswer classes file written cert (Refused line) = NamesFaultIn file (string_bytes line) ⊎ NamesFaultOut file written (string_bytes line)
IsAnswer classes file written cert (Rejected line) = (reason : Reason) × IsRejected classes file written cert reason × (line.items ≡ rejection_text file reason)

-- How a check of three files ends: `told` has the bytes of files, and then come what was said before and after, the counts of failed reads
-- before and after, those of failed messages, and the status.
pub record EndsCheck (classes : Classes) (told : List ℕ → Option (List ℕ)) (n : Names) (old new : Option (List ℕ)) (reads risen : List ℕ → ℕ) (before now result : ℕ) : Type 0 where
  pub known : (result ≤ 7) × ((result ≢ 1) × (result ≢ 2))
  pub refused : result ≡ 3 → SaysRefusal told old new (Check n)
  pub long : result ≡ 3 → SaysLong told old new (Check n)
  pub read_fault : result ≡ 4 → FailsToRead reads risen (Check n)
  pub read_rose : (f : List ℕ) → reads f < risen f → result ≡ 4
  pub say_fault : result ≡ 5 → Rose before now
  pub say_rose : before < now → result ≡ 5
  pub valid : result ≡ 0 → ForSome (told n.input) IsValid
  pub output_valid : result ≡ 0 → ForSome (told n.output) IsValidOutput
  pub accepted : result ≡ 0 → OfFiles (Accepts classes) told n
  pub least : result ≡ 0 → ForSome (told n.output) (IsAllLeast classes)
  pub kept : result ≡ 0 → OfBothFiles (IsAllKept classes) told n
  pub rejected : result ≡ 7 → SaysRejection classes told old new (Check n)
  pub said : result ≡ 0 → SaysDone classes told old new (Check n)
  pub quiet : result ≡ 4 → new ≡ old
  pub stopped : (result ≡ 5) ⊎ (result ≡ 6) → StopsSaying classes told old new (Check n)
  pub complete : ReadsValid classes told (Check n) → ReadsWell reads risen (Check n) → ¬ Rose before now → (result ≡ 0) ⊎ (result ≡ 6)
  pub refuses : HasFault told (Check n) → ReadsWell reads risen (Check n) → (result ≡ 3) ⊎ ((result ≡ 5) ⊎ (result ≡ 6))
  pub rejects : OfFiles (λ file written cert. IsValid file → IsValidOutput written → ¬ Accepts classes file written cert → ReadsWell reads risen (Check n) → (result ≡ 7) ⊎ ((result ≡ 5) ⊎ (result ≡ 6))) told n
