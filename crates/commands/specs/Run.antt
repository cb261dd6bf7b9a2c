-- What is written under the names of the output and of the certificate, what fails, and when the work can be done.
use Rattle.std.specs.Prelude.{◌≡◌, ◌⊎◌, ℕ, List, Option, Some, IsSome}
use Rattle.std.specs.Option.{ForSome}
use Rattle.dw_base.specs.declared.classes.Classes.{Classes}
use Rattle.dw_base.specs.Host.{Rose}
use Rattle.dw_base.specs.declared.fault.Reach.TheVariants.{Narrow, Wide}
use Rattle.elf_sections.specs.Faults.{file_limit}
use Rattle.verdict.specs.Accepts.{Accepts}
use Rattle.commands.specs.File.{IsValid, IsValidOutput}
use Rattle.commands.specs.Words.{Command, Names}
use Rattle.commands.specs.Words.Command.{Shrink, Check, Stat, Make}

-- where both files are told, the output holds bytes of which P holds beside those of the input
abbrev pub Writes : (List ℕ → List ℕ → Type 0) → (List ℕ → Option (List ℕ)) → (List ℕ → Option (List ℕ)) → List ℕ → List ℕ → Type 0
Writes P old new input output =
    (file : List ℕ) → old input ≡ Some file → IsSome (old output) → (written : List ℕ) × (new output ≡ Some written) × P file written

-- where both files are told, the output and the certificate hold bytes of which P holds
abbrev pub Certifies : (List ℕ → List ℕ → Type 0) → (List ℕ → Option (List ℕ)) → (List ℕ → Option (List ℕ)) → List ℕ → List ℕ → Type 0
Certifies P old new output certificate =
    IsSome (old output) → IsSome (old certificate) → (written : List ℕ) × (bytes : List ℕ) × (new output ≡ Some written) × (new certificate ≡ Some bytes) × P written bytes

-- where all three files are told, the output and the certificate hold bytes of which P holds beside those of the input
abbrev pub WritesBoth : (List ℕ → List ℕ → List ℕ → Type 0) → (List ℕ → Option (List ℕ)) → (List ℕ → Option (List ℕ)) → List ℕ → List ℕ → List ℕ → Type 0
WritesBoth P old new input output certificate =
    (file : List ℕ) → old input ≡ Some file → IsSome (old output) → IsSome (old certificate) → (written : List ℕ) × (bytes : List ℕ) × (new output ≡ Some written) × (new certificate ≡ Some bytes) × P file written bytes

-- where the output is told, it holds bytes of which P holds
abbrev pub WritesOut : (List ℕ → Type 0) → (List ℕ → Option (List ℕ)) → (List ℕ → Option (List ℕ)) → List ℕ → Type 0
WritesOut P old new output = IsSome (old output) → (written : List ℕ) × (new output ≡ Some written) × P written

-- a file holds what it held, and no more of its writes have failed
abbrev pub IsUntouched : (List ℕ → Option (List ℕ)) → (List ℕ → Option (List ℕ)) → (List ℕ → ℕ) → (List ℕ → ℕ) → List ℕ → Type 0
IsUntouched old new before now f = (new f ≡ old f) × (now f ≡ before f)

-- this holds of the bytes of the first two files, where both are told
abbrev pub OfBothFiles : (List ℕ → List ℕ → Type 0) → (List ℕ → Option (List ℕ)) → Names → Type 0
OfBothFiles P told n = (file written : List ℕ) → told n.input ≡ Some file → told n.output ≡ Some written → P file written

-- this holds of the bytes of the three files, where all of them are told
abbrev pub OfFiles : (List ℕ → List ℕ → List ℕ → Type 0) → (List ℕ → Option (List ℕ)) → Names → Type 0
OfFiles P told n =
    (file written cert : List ℕ) → told n.input ≡ Some file → told n.output ≡ Some written → told n.certificate ≡ Some cert → P file written cert

-- this is the file of a name, where it is told
abbrev pub IsToldAs : Option (List ℕ) → List ℕ → Type 0
IsToldAs told file = ForSome told (λ b. file ≡ b)

-- why a call fails that reads: the count of a file that is read rose
abbrev pub FailsToRead : (List ℕ → ℕ) → (List ℕ → ℕ) → Command → Type 0
FailsToRead before now (Shrink n) = Rose (before n.input) (now n.input)
FailsToRead before now (Check n) = Rose (before n.input) (now n.input) ⊎ (Rose (before n.output) (now n.output) ⊎ Rose (before n.certificate) (now n.certificate))
FailsToRead before now (Stat input) = Rose (before input) (now input)
FailsToRead before now (Make drawing) = ⊥

-- Why a call fails that writes: the count of a file that is written rose, or, as it has where a summary or a check is asked for, that of
-- messages, where there was one to say: an input that is told has a fault then.
abbrev pub FailsToWrite : (List ℕ → ℕ) → (List ℕ → ℕ) → Type 0 → (List ℕ → Option (List ℕ)) → Command → Type 0
FailsToWrite before now says told (Shrink n) = (Rose (before n.output) (now n.output) ⊎ Rose (before n.certificate) (now n.certificate)) ⊎ (says × ForSome (told n.input) (λ file. ¬ IsValid file))
FailsToWrite before now says told (Check n) = says
FailsToWrite before now says told (Stat input) = says
FailsToWrite before now says told (Make drawing) = Rose (before drawing.output) (now drawing.output)

-- no such count rose
abbrev pub ReadsWell : (List ℕ → ℕ) → (List ℕ → ℕ) → Command → Type 0
ReadsWell before now c = ¬ FailsToRead before now c

abbrev pub WritesWell : (List ℕ → ℕ) → (List ℕ → ℕ) → Type 0 → Command → Type 0
WritesWell before now says (Shrink n) = (¬ Rose (before n.output) (now n.output)) × (¬ Rose (before n.certificate) (now n.certificate))
WritesWell before now says (Check n) = ¬ says
WritesWell before now says (Stat input) = ¬ says
WritesWell before now says (Make drawing) = ¬ Rose (before drawing.output) (now drawing.output)

-- The work can be done: the file that is read, where one is, is told and has no fault. Of a check all three files are told, and the second
-- is accepted.
abbrev pub ReadsValid : Classes → (List ℕ → Option (List ℕ)) → Command → Type 0
ReadsValid classes told (Shrink n) = (file : List ℕ) × (told n.input ≡ Some file) × IsValid file
ReadsValid classes told (Check n) = (file written cert : List ℕ) × (told n.input ≡ Some file) × (told n.output ≡ Some written) × (told n.certificate ≡ Some cert) × Accepts classes file written cert
ReadsValid classes told (Stat input) = (file : List ℕ) × (told input ≡ Some file) × IsValid file
ReadsValid classes told (Make drawing) = Unit {0}

-- Where all three files of these names were told, the input is as it was, and all three can be checked now and are accepted.
abbrev pub WritesAccepted : Classes → (List ℕ → Option (List ℕ)) → (List ℕ → Option (List ℕ)) → Names → Type 0
WritesAccepted classes old new n = IsSome (old n.input) → IsSome (old n.output) → IsSome (old n.certificate) → (new n.input ≡ old n.input) × ReadsValid classes new (Check n)

-- a file that is read is told and has a fault; of a check this is the first, or the second
abbrev pub HasFault : (List ℕ → Option (List ℕ)) → Command → Type 0
HasFault told (Shrink n) = (file : List ℕ) × (told n.input ≡ Some file) × (¬ IsValid file)
HasFault told (Check n) = ((file : List ℕ) × (told n.input ≡ Some file) × (¬ IsValid file)) ⊎ ((written : List ℕ) × (told n.output ≡ Some written) × (¬ IsValidOutput written))
HasFault told (Stat input) = (file : List ℕ) × (told input ≡ Some file) × (¬ IsValid file)
HasFault told (Make drawing) = ⊥

-- the most bytes of an input, and of a file that is written for one
abbrev pub input_limit : ℕ
input_limit = file_limit Narrow

abbrev pub output_limit : ℕ
output_limit = file_limit Wide
