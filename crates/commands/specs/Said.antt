-- What the program says.
use Rattle.std.specs.Prelude.{◌≡◌, ◌<◌, ℕ, List, [], ◌∷◌, ◌++◌, length, codes, ◌⊎◌, Option, option_map, nat_lt, ◌&&◌, if◌then◌else◌}
use Rattle.std.specs.Option.{ForSome}
use Rattle.verdict.specs.Accepts.{Accepts}
use Rattle.commands.specs.File.{Faulty, FaultyOutput, IsValid, IsRejected}
use Rattle.commands.specs.Words.{Command, Names}
use Rattle.commands.specs.Words.Command.{Shrink, Check, Stat, Make}
use Rattle.commands.specs.Run.{OfFiles, IsToldAs, input_limit, output_limit}
use Rattle.commands.specs.Summary.{SaysSummary, SaysSummaryPart}
use Rattle.std.specs.Fmt.{decimal}
use Rattle.dw_base.specs.declared.classes.Classes.{Classes}
use Rattle.dw_base.specs.Fault.{name_of as kind_name}
use Rattle.dw_base.specs.Host.{AddsPart}
use Rattle.dw_base.specs.declared.fault.Kind.{Kind}
use Rattle.dw_base.specs.declared.fault.Kind.TheVariants.{Limit}
use Rattle.elf_sections.specs.Elf.{section_count}
use Rattle.elf_sections.specs.Names.{name_of}
use Rattle.list_model.specs.declared.entry.ListKind.TheVariants.{Ranges, Locations}
use Rattle.same_meaning.specs.declared.reason.Reason.{Reason}
use Rattle.same_meaning.specs.declared.reason.Reason.TheVariants.{Broken, Kept, Rows, Table, Differs, Class, Line, List as ListRecord, Slot}

-- REFUSALS

-- the line that names a fault
abbrev pub refusal_text : Kind → ℕ → List ℕ
refusal_text kind place = codes "refused " ++ kind_name kind ++ codes " at " ++ decimal place ++ 10 ∷ []

-- the same of a check, which tells whether the first file has the fault or the second
abbrev pub input_refusal_text : Kind → ℕ → List ℕ
input_refusal_text kind place = codes "refused in " ++ kind_name kind ++ codes " at " ++ decimal place ++ 10 ∷ []

abbrev pub output_refusal_text : Kind → ℕ → List ℕ
output_refusal_text kind place = codes "refused out " ++ kind_name kind ++ codes " at " ++ decimal place ++ 10 ∷ []

-- what was said names a fault, which the file has where it is told
abbrev pub SaysFault : Option (List ℕ) → Option (List ℕ) → Option (List ℕ) → Type 0
SaysFault told before now =
    (kind : Kind) × (place : ℕ) × (ForSome told (λ file. Faulty file kind place)) × (now ≡ option_map (λ b. b ++ refusal_text kind place) before)

-- nothing was said, or some front of a line that names a fault, which the file has where it is told
abbrev pub SaysPart : Option (List ℕ) → Option (List ℕ) → Option (List ℕ) → Type 0
SaysPart told before now =
    (now ≡ before) ⊎ ((kind : Kind) × (place : ℕ) × (ForSome told (λ file. Faulty file kind place)) × AddsPart before (refusal_text kind place) now)

-- REASONS

-- The name by which a section is told. There is none for 0, which stands for bytes that no section has too, nor past the last section.
abbrev pub kept_name : List ℕ → ℕ → List ℕ
kept_name file s = if nat_lt 0 s && nat_lt s (section_count file) then name_of file s else []

-- A reason why three files are rejected, in words. A section is told by its name in the first of them.
abbrev pub reason_text : List ℕ → Reason → List ℕ
reason_text file (Broken place) = codes "record " ++ decimal place
reason_text file (Kept s) = codes "kept " ++ kept_name file s
reason_text file (Rows program) = codes "rows " ++ decimal program
reason_text file (Table Ranges part) = codes "table ranges " ++ decimal part
reason_text file (Table Locations part) = codes "table locations " ++ decimal part
reason_text file (Differs unit entry) = codes "differs " ++ decimal unit ++ codes " " ++ decimal entry
reason_text file (Class place) = codes "class " ++ decimal place
reason_text file (Line program pair) = codes "line " ++ decimal program ++ codes " " ++ decimal pair
reason_text file (ListRecord list item) = codes "list " ++ decimal list ++ codes " " ++ decimal item
reason_text file (Slot unit slot) = codes "slot " ++ decimal unit ++ codes " " ++ decimal slot

abbrev pub rejection_text : List ℕ → Reason → List ℕ
rejection_text file reason = codes "rejected " ++ reason_text file reason ++ 10 ∷ []

-- WHAT A CHECK SAYS

-- the line that says that the files are accepted
abbrev pub acceptance_text : List ℕ
acceptance_text = codes "accepted\n"

-- The line names a fault of the first file, or, where this one is valid, one of the second. Each has it where it is told.
abbrev pub IsInputRefusal : Option (List ℕ) → List ℕ → Type 0
IsInputRefusal input line =
    (kind : Kind) × (place : ℕ) × (ForSome input (λ file. Faulty file kind place)) × (line ≡ input_refusal_text kind place)

abbrev pub IsOutputRefusal : Option (List ℕ) → Option (List ℕ) → List ℕ → Type 0
IsOutputRefusal input output line =
    (kind : Kind) × (place : ℕ) × (ForSome input IsValid) × (ForSome output (λ written. FaultyOutput written kind place)) × (line ≡ output_refusal_text kind place)

abbrev pub IsRefusal : (List ℕ → Option (List ℕ)) → Names → List ℕ → Type 0
IsRefusal told n line = IsInputRefusal (told n.input) line ⊎ IsOutputRefusal (told n.input) (told n.output) line

-- the line tells why three files are rejected, which are those that are told
abbrev pub IsRejection : Classes → (List ℕ → Option (List ℕ)) → Names → List ℕ → Type 0
IsRejection classes told n line =
    (file written cert : List ℕ) × (reason : Reason) × IsToldAs (told n.input) file × IsToldAs (told n.output) written × IsToldAs (told n.certificate) cert × IsRejected classes file written cert reason × (line ≡ rejection_text file reason)

-- the line tells that they are accepted, as they are where they are told
abbrev pub IsAcceptance : Classes → (List ℕ → Option (List ℕ)) → Names → List ℕ → Type 0
IsAcceptance classes told n line = OfFiles (Accepts classes) told n × (line ≡ acceptance_text)

-- the line is one that a check says
abbrev pub IsCheckLine : Classes → (List ℕ → Option (List ℕ)) → Names → List ℕ → Type 0
IsCheckLine classes told n line = IsAcceptance classes told n line ⊎ (IsRefusal told n line ⊎ IsRejection classes told n line)

-- what was said is a line of which P holds
abbrev pub SaysLine : (List ℕ → Type 0) → Option (List ℕ) → Option (List ℕ) → Type 0
SaysLine P before now = (line : List ℕ) × P line × (now ≡ option_map (λ b. b ++ line) before)

-- nothing was said, or some front of one
abbrev pub SaysFront : (List ℕ → Type 0) → Option (List ℕ) → Option (List ℕ) → Type 0
SaysFront P before now = (now ≡ before) ⊎ ((line : List ℕ) × P line × AddsPart before line now)

-- WHAT EACH COMMAND SAYS

-- what was said names a fault of a file that is read; where none is, none has one
abbrev pub SaysRefusal : (List ℕ → Option (List ℕ)) → Option (List ℕ) → Option (List ℕ) → Command → Type 0
SaysRefusal told before now (Shrink n) = SaysFault (told n.input) before now
SaysRefusal told before now (Check n) = SaysLine (IsRefusal told n) before now
SaysRefusal told before now (Stat input) = SaysFault (told input) before now
SaysRefusal told before now (Make drawing) = ⊥

-- Of a file that is longer than its limit, where it is told, this was said: Limit at 0. The second file of a check is looked at where the
-- first is valid.
abbrev pub SaysLong : (List ℕ → Option (List ℕ)) → Option (List ℕ) → Option (List ℕ) → Command → Type 0
SaysLong told before now (Shrink n) = ForSome (told n.input) (λ file. input_limit < length file → now ≡ option_map (λ b. b ++ refusal_text Limit 0) before)
SaysLong told before now (Check n) =
    ForSome (told n.input) (λ file. input_limit < length file → now ≡ option_map (λ b. b ++ input_refusal_text Limit 0) before)
    × ForSome (told n.input) (λ file. IsValid file → ForSome (told n.output) (λ written. output_limit < length written → now ≡ option_map (λ b. b ++ output_refusal_text Limit 0) before))
SaysLong told before now (Stat input) = ForSome (told input) (λ file. input_limit < length file → now ≡ option_map (λ b. b ++ refusal_text Limit 0) before)
SaysLong told before now (Make drawing) = ⊥

-- what was said is why three files are rejected; a check alone says so
abbrev pub SaysRejection : Classes → (List ℕ → Option (List ℕ)) → Option (List ℕ) → Option (List ℕ) → Command → Type 0
SaysRejection classes told before now (Check n) = SaysLine (IsRejection classes told n) before now
SaysRejection classes told before now _ = ⊥

-- what was said where the work was done: that three files are accepted, or the line of a summary, where one is asked for, and else
-- nothing
abbrev pub SaysDone : Classes → (List ℕ → Option (List ℕ)) → Option (List ℕ) → Option (List ℕ) → Command → Type 0
SaysDone classes told before now (Shrink n) = now ≡ before
SaysDone classes told before now (Check n) = now ≡ option_map (λ b. b ++ acceptance_text) before
SaysDone classes told before now (Stat input) = SaysSummary classes (told input) before now
SaysDone classes told before now (Make drawing) = now ≡ before

-- What was said where the work ended early: nothing, or some front of a line, which may be that of a summary or of a check where one is
-- asked for.
abbrev pub StopsSaying : Classes → (List ℕ → Option (List ℕ)) → Option (List ℕ) → Option (List ℕ) → Command → Type 0
StopsSaying classes told before now (Shrink n) = SaysPart (told n.input) before now
StopsSaying classes told before now (Check n) = SaysFront (IsCheckLine classes told n) before now
StopsSaying classes told before now (Stat input) = SaysPart (told input) before now ⊎ SaysSummaryPart classes (told input) before now
StopsSaying classes told before now (Make drawing) = now ≡ before
