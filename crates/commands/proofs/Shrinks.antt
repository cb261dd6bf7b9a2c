-- From what was read to the whole file, in the clauses of the work.
use Rattle.std.proofs.Common.{◌≡◌, ◌≤◌, ◌<◌, ◌+◌, ◌^◌, ℕ, List, length, take, ◌∙◌, refl, ap, sym, subst, inl, inr, arith, Option, Some, None, Result, Ok, Err}
use Rattle.std.specs.Prelude.{◌⊎◌, OnOk, IsSome, option_map}
use Rattle.std.specs.Option.{ForSome}
use Rattle.std.proofs.lemmas.Bool.{false≢true}
use Rattle.std.proofs.lemmas.Result.{on_ok_weaker}
use Rattle.dw_base.specs.declared.classes.Classes.{Classes}
use Rattle.dw_base.specs.declared.fault.Kind.TheVariants.{Limit}
use Rattle.dw_base.specs.declared.fault.Reach.TheVariants.{Narrow}
use Rattle.dw_base.specs.Host.{Rose}
use Rattle.dw_base.specs.declared.fault.Refusal.{Refusal}
use Rattle.dw_base.specs.declared.fault.Refusal.TheVariants.{Refused, NoMemory}
use Rattle.value_links.specs.Faults.{NamesFault}
use Rattle.value_links.specs.Laws.{FirstFaultsDecide}
use Rattle.commands.specs.inside.Ending.{ending_of}
use Rattle.commands.specs.File.{Faulty, IsValid}
use Rattle.commands.specs.declared.ending.Ending.{Ending}
use Rattle.commands.specs.declared.ending.Ending.TheVariants as ending
use Rattle.verdict.specs.Accepts.{Accepts}
use Rattle.commands.specs.Run.{Writes, Certifies, WritesBoth, WritesAccepted, ReadsValid, IsUntouched, input_limit}
use Rattle.commands.specs.Words.{Names}
use Rattle.commands.specs.Words.Command.{Check}
use Rattle.commands.specs.inside.Run.{OnlyWriteFault, HasWriteCause, EndsByFault, RefusesLong}
use Rattle.commands.proofs.Fronts.{short_front, long_front}

-- what is so in any case
always_ok : {T E : Type 0} (P : Type 0) (r : Result T E) → P → OnOk r P
always_ok P (Ok x) p = p
always_ok P (Err e) p = tt

-- what was read is the file
pub short_read : (told : Option (List ℕ)) (front : List ℕ) → ForSome told (λ file. front ≡ take (2 ^ 30 + 1) file) → length front ≤ 2 ^ 30 → ForSome told (λ file. front ≡ file)
short_read told front read short = λ file e. short_front (2 ^ 30) front file (read file e) short

-- what was read is past the limit, and so is the file
pub long_read : FirstFaultsDecide → (told : Option (List ℕ)) (front : List ℕ) → ForSome told (λ file. front ≡ take (2 ^ 30 + 1) file) → 2 ^ 30 < length front → ForSome told (λ file. Faulty file Limit 0)
long_read decide told front read long = λ file e. decide.file file Narrow Limit 0 (inl (refl, long_front (2 ^ 30) front file (read file e) long))

pub refusal_named : (T : Type 0) (told : Option (List ℕ)) (front : List ℕ) (refusal : Refusal) → ForSome told (λ file. front ≡ file) → NamesFault front Narrow refusal → EndsByFault {T = T} told (Err (ending_of refusal))
refusal_named T told front (Refused fault) read h = λ file e. subst (λ (f : List ℕ). Faulty f fault.kind fault.place) (read file e) h
refusal_named T told front NoMemory read h = tt

-- a file within the limit isn't refused for its length, and may be for another fault
pub within_limit : {T : Type 0} (told : Option (List ℕ)) (r : Result T Ending) → ForSome told (λ file. length file ≤ input_limit) → RefusesLong told r
within_limit told (Ok x) short = short
within_limit told (Err (ending.Refused fault)) short = λ file e long. absurd (let s : length file ≤ input_limit = short file e in omega arith)
within_limit told (Err ending.ReadFault) short = tt
within_limit told (Err ending.WriteFault) short = tt
within_limit told (Err ending.NoMemory) short = tt

pub valid_read : {T E : Type 0} (told : Option (List ℕ)) (front : List ℕ) (r : Result T E) → ForSome told (λ file. front ≡ file) → IsValid front → OnOk r (ForSome told IsValid)
valid_read told front r read valid =
    always_ok (ForSome told IsValid) r (λ file e. subst IsValid (read file e) valid)

told_output : (output : Option (List ℕ)) (w : List ℕ) → IsSome output → option_map (λ _. w) output ≡ Some w
told_output None w some = absurd (false≢true some)
told_output (Some b) w some = refl

-- what is so of the file that was read, and of what was written for it, is so of the files
pub front_written : (P : List ℕ → List ℕ → Type 0) (old middle new : List ℕ → Option (List ℕ)) (input output front written : List ℕ) → ForSome (old input) (λ file. front ≡ file) → P front written → middle output ≡ old output → new output ≡ option_map (λ _. written) (middle output) → Writes P old new input output
front_written P old middle new input output front written read holds kept put = λ file told some.
    let out : new output ≡ Some written = put ∙ ap (option_map (λ _. written)) kept ∙ told_output (old output) written some in
    (written, out, subst (λ f. P f written) (read file told) holds)

-- a valid file that was read isn't one that has a fault
pub no_fault : (told : Option (List ℕ)) (front file : List ℕ) → ForSome told (λ whole. front ≡ whole) → IsValid front → told ≡ Some file → ¬ IsValid file → ⊥
no_fault told front file read valid e faulty = faulty (subst IsValid (read file e) valid)

-- what is so of what was written for the output and the certificate is so of the files
pub both_written : {T E : Type 0} (P : List ℕ → List ℕ → Type 0) (old middle new : List ℕ → Option (List ℕ)) (output certificate written bytes : List ℕ) (r : Result T E) → P written bytes → ((f : List ℕ) → middle f ≡ old f) → OnOk r (new output ≡ option_map (λ _. written) (middle output)) → OnOk r (new certificate ≡ option_map (λ _. bytes) (middle certificate)) → OnOk r (Certifies P old new output certificate)
both_written P old middle new output certificate written bytes (Ok x) holds kept put certified = λ some there.
    let first : new output ≡ Some written = put ∙ ap (option_map (λ _. written)) (kept output) ∙ told_output (old output) written some in
    let second : new certificate ≡ Some bytes = certified ∙ ap (option_map (λ _. bytes)) (kept certificate) ∙ told_output (old certificate) bytes there in
    (written, bytes, first, second, holds)
both_written P old middle new output certificate written bytes (Err e) holds kept put certified = tt

-- and beside the bytes of the input, which was read
pub all_written : {T E : Type 0} (P : List ℕ → List ℕ → List ℕ → Type 0) (old middle new : List ℕ → Option (List ℕ)) (input output certificate front written bytes : List ℕ) (r : Result T E) → ForSome (old input) (λ file. front ≡ file) → P front written bytes → ((f : List ℕ) → middle f ≡ old f) → OnOk r (new output ≡ option_map (λ _. written) (middle output)) → OnOk r (new certificate ≡ option_map (λ _. bytes) (middle certificate)) → OnOk r (WritesBoth P old new input output certificate)
all_written P old middle new input output certificate front written bytes r read holds kept put certified =
    on_ok_weaker r (λ both file told some there.
    let w = both some there in
    (w.0, w.1, w.2, w.3, subst (λ (f : List ℕ). P f w.0 w.1) (read file told) w.4)) (both_written (P front) old middle new output certificate written bytes r holds kept put certified)

-- one that is all that is promised is each part of it
pub writes_part : (P Q : List ℕ → List ℕ → Type 0) (old new : List ℕ → Option (List ℕ)) (input output : List ℕ) → ((file written : List ℕ) → P file written → Q file written) → Writes P old new input output → Writes Q old new input output
writes_part P Q old new input output part writes = λ file told some.
    let w = writes file told some in (w.0, w.1, part file w.0 w.2)

-- a file that isn't touched after a read wasn't touched at all, and else the output was written
pub untouched_or_written : (P : List ℕ → List ℕ → Type 0) (old middle new : List ℕ → Option (List ℕ)) (before between now : List ℕ → ℕ) (input output certificate front written : List ℕ) → ForSome (old input) (λ file. front ≡ file) → P front written → ((f : List ℕ) → middle f ≡ old f) → ((f : List ℕ) → between f ≡ before f) → (IsSome (middle certificate) → IsUntouched middle new between now certificate ⊎ (new output ≡ option_map (λ _. written) (middle output))) → IsSome (old certificate) → IsUntouched old new before now certificate ⊎ Writes P old new input output
untouched_or_written P old middle new before between now input output certificate front written read holds kept still either some =
    elim (either (subst IsSome (sym (kept certificate)) some)) [
      | inl same ↦ inl (same.0 ∙ kept certificate, same.1 ∙ still certificate)
      | inr put ↦ inr (front_written P old middle new input output front written read holds (kept output) put)
    ]

-- the cause of a write fault after a read is that of the whole work
pub caused : {T : Type 0} (old middle new : List ℕ → ℕ) (output certificate : List ℕ) (r : Result T Ending) → ((f : List ℕ) → middle f ≡ old f) → OnlyWriteFault (Rose (middle output) (new output) ⊎ Rose (middle certificate) (new certificate)) middle new r → HasWriteCause (Rose (old output) (new output) ⊎ Rose (old certificate) (new certificate)) old new r
caused old middle new output certificate (Ok x) kept h = λ f. h f ∙ kept f
caused old middle new output certificate (Err (ending.Refused fault)) kept h = absurd h
caused old middle new output certificate (Err ending.ReadFault) kept h = absurd h
caused old middle new output certificate (Err ending.WriteFault) kept h =
    elim h [
      | inl rose ↦ inl (subst (λ (n : ℕ). Rose n (new output)) (kept output) rose)
      | inr rose ↦ inr (subst (λ (n : ℕ). Rose n (new certificate)) (kept certificate) rose)
    ]
caused old middle new output certificate (Err ending.NoMemory) kept h = λ f. h f ∙ kept f

-- THREE FILES THAT CAN BE CHECKED

-- what was written beside an input that stays can be checked, and is accepted
pub can_be_checked : (classes : Classes) (old new : List ℕ → Option (List ℕ)) (n : Names) → new n.input ≡ old n.input → WritesBoth (Accepts classes) old new n.input n.output n.certificate → WritesAccepted classes old new n
can_be_checked classes old new n stays writes = λ in_told out_told cert_told. (stays, of_input (old n.input) refl in_told out_told cert_told)
  where
    of_input : (told : Option (List ℕ)) → old n.input ≡ told → IsSome told → IsSome (old n.output) → IsSome (old n.certificate) → ReadsValid classes new (Check n)
    of_input None is some out_told cert_told = absurd (false≢true some)
    of_input (Some file) is some out_told cert_told =
        let w = writes file is out_told cert_told in
        (file, w.0, w.1, stays ∙ is, w.2, w.3, w.4)
