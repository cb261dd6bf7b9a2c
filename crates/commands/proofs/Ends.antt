-- What an early end of the work says of its cause, in the clauses of the program.
use Rattle.std.proofs.Common.{◌≡◌, ◌<◌, ◌++◌, ◌∙◌, ℕ, List, length, refl, sym, ap, subst, inl, inr, arith, Option, Some, Err}
use Rattle.std.specs.Prelude.{◌⊎◌, option_map}
use Rattle.std.specs.Option.{ForSome}
use Rattle.dw_base.specs.declared.fault.Fault.{Fault}
use Rattle.dw_base.specs.declared.fault.Kind.TheVariants.{Limit}
use Rattle.dw_base.specs.Host.{Rose}
use Rattle.commands.specs.File.{Faulty, IsValid}
use Rattle.commands.specs.Run.{Writes, IsUntouched, input_limit}
use Rattle.commands.specs.Said.{refusal_text, SaysFault, SaysPart}
use Rattle.commands.specs.declared.ending.Ending.{Ending}
use Rattle.commands.specs.declared.ending.Ending.TheVariants.{Refused, ReadFault, WriteFault, NoMemory}
use Rattle.commands.specs.declared.words.Command.{Command as Kept}
use Rattle.commands.specs.inside.Run.{HasReadCause, HasWriteCause, EndsByFault, RefusesLong}
use Rattle.commands.specs.inside.Said.{SaysOrStops, EndsFor}
use Rattle.commands.specs.inside.Words.{meant}
use Rattle.commands.specs.Words.{Command}

-- what is asked for, by the command that is kept
pub asked_is : (asked : Option Command) (command kept : Kept) → Some (meant command) ≡ asked → command ≡ kept → asked ≡ Some (meant kept)
asked_is asked command kept same is = sym same ∙ ap (λ z. Some (meant z)) is

-- no other status follows a message that was meant to end well
pub not_said : (before now result : ℕ) → SaysOrStops 0 before now result → (result ≡ 2) ⊎ ((result ≡ 3) ⊎ (result ≡ 4)) → ⊥
not_said before now result says (inl e) =
    elim says.which [
      | inl zero ↦ absurd (omega arith)
      | inr (inl five) ↦ absurd (omega arith)
      | inr (inr six) ↦ absurd (omega arith)
    ]
not_said before now result says (inr (inl e)) =
    elim says.which [
      | inl zero ↦ absurd (omega arith)
      | inr (inl five) ↦ absurd (omega arith)
      | inr (inr six) ↦ absurd (omega arith)
    ]
not_said before now result says (inr (inr e)) =
    elim says.which [
      | inl zero ↦ absurd (omega arith)
      | inr (inl five) ↦ absurd (omega arith)
      | inr (inr six) ↦ absurd (omega arith)
    ]

pub not_rejected : (before now result : ℕ) → SaysOrStops 0 before now result → result ≡ 7 → ⊥
not_rejected before now result says e =
    elim says.which [
      | inl zero ↦ absurd (omega arith)
      | inr (inl five) ↦ absurd (omega arith)
      | inr (inr six) ↦ absurd (omega arith)
    ]

-- where the message didn't fail, it was said or memory was wanting
pub said_well : (before now result : ℕ) → SaysOrStops 0 before now result → ¬ Rose before now → (result ≡ 0) ⊎ (result ≡ 6)
said_well before now result says well =
    elim says.which [
      | inl zero ↦ inl zero
      | inr (inl five) ↦ absurd (well (says.failed five))
      | inr (inr six) ↦ inr six
    ]

-- nothing was said, and no message failed, between two calls
pub ends_from : (e : Ending) (old middle new : Option (List ℕ)) (before between now result : ℕ) → middle ≡ old → between ≡ before → EndsFor e middle new between now result → EndsFor e old new before now result
ends_from e old middle new before between now result said still ends =
    subst (λ (n : ℕ). EndsFor e old new n now result) still (subst (λ (z : Option (List ℕ)). EndsFor e z new between now result) said ends)

-- a refusal names a fault
pub ends_refused : (T : Type 0) (told : Option (List ℕ)) (e : Ending) (old new : Option (List ℕ)) (before now result : ℕ) → EndsByFault {T = T} told (Err e) → EndsFor e old new before now result → result ≡ 3 → SaysFault told old new
ends_refused T told (Refused fault) old new before now result named ends three = (fault.kind, fault.place, named, ends.said three)
ends_refused T told ReadFault old new before now result named ends three = absurd (let is : result ≡ 4 = ends.which in omega arith)
ends_refused T told WriteFault old new before now result named ends three = absurd (let is : result ≡ 5 = ends.which in omega arith)
ends_refused T told NoMemory old new before now result named ends three = absurd (let is : result ≡ 6 = ends.which in omega arith)

-- a long input is refused for that
pub ends_long : (T : Type 0) (told : Option (List ℕ)) (e : Ending) (old new : Option (List ℕ)) (before now result : ℕ) → RefusesLong {T = T} told (Err e) → EndsFor e old new before now result → result ≡ 3 → ForSome told (λ file. input_limit < length file → new ≡ option_map (λ b. b ++ refusal_text Limit 0) old)
ends_long T told (Refused fault) old new before now result named ends three = λ file is long.
    subst (λ (f : Fault). new ≡ option_map (λ b. b ++ refusal_text f.kind f.place) old) (named file is long) (ends.said three)
ends_long T told ReadFault old new before now result named ends three = absurd (let is : result ≡ 4 = ends.which in omega arith)
ends_long T told WriteFault old new before now result named ends three = absurd (let is : result ≡ 5 = ends.which in omega arith)
ends_long T told NoMemory old new before now result named ends three = absurd (let is : result ≡ 6 = ends.which in omega arith)

-- a front of the line that names a fault, or nothing, is said in place of a status
pub ends_stopped : (T : Type 0) (told : Option (List ℕ)) (e : Ending) (old new : Option (List ℕ)) (before now result : ℕ) → EndsByFault {T = T} told (Err e) → EndsFor e old new before now result → (result ≡ 5) ⊎ (result ≡ 6) → SaysPart told old new
ends_stopped T told (Refused fault) old new before now result named ends late = inr (fault.kind, fault.place, named, ends.part late)
ends_stopped T told ReadFault old new before now result named ends late = inl ends.said
ends_stopped T told WriteFault old new before now result named ends late = inl ends.said
ends_stopped T told NoMemory old new before now result named ends late = inl ends.said

-- a file that has a fault isn't valid
pub not_valid : (told : Option (List ℕ)) (fault : Fault) → ForSome told (λ file. Faulty file fault.kind fault.place) → ForSome told (λ file. ¬ IsValid file)
not_valid told fault named = λ file is valid. let f = named file is in valid f.pass fault.kind fault.place f.fault

-- a write failed, or the message did that names a fault
pub ends_unwritten : (T : Type 0) (told : Option (List ℕ)) (e : Ending) (old new : Option (List ℕ)) (before now result : ℕ) (cause : Type 0) (writes still : List ℕ → ℕ) → EndsByFault {T = T} told (Err e) → HasWriteCause {T = T} cause writes still (Err e) → EndsFor e old new before now result → result ≡ 5 → cause ⊎ (Rose before now × ForSome told (λ file. ¬ IsValid file))
ends_unwritten T told (Refused fault) old new before now result cause writes still named caused ends five = inr (ends.answer.failed five, not_valid told fault named)
ends_unwritten T told ReadFault old new before now result cause writes still named caused ends five = absurd (let is : result ≡ 4 = ends.which in omega arith)
ends_unwritten T told WriteFault old new before now result cause writes still named caused ends five = inl caused
ends_unwritten T told NoMemory old new before now result cause writes still named caused ends five = absurd (let is : result ≡ 6 = ends.which in omega arith)

-- where the count of failed writes of a file rose, that is the end
pub ends_risen : (T : Type 0) (e : Ending) (old new : Option (List ℕ)) (before now result : ℕ) (cause : Type 0) (writes risen : List ℕ → ℕ) (f : List ℕ) → HasWriteCause {T = T} cause writes risen (Err e) → EndsFor e old new before now result → writes f < risen f → result ≡ 5
ends_risen T (Refused fault) old new before now result cause writes risen f caused ends rose = absurd (omega (arith, caused f, rose))
ends_risen T ReadFault old new before now result cause writes risen f caused ends rose = absurd (omega (arith, caused f, rose))
ends_risen T WriteFault old new before now result cause writes risen f caused ends rose = ends.which
ends_risen T NoMemory old new before now result cause writes risen f caused ends rose = absurd (omega (arith, caused f, rose))

-- a write fault has its cause
pub no_write_fault : (T : Type 0) (e : Ending) (cause : Type 0) (writes still : List ℕ → ℕ) → HasWriteCause {T = T} cause writes still (Err e) → ¬ cause → e ≡ WriteFault → ⊥
no_write_fault T (Refused fault) cause writes still caused well is = cc
no_write_fault T ReadFault cause writes still caused well is = cc
no_write_fault T WriteFault cause writes still caused well is = well caused
no_write_fault T NoMemory cause writes still caused well is = cc

-- for a valid file, where no call failed, memory was wanting
pub ends_complete : (T : Type 0) (told : Option (List ℕ)) (e : Ending) (old new : Option (List ℕ)) (before now result reads risen : ℕ) → EndsByFault {T = T} told (Err e) → HasReadCause {T = T} reads risen (Err e) → (e ≡ WriteFault → ⊥) → EndsFor e old new before now result → (file : List ℕ) → told ≡ Some file → IsValid file → ¬ Rose reads risen → (result ≡ 0) ⊎ (result ≡ 6)
ends_complete T told (Refused fault) old new before now result reads risen named caused unwritten ends file is valid still = absurd (not_valid told fault named file is valid)
ends_complete T told ReadFault old new before now result reads risen named caused unwritten ends file is valid still = absurd (still caused)
ends_complete T told WriteFault old new before now result reads risen named caused unwritten ends file is valid still = absurd (unwritten refl)
ends_complete T told NoMemory old new before now result reads risen named caused unwritten ends file is valid still = inr ends.which

-- what a file holds after a call that leaves all files
pub whole_still : (P : List ℕ → List ℕ → Type 0) (old middle new : List ℕ → Option (List ℕ)) (before between now : List ℕ → ℕ) (input output certificate : List ℕ) → ((f : List ℕ) → new f ≡ middle f) → ((f : List ℕ) → now f ≡ between f) → IsUntouched old middle before between certificate ⊎ Writes P old middle input output → IsUntouched old new before now certificate ⊎ Writes P old new input output
whole_still P old middle new before between now input output certificate kept still (inl same) = inl (kept certificate ∙ same.0, still certificate ∙ same.1)
whole_still P old middle new before between now input output certificate kept still (inr put) =
    inr (λ file told some. let w = put file told some in (w.0, kept output ∙ w.1, w.2))
