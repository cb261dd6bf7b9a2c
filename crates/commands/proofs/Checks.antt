-- How a check ends, in the clauses of the program.
use Rattle.std.proofs.Common.{◌≡◌, ◌≢◌, ◌≤◌, ◌<◌, ◌++◌, ◌∙◌, ℕ, List, length, refl, sym, ap, subst, inl, inr, arith, Option, Some, Err}
use Rattle.std.specs.Prelude.{◌⊎◌, option_map, string_bytes}
use Rattle.std.specs.Option.{ForSome}
use Rattle.std.proofs.lemmas.Bool.{cases_lt}
use Rattle.dw_base.specs.declared.classes.Classes.{Classes}
use Rattle.dw_base.specs.declared.fault.Fault.{Fault}
use Rattle.dw_base.specs.declared.fault.Kind.TheVariants.{Limit}
use Rattle.dw_base.specs.declared.fault.Reach.{Reach}
use Rattle.dw_base.specs.declared.fault.Reach.TheVariants.{Narrow, Wide}
use Rattle.dw_base.specs.Host.{Rose, AddsPart}
use Rattle.elf_sections.specs.Faults.{file_limit}
use Rattle.value_links.specs.Faults.{IsValid as IsValidWithin}
use Rattle.value_links.specs.Laws.{FirstFaultsDecide}
use Rattle.verdict.specs.Accepts.{Accepts, IsAllLeast, IsAllKept}
use Rattle.commands.specs.File.{IsValid, IsValidOutput}
use Rattle.commands.specs.Words.{Names}
use Rattle.commands.specs.Words.Command.{Check}
use Rattle.commands.specs.Run.{OfBothFiles, OfFiles, IsToldAs, FailsToRead, input_limit, output_limit}
use Rattle.commands.specs.Said.{acceptance_text, input_refusal_text, output_refusal_text, IsRefusal, IsRejection}
use Rattle.commands.specs.declared.check.Answer.{Answer}
use Rattle.commands.specs.declared.check.Answer.TheVariants.{Accepted, Refused, Rejected}
use Rattle.commands.specs.declared.ending.Ending.{Ending}
use Rattle.commands.specs.declared.ending.Ending.TheVariants as ending
use Rattle.commands.specs.inside.Check.{IsNamed, IsFrontOf, IsAnswer, EndsCheck, status_of, line_of}
use Rattle.commands.specs.inside.Run.{OnlyReadFault}
use Rattle.commands.specs.inside.Said.{SaysOrStops, EndsFor}
use Rattle.commands.proofs.Fronts.{short_front, long_front}

-- WHAT WAS READ, AND THE FILES

-- a fault that is named of what was read of a file is named of the file
fault_told : FirstFaultsDecide → (reach : Reach) (told : Option (List ℕ)) (front : List ℕ) (fault : Fault) → IsFrontOf reach told front → IsNamed front reach fault → ForSome told (λ b. IsNamed b reach fault)
fault_told decide reach told front fault read named = λ b e.
    elim (cases_lt (file_limit reach) (length front)) [
      | inl long ↦
          let past : file_limit reach < length b = long_front (file_limit reach) front b (read b e) long in
          subst (λ (f : Fault). IsNamed b reach f) (sym (named.long long)) (record { has = decide.file b reach Limit 0 (inl (refl, past)); long = λ _. refl })
      | inr short ↦ subst (λ (x : List ℕ). IsNamed x reach fault) (short_front (file_limit reach) front b (read b e) short) named
    ]

-- a valid file isn't longer than its limit
valid_short : FirstFaultsDecide → (reach : Reach) (file : List ℕ) → IsValidWithin file reach → file_limit reach < length file → ⊥
valid_short decide reach file valid long =
    let f = decide.file file reach Limit 0 (inl (refl, long)) in valid f.pass Limit 0 f.fault

-- what was read of a file is the file, where it is valid
valid_told : FirstFaultsDecide → (reach : Reach) (told : Option (List ℕ)) (front : List ℕ) → IsFrontOf reach told front → IsValidWithin front reach → IsToldAs told front
valid_told decide reach told front read valid = λ b e.
    elim (cases_lt (file_limit reach) (length front)) [
      | inl long ↦ absurd (valid_short decide reach front valid long)
      | inr short ↦ short_front (file_limit reach) front b (read b e) short
    ]

-- THE ANSWER TO THE FILES

-- the files are accepted
pub record ToldAccepted (classes : Classes) (told : List ℕ → Option (List ℕ)) (n : Names) : Type 0 where
  pub valid : ForSome (told n.input) IsValid
  pub output_valid : ForSome (told n.output) IsValidOutput
  pub accepted : OfFiles (Accepts classes) told n
  pub least : ForSome (told n.output) (IsAllLeast classes)
  pub kept : OfBothFiles (IsAllKept classes) told n

-- one of them has a fault, which the line names
pub record ToldRefused (told : List ℕ → Option (List ℕ)) (n : Names) (line : List ℕ) : Type 0 where
  pub refusal : IsRefusal told n line
  pub long : ForSome (told n.input) (λ file. input_limit < length file → line ≡ input_refusal_text Limit 0)
  pub output_long : ForSome (told n.input) (λ file. IsValid file → ForSome (told n.output) (λ written. output_limit < length written → line ≡ output_refusal_text Limit 0))

abbrev pub ToldAnswer : Classes → (List ℕ → Option (List ℕ)) → Names → Answer → Type 0
ToldAnswer classes told n Accepted = ToldAccepted classes told n
ToldAnswer classes told n (Refused line) = ToldRefused told n (string_bytes line)
ToldAnswer classes told n (Rejected line) = IsRejection classes told n line.items

accepts_same : (classes : Classes) (a b c x y z : List ℕ) → a ≡ x → b ≡ y → c ≡ z → Accepts classes a b c → Accepts classes x y z
accepts_same classes a b c x y z e f g accepts =
    subst (λ (l : List ℕ). Accepts classes l y z) e (subst (λ (l : List ℕ). Accepts classes a l z) f (subst (λ (l : List ℕ). Accepts classes a b l) g accepts))

-- the answer to what was read is that to the files
answer_told : (classes : Classes) → FirstFaultsDecide → (told : List ℕ → Option (List ℕ)) (n : Names) (file written cert : List ℕ) (answer : Answer) → IsFrontOf Narrow (told n.input) file → IsFrontOf Wide (told n.output) written → IsToldAs (told n.certificate) cert → IsAnswer classes file written cert answer → ToldAnswer classes told n answer
answer_told classes decide told n file written cert Accepted read_file read_written read_cert is =
    let same_file = valid_told decide Narrow (told n.input) file read_file is.0.valid in
    let same_written = valid_told decide Wide (told n.output) written read_written is.0.still_valid in
    record {
      valid = λ b e. subst IsValid (same_file b e) is.0.valid;
      output_valid = λ b e. subst IsValidOutput (same_written b e) is.0.still_valid;
      accepted = λ x y z e f g. accepts_same classes file written cert x y z (same_file x e) (same_written y f) (read_cert z g) is.0;
      least = λ b e. subst (IsAllLeast classes) (same_written b e) is.1.0;
      kept = λ x y e f. subst (λ (z : List ℕ). IsAllKept classes z y) (same_file x e) (subst (IsAllKept classes file) (same_written y f) is.1.1);
    }
answer_told classes decide told n file written cert (Refused line) read_file read_written read_cert (inl (fault, named, text)) =
    let has = fault_told decide Narrow (told n.input) file fault read_file named in
    record {
      refusal = inl (fault.kind, fault.place, (λ b e. (has b e).has), text);
      long = λ b e past. text ∙ ap (λ (f : Fault). input_refusal_text f.kind f.place) ((has b e).long past);
      output_long = λ b e valid. let f = (has b e).has in absurd (valid f.pass fault.kind fault.place f.fault);
    }
answer_told classes decide told n file written cert (Refused line) read_file read_written read_cert (inr (fault, valid, named, text)) =
    let same_file = valid_told decide Narrow (told n.input) file read_file valid in
    let has = fault_told decide Wide (told n.output) written fault read_written named in
    record {
      refusal = inr (fault.kind, fault.place, (λ b e. subst IsValid (same_file b e) valid), (λ b e. (has b e).has), text);
      long = λ b e past. absurd (valid_short decide Narrow b (subst IsValid (same_file b e) valid) past);
      output_long = λ b e _ w f past. text ∙ ap (λ (f : Fault). output_refusal_text f.kind f.place) ((has w f).long past);
    }
answer_told classes decide told n file written cert (Rejected line) read_file read_written read_cert (reason, rejected, text) =
    let same_file = valid_told decide Narrow (told n.input) file read_file rejected.valid in
    let same_written = valid_told decide Wide (told n.output) written read_written rejected.output_valid in
    (file, written, cert, reason, same_file, same_written, read_cert, rejected, text)

-- THE STATUS

-- the status is that of the answer, or that of a message that failed
abbrev pub IsOneOf : ℕ → ℕ → Type 0
IsOneOf status result = (result ≡ status) ⊎ ((result ≡ 5) ⊎ (result ≡ 6))

no_other : (status other result : ℕ) → IsOneOf status result → status ≢ other → other ≢ 5 → other ≢ 6 → result ≡ other → ⊥
no_other status other result (inl e) a b c is = a (sym e ∙ is)
no_other status other result (inr (inl e)) a b c is = b (sym is ∙ e)
no_other status other result (inr (inr e)) a b c is = c (sym is ∙ e)

known_one : (status result : ℕ) → IsOneOf status result → status ≤ 7 → status ≢ 1 → status ≢ 2 → (result ≤ 7) × ((result ≢ 1) × (result ≢ 2))
known_one status result (inl e) a b c = (omega arith, ((λ is. b (sym e ∙ is)), (λ is. c (sym e ∙ is))))
known_one status result (inr (inl e)) a b c = (omega arith, ((λ is. omega (arith, e, is)), (λ is. omega (arith, e, is))))
known_one status result (inr (inr e)) a b c = (omega arith, ((λ is. omega (arith, e, is)), (λ is. omega (arith, e, is))))

-- the answer was said, or some front of it
pub ends_answered : (classes : Classes) (told : List ℕ → Option (List ℕ)) (n : Names) (answer : Answer) (old new : Option (List ℕ)) (reads risen : List ℕ → ℕ) (before now result : ℕ) → ToldAnswer classes told n answer → SaysOrStops (status_of answer) before now result → (result ≡ status_of answer → new ≡ option_map (λ b. b ++ line_of answer) old) → ((result ≡ 5) ⊎ (result ≡ 6) → AddsPart old (line_of answer) new) → ((f : List ℕ) → risen f ≡ reads f) → EndsCheck classes told n old new reads risen before now result
ends_answered classes told n Accepted old new reads risen before now result is says said part still =
    let other : (s : ℕ) → 0 ≢ s → s ≢ 5 → s ≢ 6 → result ≡ s → ⊥ = (λ s. no_other 0 s result says.which) in
    record {
      known = known_one 0 result says.which (omega arith) (omega arith) (omega arith);
      refused = λ three. absurd (other 3 (omega arith) (omega arith) (omega arith) three);
      long = λ three. absurd (other 3 (omega arith) (omega arith) (omega arith) three);
      read_fault = λ four. absurd (other 4 (omega arith) (omega arith) (omega arith) four);
      read_rose = λ f rose. absurd (omega (arith, still f, rose));
      say_fault = says.failed;
      say_rose = says.rose;
      valid = λ _. is.valid;
      output_valid = λ _. is.output_valid;
      accepted = λ _. is.accepted;
      least = λ _. is.least;
      kept = λ _. is.kept;
      rejected = λ seven. absurd (other 7 (omega arith) (omega arith) (omega arith) seven);
      said = said;
      quiet = λ four. absurd (other 4 (omega arith) (omega arith) (omega arith) four);
      stopped = λ late. inr (acceptance_text, inl (is.accepted, refl), part late);
      complete = λ right well calm.
          elim says.which [
            | inl zero ↦ inl zero
            | inr (inl five) ↦ absurd (calm (says.failed five))
            | inr (inr six) ↦ inr six
          ];
      refuses = λ fault well.
          absurd (elim fault [
            | inl (file, e, bad) ↦ bad (is.valid file e)
            | inr (written, e, bad) ↦ bad (is.output_valid written e)
          ]);
      rejects = λ file written cert e f g valid output_valid unaccepted well. absurd (unaccepted (is.accepted file written cert e f g));
    }
ends_answered classes told n (Refused line) old new reads risen before now result is says said part still =
    let other : (s : ℕ) → 3 ≢ s → s ≢ 5 → s ≢ 6 → result ≡ s → ⊥ = (λ s. no_other 3 s result says.which) in
    let both : (file written : List ℕ) → told n.input ≡ Some file → told n.output ≡ Some written → IsValid file → IsValidOutput written → ⊥ =
    (λ file written e f valid output_valid.
    elim is.refusal [
      | inl (kind, place, has, text) ↦ let fault = has file e in valid fault.pass kind place fault.fault
      | inr (kind, place, first, has, text) ↦ let fault = has written f in output_valid fault.pass kind place fault.fault
    ])
    in
    record {
      known = known_one 3 result says.which (omega arith) (omega arith) (omega arith);
      refused = λ three. (string_bytes line, is.refusal, said three);
      long = λ three. ((λ file e past. said three ∙ ap (λ (t : List ℕ). option_map (λ b. b ++ t) old) (is.long file e past)), (λ file e valid written f past. said three ∙ ap (λ (t : List ℕ). option_map (λ b. b ++ t) old) (is.output_long file e valid written f past)));
      read_fault = λ four. absurd (other 4 (omega arith) (omega arith) (omega arith) four);
      read_rose = λ f rose. absurd (omega (arith, still f, rose));
      say_fault = says.failed;
      say_rose = says.rose;
      valid = λ zero. absurd (other 0 (omega arith) (omega arith) (omega arith) zero);
      output_valid = λ zero. absurd (other 0 (omega arith) (omega arith) (omega arith) zero);
      accepted = λ zero. absurd (other 0 (omega arith) (omega arith) (omega arith) zero);
      least = λ zero. absurd (other 0 (omega arith) (omega arith) (omega arith) zero);
      kept = λ zero. absurd (other 0 (omega arith) (omega arith) (omega arith) zero);
      rejected = λ seven. absurd (other 7 (omega arith) (omega arith) (omega arith) seven);
      said = λ zero. absurd (other 0 (omega arith) (omega arith) (omega arith) zero);
      quiet = λ four. absurd (other 4 (omega arith) (omega arith) (omega arith) four);
      stopped = λ late. inr (string_bytes line, inr (inl is.refusal), part late);
      complete = λ right well calm. let (file, written, cert, e, f, g, accepts) = right in absurd (both file written e f accepts.valid accepts.still_valid);
      refuses = λ fault well. says.which;
      rejects = λ file written cert e f g valid output_valid unaccepted well. absurd (both file written e f valid output_valid);
    }
ends_answered classes told n (Rejected line) old new reads risen before now result is says said part still =
    let other : (s : ℕ) → 7 ≢ s → s ≢ 5 → s ≢ 6 → result ≡ s → ⊥ = (λ s. no_other 7 s result says.which) in
    let (file, written, cert, reason, same_file, same_written, same_cert, rejected, text) = is in
    record {
      known = known_one 7 result says.which (omega arith) (omega arith) (omega arith);
      refused = λ three. absurd (other 3 (omega arith) (omega arith) (omega arith) three);
      long = λ three. absurd (other 3 (omega arith) (omega arith) (omega arith) three);
      read_fault = λ four. absurd (other 4 (omega arith) (omega arith) (omega arith) four);
      read_rose = λ f rose. absurd (omega (arith, still f, rose));
      say_fault = says.failed;
      say_rose = says.rose;
      valid = λ zero. absurd (other 0 (omega arith) (omega arith) (omega arith) zero);
      output_valid = λ zero. absurd (other 0 (omega arith) (omega arith) (omega arith) zero);
      accepted = λ zero. absurd (other 0 (omega arith) (omega arith) (omega arith) zero);
      least = λ zero. absurd (other 0 (omega arith) (omega arith) (omega arith) zero);
      kept = λ zero. absurd (other 0 (omega arith) (omega arith) (omega arith) zero);
      rejected = λ seven. (line.items, is, said seven);
      said = λ zero. absurd (other 0 (omega arith) (omega arith) (omega arith) zero);
      quiet = λ four. absurd (other 4 (omega arith) (omega arith) (omega arith) four);
      stopped = λ late. inr (line.items, inr (inr is), part late);
      complete = λ right well calm. let (a, b, c, e, f, g, accepts) = right in absurd (rejected.unaccepted (accepts_same classes a b c file written cert (sym (same_file a e)) (sym (same_written b f)) (sym (same_cert c g)) accepts));
      refuses = λ fault well.
          absurd (elim fault [
            | inl (a, e, bad) ↦ bad (subst IsValid (same_file a e) rejected.valid)
            | inr (b, e, bad) ↦ bad (subst IsValidOutput (same_written b e) rejected.output_valid)
          ]);
      rejects = λ a b c e f g valid output_valid unaccepted well. says.which;
    }

-- the same of the answer to what was read
pub ends_judged : (classes : Classes) → FirstFaultsDecide → (told : List ℕ → Option (List ℕ)) (n : Names) (file written cert : List ℕ) (answer : Answer) (old new : Option (List ℕ)) (reads risen : List ℕ → ℕ) (before now result : ℕ) → IsFrontOf Narrow (told n.input) file → IsFrontOf Wide (told n.output) written → IsToldAs (told n.certificate) cert → IsAnswer classes file written cert answer → SaysOrStops (status_of answer) before now result → (result ≡ status_of answer → new ≡ option_map (λ b. b ++ line_of answer) old) → ((result ≡ 5) ⊎ (result ≡ 6) → AddsPart old (line_of answer) new) → ((f : List ℕ) → risen f ≡ reads f) → EndsCheck classes told n old new reads risen before now result
ends_judged classes decide told n file written cert answer old new reads risen before now result read_file read_written read_cert is says said part still =
    ends_answered classes told n answer old new reads risen before now result (answer_told classes decide told n file written cert answer read_file read_written read_cert is) says said part still

-- nothing was said, and memory was wanting or a read failed
quiet_end : (classes : Classes) (told : List ℕ → Option (List ℕ)) (n : Names) (status : ℕ) (old new : Option (List ℕ)) (reads risen : List ℕ → ℕ) (before now result : ℕ) → (status ≡ 4) ⊎ (status ≡ 6) → (status ≡ 4 → FailsToRead reads risen (Check n)) → ((f : List ℕ) → reads f < risen f → status ≡ 4) → result ≡ status → new ≡ old → now ≡ before → EndsCheck classes told n old new reads risen before now result
quiet_end classes told n status old new reads risen before now result which cause rose is same still =
    let one : (result ≡ 4) ⊎ (result ≡ 6) = elim which [ inl four ↦ inl (is ∙ four) | inr six ↦ inr (is ∙ six) ] in
    let other : (s : ℕ) → s ≢ 4 → s ≢ 6 → result ≡ s → ⊥ = (λ s a b e. elim one [ inl four ↦ a (sym e ∙ four) | inr six ↦ b (sym e ∙ six) ]) in
    let stops : ¬ FailsToRead reads risen (Check n) → result ≡ 6 = (λ well. elim one [ inl four ↦ absurd (well (cause (sym is ∙ four))) | inr six ↦ six ]) in
    record {
      known = elim one [ inl four ↦ (omega arith, ((λ e. omega (arith, four, e)), (λ e. omega (arith, four, e)))) | inr six ↦ (omega arith, ((λ e. omega (arith, six, e)), (λ e. omega (arith, six, e)))) ];
      refused = λ three. absurd (other 3 (omega arith) (omega arith) three);
      long = λ three. absurd (other 3 (omega arith) (omega arith) three);
      read_fault = λ four. cause (sym is ∙ four);
      read_rose = λ f higher. is ∙ rose f higher;
      say_fault = λ five. absurd (other 5 (omega arith) (omega arith) five);
      say_rose = λ higher. absurd (omega (arith, still, higher));
      valid = λ zero. absurd (other 0 (omega arith) (omega arith) zero);
      output_valid = λ zero. absurd (other 0 (omega arith) (omega arith) zero);
      accepted = λ zero. absurd (other 0 (omega arith) (omega arith) zero);
      least = λ zero. absurd (other 0 (omega arith) (omega arith) zero);
      kept = λ zero. absurd (other 0 (omega arith) (omega arith) zero);
      rejected = λ seven. absurd (other 7 (omega arith) (omega arith) seven);
      said = λ zero. absurd (other 0 (omega arith) (omega arith) zero);
      quiet = λ _. same;
      stopped = λ _. inl same;
      complete = λ right well calm. inr (stops well);
      refuses = λ fault well. inr (inr (stops well));
      rejects = λ a b c e f g valid output_valid unaccepted well. inr (inr (stops well));
    }

-- the files couldn't be read, or memory was wanting
pub ends_unread : (T : Type 0) (classes : Classes) (told : List ℕ → Option (List ℕ)) (n : Names) (e : Ending) (old new : Option (List ℕ)) (reads risen : List ℕ → ℕ) (before now result : ℕ) → OnlyReadFault {T = T} (FailsToRead reads risen (Check n)) reads risen (Err e) → EndsFor e old new before now result → EndsCheck classes told n old new reads risen before now result
ends_unread T classes told n (ending.Refused fault) old new reads risen before now result read ends = absurd read
ends_unread T classes told n ending.ReadFault old new reads risen before now result read ends =
    quiet_end classes told n 4 old new reads risen before now result (inl refl) (λ _. read) (λ _ _. refl) ends.which ends.said ends.still
ends_unread T classes told n ending.WriteFault old new reads risen before now result read ends = absurd read
ends_unread T classes told n ending.NoMemory old new reads risen before now result read ends =
    quiet_end classes told n 6 old new reads risen before now result (inr refl) (λ four. absurd (omega arith)) (λ f higher. absurd (omega (arith, read f, higher))) ends.which ends.said ends.still

-- the same where the counts stay as they are from then on
pub read_on : (T : Type 0) (n : Names) (e : Ending) (reads middle risen : List ℕ → ℕ) → ((f : List ℕ) → risen f ≡ middle f) → OnlyReadFault {T = T} (FailsToRead reads middle (Check n)) reads middle (Err e) → OnlyReadFault {T = T} (FailsToRead reads risen (Check n)) reads risen (Err e)
read_on T n (ending.Refused fault) reads middle risen still read = absurd read
read_on T n ending.ReadFault reads middle risen still (inl rose) = inl (subst (λ (z : ℕ). Rose (reads n.input) z) (sym (still n.input)) rose)
read_on T n ending.ReadFault reads middle risen still (inr (inl rose)) = inr (inl (subst (λ (z : ℕ). Rose (reads n.output) z) (sym (still n.output)) rose))
read_on T n ending.ReadFault reads middle risen still (inr (inr rose)) = inr (inr (subst (λ (z : ℕ). Rose (reads n.certificate) z) (sym (still n.certificate)) rose))
read_on T n ending.WriteFault reads middle risen still read = absurd read
read_on T n ending.NoMemory reads middle risen still read = λ f. still f ∙ read f
