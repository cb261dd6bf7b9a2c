-- What the answers of the steps say together.
use Rattle.std.proofs.Common.{◌≡◌, ◌∙◌, ◌∷◌, inr, true, false, ℕ, List, [], length, sym, ap, subst}
use Rattle.std.specs.Prelude.{◌↔◌, Option, Some, None, Result, Ok, Err, IfOk, IfSome, IsNone, is_some}
use Rattle.std.specs.List.{AllZip}
use Rattle.dw_base.specs.declared.classes.Classes.{Classes}
use Rattle.dw_base.specs.declared.fault.Reach.TheVariants.{Narrow, Wide}
use Rattle.leb_codec.specs.Records.{Record, OfLines, OfList, OfLayout}
use Rattle.value_links.specs.Faults.{IsValid}
use Rattle.value_links.specs.Reading.{Reading}
use Rattle.value_links.specs.Same.{Same}
use Rattle.same_meaning.specs.declared.reason.Reason.{Reason}
use Rattle.same_meaning.specs.declared.reason.Reason.TheVariants as reason
use Rattle.tidy_files.specs.Tidy.{IsTidy}
use Rattle.check_records.specs.Parts.{Part, AProgram, AList, AUnit, IsFor, HasRecords}
use Rattle.check_records.specs.Accepted.{Judges, SaysOf, accepting, IsAccepted, IsFirstRefused, IsNamedBy}
use Rattle.check_records.specs.Strays.{IsRecordFile, IsStray}
use Rattle.verdict.specs.Accepts.{Accepts, IsFirstReason, IsRightButForRecords}

-- a record that says something of a part is of its kind
says_for : (judges : Judges) (lines : List ℕ) (s : Reading) (part : Part) (one : Record) → SaysOf judges lines s part one → IsFor part one
says_for judges lines s (AProgram i) (OfLines runs) says = tt
says_for judges lines s (AList kind k) (OfList potentials) says = tt
says_for judges lines s (AUnit u) (OfLayout ranks) says = tt
says_for judges lines s part other says = absurd says

all_for : (judges : Judges) (lines : List ℕ) (s : Reading) (parts : List Part) (records : List Record) → AllZip (SaysOf judges lines s) parts records → AllZip IsFor parts records
all_for judges lines s [] [] says = tt
all_for judges lines s [] (one ∷ records) says = absurd says
all_for judges lines s (part ∷ parts) [] says = absurd says
all_for judges lines s (part ∷ parts) (one ∷ records) (here, rest) = (says_for judges lines s part one here, all_for judges lines s parts records rest)

-- a certificate that is accepted has the records of the file's parts
pub has_records : (classes : Classes) (written certificate : List ℕ) → IsAccepted classes written certificate → HasRecords classes written certificate
has_records classes written certificate accepted = record {
  s = accepted.s;
  parts = accepted.parts;
  records = accepted.records;
  judged = accepted.judged;
  each = all_for accepting _ accepted.s accepted.parts accepted.records accepted.each;
}

-- and is a record file
pub record_file : (classes : Classes) (written certificate : List ℕ) → IsAccepted classes written certificate → IsRecordFile classes certificate
record_file classes written certificate accepted = (accepted.records, accepted.judged.spelled)

-- A record that is refused is that of a program, a list or a unit.
named_first : (classes : Classes) (file written certificate : List ℕ) (s : Reading) (part : Part) (before n : ℕ) (why : Reason) → IsNamedBy classes s part before n why → IsRightButForRecords classes file written certificate → IsFirstRefused classes written certificate why → IsFirstReason classes file written certificate why
named_first classes file written certificate s (AProgram i) before n why is right refused =
    subst (λ (z : Reason). IsFirstReason classes file written certificate z) (sym is) (right, subst (IsFirstRefused classes written certificate) is refused)
named_first classes file written certificate s (AList kind k) before n why is right refused =
    subst (λ (z : Reason). IsFirstReason classes file written certificate z) (sym is) (right, subst (IsFirstRefused classes written certificate) is refused)
named_first classes file written certificate s (AUnit u) before n why is right refused =
    subst (λ (z : Reason). IsFirstReason classes file written certificate z) (sym is) (right, subst (IsFirstRefused classes written certificate) is refused)

pub refused_first : (classes : Classes) (file written certificate : List ℕ) (why : Reason) → IsRightButForRecords classes file written certificate → IsFirstRefused classes written certificate why → IsFirstReason classes file written certificate why
refused_first classes file written certificate why right refused = named_first classes file written certificate refused.s refused.part (length refused.parts_before) refused.n why refused.named right refused

-- WHERE A STEP NAMES SOMETHING

-- what holds exactly where nothing is named doesn't hold where something is
not_none : {T : Type 0} (P : Type 0) (found : Option T) (one : T) → (IsNone found ↔ P) → found ≡ Some one → P → ⊥
not_none P found one exactly is holds = let none : is_some found ≡ false = exactly.1 holds in absurd (cc (sym (ap is_some is) ∙ none))

-- and holds where nothing is
when_none : {T : Type 0} (P : Type 0) (found : Option T) → (IsNone found ↔ P) → found ≡ None → P
when_none P found exactly is = exactly.0 (ap is_some is)

-- what is named is so
when_some : {T : Type 0} (P : T → Type 0) (found : Option T) (one : T) → IfSome found P → found ≡ Some one → P one
when_some P found one named is = subst (λ (o : Option _). IfSome o P) is named

module _ (classes : Classes) (file written certificate : List ℕ) where
  -- a reason that is named isn't acceptance
  abbrev IsRefused : Type 0
  IsRefused = (true ≡ false) ↔ Accepts classes file written certificate

  refused : (Accepts classes file written certificate → ⊥) → IsRefused
  refused never = (λ none. absurd (cc (none)), λ accepts. absurd (never accepts))

  pub broken_refused : (found : Option ℕ) (place : ℕ) → (IsNone found ↔ IsRecordFile classes certificate) → found ≡ Some place → IsRefused
  broken_refused found place exactly is = refused (λ accepts. not_none (IsRecordFile classes certificate) found place exactly is (record_file classes written certificate accepts.accepted))

  pub stray_refused : (found : Option ℕ) (place : ℕ) → (IsNone found ↔ HasRecords classes written certificate) → found ≡ Some place → IsRefused
  stray_refused found place exactly is = refused (λ accepts. not_none (HasRecords classes written certificate) found place exactly is (has_records classes written certificate accepts.accepted))

  -- THE STEPS BEFORE THAT OF RECORDS

  module _ (broken : Option ℕ) (is_whole : IsNone broken ↔ IsRecordFile classes certificate) (not_broken : broken ≡ None) (other : Option Reason) (is_same : IsNone other ↔ Same file written) (no_other : other ≡ None) (untidy : Option ℕ) (is_tidy : IsNone untidy ↔ IsTidy classes file written) (none_untidy : untidy ≡ None) where
    pub right_so_far : IsRightButForRecords classes file written certificate
    right_so_far = record {
      whole = when_none (IsRecordFile classes certificate) broken is_whole not_broken;
      same = when_none (Same file written) other is_same no_other;
      tidy = when_none (IsTidy classes file written) untidy is_tidy none_untidy;
    }

    pub stray_first : (found : Option ℕ) (place : ℕ) → IfSome found (IsStray classes written certificate) → found ≡ Some place → IsFirstReason classes file written certificate (reason.Broken place)
    stray_first found place named is = inr (right_so_far, when_some (IsStray classes written certificate) found place named is)

    pub all_accepted : {E : Type 0} → IsValid file Narrow → IsValid written Wide → (result : Result (Option Reason) E) → IfOk result (λ why. IsNone why ↔ IsAccepted classes written certificate) → IfOk result (λ why. IsNone why ↔ Accepts classes file written certificate)
    all_accepted valid still (Ok why) exactly =
        (λ none. record { valid = valid; still_valid = still; same = right_so_far.same; tidy = right_so_far.tidy; accepted = exactly.0 none }, λ accepts. exactly.1 accepts.accepted)
    all_accepted valid still (Err e) exactly = tt

    pub all_first : {E : Type 0} → (result : Result (Option Reason) E) → IfOk result (λ why. IfSome why (IsFirstRefused classes written certificate)) → IfOk result (λ why. IfSome why (IsFirstReason classes file written certificate))
    all_first (Ok None) named = tt
    all_first (Ok (Some why)) named = refused_first classes file written certificate why right_so_far named
    all_first (Err e) named = tt

    -- WHAT ACCEPTANCE SHOWS

    pub all_least : {E : Type 0} (Shown : Type 0) → (result : Result (Option Reason) E) → IfOk result (λ why. IsNone why ↔ IsAccepted classes written certificate) → (IsTidy classes file written → IsAccepted classes written certificate → Shown) → IfOk result (λ why. IsNone why → Shown)
    all_least Shown (Ok why) exactly shows = λ none. shows right_so_far.tidy (exactly.0 none)
    all_least Shown (Err e) exactly shows = tt
