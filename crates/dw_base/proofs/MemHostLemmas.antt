-- Laws of the failed calls that a host in memory keeps.
use Rattle.std.proofs.Common.{◌≡◌, ◌≢◌, ◌≤◌, ◌<◌, ◌+◌, ◌^◌, ℕ, length, List, [], ◌∷◌, ◌++◌, Bool, true, false, ◌&&◌, refl, sym, ◌∙◌, ap, arith, string_bytes, Option, Err}
use Rattle.std.specs.Prelude.{if◌then◌else◌}
use Rattle.std.specs.Str.{bytes_eq}
use Rattle.std.proofs.lemmas.Slice.Eq.{bytes_eq-Decides}
use Rattle.std.proofs.lemmas.Bool.{false≢true, false_from_ne_true}
use Rattle.dw_base.specs.declared.host.Stop.{Stop}
use Rattle.dw_base.specs.declared.host.Stop.TheVariants.{Failed, NoMemory}
use Rattle.dw_base.specs.declared.mem_host.CallKind.{CallKind}
use Rattle.dw_base.specs.declared.mem_host.CallKind.TheVariants.{Say}
use Rattle.dw_base.specs.declared.mem_host.FailedCall.{FailedCall}
use Rattle.dw_base.specs.Host.{HasCause, HasOneCause}
use Rattle.dw_base.specs.MemHost.{same_kind, faults_of, say_faults_of}
use Rattle.dw_base.specs.inside.MemHost.{NotesFailure}

faults_of-push : (kind : CallKind) (f : List ℕ) (calls : List FailedCall) (call : FailedCall) → faults_of kind f (calls ++ call ∷ []) ≡ faults_of kind f calls + (if same_kind kind call.kind && bytes_eq (string_bytes call.name) f then 1 else 0)
faults_of-push kind f [] call = omega arith
faults_of-push kind f (x ∷ calls) call = omega (arith, faults_of-push kind f calls call)

say_faults_of-push : (calls : List FailedCall) (call : FailedCall) → say_faults_of (calls ++ call ∷ []) ≡ say_faults_of calls + (if same_kind Say call.kind then 1 else 0)
say_faults_of-push [] call = omega arith
say_faults_of-push (x ∷ calls) call = omega (arith, say_faults_of-push calls call)

at_most_one : (b : Bool) → (if b then 1 else 0) ≤ 1
at_most_one false = omega arith
at_most_one true = omega arith

-- there are no more counted calls than calls
faults_of-le : (kind : CallKind) (f : List ℕ) (calls : List FailedCall) → faults_of kind f calls ≤ length calls
faults_of-le kind f [] = omega arith
faults_of-le kind f (x ∷ calls) =
    omega (arith, faults_of-le kind f calls, at_most_one (same_kind kind x.kind && bytes_eq (string_bytes x.name) f))

say_faults_of-le : (calls : List FailedCall) → say_faults_of calls ≤ length calls
say_faults_of-le [] = omega arith
say_faults_of-le (x ∷ calls) = omega (arith, say_faults_of-le calls, at_most_one (same_kind Say x.kind))

-- the counts of another kind
pub faults_of-other : (k kind : CallKind) (name f : List ℕ) (old new : List FailedCall) (stop : Stop) → NotesFailure old new kind name stop → same_kind k kind ≡ false → faults_of k f new ≡ faults_of k f old
faults_of-other k kind name f old new Failed noted other =
    let p = faults_of-push k f old noted.0 in
    let none : same_kind k (noted.0).kind ≡ false = rw noted.1 other in
    rw noted.3 (p ∙ (rw none (omega arith)))
faults_of-other k kind name f old new NoMemory noted other = ap (faults_of k f) noted

pub say_faults_of-other : (kind : CallKind) (name : List ℕ) (old new : List FailedCall) (stop : Stop) → NotesFailure old new kind name stop → same_kind Say kind ≡ false → say_faults_of new ≡ say_faults_of old
say_faults_of-other kind name old new Failed noted other =
    let p = say_faults_of-push old noted.0 in
    let none : same_kind Say (noted.0).kind ≡ false = rw noted.1 other in
    rw noted.3 (p ∙ (rw none (omega arith)))
say_faults_of-other kind name old new NoMemory noted other = ap say_faults_of noted

one_more : (b : Bool) (n : ℕ) → (n ≤ n + (if b then 1 else 0))
one_more b n = omega arith

-- a noted call counts for its name, and for no other
counted : (kind : CallKind) (name : List ℕ) (call : FailedCall) → same_kind kind call.kind ≡ true → string_bytes call.name ≡ name → (same_kind kind call.kind && bytes_eq (string_bytes call.name) name) ≡ true
counted kind name call same e = rw (same, (bytes_eq-Decides (string_bytes call.name) name).1 e)

and-false : (b : Bool) → (b && false) ≡ false
and-false false = refl
and-false true = refl

passed_over : (kind : CallKind) (name f : List ℕ) (call : FailedCall) → string_bytes call.name ≡ name → f ≢ name → (same_kind kind call.kind && bytes_eq (string_bytes call.name) f) ≡ false
passed_over kind name f call e ne =
    let no : bytes_eq (string_bytes call.name) f ≡ false = false_from_ne_true _ (λ (yes : bytes_eq (string_bytes call.name) f ≡ true). ne (sym ((bytes_eq-Decides (string_bytes call.name) f).0 yes) ∙ e)) in
    rw no (and-false (same_kind kind call.kind))

-- the count of this kind
pub HasCause-noted : {T : Type 0} (kind : CallKind) (name : List ℕ) (told : List ℕ → Option (List ℕ)) (old new : List FailedCall) (stop : Stop) → same_kind kind kind ≡ true → length new < 2 ^ 64 → NotesFailure old new kind name stop → HasCause {T = T} name told (λ f. faults_of kind f old) (λ f. faults_of kind f new) (Err stop)
HasCause-noted kind name told old new Failed same room noted =
    let p = λ (f : List ℕ). faults_of-push kind f old noted.0 in
    record {
      later = λ f. rw noted.3 (omega (arith, p f));
      fits = λ f _. omega (arith, room, faults_of-le kind f new);
      failed = λ _. rw (noted.3, p name, counted kind name noted.0 (rw noted.1 same) noted.2) (omega arith);
      still = λ e. absurd (false≢true (sym e));
      others = λ f ne _. rw (noted.3, p f, passed_over kind name f noted.0 noted.2 ne) (omega arith);
    }
HasCause-noted kind name told old new NoMemory same room noted = record {
  later = λ f. rw noted (omega arith);
  fits = λ f _. omega (arith, room, faults_of-le kind f new);
  failed = λ e. absurd (false≢true e);
  still = λ _ f. ap (faults_of kind f) noted;
  others = λ f _ _. ap (faults_of kind f) noted;
}

pub HasOneCause-noted : {T : Type 0} (name : List ℕ) (old new : List FailedCall) (stop : Stop) → length new < 2 ^ 64 → NotesFailure old new Say name stop → HasOneCause {T = T} (say_faults_of old) (say_faults_of new) (Err stop)
HasOneCause-noted name old new Failed room noted =
    let p = say_faults_of-push old noted.0 in
    record {
      later = rw noted.3 (omega (arith, p));
      fits = λ _. omega (arith, room, say_faults_of-le new);
      failed = λ _. rw (noted.3, p, ap (same_kind Say) noted.1) (omega arith);
      still = λ e. absurd (false≢true (sym e));
    }
HasOneCause-noted name old new NoMemory room noted = record {
  later = rw noted (omega arith);
  fits = λ _. omega (arith, room, say_faults_of-le new);
  failed = λ e. absurd (false≢true e);
  still = λ _. ap say_faults_of noted;
}
