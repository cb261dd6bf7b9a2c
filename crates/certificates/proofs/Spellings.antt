-- Records have one spelling, and those that are spelled can be written.
use Rattle.std.proofs.Common.{◌≡◌, ℕ, zero, suc, List, [], ◌∷◌, ◌++◌, length, map, ◌∙◌, sym, ap, arith}
use Rattle.std.specs.List.{All}
use Rattle.dw_base.specs.declared.record.Run.{Run}
use Rattle.spelled.specs.Spelled.{Joined}
use Rattle.leb_codec.proofs.SpellingLaws.{unsigned_spellings}
use Rattle.leb_codec.specs.Records.{Number, AreRuns, IsRun, SpellsRun, SpellsRuns, SpellsNumbers, OfLines, OfList, OfLayout, SpellsRecord, magic}
use Rattle.leb_codec.specs.RecordLaws.{OneSpelling}
use Rattle.certificates.specs.declared.proof.Proof.{Proof}
use Rattle.certificates.specs.declared.proof.Proof.TheVariants.{Lines, List as AList, Layout}
use Rattle.certificates.specs.Reading.{record_of, CanBeWritten}

-- ONE SPELLING

-- a value has one spelling
abbrev HasOne : {V : Type 0} → (V → List ℕ → Type 0) → Type 0
HasOne {V} S = (v : V) (a b : List ℕ) → S v a → S v b → a ≡ b

one_joined : {V : Type 0} (S : V → List ℕ → Type 0) → HasOne S → HasOne (Joined S)
one_joined S one [] a b p q = p ∙ sym q
one_joined S one (v ∷ vs) a b (first, rest, s, j, e) (others, last, t, k, f) = e ∙ ap (λ z. z ++ rest) (one v first others s t) ∙ ap (λ z. others ++ z) (one_joined S one vs rest last j k) ∙ sym f

one_number : HasOne Number
one_number v a b p q = unsigned_spellings.one_a_len a b v p.0.0 q.0.0 (p.0.1 ∙ sym q.0.1)

one_run : HasOne SpellsRun
one_run run a b p q =
    p.whole ∙ ap (λ z. z ++ p.number) (one_number run.len p.len q.len p.len_is q.len_is) ∙ ap (λ z. q.len ++ z) (one_number run.number p.number q.number p.number_is q.number_is) ∙ sym q.whole

one_runs : HasOne SpellsRuns
one_runs runs a b p q = one_joined SpellsRun one_run runs a b p.1 q.1

one_numbers : HasOne SpellsNumbers
one_numbers numbers a b p q =
    p.whole ∙ ap (λ z. z ++ p.body) (one_number (length numbers) p.count q.count p.count_is q.count_is) ∙ ap (λ z. q.count ++ z) (one_joined Number one_number numbers p.body q.body p.body_is q.body_is) ∙ sym q.whole

one_record : HasOne SpellsRecord
one_record (OfLines runs) a b (p, s, e) (q, t, f) = e ∙ ap (λ z. 1 ∷ z) (one_runs runs p q s t) ∙ sym f
one_record (OfList numbers) a b (p, s, e) (q, t, f) = e ∙ ap (λ z. 2 ∷ z) (one_numbers numbers p q s t) ∙ sym f
one_record (OfLayout numbers) a b (p, s, e) (q, t, f) = e ∙ ap (λ z. 3 ∷ z) (one_numbers numbers p q s t) ∙ sym f

pub one_spelling : OneSpelling
one_spelling classes records a b (p, s, e) (q, t, f) = e ∙ ap (λ z. magic classes ++ z) (one_joined SpellsRecord one_record records p q s t) ∙ sym f

-- WHAT CAN BE WRITTEN

all_none : {X : Type 0} (P : X → Type 0) → All P []
all_none P k d lt = absurd (omega (arith, lt))

all_first : {X : Type 0} (P : X → Type 0) (x : X) (xs : List X) → P x → All P xs → All P (x ∷ xs)
all_first P x xs p all zero d lt = p
all_first P x xs p all (suc k) d lt = all k d (omega (arith, lt))

each_run : (runs : List Run) (bytes : List ℕ) → Joined SpellsRun runs bytes → All IsRun runs
each_run [] bytes j = all_none IsRun
each_run (run ∷ runs) bytes (first, rest, s, j, e) = all_first IsRun run runs s.run_is (each_run runs rest j)

pub runs_writable : (runs : List Run) (bytes : List ℕ) → SpellsRuns runs bytes → AreRuns runs × All IsRun runs
runs_writable runs bytes s = (s.0, each_run runs bytes s.1)

writable : (proof : Proof) (bytes : List ℕ) → SpellsRecord (record_of proof) bytes → CanBeWritten proof
writable (Lines runs) bytes (body, s, e) = runs_writable runs.items body s
writable (AList potentials) bytes s = tt
writable (Layout ranks) bytes s = tt

pub all_writable : (proofs : List Proof) (bytes : List ℕ) → Joined SpellsRecord (map record_of proofs) bytes → All CanBeWritten proofs
all_writable [] bytes j = all_none CanBeWritten
all_writable (proof ∷ proofs) bytes (first, rest, s, j, e) = all_first CanBeWritten proof proofs (writable proof first s) (all_writable proofs rest j)
