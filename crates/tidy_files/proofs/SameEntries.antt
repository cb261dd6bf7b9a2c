-- What is read of two lists says the same entries exactly where it has the same codes and operands.
use Rattle.std.proofs.Common.{◌≡◌, ◌≢◌, ◌<◌, ◌+◌, ◌∙◌, inl, inr, ℕ, zero, suc, List, [], ◌∷◌, length, get_or, sym, ap, subst, refl, arith}
use Rattle.std.specs.Prelude.{◌↔◌, Some, IsTrue, true, false}
use Rattle.std.proofs.lemmas.Bool.{cases_lt, false≢true}
use Rattle.std.proofs.lemmas.Option.{same_Some}
use Rattle.list_model.specs.declared.entry.ListKind.{ListKind}
use Rattle.list_model.specs.declared.entry.RawEntry.{RawEntry}
use Rattle.list_model.specs.Entries.{Entry, Says, AreSaid}
use Rattle.tidy_files.specs.Tidy.{SayTheSame}

-- two entries have the same code and the same operands
pub record IsAlike (one other : RawEntry) : Type 0 where
  pub code : one.code ≡ other.code
  pub first : one.a ≡ other.a
  pub second : one.b ≡ other.b

-- so have those with the same numbers, up to one
abbrev pub AreAlikeBelow : ℕ → List RawEntry → List RawEntry → Type 0
AreAlikeBelow n old new = (k : ℕ) (d : RawEntry) → k < n → IsAlike (get_or old k d) (get_or new k d)

-- entries that say the same are alike
alike_one : (kind : ListKind) (one other : RawEntry) (entry : Entry) → Says kind one entry → Says kind other entry → IsAlike one other
alike_one kind one other entry says also = record {
  code = same_Some one.code other.code (sym says.of_code ∙ also.of_code);
  first = says.of_a ∙ sym also.of_a;
  second = says.of_b ∙ sym also.of_b;
}

pub said_alike : (kind : ListKind) (old new : List RawEntry) (entries : List Entry) → AreSaid kind old entries → AreSaid kind new entries → (length old ≡ length new) × ((k : ℕ) (d : RawEntry) → k < length old → IsAlike (get_or old k d) (get_or new k d))
said_alike kind [] [] [] said also = (refl, λ k d less. absurd (omega (arith, less)))
said_alike kind [] [] (entry ∷ entries) said also = absurd said
said_alike kind [] (other ∷ new) [] said also = absurd also
said_alike kind [] (other ∷ new) (entry ∷ entries) said also = absurd said
said_alike kind (one ∷ old) new [] said also = absurd said
said_alike kind (one ∷ old) [] (entry ∷ entries) said also = absurd also
said_alike kind (one ∷ old) (other ∷ new) (entry ∷ entries) (says, said) (tells, also) =
    let (count, rest) = said_alike kind old new entries said also in
    (ap (λ (n : ℕ). suc n) count, each rest)
  where
    each : ((k : ℕ) (d : RawEntry) → k < length old → IsAlike (get_or old k d) (get_or new k d)) → (k : ℕ) (d : RawEntry) → k < length (one ∷ old) → IsAlike (get_or (one ∷ old) k d) (get_or (other ∷ new) k d)
    each rest zero d less = alike_one kind one other entry says tells
    each rest (suc k) d less = rest k d (omega (arith, less))

-- and what is alike says the same
alike_says : (kind : ListKind) (one other : RawEntry) (entry : Entry) → Says kind one entry → IsAlike one other → Says kind other entry
alike_says kind one other entry says alike = record {
  of_code = says.of_code ∙ ap (λ (n : ℕ). Some n) alike.code;
  of_a = sym alike.first ∙ says.of_a;
  of_b = sym alike.second ∙ says.of_b;
}

pub alike_said : (kind : ListKind) (old new : List RawEntry) (entries : List Entry) → AreSaid kind old entries → length old ≡ length new → AreAlikeBelow (length old) old new → AreSaid kind new entries
alike_said kind [] [] [] said count alike = tt
alike_said kind [] [] (entry ∷ entries) said count alike = absurd said
alike_said kind [] (other ∷ new) entries said count alike = absurd (omega (arith, count))
alike_said kind (one ∷ old) new [] said count alike = absurd said
alike_said kind (one ∷ old) [] (entry ∷ entries) said count alike = absurd (omega (arith, count))
alike_said kind (one ∷ old) (other ∷ new) (entry ∷ entries) (says, said) count alike =
    (alike_says kind one other entry says (alike 0 one (omega arith)), alike_said kind old new entries said (omega (arith, count)) (λ k d less. alike (suc k) d (omega (arith, less))))

-- one more is alike
pub alike_next : (n : ℕ) (old new : List RawEntry) (was is : RawEntry) → ((d : RawEntry) → was ≡ get_or old n d) → ((d : RawEntry) → is ≡ get_or new n d) → AreAlikeBelow n old new → IsAlike was is → (k : ℕ) (d : RawEntry) → k < n + 1 → IsAlike (get_or old k d) (get_or new k d)
alike_next n old new was is first second earlier here k d less = elim (cases_lt k n) [
  | inl before ↦ earlier k d before
  | inr late ↦
      let same : n ≡ k = omega (arith, less, late) in
      subst (λ (i : ℕ). IsAlike (get_or old i d) (get_or new i d)) same (subst (λ (z : RawEntry). IsAlike z (get_or new n d)) (first d) (subst (λ (z : RawEntry). IsAlike was z) (second d) here))
]

-- WHAT IS ANSWERED

-- an entry to stand for those past the end
abbrev pub no_raw : RawEntry
no_raw = record { at = 0; code = 0; a = 0; b = 0; expr = record { at = 0; len = 0 } }

module _ (kind : ListKind) (old new : List RawEntry) where
  pub same_entries : (entries : List Entry) → AreSaid kind old entries → length old ≡ length new → AreAlikeBelow (length old) old new → IsTrue true ↔ SayTheSame kind old new
  same_entries entries said count alike = (λ _. (entries, said, alike_said kind old new entries said count alike), λ _. refl)

  pub other_count : length old ≢ length new → IsTrue false ↔ SayTheSame kind old new
  other_count other = (λ e. absurd (false≢true e), λ same. absurd (other (said_alike kind old new same.0 same.1 same.2).0))

  pub other_entry : (k : ℕ) → k < length old → (was is : RawEntry) → was ≡ get_or old k no_raw → is ≡ get_or new k no_raw → (IsAlike was is → ⊥) → IsTrue false ↔ SayTheSame kind old new
  other_entry k inside was is first second other =
      (λ e. absurd (false≢true e), λ same. absurd (other (subst (λ (z : RawEntry). IsAlike z is) (sym first) (subst (λ (z : RawEntry). IsAlike (get_or old k no_raw) z) (sym second) ((said_alike kind old new same.0 same.1 same.2).1 k no_raw inside)))))
