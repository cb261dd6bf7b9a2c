-- Bytes between sections that stand where they are due.
use Rattle.std.proofs.Common.{◌≡◌, ◌≢◌, ◌≤◌, ◌<◌, ◌+◌, ◌⊎◌, inl, inr, ℕ, zero, suc, List, [], ◌∷◌, length, drop, sym, subst, arith}
use Rattle.std.specs.Prelude.{slice_index}
use Rattle.std.proofs.Math.Seq.{drop-cons}
use Rattle.std.proofs.lemmas.Bool.{cases_lt}
use Rattle.elf_sections.specs.Elf.{size_of}
use Rattle.tidy_places.specs.declared.due.Due.{Due}
use Rattle.tidy_places.specs.inside.Chains.{AreDue, due_at, IsFilledBetween, IsFilledAmong}

-- each lies from the start on and up to the end
pub due_within : (written : List ℕ) (start : ℕ) (sections : List Due) (end : ℕ) → AreDue written start sections end → start ≤ end
due_within written start [] end e = omega arith
due_within written start (first ∷ sections) end (here, rest) =
    let later = due_within written (first.at + first.len) sections end rest in
    let from : start ≤ first.at = here.place.from in
    omega arith

pub due_from : (written : List ℕ) (start : ℕ) (sections : List Due) (end : ℕ) → AreDue written start sections end → (k : ℕ) → k < length sections → start ≤ (due_at sections k).at
due_from written start [] end due k inside = absurd (omega arith)
due_from written start (first ∷ sections) end (here, rest) zero inside = here.place.from
due_from written start (first ∷ sections) end (here, rest) (suc k) inside =
    let later = due_from written (first.at + first.len) sections end rest k (omega arith) in
    let from : start ≤ first.at = here.place.from in
    omega arith

pub due_to : (written : List ℕ) (start : ℕ) (sections : List Due) (end : ℕ) → AreDue written start sections end → (k : ℕ) → k < length sections → (due_at sections k).at + (due_at sections k).len ≤ end
due_to written start [] end due k inside = absurd (omega arith)
due_to written start (first ∷ sections) end (here, rest) zero inside = due_within written (first.at + first.len) sections end rest
due_to written start (first ∷ sections) end (here, rest) (suc k) inside = due_to written (first.at + first.len) sections end rest k (omega arith)

-- a byte before one of them lies from the start on and before the end
pub filled_from : (written : List ℕ) (start : ℕ) (sections : List Due) (end p : ℕ) → AreDue written start sections end → IsFilledAmong written start sections p → start ≤ p
filled_from written start [] end p due none = absurd none
filled_from written start (first ∷ sections) end p (here, rest) (inl (from, to, other)) = from
filled_from written start (first ∷ sections) end p (here, rest) (inr later) =
    let low = filled_from written (first.at + first.len) sections end p rest later in
    let from : start ≤ first.at = here.place.from in
    omega arith

pub filled_to : (written : List ℕ) (start : ℕ) (sections : List Due) (end p : ℕ) → AreDue written start sections end → IsFilledAmong written start sections p → p < end
filled_to written start [] end p due none = absurd none
filled_to written start (first ∷ sections) end p (here, rest) (inl (from, to, other)) =
    let later = due_within written (first.at + first.len) sections end rest in
    omega arith
filled_to written start (first ∷ sections) end p (here, rest) (inr later) = filled_to written (first.at + first.len) sections end p rest later

pub filled_other : (written : List ℕ) (start : ℕ) (sections : List Due) (p : ℕ) → IsFilledAmong written start sections p → slice_index written p ≢ 0
filled_other written start [] p none = absurd none
filled_other written start (first ∷ sections) p (inl (from, to, other)) = other
filled_other written start (first ∷ sections) p (inr later) = filled_other written (first.at + first.len) sections p later

-- no section has it
pub filled_apart : (written : List ℕ) (start : ℕ) (sections : List Due) (end p : ℕ) → AreDue written start sections end → IsFilledAmong written start sections p → (k : ℕ) → k < length sections → (due_at sections k).at ≤ p → p < (due_at sections k).at + (due_at sections k).len → ⊥
filled_apart written start [] end p due none k inside low high = absurd none
filled_apart written start (first ∷ sections) end p (here, rest) (inl (from, to, other)) zero inside low high = omega arith
filled_apart written start (first ∷ sections) end p (here, rest) (inl (from, to, other)) (suc k) inside low high =
    let later = due_from written (first.at + first.len) sections end rest k (omega arith) in
    omega arith
filled_apart written start (first ∷ sections) end p (here, rest) (inr later) zero inside low high =
    let from = filled_from written (first.at + first.len) sections end p rest later in
    omega arith
filled_apart written start (first ∷ sections) end p (here, rest) (inr later) (suc k) inside low high = filled_apart written (first.at + first.len) sections end p rest later k (omega arith) low high

-- a byte that no section has stands before one of them or behind all
pub filled_or_behind : (written : List ℕ) (start : ℕ) (sections : List Due) (end p : ℕ) → AreDue written start sections end → start ≤ p → slice_index written p ≢ 0 → ((k : ℕ) → k < length sections → (due_at sections k).at ≤ p → p < (due_at sections k).at + (due_at sections k).len → ⊥) → IsFilledAmong written start sections p ⊎ (end ≤ p)
filled_or_behind written start [] end p e low other apart = inr (omega arith)
filled_or_behind written start (first ∷ sections) end p (here, rest) low other apart =
    elim (cases_lt p first.at) [
      | inl before ↦ inl (inl (low, before, other))
      | inr behind ↦ elim (cases_lt p (first.at + first.len)) [
        | inl inside ↦ absurd (apart zero (omega arith) behind inside)
        | inr after ↦ elim (filled_or_behind written (first.at + first.len) sections end p rest after other (λ k inside. apart (suc k) (omega (arith, inside)))) [
          | inl among ↦ inl (inr among)
          | inr past ↦ inr past
        ]
      ]
    ]

-- one of them and those behind it
pub filled_split : (written : List ℕ) (start : ℕ) (sections : List Due) (k p : ℕ) → k < length sections → IsFilledAmong written start (drop k sections) p → IsFilledBetween written start (due_at sections k).at p ⊎ IsFilledAmong written ((due_at sections k).at + (due_at sections k).len) (drop (suc k) sections) p
filled_split written start sections k p inside among = subst (λ (all : List Due). IsFilledAmong written start all p) (drop-cons sections k (record { section = 0; at = 0; len = 0 }) inside) among

pub filled_joined : (written : List ℕ) (start : ℕ) (sections : List Due) (k p : ℕ) → k < length sections → IsFilledBetween written start (due_at sections k).at p ⊎ IsFilledAmong written ((due_at sections k).at + (due_at sections k).len) (drop (suc k) sections) p → IsFilledAmong written start (drop k sections) p
filled_joined written start sections k p inside either = subst (λ (all : List Due). IsFilledAmong written start all p) (sym (drop-cons sections k (record { section = 0; at = 0; len = 0 }) inside)) either

-- the bytes that are held of one are those of its section
pub due_len : (written : List ℕ) (start : ℕ) (sections : List Due) (end : ℕ) → AreDue written start sections end → (k : ℕ) → k < length sections → (due_at sections k).len ≡ size_of written (due_at sections k).section
due_len written start [] end due k inside = absurd (omega arith)
due_len written start (first ∷ sections) end (here, rest) zero inside = here.size
due_len written start (first ∷ sections) end (here, rest) (suc k) inside = due_len written (first.at + first.len) sections end rest k (omega arith)
