-- What was read of a file, at the end of a read, and what it says of the whole file.
use Rattle.std.proofs.Common.{◌≡◌, ◌≤◌, ◌<◌, ◌+◌, ℕ, List, length, take, sym, ◌∙◌, arith, inl, inr}
use Rattle.std.proofs.lemmas.List.{take_all, length-take}
use Rattle.std.proofs.lemmas.Bool.{cases_lt}

-- the file has no more
pub whole_read : (limit : ℕ) (new file : List ℕ) → new ≡ take (length new) file → length file ≤ length new → length new ≤ limit → new ≡ take limit file
whole_read limit new file front end within =
    front ∙ take_all (length new) file end ∙ sym (take_all limit file (omega arith))

-- the limit is reached
pub full_read : (limit : ℕ) (new file : List ℕ) → new ≡ take (length new) file → length new ≡ limit → new ≡ take limit file
full_read limit new file front full = rw (← full) front

-- a front that is short is the whole file
pub short_front : (limit : ℕ) (front file : List ℕ) → front ≡ take (limit + 1) file → length front ≤ limit → front ≡ file
short_front limit front file read short =
    elim (cases_lt limit (length file)) [
      | inl long ↦ let full : length front ≡ limit + 1 = rw (read, length-take) (omega arith) in absurd (omega arith)
      | inr rest ↦ read ∙ take_all (limit + 1) file (omega arith)
    ]

-- a front past the limit is that of a file past it
pub long_front : (limit : ℕ) (front file : List ℕ) → front ≡ take (limit + 1) file → limit < length front → limit < length file
long_front limit front file read long =
    let some : length front ≤ length file = rw (read, length-take) (omega arith) in omega arith
