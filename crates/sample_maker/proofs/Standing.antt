-- Parts of bytes that stand at places.
use Rattle.std.proofs.Common.{◌≡◌, ◌≤◌, ◌<◌, ◌+◌, ◌-◌, ◌^◌, ℕ, List, [], ◌++◌, length, take, drop, slice_range, ◌∙◌, sym, ap, arith}
use Rattle.std.proofs.lemmas.List.{append-nil, append_assoc, length-append, length-drop, drop_at, take_at, drop-drop}
use Rattle.fixed_width.specs.Numbers.{number, number_at}
use Rattle.fixed_width.proofs.Numbers.{number_back}
use Rattle.sample_maker.specs.inside.Bytes.{half, word, long}

-- from the place on the bytes begin with the part
abbrev pub StandsAt : List ℕ → ℕ → List ℕ → Type 0
StandsAt bytes at part = (rest : List ℕ) × (drop at bytes ≡ part ++ rest)

pub stands_whole : (bytes : List ℕ) → StandsAt bytes 0 bytes
stands_whole bytes = ([], sym (append-nil bytes))

-- of two parts one after the other, the first and the second
pub stands_first : (bytes : List ℕ) (at : ℕ) (a b : List ℕ) → StandsAt bytes at (a ++ b) → StandsAt bytes at a
stands_first bytes at a b (rest, e) = (b ++ rest, e ∙ append_assoc a b rest)

pub stands_second : (bytes : List ℕ) (at n next : ℕ) (a b : List ℕ) → length a ≡ n → next ≡ at + n → StandsAt bytes at (a ++ b) → StandsAt bytes next b
stands_second bytes at n next a b size place (rest, e) =
    (rest, ap (λ (p : ℕ). drop p bytes) place ∙ sym (drop-drop n at bytes) ∙ ap (λ (z : List ℕ). drop n z) (e ∙ append_assoc a b rest) ∙ drop_at a (b ++ rest) n size)

-- a part from a place of the bytes to another is there what it is
pub stands_slice : (bytes : List ℕ) (at n end : ℕ) (part : List ℕ) → length part ≡ n → end ≡ at + n → StandsAt bytes at part → slice_range bytes at end ≡ part
stands_slice bytes at n end part size place (rest, e) =
    let many : end - at ≡ n = omega arith in
    ap (λ (k : ℕ). take k (drop at bytes)) many ∙ ap (λ (z : List ℕ). take n z) e ∙ take_at part rest n size

-- it ends in the bytes
pub stands_inside : (bytes : List ℕ) (at : ℕ) (part : List ℕ) → 0 < length part → StandsAt bytes at part → at + length part ≤ length bytes
stands_inside bytes at part some (rest, e) =
    omega (arith, some, length-drop at bytes, ap (λ (z : List ℕ). length z) e, length-append part rest)

-- NUMBERS

pub half_at : (bytes : List ℕ) (at n : ℕ) → n < 2 ^ 16 → StandsAt bytes at (half n) → number_at 2 at bytes ≡ n
unfolding half
half_at bytes at n fits (rest, e) = ap (λ (z : List ℕ). number 2 z) e ∙ number_back 2 n rest (omega (arith, fits))

pub word_at : (bytes : List ℕ) (at n : ℕ) → n < 2 ^ 32 → StandsAt bytes at (word n) → number_at 4 at bytes ≡ n
unfolding word
word_at bytes at n fits (rest, e) = ap (λ (z : List ℕ). number 4 z) e ∙ number_back 4 n rest (omega (arith, fits))

pub long_at : (bytes : List ℕ) (at n : ℕ) → n < 2 ^ 64 → StandsAt bytes at (long n) → number_at 8 at bytes ≡ n
unfolding long
long_at bytes at n fits (rest, e) = ap (λ (z : List ℕ). number 8 z) e ∙ number_back 8 n rest (omega (arith, fits))
