-- Numbers of fixed width, read where they were written and where nothing was.
use Rattle.std.proofs.Common.{◌≡◌, ◌≤◌, ◌<◌, ◌+◌, ◌^◌, ◌++◌, ◌∙◌, ℕ, zero, suc, List, length, take, drop, get_or, sym, ap, refl, arith, inl, inr}
use Rattle.std.specs.Prelude.{slice_index}
use Rattle.std.specs.Int.{bytes_low_first}
use Rattle.std.proofs.lemmas.List.{get_or-drop, get_or_past, length-take-le, drop_at, append_assoc}
use Rattle.std.proofs.lemmas.Bool.{cases_lt}
use borrow.Rule.Slice.PartMut.{put_mid, post_of}
use Rattle.byteorder.specs.Endian.{little_from}
use Rattle.byteorder.specs.Numbers.{little_number-reads_back, little_from-lt}
use Rattle.fixed_width.specs.Numbers.{number, number_at}

from_same : (i n : ℕ) (xs ys : List ℕ) → ((k : ℕ) → i ≤ k → k < i + n → slice_index xs k ≡ slice_index ys k) → little_from i n xs ≡ little_from i n ys
from_same i zero xs ys same = refl
from_same i (suc n) xs ys same =
    let here : slice_index xs i ≡ slice_index ys i = same i (omega arith) (omega arith) in
    let rest : little_from (suc i) n xs ≡ little_from (suc i) n ys = from_same (suc i) n xs ys (λ k low high. same k (omega arith) (omega arith)) in
    rw (here, rest) refl

-- the same bytes are the same number, wherever they stand
pub number_shift : (n p q : ℕ) (xs ys : List ℕ) → ((k : ℕ) → k < n → slice_index xs (p + k) ≡ slice_index ys (q + k)) → number_at n p xs ≡ number_at n q ys
unfolding number
number_shift n p q xs ys same =
    from_same 0 n (drop p xs) (drop q ys) (λ k low high. get_or-drop p xs k 0 ∙ same k (omega arith) ∙ sym (get_or-drop q ys k 0))

-- and so at one place
pub number_same : (n at : ℕ) (xs ys : List ℕ) → ((k : ℕ) → at ≤ k → k < at + n → slice_index xs k ≡ slice_index ys k) → number_at n at xs ≡ number_at n at ys
number_same n at xs ys same = number_shift n at at xs ys (λ k low. same (at + k) (omega arith) (omega arith))

-- the bytes of a number tell it, whatever follows
pub number_back : (n value : ℕ) (rest : List ℕ) → value < 256 ^ n → number n (bytes_low_first 0 n value ++ rest) ≡ value
unfolding number
number_back n value rest fits = little_number-reads_back n value rest fits

-- a number that was written is read
pub number_put : (n at value : ℕ) (xs ys : List ℕ) → at + n ≤ length xs → (rest : List ℕ) → ys ≡ bytes_low_first 0 n value ++ rest → value < 256 ^ n → number_at n at (put_mid at n xs ys) ≡ value
number_put n at value xs ys inside rest e fits =
    let front : length (take at xs) ≡ at = length-take-le at xs (omega arith) in
    let tail : drop at (put_mid at n xs ys) ≡ ys ++ post_of at n xs = drop_at (take at xs) (ys ++ post_of at n xs) at front in
    let whole : ys ++ post_of at n xs ≡ bytes_low_first 0 n value ++ (rest ++ post_of at n xs) = ap (λ zs. zs ++ post_of at n xs) e ∙ append_assoc (bytes_low_first 0 n value) rest (post_of at n xs) in
    ap (number n) (tail ∙ whole) ∙ number_back n value (rest ++ post_of at n xs) fits

-- bytes, and the 0 that stands for those past the end
pub all_small : (bytes : List ℕ) → ((k : ℕ) → k < length bytes → slice_index bytes k < 256) → (k : ℕ) → get_or bytes k 0 < 256
all_small bytes small k =
    elim (cases_lt k (length bytes)) [ inl inside ↦ small k inside | inr past ↦ rw (get_or_past bytes k 0 past) (omega arith) ]

-- a number in n bytes is below 256 ^ n
pub number_small : (n : ℕ) (bytes : List ℕ) → ((k : ℕ) → k < length bytes → slice_index bytes k < 256) → number n bytes < 256 ^ n
unfolding number
number_small n bytes small = little_from-lt 0 n bytes (all_small bytes small)
