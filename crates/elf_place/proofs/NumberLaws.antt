-- Laws of numbers in a file.
use Rattle.std.proofs.Common.{◌≡◌, ◌≤◌, ◌<◌, ◌+◌, ℕ, List, drop, get_or, sym, ◌∙◌, ap, arith, take, ◌++◌, length, ◌^◌}
use Rattle.std.specs.Prelude.{slice_index}
use Rattle.std.proofs.lemmas.List.{get_or-drop, get_or-take, get_or_append_left, length-take-le, drop_at, append_assoc}
use Rattle.std.proofs.lemmas.Slice.{drop-put_mid}
use borrow.Rule.Slice.PartMut.{put_mid, post_of}
use Rattle.std.specs.Int.{bytes_low_first}
use Rattle.byteorder.specs.Numbers.{little_number-reads_back}
use Rattle.byteorder.specs.Endian.{little_from}
use Rattle.elf_sections.specs.Numbers.{number_at}
use Rattle.elf_sections.proofs.HeaderLaws.{little_from-same}

-- files that have the same bytes there have the same number there
pub number_at-same : (n p : ℕ) (xs ys : List ℕ) → ((k : ℕ) → p ≤ k → k < p + n → slice_index xs k ≡ slice_index ys k) → number_at n p xs ≡ number_at n p ys
unfolding number_at
number_at-same n p xs ys same =
    little_from-same 0 n (drop p xs) (drop p ys) (λ k low high.
    get_or-drop p xs k 0 ∙ same (p + k) (omega arith) (omega arith) ∙ sym (get_or-drop p ys k 0))

-- the same number at two places of two files that have the same bytes there
pub number_at-shift : (n p q : ℕ) (xs ys : List ℕ) → ((k : ℕ) → k < n → slice_index xs (p + k) ≡ slice_index ys (q + k)) → number_at n p xs ≡ number_at n q ys
unfolding number_at
number_at-shift n p q xs ys same =
    little_from-same 0 n (drop p xs) (drop q ys) (λ k low high.
    get_or-drop p xs k 0 ∙ same k (omega arith) ∙ sym (get_or-drop q ys k 0))

-- the bytes of a number written at a place
module _ (at value : ℕ) (xs ys : List ℕ) (inside : at + 8 ≤ length xs) (size : length ys ≡ 8) where
  pub put-below : (k : ℕ) → k < at → slice_index (put_mid at 8 xs ys) k ≡ slice_index xs k
  put-below k low =
      let front : length (take at xs) ≡ at = length-take-le at xs (omega arith) in
      get_or_append_left (take at xs) (ys ++ post_of at 8 xs) 0 k (omega arith) ∙ get_or-take at xs k 0 low

  pub put-above : (k : ℕ) → at + 8 ≤ k → slice_index (put_mid at 8 xs ys) k ≡ slice_index xs k
  put-above k high =
      let e : k + 0 ≡ k = omega arith in
      let before : get_or (drop k (put_mid at 8 xs ys)) 0 0 ≡ get_or (put_mid at 8 xs ys) k 0 = get_or-drop k (put_mid at 8 xs ys) 0 0 ∙ ap (λ n. get_or (put_mid at 8 xs ys) n 0) e in
      let after : get_or (drop k xs) 0 0 ≡ get_or xs k 0 = get_or-drop k xs 0 0 ∙ ap (λ n. get_or xs n 0) e in
      sym before ∙ ap (λ zs. get_or zs 0 0) (drop-put_mid at 8 xs ys k high (omega arith) size) ∙ after

  pub put-read : (rest : List ℕ) → ys ≡ bytes_low_first 0 8 value ++ rest → value < 2 ^ 64 → number_at 8 at (put_mid at 8 xs ys) ≡ value
  unfolding number_at
  put-read rest e small =
      let front : length (take at xs) ≡ at = length-take-le at xs (omega arith) in
      let tail : drop at (put_mid at 8 xs ys) ≡ ys ++ post_of at 8 xs = drop_at (take at xs) (ys ++ post_of at 8 xs) at front in
      let whole : ys ++ post_of at 8 xs ≡ bytes_low_first 0 8 value ++ (rest ++ post_of at 8 xs) = ap (λ zs. zs ++ post_of at 8 xs) e ∙ append_assoc (bytes_low_first 0 8 value) rest (post_of at 8 xs) in
      ap (little_from 0 8) (tail ∙ whole) ∙ little_number-reads_back 8 value (rest ++ post_of at 8 xs) small
