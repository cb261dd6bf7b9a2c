-- Pieces that stand in bytes.
use Rattle.std.proofs.Common.{◌≡◌, ◌≤◌, ◌<◌, ◌+◌, ◌^◌, ◌++◌, ◌∙◌, ℕ, List, [], length, take, drop, sym, ap, arith}
use Rattle.std.specs.Prelude.{slice_index}
use Rattle.std.proofs.lemmas.List.{append_assoc, append-nil, length-append, take-append-le, drop_at, take_all, get_or-take, get_or-drop, get_or_append_left}
use Rattle.byteorder.specs.Endian.{little_bytes}
use Rattle.fixed_width.specs.Numbers.{number, number_at}
use Rattle.fixed_width.proofs.Numbers.{number_back as number_before}
use Rattle.line_machine.proofs.Parts.{number_part}

-- The piece stands in the bytes at a place.
pub record Holds (bytes : List ℕ) (place : ℕ) (piece : List ℕ) : Type 0 where
  pub front : List ℕ
  pub rest : List ℕ
  pub whole : bytes ≡ front ++ (piece ++ rest)
  pub here : length front ≡ place

-- so does its front
pub held_front : (bytes : List ℕ) (place : ℕ) (a b : List ℕ) → Holds bytes place (a ++ b) → Holds bytes place a
held_front bytes place a b h = record {
  front = h.front;
  rest = b ++ h.rest;
  whole = h.whole ∙ ap (λ z. h.front ++ z) (append_assoc a b h.rest);
  here = h.here;
}

-- what follows its front stands after it
pub held_after : (bytes : List ℕ) (place n next : ℕ) (a b : List ℕ) → Holds bytes place (a ++ b) → length a ≡ n → place + n ≡ next → Holds bytes next b
held_after bytes place n next a b h size e =
    let count : length (h.front ++ a) ≡ length h.front + length a = length-append h.front a in
    let here : length h.front ≡ place = h.here in
    record {
      front = h.front ++ a;
      rest = h.rest;
      whole = h.whole ∙ ap (λ z. h.front ++ z) (append_assoc a b h.rest) ∙ sym (append_assoc h.front a (b ++ h.rest));
      here = omega arith;
    }

module _ (bytes : List ℕ) (place : ℕ) (piece : List ℕ) (h : Holds bytes place piece) where
  dropped : drop place bytes ≡ piece ++ h.rest
  dropped = ap (drop place) h.whole ∙ drop_at h.front (piece ++ h.rest) place h.here

  pub held_inside : place + length piece ≤ length bytes
  held_inside =
      let a : length bytes ≡ length h.front + length (piece ++ h.rest) = ap length h.whole ∙ length-append h.front (piece ++ h.rest) in
      let b : length (piece ++ h.rest) ≡ length piece + length h.rest = length-append piece h.rest in
      let here : length h.front ≡ place = h.here in
      omega arith

  pub held_part : (n : ℕ) → n ≤ length piece → take n (drop place bytes) ≡ take n piece
  held_part n le = ap (take n) dropped ∙ take-append-le n piece h.rest le

  pub held_all : (n : ℕ) → length piece ≡ n → take n (drop place bytes) ≡ piece
  held_all n size = held_part n (omega arith) ∙ take_all n piece (omega arith)

  pub held_byte : (k at : ℕ) → k < length piece → place + k ≡ at → slice_index bytes at ≡ slice_index piece k
  held_byte k at lt e =
      ap (slice_index bytes) (sym e) ∙ sym (get_or-drop place bytes k 0) ∙ ap (λ z. slice_index z k) dropped ∙ get_or_append_left piece h.rest 0 k lt

  pub held_number : (n : ℕ) → n ≤ length piece → number_at n place bytes ≡ number_at n 0 piece
  held_number n le = number_part n place bytes ∙ ap (number_at n 0) (held_part n le) ∙ sym (number_part n 0 piece)

-- a part of bytes holds their bytes and numbers
pub part_byte : (n at k : ℕ) (l : List ℕ) → k < n → slice_index (take n (drop at l)) k ≡ slice_index l (at + k)
part_byte n at k l lt = get_or-take n (drop at l) k 0 lt ∙ get_or-drop at l k 0

-- a number that was written is read back
pub number_back : (n value : ℕ) → value < 256 ^ n → number_at n 0 (little_bytes n value) ≡ value
number_back n value small = ap (number n) (sym (append-nil (little_bytes n value))) ∙ number_before n value [] small
