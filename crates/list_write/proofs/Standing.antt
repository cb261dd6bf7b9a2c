-- Bytes that stand at a place of others, and go on standing there.
use Rattle.std.proofs.Common.{◌≡◌, ◌≤◌, ◌<◌, ◌+◌, ◌-◌, ◌^◌, ◌∙◌, ℕ, List, [], ◌++◌, length, take, drop, sym, ap, arith}
use Rattle.std.specs.Int.{bytes_low_first}
use Rattle.std.proofs.Math.Seq.{take-append-add}
use Rattle.std.proofs.lemmas.List.{append_assoc, append-nil, length-append, length-drop, drop-append-le, drop_at}
use Rattle.fixed_width.specs.Numbers.{number, number_at}
use Rattle.fixed_width.proofs.Numbers.{number_back}
use Rattle.leb_codec.specs.Digits.{Extends}
use Rattle.list_write.specs.inside.Puts.{StandAt}

pub extends_none : (bytes : List ℕ) → Extends bytes bytes
extends_none bytes = ([], sym (append-nil bytes))

pub extends_more : (old mid new : List ℕ) → Extends old mid → Extends mid new → Extends old new
extends_more old mid new (a, e) (b, f) = (a ++ b, f ∙ ap (λ z. z ++ b) e ∙ append_assoc old a b)

pub extends_size : (old new : List ℕ) → Extends old new → length old ≤ length new
extends_size old new (a, e) = let n : length new ≡ length old + length a = ap length e ∙ length-append old a in omega arith

-- what is put last stands where the others end
pub stand_last : (old own new : List ℕ) (at : ℕ) → new ≡ old ++ own → length old ≡ at → StandAt at own new
stand_last old own new at e place = record { front = old; rest = []; place = place; whole = e ∙ ap (λ z. old ++ z) (sym (append-nil own)) }

-- it goes on standing there
pub stand_more : (at : ℕ) (own old new : List ℕ) → Extends old new → StandAt at own old → StandAt at own new
stand_more at own old new (more, e) s =
    record { front = s.front; rest = s.rest ++ more; place = s.place; whole = e ∙ ap (λ z. z ++ more) s.whole ∙ append_assoc s.front (own ++ s.rest) more ∙ ap (λ z. s.front ++ z) (append_assoc own s.rest more) }

-- two parts, one after the other
pub stand_first : (at : ℕ) (a b all : List ℕ) → StandAt at (a ++ b) all → StandAt at a all
stand_first at a b all s = record { front = s.front; rest = b ++ s.rest; place = s.place; whole = s.whole ∙ ap (λ z. s.front ++ z) (append_assoc a b s.rest) }

pub stand_second : (at to : ℕ) (a b all : List ℕ) → at + length a ≡ to → StandAt at (a ++ b) all → StandAt to b all
stand_second at to a b all e s =
    let place : length (s.front ++ a) ≡ at + length a = length-append s.front a ∙ ap (λ (z : ℕ). z + length a) s.place in
    record { front = s.front ++ a; rest = s.rest; place = place ∙ e; whole = s.whole ∙ ap (λ z. s.front ++ z) (append_assoc a b s.rest) ∙ sym (append_assoc s.front a (b ++ s.rest)) }

pub stand_inside : (at : ℕ) (own all : List ℕ) → StandAt at own all → at + length own ≤ length all
stand_inside at own all s =
    let n : length all ≡ length s.front + length (own ++ s.rest) = ap length s.whole ∙ length-append s.front (own ++ s.rest) in
    let m : length (own ++ s.rest) ≡ length own + length s.rest = length-append own s.rest in
    let p : length s.front ≡ at = s.place in
    omega arith

pub stand_drop : (at : ℕ) (own all : List ℕ) → (s : StandAt at own all) → drop at all ≡ own ++ s.rest
stand_drop at own all s = ap (drop at) s.whole ∙ drop_at s.front (own ++ s.rest) at s.place

-- a number that stands there is read there
pub stand_number : (n value at : ℕ) (all : List ℕ) → StandAt at (bytes_low_first 0 n value) all → value < 256 ^ n → number_at n at all ≡ value
stand_number n value at all s fits = ap (number n) (stand_drop at (bytes_low_first 0 n value) all s) ∙ number_back n value s.rest fits

-- what stands in a part of the bytes stands where the part is put
pub stand_copied : (at : ℕ) (own all old new : List ℕ) (from to : ℕ) → StandAt at own all → from ≤ at → at + length own ≤ to → new ≡ old ++ take (to - from) (drop from all) → StandAt (length old + (at - from)) own new
stand_copied at own all old new from to s after before e =
    let place : length s.front ≡ at = s.place in
    let more = to - at - length own in
    let front = drop from s.front in
    let size : length front ≡ length s.front - from = length-drop from s.front in
    let long : length own + more ≡ to - at = omega (arith, before) in
    let count : to - from ≡ length front + (length own + more) = omega (arith, place, size, long, after, before) in
    let left : drop from all ≡ front ++ (own ++ s.rest) = ap (drop from) s.whole ∙ drop-append-le from s.front (own ++ s.rest) (omega (arith, place, after)) in
    let part : take (to - from) (drop from all) ≡ front ++ (own ++ take more s.rest) =
    ap (take (to - from)) left ∙ ap (λ (z : ℕ). take z (front ++ (own ++ s.rest))) count
    ∙ take-append-add front (own ++ s.rest) (length own + more) ∙ ap (λ z. front ++ z) (take-append-add own s.rest more) in
    record {
      front = old ++ front;
      rest = take more s.rest;
      place = length-append old front ∙ (let sum : length old + length front ≡ length old + (at - from) = omega (arith, size, place) in sum);
      whole = e ∙ ap (λ z. old ++ z) part ∙ sym (append_assoc old front (own ++ take more s.rest));
    }
