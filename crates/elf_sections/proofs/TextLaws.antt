-- Where texts end, and how long they are.
use Rattle.std.proofs.Common.{◌≡◌, ◌≢◌, ◌≤◌, ◌<◌, ◌+◌, ◌-◌, ℕ, List, Bool, true, false, ◌==◌, length, take, drop, get_or, slice_range, sym, ap, subst, ◌∙◌, true≢false, arith}
use Rattle.std.specs.Prelude.{Some, None, slice_index, position}
use Rattle.std.specs.List.{position_or_len}
use Rattle.std.proofs.lemmas.Bool.{eq-eqb, ne_eqb, eqb-true}
use Rattle.std.proofs.lemmas.Grind.{common_steps}
use Rattle.std.proofs.lemmas.List.{get_or-drop, get_or-take, length-take, length-take-le, length-drop}
use Rattle.std.proofs.lemmas.List.Sums.{fails_before_first, position_or_len_is}
use Rattle.std.proofs.lemmas.List.Quantifiers.{position-Some}
use Rattle.elf_sections.specs.Names.{text_at}
use Rattle.elf_sections.specs.inside.Names.{IsTextEnd}

abbrev is_zero : ℕ → Bool
is_zero b = b == 0

was_zero : (n : ℕ) → is_zero n ≡ true → n ≡ 0
was_zero n e = eqb-true n 0 e

not_zero : (n : ℕ) → is_zero n ≡ false → n ≢ 0
not_zero n e zero = true≢false (sym (eq-eqb n 0 zero) ∙ e)

-- a byte of a part stands in the whole
at_part : (bytes : List ℕ) (at stop k : ℕ) → k < stop - at → get_or (slice_range bytes at stop) k 0 ≡ get_or bytes (at + k) 0
at_part bytes at stop k inside = get_or-take (stop - at) (drop at bytes) k 0 inside ∙ get_or-drop at bytes k 0

pub length_range : (bytes : List ℕ) (at stop : ℕ) → at ≤ stop → stop ≤ length bytes → length (slice_range bytes at stop) ≡ stop - at
length_range bytes at stop order inside =
    let size = length-take (stop - at) (drop at bytes) in
    let rest = length-drop at bytes in
    omega arith

pub zero_found : (bytes : List ℕ) (at stop len : ℕ) → at ≤ stop → stop ≤ length bytes → position is_zero (slice_range bytes at stop) ≡ Some len → IsTextEnd bytes at (at + len)
zero_found bytes at stop len order inside e =
    let part = slice_range bytes at stop in
    let found = position-Some is_zero part len 0 e in
    let size = length_range bytes at stop order inside in
    let here : len < stop - at = omega (arith, found.0) in
    record {
      order = omega arith;
      inside = omega arith;
      zero = sym (at_part bytes at stop len here) ∙ was_zero (get_or part len 0) found.1;
      before = λ k from below.
          let shift : at + (k - at) ≡ k = omega arith in
          let same : get_or part (k - at) 0 ≡ get_or bytes k 0 = at_part bytes at stop (k - at) (omega arith) ∙ ap (λ (j : ℕ). get_or bytes j 0) shift in
          subst (λ (z : ℕ). z ≢ 0) same (not_zero (get_or part (k - at) 0) (found.2 (k - at) (omega arith)));
    }

pub no_zero : (bytes : List ℕ) (at stop : ℕ) → at ≤ stop → stop ≤ length bytes → position is_zero (slice_range bytes at stop) ≡ None → (k : ℕ) → at ≤ k → k < stop → slice_index bytes k ≢ 0
no_zero bytes at stop order inside e k from below =
    let part = slice_range bytes at stop in
    let size = length_range bytes at stop order inside in
    let past : length part ≤ position_or_len is_zero part = grind (arith, common_steps) in
    let shift : at + (k - at) ≡ k = omega arith in
    let same : get_or part (k - at) 0 ≡ get_or bytes k 0 = at_part bytes at stop (k - at) (omega arith) ∙ ap (λ (j : ℕ). get_or bytes j 0) shift in
    subst (λ (z : ℕ). z ≢ 0) same (not_zero (get_or part (k - at) 0) (fails_before_first is_zero part (k - at) 0 (omega arith)))

text_size : (bytes : List ℕ) (at n : ℕ) → at ≤ length bytes → n ≤ length bytes - at → ((k : ℕ) → k < n → slice_index bytes (at + k) ≢ 0) → (n < length bytes - at → slice_index bytes (at + n) ≡ 0) → length (text_at bytes at) ≡ n
text_size bytes at n inside within before zero =
    let rest = drop at bytes in
    let size = length-drop at bytes in
    let first : position_or_len is_zero rest ≡ n = position_or_len_is is_zero rest n 0 (omega arith)
    (λ k less. ne_eqb (get_or rest k 0) 0 (subst (λ (z : ℕ). z ≢ 0) (sym (get_or-drop at bytes k 0)) (before k less)))
    (λ less. eq-eqb (get_or rest n 0) 0 (get_or-drop at bytes n 0 ∙ zero (omega arith))) in
    ap (λ (k : ℕ). length (take k rest)) first ∙ length-take-le n rest (omega arith)

-- the text up to a zero byte that is the first
pub text_until : (bytes : List ℕ) (at end : ℕ) → IsTextEnd bytes at end → (end - at ≡ length (text_at bytes at)) × (at + (end - at) < length bytes)
text_until bytes at end stands =
    let order = stands.order in
    let inside = stands.inside in
    let there : at + (end - at) ≡ end = omega arith in
    let size = text_size bytes at (end - at) (omega arith) (omega arith) (λ k less. stands.before (at + k) (omega arith) (omega arith)) (λ less. ap (slice_index bytes) there ∙ stands.zero) in
    (sym size, omega arith)

-- no zero byte ends the text
pub text_runs_out : (bytes : List ℕ) (at : ℕ) → at ≤ length bytes → ((k : ℕ) → at ≤ k → k < length bytes → slice_index bytes k ≢ 0) → length bytes ≤ at + length (text_at bytes at)
text_runs_out bytes at inside none =
    let size = text_size bytes at (length bytes - at) inside (omega arith) (λ k less. none (at + k) (omega arith) (omega arith)) (λ less. absurd (omega arith)) in
    omega arith
