-- The one contribution to a section of lists, and the lists in it.
use Rattle.std.proofs.Common.{◌≡◌, ◌≤◌, ◌<◌, ◌+◌, ◌-◌, ◌^◌, ℕ, List, [], ◌∷◌, ◌++◌, length, take, drop, ◌∙◌, sym, ap, refl, arith}
use Rattle.std.proofs.lemmas.List.{append_assoc, length-append, take_all}
use Rattle.std.proofs.Math.Seq.{drop-append_seam}
use Rattle.fixed_width.specs.Numbers.{number}
use Rattle.fixed_width.specs.InitialLengths.{unit_length, unit_end, version}
use Rattle.fixed_width.proofs.Numbers.{number_back}
use Rattle.list_model.specs.Headers.{address_size, segment_selector_size}
use Rattle.list_model.specs.Contributions.{IsContribution, ContributionsTile, HoldsList, part_end, offset_entry_count, bytes_from}
use Rattle.sample_maker.specs.inside.Bytes.{word, part_header, part_bytes}
use Rattle.sample_maker.specs.inside.ReadLists.{part_read}
use Rattle.sample_maker.proofs.Lengths.{word_length}

-- THE HEADER

part_length : (lists : List ℕ) → length (part_bytes lists) ≡ 12 + length lists
unfolding part_bytes
part_length lists = omega (arith, length-append (word (8 + length lists)) (part_header ++ lists), length-append part_header lists, word_length (8 + length lists))

length_field : (lists : List ℕ) → 8 + length lists < 256 ^ 4 → unit_length (part_bytes lists) 0 ≡ 8 + length lists
unfolding part_bytes word
length_field lists fits = number_back 4 (8 + length lists) (part_header ++ lists) fits

version_field : (lists : List ℕ) → version (part_bytes lists) 0 ≡ 5
unfolding part_bytes word number
version_field lists = refl

address_field : (lists : List ℕ) → address_size (part_bytes lists) 0 ≡ 8
unfolding part_bytes word number
address_field lists = refl

segment_field : (lists : List ℕ) → segment_selector_size (part_bytes lists) 0 ≡ 0
unfolding part_bytes word number
segment_field lists = refl

count_field : (lists : List ℕ) → 0 ≡ offset_entry_count (part_bytes lists) 0
unfolding part_bytes word number
count_field lists = refl

-- THE CONTRIBUTION

part_is : (lists : List ℕ) → length lists < 2 ^ 31 → IsContribution (part_bytes lists) (part_read lists)
part_is lists few =
    let field : unit_length (part_bytes lists) 0 ≡ 8 + length lists = length_field lists (omega (arith, few)) in
    let size : length (part_bytes lists) ≡ 12 + length lists = part_length lists in
    let end : unit_end (part_bytes lists) 0 ≡ 12 + length lists = omega (arith, field) in
    record {
      whole = record { usual = omega (arith, field, few); inside = omega (arith, end, size) };
      header = record { fits = omega (arith, end); of_version = version_field lists; of_address_size = address_field lists; of_segments = segment_field lists };
      ends = omega (arith, end);
      counted = count_field lists;
      fits = omega arith;
    }

pub part_tiles : (lists : List ℕ) → length lists < 2 ^ 31 → ContributionsTile (part_bytes lists) (part_read lists ∷ [])
part_tiles lists few = (refl, part_is lists few, omega (arith, part_length lists))

-- LISTS IN IT, behind some bytes of lists

pub held_at : (lists : List ℕ) (n : ℕ) → n < length lists → HoldsList (part_read lists) (12 + n)
held_at lists n inside = record { after = omega arith; before = omega (arith, inside) }

-- the bytes from the place of a list on
front_is : (lists : List ℕ) → (head : List ℕ) × (length head ≡ 12) × (part_bytes lists ≡ head ++ lists)
unfolding part_bytes
front_is lists = (
  word (8 + length lists) ++ part_header,
  omega (arith, length-append (word (8 + length lists)) part_header, word_length (8 + length lists)),
  sym (append_assoc (word (8 + length lists)) part_header lists),
)

pub dropped : (lists before rest : List ℕ) (n : ℕ) → lists ≡ before ++ rest → n ≡ length before → drop (12 + n) (part_bytes lists) ≡ rest
dropped lists before rest n whole is =
    let front = front_is lists in
    let size : length front.0 ≡ 12 = front.1 in
    let place : 12 + n ≡ length (front.0 ++ before) = omega (arith, length-append front.0 before, size, is) in
    let parts : part_bytes lists ≡ (front.0 ++ before) ++ rest = front.2 ∙ ap (λ (z : List ℕ). front.0 ++ z) whole ∙ sym (append_assoc front.0 before rest) in
    ap (λ (z : List ℕ). drop (12 + n) z) parts ∙ ap (λ (z : ℕ). drop z ((front.0 ++ before) ++ rest)) place ∙ drop-append_seam (front.0 ++ before) rest

pub from_place : (lists before rest : List ℕ) (n : ℕ) → lists ≡ before ++ rest → n ≡ length before → bytes_from (part_bytes lists) (part_read lists) (12 + n) ≡ rest
from_place lists before rest n whole is =
    let size : length lists ≡ length before + length rest = ap length whole ∙ length-append before rest in
    let most : length rest ≤ part_end (part_read lists) - (12 + n) = omega (arith, size, is) in
    ap (λ (z : List ℕ). take (part_end (part_read lists) - (12 + n)) z) (dropped lists before rest n whole is) ∙ take_all (part_end (part_read lists) - (12 + n)) rest most
