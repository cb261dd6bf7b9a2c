-- What is left after the places of the header table and of sections were written.
use Rattle.std.proofs.Common.{◌≡◌, ◌≢◌, ◌≤◌, ◌<◌, ◌+◌, ◌*◌, ◌⊎◌, ℕ, List, length, get_or, take, sym, ◌∙◌, ap, arith, inl, inr}
use Rattle.std.specs.Prelude.{slice_index}
use Rattle.std.specs.List.{All, AllPairs}
use Rattle.std.proofs.lemmas.Bool.{cases_lt}
use Rattle.std.proofs.lemmas.List.{get_or-take, length-take-le}
use Rattle.std.proofs.lemmas.List.Elements.{All-more}
use Rattle.elf_sections.specs.Numbers.{number_at}
use Rattle.elf_place.specs.declared.spots.Spot.{Spot}
use Rattle.elf_place.specs.inside.Spots.{IsApart, IsPatched}
use Rattle.elf_place.proofs.NumberLaws.{number_at-same}

abbrev pub HasField : ℕ → ℕ → (Spot → ℕ) → List ℕ → Spot → Type 0
HasField table field value file spot = number_at 8 (table + 64 * spot.section + field) file ≡ value spot

-- one more spot, whose offset and then size are written
module _ (table n : ℕ) (spots : List Spot) (spot : Spot) (start old middle new : List ℕ) (lt : n < length spots) (is : (d : Spot) → get_or spots n d ≡ spot) (apart : AllPairs (λ (one other : Spot). one.section ≢ other.section) spots) (offset : number_at 8 (table + 64 * spot.section + 24) middle ≡ spot.at) (around_offset : (k : ℕ) → (k < table + 64 * spot.section + 24) ⊎ (table + 64 * spot.section + 24 + 8 ≤ k) → slice_index middle k ≡ slice_index old k) (size : number_at 8 (table + 64 * spot.section + 32) new ≡ spot.len) (around_size : (k : ℕ) → (k < table + 64 * spot.section + 32) ⊎ (table + 64 * spot.section + 32 + 8 ≤ k) → slice_index new k ≡ slice_index middle k) where
  around : (k : ℕ) → (k < table + 64 * spot.section + 24) ⊎ (table + 64 * spot.section + 40 ≤ k) → slice_index new k ≡ slice_index old k
  around k (inl low) = around_size k (inl (omega arith)) ∙ around_offset k (inl low)
  around k (inr high) = around_size k (inr (omega arith)) ∙ around_offset k (inr (omega arith))

  field-kept : (i field : ℕ) → i ≢ spot.section → 24 ≤ field → field ≤ 32 → number_at 8 (table + 64 * i + field) new ≡ number_at 8 (table + 64 * i + field) old
  field-kept i field other low high =
      number_at-same 8 (table + 64 * i + field) new old (λ k from to. around k (elim (cases_lt i spot.section) [
        | inl below ↦ inl (omega arith)
        | inr rest ↦ elim (cases_lt spot.section i) [ inl above ↦ inr (omega arith) | inr same ↦ absurd (other (omega arith)) ]
      ]))

  earlier : (field : ℕ) (value : Spot → ℕ) → 24 ≤ field → field ≤ 32 → All (HasField table field value old) (take n spots) → All (HasField table field value new) (take n spots)
  earlier field value low high before = λ k d within.
      let short : length (take n spots) ≡ n = length-take-le n spots (omega arith) in
      let one : get_or (take n spots) k d ≡ get_or spots k d = get_or-take n spots k d (omega arith) in
      let other : (get_or spots k d).section ≢ spot.section = λ e. apart k n d (omega arith) lt (e ∙ ap (λ (s : Spot). s.section) (sym (is d))) in
      let kept : number_at 8 (table + 64 * (get_or (take n spots) k d).section + field) new ≡ number_at 8 (table + 64 * (get_or (take n spots) k d).section + field) old = field-kept (get_or (take n spots) k d).section field (λ e. other (ap (λ (s : Spot). s.section) (sym one) ∙ e)) low high in
      kept ∙ before k d within

  here : (field : ℕ) (value : Spot → ℕ) → HasField table field value new spot → HasField table field value new (get_or spots n spot)
  here field value h = rw (is spot) h

  pub offsets-more : All (HasField table 24 (λ s. s.at) old) (take n spots) → All (HasField table 24 (λ s. s.at) new) (take (n + 1) spots)
  offsets-more before =
      let kept : number_at 8 (table + 64 * spot.section + 24) new ≡ number_at 8 (table + 64 * spot.section + 24) middle = number_at-same 8 (table + 64 * spot.section + 24) new middle (λ k from to. around_size k (inl (omega arith))) in
      All-more (HasField table 24 (λ s. s.at) new) spots n spot lt (earlier 24 (λ s. s.at) (omega arith) (omega arith) before) (here 24 (λ s. s.at) (kept ∙ offset))

  pub sizes-more : All (HasField table 32 (λ s. s.len) old) (take n spots) → All (HasField table 32 (λ s. s.len) new) (take (n + 1) spots)
  sizes-more before = All-more (HasField table 32 (λ s. s.len) new) spots n spot lt (earlier 32 (λ s. s.len) (omega arith) (omega arith) before) (here 32 (λ s. s.len) size)

  pub others-more : ((k : ℕ) → IsApart table spots k → slice_index old k ≡ slice_index start k) → (k : ℕ) → IsApart table spots k → slice_index new k ≡ slice_index start k
  others-more before k far =
      let clear : (k < table + 64 * spot.section + 24) ⊎ (table + 64 * spot.section + 40 ≤ k) = rw (is spot) at (far n spot lt) in
      around k clear ∙ before k far

-- the place of the header table is written before all spots
pub IsPatched-from : (table : ℕ) (spots : List Spot) (old middle new : List ℕ) → 48 ≤ table → number_at 8 40 middle ≡ table → ((k : ℕ) → (k < 40) ⊎ (48 ≤ k) → slice_index middle k ≡ slice_index old k) → length middle ≡ length old → All (HasField table 24 (λ s. s.at) new) spots → All (HasField table 32 (λ s. s.len) new) spots → ((k : ℕ) → IsApart table spots k → slice_index new k ≡ slice_index middle k) → length new ≡ length middle → IsPatched table spots old new
IsPatched-from table spots old middle new low written around long offsets sizes others longer =
    let place : number_at 8 40 new ≡ table = number_at-same 8 40 new middle (λ k from to. others k (λ j d lt. inl (omega arith))) ∙ written in
    record {
      place = place;
      offsets = λ k d lt. ap (λ t. number_at 8 (t + 64 * (get_or spots k d).section + 24) new) place ∙ offsets k d lt;
      sizes = λ k d lt. ap (λ t. number_at 8 (t + 64 * (get_or spots k d).section + 32) new) place ∙ sizes k d lt;
      others = λ k clear far. others k far ∙ around k clear;
      long = longer ∙ long;
    }
