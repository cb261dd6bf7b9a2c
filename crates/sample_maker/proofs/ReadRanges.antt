-- The range list of a block as it is read.
use Rattle.std.proofs.Common.{◌≡◌, ◌≤◌, ◌<◌, ◌+◌, ◌*◌, ◌^◌, ℕ, suc, List, [], ◌∷◌, ◌++◌, length, ◌∙◌, sym, ap, refl, subst, arith, inr}
use Rattle.std.specs.List.{All}
use Rattle.std.proofs.lemmas.List.{append_assoc, length-append}
use Rattle.std.proofs.lemmas.List.Elements.{All-nil, All-cons}
use Rattle.list_model.specs.declared.entry.ListKind.TheVariants.{Ranges}
use Rattle.list_model.specs.Entries.{AreSaid}
use Rattle.list_model.specs.Items.{GiveFrom, Fits}
use Rattle.list_model.specs.Items.Bounds.{between}
use Rattle.list_model.specs.Reading.{AreReadFrom}
use Rattle.range_lists.specs.Ranges.{IsRead}
use Rattle.value_links.specs.Lists.{item_count}
use Rattle.sample_maker.specs.Generated.{ranges_from}
use Rattle.sample_maker.specs.inside.Bytes.{long, range_entries, range_bytes, part_bytes}
use Rattle.sample_maker.specs.inside.Listed.{ranged_entries}
use Rattle.sample_maker.specs.inside.ReadLists.{part_read, context_read, range_raws, BlockPlaced, block_address, IsBlockRead}
use Rattle.sample_maker.proofs.Lengths.{long_length}
use Rattle.sample_maker.proofs.ListSpellings.{range_spelled}
use Rattle.sample_maker.proofs.ReadContributions.{held_at, from_place}

-- BYTES

start_end_length : (address size : ℕ) → length (6 ∷ (long address ++ long (address + size))) ≡ 17
start_end_length address size = omega (arith, length-append (long address) (long (address + size)), long_length address, long_length (address + size))

entries_read : (at address : ℕ) (sizes : List ℕ) → address + 4 * length sizes + 16 < 256 ^ 8 → All (λ (size : ℕ). size < 16) sizes → AreReadFrom IsRead at (range_raws at address sizes) (ranged_entries address sizes) (range_entries address sizes)
entries_read at address [] fits few = refl
entries_read at address (size ∷ sizes) fits few =
    let first : size < 16 = few 0 0 (omega arith) in
    let bytes : List ℕ = 6 ∷ (long address ++ long (address + size)) in
    let rest : AreReadFrom IsRead (at + 17) (range_raws (at + 17) (address + 4) sizes) (ranged_entries (address + 4) sizes) (range_entries (address + 4) sizes) = entries_read (at + 17) (address + 4) sizes (omega (arith, fits)) (λ k d lt. few (suc k) d (omega arith)) in (
      bytes,
      range_entries (address + 4) sizes,
      record { place = refl; says = record { of_code = refl; of_a = refl; of_b = refl }; without = refl; spelled = range_spelled address size (omega (arith, fits, first)) },
      subst (λ (n : ℕ). AreReadFrom IsRead (at + n) (range_raws (at + 17) (address + 4) sizes) (ranged_entries (address + 4) sizes) (range_entries (address + 4) sizes)) (sym (start_end_length address size)) rest,
      ap (λ (z : List ℕ). 6 ∷ z) (sym (append_assoc (long address) (long (address + size)) (range_entries (address + 4) sizes))),
    )

-- MEANING

entries_said : (at address : ℕ) (sizes : List ℕ) → AreSaid Ranges (range_raws at address sizes) (ranged_entries address sizes)
entries_said at address [] = tt
entries_said at address (size ∷ sizes) = (record { of_code = refl; of_a = refl; of_b = refl }, entries_said (at + 17) (address + 4) sizes)

entries_give : (addresses : List ℕ) (u base address : ℕ) (sizes : List ℕ) → GiveFrom addresses (context_read u) base (ranged_entries address sizes) (ranges_from address sizes)
entries_give addresses u base address [] = refl
entries_give addresses u base address (size ∷ sizes) =
    inr (between address (address + size), ranges_from (address + 4) sizes, refl, refl, entries_give addresses u base (address + 4) sizes)

ranges_fit : (address : ℕ) (sizes : List ℕ) → address + 4 * length sizes + 16 < 2 ^ 64 → All (λ (size : ℕ). size < 16) sizes → All Fits (ranges_from address sizes)
ranges_fit address [] fits few = All-nil Fits
ranges_fit address (size ∷ sizes) fits few =
    let first : size < 16 = few 0 0 (omega arith) in
    All-cons Fits (between address (address + size)) (ranges_from (address + 4) sizes) (omega (arith, fits), omega (arith, fits, first)) (ranges_fit (address + 4) sizes (omega (arith, fits)) (λ k d lt. few (suc k) d (omega arith)))

items_counted : (address : ℕ) (sizes : List ℕ) → item_count (ranged_entries address sizes) ≡ length sizes
items_counted address [] = refl
items_counted address (size ∷ sizes) = ap suc (items_counted (address + 4) sizes)

-- A BLOCK, whose list stands behind some bytes of lists

pub block_is_read : (lists before after : List ℕ) (n u i : ℕ) (sizes : List ℕ) → lists ≡ before ++ (range_bytes (block_address (record { unit = u; number = i; sizes = sizes; at = 12 + n })) sizes ++ after) → n ≡ length before → u < 4096 → i < 8 → length sizes ≤ 3 → All (λ (size : ℕ). size < 16) sizes → IsBlockRead (part_bytes lists) (part_read lists) (record { unit = u; number = i; sizes = sizes; at = 12 + n })
unfolding range_bytes
block_is_read lists before after n u i sizes whole is few_u few_i few small =
    let b : BlockPlaced = record { unit = u; number = i; sizes = sizes; at = 12 + n } in
    let address : ℕ = block_address b in
    let low : address + 4 * length sizes + 16 < 256 ^ 8 = omega (arith, few_u, few_i, few) in
    let size : length lists ≡ length before + (length (range_bytes address sizes) + length after) = ap length whole ∙ length-append before (range_bytes address sizes ++ after) ∙ ap (λ (z : ℕ). length before + z) (length-append (range_bytes address sizes) after) in
    let list : length (range_bytes address sizes) ≡ length (range_entries address sizes) + 1 = length-append (range_entries address sizes) (0 ∷ []) in
    record {
      begins = held_at lists n (omega (arith, size, list, is));
      read = record {
        entries = ranged_entries address sizes;
        front = range_entries address sizes;
        end = 0 ∷ [];
        rest = after;
        read = entries_read (12 + n) address sizes low small;
        ended = refl;
        whole = from_place lists before (range_bytes address sizes ++ after) n whole is ∙ append_assoc (range_entries address sizes) (0 ∷ []) after;
      };
      said = entries_said (12 + n) address sizes;
      gives = λ addresses. entries_give addresses u (context_read u).base address sizes;
      fits = ranges_fit address sizes (omega (arith, few_u, few_i, few)) small;
      short = λ long. absurd (omega (arith, long, items_counted address sizes, few));
      few = few;
    }
