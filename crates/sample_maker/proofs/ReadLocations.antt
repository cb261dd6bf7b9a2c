-- The location list of a parameter as it is read, with its expressions and its view pairs.
use Rattle.std.proofs.Common.{◌≡◌, ◌<◌, ◌+◌, ◌^◌, ℕ, List, [], ◌∷◌, ◌++◌, length, drop, ◌∙◌, sym, ap, refl, subst, arith, inr}
use Rattle.std.specs.List.{All}
use Rattle.std.proofs.lemmas.List.{append-nil, append_assoc, length-append}
use Rattle.std.proofs.lemmas.List.Elements.{All-nil, All-cons}
use Rattle.list_model.specs.Contributions.{bytes_from}
use Rattle.list_model.specs.Items.{Bounds, Give, Fits}
use Rattle.list_model.specs.Items.Bounds.{between}
use Rattle.list_model.specs.Reading.{AreReadFrom}
use Rattle.loc_lists.specs.Locations.{IsRead}
use Rattle.loc_lists.proofs.Spans.{expressions_told}
use Rattle.value_links.specs.Lists.{item_count}
use Rattle.sample_maker.specs.declared.drawn.Parameter.{Parameter}
use Rattle.sample_maker.specs.Places.{unit_base, function_offset, function_address}
use Rattle.sample_maker.specs.inside.Bytes.{uleb, views_bytes, offset_pair_bytes, register_bytes, zero_bytes, location_bytes, located_bytes, part_bytes}
use Rattle.sample_maker.specs.inside.Listed.{pair_of, located_entries}
use Rattle.sample_maker.specs.inside.Small.{IsParameterSmall}
use Rattle.sample_maker.specs.inside.ReadLists.{part_read, context_read, expression_offset, pair_raw, location_raws, parameter_entries_read, parameter_bounds, IsParameterRead}
use Rattle.sample_maker.proofs.ListSpellings.{offset_pair_spelled, views_spelled}
use Rattle.sample_maker.proofs.ReadContributions.{held_at, dropped, from_place}

-- ENTRIES

-- an expression goes up to the end of its entry
span_ends : (at a b : ℕ) (expression : List ℕ) → at + expression_offset a b expression + length expression ≡ at + length (offset_pair_bytes a b expression)
span_ends at a b expression =
    let count : List ℕ = uleb (length expression) in
    omega (arith, length-append (uleb a) (uleb b ++ (count ++ expression)), length-append (uleb b) (count ++ expression), length-append count expression)

pair_read : (at a b : ℕ) (expression : List ℕ) → a < 2097152 → b < 2097152 → length expression < 2097152 → IsRead at (pair_raw at a b expression) (pair_of a b, expression) (offset_pair_bytes a b expression)
pair_read at a b expression small_a small_b short = record {
  place = refl;
  says = record { of_code = refl; of_a = refl; of_b = refl };
  expression = (refl, span_ends at a b expression);
  spelled = offset_pair_spelled a b expression small_a small_b short;
}

-- the bytes of the two entries
abbrev entries_bytes : ℕ → ℕ → Parameter → List ℕ
entries_bytes offset size p = offset_pair_bytes offset (offset + p.split) (register_bytes p.register) ++ offset_pair_bytes (offset + p.split) (offset + size) zero_bytes

two_read : (at offset size : ℕ) (p : Parameter) → offset < 65536 → size < 1024 → IsParameterSmall p → AreReadFrom IsRead at (location_raws at offset size p) (located_entries offset size p) (entries_bytes offset size p)
two_read at offset size p low small few =
    let split : p.split < 16 = few.split in
    let first : List ℕ = offset_pair_bytes offset (offset + p.split) (register_bytes p.register) in
    let second : List ℕ = offset_pair_bytes (offset + p.split) (offset + size) zero_bytes in (
      first,
      second,
      pair_read at offset (offset + p.split) (register_bytes p.register) (omega (arith, low)) (omega (arith, low, split)) (omega arith),
      (second, [], pair_read (at + length first) (offset + p.split) (offset + size) zero_bytes (omega (arith, low, split)) (omega (arith, low, small)) (omega arith), refl, sym (append-nil second)),
      refl,
    )

-- the list with its end, and what follows
list_parts : (offset size : ℕ) (p : Parameter) (after : List ℕ) → location_bytes offset size p ++ after ≡ entries_bytes offset size p ++ (0 ∷ after)
list_parts offset size p after =
    let first : List ℕ = offset_pair_bytes offset (offset + p.split) (register_bytes p.register) in
    let second : List ℕ = offset_pair_bytes (offset + p.split) (offset + size) zero_bytes in
    ap (λ (z : List ℕ). z ++ after) (sym (append_assoc first second (0 ∷ []))) ∙ append_assoc (first ++ second) (0 ∷ []) after

-- MEANING

bounds_given : (addresses : List ℕ) (u offset size : ℕ) (p : Parameter) (bounds : List Bounds) → bounds ≡ between (unit_base u + offset) (unit_base u + offset + p.split) ∷ between (unit_base u + offset + p.split) (unit_base u + offset + size) ∷ [] → Give addresses (context_read u) (pair_of offset (offset + p.split) ∷ pair_of (offset + p.split) (offset + size) ∷ []) bounds
bounds_given addresses u offset size p bounds is =
    let base : ℕ = unit_base u in
    let split : base + offset + p.split ≡ base + (offset + p.split) = omega arith in
    let end : base + offset + size ≡ base + (offset + size) = omega arith in
    let first : Bounds = between (base + offset) (base + (offset + p.split)) in
    let second : Bounds = between (base + (offset + p.split)) (base + (offset + size)) in
    let same : bounds ≡ first ∷ second ∷ [] = is ∙ ap (λ (z : ℕ). between (base + offset) z ∷ between z (base + offset + size) ∷ []) split ∙ ap (λ (z : ℕ). first ∷ between (base + (offset + p.split)) z ∷ []) end in
    inr (first, second ∷ [], refl, same, inr (second, [], refl, refl, refl))

bounds_fit : (u i : ℕ) (size : ℕ) (p : Parameter) → u < 4096 → i < 8 → size < 1024 → p.split < 16 → All Fits (between (function_address u i) (function_address u i + p.split) ∷ between (function_address u i + p.split) (function_address u i + size) ∷ [])
bounds_fit u i size p few_u few_i small split =
    let address : ℕ = function_address u i in
    let low : address < 2 ^ 32 = omega (arith, few_u, few_i) in
    let second : Bounds = between (address + p.split) (address + size) in
    All-cons Fits (between address (address + p.split)) (second ∷ []) (omega (arith, low), omega (arith, low, split)) (All-cons Fits second [] (omega (arith, low, split), omega (arith, low, small)) (All-nil Fits))

-- A PARAMETER, whose view pairs and list stand behind some bytes of lists

pub parameter_is_read : (lists before after : List ℕ) (n u i size : ℕ) (p : Parameter) → lists ≡ before ++ (located_bytes (function_offset i) size p ++ after) → n ≡ length before → u < 4096 → i < 8 → size < 1024 → IsParameterSmall p → IsParameterRead (part_bytes lists) (part_read lists) (record { unit = u; number = i; size = size; parameter = p; at = 12 + n })
unfolding located_bytes
parameter_is_read lists before after n u i size p whole is few_u few_i small few =
    let offset : ℕ = function_offset i in
    let low : offset < 65536 = omega (arith, few_i) in
    let list : List ℕ = location_bytes offset size p in
    let behind : lists ≡ (before ++ views_bytes) ++ (list ++ after) = whole ∙ sym (append_assoc before views_bytes (list ++ after)) in
    let place : n + 4 ≡ length (before ++ views_bytes) = omega (arith, length-append before views_bytes, is) in
    let at : 12 + (n + 4) ≡ 12 + n + 4 = omega arith in
    let here : bytes_from (part_bytes lists) (part_read lists) (12 + n + 4) ≡ list ++ after = subst (λ (z : ℕ). bytes_from (part_bytes lists) (part_read lists) z ≡ list ++ after) at (from_place lists (before ++ views_bytes) (list ++ after) (n + 4) behind place) in
    let there : drop (12 + n + 4) (part_bytes lists) ≡ list ++ after = subst (λ (z : ℕ). drop z (part_bytes lists) ≡ list ++ after) at (dropped lists (before ++ views_bytes) (list ++ after) (n + 4) behind place) in
    let read = two_read (12 + n + 4) offset size p low small few in
    let count : length lists ≡ length (before ++ views_bytes) + (length list + length after) = ap length behind ∙ length-append (before ++ views_bytes) (list ++ after) ∙ ap (λ (z : ℕ). length (before ++ views_bytes) + z) (length-append list after) in
    let some : 0 < length list = omega arith in
    let entries : item_count (parameter_entries_read (record { unit = u; number = i; size = size; parameter = p; at = 12 + n })) ≡ 2 = refl in
    record {
      begins = record { after = omega arith; before = omega (arith, count, place, some) };
      read = record {
        entries = located_entries offset size p;
        front = entries_bytes offset size p;
        end = 0 ∷ [];
        rest = after;
        read = read;
        ended = refl;
        whole = here ∙ list_parts offset size p after;
      };
      said = (record { of_code = refl; of_a = refl; of_b = refl }, (record { of_code = refl; of_a = refl; of_b = refl }, tt));
      expressions = expressions_told (part_bytes lists) (12 + n + 4) (location_raws (12 + n + 4) offset size p) (located_entries offset size p) (entries_bytes offset size p) (0 ∷ after) read (there ∙ list_parts offset size p after);
      gives = λ addresses. bounds_given addresses u offset size p (parameter_bounds (record { unit = u; number = i; size = size; parameter = p; at = 12 + n })) refl;
      fits = bounds_fit u i size p few_u few_i small few.split;
      short = λ long. absurd (omega (arith, long, entries));
      register = few.register;
      views_begin = held_at lists n (omega (arith, count, place, some));
      views = record { run = views_bytes; rest = list ++ after; spelled = views_spelled; whole = from_place lists before (views_bytes ++ (list ++ after)) n whole is };
      counted = refl;
    }
