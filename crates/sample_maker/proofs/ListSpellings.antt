-- The bytes of lists spell their entries.
use Rattle.std.proofs.Common.{◌≡◌, ◌<◌, ◌+◌, ◌*◌, ◌^◌, ℕ, suc, List, [], ◌∷◌, ◌++◌, length, ◌∙◌, sym, ap, refl, subst, arith}
use Rattle.std.specs.List.{All}
use Rattle.std.proofs.lemmas.List.{append-nil, append_assoc}
use Rattle.spelled.specs.Spelled.{Joined}
use Rattle.leb_codec.specs.Leb.{Uleb}
use Rattle.form_codec.specs.declared.form.Width.TheVariants.{Eight}
use Rattle.form_codec.proofs.WriteLaws.{low_small, number_low}
use Rattle.list_model.specs.declared.entry.ListKind.TheVariants.{Ranges, Locations}
use Rattle.list_model.specs.Entries.{SpellsAddress, SpellsEntry, SpellsList}
use Rattle.loc_lists.specs.Locations.{SpellsExpression, SpellsLocation, SpellsLocationList}
use Rattle.loc_lists.specs.Views.{SpellsPair}
use Rattle.sample_maker.specs.declared.drawn.Parameter.{Parameter}
use Rattle.sample_maker.specs.Generated.{view_pairs}
use Rattle.sample_maker.specs.inside.Bytes.{uleb, long, offset_pair_bytes, register_bytes, zero_bytes, location_bytes, range_entries, range_bytes, views_bytes}
use Rattle.sample_maker.specs.inside.Small.{IsParameterSmall}
use Rattle.sample_maker.specs.inside.Listed.{pair_of, located_entries, range_of, ranged_entries}
use Rattle.sample_maker.proofs.SmallLebs.{uleb_shortest}

pub uleb_spells : (n : ℕ) → n < 2097152 → Uleb n (uleb n)
uleb_spells n small = ((uleb_shortest n small).0, omega arith)

-- LOCATION LISTS

pair_spelled : (a b : ℕ) → a < 2097152 → b < 2097152 → SpellsEntry Locations (pair_of a b) (4 ∷ (uleb a ++ uleb b))
pair_spelled a b small_a small_b = record {
  code = 4;
  operands = uleb a ++ uleb b;
  known = refl;
  spelled = (uleb a, uleb b, uleb_spells a small_a, uleb_spells b small_b, refl);
  whole = refl;
}

expression_spelled : (expression : List ℕ) → length expression < 2097152 → SpellsExpression expression (uleb (length expression) ++ expression)
expression_spelled expression short = record { head = uleb (length expression); count = uleb_spells (length expression) short; whole = refl }

pub offset_pair_spelled : (a b : ℕ) (expression : List ℕ) → a < 2097152 → b < 2097152 → length expression < 2097152 → SpellsLocation (pair_of a b, expression) (offset_pair_bytes a b expression)
offset_pair_spelled a b expression small_a small_b short = (
  4 ∷ (uleb a ++ uleb b),
  uleb (length expression) ++ expression,
  pair_spelled a b small_a small_b,
  expression_spelled expression short,
  ap (λ (z : List ℕ). 4 ∷ z) (sym (append_assoc (uleb a) (uleb b) (uleb (length expression) ++ expression))),
)

-- two things, one after the other
two_spelled : {V : Type 0} (Spells : V → List ℕ → Type 0) (v w : V) (a b : List ℕ) → Spells v a → Spells w b → Joined Spells (v ∷ w ∷ []) (a ++ b)
two_spelled Spells v w a b s t = (a, b, s, (b, [], t, refl, sym (append-nil b)), refl)

pub location_spelled : (offset size : ℕ) (p : Parameter) → offset < 65536 → size < 1024 → IsParameterSmall p → SpellsLocationList (located_entries offset size p) (location_bytes offset size p)
location_spelled offset size p low small few =
    let split : p.split < 16 = few.split in
    let a = offset_pair_bytes offset (offset + p.split) (register_bytes p.register) in
    let b = offset_pair_bytes (offset + p.split) (offset + size) zero_bytes in
    let first = offset_pair_spelled offset (offset + p.split) (register_bytes p.register) (omega (arith, low)) (omega (arith, low, split)) (omega arith) in
    let second = offset_pair_spelled (offset + p.split) (offset + size) zero_bytes (omega (arith, low, split)) (omega (arith, low, small)) (omega arith) in
    (a ++ b, 0 ∷ [], two_spelled SpellsLocation (pair_of offset (offset + p.split), register_bytes p.register) (pair_of (offset + p.split) (offset + size), zero_bytes) a b first second, refl, sym (append_assoc a b (0 ∷ [])))

-- VIEW PAIRS

zero_is_one_byte : uleb 0 ≡ 0 ∷ []
unfolding uleb
zero_is_one_byte = refl

one_is_one_byte : uleb 1 ≡ 1 ∷ []
unfolding uleb
one_is_one_byte = refl

view_spelled : (first last : ℕ) → first < 2097152 → last < 2097152 → SpellsPair (record { first = first; last = last }) (uleb first ++ uleb last)
view_spelled first last small_first small_last = (uleb first, uleb last, uleb_spells first small_first, uleb_spells last small_last, refl)

pub views_spelled : Joined SpellsPair view_pairs views_bytes
views_spelled =
    let a : SpellsPair (record { first = 0; last = 1 }) (0 ∷ 1 ∷ []) = subst (λ (z : List ℕ). SpellsPair (record { first = 0; last = 1 }) z) (ap (λ (z : List ℕ). z ++ uleb 1) zero_is_one_byte ∙ ap (λ (z : List ℕ). 0 ∷ z) one_is_one_byte) (view_spelled 0 1 (omega arith) (omega arith)) in
    let b : SpellsPair (record { first = 1; last = 0 }) (1 ∷ 0 ∷ []) = subst (λ (z : List ℕ). SpellsPair (record { first = 1; last = 0 }) z) (ap (λ (z : List ℕ). z ++ uleb 0) one_is_one_byte ∙ ap (λ (z : List ℕ). 1 ∷ z) zero_is_one_byte) (view_spelled 1 0 (omega arith) (omega arith)) in
    two_spelled SpellsPair (record { first = 0; last = 1 }) (record { first = 1; last = 0 }) (0 ∷ 1 ∷ []) (1 ∷ 0 ∷ []) a b

-- RANGE LISTS

address_spelled : (address : ℕ) → address < 256 ^ 8 → SpellsAddress address (long address)
unfolding long
address_spelled address fits = record { size = refl; bounded = low_small 0 8 address; is = sym (number_low Eight address fits) }

pub range_spelled : (address size : ℕ) → address + size < 256 ^ 8 → SpellsEntry Ranges (range_of address size) (6 ∷ (long address ++ long (address + size)))
range_spelled address size fits = record {
  code = 6;
  operands = long address ++ long (address + size);
  known = refl;
  spelled = (long address, long (address + size), address_spelled address (omega (arith, fits)), address_spelled (address + size) fits, refl);
  whole = refl;
}

entries_spelled : (address : ℕ) (sizes : List ℕ) → address + 4 * length sizes + 16 < 256 ^ 8 → All (λ (size : ℕ). size < 16) sizes → Joined (SpellsEntry Ranges) (ranged_entries address sizes) (range_entries address sizes)
entries_spelled address [] fits few = refl
entries_spelled address (size ∷ sizes) fits few =
    let first : size < 16 = few 0 0 (omega arith) in (
      6 ∷ (long address ++ long (address + size)),
      range_entries (address + 4) sizes,
      range_spelled address size (omega (arith, fits, first)),
      entries_spelled (address + 4) sizes (omega (arith, fits)) (λ k d lt. few (suc k) d (omega arith)),
      ap (λ (z : List ℕ). 6 ∷ z) (sym (append_assoc (long address) (long (address + size)) (range_entries (address + 4) sizes))),
    )

pub ranges_spelled : (address : ℕ) (sizes : List ℕ) → address + 4 * length sizes + 16 < 256 ^ 8 → All (λ (size : ℕ). size < 16) sizes → SpellsList Ranges (ranged_entries address sizes) (range_bytes address sizes)
unfolding range_bytes
ranges_spelled address sizes fits few = (range_entries address sizes, 0 ∷ [], entries_spelled address sizes fits few, refl, refl)
