-- Numbers in ULEB128 that stand one behind the other.
use Rattle.std.proofs.Common.{◌≡◌, ◌≤◌, ◌<◌, ◌+◌, ◌-◌, ◌^◌, ◌++◌, ◌∙◌, ℕ, zero, suc, List, length, take, drop, refl, sym, ap, subst, arith}
use Rattle.std.specs.Prelude.{◌↔◌, Result, Err, IsErrOf}
use Rattle.std.proofs.Math.Seq.{take-append_seam}
use Rattle.std.proofs.lemmas.List.{length-append, length-drop, length-take-le, take-append-drop}
use Rattle.leb_codec.specs.Leb.{Uleb, SpellsUnsigned, IsShort, IsWideUnsigned}
use Rattle.leb_codec.specs.declared.read.LebFault.{LebFault}
use Rattle.leb_codec.specs.declared.read.LebFault.TheVariants.{Short, Wide}
use Rattle.leb_codec.specs.declared.read.ReadU.{ReadU}
use Rattle.leb_codec.proofs.Fronts.{unique_u}
use Rattle.entry_arena.specs.Trees.{SpellsBetween}
use Rattle.entry_read.proofs.ColumnPlaces.{code_found}
use Rattle.tidy_lists.specs.inside.Lengths.{AreNumbersUpTo}

-- bytes that stand at a place lie inside the others
pub inside_from : (bytes : List ℕ) (at : ℕ) (first rest : List ℕ) → 0 < length first → drop at bytes ≡ first ++ rest → at + length first ≤ length bytes
inside_from bytes at first rest some e =
    let whole : length bytes - at ≡ length first + length rest = sym (length-drop at bytes) ∙ ap length e ∙ length-append first rest in
    omega (arith, some, whole)

-- a number that stands at a place, as one between places
pub number_between : (bytes : List ℕ) (at n : ℕ) (first rest : List ℕ) → Uleb n first → drop at bytes ≡ first ++ rest → SpellsBetween (Uleb n) bytes at (at + length first)
number_between bytes at n first rest spelled e =
    let back : at + length first - at ≡ length first = omega arith in
    let here : take (at + length first - at) (drop at bytes) ≡ first = ap (λ (k : ℕ). take k (drop at bytes)) back ∙ ap (take (length first)) e ∙ take-append_seam first rest in
    record { order = omega arith; inside = inside_from bytes at first rest spelled.0.0.filled e; spelled = subst (Uleb n) (sym here) spelled }

-- the number that is read there ends where it does
pub number_end : (bytes : List ℕ) (at n : ℕ) (first rest : List ℕ) → Uleb n first → drop at bytes ≡ first ++ rest → (end value : ℕ) → at ≤ end → end ≤ length bytes → SpellsUnsigned (take (end - at) (drop at bytes)) value → value < 2 ^ 64 → end ≡ at + length first
number_end bytes at n first rest spelled e end value order inside read fits =
    let whole : first ++ rest ≡ take (end - at) (drop at bytes) ++ drop (end - at) (drop at bytes) = sym e ∙ sym (take-append-drop (end - at) (drop at bytes)) in
    let same : first ≡ take (end - at) (drop at bytes) = (unique_u n value first (take (end - at) (drop at bytes)) rest (drop (end - at) (drop at bytes)) spelled (read, fits) whole).0 in
    let left : length (drop at bytes) ≡ length bytes - at = length-drop at bytes in
    let long : length (take (end - at) (drop at bytes)) ≡ end - at = length-take-le (end - at) (drop at bytes) (omega (arith, left, inside)) in
    let size : length first ≡ end - at = ap length same ∙ long in
    omega (arith, size, order)

abbrev failed : LebFault → Result ReadU LebFault
failed fault = Err fault

-- and one is read there
pub number_found : (bytes : List ℕ) (at n : ℕ) (first rest : List ℕ) → Uleb n first → drop at bytes ≡ first ++ rest → (fault : LebFault) → (IsErrOf (failed fault) Short ↔ IsShort (drop at bytes)) → (IsErrOf (failed fault) Wide ↔ IsWideUnsigned (drop at bytes)) → ⊥
number_found bytes at n first rest spelled e fault short wide = code_found bytes n at (at + length first) (number_between bytes at n first rest spelled e) fault short wide

-- where numbers are left there is a next one
pub one_left : (bytes : List ℕ) (place n counter count end : ℕ) → counter + n ≡ count → counter < count → AreNumbersUpTo bytes place n end → (m : ℕ) × (n ≡ suc m)
one_left bytes place zero counter count end sum less numbers = absurd (omega arith)
one_left bytes place (suc m) counter count end sum less numbers = (m, refl)

-- each of them has a byte
pub numbers_size : (bytes : List ℕ) (at count end : ℕ) → AreNumbersUpTo bytes at count end → at + count ≤ end
numbers_size bytes at zero end e = omega (arith, e)
numbers_size bytes at (suc count) end (n, first, rest, spelled, e, more) =
    let left = numbers_size bytes (at + length first) count end more in
    omega (arith, left, spelled.0.0.filled)
