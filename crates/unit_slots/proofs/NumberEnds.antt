-- Where numbers and operands end that stand at a place.
use Rattle.std.proofs.Common.{◌≡◌, ◌≤◌, ◌<◌, ◌+◌, ◌-◌, ◌^◌, ◌++◌, ℕ, List, length, take, drop, ◌∙◌, sym, ap, subst, refl, arith}
use Rattle.std.specs.Prelude.{Err, IsErrOf, ◌↔◌}
use Rattle.std.proofs.lemmas.List.{length-append, length-drop, length-take-le, append_cancel_left, take_at, take-append-drop}
use Rattle.spelled.specs.Spelled.{HasUniqueFronts}
use Rattle.leb_codec.specs.Leb.{Uleb, SpellsUnsigned, IsShort, IsWideUnsigned}
use Rattle.leb_codec.specs.declared.read.LebFault.{LebFault}
use Rattle.leb_codec.specs.declared.read.LebFault.TheVariants.{Short, Wide}
use Rattle.leb_codec.specs.declared.read.ReadU.{ReadU}
use Rattle.leb_codec.proofs.Fronts.{leb_front, leb_not_short, uleb_not_wide}
use Rattle.expr_ops.specs.declared.table.Shape.TheVariants as shape
use Rattle.expr_ops.specs.declared.table.Width.{Width}
use Rattle.expr_ops.specs.Heads.{size_of, SpellsPart}
use Rattle.expr_ops.specs.Heads.Part.{Unsigned}
use Rattle.expr_ops.proofs.ReadLaws.{rest_and}
use Rattle.unit_slots.specs.Standing.{BeginsWith}
use Rattle.unit_slots.specs.inside.Added.{Begins, IsEndOf}

-- reading a number that is there doesn't fail
pub number_there : (bytes : List ℕ) (at : ℕ) (fault : LebFault) → Begins Uleb (drop at bytes) → (IsErrOf {T = ReadU} (Err fault) Short ↔ IsShort (drop at bytes)) → (IsErrOf {T = ReadU} (Err fault) Wide ↔ IsWideUnsigned (drop at bytes)) → ⊥
number_there bytes at Short (n, first, rest, spelled, whole) short wide = leb_not_short first rest spelled.0.0 (subst IsShort whole (short.0 refl))
number_there bytes at Wide (n, first, rest, spelled, whole) short wide = uleb_not_wide n first rest spelled (subst IsWideUnsigned whole (wide.0 refl))

-- the number that was read begins the bytes from its place on
pub number_begins : (bytes : List ℕ) (at end value : ℕ) → at ≤ end → end ≤ length bytes → SpellsUnsigned (take (end - at) (drop at bytes)) value → value < 2 ^ 64 → BeginsWith (end - at) (drop at bytes)
number_begins bytes at end value starts inside spelled fits =
    let size : length (drop at bytes) ≡ length bytes - at = length-drop at bytes in
    record {
      number = value;
      first = take (end - at) (drop at bytes);
      rest = drop (end - at) (drop at bytes);
      spelled = (spelled, fits);
      whole = sym (take-append-drop (end - at) (drop at bytes));
      sized = sym (length-take-le (end - at) (drop at bytes) (omega (arith, size, inside)));
    }

-- only one number begins some bytes
pub size_is : (size : ℕ) (bytes : List ℕ) (n : ℕ) (first rest : List ℕ) → BeginsWith size bytes → Uleb n first → bytes ≡ first ++ rest → size ≡ length first
size_is size bytes n first rest begins spelled whole =
    begins.sized ∙ ap length (leb_front begins.first first begins.rest rest begins.spelled.0.0 spelled.0.0 (sym begins.whole ∙ whole))

-- a thing ends where its bytes do
pub end_is : {V : Type 0} (Spells : V → List ℕ → Type 0) (bytes : List ℕ) (at end : ℕ) (v : V) (first rest : List ℕ) → at ≤ length bytes → Spells v first → drop at bytes ≡ first ++ rest → end ≡ at + length first → IsEndOf Spells bytes at end
end_is {V} Spells bytes at end v first rest within spells whole is =
    let size : length (drop at bytes) ≡ length bytes - at = length-drop at bytes in
    let parts : length (drop at bytes) ≡ length first + length rest = ap length whole ∙ length-append first rest in
    let long : length first ≡ end - at = omega (arith, is) in
    let own : take (end - at) (drop at bytes) ≡ first = ap (take (end - at)) whole ∙ take_at first rest (end - at) long in
    record { thing = v; starts = omega (arith, is); inside = omega (arith, is, size, parts, within); spelled = subst (Spells v) (sym own) spells }

-- and the bytes behind it are the rest
pub rest_is : {V : Type 0} (Spells : V → List ℕ → Type 0) (bytes : List ℕ) (at end : ℕ) (v : V) (first rest : List ℕ) → HasUniqueFronts Spells → IsEndOf Spells bytes at end → Spells v first → drop at bytes ≡ first ++ rest → drop end bytes ≡ rest
rest_is {V} Spells bytes at end v first rest once there spells whole =
    let split : drop at bytes ≡ take (end - at) (drop at bytes) ++ drop end bytes = rest_and bytes at end there.starts in
    let same : first ≡ take (end - at) (drop at bytes) = (once v there.thing first (take (end - at) (drop at bytes)) rest (drop end bytes) spells there.spelled (sym whole ∙ split)).0 in
    sym (append_cancel_left first rest (drop end bytes) (sym whole ∙ split ∙ ap (λ (z : List ℕ). z ++ drop end bytes) (sym same)))

-- an operand of a fixed size
pub fixed_end : (w : Width) (bytes : List ℕ) (at : ℕ) → at ≤ length bytes → Begins (SpellsPart (shape.Unsigned w)) (drop at bytes) → IsEndOf (SpellsPart (shape.Unsigned w)) bytes at (at + size_of w)
fixed_end w bytes at within (part, first, rest, (size, is), whole) =
    end_is (SpellsPart (shape.Unsigned w)) bytes at (at + size_of w) part first rest within (size, is) whole (ap (λ (n : ℕ). at + n) (sym size))

-- and one that is a number in ULEB128
pub uleb_end : (bytes : List ℕ) (at end value : ℕ) → at ≤ end → end ≤ length bytes → SpellsUnsigned (take (end - at) (drop at bytes)) value → value < 2 ^ 64 → IsEndOf (SpellsPart shape.Uleb) bytes at end
uleb_end bytes at end value starts inside spelled fits = record { thing = Unsigned value; starts = starts; inside = inside; spelled = (value, (spelled, fits), refl) }

pub uleb_begins : (bytes : List ℕ) → Begins (SpellsPart shape.Uleb) bytes → Begins Uleb bytes
uleb_begins bytes (part, first, rest, (n, spelled, is), whole) = (n, first, rest, spelled, whole)
