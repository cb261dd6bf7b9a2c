-- The number with which bytes begin is the one that is read there.
use Rattle.std.proofs.Common.{◌≡◌, ◌≤◌, ◌<◌, ◌+◌, ◌-◌, ◌++◌, ◌∙◌, ℕ, List, length, take, drop, sym, ap, subst, refl, arith}
use Rattle.std.specs.Prelude.{◌↔◌, ℤ, Result, Err, IsErrOf, IsTrue, nat_lt}
use Rattle.std.proofs.lemmas.Bool.{ltb-true, lt-ltb}
use Rattle.std.proofs.lemmas.List.{take-append-drop, length-take-le, length-drop}
use Rattle.spelled.specs.Spelled.{HasUniqueFronts}
use Rattle.leb_codec.specs.declared.read.LebFault.{LebFault}
use Rattle.leb_codec.specs.declared.read.LebFault.TheVariants.{Short, Wide}
use Rattle.leb_codec.specs.declared.read.ReadU.{ReadU}
use Rattle.leb_codec.specs.declared.signed.ReadS.{ReadS}
use Rattle.leb_codec.specs.Leb.{Uleb, Sleb, IsShort, IsWideUnsigned, IsWideSigned, least_unsigned_len, least_signed_len}
use Rattle.leb_codec.proofs.Fronts.{unique_u, unique_s, leb_not_short, uleb_not_wide, sleb_not_wide}
use Rattle.tidy_numbers.specs.Fronts.{BeginsLong, BeginsLongSigned}

-- what was read from one place of the bytes to another
pub record IsReadTo {V : Type 0} (Spells : V → List ℕ → Type 0) (bytes : List ℕ) (at end : ℕ) (v : V) : Type 0 where
  pub order : at ≤ end
  pub inside : end ≤ length bytes
  pub spelled : Spells v (take (end - at) (drop at bytes))

size : {V : Type 0} (S : V → List ℕ → Type 0) (bytes : List ℕ) (at end : ℕ) (v : V) → IsReadTo S bytes at end v → length (take (end - at) (drop at bytes)) ≡ end - at
size S bytes at end v r =
    let order : at ≤ end = r.order in
    let inside : end ≤ length bytes = r.inside in
    length-take-le (end - at) (drop at bytes) (omega (arith, length-drop at bytes))

-- it is what stands there
pub same_front : {V : Type 0} (S : V → List ℕ → Type 0) → HasUniqueFronts S → (bytes : List ℕ) (at end : ℕ) (v : V) → IsReadTo S bytes at end v → (n : V) (first rest : List ℕ) → S n first → drop at bytes ≡ first ++ rest → (end ≡ at + length first) × (v ≡ n)
same_front S u bytes at end v r n first rest s whole =
    let one = u v n (take (end - at) (drop at bytes)) first (drop (end - at) (drop at bytes)) rest r.spelled s (take-append-drop (end - at) (drop at bytes) ∙ whole) in
    let order : at ≤ end = r.order in
    let long : length first ≡ end - at = sym (ap length one.0) ∙ size S bytes at end v r in
    (omega (arith, order, long), one.1)

-- ULEB128

pub unsigned_ends : (bytes : List ℕ) (at end v : ℕ) → IsReadTo Uleb bytes at end v → (n : ℕ) (first rest : List ℕ) → Uleb n first → drop at bytes ≡ first ++ rest → end ≡ at + length first
unsigned_ends bytes at end v r n first rest s whole = (same_front Uleb unique_u bytes at end v r n first rest s whole).0

pub unsigned_long : (bytes : List ℕ) (at end v len : ℕ) → IsReadTo Uleb bytes at end v → len ≡ least_unsigned_len v → IsTrue (nat_lt len (end - at)) ↔ BeginsLong (drop at bytes)
unsigned_long bytes at end v len r least = (
  λ longer. record {
    number = v;
    first = take (end - at) (drop at bytes);
    rest = drop (end - at) (drop at bytes);
    spelled = r.spelled;
    whole = sym (take-append-drop (end - at) (drop at bytes));
    long = let all = size Uleb bytes at end v r in let more = ltb-true len (end - at) longer in omega (arith, all, more, least);
  },
  λ begins.
      let one = same_front Uleb unique_u bytes at end v r begins.number begins.first begins.rest begins.spelled begins.whole in
      let long : least_unsigned_len begins.number < length begins.first = begins.long in
      let same : least_unsigned_len v ≡ least_unsigned_len begins.number = ap least_unsigned_len one.1 in
      let end_is : end ≡ at + length begins.first = one.0 in
      lt-ltb len (end - at) (omega (arith, long, same, end_is, least)),
)

abbrev unsigned_fault : LebFault → Result ReadU LebFault
unsigned_fault e = Err e

pub unsigned_read : (bytes : List ℕ) (n : ℕ) (first rest : List ℕ) → Uleb n first → bytes ≡ first ++ rest → (e : LebFault) → (IsErrOf (unsigned_fault e) Short ↔ IsShort bytes) → (IsErrOf (unsigned_fault e) Wide ↔ IsWideUnsigned bytes) → ⊥
unsigned_read bytes n first rest s whole Short short wide = leb_not_short first rest s.0.0 (subst (λ (z : List ℕ). IsShort z) whole (short.0 refl))
unsigned_read bytes n first rest s whole Wide short wide = uleb_not_wide n first rest s (subst (λ (z : List ℕ). IsWideUnsigned z) whole (wide.0 refl))

-- SLEB128

pub signed_ends : (bytes : List ℕ) (at end : ℕ) (v : ℤ) → IsReadTo Sleb bytes at end v → (n : ℤ) (first rest : List ℕ) → Sleb n first → drop at bytes ≡ first ++ rest → end ≡ at + length first
signed_ends bytes at end v r n first rest s whole = (same_front Sleb unique_s bytes at end v r n first rest s whole).0

pub signed_long : (bytes : List ℕ) (at end : ℕ) (v : ℤ) (len : ℕ) → IsReadTo Sleb bytes at end v → len ≡ least_signed_len v → IsTrue (nat_lt len (end - at)) ↔ BeginsLongSigned (drop at bytes)
signed_long bytes at end v len r least = (
  λ longer. record {
    number = v;
    first = take (end - at) (drop at bytes);
    rest = drop (end - at) (drop at bytes);
    spelled = r.spelled;
    whole = sym (take-append-drop (end - at) (drop at bytes));
    long = let all = size Sleb bytes at end v r in let more = ltb-true len (end - at) longer in omega (arith, all, more, least);
  },
  λ begins.
      let one = same_front Sleb unique_s bytes at end v r begins.number begins.first begins.rest begins.spelled begins.whole in
      let long : least_signed_len begins.number < length begins.first = begins.long in
      let same : least_signed_len v ≡ least_signed_len begins.number = ap least_signed_len one.1 in
      let end_is : end ≡ at + length begins.first = one.0 in
      lt-ltb len (end - at) (omega (arith, long, same, end_is, least)),
)

abbrev signed_fault : LebFault → Result ReadS LebFault
signed_fault e = Err e

pub signed_read : (bytes : List ℕ) (n : ℤ) (first rest : List ℕ) → Sleb n first → bytes ≡ first ++ rest → (e : LebFault) → (IsErrOf (signed_fault e) Short ↔ IsShort bytes) → (IsErrOf (signed_fault e) Wide ↔ IsWideSigned bytes) → ⊥
signed_read bytes n first rest s whole Short short wide = leb_not_short first rest s.0.0 (subst (λ (z : List ℕ). IsShort z) whole (short.0 refl))
signed_read bytes n first rest s whole Wide short wide = sleb_not_wide n first rest s (subst (λ (z : List ℕ). IsWideSigned z) whole (wide.0 refl))
