-- How many bytes each value of a unit takes that its column doesn't tell, from its new numbers and the ends of its expressions.
use Rattle.std.proofs.Common.{◌≡◌, ◌≤◌, ◌<◌, ◌+◌, ◌-◌, ◌*◌, ◌^◌, ℕ, zero, suc, List, [], ◌∷◌, length, true, get_or, ◌∙◌, ap, refl, arith}
use Rattle.std.specs.List.{All}
use Rattle.leb_codec.specs.Leb.{least_unsigned_len}
use Rattle.leb_codec.proofs.Lens.{unsigned_lens}
use Rattle.dw_base.specs.declared.fault.Span.{Span}
use Rattle.form_codec.specs.declared.value.Value.{Value}
use Rattle.form_codec.specs.Forms.{Meaning}
use Rattle.form_codec.specs.Forms.Meaning.{InUnit}
use Rattle.form_codec.specs.Values.{meant_in}
use Rattle.entry_arena.specs.Arena.{Arena, value_at}
use Rattle.entry_read.specs.Expressions.{IsExprAt}
use Rattle.entry_read.specs.Slots.{is_local}
use Rattle.unit_write.specs.Lens.{IsLocalAt, AreLensFor}
use Rattle.unit_write.specs.NewExpressions.{begin_of, lens_of, new_len, new_lens, AreEndsFor}
use Rattle.unit_write.specs.Moved.{NewValues, lens_anew}
use Rattle.unit_write.proofs.EndLaws.{lens_len, len_at}
use Rattle.unit_write.proofs.ValueLaws.{five_bytes}

-- there is one for each value
new_count : (section : List ℕ) (values : List Value) (numbers mades : List ℕ) → length numbers ≡ length values → length mades ≡ length values → length (new_lens section values numbers mades) ≡ length values
new_count section [] numbers mades p q = refl
new_count section (v ∷ vs) [] mades p q = absurd (omega arith)
new_count section (v ∷ vs) (n ∷ ns) [] p q = absurd (omega arith)
new_count section (v ∷ vs) (n ∷ ns) (made ∷ mades) p q = ap suc (new_count section vs ns mades (omega arith) (omega arith))

-- that of the value with a number
new_at : (section : List ℕ) (values : List Value) (numbers mades : List ℕ) (k : ℕ) → length numbers ≡ length values → length mades ≡ length values → k < length values → get_or (new_lens section values numbers mades) k 0 ≡ new_len (meant_in section (value_at values k)) (get_or numbers k 0) (get_or mades k 0)
new_at section [] numbers mades k p q lt = absurd (omega arith)
new_at section (v ∷ vs) [] mades k p q lt = absurd (omega arith)
new_at section (v ∷ vs) (n ∷ ns) [] k p q lt = absurd (omega arith)
new_at section (v ∷ vs) (n ∷ ns) (made ∷ mades) zero p q lt = refl
new_at section (v ∷ vs) (n ∷ ns) (made ∷ mades) (suc k) p q lt = new_at section vs ns mades k (omega arith) (omega arith) (omega arith)

-- that of a reference within the unit
new_local : (m : Meaning) (n made : ℕ) → is_local m ≡ true → new_len m n made ≡ least_unsigned_len n
new_local (InUnit k) n made local = refl
new_local m n made local = absurd (cc (local))

module _ (f : Arena) (anew : NewValues) (held : length anew.held ≡ length f.values) (ends : length anew.ends ≡ length f.values) where
  lens_each : length (lens_of anew.ends) ≡ length f.values
  lens_each = lens_len 0 anew.ends ∙ ends

  pub anew_len : length (lens_anew f anew) ≡ length f.values
  anew_len = new_count f.section f.values anew.held (lens_of anew.ends) held lens_each

  pub anew_at : (k : ℕ) → k < length f.values → get_or (lens_anew f anew) k 0 ≡ new_len (meant_in f.section (value_at f.values k)) (get_or anew.held k 0) (get_or (lens_of anew.ends) k 0)
  anew_at k lt = new_at f.section f.values anew.held (lens_of anew.ends) k held lens_each lt

  anew_local : (k : ℕ) → k < length f.values → IsLocalAt f k → get_or (lens_anew f anew) k 0 ≡ least_unsigned_len (get_or anew.held k 0)
  anew_local k lt local = anew_at k lt ∙ new_local (meant_in f.section (value_at f.values k)) (get_or anew.held k 0) (get_or (lens_of anew.ends) k 0) local

  -- an expression has its length and its bytes
  anew_expr : (k : ℕ) (span : Span) → IsExprAt f k span → get_or (lens_anew f anew) k 0 ≡ least_unsigned_len (get_or (lens_of anew.ends) k 0) + get_or (lens_of anew.ends) k 0
  anew_expr k span is = anew_at k is.inside ∙ ap (λ (v : Value). new_len (meant_in f.section v) (get_or anew.held k 0) (get_or (lens_of anew.ends) k 0)) is.is

  -- so a unit can be placed with them
  pub lens_fit : AreEndsFor f anew.ends → length f.section < 2 ^ 63 → All (λ (n : ℕ). n < 2 ^ 32) anew.held → AreLensFor f (lens_anew f anew)
  lens_fit h small narrow = record {
    each = anew_len;
    few = λ k span is.
        let made : ℕ = get_or (lens_of anew.ends) k 0 in
        let len : made ≡ get_or anew.ends k 0 - begin_of anew.ends k = len_at anew.ends k in
        let most : get_or anew.ends k 0 ≤ 3 * length f.section = h.rise.inside k is.inside in
        let ten : least_unsigned_len made ≤ 10 = (unsigned_lens.enough made 10).0 (record { some = omega arith; below = omega arith }) in
        let few : get_or anew.ends k 0 ≤ begin_of anew.ends k + 3 * span.len = h.few k span is in
        let same : get_or (lens_anew f anew) k 0 ≡ least_unsigned_len made + made = anew_expr k span is in
        omega arith;
    narrow = λ k lt local.
        let same : get_or (lens_anew f anew) k 0 ≡ least_unsigned_len (get_or anew.held k 0) = anew_local k lt local in
        let five : least_unsigned_len (get_or anew.held k 0) ≤ 5 = five_bytes (get_or anew.held k 0) (narrow k 0 (omega arith)) in
        omega arith;
  }
