-- Sums of the bytes of values in a form.
use Rattle.std.proofs.Common.{◌≡◌, ◌≢◌, ◌≤◌, ◌+◌, ℕ, List, [], ◌∷◌, ◌++◌, length, ◌∙◌, sym, ap, subst, arith, inl, inr}
use Rattle.std.specs.Prelude.{ℤ, ◌⊎◌, false}
use Rattle.std.proofs.lemmas.Bool.{cases_lt}
use Rattle.spelled.specs.Spelled.{AreBytes}
use Rattle.form_codec.specs.declared.form.Form.{Form}
use Rattle.form_codec.specs.declared.form.Shape.{Shape}
use Rattle.form_codec.specs.declared.value.Value.{Value}
use Rattle.form_codec.specs.Forms.{Meaning, SpellsShape, SpellsValue, shape_of, counted}
use Rattle.form_codec.specs.Values.{meant_in}
use Rattle.form_codec.specs.Written.{HasNoEncoding, IsShapeSize}
use Rattle.form_codec.proofs.Codes.{code_once}
use Rattle.form_codec.specs.Forms.Meaning.{Whole}
use Rattle.form_codec.proofs.FormLaws.{any_constant, constant_spelled}
use Rattle.abbrev_tables.specs.Tables.{implicit_const}
use Rattle.column_forms.specs.declared.tally.Candidate.{Candidate}
use Rattle.form_codec.specs.Columns.{EntriesWithin}
use Rattle.column_forms.specs.Tallies.{IsSummed, IsShaped, IsHere, HasOneConstant}
use Rattle.column_forms.specs.inside.Tallies.{CanSpell, IsValueSize}

pub is_or_not : (code : ℕ) → (code ≡ implicit_const) ⊎ (code ≢ implicit_const)
is_or_not code = elim (cases_lt code 33) [
  | inl less ↦ inr (λ e. absurd (omega arith))
  | inr more ↦ elim (cases_lt 33 code) [ inl less ↦ inr (λ e. absurd (omega arith)) | inr le ↦ inl (omega arith) ]
]

whole_once : (a b : ℤ) → Whole a ≡ Whole b → a ≡ b
whole_once a b e = cc

-- two constants with which a form spells one value: they are the same, or make no difference
same_constant : (name code : ℕ) (c d : ℤ) (m : Meaning) (a b : List ℕ) → SpellsValue name code c m a → SpellsValue name code d m b → SpellsValue name code c m b
same_constant name code c d m a b s t = elim (is_or_not code) [
  | inl is ↦
      let p = constant_spelled name c m a (subst (λ (z : ℕ). SpellsValue name z c m a) is s) in
      let q = constant_spelled name d m b (subst (λ (z : ℕ). SpellsValue name z d m b) is t) in
      let e : d ≡ c = whole_once d c (sym q.2 ∙ p.2) in
      subst (λ (z : ℤ). SpellsValue name code z m b) e t
  | inr other ↦ any_constant name code d c m b other t
]

-- a form spells a value with another constant, where that is the same if the form is implicit_const
pub with_constant : (name code : ℕ) (c d : ℤ) (m : Meaning) (bytes : List ℕ) → (code ≡ implicit_const → c ≡ d) → SpellsValue name code c m bytes → SpellsValue name code d m bytes
with_constant name code c d m bytes same s = elim (is_or_not code) [
  | inl is ↦ subst (λ (z : ℤ). SpellsValue name code z m bytes) (same is) s
  | inr other ↦ any_constant name code c d m bytes other s
]

-- a form spells a value with a constant where its shape does
shape_spelled : (name : ℕ) (constant : ℤ) (c : Candidate) (m : Meaning) (bytes : List ℕ) → IsShaped name constant c → AreBytes bytes → SpellsShape c.shape m bytes → SpellsValue name c.form constant m bytes
shape_spelled name constant c m bytes (form, known, written, shape) small s = record {
  form = form;
  known = known;
  small = small;
  spelled = subst (λ (z : Shape). SpellsShape z m bytes) shape s;
}

spelled_shape : (name : ℕ) (constant : ℤ) (c : Candidate) (m : Meaning) (bytes : List ℕ) → IsShaped name constant c → SpellsValue name c.form constant m bytes → SpellsShape c.shape m bytes
spelled_shape name constant c m bytes (form, known, written, shape) s =
    let same : s.form ≡ form = code_once s.form form (s.known ∙ sym known) in
    subst (λ (z : Shape). SpellsShape z m bytes) (sym shape) (subst (λ (z : Form). SpellsShape (shape_of z name constant) m bytes) same s.spelled)

-- no bytes of its shape: the form doesn't spell the value
pub shaped_none : (name : ℕ) (constant : ℤ) (c : Candidate) (v : Value) (section : List ℕ) → IsShaped name constant c → HasNoEncoding c.shape v → IsHere section v → CanSpell name c.form constant (meant_in section v) → ⊥
shaped_none name constant c v section shaped none here can =
    none section can.bytes here.value can.spelled.small (spelled_shape name constant c (meant_in section v) can.bytes shaped can.spelled)

-- the size in its shape is the one in the form
pub shaped_size : (name : ℕ) (constant : ℤ) (c : Candidate) (v : Value) (size : ℕ) (section : List ℕ) → IsShaped name constant c → IsShapeSize c.shape v size → IsHere section v → IsValueSize name c.form constant (meant_in section v) size
shaped_size name constant c v size section shaped sized here =
    let m : Meaning = meant_in section v in
    let s = sized.spelled section here.value here.fits in
    let spelled : SpellsValue name c.form constant m s.0 = shape_spelled name constant c m s.0 shaped s.1 s.2 in
    record {
      spells = record { choice = (shaped.0, shaped.1, shaped.2); bytes = s.0; spelled = spelled };
      exact = s.3;
      least = λ other others t. sized.least section others here.value here.fits (spelled_shape name constant c m others shaped (same_constant name c.form constant other m s.0 others spelled t));
    }

entries_push : (name code : ℕ) (c : ℤ) (ms : List Meaning) (m : Meaning) (a : ℕ) (bytes : List ℕ) → EntriesWithin name code c ms a → SpellsValue name code c m bytes → EntriesWithin name code c (ms ++ m ∷ []) (a + counted m (length bytes))
entries_push name code c [] m a bytes w s = (bytes, 0, s, tt, omega arith)
entries_push name code c (x ∷ xs) m a bytes (first, rest, t, w, le) s = (first, rest + counted m (length bytes), t, entries_push name code c xs m rest bytes w s, omega arith)

-- the last value's part of a budget
record IsSplit (name code : ℕ) (c : ℤ) (ms : List Meaning) (m : Meaning) (n : ℕ) : Type 0 where
  before : ℕ
  bytes : List ℕ
  within : EntriesWithin name code c ms before
  spelled : SpellsValue name code c m bytes
  cost : before + counted m (length bytes) ≤ n

entries_split : (name code : ℕ) (c : ℤ) (ms : List Meaning) (m : Meaning) (n : ℕ) → EntriesWithin name code c (ms ++ m ∷ []) n → IsSplit name code c ms m n
entries_split name code c [] m n (bytes, rest, s, w, le) = record { before = 0; bytes = bytes; within = tt; spelled = s; cost = omega arith }
entries_split name code c (x ∷ xs) m n (first, rest, t, w, le) =
    let s = entries_split name code c xs m rest w in
    record {
      before = counted x (length first) + s.before;
      bytes = s.bytes;
      within = (first, s.before, t, s.within, omega arith);
      spelled = s.spelled;
      cost = omega (arith, s.cost);
    }

pub entries_before : (name code : ℕ) (c : ℤ) (ms : List Meaning) (m : Meaning) (n : ℕ) → EntriesWithin name code c (ms ++ m ∷ []) n → (k : ℕ) × EntriesWithin name code c ms k
entries_before name code c ms m n w = let s = entries_split name code c ms m n w in (s.before, s.within)

pub summed_more : (name : ℕ) (c : ℤ) (ms : List Meaning) (m : Meaning) (old : Candidate) (size : ℕ) → IsValueSize name old.form c m size → IsSummed name c ms old → IsSummed name c (ms ++ m ∷ []) (record { form = old.form; shape = old.shape; size = old.size + size; admits = old.admits })
summed_more name c ms m old size v s = record {
  sized = λ is.
      let e = s.sized is in
      record {
        choice = e.choice;
        enough = subst (λ (z : ℕ). EntriesWithin name old.form c (ms ++ m ∷ []) z) (ap (λ z. old.size + z) (sym v.exact)) (entries_push name old.form c ms m old.size v.spells.bytes e.enough v.spells.spelled);
        least = λ other n w.
            let p = entries_split name old.form other ms m n w in
            let a : old.size ≤ p.before = e.least other p.before p.within in
            let b : size ≤ counted m (length p.bytes) = v.least other p.bytes p.spelled in
            omega (arith, p.cost);
      };
  out = λ never other n choice w.
      let p = entries_split name old.form other ms m n w in
      s.out never other p.before choice p.within;
}

pub summed_out : (name : ℕ) (c : ℤ) (ms : List Meaning) (m : Meaning) (old : Candidate) → HasOneConstant name c ms → (CanSpell name old.form c m → ⊥) → IsSummed name c (ms ++ m ∷ []) (record { form = old.form; shape = old.shape; size = old.size; admits = false })
summed_out name c ms m old one none = record {
  sized = λ is. absurd (cc (is));
  out = λ never other n choice w.
      let p = entries_split name old.form other ms m n w in
      none (record { choice = choice; bytes = p.bytes; spelled = with_constant name old.form other c m p.bytes (λ is. one other p.before (subst (λ (z : ℕ). EntriesWithin name z other ms p.before) is p.within)) p.spelled });
}

-- a form that doesn't spell all earlier values doesn't spell all with one more
pub summed_still : (name : ℕ) (c : ℤ) (ms : List Meaning) (m : Meaning) (old : Candidate) → old.admits ≡ false → IsSummed name c ms old → IsSummed name c (ms ++ m ∷ []) old
summed_still name c ms m old never s = record {
  sized = λ is. absurd (cc (is, never));
  out = λ same other n choice w.
      let p = entries_split name old.form other ms m n w in
      s.out same other p.before choice p.within;
}
