-- What is written of a value in a form, against the forms' own words.
use Rattle.std.proofs.Common.{◌≡◌, ◌≢◌, ◌≤◌, ◌<◌, ◌-◌, ◌*◌, ◌^◌, ℕ, List, [], ◌∷◌, ◌++◌, length, take, drop, leb, true, false, ◌∙◌, sym, ap, refl, subst, arith}
use Rattle.std.proofs.lemmas.Bool.{cond_both}
use Rattle.std.specs.Prelude.{ℤ, pos, FitsSigned, Option, Some, None, MatchOption}
use Rattle.std.specs.Int.{w64}
use Rattle.dw_base.specs.declared.fault.Span.{Span}
use Rattle.spelled.specs.Spelled.{AreBytes}
use Rattle.leb_codec.specs.Leb.{least_unsigned_len, least_signed_len}
use Rattle.leb_codec.proofs.SpellingLaws.{unsigned_spellings, signed_spellings}
use Rattle.form_codec.specs.declared.form.Form.{Form}
use Rattle.form_codec.specs.declared.form.Form.TheVariants as form
use Rattle.form_codec.specs.declared.form.Content.{Content}
use Rattle.form_codec.specs.declared.form.Content.TheVariants as content
use Rattle.form_codec.specs.declared.form.Role.{Role}
use Rattle.form_codec.specs.declared.form.Role.TheVariants as role
use Rattle.form_codec.specs.declared.form.Shape.{Shape}
use Rattle.form_codec.specs.declared.form.Shape.TheVariants.{Constant, Present, Number, Uleb as ByUleb, Sleb as BySleb, Counted, UlebCounted, Sixteen, ZeroEnded}
use Rattle.form_codec.specs.declared.form.Width.{Width}
use Rattle.form_codec.specs.declared.form.Width.TheVariants.{One, Eight}
use Rattle.form_codec.specs.declared.value.Value.{Value}
use Rattle.form_codec.specs.declared.value.Value.TheVariants as value
use Rattle.form_codec.specs.declared.encoding.Encoding.{Encoding}
use Rattle.form_codec.specs.declared.encoding.Encoding.TheVariants as encoding
use Rattle.fixed_width.specs.Numbers.{number}
use Rattle.form_codec.specs.Forms.{Meaning, SpellsShape, SpellsValue, SpellsShortest, Admits, HasNoZero, code_of, shape_of, size_of, data_of, in_role, of_content, is_written, counted}
use Rattle.form_codec.specs.Forms.Meaning.{Whole, Bits, Text, Expression, InUnit}
use Rattle.form_codec.specs.Values.{meant_in, bytes_in, LiesIn, IsPlaced, IsClear, IsValueIn, IsReadValue}
use Rattle.form_codec.specs.declared.value.ReadValue.{ReadValue}
use Rattle.form_codec.specs.Written.{low_bytes, HasNoEncoding, HasConstant, IsShapeSize}
use Rattle.form_codec.specs.inside.Written.{Encodes, IsEncoding, HasNoForm, IsFormEncoding, HasNoCode, IsCodeEncoding, SpanLies}
use Rattle.form_codec.proofs.Codes.{code_once}

pub match_map : {P Q : Type 0} {R S : Encoding → Type 0} (o : Option Encoding) → (P → Q) → ((e : Encoding) → R e → S e) → MatchOption o P R → MatchOption o Q S
match_map None f g h = f h
match_map (Some e) f g h = g e h

-- only implicit_const's spelling depends on the constant
pub spelled_by : (name : ℕ) (f : Form) (c d : ℤ) (meaning : Meaning) (bytes : List ℕ) → ((v : ℤ) → FitsSigned w64 v → meaning ≡ Whole v → v ≡ d) → SpellsShape (shape_of f name c) meaning bytes → SpellsShape (shape_of f name d) meaning bytes
spelled_by name form.ImplicitConst c d meaning bytes same p =
    let e : c ≡ d = same c p.1 p.2 in
    (p.0, subst (λ (z : ℤ). FitsSigned w64 z) e p.1, p.2 ∙ ap (λ z. Whole z) e)
spelled_by name f c d meaning bytes same p = p

-- the form of a code other than implicit_const's takes no constant
pub any_constant : (name code : ℕ) (c d : ℤ) (meaning : Meaning) (bytes : List ℕ) → code ≢ code_of form.ImplicitConst → SpellsValue name code c meaning bytes → SpellsValue name code d meaning bytes
any_constant name code c d meaning bytes other s = record {
  form = s.form;
  known = s.known;
  small = s.small;
  spelled = spelled_else s.form c d meaning bytes (λ is. other (sym s.known ∙ ap (λ z. code_of z) is)) s.spelled;
}
  where
    spelled_else : (f : Form) (c d : ℤ) (meaning : Meaning) (bytes : List ℕ) → (f ≡ form.ImplicitConst → ⊥) → SpellsShape (shape_of f name c) meaning bytes → SpellsShape (shape_of f name d) meaning bytes
    spelled_else form.ImplicitConst c d meaning bytes never p = absurd (never refl)
    spelled_else f c d meaning bytes never p = p

-- implicit_const spells its constant by nothing
pub constant_spelled : (name : ℕ) (c : ℤ) (meaning : Meaning) (bytes : List ℕ) → SpellsValue name (code_of form.ImplicitConst) c meaning bytes → (bytes ≡ []) × FitsSigned w64 c × (meaning ≡ Whole c)
constant_spelled name c meaning bytes s =
    let same : s.form ≡ form.ImplicitConst = code_once s.form form.ImplicitConst s.known in
    subst (λ (z : Form). SpellsShape (shape_of z name c) meaning bytes) same s.spelled

pub spells_constant : (name : ℕ) (c : ℤ) → FitsSigned w64 c → SpellsValue name (code_of form.ImplicitConst) c (Whole c) []
spells_constant name c fits = record {
  form = form.ImplicitConst;
  known = refl;
  small = λ k lt. absurd (omega arith);
  spelled = (refl, fits, refl);
}

pub constant_held : (name : ℕ) (f : Form) (c : ℤ) → FitsSigned w64 c → HasConstant (shape_of f name c)
constant_held name form.ImplicitConst c fits = fits
constant_held name f c fits = tt

pub form_encoding : (name : ℕ) (f : Form) (v : Value) (c : ℤ) → ((section : List ℕ) (w : ℤ) → FitsSigned w64 w → meant_in section v ≡ Whole w → w ≡ c) → (e : Encoding) → IsEncoding (shape_of f name c) v e → IsFormEncoding name f v e
form_encoding name f v c same e enc = record {
  constant = c;
  shape = enc;
  shortest = λ section bytes others other i written s.
      enc.shortest section bytes others i written (spelled_by name f other c (meant_in section v) others (same section) s);
}

pub form_none : (name : ℕ) (f : Form) (v : Value) (c : ℤ) → ((section : List ℕ) (w : ℤ) → FitsSigned w64 w → meant_in section v ≡ Whole w → w ≡ c) → HasNoEncoding (shape_of f name c) v → HasNoForm name f v
form_none name f v c same none section bytes other i small s = none section bytes i small (spelled_by name f other c (meant_in section v) bytes (same section) s)

-- something is written
pub encodes_some : (section : List ℕ) (e : Encoding) → (bytes : List ℕ) × Encodes section e bytes
encodes_some section encoding.Nothing = ([], refl)
encodes_some section (encoding.Fixed w n) = (low_bytes w n, refl)
encodes_some section (encoding.Uleb n) =
    let b = unsigned_spellings.each_len n (least_unsigned_len n) (omega arith) in
    (b.0, (b.1, b.2))
encodes_some section (encoding.Sleb n) =
    let b = signed_spellings.each_len n (least_signed_len n) (omega arith) in
    (b.0, (b.1, b.2))
encodes_some section (encoding.Counted w span) = (low_bytes w span.len ++ bytes_in section span, refl)
encodes_some section (encoding.UlebCounted span) =
    let b = unsigned_spellings.each_len span.len (least_unsigned_len span.len) (omega arith) in
    (b.0 ++ bytes_in section span, (b.0, (b.1, b.2), refl))
encodes_some section (encoding.Bytes span) = (bytes_in section span, refl)
encodes_some section (encoding.Text span) = (bytes_in section span ++ 0 ∷ [], refl)

-- a spelling in a form, by the form of a code
pub in_form : (name code : ℕ) (f : Form) (c : ℤ) (meaning : Meaning) (bytes : List ℕ) → code_of f ≡ code → SpellsValue name code c meaning bytes → SpellsShape (shape_of f name c) meaning bytes
in_form name code f c meaning bytes known s =
    let same : s.form ≡ f = code_once s.form f (s.known ∙ sym known) in
    subst (λ (z : Form). SpellsShape (shape_of z name c) meaning bytes) same s.spelled

spelling : (name code : ℕ) (f : Form) (v : Value) (e : Encoding) (section bytes : List ℕ) → code_of f ≡ code → (enc : IsFormEncoding name f v e) → IsValueIn section v → Encodes section e bytes → SpellsValue name code enc.constant (meant_in section v) bytes
spelling name code f v e section bytes known enc i written = record {
  form = f;
  known = known;
  small = enc.shape.small section bytes i written;
  spelled = enc.shape.spells section bytes i written;
}

pub admitted : (name code : ℕ) (f : Form) (v : Value) (e : Encoding) (section : List ℕ) → code_of f ≡ code → is_written f ≡ true → IsFormEncoding name f v e → IsValueIn section v → Admits name code (meant_in section v)
admitted name code f v e section known chosen enc i =
    let b = encodes_some section e in
    record {
      form = f;
      known = known;
      written = chosen;
      constant = enc.constant;
      bytes = b.0;
      spelled = spelling name code f v e section b.0 known enc i b.1;
    }

pub not_admitted : (name code : ℕ) (f : Form) (v : Value) (section : List ℕ) → code_of f ≡ code → HasNoForm name f v → IsValueIn section v → Admits name code (meant_in section v) → ⊥
not_admitted name code f v section known none i a =
    none section a.bytes a.constant i a.spelled.small (in_form name code f a.constant (meant_in section v) a.bytes known a.spelled)

pub not_written : (name code : ℕ) (f : Form) (meaning : Meaning) → code_of f ≡ code → is_written f ≡ false → Admits name code meaning → ⊥
not_written name code f meaning known never a =
    let same : a.form ≡ f = code_once a.form f (a.known ∙ sym known) in
    let chosen : is_written f ≡ true = subst (λ (z : Form). is_written z ≡ true) same a.written in
    absurd (cc (never, chosen))

pub not_known : (name code : ℕ) (meaning : Meaning) → ((f : Form) → code_of f ≡ code → ⊥) → Admits name code meaning → ⊥
not_known name code meaning none a = none a.form a.known

pub code_encoding : (name code : ℕ) (f : Form) (v : Value) → code_of f ≡ code → (e : Encoding) → IsFormEncoding name f v e → IsCodeEncoding name code v e
code_encoding name code f v known e enc = record { form = f; known = known; encoding = enc }

pub code_none : (name code : ℕ) (f : Form) (v : Value) → code_of f ≡ code → HasNoForm name f v → HasNoCode name code v
code_none name code f v known none section bytes c i s = none section bytes c i s.small (in_form name code f c (meant_in section v) bytes known s)

pub code_unknown : (name code : ℕ) (v : Value) → ((f : Form) → code_of f ≡ code → ⊥) → HasNoCode name code v
code_unknown name code v none section bytes c i s = none s.form s.known

data_not_text : (size n : ℕ) (text : List ℕ) → data_of size n ≡ Text text → ⊥
data_not_text size n text =
    cond_both (leb (2 ^ (8 * size - 1)) n) (Bits size n) (Whole (pos n)) (λ z. z ≡ Text text → ⊥) (λ e same. absurd (cc (same))) (λ e same. absurd (cc (same)))

role_not_text : (r : Role) (w : Width) (n : ℕ) (text : List ℕ) → in_role r w n ≡ Text text → ⊥
role_not_text role.Data w n text e = data_not_text (size_of w) n text e
role_not_text r w n text e = absurd (cc (e))

content_not_text : (kind : Content) (bytes text : List ℕ) → of_content kind bytes ≡ Text text → ⊥
content_not_text content.Data bytes text e = absurd (cc (e))
content_not_text content.Expression bytes text e = absurd (cc (e))

text_same : (a b : List ℕ) → Text a ≡ Text b → b ≡ a
text_same a b e = cc

text_clear : (shape : Shape) (text bytes : List ℕ) → SpellsShape shape (Text text) bytes → HasNoZero text
text_clear (Constant v) text bytes p = absurd (cc (p.2))
text_clear Present text bytes p = absurd (cc (p.1))
text_clear (Number w r) text bytes p = absurd (role_not_text r w (number (size_of w) bytes) text (sym p.1))
text_clear (ByUleb r) text bytes p = absurd (role_not_text r Eight p.0 text (sym p.2))
text_clear BySleb text bytes p = absurd (cc (p.2))
text_clear (Counted w) text bytes p = absurd (cc (p.holds))
text_clear (UlebCounted kind) text bytes p = absurd (content_not_text kind p.body text (sym p.holds))
text_clear Sixteen text bytes p = absurd (cc (p.1))
text_clear ZeroEnded text bytes p = subst (λ (z : List ℕ). HasNoZero z) (text_same text p.text p.holds) p.clear

value_clear : (name code : ℕ) (section : List ℕ) (v : Value) → Admits name code (meant_in section v) → IsClear section v
value_clear name code section (value.Text span) a = text_clear (shape_of a.spelled.form name a.constant) (bytes_in section span) a.bytes a.spelled.spelled
value_clear name code section v a = tt

pub value_in : (name code : ℕ) (section : List ℕ) (v : Value) → AreBytes section → LiesIn (length section) v → Admits name code (meant_in section v) → IsValueIn section v
value_in name code section v small inside a = record { small = small; inside = inside; clear = value_clear name code section v a }

-- the form with flag's code has the shape of a flag
pub flag_shape : (name code : ℕ) (f : Form) (c : ℤ) → code_of f ≡ code → code ≡ code_of form.Flag → shape_of f name c ≡ Number One role.Truth
flag_shape name code f c known is =
    let same : f ≡ form.Flag = code_once f form.Flag (known ∙ is) in
    ap (λ z. shape_of z name c) same

pub shortest_written : (name code : ℕ) (v : Value) (e : Encoding) (section bytes : List ℕ) → IsCodeEncoding name code v e → IsValueIn section v → Encodes section e bytes → SpellsShortest name code (meant_in section v) bytes
shortest_written name code v e section bytes enc i written = record {
  constant = enc.encoding.constant;
  spelled = spelling name code enc.form v e section bytes enc.known enc.encoding i written;
  shortest = λ other others s.
      enc.encoding.shortest section bytes others other i written (in_form name code enc.form other (meant_in section v) others enc.known s);
  flag = λ is k lt. enc.encoding.shape.flag section bytes i written (flag_shape name code enc.form enc.encoding.constant enc.known is) k lt;
}

pub shortest_some : (name code : ℕ) (v : Value) (e : Encoding) (section : List ℕ) (size : ℕ) → IsCodeEncoding name code v e → IsValueIn section v → ((bytes : List ℕ) → Encodes section e bytes → size ≡ length bytes) → (written : List ℕ) × SpellsShortest name code (meant_in section v) written × (size ≡ length written)
shortest_some name code v e section size enc i sized =
    let b = encodes_some section e in
    (b.0, shortest_written name code v e section b.0 enc i b.1, sized b.0 b.1)

counted_few : (m : Meaning) (a b : ℕ) → a ≤ b → counted m a ≤ counted m b
counted_few (Expression bytes) a b le = omega arith
counted_few (InUnit place) a b le = omega arith
counted_few m a b le = le

-- what is written of a value gives its size in the shape
pub shape_size : (shape : Shape) (v : Value) (e : Encoding) (written size : ℕ) → size < 2 ^ 64 → IsEncoding shape v e → ((section bytes : List ℕ) → length section < 2 ^ 63 → SpanLies (length section) e → Encodes section e bytes → written ≡ length bytes) → ((section : List ℕ) → size ≡ counted (meant_in section v) written) → IsShapeSize shape v size
shape_size shape v e written size fits enc sized count = record {
  fits = fits;
  spelled = λ section i few.
      let b = encodes_some section e in
      let long : written ≡ length b.0 = sized section b.0 few (enc.lies section i) b.1 in
      (b.0, enc.small section b.0 i b.1, enc.spells section b.0 i b.1, count section ∙ ap (λ z. counted (meant_in section v) z) long);
  least = λ section others i few s.
      let b = encodes_some section e in
      let long : written ≡ length b.0 = sized section b.0 few (enc.lies section i) b.1 in
      let short : length b.0 ≤ length others = enc.shortest section b.0 others i b.1 s in
      let le : counted (meant_in section v) written ≤ counted (meant_in section v) (length others) = counted_few (meant_in section v) written (length others) (omega arith) in
      omega (arith, count section);
}

pub counted_expr : (v : Value) (span : Span) → v ≡ value.Expr span → (section : List ℕ) (n : ℕ) → 0 ≡ counted (meant_in section v) n
counted_expr v span e section n = ap (λ z. counted (meant_in section z) n) (sym e)

pub counted_local : (v : Value) (place : ℕ) → v ≡ value.LocalRef place → (section : List ℕ) (n : ℕ) → 0 ≡ counted (meant_in section v) n
counted_local v place e section n = ap (λ z. counted (meant_in section z) n) (sym e)

pub counted_whole : (v : Value) → ((span : Span) → v ≡ value.Expr span → ⊥) → ((n : ℕ) → v ≡ value.LocalRef n → ⊥) → (section : List ℕ) (n : ℕ) → counted (meant_in section v) n ≡ n
counted_whole (value.Expr span) p q section n = absurd (p span refl)
counted_whole (value.LocalRef m) p q section n = absurd (q m refl)
counted_whole v p q section n = refl

placed_inside : (v : Value) (at end size : ℕ) → end ≤ size → IsPlaced v at end → LiesIn size v
placed_inside (value.Wide16 span) at end size h p = omega arith
placed_inside (value.Block span) at end size h p = omega arith
placed_inside (value.Expr span) at end size h p = omega arith
placed_inside (value.Text span) at end size h p = omega (arith, p.1)
placed_inside v at end size h p = tt

spelled_clear : (name code : ℕ) (constant : ℤ) (section bytes : List ℕ) (v : Value) → SpellsValue name code constant (meant_in section v) bytes → IsClear section v
spelled_clear name code constant section bytes (value.Text span) s = text_clear (shape_of s.form name constant) (bytes_in section span) bytes s.spelled
spelled_clear name code constant section bytes v s = tt

-- what was read is a value of its section
pub read_in : (name code : ℕ) (constant : ℤ) (section : List ℕ) (at end : ℕ) (r : ReadValue) → end ≤ length section → AreBytes section → IsReadValue name code constant section at end r → IsValueIn section r.value
read_in name code constant section at end r inside small read = record {
  small = small;
  inside = placed_inside r.value at r.end (length section) (omega (arith, read.inside)) read.placed;
  clear = spelled_clear name code constant section (take (r.end - at) (drop at section)) r.value read.spelled;
}
