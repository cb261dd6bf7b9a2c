-- What is written of a value spells it, and nothing shorter does.
use Rattle.std.proofs.Common.{◌≡◌, ◌≤◌, ◌<◌, ◌+◌, ◌^◌, ℕ, zero, suc, List, [], ◌∷◌, length, get_or, leb, true, false, ◌∙◌, sym, ap, refl, subst, arith, inl, inr}
use Rattle.std.proofs.lemmas.List.{append-nil, length-append, get_or_append_left}
use Rattle.std.proofs.lemmas.Bool.{cases_lt, le-leb}
use Rattle.std.specs.Prelude.{ℤ, FitsSigned}
use Rattle.std.specs.Int.{w64, bytes_low_first, byte_at}
use Rattle.byteorder.specs.Numbers.{length-bytes_low_first}
use Rattle.dw_base.specs.declared.fault.Span.{Span}
use Rattle.spelled.specs.Spelled.{AreBytes}
use Rattle.spelled.proofs.Parts.{length_part, bytes_part, bytes_append}
use Rattle.leb_codec.specs.Leb.{Uleb, SpellsSigned, least_unsigned_len}
use Rattle.leb_codec.proofs.Lens.{unsigned_lens}
use Rattle.leb_codec.proofs.SpellingLaws.{unsigned_spellings, signed_spellings}
use Rattle.form_codec.specs.declared.form.Content.{Content}
use Rattle.form_codec.specs.declared.form.Content.TheVariants as content
use Rattle.form_codec.specs.declared.form.Role.{Role}
use Rattle.form_codec.specs.declared.form.Role.TheVariants as role
use Rattle.form_codec.specs.declared.form.Shape.TheVariants.{Constant, Present, Number, Uleb as ByUleb, Sleb as BySleb, Counted, UlebCounted, Sixteen, ZeroEnded}
use Rattle.form_codec.specs.declared.form.Width.{Width}
use Rattle.form_codec.specs.declared.form.Width.TheVariants.{One, Two, Three, Four, Eight}
use Rattle.form_codec.specs.declared.value.Value.{Value}
use Rattle.form_codec.specs.declared.value.Value.TheVariants as value
use Rattle.form_codec.specs.declared.encoding.Encoding.TheVariants as encoding
use Rattle.fixed_width.specs.Numbers.{number}
use Rattle.fixed_width.proofs.Numbers.{all_small, number_back, number_small}
use Rattle.form_codec.specs.Forms.{size_of, in_role, of_content}
use Rattle.form_codec.specs.Forms.Meaning.{Whole, SixteenBytes, IsSet, Data, Text}
use Rattle.form_codec.specs.Values.{meant_in, bytes_in, LiesIn}
use Rattle.form_codec.specs.Written.{low_bytes, HasNoEncoding}
use Rattle.form_codec.specs.inside.Written.{IsEncoding}

-- the lowest bytes of a number
pub low_len : (w : Width) (n : ℕ) → length (low_bytes w n) ≡ size_of w
low_len w n = length-bytes_low_first 0 (size_of w) n

pub number_low : (w : Width) (n : ℕ) → n < 256 ^ size_of w → number (size_of w) (low_bytes w n) ≡ n
number_low w n h = ap (number (size_of w)) (sym (append-nil (low_bytes w n))) ∙ number_back (size_of w) n [] h

byte_small : (i n : ℕ) → byte_at i n < 256
byte_small zero n = omega arith
byte_small (suc i) n = omega arith

-- the lowest bytes of a number are bytes
pub low_small : (i m n : ℕ) → AreBytes (bytes_low_first i m n)
low_small i zero n k lt = absurd (omega arith)
low_small i (suc m) n zero lt = byte_small i n
low_small i (suc m) n (suc k) lt = low_small (suc i) m n k (omega arith)

zero_small : AreBytes (0 ∷ [])
zero_small zero lt = omega arith
zero_small (suc k) lt = absurd (omega arith)

pub below_eight : (w : Width) (n : ℕ) → n < 256 ^ size_of w → n < 2 ^ 64
below_eight One n h = omega arith
below_eight Two n h = omega arith
below_eight Three n h = omega arith
below_eight Four n h = omega arith
below_eight Eight n h = omega arith

-- a flag is the least number with its meaning
truth_small : (section : List ℕ) (v : Value) (w : Width) (n : ℕ) → meant_in section v ≡ in_role role.Truth w n → ((m : ℕ) → meant_in section v ≡ in_role role.Truth w m → n ≤ m) → n ≤ 1
truth_small section v w n means least =
    elim (cases_lt 1 n) [
      | inl more ↦ let e : leb 1 n ≡ true = le-leb 1 n (omega arith) in least 1 (means ∙ ap (λ b. IsSet b) e)
      | inr few ↦ few
    ]

-- the byte of a number that is at most 1 is at most 1
pub one_byte : (n k : ℕ) → n ≤ 1 → get_or (low_bytes One n) k 0 ≤ 1
one_byte n zero few = omega arith
one_byte n (suc k) few = omega arith

fixed_flag : (w : Width) (r : Role) (section : List ℕ) (v : Value) (n : ℕ) (bytes : List ℕ) → meant_in section v ≡ in_role r w n → ((m : ℕ) → meant_in section v ≡ in_role r w m → n ≤ m) → bytes ≡ low_bytes w n → Number w r ≡ Number One role.Truth → (k : ℕ) → get_or bytes k 0 ≤ 1
fixed_flag w r section v n bytes means least e same k =
    let ew : w ≡ One = cc (same) in
    let er : r ≡ role.Truth = cc (same) in
    let means2 = subst (λ (z : Role). meant_in section v ≡ in_role z w n) er means in
    let least2 = subst (λ (z : Role). (m : ℕ) → meant_in section v ≡ in_role z w m → n ≤ m) er least in
    let e2 : bytes ≡ low_bytes One n = e ∙ ap (λ z. low_bytes z n) ew in
    rw e2 (one_byte n k (truth_small section v w n means2 least2))

pub fixed_fits : (w : Width) (r : Role) (v : Value) (n : ℕ) → n < 256 ^ size_of w → ((section : List ℕ) → meant_in section v ≡ in_role r w n) → ((section : List ℕ) (m : ℕ) → meant_in section v ≡ in_role r w m → n ≤ m) → IsEncoding (Number w r) v (encoding.Fixed w n)
fixed_fits w r v n h means least = record {
  lies = λ section i. tt;
  small = λ section bytes i e. subst (λ (b : List ℕ). AreBytes b) (sym e) (low_small 0 (size_of w) n);
  spells = λ section bytes i e. (ap length e ∙ low_len w n, means section ∙ ap (in_role r w) (sym (ap (number (size_of w)) e ∙ number_low w n h)));
  shortest = λ section bytes others i e s. omega (arith, ap length e ∙ low_len w n, s.0);
  flag = λ section bytes i e same k lt. fixed_flag w r section v n bytes (means section) (least section) e same k;
}

pub fixed_none : (w : Width) (r : Role) (v : Value) → ((section : List ℕ) (m : ℕ) → m < 256 ^ size_of w → meant_in section v ≡ in_role r w m → ⊥) → HasNoEncoding (Number w r) v
fixed_none w r v none section bytes i small s = none section (number (size_of w) bytes) (number_small (size_of w) bytes small) s.1

-- where no number of 64 bits has the meaning
pub fixed_none_at_all : (w : Width) (r : Role) (v : Value) → ((section : List ℕ) (m : ℕ) → m < 2 ^ 64 → meant_in section v ≡ in_role r w m → ⊥) → HasNoEncoding (Number w r) v
fixed_none_at_all w r v none = fixed_none w r v (λ section m few e. none section m (below_eight w m few) e)

-- where the least number with the meaning is too large
pub fixed_too_large : (w : Width) (r : Role) (v : Value) (n greatest : ℕ) → greatest + 1 ≡ 256 ^ size_of w → greatest < n → ((section : List ℕ) (m : ℕ) → meant_in section v ≡ in_role r w m → n ≤ m) → HasNoEncoding (Number w r) v
fixed_too_large w r v n greatest g large least = fixed_none w r v (λ section m few e. let le : n ≤ m = least section m e in omega arith)

pub uleb_fits : (r : Role) (v : Value) (n : ℕ) → n < 2 ^ 64 → ((section : List ℕ) → meant_in section v ≡ in_role r Eight n) → ((section : List ℕ) (m : ℕ) → meant_in section v ≡ in_role r Eight m → n ≤ m) → IsEncoding (ByUleb r) v (encoding.Uleb n)
uleb_fits r v n fits means least = record {
  lies = λ section i. tt;
  small = λ section bytes i e. e.0.0.byte;
  spells = λ section bytes i e. (n, (e.0, fits), means section);
  shortest = λ section bytes others i e s.
      let le : n ≤ s.0 = least section s.0 s.2 in
      let rise = unsigned_lens.rises n s.0 le in
      let few = unsigned_spellings.no_shorter others s.0 s.1.0 in
      omega (arith, e.1, rise, few);
  flag = λ section bytes i e same. absurd (cc (same));
}

pub uleb_none : (r : Role) (v : Value) → ((section : List ℕ) (m : ℕ) → m < 2 ^ 64 → meant_in section v ≡ in_role r Eight m → ⊥) → HasNoEncoding (ByUleb r) v
uleb_none r v none section bytes i small s = none section s.0 s.1.1 s.2

whole_same : (v w : ℤ) → Whole v ≡ Whole w → v ≡ w
whole_same v w e = cc

pub sleb_fits : (v : Value) (n : ℤ) → FitsSigned w64 n → ((section : List ℕ) → meant_in section v ≡ Whole n) → IsEncoding BySleb v (encoding.Sleb n)
sleb_fits v n fits means = record {
  lies = λ section i. tt;
  small = λ section bytes i e. e.0.0.byte;
  spells = λ section bytes i e. (n, (e.0, fits), means section);
  shortest = λ section bytes others i e s.
      let same : s.0 ≡ n = whole_same s.0 n (sym s.2 ∙ means section) in
      let few = signed_spellings.no_shorter others n (subst (λ (z : ℤ). SpellsSigned others z) same s.1.0) in
      omega (arith, e.1, few);
  flag = λ section bytes i e same. absurd (cc (same));
}

pub sleb_none : (v : Value) → ((section : List ℕ) (n : ℤ) → FitsSigned w64 n → meant_in section v ≡ Whole n → ⊥) → HasNoEncoding BySleb v
sleb_none v none section bytes i small s = none section s.0 s.1.1 s.2

pub constant_fits : (v : Value) (n : ℤ) → FitsSigned w64 n → ((section : List ℕ) → meant_in section v ≡ Whole n) → IsEncoding (Constant n) v encoding.Nothing
constant_fits v n fits means = record {
  lies = λ section i. tt;
  small = λ section bytes i e k lt. absurd (omega (arith, ap length e));
  spells = λ section bytes i e. (e, fits, means section);
  shortest = λ section bytes others i e s. omega (arith, ap length e);
  flag = λ section bytes i e same. absurd (cc (same));
}

pub constant_none : (v : Value) (n : ℤ) → ((section : List ℕ) (m : ℤ) → FitsSigned w64 m → meant_in section v ≡ Whole m → ⊥) → HasNoEncoding (Constant n) v
constant_none v n none section bytes i small s = none section n s.1 s.2

pub constant_differs : (v : Value) (n m : ℤ) → ((section : List ℕ) → meant_in section v ≡ Whole m) → (m ≡ n → ⊥) → HasNoEncoding (Constant n) v
constant_differs v n m means differs section bytes i small s = differs (whole_same m n (sym (means section) ∙ s.2))

pub present_fits : IsEncoding Present (value.Flag true) encoding.Nothing
present_fits = record {
  lies = λ section i. tt;
  small = λ section bytes i e k lt. absurd (omega (arith, ap length e));
  spells = λ section bytes i e. (e, refl);
  shortest = λ section bytes others i e s. omega (arith, ap length e);
  flag = λ section bytes i e same. absurd (cc (same));
}

pub present_none : (v : Value) → (v ≡ value.Flag true → ⊥) → HasNoEncoding Present v
present_none (value.Flag true) differs section bytes i small s = differs refl
present_none (value.Flag false) differs section bytes i small s = absurd (cc (s.1))
present_none v differs section bytes i small s = absurd (cc (s.1))

data_same : (a b : List ℕ) → Data a ≡ Data b → a ≡ b
data_same a b e = cc

content_same : (kind : Content) (a b : List ℕ) → of_content kind a ≡ of_content kind b → a ≡ b
content_same content.Data a b e = cc
content_same content.Expression a b e = cc

-- a span has as many bytes as it says
pub part_len : (section : List ℕ) (span : Span) → span.at + span.len ≤ length section → length (bytes_in section span) ≡ span.len
part_len section span inside = length_part span.at span.len section inside

pub counted_fits : (w : Width) (span : Span) → span.len < 256 ^ size_of w → IsEncoding (Counted w) (value.Block span) (encoding.Counted w span)
counted_fits w span few = record {
  lies = λ section i. i.inside;
  small = λ section bytes i e.
      subst (λ (b : List ℕ). AreBytes b) (sym e) (bytes_append (low_bytes w span.len) (bytes_in section span) (low_small 0 (size_of w) span.len) (bytes_part span.at span.len section i.small i.inside));
  spells = λ section bytes i e. record {
    head = low_bytes w span.len;
    body = bytes_in section span;
    size = low_len w span.len;
    count = part_len section span i.inside ∙ sym (number_low w span.len few);
    whole = e;
    holds = refl;
  };
  shortest = λ section bytes others i e s.
      let same : bytes_in section span ≡ s.body = data_same (bytes_in section span) s.body s.holds in
      omega (arith, ap length e ∙ length-append (low_bytes w span.len) (bytes_in section span), ap length s.whole ∙ length-append s.head s.body, ap length same, low_len w span.len, s.size);
  flag = λ section bytes i e same. absurd (cc (same));
}

pub counted_too_long : (w : Width) (span : Span) (greatest : ℕ) → greatest + 1 ≡ 256 ^ size_of w → greatest < span.len → HasNoEncoding (Counted w) (value.Block span)
counted_too_long w span greatest g large section bytes i small s =
    let same : bytes_in section span ≡ s.body = data_same (bytes_in section span) s.body s.holds in
    let lens : span.len ≡ length s.body = sym (part_len section span i.inside) ∙ ap length same in
    let n : number (size_of w) s.head < 256 ^ size_of w = number_small (size_of w) s.head (λ k lt. subst (λ (z : ℕ). z < 256) (ap (λ b. get_or b k 0) s.whole ∙ get_or_append_left s.head s.body 0 k lt) (all_small bytes small k)) in
    omega (arith, n, s.count, lens)

-- other values than a block
pub counted_none : (w : Width) (v : Value) → ((span : Span) → v ≡ value.Block span → ⊥) → HasNoEncoding (Counted w) v
counted_none w (value.Block span) differs section bytes i small s = differs span refl
counted_none w v differs section bytes i small s = absurd (cc (s.holds))

pub uleb_counted_fits : (kind : Content) (v : Value) (span : Span) → span.len < 2 ^ 64 → ((section : List ℕ) → meant_in section v ≡ of_content kind (bytes_in section span)) → ((size : ℕ) → LiesIn size v → span.at + span.len ≤ size) → IsEncoding (UlebCounted kind) v (encoding.UlebCounted span)
uleb_counted_fits kind v span fits means lies = record {
  lies = λ section i. lies (length section) i.inside;
  small = λ section bytes i e.
      subst (λ (b : List ℕ). AreBytes b) (sym e.2) (bytes_append e.0 (bytes_in section span) e.1.0.0.byte (bytes_part span.at span.len section i.small (lies (length section) i.inside)));
  spells = λ section bytes i e. record {
    head = e.0;
    body = bytes_in section span;
    count = subst (λ (z : ℕ). Uleb z e.0) (sym (part_len section span (lies (length section) i.inside))) (e.1.0, fits);
    whole = e.2;
    holds = means section;
  };
  shortest = λ section bytes others i e s.
      let same : bytes_in section span ≡ s.body = content_same kind (bytes_in section span) s.body (sym (means section) ∙ s.holds) in
      let few = unsigned_spellings.no_shorter s.head (length s.body) s.count.0 in
      let lens : span.len ≡ length s.body = sym (part_len section span (lies (length section) i.inside)) ∙ ap length same in
      let least : length e.0 ≡ least_unsigned_len (length s.body) = e.1.1 ∙ ap least_unsigned_len lens in
      omega (arith, ap length e.2 ∙ length-append e.0 (bytes_in section span), ap length s.whole ∙ length-append s.head s.body, ap length same, few, least);
  flag = λ section bytes i e same. absurd (cc (same));
}

pub block_none : (v : Value) → ((span : Span) → v ≡ value.Block span → ⊥) → HasNoEncoding (UlebCounted content.Data) v
block_none (value.Block span) differs section bytes i small s = differs span refl
block_none v differs section bytes i small s = absurd (cc (s.holds))

pub expression_none : (v : Value) → ((span : Span) → v ≡ value.Expr span → ⊥) → HasNoEncoding (UlebCounted content.Expression) v
expression_none (value.Expr span) differs section bytes i small s = differs span refl
expression_none v differs section bytes i small s = absurd (cc (s.holds))

pub sixteen_fits : (span : Span) → span.len ≡ 16 → IsEncoding Sixteen (value.Wide16 span) (encoding.Bytes span)
sixteen_fits span size = record {
  lies = λ section i. i.inside;
  small = λ section bytes i e. subst (λ (b : List ℕ). AreBytes b) (sym e) (bytes_part span.at span.len section i.small i.inside);
  spells = λ section bytes i e. (ap length e ∙ part_len section span i.inside ∙ size, ap (λ z. SixteenBytes z) (sym e));
  shortest = λ section bytes others i e s. omega (arith, ap length e ∙ part_len section span i.inside ∙ size, s.0);
  flag = λ section bytes i e same. absurd (cc (same));
}

sixteen_same : (a b : List ℕ) → SixteenBytes a ≡ SixteenBytes b → a ≡ b
sixteen_same a b e = cc

pub not_sixteen : (span : Span) → (span.len ≡ 16 → ⊥) → HasNoEncoding Sixteen (value.Wide16 span)
not_sixteen span differs section bytes i small s =
    let same : bytes_in section span ≡ bytes = sixteen_same (bytes_in section span) bytes s.1 in
    differs (sym (part_len section span i.inside) ∙ ap length same ∙ s.0)

pub sixteen_none : (v : Value) → ((span : Span) → v ≡ value.Wide16 span → ⊥) → HasNoEncoding Sixteen v
sixteen_none (value.Wide16 span) differs section bytes i small s = differs span refl
sixteen_none v differs section bytes i small s = absurd (cc (s.1))

text_same : (a b : List ℕ) → Text a ≡ Text b → a ≡ b
text_same a b e = cc

pub text_fits : (span : Span) → IsEncoding ZeroEnded (value.Text span) (encoding.Text span)
text_fits span = record {
  lies = λ section i. i.inside;
  small = λ section bytes i e. subst (λ (b : List ℕ). AreBytes b) (sym e) (bytes_append (bytes_in section span) (0 ∷ []) (bytes_part span.at span.len section i.small i.inside) zero_small);
  spells = λ section bytes i e. record { text = bytes_in section span; clear = i.clear; whole = e; holds = refl };
  shortest = λ section bytes others i e s.
      let same : bytes_in section span ≡ s.text = text_same (bytes_in section span) s.text s.holds in
      omega (arith, ap length e ∙ length-append (bytes_in section span) (0 ∷ []), ap length s.whole ∙ length-append s.text (0 ∷ []), ap length same);
  flag = λ section bytes i e same. absurd (cc (same));
}

pub text_none : (v : Value) → ((span : Span) → v ≡ value.Text span → ⊥) → HasNoEncoding ZeroEnded v
text_none (value.Text span) differs section bytes i small s = differs span refl
text_none v differs section bytes i small s = absurd (cc (s.holds))
