-- A value that bytes of a form spell has shortest bytes of that form.
use Rattle.std.proofs.Common.{◌≡◌, ◌≤◌, ◌<◌, ◌+◌, ◌∙◌, ◌++◌, ℕ, zero, suc, List, [], ◌∷◌, length, get_or, Bool, true, false, sym, ap, refl, subst, arith, inl, inr}
use Rattle.std.specs.Prelude.{ℤ, pos, nat_le}
use Rattle.std.proofs.lemmas.Bool.{cases_Bool}
use Rattle.std.proofs.lemmas.List.{length-append}
use Rattle.spelled.specs.Spelled.{AreBytes}
use Rattle.spelled.proofs.Parts.{bytes_append, bytes_after}
use Rattle.leb_codec.specs.Leb.{least_unsigned_len, least_signed_len}
use Rattle.leb_codec.proofs.SpellingLaws.{unsigned_spellings, signed_spellings}
use Rattle.form_codec.specs.declared.form.Form.{Form}
use Rattle.form_codec.specs.declared.form.Form.TheVariants as form
use Rattle.form_codec.specs.declared.form.Role.{Role}
use Rattle.form_codec.specs.declared.form.Role.TheVariants as role
use Rattle.form_codec.specs.declared.form.Shape.{Shape}
use Rattle.form_codec.specs.declared.form.Shape.TheVariants.{Constant, Present, Number, Uleb as ByUleb, Sleb as BySleb, Counted, UlebCounted, Sixteen, ZeroEnded}
use Rattle.form_codec.specs.declared.form.Content.{Content}
use Rattle.form_codec.specs.declared.form.Content.TheVariants as content
use Rattle.form_codec.specs.declared.form.Width.{Width}
use Rattle.form_codec.specs.declared.form.Width.TheVariants.{Eight}
use Rattle.fixed_width.specs.Numbers.{number}
use Rattle.form_codec.specs.Forms.{Meaning, SpellsShape, SpellsValue, SpellsShortest, code_of, shape_of, in_role, of_content}
use Rattle.form_codec.specs.Forms.Meaning.{AddressNumber, Whole, Data, Expression, InUnit, IsSet, Text, StringNumber, LocationList, RangeList}
use Rattle.form_codec.proofs.Codes.{code_once}
use Rattle.form_codec.proofs.FormLaws.{in_form}

-- no bytes of the shape are fewer, and these spell the value
record AreFewest (s : Shape) (m : Meaning) (bytes : List ℕ) : Type 0 where
  small : AreBytes bytes
  spelled : SpellsShape s m bytes
  fewest : (others : List ℕ) → SpellsShape s m others → length bytes ≤ length others

-- the number that a value in LEB128 holds
abbrev held_in : Meaning → ℕ
held_in (AddressNumber n) = n
held_in (Whole (pos n)) = n
held_in (InUnit n) = n
held_in (StringNumber n) = n
held_in (LocationList n) = n
held_in (RangeList n) = n
held_in m = 0

-- the roles of numbers in LEB128
abbrev is_leb : Role → Bool
is_leb role.Unsigned = true
is_leb role.StrIndex = true
is_leb role.AddrIndex = true
is_leb role.LocalRef = true
is_leb role.LocIndex = true
is_leb role.RangeIndex = true
is_leb r = false

holds_number : (r : Role) (n : ℕ) → is_leb r ≡ true → held_in (in_role r Eight n) ≡ n
holds_number role.Unsigned n e = refl
holds_number role.StrIndex n e = refl
holds_number role.AddrIndex n e = refl
holds_number role.LocalRef n e = refl
holds_number role.LocIndex n e = refl
holds_number role.RangeIndex n e = refl
holds_number r n e = absurd (cc (e))

abbrev block_in : Meaning → List ℕ
block_in (Data bytes) = bytes
block_in (Expression bytes) = bytes
block_in (Text bytes) = bytes
block_in m = []

holds_block : (kind : Content) (bytes : List ℕ) → block_in (of_content kind bytes) ≡ bytes
holds_block content.Data bytes = refl
holds_block content.Expression bytes = refl

abbrev whole_in : Meaning → ℤ
whole_in (Whole v) = v
whole_in m = pos 0

uleb_fewest : (r : Role) (m : Meaning) (bytes : List ℕ) → is_leb r ≡ true → SpellsShape (ByUleb r) m bytes → (few : List ℕ) × AreFewest (ByUleb r) m few
uleb_fewest r m bytes leb (n, spelled, means) =
    let least : least_unsigned_len n ≤ least_unsigned_len n = omega arith in
    let b = unsigned_spellings.each_len n (least_unsigned_len n) least in (
      b.0,
      record {
        small = b.1.0.byte;
        spelled = (n, (b.1, spelled.1), means);
        fewest = λ others p.
            let k : ℕ = p.0 in
            let same : n ≡ k = sym (holds_number r n leb) ∙ ap held_in (sym means ∙ p.2) ∙ holds_number r k leb in
            let few : least_unsigned_len k ≤ length others = unsigned_spellings.no_shorter others k p.1.0 in
            let here : least_unsigned_len n ≡ least_unsigned_len k = ap least_unsigned_len same in
            omega (arith, b.2, few, here);
      },
    )

sleb_fewest : (m : Meaning) (bytes : List ℕ) → SpellsShape BySleb m bytes → (few : List ℕ) × AreFewest BySleb m few
sleb_fewest m bytes (v, spelled, means) =
    let least : least_signed_len v ≤ least_signed_len v = omega arith in
    let b = signed_spellings.each_len v (least_signed_len v) least in (
      b.0,
      record {
        small = b.1.0.byte;
        spelled = (v, (b.1, spelled.1), means);
        fewest = λ others p.
            let k : ℤ = p.0 in
            let same : v ≡ k = ap whole_in (sym means ∙ p.2) in
            let few : least_signed_len k ≤ length others = signed_spellings.no_shorter others k p.1.0 in
            let here : least_signed_len v ≡ least_signed_len k = ap least_signed_len same in
            omega (arith, b.2, few, here);
      },
    )

-- all bytes of these shapes that spell a value are as many
counted_fewest : (w : Width) (m : Meaning) (bytes : List ℕ) → AreBytes bytes → SpellsShape (Counted w) m bytes → AreFewest (Counted w) m bytes
counted_fewest w m bytes small p = record {
  small = small;
  spelled = p;
  fewest = λ others q.
      let same : p.body ≡ q.body = ap block_in (sym p.holds ∙ q.holds) in
      let one : length bytes ≡ length p.head + length p.body = ap length p.whole ∙ length-append p.head p.body in
      let two : length others ≡ length q.head + length q.body = ap length q.whole ∙ length-append q.head q.body in
      omega (arith, one, two, p.size, q.size, ap length same);
}

text_fewest : (m : Meaning) (bytes : List ℕ) → AreBytes bytes → SpellsShape ZeroEnded m bytes → AreFewest ZeroEnded m bytes
text_fewest m bytes small p = record {
  small = small;
  spelled = p;
  fewest = λ others q.
      let same : p.text ≡ q.text = ap block_in (sym p.holds ∙ q.holds) in
      let one : length bytes ≡ length p.text + 1 = ap length p.whole ∙ length-append p.text (0 ∷ []) in
      let two : length others ≡ length q.text + 1 = ap length q.whole ∙ length-append q.text (0 ∷ []) in
      omega (arith, one, two, ap length same);
}

block_fewest : (kind : Content) (m : Meaning) (bytes : List ℕ) → AreBytes bytes → SpellsShape (UlebCounted kind) m bytes → (few : List ℕ) × AreFewest (UlebCounted kind) m few
block_fewest kind m bytes small p =
    let n : ℕ = length p.body in
    let least : least_unsigned_len n ≤ least_unsigned_len n = omega arith in
    let b = unsigned_spellings.each_len n (least_unsigned_len n) least in
    let body : AreBytes p.body = bytes_after p.head p.body (subst AreBytes p.whole small) in (
      b.0 ++ p.body,
      record {
        small = bytes_append b.0 p.body b.1.0.byte body;
        spelled = record { head = b.0; body = p.body; count = (b.1, p.count.1); whole = refl; holds = p.holds };
        fewest = λ others q.
            let same : p.body ≡ q.body = sym (holds_block kind p.body) ∙ ap block_in (sym p.holds ∙ q.holds) ∙ holds_block kind q.body in
            let one : length (b.0 ++ p.body) ≡ length b.0 + length p.body = length-append b.0 p.body in
            let two : length others ≡ length q.head + length q.body = ap length q.whole ∙ length-append q.head q.body in
            let few : least_unsigned_len (length q.body) ≤ length q.head = unsigned_spellings.no_shorter q.head (length q.body) q.count.0 in
            let here : least_unsigned_len n ≡ least_unsigned_len (length q.body) = ap (λ (z : List ℕ). least_unsigned_len (length z)) same in
            omega (arith, one, two, few, here, b.2, ap length same);
      },
    )

-- the shapes of forms
abbrev plain : Shape → Bool
plain (ByUleb r) = is_leb r
plain s = true

plain_form : (f : Form) (name : ℕ) (c : ℤ) → plain (shape_of f name c) ≡ true
plain_form form.Udata name c = refl
plain_form f name c = refl

shape_fewest : (s : Shape) (m : Meaning) (bytes : List ℕ) → plain s ≡ true → AreBytes bytes → SpellsShape s m bytes → (few : List ℕ) × AreFewest s m few
shape_fewest (Constant v) m bytes e small p = (bytes, record { small = small; spelled = p; fewest = λ others q. omega (arith, ap length p.0) })
shape_fewest Present m bytes e small p = (bytes, record { small = small; spelled = p; fewest = λ others q. omega (arith, ap length p.0) })
shape_fewest (Number w r) m bytes e small p = (bytes, record { small = small; spelled = p; fewest = λ others q. omega (arith, p.0, q.0) })
shape_fewest (ByUleb r) m bytes e small p = uleb_fewest r m bytes e p
shape_fewest BySleb m bytes e small p = sleb_fewest m bytes p
shape_fewest (Counted w) m bytes e small p = (bytes, counted_fewest w m bytes small p)
shape_fewest (UlebCounted kind) m bytes e small p = block_fewest kind m bytes small p
shape_fewest Sixteen m bytes e small p = (bytes, record { small = small; spelled = p; fewest = λ others q. omega (arith, p.0, q.0) })
shape_fewest ZeroEnded m bytes e small p = (bytes, text_fewest m bytes small p)

-- none is shorter under another constant
none_shorter : (f : Form) (name : ℕ) (c d : ℤ) (m : Meaning) (bytes others : List ℕ) → AreFewest (shape_of f name c) m bytes → SpellsShape (shape_of f name d) m others → length bytes ≤ length others
none_shorter form.ImplicitConst name c d m bytes others p q = omega (arith, ap length p.spelled.0)
none_shorter f name c d m bytes others p q = p.fewest others q

abbrev is_flag : Form → Bool
is_flag form.Flag = true
is_flag f = false

flag_form : (f : Form) → is_flag f ≡ true → f ≡ form.Flag
flag_form form.Flag e = refl
flag_form f e = absurd (cc (e))

-- the byte of a flag
record IsFlagByte (set : Bool) (byte : ℕ) : Type 0 where
  low : byte ≤ 1
  means : set ≡ nat_le 1 (number 1 (byte ∷ []))

flag_byte : (set : Bool) → (byte : ℕ) × IsFlagByte set byte
unfolding number
flag_byte true = (1, record { low = omega arith; means = refl })
flag_byte false = (0, record { low = omega arith; means = refl })

one_byte : (byte k : ℕ) → byte ≤ 1 → k < length (byte ∷ []) → get_or (byte ∷ []) k 0 ≤ 1
one_byte byte zero low inside = low
one_byte byte (suc k) low inside = absurd (omega arith)

flag_shortest : (name code : ℕ) (c : ℤ) (m : Meaning) (bytes : List ℕ) → code_of form.Flag ≡ code → SpellsValue name code c m bytes → (few : List ℕ) × SpellsShortest name code m few
flag_shortest name code c m bytes known s =
    let p = in_form name code form.Flag c m bytes known s in
    let b = flag_byte (nat_le 1 (number 1 bytes)) in
    let low : (k : ℕ) → k < length (b.0 ∷ []) → get_or (b.0 ∷ []) k 0 ≤ 1 = λ k inside. one_byte b.0 k b.1.low inside in (
      b.0 ∷ [],
      record {
        constant = c;
        spelled = record {
          form = form.Flag;
          known = known;
          small = λ k inside. (let few : get_or (b.0 ∷ []) k 0 ≤ 1 = low k inside in omega arith);
          spelled = (refl, p.1 ∙ ap (λ (z : Bool). IsSet z) b.1.means);
        };
        shortest = λ other others t. (let q = in_form name code form.Flag other m others known t in omega (arith, q.0));
        flag = λ is k inside. low k inside;
      },
    )

-- A value that is spelled has shortest bytes in the form that spells it.
pub shortest_bytes : (name code : ℕ) (c : ℤ) (m : Meaning) (bytes : List ℕ) → SpellsValue name code c m bytes → (few : List ℕ) × SpellsShortest name code m few
shortest_bytes name code c m bytes s =
    elim (cases_Bool (is_flag s.form)) [
      | inl is ↦ flag_shortest name code c m bytes (sym (ap code_of (flag_form s.form is)) ∙ s.known) s
      | inr other ↦
          let f : Form = s.form in
          let few = shape_fewest (shape_of f name c) m bytes (plain_form f name c) s.small s.spelled in (
            few.0,
            record {
              constant = c;
              spelled = record { form = f; known = s.known; small = few.1.small; spelled = few.1.spelled };
              shortest = λ d others t. none_shorter f name c d m few.0 others few.1 (in_form name code f d m others s.known t);
              flag = λ is. absurd (let same : is_flag f ≡ true = ap is_flag (code_once f form.Flag (s.known ∙ is)) in cc (same, other));
            },
          )
    ]
