-- Bytes at a place of a section, and the values that they spell there.
use Rattle.std.proofs.Common.{◌≡◌, ◌≤◌, ◌<◌, ◌+◌, ◌-◌, ◌^◌, ℕ, zero, suc, List, [], ◌∷◌, ◌++◌, length, take, drop, true, ◌∙◌, sym, ap, refl, subst, arith}
use Rattle.std.specs.Prelude.{ℤ, pos}
use Rattle.std.proofs.lemmas.Int.{ints}
use Rattle.std.proofs.lemmas.List.{append-nil, append_assoc, length-append, take_at, drop_at}
use Rattle.spelled.specs.Spelled.{AreBytes}
use Rattle.leb_codec.specs.Leb.{Uleb}
use Rattle.fixed_width.specs.Numbers.{number, number_at}
use Rattle.fixed_width.proofs.Numbers.{number_back}
use Rattle.form_codec.specs.declared.form.Form.{Form}
use Rattle.form_codec.specs.declared.form.Form.TheVariants as form
use Rattle.form_codec.specs.declared.form.Width.TheVariants.{One, Four, Eight}
use Rattle.form_codec.specs.declared.form.Role.{Role}
use Rattle.form_codec.specs.declared.form.Role.TheVariants as role
use Rattle.form_codec.specs.declared.form.Shape.TheVariants.{Number}
use Rattle.form_codec.specs.declared.value.Value.TheVariants as value
use Rattle.form_codec.specs.Forms.{Meaning, SpellsShape, SpellsValue, HasNoZero, shape_of, code_of, in_role}
use Rattle.form_codec.specs.Forms.Meaning.{Whole, Text, Expression, IsSet}
use Rattle.form_codec.specs.Values.{meant_in}
use Rattle.form_codec.specs.Written.{low_bytes}
use Rattle.form_codec.proofs.WriteLaws.{number_low, low_small}
use Rattle.entry_arena.specs.Trees.{bytes_between, SpellsBetween}
use Rattle.sample_maker.specs.inside.Bytes.{word, long}
use Rattle.sample_maker.proofs.TableRead.{uleb_byte}

-- these bytes stand in the section from a place on
pub record LiesAt (section : List ℕ) (at : ℕ) (bytes : List ℕ) : Type 0 where
  pub front : List ℕ
  pub rest : List ℕ
  pub place : length front ≡ at
  pub whole : section ≡ front ++ (bytes ++ rest)

pub lies_whole : (bytes : List ℕ) → LiesAt bytes 0 bytes
lies_whole bytes = record { front = []; rest = []; place = refl; whole = sym (append-nil bytes) }

pub lies_first : (section : List ℕ) (at : ℕ) (a b : List ℕ) → LiesAt section at (a ++ b) → LiesAt section at a
lies_first section at a b l = record { front = l.front; rest = b ++ l.rest; place = l.place; whole = l.whole ∙ ap (λ z. l.front ++ z) (append_assoc a b l.rest) }

pub lies_behind : (section : List ℕ) (at : ℕ) (a b : List ℕ) (n : ℕ) → length a ≡ n → LiesAt section at (a ++ b) → LiesAt section (at + n) b
lies_behind section at a b n size l =
    let place : length (l.front ++ a) ≡ at + n = omega (arith, length-append l.front a, l.place, size) in
    record { front = l.front ++ a; rest = l.rest; place = place; whole = l.whole ∙ ap (λ z. l.front ++ z) (append_assoc a b l.rest) ∙ sym (append_assoc l.front a (b ++ l.rest)) }

pub lies_from : (section : List ℕ) (at other : ℕ) (bytes : List ℕ) → at ≡ other → LiesAt section at bytes → LiesAt section other bytes
lies_from section at other bytes same l = subst (λ (z : ℕ). LiesAt section z bytes) same l

pub lies_inside : (section : List ℕ) (at : ℕ) (bytes : List ℕ) → LiesAt section at bytes → at + length bytes ≤ length section
lies_inside section at bytes l =
    let size : length section ≡ length l.front + length (bytes ++ l.rest) = ap (λ z. length z) l.whole ∙ length-append l.front (bytes ++ l.rest) in
    omega (arith, size, length-append bytes l.rest, l.place)

-- what follows a place begins with the bytes there
pub lies_drop : (section : List ℕ) (at : ℕ) (bytes : List ℕ) (l : LiesAt section at bytes) → drop at section ≡ bytes ++ l.rest
lies_drop section at bytes l = ap (λ z. drop at z) l.whole ∙ drop_at l.front (bytes ++ l.rest) at l.place

pub lies_take : (section : List ℕ) (at : ℕ) (bytes : List ℕ) (n : ℕ) → length bytes ≡ n → LiesAt section at bytes → take n (drop at section) ≡ bytes
lies_take section at bytes n size l = ap (λ z. take n z) (lies_drop section at bytes l) ∙ take_at bytes l.rest n size

pub lies_between : (section : List ℕ) (at to : ℕ) (bytes : List ℕ) → to ≡ at + length bytes → LiesAt section at bytes → bytes_between section at to ≡ bytes
lies_between section at to bytes end l =
    let width : to - at ≡ length bytes = omega (arith, end) in
    ap (λ n. take n (drop at section)) width ∙ lies_take section at bytes (length bytes) refl l

pub spells_there : (Spells : List ℕ → Type 0) (section : List ℕ) (at to : ℕ) (bytes : List ℕ) → to ≡ at + length bytes → LiesAt section at bytes → Spells bytes → SpellsBetween Spells section at to
spells_there Spells section at to bytes end l spelled = record {
  order = omega (arith, end);
  inside = omega (arith, end, lies_inside section at bytes l);
  spelled = subst Spells (sym (lies_between section at to bytes end l)) spelled;
}

-- numbers at places

pub word_at : (section : List ℕ) (at n : ℕ) → n < 256 ^ 4 → LiesAt section at (word n) → number_at 4 at section ≡ n
unfolding word
word_at section at n fits l = ap (λ z. number 4 z) (lies_drop section at (low_bytes Four n) l) ∙ number_back 4 n l.rest fits

-- VALUES

-- the bytes of a value of a form stand there, under an attribute's name
pub value_there : (name : ℕ) (f : Form) (constant : ℤ) (section : List ℕ) (at to : ℕ) (bytes : List ℕ) (meaning : Meaning) → to ≡ at + length bytes → LiesAt section at bytes → AreBytes bytes → SpellsShape (shape_of f name constant) meaning bytes → SpellsBetween (SpellsValue name (code_of f) constant meaning) section at to
value_there name f constant section at to bytes meaning end l small spelled =
    spells_there (SpellsValue name (code_of f) constant meaning) section at to bytes end l (record { form = f; known = refl; small = small; spelled = spelled })

no_bytes : AreBytes []
no_bytes k lt = absurd (omega arith)

pub one_byte : (b : ℕ) → b < 256 → AreBytes (b ∷ [])
one_byte b small zero lt = small
one_byte b small (suc k) lt = absurd (omega arith)

pub more_bytes : (b : ℕ) (bytes : List ℕ) → b < 256 → AreBytes bytes → AreBytes (b ∷ bytes)
more_bytes b bytes small others zero lt = small
more_bytes b bytes small others (suc k) lt = others k (omega (arith, lt))

-- a form of four bytes
pub word_there : (name : ℕ) (f : Form) (r : Role) (section : List ℕ) (at n : ℕ) (meaning : Meaning) → shape_of f name (pos 0) ≡ Number Four r → n < 256 ^ 4 → meaning ≡ in_role r Four n → LiesAt section at (word n) → SpellsBetween (SpellsValue name (code_of f) (pos 0) meaning) section at (at + 4)
unfolding word
word_there name f r section at n meaning shape fits means l =
    let said : meaning ≡ in_role r Four (number 4 (low_bytes Four n)) = means ∙ ap (λ (k : ℕ). in_role r Four k) (sym (number_low Four n fits)) in
    value_there name f (pos 0) section at (at + 4) (low_bytes Four n) meaning refl l (low_small 0 4 n) (subst (λ z. SpellsShape z meaning (low_bytes Four n)) (sym shape) (refl, said))

-- of eight
pub long_there : (name : ℕ) (f : Form) (r : Role) (section : List ℕ) (at n : ℕ) (meaning : Meaning) → shape_of f name (pos 0) ≡ Number Eight r → n < 256 ^ 8 → meaning ≡ in_role r Eight n → LiesAt section at (long n) → SpellsBetween (SpellsValue name (code_of f) (pos 0) meaning) section at (at + 8)
unfolding long
long_there name f r section at n meaning shape fits means l =
    let said : meaning ≡ in_role r Eight (number 8 (low_bytes Eight n)) = means ∙ ap (λ (k : ℕ). in_role r Eight k) (sym (number_low Eight n fits)) in
    value_there name f (pos 0) section at (at + 8) (low_bytes Eight n) meaning refl l (low_small 0 8 n) (subst (λ z. SpellsShape z meaning (low_bytes Eight n)) (sym shape) (refl, said))

-- DW_FORM_data1 under a name that fixes the sign
pub byte_there : (name : ℕ) (section : List ℕ) (at n : ℕ) → shape_of form.Data1 name (pos 0) ≡ Number One role.Unsigned → n < 256 → LiesAt section at (n ∷ []) → SpellsBetween (SpellsValue name 0x0b (pos 0) (Whole (pos n))) section at (at + 1)
byte_there name section at n shape small l =
    let low : n ∷ [] ≡ low_bytes One n = ap (λ (z : ℕ). z ∷ []) (omega (arith, small)) in
    let is : number 1 (n ∷ []) ≡ n = ap (λ z. number 1 z) low ∙ number_low One n (omega (arith, small)) in
    let said : Whole (pos n) ≡ Whole (pos (number 1 (n ∷ []))) = ap (λ (k : ℕ). Whole (pos k)) (sym is) in
    value_there name form.Data1 (pos 0) section at (at + 1) (n ∷ []) (Whole (pos n)) refl l (one_byte n small) (subst (λ z. SpellsShape z (Whole (pos n)) (n ∷ [])) (sym shape) (refl, said))

-- DW_FORM_string; the place of its span is told
pub text_there : (name : ℕ) (section : List ℕ) (at span to n : ℕ) (text : List ℕ) → span ≡ at → to ≡ at + n + 1 → length text ≡ n → HasNoZero text → AreBytes (text ++ 0 ∷ []) → LiesAt section at (text ++ 0 ∷ []) → SpellsBetween (SpellsValue name 0x08 (pos 0) (meant_in section (value.Text (record { at = span; len = n })))) section at to
text_there name section at span to n text here end size clear small l =
    let means : Text (take n (drop span section)) ≡ Text text = ap (λ (k : ℕ). Text (take n (drop k section))) here ∙ ap (λ z. Text z) (lies_take section at text n size (lies_first section at text (0 ∷ []) l)) in
    let last : to ≡ at + length (text ++ 0 ∷ []) = omega (arith, length-append text (0 ∷ []), size, end) in
    value_there name form.String (pos 0) section at to (text ++ 0 ∷ []) (Text (take n (drop span section))) last l small (record { text = text; clear = clear; whole = refl; holds = means })

-- DW_FORM_exprloc of an expression of one byte, likewise
pub expression_there : (name : ℕ) (section : List ℕ) (at span b : ℕ) → span ≡ at + 1 → b < 256 → LiesAt section at (1 ∷ b ∷ []) → SpellsBetween (SpellsValue name 0x18 (pos 0) (meant_in section (value.Expr (record { at = span; len = 1 })))) section at (at + 2)
expression_there name section at span b here small l =
    let means : Expression (take 1 (drop span section)) ≡ Expression (b ∷ []) = ap (λ (k : ℕ). Expression (take 1 (drop k section))) here ∙ ap (λ z. Expression z) (lies_take section (at + 1) (b ∷ []) 1 refl (lies_behind section at (1 ∷ []) (b ∷ []) 1 refl l)) in
    value_there name form.Exprloc (pos 0) section at (at + 2) (1 ∷ b ∷ []) (Expression (take 1 (drop span section))) refl l (more_bytes 1 (b ∷ []) (omega arith) (one_byte b small)) (record { head = 1 ∷ []; body = b ∷ []; count = uleb_byte 1 (omega arith); whole = refl; holds = means })

-- DW_FORM_flag_present, which has no bytes
pub present_there : (name : ℕ) (section : List ℕ) (at : ℕ) (bytes : List ℕ) → LiesAt section at bytes → SpellsBetween (SpellsValue name 0x19 (pos 0) (IsSet true)) section at at
present_there name section at bytes l = value_there name form.FlagPresent (pos 0) section at at [] (IsSet true) (omega arith) (lies_first section at [] bytes l) no_bytes (refl, refl)

-- DW_FORM_implicit_const, whose constant 1 stands in the declaration
pub constant_there : (name : ℕ) (section : List ℕ) (at : ℕ) (bytes : List ℕ) → LiesAt section at bytes → SpellsBetween (SpellsValue name 0x21 (pos 1) (Whole (pos 1))) section at at
constant_there name section at bytes l = value_there name form.ImplicitConst (pos 1) section at at [] (Whole (pos 1)) (omega arith) (lies_first section at [] bytes l) no_bytes (refl, omega (arith, ints), refl)

-- a code of one byte
pub code_there : (section : List ℕ) (at n : ℕ) → n < 128 → LiesAt section at (n ∷ []) → SpellsBetween (Uleb n) section at (at + 1)
code_there section at n small l = spells_there (Uleb n) section at (at + 1) (n ∷ []) refl l (uleb_byte n small)
