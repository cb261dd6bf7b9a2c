-- The number in a value, and the number of a meaning in a role.
use Rattle.std.proofs.Common.{◌≡◌, ◌≤◌, ◌<◌, ◌-◌, ◌*◌, ◌^◌, ℕ, zero, suc, List, leb, true, ◌∙◌, sym, ap, refl, subst, arith}
use Rattle.std.proofs.lemmas.Bool.{cond_both, le-leb}
use Rattle.std.specs.Prelude.{pos, if◌then◌else◌}
use Rattle.form_codec.specs.declared.form.Role.{Role}
use Rattle.form_codec.specs.declared.form.Role.TheVariants as role
use Rattle.form_codec.specs.declared.form.Width.{Width}
use Rattle.form_codec.specs.declared.value.Value.{Value}
use Rattle.form_codec.specs.declared.value.Value.TheVariants as value
use Rattle.form_codec.specs.Forms.{Meaning, size_of, data_of, in_role}
use Rattle.form_codec.specs.Forms.Meaning.{Address, AddressNumber, Whole, Bits, SixteenBytes, IsSet, Data, Expression, InUnit, InSection, TypeSignature, InSup, Text, StringPlace, LineStringPlace, SupStringPlace, StringNumber, SectionPlace, LocationList, RangeList}
use Rattle.form_codec.specs.Values.{meant_in}
use Rattle.form_codec.specs.inside.Written.{HasNumber}

one_number : (meaning : Meaning) (a b : ℕ) → HasNumber meaning a → HasNumber meaning b → a ≡ b
one_number (Address n) a b p q = sym p ∙ q
one_number (AddressNumber n) a b p q = sym p ∙ q
one_number (Whole v) a b p q = cc (p, q)
one_number (Bits size n) a b p q = sym p ∙ q
one_number (IsSet set) a b p q = sym p ∙ q
one_number (InUnit n) a b p q = sym p ∙ q
one_number (InSection n) a b p q = sym p ∙ q
one_number (TypeSignature n) a b p q = sym p ∙ q
one_number (InSup size n) a b p q = sym p ∙ q
one_number (StringPlace n) a b p q = sym p ∙ q
one_number (LineStringPlace n) a b p q = sym p ∙ q
one_number (SupStringPlace n) a b p q = sym p ∙ q
one_number (StringNumber n) a b p q = sym p ∙ q
one_number (SectionPlace n) a b p q = sym p ∙ q
one_number (LocationList n) a b p q = sym p ∙ q
one_number (RangeList n) a b p q = sym p ∙ q
one_number (SixteenBytes bytes) a b p q = absurd p
one_number (Data bytes) a b p q = absurd p
one_number (Expression bytes) a b p q = absurd p
one_number (Text bytes) a b p q = absurd p

-- a meaning in a role has a least number
pub record IsLeastNumber (r : Role) (w : Width) (m n : ℕ) : Type 0 where
  pub held : HasNumber (in_role r w m) n
  pub few : n ≤ m
  pub same : in_role r w n ≡ in_role r w m

plain : (r : Role) (w : Width) (m : ℕ) → HasNumber (in_role r w m) m → IsLeastNumber r w m m
plain r w m h = record { held = h; few = omega arith; same = refl }

data_number : (size m : ℕ) → HasNumber (data_of size m) m
data_number size m = cond_both (leb (2 ^ (8 * size - 1)) m) (Bits size m) (Whole (pos m)) (λ z. HasNumber z m) (λ e. refl) (λ e. refl)

pub least_number : (r : Role) (w : Width) (m : ℕ) → (n : ℕ) × IsLeastNumber r w m n
least_number role.Address w m = (m, plain role.Address w m refl)
least_number role.AddrIndex w m = (m, plain role.AddrIndex w m refl)
least_number role.Data w m = (m, plain role.Data w m (data_number (size_of w) m))
least_number role.Unsigned w m = (m, plain role.Unsigned w m refl)
least_number role.Truth w zero = (0, record { held = refl; few = omega arith; same = refl })
least_number role.Truth w (suc m) =
    let e : leb 1 (suc m) ≡ true = le-leb 1 (suc m) (omega arith) in
    (1, record { held = ap (λ b. if b then 1 else 0) e; few = omega arith; same = ap (λ b. IsSet b) (sym e) })
least_number role.LocalRef w m = (m, plain role.LocalRef w m refl)
least_number role.SectionRef w m = (m, plain role.SectionRef w m refl)
least_number role.Signature w m = (m, plain role.Signature w m refl)
least_number role.SupRef w m = (m, plain role.SupRef w m refl)
least_number role.StrOffset w m = (m, plain role.StrOffset w m refl)
least_number role.LineStrOffset w m = (m, plain role.LineStrOffset w m refl)
least_number role.SupStr w m = (m, plain role.SupStr w m refl)
least_number role.StrIndex w m = (m, plain role.StrIndex w m refl)
least_number role.Offset w m = (m, plain role.Offset w m refl)
least_number role.LocIndex w m = (m, plain role.LocIndex w m refl)
least_number role.RangeIndex w m = (m, plain role.RangeIndex w m refl)

-- a value with a number, from its meaning
abbrev unmeant : Meaning → Value
unmeant (Address n) = value.Addr n
unmeant (AddressNumber n) = value.AddrIndex n
unmeant (Whole v) = value.Int v
unmeant (Bits size n) = value.Fixed size n
unmeant (IsSet set) = value.Flag set
unmeant (InUnit n) = value.LocalRef n
unmeant (InSection n) = value.SectionRef n
unmeant (TypeSignature n) = value.Signature n
unmeant (InSup size n) = value.SupRef size n
unmeant (StringPlace n) = value.StrOffset n
unmeant (LineStringPlace n) = value.LineStrOffset n
unmeant (SupStringPlace n) = value.SupStr n
unmeant (StringNumber n) = value.StrIndex n
unmeant (SectionPlace n) = value.Offset n
unmeant (LocationList n) = value.LocIndex n
unmeant (RangeList n) = value.RangeIndex n
unmeant meaning = value.Addr 0

unmeant_back : (section : List ℕ) (v : Value) (n : ℕ) → HasNumber (meant_in section v) n → unmeant (meant_in section v) ≡ v
unmeant_back section (value.Wide16 span) n h = absurd h
unmeant_back section (value.Block span) n h = absurd h
unmeant_back section (value.Expr span) n h = absurd h
unmeant_back section (value.Text span) n h = absurd h
unmeant_back section v n h = refl

-- values with numbers that mean the same are the same
pub same_value : (section : List ℕ) (a b : Value) (n : ℕ) → HasNumber (meant_in section a) n → meant_in section a ≡ meant_in section b → a ≡ b
same_value section a b n h e =
    sym (unmeant_back section a n h) ∙ ap unmeant e ∙ unmeant_back section b n (subst (λ (z : Meaning). HasNumber z n) e h)

-- a value with a number, against the meanings of a role
pub number_least : (section : List ℕ) (v : Value) (r : Role) (w : Width) (n m : ℕ) → HasNumber (meant_in section v) n → meant_in section v ≡ in_role r w m → n ≤ m
number_least section v r w n m h e =
    let l = least_number r w m in
    let same : n ≡ l.0 = one_number (in_role r w m) n l.0 (subst (λ (z : Meaning). HasNumber z n) e h) l.1.held in
    omega (arith, l.1.few)

pub number_means : (section : List ℕ) (v : Value) (r : Role) (w : Width) (n m : ℕ) → HasNumber (meant_in section v) n → meant_in section v ≡ in_role r w m → meant_in section v ≡ in_role r w n
number_means section v r w n m h e =
    let l = least_number r w m in
    let same : n ≡ l.0 = one_number (in_role r w m) n l.0 (subst (λ (z : Meaning). HasNumber z n) e h) l.1.held in
    e ∙ sym l.1.same ∙ ap (in_role r w) (sym same)

pub no_number : (section : List ℕ) (v : Value) (r : Role) (w : Width) (m : ℕ) → ((k : ℕ) → k < 2 ^ 64 → HasNumber (meant_in section v) k → ⊥) → m < 2 ^ 64 → meant_in section v ≡ in_role r w m → ⊥
no_number section v r w m none small e =
    let l = least_number r w m in
    none l.0 (omega (arith, l.1.few)) (subst (λ (z : Meaning). HasNumber z l.0) (sym e) l.1.held)
