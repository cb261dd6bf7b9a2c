-- The class of a column has a member.
use Rattle.std.proofs.Common.{◌≡◌, ◌≢◌, ◌<◌, ◌+◌, ◌^◌, ℕ, List, [], ◌∷◌, length, true, sym, refl, subst, arith, inl, inr}
use Rattle.std.specs.Prelude.{ℤ, pos, negsuc, ◌⊎◌, FitsSigned}
use Rattle.std.specs.Int.{w64}
use Rattle.dw_base.specs.declared.classes.Classes.{Classes}
use Rattle.spelled.specs.Spelled.{AreBytes}
use Rattle.leb_codec.specs.Leb.{SpellsUnsigned, least_unsigned_len, least_signed_len}
use Rattle.leb_codec.proofs.SpellingLaws.{unsigned_spellings, signed_spellings}
use Rattle.fixed_width.specs.Numbers.{number}
use Rattle.fixed_width.proofs.Numbers.{number_small}
use Rattle.form_codec.specs.declared.form.Form.{Form}
use Rattle.form_codec.specs.declared.form.Form.TheVariants as form
use Rattle.form_codec.specs.declared.form.Role.TheVariants as role
use Rattle.form_codec.specs.declared.form.Shape.TheVariants.{Number}
use Rattle.form_codec.specs.declared.form.Width.{Width}
use Rattle.form_codec.specs.declared.form.Width.TheVariants.{One, Two, Three, Four, Eight}
use Rattle.form_codec.specs.Forms.{Meaning, SpellsShape, SpellsValue, code_of, shape_of, size_of, in_role, is_written, counted}
use Rattle.form_codec.specs.Forms.Meaning.{Whole}
use Rattle.form_codec.specs.Columns.{EntriesWithin, AreSpelled, constant_bytes, ColumnWithin, ClassesHaveMembers}
use Rattle.form_codec.proofs.FormLaws.{in_form, constant_spelled}
use Rattle.form_codec.proofs.WriteLaws.{below_eight}

-- a member of the class
abbrev HasMember : Classes → ℕ → List Meaning → Type 0
HasMember classes name meanings = (code : ℕ) × (c : ℤ) × (n : ℕ) × ColumnWithin classes name code c meanings n

-- values that a form spells take some bytes in it
entries_of : (name code : ℕ) (c : ℤ) (meanings : List Meaning) → AreSpelled name code c meanings → (n : ℕ) × EntriesWithin name code c meanings n
entries_of name code c [] s = (0, tt)
entries_of name code c (m ∷ ms) s =
    let rest = entries_of name code c ms s.1 in
    (counted m (length s.0.0) + rest.0, (s.0.0, rest.0, s.0.1, rest.1, omega arith))

-- values are written in the form, and no classes leave it out but for sdata
record IsKept (f : Form) : Type 0 where
  written : is_written f ≡ true
  unsized : code_of f < 41
  taken : code_of f ≢ 33

member : (classes : Classes) (name : ℕ) (f : Form) (c : ℤ) (meanings : List Meaning) → IsKept f → (code_of f ≡ 13 → AreSpelled name 15 (pos 0) meanings → ⊥) → AreSpelled name (code_of f) c meanings → HasMember classes name meanings
member classes name f c meanings kept signed s =
    let e = entries_of name (code_of f) c meanings s in (
      code_of f,
      c,
      e.0 + constant_bytes (code_of f) c,
      record {
        choice = (f, refl, kept.written);
        member = λ out. elim out [
          | inl sized ↦ absurd (omega (arith, sized.from, kept.unsized))
          | inr more ↦ elim more [
            | inl apart ↦ kept.taken apart.form
            | inr idle ↦ signed idle.form idle.unsigned
          ]
        ];
        entries = e.0;
        within = e.1;
        cost = omega arith;
      },
    )

-- values that a form spells are spelled by another that spells each of them
respelled : (name code other : ℕ) (c d : ℤ) (meanings : List Meaning) → ((m : Meaning) (bytes : List ℕ) → SpellsValue name code c m bytes → (written : List ℕ) × SpellsValue name other d m written) → AreSpelled name code c meanings → AreSpelled name other d meanings
respelled name code other c d [] each s = tt
respelled name code other c d (m ∷ ms) each s = (each m s.0.0 s.0.1, respelled name code other c d ms each s.1)

uleb_bytes : (n : ℕ) → (bytes : List ℕ) × SpellsUnsigned bytes n
uleb_bytes n =
    let b = unsigned_spellings.each_len n (least_unsigned_len n) (omega arith) in
    (b.0, b.1)

unsigned_bytes : (name : ℕ) (m : Meaning) (n : ℕ) → n < 2 ^ 64 → m ≡ Whole (pos n) → (written : List ℕ) × SpellsValue name 15 (pos 0) m written
unsigned_bytes name m n fits is =
    let b = uleb_bytes n in
    (b.0, record { form = form.Udata; known = refl; small = b.1.0.byte; spelled = (n, (b.1, fits), is) })

signed_bytes : (name : ℕ) (m : Meaning) (v : ℤ) → FitsSigned w64 v → m ≡ Whole v → (written : List ℕ) × SpellsValue name 13 (pos 0) m written
signed_bytes name m v fits is =
    let b = signed_spellings.each_len v (least_signed_len v) (omega arith) in
    (b.0, record { form = form.Sdata; known = refl; small = b.1.0.byte; spelled = (v, (b.1, fits), is) })

index_bytes : (name : ℕ) (m : Meaning) (n : ℕ) → n < 2 ^ 64 → m ≡ in_role role.AddrIndex Eight n → (written : List ℕ) × SpellsValue name 27 (pos 0) m written
index_bytes name m n fits is =
    let b = uleb_bytes n in
    (b.0, record { form = form.Addrx; known = refl; small = b.1.0.byte; spelled = (n, (b.1, fits), is) })

place_bytes : (name : ℕ) (m : Meaning) (n : ℕ) → n < 2 ^ 64 → m ≡ in_role role.LocalRef Eight n → (written : List ℕ) × SpellsValue name 21 (pos 0) m written
place_bytes name m n fits is =
    let b = uleb_bytes n in
    (b.0, record { form = form.RefUdata; known = refl; small = b.1.0.byte; spelled = (n, (b.1, fits), is) })

-- a number of fixed size fits 64 bits
fixed_fits_64 : (w : Width) (bytes : List ℕ) → AreBytes bytes → number (size_of w) bytes < 2 ^ 64
fixed_fits_64 w bytes small = below_eight w (number (size_of w) bytes) (number_small (size_of w) bytes small)

-- indices of fixed size are spelled by addrx, and references of fixed size by ref_udata
indices : (name : ℕ) (f : Form) (c : ℤ) (w : Width) (meanings : List Meaning) → shape_of f name c ≡ Number w role.AddrIndex → AreSpelled name (code_of f) c meanings → AreSpelled name 27 (pos 0) meanings
indices name f c w meanings shape = respelled name (code_of f) 27 c (pos 0) meanings (λ m bytes s.
    let p = subst (λ z. SpellsShape z m bytes) shape (in_form name (code_of f) f c m bytes refl s) in
    index_bytes name m (number (size_of w) bytes) (fixed_fits_64 w bytes s.small) p.1)

places : (name : ℕ) (f : Form) (c : ℤ) (w : Width) (meanings : List Meaning) → shape_of f name c ≡ Number w role.LocalRef → AreSpelled name (code_of f) c meanings → AreSpelled name 21 (pos 0) meanings
places name f c w meanings shape = respelled name (code_of f) 21 c (pos 0) meanings (λ m bytes s.
    let p = subst (λ z. SpellsShape z m bytes) shape (in_form name (code_of f) f c m bytes refl s) in
    place_bytes name m (number (size_of w) bytes) (fixed_fits_64 w bytes s.small) p.1)

-- a value that is a number below 0 isn't spelled by udata
never_unsigned : (name n : ℕ) (m : Meaning) (bytes : List ℕ) → m ≡ Whole (negsuc n) → SpellsValue name 15 (pos 0) m bytes → ⊥
never_unsigned name n m bytes is s =
    let p = in_form name 15 form.Udata (pos 0) m bytes refl s in
    absurd (cc (is, p.2))

-- a constant of 64 signed bits from 0 on has 64 bits
from_0_fits : (n : ℕ) → FitsSigned w64 (pos n) → n < 2 ^ 64
from_0_fits n fits = omega arith

one_signed : (name : ℕ) (m : Meaning) (v : ℤ) → FitsSigned w64 v → m ≡ Whole v → ((written : List ℕ) × SpellsValue name 15 (pos 0) m written) ⊎ ((written : List ℕ) → SpellsValue name 15 (pos 0) m written → ⊥)
one_signed name m (pos n) fits is = inl (unsigned_bytes name m n (from_0_fits n fits) is)
one_signed name m (negsuc n) fits is = inr (λ written s. never_unsigned name n m written is s)

-- udata spells all values that sdata spells, or not all
signed_for_nothing : (name : ℕ) (c : ℤ) (meanings : List Meaning) → AreSpelled name 13 c meanings → AreSpelled name 15 (pos 0) meanings ⊎ (AreSpelled name 15 (pos 0) meanings → ⊥)
signed_for_nothing name c [] s = inl tt
signed_for_nothing name c (m ∷ ms) s =
    let p = in_form name 13 form.Sdata c m s.0.0 refl s.0.1 in
    elim (one_signed name m p.0 p.1.1 p.2) [
      | inl first ↦ elim (signed_for_nothing name c ms s.1) [
        | inl rest ↦ inl (first, rest)
        | inr never ↦ inr (λ u. never u.1)
      ]
      | inr never ↦ inr (λ u. never u.0.0 u.0.1)
    ]

by_udata : (classes : Classes) (name : ℕ) (meanings : List Meaning) → AreSpelled name 15 (pos 0) meanings → HasMember classes name meanings
by_udata classes name meanings s = member classes name form.Udata (pos 0) meanings (record { written = refl; unsized = omega arith; taken = λ e. absurd (omega arith) }) (λ e. absurd (omega arith)) s

by_sdata : (classes : Classes) (name : ℕ) (c : ℤ) (meanings : List Meaning) → (AreSpelled name 15 (pos 0) meanings → ⊥) → AreSpelled name 13 c meanings → HasMember classes name meanings
by_sdata classes name c meanings never s = member classes name form.Sdata c meanings (record { written = refl; unsized = omega arith; taken = λ e. absurd (omega arith) }) (λ e. never) s

by_addrx : (classes : Classes) (name : ℕ) (meanings : List Meaning) → AreSpelled name 27 (pos 0) meanings → HasMember classes name meanings
by_addrx classes name meanings s = member classes name form.Addrx (pos 0) meanings (record { written = refl; unsized = omega arith; taken = λ e. absurd (omega arith) }) (λ e. absurd (omega arith)) s

by_ref_udata : (classes : Classes) (name : ℕ) (meanings : List Meaning) → AreSpelled name 21 (pos 0) meanings → HasMember classes name meanings
by_ref_udata classes name meanings s = member classes name form.RefUdata (pos 0) meanings (record { written = refl; unsized = omega arith; taken = λ e. absurd (omega arith) }) (λ e. absurd (omega arith)) s

-- a constant of the declaration is spelled in the entries too: by udata from 0 on, and else by sdata
constant_member : (classes : Classes) (name : ℕ) (c : ℤ) (m : Meaning) (ms : List Meaning) → AreSpelled name 33 c (m ∷ ms) → HasMember classes name (m ∷ ms)
constant_member classes name (pos n) m ms s =
    by_udata classes name (m ∷ ms) (respelled name 33 15 (pos n) (pos 0) (m ∷ ms) (λ m bytes s. let h = constant_spelled name (pos n) m bytes s in unsigned_bytes name m n (from_0_fits n h.1) h.2) s)
constant_member classes name (negsuc n) m ms s =
    let first = constant_spelled name (negsuc n) m s.0.0 s.0.1 in
    by_sdata classes name (pos 0) (m ∷ ms) (λ u. never_unsigned name n m u.0.0 first.2 u.0.1) (respelled name 33 13 (negsuc n) (pos 0) (m ∷ ms) (λ m bytes s. let h = constant_spelled name (negsuc n) m bytes s in signed_bytes name m (negsuc n) h.1 h.2) s)

-- some form that classes have spells the values: mostly the form that spells them itself
form_member : (classes : Classes) (name : ℕ) (f : Form) (c : ℤ) (m : Meaning) (ms : List Meaning) → AreSpelled name (code_of f) c (m ∷ ms) → HasMember classes name (m ∷ ms)
form_member classes name form.Addrx1 c m ms s = by_addrx classes name (m ∷ ms) (indices name form.Addrx1 c One (m ∷ ms) refl s)
form_member classes name form.Addrx2 c m ms s = by_addrx classes name (m ∷ ms) (indices name form.Addrx2 c Two (m ∷ ms) refl s)
form_member classes name form.Addrx3 c m ms s = by_addrx classes name (m ∷ ms) (indices name form.Addrx3 c Three (m ∷ ms) refl s)
form_member classes name form.Addrx4 c m ms s = by_addrx classes name (m ∷ ms) (indices name form.Addrx4 c Four (m ∷ ms) refl s)
form_member classes name form.Ref1 c m ms s = by_ref_udata classes name (m ∷ ms) (places name form.Ref1 c One (m ∷ ms) refl s)
form_member classes name form.Ref2 c m ms s = by_ref_udata classes name (m ∷ ms) (places name form.Ref2 c Two (m ∷ ms) refl s)
form_member classes name form.Ref4 c m ms s = by_ref_udata classes name (m ∷ ms) (places name form.Ref4 c Four (m ∷ ms) refl s)
form_member classes name form.Ref8 c m ms s = by_ref_udata classes name (m ∷ ms) (places name form.Ref8 c Eight (m ∷ ms) refl s)
form_member classes name form.ImplicitConst c m ms s = constant_member classes name c m ms s
form_member classes name form.Sdata c m ms s = elim (signed_for_nothing name c (m ∷ ms) s) [
  | inl all ↦ by_udata classes name (m ∷ ms) all
  | inr never ↦ by_sdata classes name c (m ∷ ms) never s
]
form_member classes name f c m ms s = member classes name f c (m ∷ ms) (record { written = refl; unsized = omega arith; taken = λ e. absurd (omega arith) }) (λ e. absurd (omega arith)) s

pub some_form : ClassesHaveMembers
some_form classes name code constant [] s = by_udata classes name [] tt
some_form classes name code constant (m ∷ ms) s =
    let v = s.0.1 in
    form_member classes name v.form constant m ms (subst (λ (z : ℕ). AreSpelled name z constant (m ∷ ms)) (sym v.known) s)
