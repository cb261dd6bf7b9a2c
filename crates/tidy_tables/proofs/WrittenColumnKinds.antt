-- A form that is least for some values is least for others of their kinds. References, section offsets and expressions have one form each, in
-- which each of them takes as many bytes as another, or its bytes don't count.
use Rattle.std.proofs.Common.{◌≡◌, ◌≢◌, ◌∙◌, inl, inr, ℕ, List, [], ◌∷◌, length, sym, ap, refl, subst, arith}
use Rattle.std.specs.Prelude.{ℤ, pos}
use Rattle.std.specs.List.{AllZip}
use Rattle.dw_base.specs.declared.classes.Classes.{Classes}
use Rattle.form_codec.specs.declared.form.Form.TheVariants.{ImplicitConst, Udata, RefUdata, RefAddr, SecOffset, Exprloc}
use Rattle.form_codec.specs.Forms.{Meaning, SpellsValue, code_of, counted}
use Rattle.form_codec.specs.Forms.Meaning.{Expression, InUnit, InSection, SectionPlace}
use Rattle.form_codec.specs.Columns.{IsChoice, EntriesWithin, AreSpelled, IsLeftOut, IsLeastForm}
use Rattle.form_codec.proofs.FormLaws.{any_constant, in_form}
use Rattle.written_files.proofs.Forms.{written_form}

-- both are references of one kind, section offsets or expressions, or they are equal
abbrev pub IsKin : Meaning → Meaning → Type 0
IsKin (InUnit n) new = (m : ℕ) × (new ≡ InUnit m)
IsKin (InSection n) new = (m : ℕ) × (new ≡ InSection m)
IsKin (SectionPlace n) new = (m : ℕ) × (new ≡ SectionPlace m)
IsKin (Expression bytes) new = (others : List ℕ) × (new ≡ Expression others)
IsKin old new = new ≡ old

-- the other way round
pub kin_back : (old new : Meaning) → IsKin old new → IsKin new old
kin_back (InUnit n) new (m, e) = subst (λ (z : Meaning). IsKin z (InUnit n)) (sym e) (n, refl)
kin_back (InSection n) new (m, e) = subst (λ (z : Meaning). IsKin z (InSection n)) (sym e) (n, refl)
kin_back (SectionPlace n) new (m, e) = subst (λ (z : Meaning). IsKin z (SectionPlace n)) (sym e) (n, refl)
kin_back (Expression bytes) new (others, e) = subst (λ (z : Meaning). IsKin z (Expression bytes)) (sym e) (bytes, refl)
kin_back old new e = subst (λ (z : Meaning). IsKin z old) (sym e) refl

kins_back : (olds news : List Meaning) → AllZip IsKin olds news → AllZip IsKin news olds
kins_back [] [] kins = tt
kins_back [] (new ∷ news) kins = absurd kins
kins_back (old ∷ olds) [] kins = absurd kins
kins_back (old ∷ olds) (new ∷ news) (kin, kins) = (kin_back old new kin, kins_back olds news kins)

-- a form without a constant spells a value by the code alone
by_code : (name code other form : ℕ) (constant c : ℤ) (meaning : Meaning) (bytes : List ℕ) → code ≡ form → other ≡ form → form ≢ code_of ImplicitConst → SpellsValue name code constant meaning bytes → SpellsValue name other c meaning bytes
by_code name code other form constant c meaning bytes is also apart s =
    any_constant name other constant c meaning bytes (λ e. apart (sym also ∙ e)) (subst (λ (z : ℕ). SpellsValue name z constant meaning bytes) (is ∙ sym also) s)

-- DW_FORM_ref_addr and DW_FORM_sec_offset have four bytes
section_size : (name code : ℕ) (c : ℤ) (meaning : Meaning) (bytes : List ℕ) → code ≡ code_of RefAddr → SpellsValue name code c meaning bytes → length bytes ≡ 4
section_size name code c meaning bytes is s = (in_form name code RefAddr c meaning bytes (sym is) s).0

offset_size : (name code : ℕ) (c : ℤ) (meaning : Meaning) (bytes : List ℕ) → code ≡ code_of SecOffset → SpellsValue name code c meaning bytes → length bytes ≡ 4
offset_size name code c meaning bytes is s = (in_form name code SecOffset c meaning bytes (sym is) s).0

module _ (name code other : ℕ) (constant c : ℤ) (choice : IsChoice code) (also : IsChoice other) where
  kin_moves : (old new : Meaning) (a b : List ℕ) → IsKin old new → SpellsValue name code constant old a → SpellsValue name other c new b → (more : List ℕ) × SpellsValue name other c old more × (counted old (length more) ≡ counted new (length b))
  kin_moves (InUnit n) new a b (m, e) s t =
      let one : code ≡ code_of RefUdata = written_form name code constant (InUnit n) a choice s in
      let u : SpellsValue name other c (InUnit m) b = subst (λ (z : Meaning). SpellsValue name other c z b) e t in
      let two : other ≡ code_of RefUdata = written_form name other c (InUnit m) b also u in
      (a, by_code name code other (code_of RefUdata) constant c (InUnit n) a one two (λ is. absurd (omega (arith, is))) s, ap (λ (z : Meaning). counted z (length b)) (sym e))
  kin_moves (InSection n) new a b (m, e) s t =
      let one : code ≡ code_of RefAddr = written_form name code constant (InSection n) a choice s in
      let u : SpellsValue name other c (InSection m) b = subst (λ (z : Meaning). SpellsValue name other c z b) e t in
      let two : other ≡ code_of RefAddr = written_form name other c (InSection m) b also u in
      let size : length a ≡ length b = section_size name code constant (InSection n) a one s ∙ sym (section_size name other c (InSection m) b two u) in
      (a, by_code name code other (code_of RefAddr) constant c (InSection n) a one two (λ is. absurd (omega (arith, is))) s, size ∙ ap (λ (z : Meaning). counted z (length b)) (sym e))
  kin_moves (SectionPlace n) new a b (m, e) s t =
      let one : code ≡ code_of SecOffset = written_form name code constant (SectionPlace n) a choice s in
      let u : SpellsValue name other c (SectionPlace m) b = subst (λ (z : Meaning). SpellsValue name other c z b) e t in
      let two : other ≡ code_of SecOffset = written_form name other c (SectionPlace m) b also u in
      let size : length a ≡ length b = offset_size name code constant (SectionPlace n) a one s ∙ sym (offset_size name other c (SectionPlace m) b two u) in
      (a, by_code name code other (code_of SecOffset) constant c (SectionPlace n) a one two (λ is. absurd (omega (arith, is))) s, size ∙ ap (λ (z : Meaning). counted z (length b)) (sym e))
  kin_moves (Expression bytes) new a b (others, e) s t =
      let one : code ≡ code_of Exprloc = written_form name code constant (Expression bytes) a choice s in
      let u : SpellsValue name other c (Expression others) b = subst (λ (z : Meaning). SpellsValue name other c z b) e t in
      let two : other ≡ code_of Exprloc = written_form name other c (Expression others) b also u in
      (a, by_code name code other (code_of Exprloc) constant c (Expression bytes) a one two (λ is. absurd (omega (arith, is))) s, ap (λ (z : Meaning). counted z (length b)) (sym e))
  kin_moves old new a b e s t = (b, subst (λ (z : Meaning). SpellsValue name other c z b) e t, ap (λ (z : Meaning). counted z (length b)) (sym e))

  -- as many bytes are enough for the old values as for the new ones
  within_moves : (olds news : List Meaning) (n : ℕ) → AllZip IsKin olds news → AreSpelled name code constant olds → EntriesWithin name other c news n → EntriesWithin name other c olds n
  within_moves [] news n kins spelled within = tt
  within_moves (old ∷ olds) [] n kins spelled within = absurd kins
  within_moves (old ∷ olds) (new ∷ news) n (kin, kins) ((a, s), rest) (b, left, t, within, cost) =
      let (more, moved, same) = kin_moves old new a b kin s t in
      (more, left, moved, within_moves olds news left kins rest within, omega (arith, cost, same))

  -- and a form that spells the new values spells the old ones
  spelled_moves : (olds news : List Meaning) → AllZip IsKin olds news → AreSpelled name code constant olds → AreSpelled name other c news → AreSpelled name other c olds
  spelled_moves [] news kins spelled moved = tt
  spelled_moves (old ∷ olds) [] kins spelled moved = absurd kins
  spelled_moves (old ∷ olds) (new ∷ news) (kin, kins) ((a, s), rest) ((b, t), others) =
      let (more, here, same) = kin_moves old new a b kin s t in
      ((more, here), spelled_moves olds news kins rest others)

-- where so many bytes are enough for values, their form spells them
pub spelled_in : (name code : ℕ) (c : ℤ) (meanings : List Meaning) (n : ℕ) → EntriesWithin name code c meanings n → AreSpelled name code c meanings
spelled_in name code c [] n within = tt
spelled_in name code c (m ∷ ms) n (bytes, rest, s, within, cost) = ((bytes, s), spelled_in name code c ms rest within)

-- Classes leave out a form for some values where they do for others of their kinds: a form that spells the one, as DW_FORM_udata, spells the other.
left_out_for_kin : (classes : Classes) (name code other : ℕ) (constant : ℤ) (olds news : List Meaning) → IsChoice code → AllZip IsKin olds news → AreSpelled name code constant olds → IsLeftOut classes name other news → IsLeftOut classes name other olds
left_out_for_kin classes name code other constant olds news choice kins spelled (inl sized) = inl sized
left_out_for_kin classes name code other constant olds news choice kins spelled (inr (inl apart)) = inr (inl apart)
left_out_for_kin classes name code other constant olds news choice kins spelled (inr (inr signed)) = inr (inr (record {
  out = signed.out;
  form = signed.form;
  unsigned = spelled_moves name code (code_of Udata) constant (pos 0) choice (Udata, refl, refl) olds news kins spelled signed.unsigned;
}))

-- a form that is least for some values is least for others of their kinds that it spells
pub least_for_kin : (classes : Classes) (name : ℕ) (olds news : List Meaning) (code : ℕ) (constant : ℤ) → AllZip IsKin olds news → AreSpelled name code constant news → IsLeastForm classes name olds code constant → IsLeastForm classes name news code constant
least_for_kin classes name olds news code constant kins spelled is =
    let choice : IsChoice code = is.enough.choice in
    let old_spelled : AreSpelled name code constant olds = spelled_in name code constant olds is.enough.entries is.enough.within in
    record {
      bytes = is.bytes;
      enough = record {
        choice = choice;
        member = λ out. is.enough.member (left_out_for_kin classes name code code constant olds news choice kins old_spelled out);
        entries = is.enough.entries;
        within = within_moves name code code constant constant choice choice news olds is.enough.entries (kins_back olds news kins) spelled is.enough.within;
        cost = is.enough.cost;
      };
      least = λ other c n w. is.least other c n (record {
        choice = w.choice;
        member = λ out. w.member (left_out_for_kin classes name code other constant news olds choice (kins_back olds news kins) spelled out);
        entries = w.entries;
        within = within_moves name code other constant c choice w.choice olds news w.entries kins old_spelled w.within;
        cost = w.cost;
      });
    }
