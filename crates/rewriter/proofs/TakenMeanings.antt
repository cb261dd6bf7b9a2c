-- The values of a column as they are written: its new column spells each, and each stands for the one that was read.
use Rattle.std.proofs.Common.{◌≡◌, ◌≤◌, ◌<◌, ◌+◌, ◌-◌, ◌∙◌, inl, inr, ℕ, List, Bool, true, false, leb, ltb, sym, ap, refl, subst, arith}
use Rattle.std.specs.Prelude.{ℤ, map}
use Rattle.std.specs.List.{Contains}
use Rattle.std.proofs.lemmas.Bool.{cases_Bool, cond-true, cond-false, and_from, and_parts, and_right, eq-eqb, ne_eqb, leb-true, ltb-true}
use Rattle.std.proofs.lemmas.List.Sums.{AllPass-from_list_all}
use Rattle.form_codec.specs.declared.form.Form.{Form}
use Rattle.form_codec.specs.declared.form.Form.TheVariants as form
use Rattle.form_codec.specs.declared.value.Value.{Value}
use Rattle.form_codec.specs.declared.value.Value.TheVariants as value
use Rattle.form_codec.specs.Forms.{Meaning, SpellsShape, SpellsValue, code_of, shape_of}
use Rattle.form_codec.specs.Forms.Meaning.{InUnit, InSection}
use Rattle.form_codec.specs.Values.{meant_in}
use Rattle.abbrev_tables.specs.declared.decl.Spec.{Spec}
use Rattle.entry_read.specs.declared.head.UnitHead.{UnitHead}
use Rattle.entry_read.specs.Units.{end_of}
use Rattle.unit_write.specs.Taken.{StandsFor}
use Rattle.unit_write.specs.inside.Puts.{shape_moves}
use Rattle.unit_write.proofs.ValueLaws.{shape_is, constant_stays}
use Rattle.written_files.specs.Uses.{names_inside, counted_inside, are_inside, taken_meanings}
use Rattle.rewriter.specs.inside.Taken.{is_taken, taken_value}
use Rattle.rewriter.proofs.ColumnLaws.{IsSpelledBy}
use Rattle.rewriter.proofs.MeaningsAmong.{contains_map}
use Rattle.rewriter.proofs.SizedValues.{number_held}

-- FORMS

-- only DW_FORM_ref_addr spells a reference that counts from the section's first byte
section_form : (f : Form) (name : ℕ) (c : ℤ) (n : ℕ) (bytes : List ℕ) → shape_moves (shape_of f name c) ≡ true → SpellsShape (shape_of f name c) (InSection n) bytes → code_of f ≡ code_of form.RefAddr
section_form form.Ref1 name c n bytes e p = absurd (cc (p.1))
section_form form.Ref2 name c n bytes e p = absurd (cc (p.1))
section_form form.Ref4 name c n bytes e p = absurd (cc (p.1))
section_form form.Ref8 name c n bytes e p = absurd (cc (p.1))
section_form form.RefUdata name c n bytes e p = absurd (cc (p.2))
section_form form.RefAddr name c n bytes e p = refl
section_form form.SecOffset name c n bytes e p = absurd (cc (p.1))
section_form form.Data1 name c n bytes e p = absurd (cc (constant_stays name, e))
section_form form.Data2 name c n bytes e p = absurd (cc (constant_stays name, e))
section_form form.Data4 name c n bytes e p = absurd (cc (constant_stays name, e))
section_form form.Data8 name c n bytes e p = absurd (cc (constant_stays name, e))
section_form f name c n bytes e p = absurd (cc (e))

addr_form : (name code : ℕ) (c : ℤ) (n : ℕ) (bytes : List ℕ) → SpellsValue name code c (InSection n) bytes → code ≡ code_of form.RefAddr
addr_form name code c n bytes s = sym s.known ∙ section_form s.form name c n bytes (sym (shape_is (shape_of s.form name c) (InSection n) bytes s.spelled)) s.spelled

-- whether a column is taken, by its two forms
is_taken_by : (old new : Spec) → old.form ≡ code_of form.RefAddr → new.form ≡ code_of form.RefUdata → is_taken old new ≡ true
is_taken_by old new was is = and_from _ _ (eq-eqb old.form (code_of form.RefAddr) was) (eq-eqb new.form (code_of form.RefUdata) is)

isnt_taken : (old new : Spec) → new.form ≡ code_of form.RefAddr → is_taken old new ≡ false
isnt_taken old new is = and_right _ _ (ne_eqb new.form (code_of form.RefUdata) (λ other. let no : code_of form.RefAddr ≡ code_of form.RefUdata = sym is ∙ other in omega arith))

-- A COLUMN

-- the value of a unit with this header stands for the one that is written in the new column, which spells that
pub record IsTakenIn (head : UnitHead) (section : List ℕ) (old new : Spec) (v : Value) : Type 0 where
  pub stands : StandsFor head v (taken_value head.at (is_taken old new) v)
  pub spelled : IsSpelledBy new (meant_in section (taken_value head.at (is_taken old new) v))

module _ (values : List (UnitHead × Meaning)) (head : UnitHead) (section : List ℕ) (old new : Spec) (column : (m : Meaning) → Contains (taken_meanings values) m → IsSpelledBy new m) where
  -- where all values are references to places in their own units they are counted from the first bytes of these
  counted_spelled : (m : Meaning) → Contains values (head, m) → are_inside values ≡ true → IsSpelledBy new (counted_inside head m)
  counted_spelled m among all =
      let counted : UnitHead × Meaning → Meaning = λ (v : UnitHead × Meaning). counted_inside v.0 v.1 in
      let is : taken_meanings values ≡ map counted values = cond-true {A = List Meaning} (are_inside values) (map counted values) (map (λ (v : UnitHead × Meaning). v.1) values) all in
      column (counted_inside head m) (subst (λ (ms : List Meaning). Contains ms (counted_inside head m)) (sym is) (contains_map counted values (head, m) among))

  names_its_unit : (m : Meaning) → Contains values (head, m) → are_inside values ≡ true → names_inside head m ≡ true
  names_its_unit m (k, inside, same) all =
      let passes = AllPass-from_list_all (λ (v : UnitHead × Meaning). names_inside v.0 v.1) values all k (head, m) inside in
      subst (λ (v : UnitHead × Meaning). names_inside v.0 v.1 ≡ true) same passes

  -- and else they are what they were
  plain_spelled : (m : Meaning) → Contains values (head, m) → are_inside values ≡ false → IsSpelledBy new m
  plain_spelled m among some =
      let plain : UnitHead × Meaning → Meaning = λ (v : UnitHead × Meaning). v.1 in
      let is : taken_meanings values ≡ map plain values = cond-false {A = List Meaning} (are_inside values) (map (λ (v : UnitHead × Meaning). counted_inside v.0 v.1) values) (map plain values) some in
      column m (subst (λ (ms : List Meaning). Contains ms m) (sym is) (contains_map plain values (head, m) among))

  -- as where one of them is no such reference
  not_all : (m : Meaning) → Contains values (head, m) → names_inside head m ≡ false → are_inside values ≡ false
  not_all m among outside =
      elim (cases_Bool (are_inside values)) [
        | inl all ↦ absurd (cc (names_its_unit m among all, outside))
        | inr some ↦ some
      ]

  reference_inside : (n : ℕ) → Contains values (head, InSection n) → old.form ≡ code_of form.RefAddr → are_inside values ≡ true → IsTakenIn head section old new (value.SectionRef n)
  reference_inside n among was all =
      let is : IsSpelledBy new (InUnit (n - head.at)) = counted_spelled (InSection n) among all in
      let taken : is_taken old new ≡ true = is_taken_by old new was (number_held new (InUnit (n - head.at)) is.1 refl is.0 is.2) in
      let bounds = and_parts (leb head.at n) (ltb n (end_of head)) (names_its_unit (InSection n) among all) in
      let from : head.at ≤ n = leb-true head.at n bounds.0 in
      let to : n < head.at + head.len = ltb-true n (end_of head) bounds.1 in
      let written : value.LocalRef (n - head.at) ≡ taken_value head.at (is_taken old new) (value.SectionRef n) = ap (λ (t : Bool). taken_value head.at t (value.SectionRef n)) (sym taken) in
      record {
        stands = inr (n - head.at, omega arith, omega arith, sym written);
        spelled = subst (λ (v : Value). IsSpelledBy new (meant_in section v)) written is;
      }

  reference_kept : (n : ℕ) → Contains values (head, InSection n) → are_inside values ≡ false → IsTakenIn head section old new (value.SectionRef n)
  reference_kept n among some =
      let is : IsSpelledBy new (InSection n) = plain_spelled (InSection n) among some in
      let taken : is_taken old new ≡ false = isnt_taken old new (addr_form new.name new.form new.constant n is.1 is.2) in
      let written : value.SectionRef n ≡ taken_value head.at (is_taken old new) (value.SectionRef n) = ap (λ (t : Bool). taken_value head.at t (value.SectionRef n)) (sym taken) in
      record { stands = inl (sym written); spelled = subst (λ (v : Value). IsSpelledBy new (meant_in section v)) written is }

  -- each value of the column that its old form spells is taken so
  pub taken_in : (v : Value) → Contains values (head, meant_in section v) → (bytes : List ℕ) → SpellsValue old.name old.form old.constant (meant_in section v) bytes → IsTakenIn head section old new v
  taken_in (value.SectionRef n) among bytes s =
      elim (cases_Bool (are_inside values)) [
        | inl all ↦ reference_inside n among (addr_form old.name old.form old.constant n bytes s) all
        | inr some ↦ reference_kept n among some
      ]
  taken_in v among bytes s = record { stands = refl; spelled = plain_spelled (meant_in section v) among (not_all (meant_in section v) among refl) }
