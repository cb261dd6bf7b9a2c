-- Something can be written for each value of an entry in columns that are written and spell it.
use Rattle.std.proofs.Common.{◌≡◌, ◌<◌, ◌+◌, ◌∙◌, ℕ, suc, List, [], ◌∷◌, length, true, false, sym, ap, refl, subst, arith, inl, inr}
use Rattle.std.specs.Prelude.{ℤ}
use Rattle.std.proofs.lemmas.Bool.{cases_Bool}
use Rattle.form_codec.specs.declared.form.Form.{Form}
use Rattle.form_codec.specs.declared.form.Form.TheVariants as form
use Rattle.form_codec.specs.declared.value.Value.{Value}
use Rattle.form_codec.specs.Forms.{Meaning, SpellsShape, SpellsValue, code_of, shape_of, is_written}
use Rattle.form_codec.specs.Forms.Meaning.{Expression}
use Rattle.form_codec.specs.Columns.{IsChoice}
use Rattle.form_codec.specs.Values.{meant_in}
use Rattle.form_codec.proofs.Codes.{code_once}
use Rattle.abbrev_tables.specs.declared.decl.Spec.{Spec}
use Rattle.abbrev_tables.specs.Listings.{spec_at}
use Rattle.entry_arena.specs.Arena.{value_at}
use Rattle.unit_write.specs.Values.{is_moving, HasSize, HaveSize}
use Rattle.unit_write.specs.Sizes.{HoldsNumber, NumbersHaveSizes, ExpressionsHaveSizes, ShortestHaveSizes}
use Rattle.unit_write.specs.inside.Puts.{shape_moves}
use Rattle.unit_write.proofs.ValueLaws.{shape_is, constant_stays, expr_form}
use Rattle.rewriter.proofs.ShortestBytes.{shortest_bytes}
use Rattle.rewriter.proofs.ColumnLaws.{IsSpelledBy}

-- A form that is written and spells a reference or a section offset is the one in which it is written: of those that spell a reference
-- within a unit that is DW_FORM_ref_udata alone.
holds_number : (f : Form) (name : ℕ) (c : ℤ) (m : Meaning) (bytes : List ℕ) → shape_moves (shape_of f name c) ≡ true → is_written f ≡ true → SpellsShape (shape_of f name c) m bytes → HoldsNumber (code_of f) m
holds_number form.Ref1 name c m bytes moves written p = absurd (cc (written))
holds_number form.Ref2 name c m bytes moves written p = absurd (cc (written))
holds_number form.Ref4 name c m bytes moves written p = absurd (cc (written))
holds_number form.Ref8 name c m bytes moves written p = absurd (cc (written))
holds_number form.RefUdata name c m bytes moves written p = subst (HoldsNumber 21) (sym p.2) refl
holds_number form.RefAddr name c m bytes moves written p = subst (HoldsNumber 16) (sym p.1) refl
holds_number form.SecOffset name c m bytes moves written p = subst (HoldsNumber 23) (sym p.1) refl
holds_number form.Data1 name c m bytes moves written p = absurd (cc (constant_stays name, moves))
holds_number form.Data2 name c m bytes moves written p = absurd (cc (constant_stays name, moves))
holds_number form.Data4 name c m bytes moves written p = absurd (cc (constant_stays name, moves))
holds_number form.Data8 name c m bytes moves written p = absurd (cc (constant_stays name, moves))
holds_number f name c m bytes moves written p = absurd (cc (moves))

-- so a column whose form can be chosen, and which spells such a value, has that form
pub number_held : (column : Spec) (m : Meaning) (bytes : List ℕ) → is_moving m ≡ true → IsChoice column.form → SpellsValue column.name column.form column.constant m bytes → HoldsNumber column.form m
number_held column m bytes moves choice s =
    let shape : shape_moves (shape_of s.form column.name column.constant) ≡ true = sym (shape_is (shape_of s.form column.name column.constant) m bytes s.spelled) ∙ moves in
    let written : is_written s.form ≡ true = ap is_written (code_once s.form choice.0 (s.known ∙ sym choice.1)) ∙ choice.2 in
    subst (λ (z : ℕ). HoldsNumber z m) s.known (holds_number s.form column.name column.constant m bytes shape written s.spelled)

module _ (numbers : NumbersHaveSizes) (expressions : ExpressionsHaveSizes) (others : ShortestHaveSizes) where
  -- an expression of so many bytes can be written, and so can each value that stays
  stays_sized : (column : Spec) (m : Meaning) (len : ℕ) (bytes : List ℕ) → is_moving m ≡ false → SpellsValue column.name column.form column.constant m bytes → (size : ℕ) × HasSize column m len size
  stays_sized column (Expression made) len bytes stays s = expressions column made len (expr_form column.name column.form column.constant made bytes s)
  stays_sized column m len bytes stays s =
      let few = shortest_bytes column.name column.form column.constant m bytes s in
      (length few.0, others column m len few.0 bytes stays (λ none. none) s few.1)

  -- a value that a column spells can be written in it, where it has a form that is written
  value_sized : (column : Spec) (m : Meaning) (len : ℕ) (bytes : List ℕ) → IsChoice column.form → SpellsValue column.name column.form column.constant m bytes → (size : ℕ) × HasSize column m len size
  value_sized column m len bytes choice s =
      elim (cases_Bool (is_moving m)) [
        | inl moves ↦ numbers column m len (number_held column m bytes moves choice s)
        | inr stays ↦ stays_sized column m len bytes stays s
      ]

  -- and so can those of an entry, in columns that spell them
  pub values_sized : (section : List ℕ) (columns : List Spec) (values : List Value) (lens : List ℕ) → length values ≡ length columns → length lens ≡ length values → ((j : ℕ) → j < length values → IsSpelledBy (spec_at columns j) (meant_in section (value_at values j))) → (size : ℕ) × HaveSize section columns values lens size
  values_sized section [] [] [] same each spelled = (0, refl)
  values_sized section [] [] (l ∷ ls) same each spelled = absurd (omega arith)
  values_sized section [] (v ∷ vs) lens same each spelled = absurd (omega arith)
  values_sized section (c ∷ cs) [] lens same each spelled = absurd (omega arith)
  values_sized section (c ∷ cs) (v ∷ vs) [] same each spelled = absurd (omega arith)
  values_sized section (c ∷ cs) (v ∷ vs) (l ∷ ls) same each spelled =
      let (choice, bytes, s) : IsSpelledBy c (meant_in section v) = spelled 0 (omega arith) in
      let one = value_sized c (meant_in section v) l bytes choice s in
      let rest = values_sized section cs vs ls (omega arith) (omega arith) (λ j a. spelled (suc j) (omega arith)) in
      (one.0 + rest.0, (one.0, rest.0, one.1, rest.1, refl))
